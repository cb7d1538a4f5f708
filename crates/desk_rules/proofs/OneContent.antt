-- The tables of one history are the same in every part.
use Rattle.std.proofs.Common.{◌≡◌, ℕ, zero, suc, ◌+◌, List, [], ◌∷◌, map, take, refl, sym, ◌∙◌, ap, subst, arith, slice_get, Some}
use Rattle.desk_rules.specs.declared.history.entry.Entry.{Entry}
use Rattle.desk_rules.specs.declared.answers.reply.Kept.{Kept}
use Rattle.desk_rules.specs.Balances.{credits, debits, cash_credits, cash_debits}
use Rattle.desk_rules.specs.declared.answers.reply.Reply.{Reply}
use Rattle.desk_rules.specs.History.{entry_at}
use Rattle.desk_rules.specs.Reply.{IsFirstReply}
use Rattle.desk_rules.specs.Content.{Content, IsSameContent, history_of}
use Rattle.desk_rules.specs.Tables.{AreTables}
use Rattle.desk_rules.specs.Pairing.{IsPairing}
use Rattle.desk_rules.specs.Standing.{standing_of}
use Rattle.desk_rules.specs.Settlement.{IsSettlement}
use Rattle.desk_rules.specs.Sent.{sent_of}
use Rattle.desk_rules.specs.Books.{Books, AreBooks}
use Rattle.desk_rules.proofs.PairingLemmas.{one_pairing}
use Rattle.desk_rules.proofs.PairingLaws.{settlement_unique}
use Rattle.desk_rules.proofs.Existence.{books_exist}
use Rattle.desk_rules.proofs.SentFronts.{books_from, same_books}

-- a history has one pairing and one settlement
pub one_books : (a b : Books) → AreBooks a → AreBooks b → a.history ≡ b.history → a ≡ b
unfolding books_from
one_books a b x y e =
    let pairing = subst (λ h. IsPairing h a.pairs) e x.pairing in
    let pairs : a.pairs ≡ b.pairs = one_pairing b.history a.pairs b.pairs pairing y.pairing in
    let settlement = subst (λ ps. IsSettlement b.history ps a.settled) pairs (subst (λ h. IsSettlement h a.pairs a.settled) e x.settlement) in
    same_books a.history b.history a.pairs b.pairs a.settled b.settled e pairs (settlement_unique b.history b.pairs a.settled b.settled y.pairing settlement y.settlement)

-- Entries with equal first replies are the same.

kept_from : Entry → Reply → Kept
kept_from entry reply = record { entry = entry; reply = reply }

joined : (e f : Entry) (r q : Reply) → e ≡ f → r ≡ q → kept_from e r ≡ kept_from f q
joined e f r q a b = cc

one_kept : (x y : Kept) → x.entry ≡ y.entry → x.reply ≡ y.reply → x ≡ y
unfolding kept_from
one_kept x y e r = joined x.entry y.entry x.reply y.reply e r

abbrev entry_of : Kept → Entry
entry_of kept = kept.entry

same_kept : (xs ys : List Kept) → map entry_of xs ≡ map entry_of ys → ((n : ℕ) (x y : Kept) → slice_get xs n ≡ Some x → slice_get ys n ≡ Some y → x.reply ≡ y.reply) → xs ≡ ys
same_kept [] [] e replies = refl
same_kept [] (y ∷ ys) e replies = absurd (cc)
same_kept (x ∷ xs) [] e replies = absurd (cc)
same_kept (x ∷ xs) (y ∷ ys) e replies =
    let first : x.entry ≡ y.entry = let h = e in cc in
    let rest : map entry_of xs ≡ map entry_of ys = let h = e in cc in
    ap (λ z. z ∷ xs) (one_kept x y first (replies 0 x y refl refl)) ∙ ap (λ z. y ∷ z) (same_kept xs ys rest (λ n a b i j. replies (suc n) a b i j))

entry_kept : (xs : List Kept) (n : ℕ) (x : Kept) → slice_get xs n ≡ Some x → slice_get (map entry_of xs) n ≡ Some x.entry
entry_kept [] n x e = absurd (cc)
entry_kept (y ∷ xs) zero x e = let same : y ≡ x = cc in ap (λ (k : Kept). Some k.entry) same
entry_kept (y ∷ xs) (suc n) x e = entry_kept xs n x e

some_entry : (a b : Entry) → Some a ≡ Some b → a ≡ b
some_entry a b e = cc

-- the first reply of an entry is one
one_reply : (h : List Entry) (n : ℕ) (e : Entry) (r q : Reply) → entry_at h (n + 1) ≡ Some e → IsFirstReply h (n + 1) r → IsFirstReply h (n + 1) q → r ≡ q
one_reply h n e r q at a b =
    let all = books_exist (take (n + 1) h) in
    let books : Books = record { history = take (n + 1) h; pairs = all.0; settled = all.1 } in
    let are : AreBooks books = record { pairing = all.2.pairing; settlement = all.2.settlement } in
    a.is books e refl are at ∙ sym (b.is books e refl are at)

same_register : (x y : Books) (a b : Content) → AreTables x a → AreTables y b → history_of a ≡ history_of b → a.register ≡ b.register
same_register x y a b s t e = same_kept a.register b.register e (λ n k l i j.
    let after : n + 1 ≡ suc n = omega arith in
    let here : slice_get (history_of a) n ≡ Some k.entry = entry_kept a.register n k i in
    let at : entry_at (history_of a) (n + 1) ≡ Some k.entry = ap (entry_at (history_of a)) after ∙ here in
    let first = subst (λ h. IsFirstReply h (n + 1) k.reply) (sym s.history) (s.replies.each n k i) in
    let second = subst (λ h. IsFirstReply h (n + 1) l.reply) (sym t.history ∙ sym e) (t.replies.each n l j) in
    one_reply (history_of a) n k.entry k.reply l.reply at first second)

pub one_content : (x y : Books) (a b : Content) → AreTables x a → AreTables y b → history_of a ≡ history_of b → IsSameContent a b
one_content x y a b s t e =
    let history : x.history ≡ y.history = sym s.history ∙ e ∙ t.history in
    let books = one_books x y s.are t.are history in record {
      same_register = same_register x y a b s t e;
      same_standing = λ n. s.standings.each n ∙ ap (λ (bs : Books). standing_of bs n) books ∙ sym (t.standings.each n);
      same_position = λ account isin.
          let gone = ap (λ (bs : Books). debits bs.history bs.settled account isin) books in
          let come = ap (λ (bs : Books). credits bs.history bs.settled account isin) books in
          let first = s.positions account isin in
          let second = t.positions account isin in
          omega (arith, gone, come, first, second);
      same_cash = λ bic ccy.
          let gone = ap (λ (bs : Books). cash_debits bs.history bs.settled bic ccy) books in
          let come = ap (λ (bs : Books). cash_credits bs.history bs.settled bic ccy) books in
          let first = s.cash bic ccy in
          let second = t.cash bic ccy in
          omega (arith, gone, come, first, second);
      same_sent = s.sent ∙ ap sent_of books ∙ sym t.sent;
    }
