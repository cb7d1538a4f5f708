-- Every accepted history has tables.
use Rattle.std.proofs.Common.{◌≡◌, ℕ, zero, suc, ◌+◌, ◌-◌, List, [], ◌∷◌, map, take, refl, sym, ◌∙◌, ap, subst, arith, slice_get, Option, Some, None}
use Rattle.desk_rules.specs.declared.history.entry.Entry.{Entry}
use Rattle.desk_rules.specs.declared.answers.reply.Kept.{Kept}
use Rattle.desk_rules.specs.declared.answers.reply.Reply.{Reply}
use Rattle.desk_rules.specs.History.{entry_at}
use Rattle.desk_rules.specs.Balances.{credits, debits, cash_credits, cash_debits}
use Rattle.desk_rules.specs.Books.{Books, AreBooks}
use Rattle.desk_rules.specs.Standing.{standing_of}
use Rattle.desk_rules.specs.Verdict.{WasAccepted}
use Rattle.desk_rules.specs.Reply.{untyped_reply, reply_to, IsFirstReply}
use Rattle.desk_rules.specs.Sent.{sent_of}
use Rattle.desk_rules.specs.Content.{Content}
use Rattle.desk_rules.specs.Tables.{AreTables}
use Rattle.desk_rules.proofs.Existence.{books_exist}
use Rattle.desk_rules.proofs.NonNegative.{never_negative}
use Rattle.desk_rules.proofs.OneContent.{one_books}

-- the books of the entries up to a number
books_to : List Entry → ℕ → Books
books_to h n = let all = books_exist (take n h) in record { history = take n h; pairs = all.0; settled = all.1 }

books_to-history : (h : List Entry) (n : ℕ) → (books_to h n).history ≡ take n h
unfolding books_to
books_to-history h n = refl

books_to-are : (h : List Entry) (n : ℕ) → AreBooks (books_to h n)
unfolding books_to
books_to-are h n = let all = books_exist (take n h) in record { pairing = all.2.pairing; settlement = all.2.settlement }

abbrev reply_of : Books → Option Entry → Reply
reply_of books None = untyped_reply 200 []
reply_of books (Some entry) = reply_to books entry

-- the first reply of the entry of a number
first_reply : List Entry → ℕ → Reply
first_reply h n = reply_of (books_to h n) (entry_at h n)

first_is_first : (h : List Entry) (n : ℕ) → IsFirstReply h n (first_reply h n)
unfolding first_reply
first_is_first h n = record {
  is = λ books entry front are at.
      let same : books_to h n ≡ books = one_books (books_to h n) books (books_to-are h n) are (books_to-history h n ∙ sym front) in
      ap (reply_of (books_to h n)) at ∙ ap (λ b. reply_to b entry) same;
}

-- entries with their first replies, from the number n + 1 on
kept_from : List Entry → ℕ → List Entry → List Kept
kept_from h n [] = []
kept_from h n (entry ∷ entries) = record { entry = entry; reply = first_reply h (n + 1) } ∷ kept_from h (n + 1) entries

kept-entries : (h : List Entry) (n : ℕ) (entries : List Entry) → map (λ (k : Kept). k.entry) (kept_from h n entries) ≡ entries
unfolding kept_from
kept-entries h n [] = refl
kept-entries h n (entry ∷ entries) = ap (λ es. entry ∷ es) (kept-entries h (n + 1) entries)

kept-reply : (h : List Entry) (n : ℕ) (entries : List Entry) (k : ℕ) (kept : Kept) → slice_get (kept_from h n entries) k ≡ Some kept → kept.reply ≡ first_reply h (n + k + 1)
unfolding kept_from
kept-reply h n [] k kept e = absurd (cc)
kept-reply h n (entry ∷ entries) zero kept e =
    let here : record { entry = entry; reply = first_reply h (n + 1) } ≡ kept = some_kept (record { entry = entry; reply = first_reply h (n + 1) }) kept e in
    let number : n + 1 ≡ n + 0 + 1 = omega arith in
    sym (ap (λ (x : Kept). x.reply) here) ∙ ap (first_reply h) number
  where
    some_kept : (a b : Kept) → Some a ≡ Some b → a ≡ b
    some_kept a b same = cc
kept-reply h n (entry ∷ entries) (suc k) kept e =
    let number : n + 1 + k + 1 ≡ n + suc k + 1 = omega arith in
    kept-reply h (n + 1) entries k kept e ∙ ap (first_reply h) number

pub tables_exist : (limit : ℕ) (books : Books) → AreBooks books → WasAccepted limit books.history → (content : Content) × AreTables books content
tables_exist limit books are accepted =
    let h = books.history in
    let never = never_negative limit h books.pairs books.settled accepted are.pairing are.settlement in
    let content : Content = record {
      register = kept_from h 0 h;
      standing = standing_of books;
      position = λ account isin. credits h books.settled account isin - debits h books.settled account isin;
      cash = λ bic ccy. cash_credits h books.settled bic ccy - cash_debits h books.settled bic ccy;
      sent = sent_of books;
    } in (
      content,
      record {
        history = kept-entries h 0 h;
        are = are;
        replies = record {
          each = λ n kept e.
              let number : 0 + n + 1 ≡ n + 1 = omega arith in
              let reply : kept.reply ≡ first_reply h (n + 1) = kept-reply h 0 h n kept e ∙ ap (first_reply h) number in
              subst (IsFirstReply h (n + 1)) (sym reply) (first_is_first h (n + 1));
        };
        standings = record { each = λ n. refl };
        positions = λ account isin. let fits = never.now.positions account isin in omega arith;
        cash = λ bic ccy. let fits = never.now.cash bic ccy in omega arith;
        sent = refl;
      },
    )
