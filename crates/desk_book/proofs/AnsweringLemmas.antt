-- What is answered to an entry, from what the register keeps.
use Rattle.std.proofs.Common.{◌≡◌, inl, inr, ℕ, zero, suc, ◌+◌, ◌<◌, ◌≤◌, Bool, true, false, List, [], ◌∷◌, length, Option, Some, None, option_map, refl, sym, ◌∙◌, subst, arith}
use Rattle.std.specs.Prelude.{slice_get, is_some, nat_le, Result, Ok, Err, IfOk, OnOk}
use Rattle.std.proofs.lemmas.Bool.{cases_Bool}
use Rattle.desk_rules.specs.declared.history.entry.Entry.{Entry}
use Rattle.desk_rules.specs.declared.answers.reply.Kept.{Kept}
use Rattle.desk_rules.specs.declared.answers.reply.Reply.{Reply}
use Rattle.desk_rules.specs.declared.answers.verdict.Verdict.TheVariants.{Accept, Repeat, Refuse}
use Rattle.desk_rules.specs.declared.answers.verdict.Refusal.TheVariants.{Full}
use Rattle.desk_rules.specs.History.{as_asked, entry_at, sender_of, reference_of, number_of_key}
use Rattle.desk_codes.specs.Currency.{letters_of}
use Rattle.desk_rules.specs.Balances.{issued, paid_in, paid_out, redeemed}
use Rattle.desk_rules.proofs.Conservation.{cash_adds_up}
use Rattle.desk_rules.specs.Reply.{IsFirstReply, untyped_reply}
use Rattle.desk_rules.specs.Books.{Books}
use Rattle.desk_rules.specs.Verdict.{AsksTheSame, Check, IsVerdict, IsVerdictAt, checks_of, first_failing, is_from_stranger}
use Rattle.desk_rules.specs.Facts.{kind_of}
use Rattle.desk_rules.proofs.HistoryLemmas.{entry_at-known, slice_get-some}
use Rattle.desk_rules.specs.WellFormed.{AreWellFormed, IsWellFormed}
use Rattle.desk_engine.specs.Applied.{Keeps}
use Rattle.desk_book.proofs.FormedLemmas.{formed_after}
use Rattle.desk_rules.specs.Content.{Content}
use Rattle.desk_register.specs.Looked.{reply_at}
use Rattle.desk_register.specs.declared.register.Stage.{Stage}
use Rattle.desk_register.specs.declared.register.Stage.TheVariants.{Idle, Failed}
use Rattle.desk_register.specs.View.{View}
use Rattle.desk_engine.proofs.AcceptingLemmas.{entries_within}
use Rattle.desk_engine.proofs.HeldLemmas.{held_cash_adds_up, held_is}
use Rattle.desk_engine.proofs.TablesLemmas.{length_is}
use Rattle.desk_book.specs.declared.fault.Fault.{Fault}
use Rattle.desk_book.specs.declared.answers.total.CashTotal.{CashTotal}
use Rattle.desk_book.specs.declared.answers.total.SecurityTotal.{SecurityTotal}
use Rattle.desk_book.specs.Answered.{IsToldSums, says_closed}
use Rattle.desk_engine.specs.Ready.{IsReady, KeepsFormed}
use Rattle.desk_book.specs.Answering.{Answers, Decides, Ends, IsPut}
use Rattle.desk_book.specs.declared.requests.task.Task.{Task}
use Rattle.desk_book.specs.declared.requests.task.Task.TheVariants.{Decide}
use Rattle.desk_book.specs.Sums.{sums_text}
use Rattle.desk_book.specs.Totals.{AreCashTotals, AreTotals, IsCashSum, IsCashTotal, IsPaidIn, IsSum, IsTotal}

-- what is kept is kept in another view of the same content
pub keeps_at : (v0 v1 : View) (books : Books) → v1.content ≡ v0.content → v1.room ≡ v0.room → Keeps v0.room books v0.content → Keeps v1.room books v1.content
keeps_at v0 v1 books same room keeps =
    let P : Content → Type 0 = λ c. Keeps v0.room books c in
    let Q : ℕ → Type 0 = λ k. Keeps k books v1.content in
    subst Q (sym room) (subst P (sym same) keeps)

-- how many entries an answer shows
pub count_shown : (v0 : View) (books : Books) (count limit shown : ℕ) → Keeps v0.room books v0.content → count ≡ length v0.content.register → limit ≡ v0.room → (count ≤ limit → shown ≡ count)
    → shown ≡ length books.history
count_shown v0 books count limit shown keeps is_count is_limit least =
    let within = entries_within v0.room books.history keeps.accepted in
    let size = length_is v0.content books.history keeps.tables.history in
    let is = least (omega arith) in
    omega arith

-- The first reply of an entry.

pub kept_reply : (limit : ℕ) (books : Books) (content : Content) (n : ℕ) (reply : Reply) → Keeps limit books content → Some reply ≡ reply_at content n → IsFirstReply books.history n reply
kept_reply limit books content zero reply keeps is = absurd (cc)
kept_reply limit books content (suc m) reply keeps is = at (slice_get content.register m) refl
  where
    at : (o : Option Kept) → slice_get content.register m ≡ o → IsFirstReply books.history (suc m) reply
    at None none = absurd (let there : reply_at content (suc m) ≡ None = rw none refl in let clash : Some reply ≡ None = is ∙ there in cc)
    at (Some kept) some =
        let there : reply_at content (suc m) ≡ Some kept.reply = rw some refl in
        let both : Some reply ≡ Some kept.reply = is ∙ there in
        let same : reply ≡ kept.reply = cc in
        let P : Reply → Type 0 = λ r. IsFirstReply books.history (suc m) r in
        let first : IsFirstReply books.history (m + 1) kept.reply = keeps.tables.replies.each m kept some in
        let Q : ℕ → Type 0 = λ k. IsFirstReply books.history k kept.reply in
        subst P (sym same) (subst Q (omega arith) first)

none_some : {A : Type 0} (x : A) → None ≡ Some x → ⊥
none_some x e = cc

-- an entry that asks for the same is there
pub asked_there : (o : Option Entry) (e : Entry) → option_map as_asked o ≡ Some (as_asked e) → (x : Entry) × (o ≡ Some x)
asked_there None e same = absurd (none_some (as_asked e) same)
asked_there (Some x) e same = (x, refl)

entry_kept : (limit : ℕ) (books : Books) (content : Content) (n : ℕ) (e : Entry) → Keeps limit books content → entry_at books.history n ≡ Some e → None ≡ reply_at content n → ⊥
entry_kept limit books content zero e keeps at is = absurd (let known = entry_at-known books.history 0 e at in let lt : 0 < 0 = known.0 in omega arith)
entry_kept limit books content (suc m) e keeps at is =
    let known = entry_at-known books.history (suc m) e at in
    let le : suc m ≤ length books.history = known.1 in
    let size = length_is content books.history keeps.tables.history in
    let some = slice_get-some content.register m (omega arith) in
    let there : reply_at content (suc m) ≡ Some some.0.reply = rw some.1 refl in
    absurd (none_some _ (is ∙ there))

pub reply_known : (limit : ℕ) (books : Books) (content : Content) (n : ℕ) (e : Entry) → Keeps limit books content → AsksTheSame books.history n e → None ≡ reply_at content n → ⊥
reply_known limit books content n e keeps same is = let there = asked_there (entry_at books.history n) e same in entry_kept limit books content n there.0 keeps there.1 is

-- A repeat asks for the same as the entry that it names.

no_repeat : (checks : List Check) (full : Bool) (n : ℕ) → Repeat n ≡ first_failing checks full → ⊥
no_repeat [] full n is = elim (cases_Bool full) [
  | inl most ↦ let f : first_failing [] full ≡ Refuse Full = rw most refl in let g : Repeat n ≡ Refuse Full = is ∙ f in absurd (cc)
  | inr less ↦ let f : first_failing [] full ≡ Accept = rw less refl in let g : Repeat n ≡ Accept = is ∙ f in absurd (cc)
]
no_repeat (c ∷ checks) full n is = elim (cases_Bool c.fails) [
  | inl bad ↦ let f : first_failing (c ∷ checks) full ≡ Refuse c.refusal = rw bad refl in let g : Repeat n ≡ Refuse c.refusal = is ∙ f in absurd (cc)
  | inr good ↦ let f : first_failing (c ∷ checks) full ≡ first_failing checks full = rw good refl in no_repeat checks full n (is ∙ f)
]

repeat_at : (limit : ℕ) (books : Books) (e : Entry) (key : Option ℕ) (n : ℕ) → IsVerdictAt limit books e key (Repeat n) → AsksTheSame books.history n e
repeat_at limit books e None n v = absurd (no_repeat (checks_of books e) (nat_le limit (length books.history)) n v)
repeat_at limit books e (Some k) n v = (let P : ℕ → Type 0 = λ z. AsksTheSame books.history z e in subst P (sym v.0) v.1)

pub repeat_known : (limit : ℕ) (books : Books) (e : Entry) (n : ℕ) → IsVerdict limit books e (Repeat n) → AsksTheSame books.history n e
repeat_known limit books e n v = elim (cases_Bool (is_from_stranger books.history (sender_of e))) [
  | inl stranger ↦ let w : Repeat n ≡ Refuse _ = (rw stranger at v) in absurd (cc)
  | inr known ↦
      let w : IsVerdictAt limit books e (number_of_key books.history (sender_of e) (reference_of e)) (Repeat n) = (rw known at v) in
      repeat_at limit books e (number_of_key books.history (sender_of e) (reference_of e)) n w
]

-- What was decided.

pub decides_put : (limit : ℕ) (books : Books) (e : Entry) (content : Content) (r : Result Reply Fault) → IsVerdict limit books e Accept → IfOk r (λ reply. IsPut limit books e reply content)
    → IfOk r (λ reply. Decides limit books e reply content)
decides_put limit books e content (Ok reply) verdict p = record {
  after = p.after;
  decided = record {
    verdict = Accept;
    is_verdict = verdict;
    grows = record { history = p.longer; are = p.keeps.tables.are };
    replied = (record { history = p.longer; are = p.keeps.tables.are }, p.replied);
  };
  keeps = p.keeps;
}
decides_put limit books e content (Err fault) verdict p = p

pub decides_repeat : (limit : ℕ) (books : Books) (e : Entry) (old new : Content) (n : ℕ) (r : Result Reply Fault) → IsVerdict limit books e (Repeat n) → IfOk r (λ reply. IsFirstReply books.history n reply)
    → OnOk r (new ≡ old) → Keeps limit books old → IfOk r (λ reply. Decides limit books e reply new)
decides_repeat limit books e old new n (Ok reply) verdict first same keeps = record {
  after = books;
  decided = record { verdict = Repeat n; is_verdict = verdict; grows = refl; replied = (repeat_known limit books e n verdict, first) };
  keeps = (let P : Content → Type 0 = λ c. Keeps limit books c in subst P (sym same) keeps);
}
decides_repeat limit books e old new n (Err fault) verdict first same keeps = first

-- The desk's totals.

total_told : (limit : ℕ) (books : Books) (content : Content) (total : SecurityTotal) → Keeps limit books content → IsTotal content total → IsSum books total
total_told limit books content total keeps is =
    let history = keeps.tables.history in
    let P : List Entry → Type 0 = λ h. is_some (kind_of h total.isin) ≡ true in
    let Q : List Entry → Type 0 = λ h. redeemed h total.isin + total.outstanding ≡ issued h total.isin in
    let all = held_is limit books content total.isin keeps in
    record {
      known = subst P history is.known;
      held = (let h = is.held in omega arith);
      outstanding = subst Q history is.outstanding;
    }

cash_told : (limit : ℕ) (books : Books) (content : Content) (total : CashTotal) → Keeps limit books content → IsCashTotal content total → IsCashSum books total
cash_told limit books content total keeps is =
    let history = keeps.tables.history in
    let are = keeps.tables.are in
    let P : List Entry → Type 0 = λ h. IsPaidIn h (letters_of total.ccy) in
    let Q : List Entry → Type 0 = λ h. paid_out h total.ccy + total.net ≡ paid_in h total.ccy in
    let all = cash_adds_up limit books.history keeps.accepted books.pairs books.settled are.pairing are.settlement total.ccy in
    let sum = held_cash_adds_up limit books content total.ccy keeps in
    record {
      known = subst P history is.known;
      held = (let h = is.held in omega arith);
      net = subst Q history is.net;
    }

pub sums_told : (limit : ℕ) (books : Books) (content : Content) (cash : List CashTotal) (securities : List SecurityTotal) → Keeps limit books content
    → AreCashTotals content cash → AreTotals content securities → IsToldSums books (untyped_reply 200 (sums_text cash securities)) books
sums_told limit books content cash securities keeps are_cash are =
    let history = keeps.tables.history in
    record {
      cash = cash;
      are_cash = record {
        each = λ total c. cash_told limit books content total keeps (are_cash.each total c);
        all = λ letters paid. are_cash.all letters (let P : List Entry → Type 0 = λ h. IsPaidIn h letters in subst P (sym history) paid);
        in_order = are_cash.in_order;
      };
      securities = securities;
      are = record {
        each = λ total c. total_told limit books content total keeps (are.each total c);
        all = λ isin known. are.all isin (let P : List Entry → Type 0 = λ h. is_some (kind_of h isin) ≡ true in subst P (sym history) known);
        in_order = are.in_order;
      };
      replied = refl;
      stays = refl;
    }

-- The same over the views of a register, after it was decided.

pub not_failed : (stage : Stage) → stage ≡ Idle → stage ≡ Failed → ⊥
not_failed stage idle failed = (let clash : Idle ≡ Failed = sym idle ∙ failed in absurd (cc))

pub decides_put_at : (v0 v1 v2 : View) (books : Books) (e : Entry) (r : Result Reply Fault) → v1.content ≡ v0.content → v1.room ≡ v0.room → Keeps v0.room books v0.content → IsVerdict v0.room books e Accept
    → (Keeps v1.room books v1.content → IfOk r (λ reply. IsPut v1.room books e reply v2.content)) → IfOk r (λ reply. Decides v0.room books e reply v2.content)
decides_put_at v0 v1 v2 books e r same room keeps verdict puts =
    let P : ℕ → Type 0 = λ k. IfOk r (λ reply. IsPut k books e reply v2.content) in
    decides_put v0.room books e v2.content r verdict (subst P room (puts (keeps_at v0 v1 books same room keeps)))

pub decides_repeat_at : (v0 v1 v2 : View) (books : Books) (e : Entry) (n : ℕ) (r : Result Reply Fault) → v1.content ≡ v0.content → v1.room ≡ v0.room → Keeps v0.room books v0.content
    → IsVerdict v0.room books e (Repeat n) → (Keeps v1.room books v1.content → AsksTheSame books.history n e → IfOk r (λ reply. IsFirstReply books.history n reply)) → OnOk r (v2.content ≡ v1.content)
    → IfOk r (λ reply. Decides v0.room books e reply v2.content)
decides_repeat_at v0 v1 v2 books e n r same room keeps verdict repeats stays =
    let P : Content → Type 0 = λ c. OnOk r (v2.content ≡ c) in
    decides_repeat v0.room books e v0.content v2.content n r verdict (repeats (keeps_at v0 v1 books same room keeps) (repeat_known v0.room books e n verdict)) (subst P same stays) keeps

pub answers_decided : (limit : ℕ) (books : Books) (e : Entry) (content : Content) (r : Result Reply Fault) → IsWellFormed e → AreWellFormed books.history → IfOk r (λ reply. Decides limit books e reply content)
    → IfOk r (λ reply. Answers limit books (Decide e) reply content)
answers_decided limit books e content (Ok reply) new formed d = record {
  after = d.after;
  answer = d.decided;
  keeps = record { tables = d.keeps; formed = formed_after d.decided.verdict books d.after e new formed d.decided.grows };
}
answers_decided limit books e content (Err fault) new formed d = d

-- An open desk is ready again after an answer, unless that says that it is closed.
kept_after : (task : Task) (r : Result Reply Fault) (old new : View) → says_closed r ≡ false → new.is_honest → Ends r old new → (books : Books) → KeepsFormed old.room books old.content
    → IfOk r (λ reply. Answers old.room books task reply new.content) → (after : Books) × KeepsFormed new.room after new.content
kept_after task (Ok reply) old new is honest ends books keeps a =
    let Q : ℕ → Type 0 = λ k. KeepsFormed k a.after new.content in
    (a.after, subst Q (sym ends.later.room) a.keeps)
kept_after task (Err fault) old new is honest ends books keeps a =
    let P : Content → Type 0 = λ c. KeepsFormed old.room books c in
    let Q : ℕ → Type 0 = λ k. KeepsFormed k books new.content in
    (books, subst Q (sym ends.later.room) (subst P (sym (ends.same is honest)) keeps))

pub ready_after : (task : Task) (r : Result Reply Fault) (old new : View) (is_closed : Bool) → is_closed ≡ says_closed r → Ends r old new → IsReady false old
    → ((books : Books) → new.is_honest → KeepsFormed old.room books old.content → IfOk r (λ reply. Answers old.room books task reply new.content)) → IsReady is_closed new
ready_after task r old new is_closed is ends ready answers = record {
  stage = λ ready_yet. ends.stage (sym is ∙ ready_yet);
  sure = λ ready_yet honest. ends.sure (sym is ∙ ready_yet) honest;
  device = λ ready_yet honest. ends.device (sym is ∙ ready_yet) honest;
  books = λ ready_yet honest.
      let kept = ready.books refl (ends.later.honest honest) in
      kept_after task r old new (sym is ∙ ready_yet) honest ends kept.0 kept.1 (answers kept.0 honest kept.1);
}
