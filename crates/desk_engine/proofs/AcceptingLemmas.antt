-- What an accepted entry leaves behind.
use Rattle.std.proofs.Common.{◌≡◌, inl, inr, ℕ, zero, suc, ◌+◌, ◌<◌, ◌≤◌, ◌==◌, Bool, true, false, not, ◌&&◌, List, [], ◌∷◌, ◌++◌, length, take, Contains, Option, Some, None, refl, ap, sym, ◌∙◌, subst, arith, length-append}
use Rattle.std.specs.Prelude.{slice_get, count_by, option_and_then}
use Rattle.std.proofs.lemmas.Bool.{cases_Bool, cases_lt, cases_eq, both_ways}
use Rattle.std.proofs.lemmas.Bool.Decides.{nat_tests}
use Rattle.std.proofs.lemmas.List.Sums.{length-filter}
use Rattle.desk_rules.specs.declared.history.entry.Entry.{Entry}
use Rattle.desk_rules.specs.declared.history.entry.RunRule.{RunRule}
use Rattle.desk_rules.specs.declared.history.entry.Entry.TheVariants.{Participant, Account, Security, Issue, Redeem, PayIn, PayOut, Instruct, Cancel, Run}
use Rattle.desk_rules.specs.declared.history.entry.Instructed.{Instructed}
use Rattle.desk_rules.specs.declared.history.pair.Pair.{Pair}
use Rattle.desk_rules.specs.declared.answers.reply.Kept.{Kept}
use Rattle.desk_rules.specs.declared.answers.reply.Reply.{Reply}
use Rattle.desk_rules.specs.declared.history.standing.State.{State}
use Rattle.desk_rules.specs.declared.history.standing.State.TheVariants.{Unmatched, Matched}
use Rattle.desk_msg.specs.declared.writing.status.Reason.TheVariants.{Future}
use Rattle.desk_msg.specs.declared.instruction.Instruction.{Instruction}
use Rattle.desk_rules.specs.declared.history.standing.Standing.{Standing}
use Rattle.desk_engine.specs.declared.applied.Applied.{Applied}
use Rattle.desk_engine.specs.declared.cancelling.CallsOff.{CallsOff}
use Rattle.desk_engine.specs.declared.cancelling.CallsOff.TheVariants.{Alone, Both, Nothing}
use Rattle.desk_engine.specs.Cancelling.{called_off, off_by, state_then}
use Rattle.desk_engine.proofs.CancelLemmas.{asked_by, cancelled_named}
use Rattle.desk_msg.specs.declared.instruction.CancelOrder.{CancelOrder}
use Rattle.desk_register.specs.Looked.{kept_at}
use Rattle.desk_rules.specs.declared.answers.verdict.Verdict.TheVariants.{Accept}
use Rattle.desk_rules.specs.History.{entry_at, instruction_at, instructed, run_day}
use Rattle.desk_rules.specs.Pairing.{IsPairing, IsFree}
use Rattle.desk_rules.specs.Settlement.{passes_of, is_due, settled_count}
use Rattle.desk_rules.specs.Reply.{IsFirstReply, reply_to, waiting_count, is_settled_pair}
use Rattle.desk_rules.specs.Books.{Books, AreBooks}
use Rattle.desk_rules.specs.Verdict.{IsVerdict, named_by}
use Rattle.desk_rules.proofs.Decided.{In, In-from_Contains, Contains-from_In, filter-none}
use Rattle.desk_rules.proofs.HistoryLemmas.{entry_at-front, entry_at-end, slice_get-known, slice_get-front, slice_get-end}
use Rattle.desk_rules.proofs.SettlementLemmas.{due_facts}
use Rattle.desk_rules.proofs.SettlementGrowth.{by_none}
use Rattle.desk_rules.specs.Content.{Content, history_of}
use Rattle.desk_register.specs.Changes.{appended, first_standing}
use Rattle.desk_rules.specs.Pairing.{mate_in}
use Rattle.desk_rules.specs.Stands.{StandsAt, StandsSo}
use Rattle.desk_rules.specs.Tables.{HasReplies}
use Rattle.desk_engine.specs.Tables.{Tables, Grown, IsAccepted, is_booking, mated}
use Rattle.desk_engine.proofs.KeepsLemmas.{tables_of, are_tables_of}
use Rattle.desk_engine.specs.Pass.{CanRun, RanTo, IsPassed}
use Rattle.std.specs.Prelude.{Err}
use Rattle.desk_register.specs.declared.register.Fault.{Fault}
use Rattle.desk_register.specs.declared.register.Fault.TheVariants.{Memory}
use Rattle.desk_register.specs.declared.register.Stage.TheVariants.{Idle, Begun, Failed}
use Rattle.desk_register.specs.View.{View, IsLater, IsRead, Stays, fallen}
use Rattle.desk_register.proofs.ViewLemmas.{blames_memory, later_then, same_blame, stays_then}
use Rattle.desk_engine.specs.Steps.{IsStep}
use Rattle.desk_engine.specs.Applied.{HasPasses, Keeps, IsMateOf, IsNamed, IsApplied, CanApply, HasApplied}
use Rattle.desk_engine.proofs.AppendLemmas.{accepted_new}
pub use Rattle.desk_engine.proofs.AppendLemmas.{entries_within}
use Rattle.desk_engine.proofs.TablesLemmas.{one_books, length_is, pairs_known, accepted_in}
use Rattle.desk_engine.proofs.FinishLemmas.{tables_after_run}

-- What is no run settles nothing, and no pair is due in it.

count_none : {X : Type 0} (p : X → Bool) (xs : List X) → ((x : X) → In xs x → p x ≡ false) → count_by p xs ≡ 0
count_none p xs none = sym (length-filter p xs) ∙ ap length (filter-none p xs none)

not_due : (h : List Entry) (n : ℕ) (e : Entry) (p : Pair) → entry_at h n ≡ Some e → run_day e ≡ None → is_due h n p ≡ false
not_due h n e p at no_run = elim (cases_Bool (is_due h n p)) [
  | inr out ↦ out
  | inl due ↦ let f = due_facts h n p due in absurd (by_none run_day (entry_at h n) e _ at no_run f.by)
]

pub settles_none : (books : Books) (n : ℕ) (e : Entry) → AreBooks books → entry_at books.history n ≡ Some e → run_day e ≡ None → settled_count books.settled n ≡ 0
settles_none books n e are at no_run = count_none (λ s. s.run == n) books.settled (λ s i. elim (cases_eq s.run n) [
  | inr other ↦ (let test : s.run == n ≡ false = grind (arith, nat_tests) in test)
  | inl here ↦
      let settles = (are.settlement.exact s).0 (Contains-from_In books.settled s i) in
      let at_run : entry_at books.history s.run ≡ Some e = ap (entry_at books.history) here ∙ at in
      absurd (both_ways _ (not_due books.history s.run e s.pair at_run no_run) settles.due)
])

and_none : (a b : Bool) → a ≡ false → (a && b) ≡ false
and_none a b is = rw is refl

pub waits_none : (books : Books) (n : ℕ) (e : Entry) → entry_at books.history n ≡ Some e → run_day e ≡ None → waiting_count books n ≡ 0
waits_none books n e at no_run =
    count_none (λ p. is_due books.history n p && not (is_settled_pair books.settled p)) books.pairs (λ p i. and_none (is_due books.history n p) (not (is_settled_pair books.settled p)) (not_due books.history n e p at no_run))

-- What is no instruction is in no pair.
pub not_paired : (h : List Entry) (ps : List Pair) (n : ℕ) → IsPairing h ps → instruction_at h n ≡ None → IsFree ps n
not_paired h ps n is none = λ p c.
    let mate = (is.exact p).0 c in
    let o = mate.candidate.opposite in (
      λ (q : p.earlier ≡ n). (let at : Some o.first ≡ None = sym o.is_first ∙ ap (λ k. instruction_at h k) q ∙ none in absurd (cc)),
      λ (q : p.later ≡ n). (let at : Some o.second ≡ None = sym o.is_second ∙ ap (λ k. instruction_at h k) q ∙ none in absurd (cc)),
    )

-- The replies that were given.

first_reply_stays : (h : List Entry) (e : Entry) (n : ℕ) (reply : Reply) → n ≤ length h → IsFirstReply h n reply → IsFirstReply (h ++ e ∷ []) n reply
first_reply_stays h e n reply le first = record {
  is = λ books entry front are at.
      let same : take n (h ++ e ∷ []) ≡ take n h = take_front h (e ∷ []) n le in
      first.is books entry (front ∙ same) are (sym (entry_at-front h (e ∷ []) n le) ∙ at);
}
  where
    take_front : {X : Type 0} (xs ys : List X) (k : ℕ) → k ≤ length xs → take k (xs ++ ys) ≡ take k xs
    take_front xs ys zero le = refl
    take_front [] ys (suc k) le = absurd (omega arith)
    take_front (x ∷ xs) ys (suc k) le = ap (λ z. x ∷ z) (take_front xs ys k (omega arith))

take_whole : {X : Type 0} (xs : List X) (k : ℕ) → k ≡ length xs → take k xs ≡ xs
take_whole [] zero le = refl
take_whole [] (suc k) le = absurd (omega arith)
take_whole (x ∷ xs) zero le = absurd (omega arith)
take_whole (x ∷ xs) (suc k) le = ap (λ z. x ∷ z) (take_whole xs k (omega arith))

last_reply : (after : Books) (e : Entry) (n : ℕ) (reply : Reply) → AreBooks after → n ≡ length after.history → entry_at after.history n ≡ Some e → reply ≡ reply_to after e
    → IsFirstReply after.history n reply
last_reply after e n reply are at here is = record {
  is = λ books entry front others there.
      let whole : books.history ≡ after.history = front ∙ take_whole after.history n at in
      let one : after ≡ books = one_books after books (sym whole) are others in
      let both : Some e ≡ Some entry = sym here ∙ there in
      let same : e ≡ entry = cc in
      let P : Books → Type 0 = λ b. reply ≡ reply_to b e in
      let Q : Entry → Type 0 = λ x. reply ≡ reply_to books x in
      subst Q same (subst P one is);
}

-- the replies with one more
replies_more : (books after : Books) (old new : Content) (e : Entry) (reply : Reply) → length old.register ≡ length books.history → HasReplies books old → after.history ≡ books.history ++ e ∷ [] → AreBooks after
    → new.register ≡ old.register ++ record { entry = e; reply = reply } ∷ [] → reply ≡ reply_to after e → HasReplies after new
replies_more books after old new e reply number replies longer are more is = record {
  each = λ n kept at.
      let h = books.history in
      let here : length (h ++ e ∷ []) ≡ length h + 1 = length-append h (e ∷ []) in
      let this : Kept = record { entry = e; reply = reply } in
      let at_more : slice_get (old.register ++ this ∷ []) n ≡ Some kept = ap (λ z. slice_get z n) (sym more) ∙ at in
      let within = slice_get-known (old.register ++ this ∷ []) n kept at_more in
      let size : length (old.register ++ this ∷ []) ≡ length old.register + 1 = length-append old.register (this ∷ []) in
      elim (cases_lt n (length old.register)) [
        | inl lt ↦
            let first = replies.each n kept (sym (slice_get-front old.register (this ∷ []) n lt) ∙ at_more) in
            let P : List Entry → Type 0 = λ z. IsFirstReply z (n + 1) kept.reply in
            subst P (sym longer) (first_reply_stays h e (n + 1) kept.reply (omega arith) first)
        | inr ge ↦
            let last : n ≡ length old.register = omega arith in
            let both : Some this ≡ Some kept = sym (slice_get-end old.register this) ∙ ap (slice_get (old.register ++ this ∷ [])) (sym last) ∙ at_more in
            let same : this ≡ kept = cc in
            let sizes : length after.history ≡ length h + 1 = ap length longer ∙ here in
            let entry : entry_at after.history (n + 1) ≡ Some e = ap (λ z. entry_at z (n + 1)) longer ∙ entry_at-end h e (n + 1) (omega arith) in
            let P : Kept → Type 0 = λ z. IsFirstReply after.history (n + 1) z.reply in
            subst P same (last_reply after e (n + 1) reply are (omega arith) entry is)
      ];
}

pub keeps_more : (limit : ℕ) (books after : Books) (old new : Content) (e : Entry) (reply : Reply) → Keeps limit books old → after.history ≡ books.history ++ e ∷ []
    → Tables limit after new → new.register ≡ old.register ++ record { entry = e; reply = reply } ∷ [] → reply ≡ reply_to after e → Keeps limit after new
keeps_more limit books after old new e reply keeps longer tables more is =
    let h = books.history in
    let number : length old.register ≡ length h = length_is old h keeps.tables.history in
    record {
      tables = are_tables_of limit after new tables (replies_more books after old new e reply number keeps.tables.replies longer tables.are_books more is);
      accepted = tables.accepted;
    }

-- the entry that was added is kept under its number
kept_last : (kept all : List Kept) (x : Kept) (n : ℕ) → all ≡ kept ++ x ∷ [] → n ≡ length kept + 1 → kept_at all n ≡ Some x
kept_last kept all x zero more is = absurd (omega arith)
kept_last kept all x (suc n) more is =
    let last : n ≡ length kept = omega arith in
    ap (λ z. slice_get z n) more ∙ (rw last (slice_get-end kept x))

-- How an entry fared that is no run and no instruction.

pub record IsQuietEntry (e : Entry) : Type 0 where
  pub no_run : run_day e ≡ None
  pub no_instruction : instructed e ≡ None
  pub no_cancel : (b : Books) (state : State) → IsNamed b e state

pub quiet_entry : (e : Entry) → is_booking e ≡ true → IsQuietEntry e
quiet_entry (Participant reference bic) is = record { no_run = refl; no_instruction = refl; no_cancel = λ b state. tt }
quiet_entry (Account reference bic account) is = record { no_run = refl; no_instruction = refl; no_cancel = λ b state. tt }
quiet_entry (Security reference isin kind) is = record { no_run = refl; no_instruction = refl; no_cancel = λ b state. tt }
quiet_entry (Issue movement) is = record { no_run = refl; no_instruction = refl; no_cancel = λ b state. tt }
quiet_entry (Redeem movement) is = record { no_run = refl; no_instruction = refl; no_cancel = λ b state. tt }
quiet_entry (PayIn payment) is = record { no_run = refl; no_instruction = refl; no_cancel = λ b state. tt }
quiet_entry (PayOut payment) is = record { no_run = refl; no_instruction = refl; no_cancel = λ b state. tt }
quiet_entry (Instruct sender instruction) is = absurd (cc)
quiet_entry (Cancel sender order) is = absurd (cc)
quiet_entry (Run reference day rule) is = absurd (cc)

-- what is no run makes no pass
passes_none : (b : Books) (e : Entry) (n passes : ℕ) → run_day e ≡ None → passes ≡ 0 → HasPasses b e n passes
passes_none b (Participant reference bic) n passes no_run is = is
passes_none b (Account reference bic account) n passes no_run is = is
passes_none b (Security reference isin kind) n passes no_run is = is
passes_none b (Issue movement) n passes no_run is = is
passes_none b (Redeem movement) n passes no_run is = is
passes_none b (PayIn payment) n passes no_run is = is
passes_none b (PayOut payment) n passes no_run is = is
passes_none b (Instruct sender instruction) n passes no_run is = is
passes_none b (Cancel sender order) n passes no_run is = is
passes_none b (Run reference day rule) n passes no_run is = absurd (cc)

-- an entry that is no run and no instruction fared so
pub quiet_applied : (limit : ℕ) (books : Books) (old new : Content) (e : Entry) (reply : Reply) (n : ℕ) (a : Applied) → Keeps limit books old → run_day e ≡ None → instructed e ≡ None → (grown : Grown limit books e new)
    → new.register ≡ old.register ++ record { entry = e; reply = reply } ∷ [] → n ≡ length old.register + 1 → a.number ≡ n → a.mate ≡ None → a.settled ≡ 0 → a.waiting ≡ 0 → a.passes ≡ 0
    → IsNamed (record { history = books.history ++ e ∷ []; pairs = grown.pairs; settled = grown.settled }) e a.named → ((b : Books) → IsApplied b e a → reply ≡ reply_to b e)
    → HasApplied limit books e (record { applied = a; reply = reply }) new
quiet_applied limit books old new e reply n a keeps no_run no_instruction grown more is_number number mate settled waiting passes named replied =
    let h = books.history in
    let after : Books = record { history = h ++ e ∷ []; pairs = grown.pairs; settled = grown.settled } in
    let size : length old.register ≡ length h = length_is old h keeps.tables.history in
    let longer : length (h ++ e ∷ []) ≡ length h + 1 = length-append h (e ∷ []) in
    let entry : entry_at (h ++ e ∷ []) a.number ≡ Some e = entry_at-end h e a.number (omega arith) in
    let are = grown.tables.are_books in
    let none : instruction_at (h ++ e ∷ []) a.number ≡ None = ap (option_and_then instructed) entry ∙ no_instruction in
    let M : Option ℕ → Type 0 = λ m. IsMateOf grown.pairs a.number m in
    let fared : IsApplied after e a = record {
      number = omega arith;
      mate = subst M (sym mate) (not_paired (h ++ e ∷ []) grown.pairs a.number are.pairing none);
      settled = settles_none after a.number e are entry no_run ∙ sym settled;
      waiting = waits_none after a.number e entry no_run ∙ sym waiting;
      passes = passes_none after e a.number a.passes no_run passes;
      named = named;
    } in
    record {
      after = after;
      longer = refl;
      keeps = keeps_more limit books after old new e reply keeps refl grown.tables more (replied after fared);
      fared = fared;
      replied = replied after fared;
      kept = kept_last old.register new.register (record { entry = e; reply = reply }) a.number more (omega arith);
    }

pub booked : (limit : ℕ) (books : Books) (old new : Content) (e : Entry) (reply : Reply) (n : ℕ) (a : Applied) → Keeps limit books old → is_booking e ≡ true → Grown limit books e new
    → new ≡ appended e reply old → n ≡ length old.register + 1 → a.number ≡ n → a.mate ≡ None → a.settled ≡ 0 → a.waiting ≡ 0 → a.passes ≡ 0 → ((b : Books) → IsApplied b e a → reply ≡ reply_to b e)
    → HasApplied limit books e (record { applied = a; reply = reply }) new
booked limit books old new e reply n a keeps kind grown added is_number number mate settled waiting passes replied =
    let quiet = quiet_entry e kind in
    let after : Books = record { history = books.history ++ e ∷ []; pairs = grown.pairs; settled = grown.settled } in
    quiet_applied limit books old new e reply n a keeps quiet.no_run quiet.no_instruction grown (ap (λ (c : Content). c.register) added) is_number number mate settled waiting passes (quiet.no_cancel after a.named) replied

-- How an instruction fared.

abbrev first_state : Option ℕ → State
first_state None = Unmatched
first_state (Some m) = Matched Future

same_pair : (p : Pair) (m n : ℕ) → p.earlier ≡ m → p.later ≡ n → p ≡ record { earlier = m; later = n }
same_pair p m n a b =
    let P : ℕ → Type 0 = λ x. (let z : Pair = record { earlier = x; later = n } in p ≡ z) in
    let Q : ℕ → Type 0 = λ y. (let z : Pair = record { earlier = p.earlier; later = y } in p ≡ z) in
    subst P a (subst Q b refl)

mate_is : (after : Books) (n : ℕ) (m : Option ℕ) → AreBooks after → n ≡ length after.history → StandsSo after n m (first_state m) → IsMateOf after.pairs n m
mate_is after n None are at is = is.free
mate_is after n (Some m) are at is =
    let p = is.pair in
    let within = pairs_known after.history after.pairs are.pairing p (In-from_Contains after.pairs p is.in_pair.paired) in
    let known : p.later ≤ length after.history = within.later in
    let mate = (are.pairing.exact p).0 is.in_pair.paired in
    let less : p.earlier < p.later = mate.candidate.earlier in
    let both : Some m ≡ Some (mate_in p n) = is.in_pair.other in
    let other : m ≡ mate_in p n = cc in
    elim is.in_pair.side [
      | inl early ↦ absurd (omega arith)
      | inr late ↦
          let test : p.earlier == n ≡ false = grind (arith, nat_tests) in
          let first : mate_in p n ≡ p.earlier = rw test refl in
          let same : p ≡ record { earlier = m; later = n } = same_pair p m n (sym first ∙ sym other) late in
          let P : Pair → Type 0 = λ z. Contains after.pairs z in
          subst P same is.in_pair.paired
    ]

stands_first : (e : Entry) (reply : Reply) (old : Content) (n : ℕ) (m : Option ℕ) → n ≡ length old.register + 1 → first_standing e ≡ record { mate = None; state = Unmatched; cancel_requested = false }
    → (mated n m (appended e reply old)).standing n ≡ record { mate = m; state = first_state m; cancel_requested = false }
stands_first e reply old n None at first = let test : n == length old.register + 1 ≡ true = grind (arith, nat_tests) in rw test first
stands_first e reply old n (Some m) at first =
    let test : n == n ≡ true = grind (arith, nat_tests) in
    let new : n == length old.register + 1 ≡ true = grind (arith, nat_tests) in
    rw (test, new, first) refl

pub instructed_applied : (limit : ℕ) (books : Books) (old new : Content) (sender : List ℕ) (i : Instruction) (reply : Reply) (n : ℕ) (m : Option ℕ) (a : Applied) → Keeps limit books old
    → Grown limit books (Instruct sender i) new → new ≡ mated n m (appended (Instruct sender i) reply old) → n ≡ length old.register + 1
    → a.number ≡ n → a.mate ≡ m → a.settled ≡ 0 → a.waiting ≡ 0 → a.passes ≡ 0 → ((b : Books) → IsApplied b (Instruct sender i) a → reply ≡ reply_to b (Instruct sender i)) → HasApplied limit books (Instruct sender i) (record { applied = a; reply = reply }) new
instructed_applied limit books old new sender i reply n m a keeps grown added is_number number mate settled waiting passes replied =
    let h = books.history in
    let e : Entry = Instruct sender i in
    let after : Books = record { history = h ++ e ∷ []; pairs = grown.pairs; settled = grown.settled } in
    let size : length old.register ≡ length h = length_is old h keeps.tables.history in
    let longer : length (h ++ e ∷ []) ≡ length h + 1 = length-append h (e ∷ []) in
    let entry : entry_at (h ++ e ∷ []) n ≡ Some e = entry_at-end h e n (omega arith) in
    let entry_a : entry_at (h ++ e ∷ []) a.number ≡ Some e = entry_at-end h e a.number (omega arith) in
    let are = grown.tables.are_books in
    let it : instruction_at (h ++ e ∷ []) n ≡ Some (record { sender = sender; instruction = i }) = ap (option_and_then instructed) entry in
    let stands : new.standing n ≡ record { mate = m; state = first_state m; cancel_requested = false } = ap (λ (c : Content). c.standing n) added ∙ stands_first e reply old n m is_number refl in
    let P : Option Instructed → Type 0 = λ o. StandsAt after n o (new.standing n) in
    let Q : Standing → Type 0 = λ s. StandsSo after n s.mate s.state in
    let mates : IsMateOf grown.pairs n m = mate_is after n m are (omega arith) (let here = subst P it (grown.tables.standing n) in subst Q stands here.so) in
    let M : ℕ → Option ℕ → Type 0 = λ k o. IsMateOf grown.pairs k o in
    let fared : IsApplied after e a = record {
      number = omega arith;
      mate = (let N : ℕ → Type 0 = λ k. IsMateOf grown.pairs k a.mate in let O : Option ℕ → Type 0 = λ o. IsMateOf grown.pairs n o in subst N (sym number) (subst O (sym mate) mates));
      settled = settles_none after a.number e are entry_a refl ∙ sym settled;
      waiting = waits_none after a.number e entry_a refl ∙ sym waiting;
      passes = passes;
      named = tt;
    } in
    record {
      after = after;
      longer = refl;
      keeps = keeps_more limit books after old new e reply keeps refl grown.tables (kept_more m added) (replied after fared);
      fared = fared;
      replied = replied after fared;
      kept = kept_last old.register new.register (record { entry = e; reply = reply }) a.number (kept_more m added) (omega arith);
    }
  where
    kept_more : (o : Option ℕ) → new ≡ mated n o (appended (Instruct sender i) reply old) → new.register ≡ old.register ++ record { entry = Instruct sender i; reply = reply } ∷ []
    kept_more None is = ap (λ (c : Content). c.register) is
    kept_more (Some k) is = ap (λ (c : Content). c.register) is

-- What is accepted of a register that keeps its books.
pub accepted_of : (limit : ℕ) (e : Entry) (content : Content) → CanApply limit e content → IsAccepted limit e content
accepted_of limit e content can = record { books = can.books; tables = tables_of limit can.books content can.keeps; verdict = can.verdict }

-- it is accepted of the register as it stands later, with the same content
pub accepted_still : (v0 v1 : View) (e : Entry) → CanApply v0.room e v0.content → v1.content ≡ v0.content → v1.room ≡ v0.room → IsAccepted v1.room e v1.content
accepted_still v0 v1 e can same room =
    let P : Content → Type 0 = λ c. IsAccepted v1.room e c in
    let Q : ℕ → Type 0 = λ k. IsAccepted k e v0.content in
    subst P (sym same) (subst Q (sym room) (accepted_of v0.room e v0.content can))

pub can_run_of : (limit : ℕ) (e : Entry) (content : Content) → CanApply limit e content → CanRun limit content
can_run_of limit e content can = record { books = can.books; tables = tables_of limit can.books content can.keeps }

-- reading leaves both as they were
pub can_run_still : (v0 v1 : View) (e : Entry) → CanApply v0.room e v0.content → v1.content ≡ v0.content → v1.room ≡ v0.room → CanRun v1.room v1.content
can_run_still v0 v1 e can same room =
    let P : Content → Type 0 = λ c. CanRun v1.room c in
    let Q : ℕ → Type 0 = λ k. CanRun k v0.content in
    subst P (sym same) (subst Q (sym room) (can_run_of v0.room e v0.content can))

pub tables_still : (v0 v1 : View) (books : Books) → Keeps v0.room books v0.content → v1.content ≡ v0.content → v1.room ≡ v0.room → Tables v1.room books v1.content
tables_still v0 v1 books keeps same room =
    let P : Content → Type 0 = λ c. Tables v1.room books c in
    let Q : ℕ → Type 0 = λ k. Tables k books v0.content in
    subst P (sym same) (subst Q (sym room) (tables_of v0.room books v0.content keeps))

pub room_of : (limit : ℕ) (e : Entry) (content : Content) → CanApply limit e content → length content.register < limit
room_of limit e content can =
    let lt = (accepted_new limit can.books e can.verdict).has_room in
    let size = length_is content can.books.history can.keeps.tables.history in
    omega arith

-- The same over the views of a register.

pub booked_step : (v0 v1 v2 : View) (books : Books) (e : Entry) (reply : Reply) (n : ℕ) (a : Applied) → v1.content ≡ v0.content → v1.room ≡ v0.room → is_booking e ≡ true
    → (Tables v1.room books v1.content → Grown v1.room books e v2.content) → v2.content ≡ appended e reply v1.content → n ≡ length v0.content.register + 1
    → a.number ≡ n → a.mate ≡ None → a.settled ≡ 0 → a.waiting ≡ 0 → a.passes ≡ 0 → ((b : Books) → IsApplied b e a → reply ≡ reply_to b e) → Keeps v0.room books v0.content → HasApplied v0.room books e (record { applied = a; reply = reply }) v2.content
booked_step v0 v1 v2 books e reply n a same room kind grows added is_number number mate settled waiting passes replied keeps =
    let P : Content → Type 0 = λ c. Tables v1.room books c in
    let Q : ℕ → Type 0 = λ k. Tables k books v0.content in
    let R : ℕ → Type 0 = λ k. Grown k books e v2.content in
    let S : Content → Type 0 = λ c. v2.content ≡ appended e reply c in
    let tables : Tables v1.room books v1.content = subst P (sym same) (subst Q (sym room) (tables_of v0.room books v0.content keeps)) in
    let grown : Grown v0.room books e v2.content = subst R room (grows tables) in
    booked v0.room books v0.content v2.content e reply n a keeps kind grown (subst S same added) is_number number mate settled waiting passes replied

pub instructed_step : (v0 v1 v2 : View) (books : Books) (sender : List ℕ) (i : Instruction) (reply : Reply) (n : ℕ) (m : Option ℕ) (a : Applied) → v1.content ≡ v0.content → v1.room ≡ v0.room
    → (Tables v1.room books v1.content → Grown v1.room books (Instruct sender i) v2.content) → v2.content ≡ mated n m (appended (Instruct sender i) reply v1.content)
    → n ≡ length v0.content.register + 1 → a.number ≡ n → a.mate ≡ m → a.settled ≡ 0 → a.waiting ≡ 0 → a.passes ≡ 0 → ((b : Books) → IsApplied b (Instruct sender i) a → reply ≡ reply_to b (Instruct sender i))
    → Keeps v0.room books v0.content → HasApplied v0.room books (Instruct sender i) (record { applied = a; reply = reply }) v2.content
instructed_step v0 v1 v2 books sender i reply n m a same room grows added is_number number mate settled waiting passes replied keeps =
    let e : Entry = Instruct sender i in
    let P : Content → Type 0 = λ c. Tables v1.room books c in
    let Q : ℕ → Type 0 = λ k. Tables k books v0.content in
    let R : ℕ → Type 0 = λ k. Grown k books e v2.content in
    let S : Content → Type 0 = λ c. v2.content ≡ mated n m (appended e reply c) in
    let tables : Tables v1.room books v1.content = subst P (sym same) (subst Q (sym room) (tables_of v0.room books v0.content keeps)) in
    let grown : Grown v0.room books e v2.content = subst R room (grows tables) in
    instructed_applied v0.room books v0.content v2.content sender i reply n m a keeps grown (subst S same added) is_number number mate settled waiting passes replied

-- How a cancellation fared.

called_off_register : (off : CallsOff) (content : Content) → (called_off off content).register ≡ content.register
called_off_register (Alone n) content = refl
called_off_register (Both p) content = refl
called_off_register (Nothing state) content = refl

pub cancelled_step : (v0 v1 v2 : View) (books : Books) (sender : List ℕ) (order : CancelOrder) (reply : Reply) (n : ℕ) (off : CallsOff) (a : Applied) → v1.content ≡ v0.content → v1.room ≡ v0.room
    → (Tables v1.room books v1.content → Grown v1.room books (Cancel sender order) v2.content) → v2.content ≡ called_off off (appended (Cancel sender order) reply v1.content)
    → off ≡ off_by v0.content.standing (named_by (history_of v0.content) sender order) → CanApply v0.room (Cancel sender order) v0.content → n ≡ length v0.content.register + 1
    → a.number ≡ n → a.mate ≡ None → a.settled ≡ 0 → a.waiting ≡ 0 → a.passes ≡ 0 → a.named ≡ state_then off → ((b : Books) → IsApplied b (Cancel sender order) a → reply ≡ reply_to b (Cancel sender order))
    → Keeps v0.room books v0.content → HasApplied v0.room books (Cancel sender order) (record { applied = a; reply = reply }) v2.content
cancelled_step v0 v1 v2 books sender order reply n off a same room grows added is_off can is_number number mate settled waiting passes named replied keeps =
    let e : Entry = Cancel sender order in
    let P : Content → Type 0 = λ c. Tables v1.room books c in
    let Q : ℕ → Type 0 = λ k. Tables k books v0.content in
    let R : ℕ → Type 0 = λ k. Grown k books e v2.content in
    let S : Content → Type 0 = λ c. v2.content ≡ called_off off (appended e reply c) in
    let held : Tables v0.room books v0.content = tables_of v0.room books v0.content keeps in
    let tables : Tables v1.room books v1.content = subst P (sym same) (subst Q (sym room) held) in
    let grown : Grown v0.room books e v2.content = subst R room (grows tables) in
    let is : v2.content ≡ called_off off (appended e reply v0.content) = subst S same added in
    let by = asked_by v0.room books v0.content sender order off held (accepted_of v0.room e v0.content can) is_off in
    let N : State → Type 0 = λ s. IsNamed (record { history = books.history ++ e ∷ []; pairs = grown.pairs; settled = grown.settled }) e s in
    let told = cancelled_named v0.room books v0.content v2.content sender order reply off grown.pairs grown.settled by grown.tables is in
    quiet_applied v0.room books v0.content v2.content e reply n a keeps refl refl grown (ap (λ (c : Content). c.register) is ∙ called_off_register off (appended e reply v0.content))
    is_number number mate settled waiting passes (subst N (sym named) told) replied

pub number_after : (v0 v1 v2 : View) (e : Entry) (n : ℕ) → CanApply v0.room e v0.content → v1.content ≡ v0.content → v2.content ≡ v1.content
    → (length v0.content.register < v0.room → n ≡ length v0.content.register + 1) → n ≡ length v2.content.register + 1
number_after v0 v1 v2 e n can first second value =
    let same : length v2.content.register ≡ length v0.content.register = ap (λ (c : Content). length c.register) (second ∙ first) in
    let is = value (room_of v0.room e v0.content can) in
    omega arith

-- How a run fared.

pub run_step : (v0 v1 v2 v3 : View) (books : Books) (reference day : List ℕ) (rule : RunRule) (reply : Reply) (n : ℕ) (a : Applied) → CanApply v0.room (Run reference day rule) v0.content
    → RanTo books (Run reference day rule) a.settled a.waiting a.passes v1.content → v1.content.register ≡ v0.content.register → v2.content ≡ v1.content → v3.content ≡ appended (Run reference day rule) reply v2.content
    → n ≡ length v0.content.register + 1 → a.number ≡ n → a.mate ≡ None → ((b : Books) → IsApplied b (Run reference day rule) a → reply ≡ reply_to b (Run reference day rule)) → Keeps v0.room books v0.content
    → HasApplied v0.room books (Run reference day rule) (record { applied = a; reply = reply }) v3.content
run_step v0 v1 v2 v3 books reference day rule reply n a can ran kept same added is_number number mate replied keeps =
    let h = books.history in
    let e : Entry = Run reference day rule in
    let after : Books = record { history = h ++ e ∷ []; pairs = books.pairs; settled = ran.settled } in
    let are = keeps.tables.are in
    let verdict : IsVerdict v0.room books e Accept = accepted_in v0.room books v0.content e (tables_of v0.room books v0.content keeps) (accepted_of v0.room e v0.content can) in
    let size : length v0.content.register ≡ length h = length_is v0.content h keeps.tables.history in
    let longer : length (h ++ e ∷ []) ≡ length h + 1 = length-append h (e ∷ []) in
    let entry : entry_at (h ++ e ∷ []) a.number ≡ Some e = entry_at-end h e a.number (omega arith) in
    let last : a.number ≡ length h + 1 = omega arith in
    let P : Content → Type 0 = λ c. v3.content ≡ appended e reply c in
    let is : v3.content ≡ appended e reply v1.content = subst P same added in
    let T : Content → Type 0 = λ c. Tables v0.room after c in
    let tables : Tables v0.room after v3.content = subst T (sym is) (tables_after_run v0.room books reference day rule ran.settled v1.content reply are keeps.accepted verdict ran.passed ran.told) in
    let none : instruction_at (h ++ e ∷ []) a.number ≡ None = ap (option_and_then instructed) entry in
    let M : Option ℕ → Type 0 = λ m. IsMateOf books.pairs a.number m in
    let fared : IsApplied after e a = record {
      number = omega arith;
      mate = subst M (sym mate) (not_paired (h ++ e ∷ []) books.pairs a.number tables.are_books.pairing none);
      settled = ap (settled_count after.settled) last ∙ ran.settles;
      waiting = ap (waiting_count after) last ∙ ran.waits;
      passes = ap (passes_of after.history after.settled) last ∙ ran.passes;
      named = tt;
    } in
    let K : List Kept → Type 0 = λ k. v3.content.register ≡ k ++ record { entry = e; reply = reply } ∷ [] in
    let more : v3.content.register ≡ v0.content.register ++ record { entry = e; reply = reply } ∷ [] = subst K kept (ap (λ (c : Content). c.register) is) in
    record {
      after = after;
      longer = refl;
      keeps = keeps_more v0.room books after v0.content v3.content e reply keeps refl tables more (replied after fared);
      fared = fared;
      replied = replied after fared;
      kept = kept_last v0.content.register v3.content.register (record { entry = e; reply = reply }) a.number more (omega arith);
    }

-- the run has passed, as it must have before it is added
pub passed_of : (v0 v1 v2 : View) (reference day : List ℕ) (rule : RunRule) (settled waiting passes : ℕ) → (can : CanApply v0.room (Run reference day rule) v0.content) → RanTo can.books (Run reference day rule) settled waiting passes v1.content
    → v2.content ≡ v1.content → v2.room ≡ v0.room → IsPassed v2.room (Run reference day rule) v2.content
passed_of v0 v1 v2 reference day rule settled waiting passes can ran same room =
    let P : Content → Type 0 = λ c. IsPassed v2.room (Run reference day rule) c in
    let Q : ℕ → Type 0 = λ k. IsPassed k (Run reference day rule) v1.content in
    subst P (sym same) (subst Q (sym room) (record {
      books = can.books;
      are_books = can.keeps.tables.are;
      accepted = can.keeps.accepted;
      verdict = can.verdict;
      settled = ran.settled;
      passed = ran.passed;
      told = ran.told;
    }))

-- a reading call failed within an open `begin`
pub read_fails : {X Y : Type 0} (fault : Fault) (v0 v1 : View) → v0.stage ≡ Begun → IsRead {X = Y} (Err fault) v0 v1 → IsStep {X = X} (Err fault) v0 v1
read_fails fault v0 v1 begun r = record {
  ok = tt;
  err = record {
    stage = λ idle. (let is : v1.stage ≡ fallen Begun = r.err.stage ∙ ap fallen begun in let clash : Failed ≡ Idle = sym is ∙ idle in absurd (cc));
    mark = r.err.mark;
  };
  later = r.later;
  blame = same_blame fault v0 v1 r.blame;
}

-- want of memory, after calls that went well, which touches nothing
pub want_one : {X : Type 0} (fault : Fault) (v0 v1 : View) → v0.stage ≡ Begun → Stays v0 v1 → IsLater v0 v1 → fault ≡ Memory → IsStep {X = X} (Err fault) v0 v1
want_one fault v0 v1 begun stays later is = record {
  ok = tt;
  err = record {
    stage = λ idle. (let clash : Begun ≡ Idle = sym begun ∙ sym stays.stage ∙ idle in absurd (cc));
    mark = λ honest sure. stays.mark honest (later.sure honest sure);
  };
  later = later;
  blame = blames_memory fault v0 v1 is;
}

pub want_step : {X : Type 0} (fault : Fault) (v0 v1 v2 : View) → v0.stage ≡ Begun → Stays v0 v1 → IsLater v0 v1 → Stays v1 v2 → IsLater v1 v2 → fault ≡ Memory → IsStep {X = X} (Err fault) v0 v2
want_step fault v0 v1 v2 begun stays later more further is = want_one fault v0 v2 begun (stays_then v0 v1 v2 stays later further more) (later_then v0 v1 v2 stays later further) is
