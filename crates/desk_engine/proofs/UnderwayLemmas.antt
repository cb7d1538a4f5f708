-- A pass, pair by pair, and a run, pass by pass.
use Rattle.std.proofs.Common.{◌≡◌, ◌⊎◌, inl, inr, ℕ, ◌+◌, ◌*◌, ◌<◌, ◌≤◌, Bool, true, false, List, [], ◌∷◌, ◌++◌, length, map, filter, Contains, Option, Some, None, refl, ap, sym, ◌∙◌, subst, arith, length-append, append_assoc, append-nil}
use Rattle.std.specs.Prelude.{option_and_then}
use Rattle.std.proofs.lemmas.Bool.{cases_Bool, both_ways, ltb-true, false_from_ne_true}
use Rattle.desk_codes.specs.Number.{number_of}
use Rattle.desk_rules.specs.declared.history.entry.Entry.TheVariants.{Run}
use Rattle.desk_rules.specs.declared.history.entry.RunRule.{RunRule}
use Rattle.desk_rules.specs.declared.history.entry.RunRule.TheVariants.{OnePass, Passes}
use Rattle.desk_rules.specs.declared.history.entry.Instructed.{Instructed}
use Rattle.desk_rules.specs.declared.history.pair.Pair.{Pair}
use Rattle.desk_rules.specs.declared.history.pair.Place.{Place}
use Rattle.desk_rules.specs.declared.history.pair.Settled.{Settled}
use Rattle.desk_rules.specs.declared.history.standing.State.{State}
use Rattle.desk_rules.specs.declared.history.standing.State.TheVariants as states
use Rattle.desk_rules.specs.declared.history.standing.State.TheVariants.{NoInstruction, Unmatched, Matched, Cancelled}
use Rattle.desk_rules.specs.declared.history.standing.Standing.{Standing}
use Rattle.desk_rules.specs.History.{instruction_at, run_rule}
use Rattle.desk_rules.specs.Settlement.{settled_count, pass_begins, is_in_passes, allows_more}
use Rattle.desk_rules.specs.Underway.{is_above}
use Rattle.desk_rules.specs.Underway.{IsOpen}
use Rattle.desk_rules.specs.Books.{Books, AreBooks}
use Rattle.desk_rules.specs.Verdict.{WasAccepted}
use Rattle.desk_rules.specs.Content.{Content, history_of}
use Rattle.desk_rules.specs.declared.history.entry.Entry.{Entry}
use Rattle.desk_rules.specs.declared.answers.reply.Kept.{Kept}
use Rattle.desk_rules.specs.declared.answers.reply.Reply.{Reply}
use Rattle.desk_register.specs.View.{View}
use Rattle.desk_rules.specs.declared.history.pair.Lack.TheVariants.{Securities, Money as LacksMoney}
use Rattle.desk_register.specs.declared.outcome.Outcome.{Outcome}
use Rattle.desk_register.specs.declared.outcome.Outcome.TheVariants as outcomes
use Rattle.desk_register.specs.declared.outcome.Outcome.TheVariants.{Lacks}
use Rattle.desk_register.specs.Changes.{TriesPair, appended}
use Rattle.desk_rules.specs.Sent.{date_in, sent_of}
use Rattle.desk_register.specs.Looked.{IsDuePairAfter}
use Rattle.desk_engine.specs.Pass.{CanTry, HasToldSoFar, IsTaken, RanTo, Tried, due_left, books_after, told_of_try, settled_of, PassesAt, PassesSo, IsUnderway, IsOver, PassEnds, is_below}
use Rattle.desk_rules.proofs.Decided.{In, In-from_Contains, Contains-from_In, In-right, In-cases, Ordered}
use Rattle.desk_rules.proofs.HistoryLemmas.{entry_at-end, instruction_at-front, instruction_at-known}
use Rattle.desk_rules.proofs.PairingLemmas.{lower, decided_pairing}
use Rattle.desk_rules.proofs.SettlementLemmas.{ordered_pairs, begins_true, begins_further}
use Rattle.desk_rules.proofs.SettlementGrowth.{as_far_decided, decided_as_far, pass_ends}
use Rattle.desk_rules.proofs.Existence.{fewer_above}
use Rattle.desk_engine.proofs.TablesLemmas.{settled_known}
use Rattle.desk_engine.proofs.PassLemmas.{none_open}
use Rattle.desk_engine.proofs.PassSteps.{not_of}
use Rattle.desk_engine.proofs.WaitingLemmas.{settled_and_left, count_of_run, left_count, none_left, all_left}
use Rattle.desk_engine.proofs.PassWhole.{NextSides, settled_by, step, next_can_settle, next_sides, next_facts}
use Rattle.desk_engine.proofs.AppendLemmas.{accepted_new, entries_within}
use Rattle.desk_rules.proofs.SentNumbers.{sent_counted}
use Rattle.desk_rules.specs.declared.limits.TheConstants.{SENT_A_PAIR}
use Rattle.desk_engine.specs.Tables.{IsAccepted}
use Rattle.desk_engine.proofs.SentLemmas.{IsOfRun, sends_confirmations, sent_so_far_count}
use Rattle.desk_engine.proofs.FinishLemmas.{has_passed, next_begins, passes_is}

-- pairs that rise by number are no more than the numbers
rising_length : (low high : ℕ) (ps : List Pair) → Ordered lower ps → ((p : Pair) → In ps p → low < p.later) → ((p : Pair) → In ps p → p.later ≤ high) → low ≤ high → low + length ps ≤ high
rising_length low high [] order above within le = omega arith
rising_length low high (p ∷ ps) order above within le =
    let here : low < p.later = above p (inl refl) in
    let top : p.later ≤ high = within p (inl refl) in
    let rest = rising_length p.later high ps order.1 (λ q i. ltb-true p.later q.later (order.0 q i)) (λ q i. within q (inr i)) top in
    omega arith

-- no more pairs than entries
pub pairs_few : (books : Books) → AreBooks books → length books.pairs ≤ length books.history
pairs_few books are =
    let d = decided_pairing books.history books.pairs are.pairing in
    let few = rising_length 0 (length books.history) books.pairs (ordered_pairs books.history books.pairs are.pairing)
    (λ p i. let mate = (are.pairing.exact p).0 (Contains-from_In books.pairs p i) in let lt : p.earlier < p.later = mate.candidate.earlier in omega arith)
    (λ p i. d.within p i) (omega arith) in
    omega arith

-- and fewer, where there are any: the first number is no pair's
pub pairs_fewer : (books : Books) → AreBooks books → 0 < length books.pairs → length books.pairs + 1 ≤ length books.history
pairs_fewer books are some =
    let d = decided_pairing books.history books.pairs are.pairing in
    let above : (p : Pair) → In books.pairs p → 1 < p.later = λ p i.
    let mate = (are.pairing.exact p).0 (Contains-from_In books.pairs p i) in
    let known = instruction_at-known books.history p.earlier mate.candidate.opposite.first mate.candidate.opposite.is_first in
    let first : 0 < p.earlier = known.0 in
    let lt : p.earlier < p.later = mate.candidate.earlier in
    omega arith in
    let any = some_pair books.pairs some in
    let low : 1 < any.0.later = above any.0 any.1 in
    let high : any.0.later ≤ length books.history = d.within any.0 any.1 in
    let few = rising_length 1 (length books.history) books.pairs (ordered_pairs books.history books.pairs are.pairing) above (λ p i. d.within p i) (omega arith) in
    omega arith
  where
    some_pair : (ps : List Pair) → 0 < length ps → (p : Pair) × In ps p
    some_pair [] lt = absurd (omega arith)
    some_pair (p ∷ ps) lt = (p, inl refl)

-- what is left above a place
abbrev pub left_above : Books → List ℕ → List ℕ → RunRule → Option Place → ℕ
left_above books reference day rule place = length (filter (is_above (books.history ++ Run reference day rule ∷ []) place) books.pairs)

-- So many pairs were tried in a pass, so many settled, and so many are left. As many more waited when the pass began as
-- settled since.
pub record Underway (books : Books) (reference day : List ℕ) (rule : RunRule) (pass : ℕ) (start : List Settled) (place : Option Place) (tried count waiting : ℕ) (content : Content) : Type 0 where
  pub here : List Settled
  pub underway : IsUnderway books (Run reference day rule) pass place (start ++ here) content
  pub of_pass : (s : Settled) → In here s → (s.run ≡ length books.history + 1) × (s.pass ≡ pass)
  pub earlier : (s : Settled) → Contains start s → s.run ≡ length books.history + 1 → s.pass < pass
  pub count_is : length here ≡ count
  pub waits : left_count (books.history ++ Run reference day rule ∷ []) (length books.history + 1) place (start ++ here) books.pairs ≡ waiting
  pub left : tried + left_above books reference day rule place ≤ length books.history
  pub fewer : due_left books (Run reference day rule) start ≡ count + due_left books (Run reference day rule) (start ++ here)
  pub told : HasToldSoFar books (Run reference day rule) (start ++ here) content

filter_most : {X : Type 0} (p : X → Bool) (xs : List X) → length (filter p xs) ≤ length xs
filter_most p [] = omega arith
filter_most p (x ∷ xs) =
    let rest = filter_most p xs in
    elim (cases_Bool (p x)) [ inl in_it ↦ rw in_it (omega arith) | inr out ↦ rw out (omega arith) ]

pub starts : (books : Books) (reference day : List ℕ) (rule : RunRule) (pass : ℕ) (start : List Settled) (content : Content) → AreBooks books
    → IsUnderway books (Run reference day rule) pass None start content → HasToldSoFar books (Run reference day rule) start content → Underway books reference day rule pass start None 0 0 0 content
starts books reference day rule pass start content are u told =
    let g = books.history ++ Run reference day rule ∷ [] in
    let none : start ++ [] ≡ start = append-nil start in
    let U : List Settled → Type 0 = λ z. IsUnderway books (Run reference day rule) pass None z content in
    record {
      here = [];
      underway = subst U (sym none) u;
      of_pass = λ s i. absurd i;
      earlier = λ s c run.
          let r = u.reached.within s c in
          elim r.reached [
            | inl lt ↦ absurd (omega arith)
            | inr both ↦ elim both.1 [ inl lt ↦ lt | inr inner ↦ (let never : true ≡ false = inner.1 in absurd (cc)) ]
          ];
      count_is = refl;
      waits = none_left g (length books.history + 1) (start ++ []) books.pairs;
      left = (let few = pairs_few books are in let most = filter_most (is_above g None) books.pairs in omega arith);
      fewer = (let same : due_left books (Run reference day rule) (start ++ []) ≡ due_left books (Run reference day rule) start = ap (due_left books (Run reference day rule)) none in omega arith);
      told = (let T : List Settled → Type 0 = λ z. HasToldSoFar books (Run reference day rule) z content in subst T (sym none) told);
    }

member_some : {X : Type 0} (xs : List X) (x : X) → In xs x → 0 < length xs
member_some [] x i = absurd i
member_some (y ∷ ys) x i = omega arith

-- one message more can be sent with an instruction that is accepted
pub can_advise : (limit : ℕ) (entry : Entry) (content : Content) → IsAccepted limit entry content → length content.sent < SENT_A_PAIR * limit
can_advise limit entry content accepted =
    let books = accepted.books in
    let are = accepted.tables.are_books in
    let room = (accepted_new limit books entry accepted.verdict).has_room in
    let sent = ap length accepted.tables.sent in
    let counted = sent_counted books are in
    let few = settled_and_left books are in
    let pairs = pairs_few books are in
    omega arith

pub room_after : (v0 v1 : View) (entry : Entry) (reply : Reply) → IsAccepted v0.room entry v0.content → v1.content ≡ appended entry reply v0.content → v1.room ≡ v0.room → length v1.content.sent < SENT_A_PAIR * v1.room
room_after v0 v1 entry reply accepted added room =
    let can = can_advise v0.room entry v0.content accepted in
    let same : length v1.content.sent ≡ length v0.content.sent = ap (λ (c : Content). length c.sent) added in
    omega arith

-- what a run has settled so far is of the run, and pairs of the books
of_run : (books : Books) (run : Entry) (pass : ℕ) (place : Option Place) (settled : List Settled) (content : Content) (u : IsUnderway books run pass place settled content) → IsOfRun books u.further.more
of_run books run pass place settled content u = record {
  run = λ s i. u.further.of_run s (Contains-from_In u.further.more s i);
  paired = λ s i.
      let inside : In settled s = subst (λ z. In z s) (sym u.further.is_more) (In-right books.settled u.further.more s i) in
      let c = Contains-from_In settled s inside in
      let m = (u.reached.exact s (u.reached.within s c)).0 c in
      m.paired;
}

-- messages enough are left for a pair that is due
pub can_try : (limit : ℕ) (books : Books) (reference day : List ℕ) (rule : RunRule) (pass : ℕ) (start : List Settled) (place : Option Place) (tried count waiting : ℕ) (content : Content) → AreBooks books → WasAccepted limit books.history
    → Underway books reference day rule pass start place tried count waiting content → (next : Place) → IsDuePairAfter content (number_of day) place (Some next) → CanTry limit content next.number (number_of day)
can_try limit books reference day rule pass start place tried count waiting content are was u next due =
    let run : Entry = Run reference day rule in
    let settled = start ++ u.here in
    let w = u.underway in
    let of = of_run books run pass place settled content w in
    let n = next_sides limit books reference day rule pass place settled content are was w next due.0 in
    let some = member_some books.pairs n.found.waiting.pair (In-from_Contains books.pairs n.found.waiting.pair n.found.waiting.in_pair.paired) in
    let fewer = pairs_fewer books are some in
    let within = entries_within limit books.history was in
    let P : List Settled → Type 0 = λ z. length (sent_of (books_after books run z)) ≡ length books.pairs + 2 * length books.settled + 2 * length w.further.more in
    let sent : length (sent_of (books_after books run settled)) ≡ length books.pairs + 2 * length books.settled + 2 * length w.further.more = subst P (sym w.further.is_more) (sent_so_far_count books run w.further.more are of) in
    let told : length content.sent ≡ length (sent_of (books_after books run settled)) = ap length u.told in
    let all : length settled ≡ length books.settled + length w.further.more = ap length w.further.is_more ∙ length-append books.settled w.further.more in
    let few = w.further.few in
    record {
      settle = next_can_settle limit books reference day rule pass place settled content are was w next due;
      room = omega arith;
    }

-- to try a pair changes no entry and no reply
pub settles_keeps : (old new : Content) (n : ℕ) (outcome : Outcome) → TriesPair old n outcome new → new.register ≡ old.register
settles_keeps old new n outcomes.Settled s = ap (λ (c : Content). c.register) s.ends.2
settles_keeps old new n (Lacks Securities) s = ap (λ (c : Content). c.register) s.ends.1
settles_keeps old new n (Lacks LacksMoney) s = ap (λ (c : Content). c.register) s.ends.2

-- a try itself sends nothing
tries_send_nothing : (old : Content) (n : ℕ) (outcome : Outcome) (new : Content) → TriesPair old n outcome new → new.sent ≡ old.sent
tries_send_nothing old n outcomes.Settled new s = ap (λ (c : Content). c.sent) s.ends.2
tries_send_nothing old n (Lacks Securities) new s = ap (λ (c : Content). c.sent) s.ends.1
tries_send_nothing old n (Lacks LacksMoney) new s = ap (λ (c : Content). c.sent) s.ends.2

-- what is told of a try leaves the rest as it is
told_underway : (books : Books) (run : Entry) (pass : ℕ) (place : Option Place) (settled : List Settled) (m n : ℕ) (earlier : Instructed) (day : List ℕ) (outcome : Outcome) (content : Content)
    → IsUnderway books run pass place settled content → IsUnderway books run pass place settled (told_of_try m n earlier day outcome content)
told_underway books run pass place settled m n earlier day outcomes.Settled content u = record {
  passing = record { history = u.passing.history; standing = u.passing.standing; position = u.passing.position; cash = u.passing.cash };
  reached = u.reached;
  begun = u.begun;
  further = u.further;
}
told_underway books run pass place settled m n earlier day (Lacks lack) content u = u

-- what was told of a try is what the run sends of it
told_so : (limit : ℕ) (books : Books) (reference day : List ℕ) (rule : RunRule) (pass : ℕ) (place : Option Place) (settled : List Settled) (old new : Content) (are : AreBooks books) (was : WasAccepted limit books.history)
    (u : IsUnderway books (Run reference day rule) pass place settled old) (taken : Tried) (t : IsTaken old day place (Some taken) new) → HasToldSoFar books (Run reference day rule) settled old
    → (added : List Settled)
    → added ≡ settled_by (length books.history + 1) pass (let n = next_sides limit books reference day rule pass place settled old are was u taken.place t.0.0 in n.found.waiting.pair) taken.outcome
    → HasToldSoFar books (Run reference day rule) (settled ++ added) new
told_so limit books reference day rule pass place settled old new are was u taken t told added is =
    let T : List Settled → Type 0 = λ z. HasToldSoFar books (Run reference day rule) (settled ++ z) new in
    let N : Content → Type 0 = λ c. HasToldSoFar books (Run reference day rule) (settled ++ settled_by (length books.history + 1) pass n.found.waiting.pair taken.outcome) c in
    subst T (sym is) (subst N (sym t.1.told) (by_outcome taken.outcome t.1.between t.1.tried))
  where
    n : NextSides limit books reference day rule pass place settled old are was u taken.place t.0.0
    n = next_sides limit books reference day rule pass place settled old are was u taken.place t.0.0

    by_outcome : (outcome : Outcome) (between : Content) (tried : TriesPair old taken.place.number outcome between)
        → HasToldSoFar books (Run reference day rule) (settled ++ settled_by (length books.history + 1) pass n.found.waiting.pair outcome) (told_of_try tried.mate taken.place.number tried.earlier day outcome between)
    by_outcome (Lacks lack) between tried = (tries_send_nothing old taken.place.number (Lacks lack) between tried) ∙ told ∙ ap (λ z. sent_of (books_after books (Run reference day rule) z)) (sym (append-nil settled))
    by_outcome outcomes.Settled between tried =
        let run : Entry = Run reference day rule in
        let q = n.found.waiting.pair in
        let s : Settled = record { run = length books.history + 1; pass = pass; pair = q } in
        let mates : Some tried.mate ≡ Some t.0.0.pair.mate = sym tried.pair.has_mate ∙ t.0.0.pair.has_mate in
        let mate : tried.mate ≡ t.0.0.pair.mate = cc in
        let known_later = instruction_at-known (history_of old) taken.place.number tried.later tried.pair.is_later in
        let known_earlier = instruction_at-known (history_of old) tried.mate tried.earlier tried.pair.is_earlier in
        let H : List Entry → Type 0 = λ h. instruction_at (h ++ run ∷ []) taken.place.number ≡ Some tried.later in
        let G : List Entry → Type 0 = λ h. instruction_at (h ++ run ∷ []) tried.mate ≡ Some tried.earlier in
        let at_later : instruction_at (books.history ++ run ∷ []) taken.place.number ≡ Some tried.later = subst H u.passing.history (instruction_at-front (history_of old) (run ∷ []) taken.place.number known_later.1 ∙ tried.pair.is_later) in
        let at_earlier : instruction_at (books.history ++ run ∷ []) tried.mate ≡ Some tried.earlier = subst G u.passing.history (instruction_at-front (history_of old) (run ∷ []) tried.mate known_earlier.1 ∙ tried.pair.is_earlier) in
        let so_far : between.sent ≡ sent_of (books_after books run (books.settled ++ u.further.more)) = tries_send_nothing old taken.place.number outcomes.Settled between tried ∙ told ∙ ap (λ z. sent_of (books_after books run z)) u.further.is_more in
        let history : history_of between ≡ history_of old = ap (λ (r : List Kept). map (λ (k : Kept). k.entry) r) (settles_keeps old between taken.place.number outcomes.Settled tried) in
        let first : instruction_at (history_of between) tried.mate ≡ Some tried.earlier = ap (λ h. instruction_at h tried.mate) history ∙ tried.pair.is_earlier in
        let second : instruction_at (history_of between) taken.place.number ≡ Some tried.later = ap (λ h. instruction_at h taken.place.number) history ∙ tried.pair.is_later in
        sends_confirmations books run u.further.more s tried.mate taken.place.number tried.earlier tried.later day between are (of_run books run pass place settled old u) refl
        (n.found.earlier ∙ sym mate) n.found.later at_earlier at_later first second (ap date_in (entry_at-end books.history run (length books.history + 1) refl)) so_far
        ∙ ap (λ z. sent_of (books_after books run z)) (sym (append_assoc books.settled u.further.more (s ∷ [])) ∙ ap (λ z. z ++ s ∷ []) (sym u.further.is_more))

pub goes_on : (limit : ℕ) (books : Books) (reference day : List ℕ) (rule : RunRule) (pass : ℕ) (start : List Settled) (place : Option Place) (tried count waiting new_waiting : ℕ) (old new : Content) (taken : Tried) → AreBooks books → WasAccepted limit books.history
    → Underway books reference day rule pass start place tried count waiting old → IsTaken old day place (Some taken) new → new_waiting + settled_of taken.outcome ≡ waiting + 1
    → Underway books reference day rule pass start (Some taken.place) (tried + 1) (count + settled_of taken.outcome) new_waiting new
goes_on limit books reference day rule pass start place tried count waiting new_waiting old new taken are was u t waits =
    let g = books.history ++ Run reference day rule ∷ [] in
    let run : Entry = Run reference day rule in
    let try = t.1 in
    let on = step limit books reference day rule pass place (start ++ u.here) old are was u.underway taken.place t.0 taken.outcome try.between try.tried in
    let n = next_sides limit books reference day rule pass place (start ++ u.here) old are was u.underway taken.place t.0.0 in
    let f = next_facts limit books reference day rule pass place (start ++ u.here) old are was u.underway taken.place t.0 n in
    let fewer = fewer_above g books.pairs place taken.place n.found.waiting.pair f.next_is.is_open.paired n.found.place_is f.next_is.is_open.above in
    let joined : (start ++ u.here) ++ on.added ≡ start ++ (u.here ++ on.added) = append_assoc start u.here on.added in
    let U : List Settled → Type 0 = λ z. IsUnderway books run pass (Some taken.place) z new in
    let V : Content → Type 0 = λ c. IsUnderway books run pass (Some taken.place) ((start ++ u.here) ++ on.added) c in
    let T : List Settled → Type 0 = λ z. HasToldSoFar books run z new in
    let now_underway : IsUnderway books run pass (Some taken.place) ((start ++ u.here) ++ on.added) new = subst V (sym try.told) (told_underway books run pass (Some taken.place) ((start ++ u.here) ++ on.added) try.tried.mate taken.place.number try.tried.earlier day taken.outcome try.between on.underway) in
    let same : left_count g (length books.history + 1) (Some taken.place) ((start ++ u.here) ++ on.added) books.pairs ≡ left_count g (length books.history + 1) (Some taken.place) (start ++ (u.here ++ on.added)) books.pairs = ap (λ z. left_count g (length books.history + 1) (Some taken.place) z books.pairs) joined in
    let left = u.left in
    let was_count = u.count_is in
    let now = on.count in
    let waited = u.waits in
    let tried_so = on.left in
    let size = length-append u.here on.added in
    let fewer_was = u.fewer in
    let fewer_on = on.fewer in
    let fewer_same : due_left books run ((start ++ u.here) ++ on.added) ≡ due_left books run (start ++ (u.here ++ on.added)) = ap (due_left books run) joined in
    record {
      here = u.here ++ on.added;
      underway = subst U joined now_underway;
      of_pass = λ s i. elim (In-cases u.here on.added s i) [ inl before ↦ u.of_pass s before | inr added ↦ on.of_pass s added ];
      earlier = u.earlier;
      count_is = omega arith;
      waits = omega arith;
      left = omega arith;
      fewer = omega arith;
      told = subst T joined (told_so limit books reference day rule pass place (start ++ u.here) old new are was u.underway taken t u.told on.added on.added_is);
    }

-- no open pair is left: the pass is over
over : (books : Books) (reference day : List ℕ) (rule : RunRule) (pass : ℕ) (start : List Settled) (place : Option Place) (tried count waiting : ℕ) (content : Content)
    → (u : Underway books reference day rule pass start place tried count waiting content)
    → ((p : Pair) → IsOpen (books.history ++ Run reference day rule ∷ []) books.pairs (start ++ u.here) (length books.history + 1) place p → ⊥) → PassEnds books (Run reference day rule) pass start count waiting content
over books reference day rule pass start place tried count waiting content u none = record {
  settled = start ++ u.here;
  over = record {
    passing = record {
      history = u.underway.passing.history;
      standing = λ k. tried_at k (instruction_at books.history k) (content.standing k) (u.underway.passing.standing k);
      position = u.underway.passing.position;
      cash = u.underway.passing.cash;
    };
    reached = as_far_decided (pass_ends (books.history ++ Run reference day rule ∷ []) books.pairs (start ++ u.here) (length books.history + 1) pass place (decided_as_far u.underway.reached) none);
    begun = u.underway.begun;
    further = u.underway.further;
    here = u.here;
    is_here = refl;
    earlier = u.earlier;
    of_pass = λ s c. u.of_pass s (In-from_Contains u.here s c);
    counted = u.count_is;
    waits = sym (all_left (books.history ++ Run reference day rule ∷ []) (length books.history + 1) place (start ++ u.here) books.pairs none) ∙ u.waits;
  };
  told = u.told;
}
  where
    tried_so : (k : ℕ) (mate : Option ℕ) (state : State) → PassesSo books (Run reference day rule) pass (is_below books (Run reference day rule) place) (start ++ u.here) k mate state
        → PassesSo books (Run reference day rule) pass (λ p. true) (start ++ u.here) k mate state
    tried_so k mate NoInstruction x = x
    tried_so k mate Unmatched x = x
    tried_so k mate Cancelled x = x
    tried_so k mate (Matched reason) x = record {
      pair = x.pair;
      in_pair = x.in_pair;
      not_due = x.not_due;
      tried = λ due all. elim (cases_Bool (is_above (books.history ++ Run reference day rule ∷ []) place x.pair)) [
        | inr low ↦ x.tried due (not_of (is_above (books.history ++ Run reference day rule ∷ []) place x.pair) low)
        | inl above ↦ absurd (none x.pair (record { paired = x.in_pair.paired; due = due; unsettled = x.in_pair.unsettled; above = above }))
      ];
    }
    tried_so k mate states.Settled x = x

    tried_at : (k : ℕ) (o : Option Instructed) (st : Standing) → PassesAt books (Run reference day rule) pass (is_below books (Run reference day rule) place) (start ++ u.here) k o st
        → PassesAt books (Run reference day rule) pass (λ p. true) (start ++ u.here) k o st
    tried_at k None st x = x
    tried_at k (Some i) st x = record { so = tried_so k st.mate st.state x.so; requested = x.requested }

pub ends_none : (books : Books) (reference day : List ℕ) (rule : RunRule) (pass : ℕ) (start : List Settled) (place : Option Place) (tried count waiting : ℕ) (old new : Content) → AreBooks books
    → Underway books reference day rule pass start place tried count waiting old → IsTaken old day place None new → PassEnds books (Run reference day rule) pass start count waiting new
ends_none books reference day rule pass start place tried count waiting old new are u t =
    let P : Content → Type 0 = λ c. PassEnds books (Run reference day rule) pass start count waiting c in
    subst P (sym t.1) (over books reference day rule pass start place tried count waiting old u
    (none_open books reference day rule pass place (start ++ u.here) old are u.underway t.0))

-- what is due and not settled by then waited when the pass began, as did what it settled
pub waits_rest : (books : Books) (reference day : List ℕ) (rule : RunRule) (pass : ℕ) (start : List Settled) (place : Option Place) (tried count waiting : ℕ) (content : Content) → AreBooks books
    → Underway books reference day rule pass start place tried count waiting content → IsDuePairAfter content (number_of day) place None → due_left books (Run reference day rule) start ≡ count + waiting
waits_rest books reference day rule pass start place tried count waiting content are u none =
    let g = books.history ++ Run reference day rule ∷ [] in
    let settled = start ++ u.here in
    let all = sym (all_left g (length books.history + 1) place settled books.pairs (none_open books reference day rule pass place settled content are u.underway none)) ∙ u.waits in
    let fewer = u.fewer in
    omega arith

-- A run, pass by pass.

-- The run has made its passes up to one that is over: it was made again so often, so many settled in all of them, and so
-- many in the last.
pub record PassesMade (books : Books) (reference day : List ℕ) (rule : RunRule) (again settled_so waiting_so last : ℕ) (content : Content) : Type 0 where
  pub pass : ℕ
  pub start : List Settled
  pub settled : List Settled
  pub over : IsOver books (Run reference day rule) pass start settled last waiting_so content
  pub total : length over.further.more ≡ settled_so
  pub is_pass : pass ≡ again + 1
  pub many : again ≤ settled_so
  pub many_last : 0 < last → again < settled_so
  pub told : HasToldSoFar books (Run reference day rule) settled content

-- the run's rule lets it make further passes
pub in_passes_by : (books : Books) (reference day : List ℕ) (rule : RunRule) → is_in_passes (books.history ++ Run reference day rule ∷ []) (length books.history + 1) ≡ allows_more (Some rule)
in_passes_by books reference day rule = ap (λ o. allows_more (option_and_then run_rule o)) (entry_at-end books.history (Run reference day rule) (length books.history + 1) refl)

some_member : (ss : List Settled) → 0 < length ss → (s : Settled) × In ss s
some_member [] lt = absurd (omega arith)
some_member (s ∷ ss) lt = (s, inl refl)

module _ (books : Books) (reference day : List ℕ) (rule : RunRule) (again settled_so waiting_so last : ℕ) (content : Content) (are : AreBooks books) (ran : PassesMade books reference day rule again settled_so waiting_so last content) where
  -- a further pass, where the rule allows it and the last one settled something
  pub goes_again : rule ≡ Passes → 0 < last → IsUnderway books (Run reference day rule) (ran.pass + 1) None ran.settled content
  goes_again passes some =
      let g = books.history ++ Run reference day rule ∷ [] in
      let n = length books.history + 1 in
      let o = ran.over in
      let found = some_member o.here (let c = o.counted in omega arith) in
      let at = o.of_pass found.0 (Contains-from_In o.here found.0 found.1) in
      let inside : In ran.settled found.0 = subst (λ z. In z found.0) (sym o.is_here) (In-right ran.start o.here found.0 found.1) in
      let allowed : is_in_passes g n ≡ true = in_passes_by books reference day rule ∙ ap (λ r. allows_more (Some r)) passes in
      next_begins books reference day rule ran.pass ran.start ran.settled last waiting_so content are o
      (begins_further g ran.settled n (ran.pass + 1) (record { allowed = allowed; member = found.0; inside = inside; run_is = at.0; pass_is = ap (λ k. k + 1) at.1 }))

  -- no further pass begins, by the rule, or where the last settled nothing
  not_again : (rule ≡ OnePass) ⊎ (last ≡ 0) → pass_begins (books.history ++ Run reference day rule ∷ []) ran.settled (length books.history + 1) (ran.pass + 1) ≡ false
  not_again why =
      let g = books.history ++ Run reference day rule ∷ [] in
      let n = length books.history + 1 in
      let o = ran.over in
      false_from_ne_true (pass_begins g ran.settled n (ran.pass + 1)) (λ e. elim (begins_true g ran.settled n (ran.pass + 1) e) [
        | inl first ↦ elim (begins_true g ran.settled n ran.pass o.begun) [
          | inl one ↦ omega arith
          | inr f ↦ (let is : f.member.pass + 1 ≡ ran.pass = f.pass_is in omega arith)
        ]
        | inr f ↦ elim why [
          | inl one ↦ both_ways _ (in_passes_by books reference day rule ∙ ap (λ r. allows_more (Some r)) one) f.allowed
          | inr none ↦
              let is : f.member.pass + 1 ≡ ran.pass + 1 = f.pass_is in
              let inside : In (ran.start ++ o.here) f.member = subst (λ z. In z f.member) o.is_here f.inside in
              elim (In-cases ran.start o.here f.member inside) [
                | inl before ↦ (let lt = o.earlier f.member (Contains-from_In ran.start f.member before) f.run_is in omega arith)
                | inr here ↦ (let some = member_some o.here f.member here in let c = o.counted in omega arith)
              ]
        ]
      ])

  pub run_over : (rule ≡ OnePass) ⊎ (last ≡ 0) → RanTo books (Run reference day rule) settled_so waiting_so (again + 1) content
  run_over why =
      let n = length books.history + 1 in
      let o = ran.over in
      let P : List Settled → Type 0 = λ z. settled_count z n ≡ length o.further.more in
      let counts : settled_count ran.settled n ≡ length o.further.more = subst P (sym o.further.is_more) (count_of_run n books.settled o.further.more
      (λ s i. let r = settled_known books.history books.pairs books.settled are.settlement s i in let known : s.run ≤ length books.history = r.run in omega arith)
      (λ s i. o.further.of_run s (Contains-from_In o.further.more s i))) in
      record {
        settled = ran.settled;
        passed = has_passed books reference day rule ran.pass ran.start ran.settled last waiting_so content are o (not_again why);
        told = ran.told;
        settles = counts ∙ ran.total;
        waits = o.waits;
        passes = passes_is books reference day rule ran.pass ran.start ran.settled last waiting_so content are o (not_again why) ∙ ran.is_pass;
      }

-- a pass more is over
pub pass_over : (books : Books) (reference day : List ℕ) (rule : RunRule) (before settled_so count waiting total : ℕ) (start : List Settled) (content : Content) → before ≤ settled_so → length start ≡ length books.settled + settled_so → total ≡ settled_so + count
    → PassEnds books (Run reference day rule) (before + 1) start count waiting content → PassesMade books reference day rule before total waiting count content
pass_over books reference day rule before settled_so count waiting total start content many so_far sum ends =
    let o = ends.over in
    let a = length-append books.settled o.further.more in
    let b = length-append start o.here in
    let c = ap length o.further.is_more in
    let d = ap length o.is_here in
    let e = o.counted in
    record {
      pass = before + 1;
      start = start;
      settled = ends.settled;
      over = o;
      total = omega arith;
      is_pass = refl;
      many = omega arith;
      many_last = λ some. omega arith;
      told = ends.told;
    }
