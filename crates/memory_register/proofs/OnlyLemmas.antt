-- That no place is found but those of matched pairs, through the calls of a register.
use Rattle.std.proofs.Common.{◌≡◌, ◌≢◌, ℕ, ◌+◌, ◌<◌, Bool, true, false, List, [], ◌∷◌, ◌++◌, length, Option, Some, None, refl, ap, sym, ◌∙◌, subst, arith, append_assoc, inl, inr}
use Rattle.std.specs.Prelude.{◌≤◌, Result, Ok, Err, OnOk, OnErr, IfSome, IfNone, is_some, option_map, ◌==◌, ◌||◌}
use Rattle.std.specs.List.{list_any}
use Rattle.std.specs.Ordering.{is_eq, nat_cmp}
use Rattle.std.specs.BTreeSet.{BTreeSet, contains}
use Rattle.std.proofs.lemmas.Bool.{cases_eq}
use Rattle.desk_codes.specs.declared.day.Day.{Day}
use Rattle.desk_codes.specs.Number.{number_of}
use Rattle.desk_msg.specs.declared.instruction.Instruction.{Instruction}
use Rattle.desk_msg.specs.declared.writing.status.Reason.{Reason}
use Rattle.desk_rules.specs.declared.answers.reply.Reply.{Reply}
use Rattle.desk_rules.specs.declared.answers.reply.Sent.{Sent}
use Rattle.desk_rules.specs.declared.history.entry.Entry.{Entry}
use Rattle.desk_rules.specs.declared.history.entry.Entry.TheVariants.{Instruct}
use Rattle.desk_rules.specs.declared.history.entry.Instructed.{Instructed}
use Rattle.desk_rules.specs.declared.history.pair.Place.{Place}
use Rattle.desk_rules.specs.declared.history.standing.State.{State}
use Rattle.desk_rules.specs.declared.history.standing.State.TheVariants.{Matched, Settled, Unmatched}
use Rattle.desk_rules.specs.Content.{Content, history_of}
use Rattle.desk_rules.specs.Standing.{reason_of_lack}
use Rattle.desk_rules.proofs.HistoryLemmas.{instruction_at-known}
use Rattle.desk_rules.specs.History.{instructed, instruction_at}
use Rattle.desk_register.specs.declared.outcome.Outcome.{Outcome}
use Rattle.desk_register.specs.declared.outcome.Outcome.TheVariants as outcomes
use Rattle.desk_register.specs.declared.outcome.Outcome.TheVariants.{Lacks}
use Rattle.desk_register.specs.declared.register.Fault.{Fault}
use Rattle.desk_register.specs.declared.register.Stage.TheVariants.{Idle, Begun, Failed}
use Rattle.desk_register.specs.Changes.{appended, cancelled, standing_both, with_sent}
use Rattle.desk_register.specs.Looked.{IsDue, IsMatchedPair}
use Rattle.desk_register.proofs.CaseLemmas.{by_bool}
use Rattle.desk_register.specs.View.{View, Begins, Stays, Falls, IsRead, fallen}
use Rattle.memory_rows.specs.declared.rows.Rows.{Rows}
use Rattle.memory_rows.specs.RowsView.{view_of_rows}
use Rattle.memory_short.specs.DuePlaces.{AreMatched, ArePlaced, FewerDue, HasDue, HoldsMatched, PlacedAt, day_at, place_at}
use Rattle.desk_rules.specs.Places.{place_cmp}
use Rattle.memory_register.proofs.IndexedLemmas.{append_nothing, begun_is_not_failed, idle_is_not_failed, not_fallen}
use Rattle.memory_short.proofs.StandingLemmas.{at_later, at_other, history_same, instruction_end, instruction_more}
use Rattle.memory_register.specs.Touched.{then_touched}
use Rattle.memory_short.proofs.ShortageLemmas.{IsTried, alike_at, earlier_none, lacked, matched_after, matched_beside, matched_still}
use Rattle.memory_short.proofs.PlaceCases.{by_place}
use Rattle.memory_register.proofs.TidyLemmas.{other_numbered}
use Rattle.memory_short.proofs.WakeLemmas.{day_of_later}

module _ (places : BTreeSet Place) (noted : List Entry) (touched : List ℕ) (old new : View) (holds : HoldsMatched old places noted touched) where
  pub only_same : new.stage ≡ old.stage → new.mark ≡ old.mark → new.content ≡ old.content → HoldsMatched new places noted touched
  only_same stage mark same = record {
    placed = subst (λ m. ArePlaced places (history_of m ++ noted)) (sym mark) holds.placed;
    marked = subst (λ m. AreMatched places m touched) (sym mark) holds.marked;
    now = λ up. subst (λ c. AreMatched places c touched) (sym same) (holds.now (λ failed. up (stage ∙ failed)));
  }

  pub only_fell : new.stage ≡ fallen old.stage → new.mark ≡ old.mark → (old.stage ≡ Idle → new.content ≡ old.content) → HoldsMatched new places noted touched
  only_fell stage mark same = record {
    placed = subst (λ m. ArePlaced places (history_of m ++ noted)) (sym mark) holds.placed;
    marked = subst (λ m. AreMatched places m touched) (sym mark) holds.marked;
    now = λ up. let was = not_fallen old.stage new.stage stage up in subst (λ c. AreMatched places c touched) (sym (same was)) (holds.now (idle_is_not_failed old.stage was));
  }

-- a call that failed before anything changed: more may be touched
pub only_failed : (places places' : BTreeSet Place) (noted noted' : List Entry) (touched touched' : List ℕ) (old new : View) → new.stage ≡ Failed → new.mark ≡ old.mark → noted' ≡ noted
    → (ArePlaced places (history_of old.mark ++ noted) → ArePlaced places' (history_of old.mark ++ noted)) → ((content : Content) → AreMatched places content touched → AreMatched places' content touched')
    → HoldsMatched old places noted touched → HoldsMatched new places' noted' touched'
only_failed places places' noted noted' touched touched' old new failed mark same placed kept holds = record {
  placed = subst (λ m. ArePlaced places' (history_of m ++ noted')) (sym mark) (subst (λ n. ArePlaced places' (history_of old.mark ++ n)) (sym same) (placed holds.placed));
  marked = subst (λ m. AreMatched places' m touched') (sym mark) (kept old.mark holds.marked);
  now = λ up. absurd (up failed);
}

-- what is held changed: what was found is found, or less
pub only_changed : (places places' : BTreeSet Place) (noted noted' : List Entry) (touched touched' : List ℕ) (old new : View) → new.mark ≡ old.mark → ArePlaced places' (history_of old.mark ++ noted')
    → ((content : Content) → AreMatched places content touched → AreMatched places' content touched') → AreMatched places' new.content touched' → HoldsMatched old places noted touched → HoldsMatched new places' noted' touched'
only_changed places places' noted noted' touched touched' old new mark placed kept now holds = record {
  placed = subst (λ m. ArePlaced places' (history_of m ++ noted')) (sym mark) placed;
  marked = subst (λ m. AreMatched places' m touched') (sym mark) (kept old.mark holds.marked);
  now = λ up. now;
}

module _ (places : BTreeSet Place) (noted : List Entry) (touched : List ℕ) (old new : Rows) (holds : HoldsMatched (view_of_rows old) places noted touched) where
  pub only_read : {T : Type 0} (r : Result T Fault) → IsRead r (view_of_rows old) (view_of_rows new) → HoldsMatched (view_of_rows new) places noted touched
  only_read (Ok x) read = only_same places noted touched (view_of_rows old) (view_of_rows new) holds read.ok.stage (read.ok.mark tt tt) (read.same tt tt)
  only_read (Err f) read = only_fell places noted touched (view_of_rows old) (view_of_rows new) holds read.err.stage (read.err.mark tt tt) (read.err.content tt tt)

  -- what is held is marked
  pub only_begin : (view_of_rows old).stage ≡ Idle → noted ≡ [] → history_of (view_of_rows old).content ≡ history_of (view_of_rows old).mark ++ noted
      → Begins (view_of_rows old) (view_of_rows new) → HoldsMatched (view_of_rows new) places noted touched
  only_begin idle none grown begins =
      let now = holds.now (idle_is_not_failed (view_of_rows old).stage idle) in
      let same : history_of (view_of_rows old).mark ++ noted ≡ history_of (view_of_rows new).mark ++ noted =
      sym grown ∙ ap history_of (sym (begins.mark tt tt)) ∙ sym (append_nothing (history_of (view_of_rows new).mark)) ∙ ap (λ n. history_of (view_of_rows new).mark ++ n) (sym none)
      in
      record {
        placed = subst (ArePlaced places) same holds.placed;
        marked = subst (λ m. AreMatched places m touched) (sym (begins.mark tt tt)) now;
        now = λ up. subst (λ c. AreMatched places c touched) (sym (begins.content tt tt)) now;
      }

-- with no `begin` open, by what is held alone
pub only_idle : (places : BTreeSet Place) (noted : List Entry) (touched : List ℕ) (view : View) → view.mark ≡ view.content → noted ≡ [] → touched ≡ [] → ArePlaced places (history_of view.content) → AreMatched places view.content []
    → HoldsMatched view places noted touched
only_idle places noted touched view mark none untouched placed only = record {
  placed = subst (ArePlaced places) (sym (ap (λ m. history_of m ++ noted) mark ∙ ap (λ n. history_of view.content ++ n) none ∙ append_nothing (history_of view.content))) placed;
  marked = subst (λ m. AreMatched places m touched) (sym mark) (subst (AreMatched places view.content) (sym untouched) only);
  now = λ up. subst (AreMatched places view.content) (sym untouched) only;
}

-- Fewer places, and more that is touched.

pub fewer_matched : (old new : BTreeSet Place) (content : Content) (touched : List ℕ) → FewerDue old new → AreMatched old content touched → AreMatched new content touched
fewer_matched old new content touched fewer only = record { each = λ at there. only.each at (fewer at there) }

pub fewer_placed : (old new : BTreeSet Place) (history : List Entry) → FewerDue old new → ArePlaced old history → ArePlaced new history
fewer_placed old new history fewer placed = record { each = λ at there. placed.each at (fewer at there) }

not_or : (a b : Bool) → (a || b) ≡ false → (a ≡ false) × (b ≡ false)
not_or true b e = absurd (cc)
not_or false b e = (refl, e)

pub any_append : (t : ℕ → Bool) (xs ys : List ℕ) → list_any t (xs ++ ys) ≡ false → (list_any t xs ≡ false) × (list_any t ys ≡ false)
any_append t [] ys none = (refl, none)
any_append t (x ∷ xs) ys none =
    let parts = not_or (t x) (list_any t (xs ++ ys)) none in
    let rest = any_append t xs ys parts.1 in
    (rw (parts.0, rest.0) refl, rest.1)

pub more_touched : (places : BTreeSet Place) (content : Content) (touched more : List ℕ) → AreMatched places content touched → AreMatched places content (touched ++ more)
more_touched places content touched more only = record { each = λ at there none. let parts = any_append (λ n. n == at.number) touched more none in only.each at there parts.0 }

not_number : (n k : ℕ) → (n == k) ≡ false → k ≢ n
not_number n k apart same = grind (arith, apart, same)

pub not_two : (touched : List ℕ) (m n k : ℕ) → list_any (λ j. j == k) (touched ++ m ∷ n ∷ []) ≡ false → (k ≢ m) × (k ≢ n) × (list_any (λ j. j == k) touched ≡ false)
not_two touched m n k none =
    let parts = any_append (λ j. j == k) touched (m ∷ n ∷ []) none in
    let first = not_or (m == k) (list_any (λ j. j == k) (n ∷ [])) parts.1 in
    let second = not_or (n == k) false first.1 in
    (not_number m k first.0, not_number n k second.0, parts.0)

pub not_one : (touched : List ℕ) (n k : ℕ) → list_any (λ j. j == k) (touched ++ n ∷ []) ≡ false → (k ≢ n) × (list_any (λ j. j == k) touched ≡ false)
not_one touched n k none =
    let parts = any_append (λ j. j == k) touched (n ∷ []) none in
    let one = not_or (n == k) false parts.1 in
    (not_number n k one.0, parts.0)

-- Two instructions that stand otherwise.
module _ (places : BTreeSet Place) (old new : Content) (touched : List ℕ) (m n : ℕ) (state : State) (two : m < n) (apart : state ≢ Unmatched) (same : new.register ≡ old.register)
    (stand : new.standing ≡ standing_both old.standing m n state) where
  still : (at : Place) → at.number ≢ m → at.number ≢ n → IsMatchedPair old at → IsMatchedPair new at
  still at not_m not_n pair = matched_after old new at pair (ap (λ h. instruction_at h at.number) (history_same old new m n state two apart same stand))
      (alike_at (new.standing at.number) (old.standing at.number) (at_other old new m n state two apart same stand at.number not_n not_m))

  -- both are touched
  pub two_touched : AreMatched places old (touched ++ m ∷ n ∷ []) → AreMatched places new (touched ++ m ∷ n ∷ [])
  two_touched only = record { each = λ at there none. let apart_from = not_two touched m n at.number none in still at apart_from.0 apart_from.1 (only.each at there none) }

-- they are matched still, for another reason
pub two_wait : (places : BTreeSet Place) (old new : Content) (touched : List ℕ) (m n : ℕ) (reason : Reason) → m < n → new.register ≡ old.register → new.standing ≡ standing_both old.standing m n (Matched reason) → (old.standing m).mate ≡ Some n
    → AreMatched places old touched → AreMatched places new touched
two_wait places old new touched m n reason two same stand back only = record {
  each = λ at there none.
      let pair = only.each at there none in
      elim (cases_eq at.number m) [
        | inl here ↦ absurd (earlier_none old m n at two back here pair)
        | inr not_m ↦ elim (cases_eq at.number n) [
          | inl here ↦
              let stood = at_later old new m n (Matched reason) two (λ e. cc) same stand in
              record {
                later = pair.later;
                mate = m;
                reason = reason;
                is_later = ap (λ h. instruction_at h at.number) (history_same old new m n (Matched reason) two (λ e. cc) same stand) ∙ pair.is_later;
                has_mate = ap (λ k. (new.standing k).mate) here ∙ ap (λ z. z.mate) stood;
                is_earlier = omega arith;
                matched = ap (λ k. (new.standing k).state) here ∙ ap (λ z. z.state) stood;
                day = pair.day;
              }
          | inr not_n ↦ still places old new touched m n (Matched reason) two (λ e. cc) same stand at not_m not_n pair
        ]
      ];
}

-- One entry more, one instruction that stands cancelled, and one message more.

pub placed_more : (places : BTreeSet Place) (history : List Entry) (entry : Entry) → ArePlaced places history → ArePlaced places (history ++ entry ∷ [])
placed_more places history entry placed = record {
  each = λ at there. let was = placed.each at there in ap (option_map (λ i. number_of i.instruction.day)) (instruction_more history entry (length history + 1) at.number refl (λ same. known_apart history at.number at.day was same)) ∙ was;
}
  where
    known_apart : (history : List Entry) (n day : ℕ) → day_at history n ≡ Some day → n ≢ length history + 1
    known_apart history n day is same = by_instruction (instruction_at history n) refl is
      where
        by_instruction : (o : Option Instructed) → instruction_at history n ≡ o → option_map (λ i. number_of i.instruction.day) o ≡ Some day → ⊥
        by_instruction None at e = absurd (cc)
        by_instruction (Some i) at e = let known = instruction_at-known history n i at in let most = known.1 in omega arith

pub only_appended : (places : BTreeSet Place) (touched : List ℕ) (content : Content) (entry : Entry) (reply : Reply) → AreMatched places content touched → AreMatched places (appended entry reply content) touched
only_appended places touched content entry reply only = record { each = λ at there none. matched_still entry reply content at (only.each at there none) }

pub only_cancelled : (places : BTreeSet Place) (touched : List ℕ) (content : Content) (n : ℕ) → (content.standing n).state ≡ Unmatched → AreMatched places content touched → AreMatched places (cancelled n content) (touched ++ n ∷ [])
only_cancelled places touched content n unmatched only = record { each = λ at there none. matched_beside n content unmatched at (only.each at there (not_one touched n at.number none).1) }

pub only_sent : (places : BTreeSet Place) (touched : List ℕ) (content : Content) (message : Sent) → AreMatched places content touched → AreMatched places (with_sent message content) touched
only_sent places touched content message only = record { each = λ at there none. matched_after content (with_sent message content) at (only.each at there none) refl (record { mate = refl; state = refl }) }

-- A pair that was tried.
pub only_tried : (places : BTreeSet Place) (touched : List ℕ) (old new : Content) (n m : ℕ) (earlier later : Instructed) (outcome : Outcome) → IsTried old m n earlier later outcome new → AreMatched places old touched → AreMatched places new (then_touched outcome m n touched)
only_tried places touched old new n m earlier later outcomes.Settled tried only =
    let is = tried.ends.2 in
    two_touched places old new touched m n Settled tried.two (λ e. cc) (ap (λ c. c.register) is) (ap (λ c. c.standing) is) (more_touched places old touched (m ∷ n ∷ []) only)
only_tried places touched old new n m earlier later (Lacks lack) tried only =
    let is = (lacked old n m earlier later lack new tried.ends).1 in
    two_wait places old new touched m n (reason_of_lack (Some lack)) tried.two (ap (λ c. c.register) is) (ap (λ c. c.standing) is) tried.back only

-- By a call's result, in a group that has not failed.
module _ (places places' : BTreeSet Place) (noted noted' : List Entry) (touched touched' : List ℕ) (old new : Rows) (begun : (view_of_rows old).stage ≡ Begun) (placed : ArePlaced places' (history_of (view_of_rows old).mark ++ noted'))
    (kept : (content : Content) → AreMatched places content touched → AreMatched places' content touched') (holds : HoldsMatched (view_of_rows old) places noted touched) where
  pub only_by : {T : Type 0} (r : Result T Fault) (content : Content) → (AreMatched places (view_of_rows old).content touched → AreMatched places' content touched') → OnOk r ((view_of_rows new).content ≡ content) → OnOk r (Stays (view_of_rows old) (view_of_rows new))
      → OnErr r (Falls (view_of_rows old) (view_of_rows new)) → HoldsMatched (view_of_rows new) places' noted' touched'
  only_by (Ok x) content goes made ok err = only_changed places places' noted noted' touched touched' (view_of_rows old) (view_of_rows new) (ok.mark tt tt) placed kept
      (subst (λ c. AreMatched places' c touched') (sym made) (goes (holds.now (begun_is_not_failed (view_of_rows old).stage begun)))) holds
  only_by (Err f) content goes made ok err = record {
    placed = subst (λ m. ArePlaced places' (history_of m ++ noted')) (sym (err.mark tt tt)) placed;
    marked = subst (λ m. AreMatched places' m touched') (sym (err.mark tt tt)) (kept (view_of_rows old).mark holds.marked);
    now = λ up. absurd (up (err.stage ∙ ap fallen begun));
  }

-- the places are those of instructions of what is held, too
pub placed_now : (places : BTreeSet Place) (noted : List Entry) (view : View) → history_of view.content ≡ history_of view.mark ++ noted → ArePlaced places (history_of view.mark ++ noted) → ArePlaced places (history_of view.content)
placed_now places noted view grown placed = subst (ArePlaced places) (sym grown) placed

pub placed_then : (places : BTreeSet Place) (noted : List Entry) (view : View) → history_of view.content ≡ history_of view.mark ++ noted → ArePlaced places (history_of view.content) → ArePlaced places (history_of view.mark ++ noted)
placed_then places noted view grown placed = subst (ArePlaced places) grown placed

-- Places that are taken out.

pub fewer_due : (old new : BTreeSet Place) → ((q : Place) → contains place_cmp old q ≡ false → contains place_cmp new q ≡ false) → FewerDue old new
fewer_due old new all = λ q there. by_bool (contains place_cmp old q) (λ was. was) (λ none. let bad = sym there ∙ all q none in absurd (cc))

-- the place of an entry that is taken back
pub placed_without : (old new : BTreeSet Place) (history : List Entry) (entry : Entry) (i : Instructed) (day n : ℕ) → n ≡ length history + 1 → instructed entry ≡ Some i → day ≡ number_of i.instruction.day
    → FewerDue old new → contains place_cmp new (place_at day n) ≡ false → ArePlaced old (history ++ entry ∷ []) → ArePlaced new history
placed_without old new history entry i day n is gives is_day fewer gone placed = record {
  each = λ at there.
      let was = placed.each at (fewer at there) in
      elim (cases_eq at.number n) [
        | inl here ↦
            let days : Some day ≡ Some at.day = ap Some is_day ∙ sym (ap (option_map (λ i. number_of i.instruction.day)) (ap (instruction_at (history ++ entry ∷ [])) here ∙ instruction_end history entry n is ∙ gives)) ∙ was in
            let same : day ≡ at.day = cc in
            let one : (place_at day n) ≡ at = λ k. record { day = same k; number = sym here k } in
            let bad = sym there ∙ subst (λ z. contains place_cmp new z ≡ false) one gone in
            absurd (cc)
        | inr apart ↦ sym (ap (option_map (λ i. number_of i.instruction.day)) (instruction_more history entry n at.number is apart)) ∙ was
      ];
}

-- an entry that is taken back and gives no instruction has no place
pub placed_before : (places : BTreeSet Place) (history : List Entry) (entry : Entry) (n : ℕ) → n ≡ length history + 1 → instructed entry ≡ None → ArePlaced places (history ++ entry ∷ []) → ArePlaced places history
placed_before places history entry n is none placed = record {
  each = λ at there.
      let was = placed.each at there in
      elim (cases_eq at.number n) [
        | inl here ↦
            let bad : None ≡ Some at.day = sym (ap (option_map (λ i. number_of i.instruction.day)) (ap (instruction_at (history ++ entry ∷ [])) here ∙ instruction_end history entry n is ∙ none)) ∙ was in
            absurd (cc)
        | inr apart ↦ sym (ap (option_map (λ i. number_of i.instruction.day)) (instruction_more history entry n at.number is apart)) ∙ was
      ];
}

pub no_instruction : (entry : Entry) → ((sender : List ℕ) (i : Instruction) → entry ≡ Instruct sender i → ⊥) → instructed entry ≡ None
no_instruction (Instruct sender i) none = absurd (none sender i refl)
no_instruction entry none = refl

-- a number whose pair is matched, and one whose pair is not
pub matched_at : (content : Content) (places : BTreeSet Place) (day n : ℕ) (found : Option Place) → is_some found ≡ true → IfSome found (λ p. (p.number ≡ n) × IsDue content day None p) → ArePlaced places (history_of content)
    → (q : Place) → q.number ≡ n → contains place_cmp places q ≡ true → IsMatchedPair content q
matched_at content places day n None some due placed q here there = absurd (cc)
matched_at content places day n (Some p) some due placed q here there =
    let pair = due.1.pair in
    let number : p.number ≡ q.number = due.0 ∙ sym here in
    let days : Some (number_of pair.later.instruction.day) ≡ Some q.day = sym (ap (option_map (λ i. number_of i.instruction.day)) (sym (ap (instruction_at (history_of content)) number) ∙ pair.is_later)) ∙ placed.each q there in
    let day_is : number_of pair.later.instruction.day ≡ q.day = cc in
    let same : p ≡ q = λ k. record { day = (sym pair.day ∙ day_is) k; number = number k } in
    subst (IsMatchedPair content) same pair

pub due_dropped : (old new : BTreeSet Place) (content : Content) (n most : ℕ) (day : Day) → ((p : Place) → p.number ≡ n → IsDue content most None p → ⊥) → number_of day ≤ most → Some day ≡ option_map (λ i. i.instruction.day) (instruction_at (history_of content) n)
    → ((q : Place) → is_eq (place_cmp (place_at (number_of day) n) q) ≡ false → contains place_cmp new q ≡ contains place_cmp old q) → HasDue old content → HasDue new content
due_dropped old new content n most day none in_time is others has = record {
  each = λ p pair. others p (other_numbered nat_cmp (number_of day) p.day n p.number (λ here.
      let same = day_of_later (history_of content) n day pair.later is (ap (instruction_at (history_of content)) here ∙ pair.is_later) in
      let day_is : number_of day ≡ p.day = ap number_of same ∙ pair.day in
      none p (sym here) (record { pair = pair; by = omega arith; above = refl }))) ∙ has.each p pair;
}

pub none_dropped : (old new : BTreeSet Place) (content : Content) (n : ℕ) (day : Day) → Some day ≡ option_map (λ i. i.instruction.day) (instruction_at (history_of content) n) → FewerDue old new → contains place_cmp new (place_at (number_of day) n) ≡ false
    → ArePlaced old (history_of content) → (q : Place) → q.number ≡ n → contains place_cmp new q ≡ true → ⊥
none_dropped old new content n day is fewer gone placed q here there =
    let days : Some (number_of day) ≡ Some q.day = ap (option_map number_of) is ∙ mapped (instruction_at (history_of content) n) ∙ ap (day_at (history_of content)) (sym here) ∙ placed.each q (fewer q there) in
    let same : number_of day ≡ q.day = cc in
    let one : (place_at (number_of day) n) ≡ q = λ k. record { day = same k; number = sym here k } in
    let bad = sym there ∙ subst (λ z. contains place_cmp new z ≡ false) one gone in
    cc
  where
    mapped : (o : Option Instructed) → option_map number_of (option_map (λ i. i.instruction.day) o) ≡ option_map (λ i. number_of i.instruction.day) o
    mapped None = refl
    mapped (Some i) = refl

-- one number that was touched is looked at
pub untouched_one : (old new : BTreeSet Place) (content : Content) (touched left : List ℕ) (n : ℕ) → touched ≡ left ++ n ∷ [] → FewerDue old new → ((q : Place) → q.number ≡ n → contains place_cmp new q ≡ true → IsMatchedPair content q)
    → AreMatched old content touched → AreMatched new content left
untouched_one old new content touched left n is fewer here only = record {
  each = λ at there none. elim (cases_eq at.number n) [
    | inl same ↦ here at same there
    | inr apart ↦ only.each at (fewer at there) (rw is (not_behind left n at.number apart none))
  ];
}
  where
    other_number : (n k : ℕ) → k ≢ n → (n == k) ≡ false
    other_number n k apart = grind (arith, apart)

    not_behind : (left : List ℕ) (n k : ℕ) → k ≢ n → list_any (λ j. j == k) left ≡ false → list_any (λ j. j == k) (left ++ n ∷ []) ≡ false
    not_behind [] n k apart none = rw (other_number n k apart) refl
    not_behind (x ∷ left) n k apart none = let parts = not_or (x == k) (list_any (λ j. j == k) left) none in rw (parts.0, not_behind left n k apart parts.1) refl

pub none_of : {X : Type 0} {P : Type 0} (found : Option X) → is_some found ≡ false → IfNone found P → P
none_of None none p = p
none_of (Some x) none p = absurd (cc)

-- one entry more is noted
pub only_noted : (places : BTreeSet Place) (noted noted' : List Entry) (view : View) (entry : Entry) → noted' ≡ noted ++ entry ∷ [] → ArePlaced places (history_of view.mark ++ noted) → ArePlaced places (history_of view.mark ++ noted')
only_noted places noted noted' view entry more placed =
    subst (ArePlaced places) (append_assoc (history_of view.mark) noted (entry ∷ []) ∙ ap (λ z. history_of view.mark ++ z) (sym more)) (placed_more places (history_of view.mark ++ noted) entry placed)

-- whatever a pair that was tried came to
pub touched_then : (places : BTreeSet Place) (content : Content) (touched : List ℕ) (n m : ℕ) (outcome : Outcome) → AreMatched places content touched → AreMatched places content (then_touched outcome m n touched)
touched_then places content touched n m outcomes.Settled only = more_touched places content touched (m ∷ n ∷ []) only
touched_then places content touched n m (Lacks lack) only = only

-- A place that is put in.

pub opened_at : (places : BTreeSet Place) (o : Option Instructed) (n d : ℕ) (day : Day) → Some day ≡ option_map (λ i. i.instruction.day) o → d ≡ number_of day → contains place_cmp places (place_at d n) ≡ true → PlacedAt places o n
opened_at places None n d day is same there = tt
opened_at places (Some i) n d day is same there = let one : day ≡ i.instruction.day = cc in subst (λ z. contains place_cmp places (place_at z n) ≡ true) (same ∙ ap number_of one) there

pub opened_all : {E : Type 0} (r : Result (Unit {0}) E) (places : BTreeSet Place) (o : Option Instructed) (n d : ℕ) (day : Day) → Some day ≡ option_map (λ i. i.instruction.day) o → d ≡ number_of day → OnOk r (contains place_cmp places (place_at d n) ≡ true) → OnOk r (PlacedAt places o n)
opened_all (Ok x) places o n d day is same there = opened_at places o n d day is same there
opened_all (Err e) places o n d day is same there = tt

pub placed_with : (old new : BTreeSet Place) (history : List Entry) (n d : ℕ) (day : Day) → Some day ≡ option_map (λ i. i.instruction.day) (instruction_at history n) → d ≡ number_of day
    → ((q : Place) → is_eq (place_cmp (place_at d n) q) ≡ false → contains place_cmp new q ≡ contains place_cmp old q) → ArePlaced old history → ArePlaced new history
placed_with old new history n d day is same others placed = record {
  each = λ at there. by_place (place_at d n) at
      (λ here.
      let own : day_at history n ≡ Some d = sym (ap (option_map number_of) is ∙ mapped (instruction_at history n)) ∙ ap Some (sym same) in
      subst (λ (z : Place). day_at history z.number ≡ Some z.day) here own)
      (λ apart. placed.each at (sym (others at apart) ∙ there));
}
  where
    mapped : (o : Option Instructed) → option_map number_of (option_map (λ i. i.instruction.day) o) ≡ option_map (λ i. number_of i.instruction.day) o
    mapped None = refl
    mapped (Some i) = refl

pub others_of : (old new : BTreeSet Place) (n d : ℕ) → ((q : Place) → is_eq (place_cmp (place_at d n) q) ≡ false → contains place_cmp new q ≡ contains place_cmp old q) → (q : Place) → q.number ≢ n → contains place_cmp new q ≡ contains place_cmp old q
others_of old new n d others q apart = others q (other_numbered nat_cmp d q.day n q.number (λ same. apart (sym same)))

pub kept_with : (old new : BTreeSet Place) (touched touched' : List ℕ) (m n : ℕ) → touched' ≡ touched ++ m ∷ n ∷ [] → ((q : Place) → q.number ≢ n → contains place_cmp new q ≡ contains place_cmp old q)
    → (content : Content) → AreMatched old content touched → AreMatched new content touched'
kept_with old new touched touched' m n more others content only = subst (AreMatched new content) (sym more) (record {
  each = λ at there none. let parts = not_two touched m n at.number none in only.each at (sym (others at parts.1) ∙ there) parts.2;
})

-- Where there is no place.
pub none_found : (places : BTreeSet Place) (noted : List Entry) (touched : List ℕ) (view : View) → places.keys ≡ [] → HoldsMatched view places noted touched
none_found places noted touched view none =
    let nowhere : (at : Place) → contains place_cmp places at ≡ false = λ at. rw none refl in
    record {
      placed = record { each = λ at there. let bad = sym there ∙ nowhere at in absurd (cc) };
      marked = record { each = λ at there untouched. let bad = sym there ∙ nowhere at in absurd (cc) };
      now = λ up. record { each = λ at there untouched. let bad = sym there ∙ nowhere at in absurd (cc) };
    }
