-- The look-ups of the register through its calls.
use Rattle.std.proofs.Common.{◌≡◌, ◌≢◌, ℕ, ◌+◌, ◌<◌, true, List, [], ◌∷◌, ◌++◌, length, map, Some, None, refl, ap, sym, ◌∙◌, subst, arith, inl, inr, append_assoc}
use Rattle.std.specs.Prelude.{Result, Ok, Err, OnOk, OnErr, IfOk}
use Rattle.std.specs.BTreeSet.{BTreeSet, contains}
use Rattle.std.proofs.lemmas.Bool.{cases_eq}
use Rattle.std.proofs.lemmas.List.{length-append}
use Rattle.desk_codes.specs.Number.{number_of}
use Rattle.desk_msg.specs.declared.writing.status.Reason.{Reason}
use Rattle.desk_msg.specs.declared.writing.status.Reason.TheVariants.{Future, Lack, Money as LackOfMoney}
use Rattle.desk_rules.specs.declared.history.entry.Entry.{Entry}
use Rattle.desk_rules.specs.declared.history.entry.Instructed.{Instructed}
use Rattle.desk_rules.specs.declared.answers.reply.Kept.{Kept}
use Rattle.desk_rules.specs.declared.answers.reply.Reply.{Reply}
use Rattle.desk_rules.specs.declared.answers.reply.Sent.{Sent}
use Rattle.desk_rules.specs.declared.history.standing.State.{State}
use Rattle.desk_rules.specs.declared.history.standing.State.TheVariants.{Cancelled, Unmatched, Matched, Settled}
use Rattle.desk_rules.specs.declared.history.pair.Place.{Place}
use Rattle.desk_rules.specs.History.{instructed, instruction_at}
use Rattle.memory_rows.specs.declared.rows.Rows.{Rows}
use Rattle.desk_register.specs.declared.register.Fault.{Fault}
use Rattle.desk_rules.specs.declared.history.standing.Standing.{Standing}
use Rattle.memory_register.specs.NumbersByKey.{numbered_cmp}
use Rattle.desk_register.specs.declared.register.Stage.{Stage}
use Rattle.desk_register.specs.declared.register.Stage.TheVariants.{Idle, Begun, Failed}
use Rattle.memory_register.specs.declared.entries.known.Known.{Known}
use Rattle.memory_register.specs.declared.pairs.match_key.MatchKey.{MatchKey}
use Rattle.desk_rules.specs.declared.history.pair.Lack.TheVariants.{Securities, Money as LacksMoney}
use Rattle.desk_register.specs.declared.outcome.Outcome.{Outcome}
use Rattle.desk_register.specs.declared.outcome.Outcome.TheVariants as outcomes
use Rattle.desk_register.specs.declared.outcome.Outcome.TheVariants.{Lacks}
use Rattle.desk_register.specs.Changes.{CanSettle, TriesPair, TriesSides, appended, cancelled, first_standing, pair_cancelled, paired, standing_at, standing_both, with_sent}
use Rattle.desk_rules.specs.Content.{Content, history_of}
use Rattle.desk_register.specs.Looked.{IsMatchedPair}
use Rattle.memory_short.specs.DuePlaces.{HasDue, HoldsDue, PlacedAt, place_at}
use Rattle.desk_rules.specs.Places.{place_cmp}
use Rattle.memory_short.proofs.StandingLemmas.{instruction_end, instruction_more, no_mate, history_more, standing_here, standing_other, noted_alike, size_of, n_is, noted, stands_otherwise, history_same, at_later, at_earlier, at_other}
use Rattle.memory_register.specs.Indexed.{HoldsOn, IsIndexed}
use Rattle.memory_register.specs.Known.{AreKnown}
use Rattle.memory_rows.specs.RowsView.{view_of_rows}
use Rattle.memory_register.specs.Open.{HasOpen, HoldsOpen, OpensAt, key_of, match_cmp}
use Rattle.desk_register.specs.View.{View, Begins, Stays, Falls, IsRead, fallen}

-- with no `begin` open, `back` would go back to what is held
pub idle_mark : (r : Rows) → (view_of_rows r).stage ≡ Idle → (view_of_rows r).mark ≡ (view_of_rows r).content
idle_mark r idle = let none = r.idle idle in rw none refl

pub idle_is_not_failed : (s : Stage) → s ≡ Idle → s ≢ Failed
idle_is_not_failed s e f = let bad = sym e ∙ f in cc

pub begun_is_not_failed : (s : Stage) → s ≡ Begun → s ≢ Failed
begun_is_not_failed s e f = let bad = sym e ∙ f in cc

pub begun_is_not_idle : (s : Stage) → s ≡ Begun → s ≢ Idle
begun_is_not_idle s e f = let bad = sym e ∙ f in cc

-- a stage from which a failed call leads on is none in which a call failed
pub not_fallen : (s t : Stage) → t ≡ fallen s → t ≢ Failed → s ≡ Idle
not_fallen Idle t e apart = refl
not_fallen Begun t e apart = absurd (apart e)
not_fallen Failed t e apart = absurd (apart e)

pub fallen_idle : (s t : Stage) → t ≡ fallen s → t ≡ Idle → s ≡ Idle
fallen_idle Idle t e idle = refl
fallen_idle Begun t e idle = let bad = sym e ∙ idle in cc
fallen_idle Failed t e idle = let bad = sym e ∙ idle in cc

pub append_nothing : {X : Type 0} (xs : List X) → xs ++ [] ≡ xs
append_nothing [] = refl
append_nothing (x ∷ xs) = ap (λ z. x ∷ z) (append_nothing xs)

module _ (known : Known) (numbers : BTreeSet (MatchKey × ℕ)) (places : BTreeSet Place) (noted : List Entry) (old new : View) (indexed : IsIndexed old known numbers places noted) where
  -- after a call that failed
  pub fell : new.stage ≡ fallen old.stage → new.mark ≡ old.mark → (old.stage ≡ Idle → new.content ≡ old.content) → IsIndexed new known numbers places noted
  fell stage mark content = record {
    idle = λ idle. indexed.idle (fallen_idle old.stage new.stage stage idle);
    keyed = subst (λ m. AreKnown known (history_of m ++ noted)) (sym mark) indexed.keyed;
    grown = λ apart. let was = not_fallen old.stage new.stage stage apart in ap history_of (content was) ∙ indexed.grown (idle_is_not_failed old.stage was) ∙ ap (λ m. history_of m ++ noted) (sym mark);
    open_marked = subst (HasOpen numbers) (sym mark) indexed.open_marked;
    open_now = λ apart. let was = not_fallen old.stage new.stage stage apart in subst (HasOpen numbers) (sym (content was)) (indexed.open_now (idle_is_not_failed old.stage was));
    due_marked = subst (HasDue places) (sym mark) indexed.due_marked;
    due_now = λ apart. let was = not_fallen old.stage new.stage stage apart in subst (HasDue places) (sym (content was)) (indexed.due_now (idle_is_not_failed old.stage was));
  }

  -- after a call that changed nothing
  pub stayed : new.stage ≡ old.stage → new.mark ≡ old.mark → new.content ≡ old.content → IsIndexed new known numbers places noted
  stayed stage mark content = record {
    idle = λ idle. indexed.idle (sym stage ∙ idle);
    keyed = subst (λ m. AreKnown known (history_of m ++ noted)) (sym mark) indexed.keyed;
    grown = λ apart. ap history_of content ∙ indexed.grown (λ failed. apart (stage ∙ failed)) ∙ ap (λ m. history_of m ++ noted) (sym mark);
    open_marked = subst (HasOpen numbers) (sym mark) indexed.open_marked;
    open_now = λ apart. subst (HasOpen numbers) (sym content) (indexed.open_now (λ failed. apart (stage ∙ failed)));
    due_marked = subst (HasDue places) (sym mark) indexed.due_marked;
    due_now = λ apart. subst (HasDue places) (sym content) (indexed.due_now (λ failed. apart (stage ∙ failed)));
  }

  -- what is held is marked
  pub begun : old.stage ≡ Idle → new.stage ≡ Begun → new.mark ≡ old.content → new.content ≡ old.content → IsIndexed new known numbers places noted
  begun idle stage mark content =
      let none = indexed.idle idle in
      let whole = indexed.grown (idle_is_not_failed old.stage idle) in
      let same : history_of new.mark ++ noted ≡ history_of old.mark ++ noted = ap (λ m. history_of m ++ noted) mark ∙ ap (λ z. history_of old.content ++ z) none ∙ append_nothing (history_of old.content) ∙ whole in
      record {
        idle = λ is. absurd (begun_is_not_idle new.stage stage is);
        keyed = subst (AreKnown known) (sym same) indexed.keyed;
        grown = λ apart. ap history_of content ∙ whole ∙ sym same;
        open_marked = subst (HasOpen numbers) (sym mark) (indexed.open_now (idle_is_not_failed old.stage idle));
        open_now = λ apart. subst (HasOpen numbers) (sym content) (indexed.open_now (idle_is_not_failed old.stage idle));
        due_marked = subst (HasDue places) (sym mark) (indexed.due_now (idle_is_not_failed old.stage idle));
        due_now = λ apart. subst (HasDue places) (sym content) (indexed.due_now (idle_is_not_failed old.stage idle));
      }

  -- what was changed is kept: what is known is of what is held
  pub kept_keys : old.stage ≡ Begun → new.content ≡ old.content → AreKnown known (history_of new.content)
  kept_keys stage content = subst (AreKnown known) (sym (ap history_of content ∙ indexed.grown (begun_is_not_failed old.stage stage))) indexed.keyed

-- with no `begin` open, by what is held alone
pub idle_indexed : (known : Known) (numbers : BTreeSet (MatchKey × ℕ)) (places : BTreeSet Place) (noted : List Entry) (new : View) → new.mark ≡ new.content → noted ≡ []
    → AreKnown known (history_of new.content) → HasOpen numbers new.content → HasDue places new.content → IsIndexed new known numbers places noted
idle_indexed known numbers places noted new mark none keyed open_ones due_ones =
    let same : history_of new.mark ++ noted ≡ history_of new.content = ap (λ m. history_of m ++ noted) mark ∙ ap (λ z. history_of new.content ++ z) none ∙ append_nothing (history_of new.content) in
    record {
      idle = λ is. none;
      keyed = subst (AreKnown known) (sym same) keyed;
      grown = λ apart. sym same;
      open_marked = subst (HasOpen numbers) (sym mark) open_ones;
      open_now = λ apart. open_ones;
      due_marked = subst (HasDue places) (sym mark) due_ones;
      due_now = λ apart. due_ones;
    }

-- By a call's result.

module _ (known : Known) (numbers : BTreeSet (MatchKey × ℕ)) (places : BTreeSet Place) (noted : List Entry) (old new : View) (honest : new.is_honest) (was_sure : old.is_sure) (sure : new.is_sure) where
  pub after_begin : old.stage ≡ Idle → Begins old new → IsIndexed old known numbers places noted → IsIndexed new known numbers places noted
  after_begin idle begins indexed = begun known numbers places noted old new indexed idle begins.stage (begins.mark honest was_sure) (begins.content honest was_sure)

  pub after_fall : Falls old new → IsIndexed old known numbers places noted → IsIndexed new known numbers places noted
  after_fall falls indexed = fell known numbers places noted old new indexed falls.stage (falls.mark honest sure) (falls.content honest sure)

  pub after_read : {T : Type 0} (r : Result T Fault) → (new.is_honest → old.is_sure → OnOk r (new.content ≡ old.content)) → OnOk r (Stays old new) → OnErr r (Falls old new)
      → IsIndexed old known numbers places noted → IsIndexed new known numbers places noted
  after_read (Ok x) same ok err indexed = stayed known numbers places noted old new indexed ok.stage (ok.mark honest was_sure) (same honest was_sure)
  after_read (Err f) same ok err indexed = after_fall err indexed

-- what is known is of what is held, where no call has failed
pub now_known : (known : Known) (numbers : BTreeSet (MatchKey × ℕ)) (places : BTreeSet Place) (noted : List Entry) (view : View) → view.stage ≢ Failed → IsIndexed view known numbers places noted → AreKnown known (history_of view.content)
now_known known numbers places noted view up indexed = subst (AreKnown known) (sym (indexed.grown up)) indexed.keyed

-- a reading call keeps the look-ups
pub read_keeps : {T : Type 0} (r : Result T Fault) (known : Known) (numbers : BTreeSet (MatchKey × ℕ)) (places : BTreeSet Place) (noted : List Entry) (old new : Rows)
    → IsRead r (view_of_rows old) (view_of_rows new) → IsIndexed (view_of_rows old) known numbers places noted → IsIndexed (view_of_rows new) known numbers places noted
read_keeps r known numbers places noted old new read = after_read known numbers places noted (view_of_rows old) (view_of_rows new) tt tt tt r read.same read.ok read.err

-- One entry more.

found_more : (old new : BTreeSet (MatchKey × ℕ)) (content : Content) → HoldsOpen old new → HasOpen old content → HasOpen new content
found_more old new content all has = record { each = λ n i is unmatched. all (key_of i, n) (has.each n i is unmatched) }

due_more : (old new : BTreeSet Place) (content : Content) → HoldsDue old new → HasDue old content → HasDue new content
due_more old new content all has = record { each = λ p pair. all p (has.each p pair) }

module _ (entry : Entry) (reply : Reply) (content : Content) (n : ℕ) (is : n ≡ length content.register + 1) where
  open_appended : (numbers : BTreeSet (MatchKey × ℕ)) → HasOpen numbers content → OpensAt numbers (instructed entry) n → HasOpen numbers (appended entry reply content)
  open_appended numbers has opens = record {
    each = λ m i at unmatched. elim (cases_eq m n) [
      | inl here ↦
          let last : instructed entry ≡ Some i = sym (instruction_end (history_of content) entry n (n_is entry reply content n is)) ∙ ap (λ k. instruction_at (history_of content ++ entry ∷ []) k) (sym here) ∙ ap (λ h. instruction_at h m) (sym (history_more entry reply content)) ∙ at in
          subst (λ k. contains (numbered_cmp match_cmp) numbers (key_of i, k) ≡ true) (sym here) (subst (λ o. OpensAt numbers o n) last opens)
      | inr apart ↦
          let before : instruction_at (history_of content) m ≡ Some i = sym (instruction_more (history_of content) entry n m (n_is entry reply content n is) apart) ∙ ap (λ h. instruction_at h m) (sym (history_more entry reply content)) ∙ at in
          let alike = noted_alike entry (history_of content) content.standing m in
          has.each m i before (sym alike.state ∙ ap (λ s. s.state) (stands_otherwise entry reply content n is m apart) ∙ unmatched)
    ];
  }

  due_appended : (places : BTreeSet Place) → HasDue places content → HasDue places (appended entry reply content)
  due_appended places has = record {
    each = λ p pair. elim (cases_eq p.number n) [
      | inl here ↦
          let stood : (appended entry reply content).standing p.number ≡ first_standing entry = ap (appended entry reply content).standing here ∙ subst (λ k. standing_at (noted entry reply content n is) k (first_standing entry) n ≡ first_standing entry) is (standing_here (noted entry reply content n is) n (first_standing entry)) in
          let none : None ≡ Some pair.mate = sym (no_mate entry) ∙ ap (λ s. s.mate) (sym stood) ∙ pair.has_mate in
          absurd (cc)
      | inr apart ↦
          let alike = noted_alike entry (history_of content) content.standing p.number in
          let stood = stands_otherwise entry reply content n is p.number apart in
          has.each p (record {
            later = pair.later;
            mate = pair.mate;
            reason = pair.reason;
            is_later = sym (instruction_more (history_of content) entry n p.number (n_is entry reply content n is) apart) ∙ ap (λ h. instruction_at h p.number) (sym (history_more entry reply content)) ∙ pair.is_later;
            has_mate = sym alike.mate ∙ ap (λ s. s.mate) stood ∙ pair.has_mate;
            is_earlier = pair.is_earlier;
            matched = sym alike.state ∙ ap (λ s. s.state) stood ∙ pair.matched;
            day = pair.day;
          })
    ];
  }

-- Two instructions that stand otherwise.

module _ (old new : Content) (m n : ℕ) (s : State) (two : m < n) (apart : s ≢ Unmatched) (same : new.register ≡ old.register) (stand : new.standing ≡ standing_both old.standing m n s) where
  pub open_restood : (numbers : BTreeSet (MatchKey × ℕ)) → HasOpen numbers old → HasOpen numbers new
  open_restood numbers has = record {
    each = λ k i at unmatched. elim (cases_eq k n) [
      | inl here ↦ absurd (apart (sym (ap (λ z. z.state) (ap new.standing here ∙ at_later old new m n s two apart same stand)) ∙ unmatched))
      | inr not_n ↦ elim (cases_eq k m) [
        | inl here ↦ absurd (apart (sym (ap (λ z. z.state) (ap new.standing here ∙ at_earlier old new m n s two apart same stand)) ∙ unmatched))
        | inr not_m ↦ has.each k i (ap (λ h. instruction_at h k) (sym (history_same old new m n s two apart same stand)) ∙ at) (ap (λ z. z.state) (sym (at_other old new m n s two apart same stand k not_n not_m)) ∙ unmatched)
      ]
    ];
  }

  pub due_restood : (places : BTreeSet Place) → HasDue places old → PlacedAt places (instruction_at (history_of old) n) n → HasDue places new
  due_restood places has placed = record {
    each = λ p pair. elim (cases_eq p.number n) [
      | inl here ↦
          let at : instruction_at (history_of old) n ≡ Some pair.later = ap (λ h. instruction_at h n) (sym (history_same old new m n s two apart same stand)) ∙ ap (instruction_at (history_of new)) (sym here) ∙ pair.is_later in
          let there : contains place_cmp places (place_at (number_of pair.later.instruction.day) n) ≡ true = subst (λ o. PlacedAt places o n) at placed in
          subst (λ d. contains place_cmp places (place_at d p.number) ≡ true) pair.day (subst (λ k. contains place_cmp places (place_at (number_of pair.later.instruction.day) k) ≡ true) (sym here) there)
      | inr not_n ↦ elim (cases_eq p.number m) [
        | inl here ↦
            let mates : Some n ≡ Some pair.mate = sym (ap (λ z. z.mate) (ap new.standing here ∙ at_earlier old new m n s two apart same stand)) ∙ pair.has_mate in
            let mate : n ≡ pair.mate = cc in
            let earlier = pair.is_earlier in
            absurd (omega arith)
        | inr not_m ↦
            let stood = at_other old new m n s two apart same stand p.number not_n not_m in
            has.each p (record {
              later = pair.later;
              mate = pair.mate;
              reason = pair.reason;
              is_later = ap (λ h. instruction_at h p.number) (sym (history_same old new m n s two apart same stand)) ∙ pair.is_later;
              has_mate = ap (λ z. z.mate) (sym stood) ∙ pair.has_mate;
              is_earlier = pair.is_earlier;
              matched = ap (λ z. z.state) (sym stood) ∙ pair.matched;
              day = pair.day;
            })
      ]
    ];
  }

-- The calls that change.

pub after_append : {T : Type 0} (r : Result T Fault) (known known' : Known) (numbers numbers' : BTreeSet (MatchKey × ℕ)) (places : BTreeSet Place) (noted noted' : List Entry) (old new : View) (n : ℕ) (entry : Entry) (reply : Reply)
    → new.is_honest → old.is_sure → new.is_sure → old.stage ≡ Begun → n ≡ length old.content.register + 1 → IsIndexed old known numbers places noted
    → HoldsOpen numbers numbers' → OpensAt numbers' (instructed entry) n → noted' ≡ noted ++ entry ∷ []
    → ((history : List Entry) → AreKnown known history → n ≡ length history + 1 → AreKnown known' (history ++ entry ∷ []))
    → (new.is_honest → old.is_sure → OnOk r (new.content ≡ appended entry reply old.content)) → OnOk r (Stays old new) → OnErr r (Falls old new) → IsIndexed new known' numbers' places noted'
after_append r known known' numbers numbers' places noted noted' old new n entry reply honest was_sure sure stage is indexed all opens more keyed added ok err =
    by_end r added ok err
  where
    apart : old.stage ≢ Failed
    apart = begun_is_not_failed old.stage stage

    whole : history_of old.content ≡ history_of old.mark ++ noted
    whole = indexed.grown apart

    longer : (mark : Content) → mark ≡ old.mark → history_of mark ++ noted' ≡ (history_of old.mark ++ noted) ++ entry ∷ []
    longer mark same = ap (λ z. history_of z ++ noted') same ∙ ap (λ z. history_of old.mark ++ z) more ∙ sym (append_assoc (history_of old.mark) noted (entry ∷ []))

    count : n ≡ length (history_of old.mark ++ noted) + 1
    count = is ∙ ap (λ z. z + 1) (sym (size_of old.content) ∙ ap length whole)

    keys_now : (mark : Content) → mark ≡ old.mark → AreKnown known' (history_of mark ++ noted')
    keys_now mark same = subst (AreKnown known') (sym (longer mark same)) (keyed (history_of old.mark ++ noted) indexed.keyed count)

    by_end : {T : Type 0} (r : Result T Fault) → (new.is_honest → old.is_sure → OnOk r (new.content ≡ appended entry reply old.content)) → OnOk r (Stays old new) → OnErr r (Falls old new) → IsIndexed new known' numbers' places noted'
    by_end (Ok x) added ok err =
        let mark = ok.mark honest was_sure in
        let content = added honest was_sure in
        record {
          idle = λ idle. absurd (begun_is_not_idle old.stage stage (sym ok.stage ∙ idle));
          keyed = keys_now new.mark mark;
          grown = λ up. ap history_of content ∙ history_more entry reply old.content ∙ ap (λ h. h ++ entry ∷ []) whole ∙ sym (longer new.mark mark);
          open_marked = subst (HasOpen numbers') (sym mark) (found_more numbers numbers' old.mark all indexed.open_marked);
          open_now = λ up. subst (HasOpen numbers') (sym content) (open_appended entry reply old.content n is numbers' (found_more numbers numbers' old.content all (indexed.open_now apart)) opens);
          due_marked = subst (HasDue places) (sym mark) indexed.due_marked;
          due_now = λ up. subst (HasDue places) (sym content) (due_appended entry reply old.content n is places (indexed.due_now apart));
        }
    by_end (Err f) added ok err =
        let mark = err.mark honest sure in
        let failed : new.stage ≡ Failed = err.stage ∙ ap fallen stage in
        record {
          idle = λ idle. let bad = sym failed ∙ idle in cc;
          keyed = keys_now new.mark mark;
          grown = λ up. absurd (up failed);
          open_marked = subst (HasOpen numbers') (sym mark) (found_more numbers numbers' old.mark all indexed.open_marked);
          open_now = λ up. absurd (up failed);
          due_marked = subst (HasDue places) (sym mark) indexed.due_marked;
          due_now = λ up. absurd (up failed);
        }

-- the number of one entry more
pub next_count : (known : Known) (numbers : BTreeSet (MatchKey × ℕ)) (places : BTreeSet Place) (noted : List Entry) (view : View) (n : ℕ) → view.stage ≡ Begun → n ≡ length view.content.register → IsIndexed view known numbers places noted
    → n + 1 ≡ length (history_of view.mark ++ noted) + 1
next_count known numbers places noted view n stage is indexed = ap (λ z. z + 1) (is ∙ sym (size_of view.content) ∙ ap length (indexed.grown (begun_is_not_failed view.stage stage)))

-- a failure before the call: what was found is found
pub after_failure : (known known' : Known) (numbers numbers' : BTreeSet (MatchKey × ℕ)) (places places' : BTreeSet Place) (noted noted' : List Entry) (old new : View) → IsIndexed old known numbers places noted
    → new.stage ≡ Failed → new.mark ≡ old.mark → HoldsOpen numbers numbers' → HoldsDue places places' → noted' ≡ noted → (AreKnown known (history_of old.mark ++ noted) → AreKnown known' (history_of old.mark ++ noted))
    → IsIndexed new known' numbers' places' noted'
after_failure known known' numbers numbers' places places' noted noted' old new indexed failed mark all_open all_due same keyed = record {
  idle = λ idle. let bad = sym failed ∙ idle in cc;
  keyed = subst (AreKnown known') (ap (λ z. history_of old.mark ++ z) (sym same) ∙ ap (λ m. history_of m ++ noted') (sym mark)) (keyed indexed.keyed);
  grown = λ up. absurd (up failed);
  open_marked = subst (HasOpen numbers') (sym mark) (found_more numbers numbers' old.mark all_open indexed.open_marked);
  open_now = λ up. absurd (up failed);
  due_marked = subst (HasDue places') (sym mark) (due_more places places' old.mark all_due indexed.due_marked);
  due_now = λ up. absurd (up failed);
}

-- two instructions came to stand otherwise
pub after_standing : (known : Known) (numbers : BTreeSet (MatchKey × ℕ)) (places places' : BTreeSet Place) (noted : List Entry) (old new : View) (m n : ℕ) (s : State)
    → new.is_honest → old.is_sure → old.stage ≡ Begun → IsIndexed old known numbers places noted → Stays old new → m < n → s ≢ Unmatched
    → HoldsDue places places' → PlacedAt places' (instruction_at (history_of old.content) n) n → new.content.register ≡ old.content.register → new.content.standing ≡ standing_both old.content.standing m n s
    → IsIndexed new known numbers places' noted
after_standing known numbers places places' noted old new m n s honest was_sure stage indexed ok two other all placed register standing =
    let apart = begun_is_not_failed old.stage stage in
    let mark = ok.mark honest was_sure in
    record {
      idle = λ idle. absurd (begun_is_not_idle old.stage stage (sym ok.stage ∙ idle));
      keyed = subst (λ z. AreKnown known (history_of z ++ noted)) (sym mark) indexed.keyed;
      grown = λ up. ap (λ r. map (λ k. k.entry) r) register ∙ indexed.grown apart ∙ ap (λ z. history_of z ++ noted) (sym mark);
      open_marked = subst (HasOpen numbers) (sym mark) indexed.open_marked;
      open_now = λ up. open_restood old.content new.content m n s two other register standing numbers (indexed.open_now apart);
      due_marked = subst (HasDue places') (sym mark) (due_more places places' old.mark all indexed.due_marked);
      due_now = λ up. due_restood old.content new.content m n s two other register standing places' (due_more places places' old.content all (indexed.due_now apart)) placed;
    }

-- the call failed
pub after_fault : (known : Known) (numbers : BTreeSet (MatchKey × ℕ)) (places places' : BTreeSet Place) (noted : List Entry) (old new : View) → new.is_honest → new.is_sure → old.stage ≡ Begun → IsIndexed old known numbers places noted
    → HoldsDue places places' → Falls old new → IsIndexed new known numbers places' noted
after_fault known numbers places places' noted old new honest sure stage indexed all falls =
    after_failure known known numbers numbers places places' noted noted old new indexed (falls.stage ∙ ap fallen stage) (falls.mark honest sure) (λ q there. there) all refl (λ k. k)

module _ (known : Known) (numbers : BTreeSet (MatchKey × ℕ)) (places places' : BTreeSet Place) (noted : List Entry) (old new : View) (honest : new.is_honest) (was_sure : old.is_sure) (sure : new.is_sure)
    (stage : old.stage ≡ Begun) (indexed : IsIndexed old known numbers places noted) (all : HoldsDue places places') where
  pub after_pair : {T : Type 0} (r : Result T Fault) (m n : ℕ) → m < n → PlacedAt places' (instruction_at (history_of old.content) n) n
      → (new.is_honest → old.is_sure → OnOk r (new.content ≡ paired m n old.content)) → OnOk r (Stays old new) → OnErr r (Falls old new) → IsIndexed new known numbers places' noted
  after_pair (Ok x) m n two placed added ok err =
      let content = added honest was_sure in
      after_standing known numbers places places' noted old new m n (Matched Future) honest was_sure stage indexed ok two (λ e. cc) all placed (ap (λ c. c.register) content) (ap (λ c. c.standing) content)
  after_pair (Err f) m n two placed added ok err = after_fault known numbers places places' noted old new honest sure stage indexed all err

  settled_so : (n mate : ℕ) (earlier later : Instructed) (outcome : Outcome) → mate < n → PlacedAt places' (instruction_at (history_of old.content) n) n → Stays old new
      → TriesSides old.content n mate earlier later outcome new.content → IsIndexed new known numbers places' noted
  settled_so n mate earlier later outcomes.Settled two placed ok ends =
      after_standing known numbers places places' noted old new mate n Settled honest was_sure stage indexed ok two (λ e. cc) all placed (ap (λ c. c.register) ends.2) (ap (λ c. c.standing) ends.2)
  settled_so n mate earlier later (Lacks Securities) two placed ok ends =
      after_standing known numbers places places' noted old new mate n (Matched Lack) honest was_sure stage indexed ok two (λ e. cc) all placed (ap (λ c. c.register) ends.1) (ap (λ c. c.standing) ends.1)
  settled_so n mate earlier later (Lacks LacksMoney) two placed ok ends =
      after_standing known numbers places places' noted old new mate n (Matched LackOfMoney) honest was_sure stage indexed ok two (λ e. cc) all placed (ap (λ c. c.register) ends.2) (ap (λ c. c.standing) ends.2)

  -- the pair of a number that can settle has its place already
  placed_already : (n : ℕ) {day : ℕ} → CanSettle old.content n day → PlacedAt places' (instruction_at (history_of old.content) n) n
  placed_already n can =
      let day = number_of can.later.instruction.day in
      let pair : IsMatchedPair old.content (record { day = day; number = n }) = record {
        later = can.later;
        mate = can.mate;
        reason = can.later_reason;
        is_later = can.pair.is_later;
        has_mate = can.pair.has_mate;
        is_earlier = can.two;
        matched = can.later_matched;
        day = refl;
      } in
      subst (λ o. PlacedAt places' o n) (sym can.pair.is_later) (all (place_at day n) ((indexed.due_now (begun_is_not_failed old.stage stage)).each (record { day = day; number = n }) pair))

  pub after_settle : (r : Result Outcome Fault) (n : ℕ) {day : ℕ} → CanSettle old.content n day
      → (new.is_honest → old.is_sure → IfOk r (λ outcome. TriesPair old.content n outcome new.content)) → OnOk r (Stays old new) → OnErr r (Falls old new) → IsIndexed new known numbers places' noted
  after_settle (Ok outcome) n can settles ok err =
      let s = settles honest was_sure in
      let mates : Some s.mate ≡ Some can.mate = sym s.pair.has_mate ∙ can.pair.has_mate in
      let mate : s.mate ≡ can.mate = cc in
      let less = can.two in
      settled_so n s.mate s.earlier s.later outcome (omega arith) (placed_already n can) ok s.ends
  after_settle (Err f) n can settles ok err = after_fault known numbers places places' noted old new honest sure stage indexed all err

-- what was added since `begin` is tidied
pub retidied : (known : Known) (numbers numbers' : BTreeSet (MatchKey × ℕ)) (places places' : BTreeSet Place) (noted : List Entry) (count : ℕ) (view : View) → view.stage ≢ Failed → count ≡ length noted
    → HoldsOn (HasOpen numbers) (HasOpen numbers') view.content count → HoldsOn (HasDue places) (HasDue places') view.content count → IsIndexed view known numbers places noted → IsIndexed view known numbers' places' noted
retidied known numbers numbers' places places' noted count view apart is open_on due_on indexed =
    let whole = ap length (indexed.grown apart) in
    let parts = length-append (history_of view.mark) noted in
    let held = size_of view.content in
    let marked = size_of view.mark in
    let fewer : length view.mark.register + count ≡ length view.content.register = omega arith in
    record {
      idle = indexed.idle;
      keyed = indexed.keyed;
      grown = indexed.grown;
      open_marked = open_on.marked view.mark fewer indexed.open_marked;
      open_now = λ up. open_on.now (indexed.open_now up);
      due_marked = due_on.marked view.mark fewer indexed.due_marked;
      due_now = λ up. due_on.now (indexed.due_now up);
    }

pub still_begun : (old new : View) → old.stage ≡ Begun → Stays old new → new.stage ≢ Failed
still_begun old new stage ok failed = let bad = sym stage ∙ sym ok.stage ∙ failed in cc

-- Fewer instructions are unmatched than were, and fewer pairs matched, where some came to stand cancelled.

record StandsFewer (old new : Content) : Type 0 where
  pub register : new.register ≡ old.register
  pub unmatched : (k : ℕ) → (new.standing k).state ≡ Unmatched → (old.standing k).state ≡ Unmatched
  pub matched : (k m : ℕ) (reason : Reason) → (new.standing k).mate ≡ Some m → (new.standing k).state ≡ Matched reason → ((old.standing k).mate ≡ Some m) × ((old.standing k).state ≡ Matched reason)

open_fewer : (old new : Content) (numbers : BTreeSet (MatchKey × ℕ)) → StandsFewer old new → HasOpen numbers old → HasOpen numbers new
open_fewer old new numbers fewer has = record {
  each = λ k i at unmatched. has.each k i (ap (λ r. instruction_at (map (λ (x : Kept). x.entry) r) k) (sym fewer.register) ∙ at) (fewer.unmatched k unmatched);
}

due_fewer : (old new : Content) (places : BTreeSet Place) → StandsFewer old new → HasDue places old → HasDue places new
due_fewer old new places fewer has = record {
  each = λ p pair.
      let was = fewer.matched p.number pair.mate pair.reason pair.has_mate pair.matched in
      has.each p (record {
        later = pair.later;
        mate = pair.mate;
        reason = pair.reason;
        is_later = ap (λ r. instruction_at (map (λ (x : Kept). x.entry) r) p.number) (sym fewer.register) ∙ pair.is_later;
        has_mate = was.0;
        is_earlier = pair.is_earlier;
        matched = was.1;
        day = pair.day;
      });
}

-- one stands cancelled, and the rest as before
one_fewer : (st : ℕ → Standing) (n k m : ℕ) (s : Standing) (reason : Reason) → s.state ≡ Cancelled
    → ((standing_at st n s k).state ≡ Unmatched → (st k).state ≡ Unmatched) × ((standing_at st n s k).mate ≡ Some m → (standing_at st n s k).state ≡ Matched reason → ((st k).mate ≡ Some m) × ((st k).state ≡ Matched reason))
one_fewer st n k m s reason gone = elim (cases_eq k n) [
  | inl here ↦
      let same : standing_at st n s k ≡ s = ap (standing_at st n s) here ∙ standing_here st n s in
      let state : (standing_at st n s k).state ≡ Cancelled = ap (λ z. z.state) same ∙ gone in
      (λ e. absurd (let bad : Cancelled ≡ Unmatched = sym state ∙ e in cc), λ mate e. absurd (let bad : Cancelled ≡ Matched reason = sym state ∙ e in cc))
  | inr apart ↦
      let same : standing_at st n s k ≡ st k = standing_other st n k s apart in
      (λ e. ap (λ z. z.state) (sym same) ∙ e, λ mate e. (ap (λ z. z.mate) (sym same) ∙ mate, ap (λ z. z.state) (sym same) ∙ e))
]

cancelled_fewer : (n : ℕ) (old : Content) → StandsFewer old (cancelled n old)
cancelled_fewer n old = record {
  register = refl;
  unmatched = λ k e. let one = one_fewer old.standing n k 0 (record (old.standing n) { state = Cancelled }) Future refl in one.0 e;
  matched = λ k m reason mate e. let one = one_fewer old.standing n k m (record (old.standing n) { state = Cancelled }) reason refl in one.1 mate e;
}

pair_fewer : (m n : ℕ) (old : Content) → StandsFewer old (pair_cancelled m n old)
pair_fewer m n old =
    let first : Standing = record (old.standing m) { mate = Some n; state = Cancelled } in
    let second : Standing = record (old.standing n) { mate = Some m; state = Cancelled } in
    record {
      register = refl;
      unmatched = λ k e.
          let a = one_fewer old.standing m k 0 first Future refl in
          let b = one_fewer (standing_at old.standing m first) n k 0 second Future refl in
          a.0 (b.0 e);
      matched = λ k j reason mate e.
          let a = one_fewer old.standing m k j first reason refl in
          let b = one_fewer (standing_at old.standing m first) n k j second reason refl in
          let was = b.1 mate e in
          a.1 was.0 was.1;
    }

module _ (known : Known) (numbers : BTreeSet (MatchKey × ℕ)) (places : BTreeSet Place) (noted : List Entry) (held new : Rows) (stage : (view_of_rows held).stage ≡ Begun) (indexed : IsIndexed (view_of_rows held) known numbers places noted) where
  fewer_keeps : StandsFewer (view_of_rows held).content (view_of_rows new).content → Stays (view_of_rows held) (view_of_rows new) → IsIndexed (view_of_rows new) known numbers places noted
  fewer_keeps fewer ok =
      let old = view_of_rows held in
      let apart = begun_is_not_failed old.stage stage in
      let mark = ok.mark tt tt in
      record {
        idle = λ idle. absurd (begun_is_not_idle old.stage stage (sym ok.stage ∙ idle));
        keyed = subst (λ z. AreKnown known (history_of z ++ noted)) (sym mark) indexed.keyed;
        grown = λ up. ap (λ r. map (λ (x : Kept). x.entry) r) fewer.register ∙ indexed.grown apart ∙ ap (λ z. history_of z ++ noted) (sym mark);
        open_marked = subst (HasOpen numbers) (sym mark) indexed.open_marked;
        open_now = λ up. open_fewer old.content (view_of_rows new).content numbers fewer (indexed.open_now apart);
        due_marked = subst (HasDue places) (sym mark) indexed.due_marked;
        due_now = λ up. due_fewer old.content (view_of_rows new).content places fewer (indexed.due_now apart);
      }

  fallen_keeps : Falls (view_of_rows held) (view_of_rows new) → IsIndexed (view_of_rows new) known numbers places noted
  fallen_keeps falls = after_fault known numbers places places noted (view_of_rows held) (view_of_rows new) tt tt stage indexed (λ q there. there) falls

  pub after_cancel : {T : Type 0} (r : Result T Fault) (n : ℕ) → OnOk r ((view_of_rows new).content ≡ cancelled n (view_of_rows held).content) → OnOk r (Stays (view_of_rows held) (view_of_rows new)) → OnErr r (Falls (view_of_rows held) (view_of_rows new))
      → IsIndexed (view_of_rows new) known numbers places noted
  after_cancel (Ok x) n made ok err = fewer_keeps (subst (StandsFewer (view_of_rows held).content) (sym made) (cancelled_fewer n (view_of_rows held).content)) ok
  after_cancel (Err f) n made ok err = fallen_keeps err

  pub after_cancel_pair : {T : Type 0} (r : Result T Fault) (m n : ℕ) → OnOk r ((view_of_rows new).content ≡ pair_cancelled m n (view_of_rows held).content) → OnOk r (Stays (view_of_rows held) (view_of_rows new)) → OnErr r (Falls (view_of_rows held) (view_of_rows new))
      → IsIndexed (view_of_rows new) known numbers places noted
  after_cancel_pair (Ok x) m n made ok err = fewer_keeps (subst (StandsFewer (view_of_rows held).content) (sym made) (pair_fewer m n (view_of_rows held).content)) ok
  after_cancel_pair (Err f) m n made ok err = fallen_keeps err

  pub after_send : {T : Type 0} (r : Result T Fault) (message : Sent) → OnOk r ((view_of_rows new).content ≡ with_sent message (view_of_rows held).content) → OnOk r (Stays (view_of_rows held) (view_of_rows new)) → OnErr r (Falls (view_of_rows held) (view_of_rows new))
      → IsIndexed (view_of_rows new) known numbers places noted
  after_send (Ok x) message made ok err = fewer_keeps (subst (StandsFewer (view_of_rows held).content) (sym made) (record { register = refl; unmatched = λ k e. e; matched = λ k m reason mate e. (mate, e) })) ok
  after_send (Err f) message made ok err = fallen_keeps err
