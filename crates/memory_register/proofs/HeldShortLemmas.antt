-- Which pairs of an indexed register are known to stay short, through its calls.
use Rattle.std.proofs.Common.{◌≡◌, ℕ, true, false, map, Some, refl, ap, sym, ◌∙◌, subst, arith}
use Rattle.std.specs.Prelude.{Result, Ok, Err, OnOk, OnErr}
use Rattle.desk_codes.specs.Number.{number_of}
use Rattle.desk_rules.specs.declared.history.entry.Entry.{Entry}
use Rattle.desk_rules.specs.declared.history.entry.Instructed.{Instructed}
use Rattle.desk_rules.specs.declared.history.standing.State.TheVariants.{Cancelled}
use Rattle.desk_rules.specs.declared.answers.reply.Reply.{Reply}
use Rattle.desk_rules.specs.declared.answers.reply.Sent.{Sent}
use Rattle.desk_msg.specs.declared.writing.status.Reason.TheVariants.{Future}
use Rattle.desk_rules.specs.Content.{Content, history_of}
use Rattle.desk_rules.specs.History.{instruction_at}
use Rattle.desk_register.specs.declared.outcome.Outcome.{Outcome}
use Rattle.desk_register.specs.declared.outcome.Outcome.TheVariants.{Lacks, Settled}
use Rattle.desk_rules.specs.declared.answers.reply.Kept.{Kept}
use Rattle.desk_rules.specs.declared.history.pair.Lack.TheVariants.{Securities, Money}
use Rattle.desk_register.specs.declared.register.Fault.{Fault}
use Rattle.desk_register.specs.declared.register.Stage.TheVariants.{Idle, Begun, Failed}
use Rattle.desk_register.specs.Changes.{CanCancelPair, CanPair, CanSettle, IsPairAt, TriesPair, TriesSides, appended, pair_cancelled, paired, with_sent}
use Rattle.desk_register.specs.View.{View, Begins, Falls, IsRead, fallen}
use Rattle.memory_rows.specs.declared.rows.Rows.{Rows}
use Rattle.memory_rows.specs.RowsView.{view_of_rows}
use Rattle.memory_rows.specs.Transfers.{IsTransferAt, transfer_of}
use Rattle.memory_short.specs.DuePlaces.{place_at}
use Rattle.memory_short.specs.Shortages.{Brings, HoldsShort, IsBroughtIfAny, IsNotedTried, KnowsShort, PutsIn, TakesOut}
use Rattle.memory_short.specs.Wants.{woken_by}
use Rattle.memory_short.specs.declared.shortages.Shortages.{Shortages}
use Rattle.memory_register.proofs.IndexedLemmas.{begun_is_not_failed, idle_is_not_failed, not_fallen}
use Rattle.memory_short.proofs.ShortageLemmas.{IsTried, after_appended, after_end, after_made, after_nothing, after_tried, forgotten, known_or_not, same_not_come}

-- where nothing is known nothing is said
pub short_forgotten : (s : Shortages) (view : View) → s.is_known ≡ false → HoldsShort view s
short_forgotten s view none = record { now = λ up. forgotten s none view.content }

-- of a content that is known
pub short_of : (s : Shortages) (view : View) (content : Content) → view.content ≡ content → KnowsShort s content → HoldsShort view s
short_of s view content same knows = record { now = λ up. subst (KnowsShort s) (sym same) knows }

pub short_failed : (s : Shortages) (view : View) → view.stage ≡ Failed → HoldsShort view s
short_failed s view failed = record { now = λ up. absurd (up failed) }

module _ (s : Shortages) (old new : View) (holds : HoldsShort old s) where
  pub short_same : new.stage ≡ old.stage → new.content ≡ old.content → HoldsShort new s
  short_same stage same = record { now = λ up. subst (KnowsShort s) (sym same) (holds.now (λ failed. up (stage ∙ failed))) }

  pub short_fell : new.stage ≡ fallen old.stage → (old.stage ≡ Idle → new.content ≡ old.content) → HoldsShort new s
  short_fell stage same = record {
    now = λ up. let was = not_fallen old.stage new.stage stage up in subst (KnowsShort s) (sym (same was)) (holds.now (idle_is_not_failed old.stage was));
  }

-- what is known of what is held in a group that has not failed
pub known_begun : (s : Shortages) (view : View) → view.stage ≡ Begun → HoldsShort view s → KnowsShort s view.content
known_begun s view stage holds = holds.now (begun_is_not_failed view.stage stage)

-- By a call's result.

module _ (s : Shortages) (old new : Rows) (holds : HoldsShort (view_of_rows old) s) where
  pub short_read : {T : Type 0} (r : Result T Fault) → IsRead r (view_of_rows old) (view_of_rows new) → HoldsShort (view_of_rows new) s
  short_read (Ok x) read = short_same s (view_of_rows old) (view_of_rows new) holds read.ok.stage (read.same tt tt)
  short_read (Err f) read = short_fell s (view_of_rows old) (view_of_rows new) holds read.err.stage (read.err.content tt tt)

  pub short_begin : (view_of_rows old).stage ≡ Idle → Begins (view_of_rows old) (view_of_rows new) → HoldsShort (view_of_rows new) s
  short_begin idle begins = short_of s (view_of_rows new) (view_of_rows old).content (begins.content tt tt) (holds.now (idle_is_not_failed (view_of_rows old).stage idle))

-- A call that changes: what is known after it, if it went well.
pub short_changed : {T : Type 0} (r : Result T Fault) (s : Shortages) (old new : View) (content : Content) → old.stage ≡ Begun → OnOk r (new.content ≡ content) → OnErr r (Falls old new) → KnowsShort s content → HoldsShort new s
short_changed (Ok x) s old new content stage made err knows = short_of s new content made knows
short_changed (Err f) s old new content stage made err knows = short_failed s new (err.stage ∙ ap fallen stage)

-- What is known of the contents that the calls make.

pub knows_paired : (s s' : Shortages) (content : Content) (m n : ℕ) → CanPair content m n → (s'.is_known ≡ true → (later : Instructed) → instruction_at (history_of content) n ≡ Some later → PutsIn (place_at (number_of later.instruction.day) n) s s')
    → KnowsShort s content → KnowsShort s' (paired m n content)
knows_paired s s' content m n can puts knows = known_or_not s' (paired m n content) (λ known.
    after_made s s' content (paired m n content) m n Future can.later can.two refl can.is_later can.earlier_unmatched can.later_unmatched (puts known can.later can.is_later) knows)

-- what two instructions move
its_transfer : (content : Content) (n m : ℕ) (earlier later : Instructed) → IsPairAt content n m earlier later → IsTransferAt content n m (transfer_of earlier later)
its_transfer content n m earlier later pair = record {
  has_mate = pair.has_mate;
  moves = λ first second at_m at_n.
      let firsts : Some earlier ≡ Some first = sym pair.is_earlier ∙ at_m in
      let seconds : Some later ≡ Some second = sym pair.is_later ∙ at_n in
      let one : earlier ≡ first = cc in
      let other : later ≡ second = cc in
      ap (λ i. transfer_of i later) one ∙ ap (transfer_of first) other;
}

pub knows_pair_cancelled : (s s' : Shortages) (content : Content) (m n : ℕ) → CanCancelPair content m n
    → (s'.is_known ≡ true → (earlier later : Instructed) → instruction_at (history_of content) m ≡ Some earlier → instruction_at (history_of content) n ≡ Some later → TakesOut (transfer_of earlier later) (place_at (number_of later.instruction.day) n) s s')
    → KnowsShort s content → KnowsShort s' (pair_cancelled m n content)
knows_pair_cancelled s s' content m n can out knows = known_or_not s' (pair_cancelled m n content) (λ known.
    let new = pair_cancelled m n content in
    after_end s s' content new m n Cancelled can.later (transfer_of can.earlier can.later) can.two (λ e. cc) (λ reason e. cc) refl refl can.pair.is_later can.pair.has_mate can.back
    (its_transfer content n m can.earlier can.later can.pair) (out known can.earlier can.later can.pair.is_earlier can.pair.is_later) (λ want amount at waiting unbrought. same_not_come content new refl refl want) knows)

pub knows_sent : (s : Shortages) (content : Content) (message : Sent) → KnowsShort s content → KnowsShort s (with_sent message content)
knows_sent s content message knows = after_nothing s content (with_sent message content) refl refl refl refl knows

pub knows_appended : (s s' : Shortages) (entry : Entry) (reply : Reply) (content : Content) → (s'.is_known ≡ true → Brings s s' × IsBroughtIfAny s' (woken_by entry)) → KnowsShort s content → KnowsShort s' (appended entry reply content)
knows_appended s s' entry reply content noted knows = known_or_not s' (appended entry reply content) (λ known. let parts = noted known in after_appended s s' entry reply content parts.0 parts.1 knows)

-- the pair of a number that can settle, and was tried
pub has_tried : (old new : Content) (n day mate : ℕ) (outcome : Outcome) → (old.standing n).mate ≡ Some mate → CanSettle old n day → TriesPair old n outcome new → (earlier : Instructed) × (later : Instructed) × IsTried old mate n earlier later outcome new
has_tried old new n day mate outcome has can tries =
    let mates : Some tries.mate ≡ Some can.mate = sym tries.pair.has_mate ∙ can.pair.has_mate in
    let one : tries.mate ≡ can.mate = cc in
    let own : Some mate ≡ Some tries.mate = sym has ∙ tries.pair.has_mate in
    let same : mate ≡ tries.mate = cc in
    let less = can.two in
    let tried : IsTried old tries.mate n tries.earlier tries.later outcome new = record {
      pair = tries.pair;
      two = omega arith;
      back = ap (λ k. (old.standing k).mate) one ∙ can.back;
      ends = tries.ends;
    } in
    (tries.earlier, tries.later, subst (λ k. IsTried old k n tries.earlier tries.later outcome new) (sym same) tried)

-- a try changes no entry
same_register : (old new : Content) (n m : ℕ) (earlier later : Instructed) (outcome : Outcome) → TriesSides old n m earlier later outcome new → new.register ≡ old.register
same_register old new n m earlier later Settled ends = ap (λ (c : Content). c.register) ends.2
same_register old new n m earlier later (Lacks Securities) ends = ap (λ (c : Content). c.register) ends.1
same_register old new n m earlier later (Lacks Money) ends = ap (λ (c : Content). c.register) ends.2

module _ (old new : Content) (n mate : ℕ) (earlier later : Instructed) (outcome : Outcome) (tried : IsTried old mate n earlier later outcome new) where
  history : history_of new ≡ history_of old
  history = ap (map (λ (k : Kept). k.entry)) (same_register old new n mate earlier later outcome tried.ends)

  mate_there : instruction_at (history_of new) mate ≡ Some earlier
  mate_there = ap (λ h. instruction_at h mate) history ∙ tried.pair.is_earlier

  later_there : instruction_at (history_of new) n ≡ Some later
  later_there = ap (λ h. instruction_at h n) history ∙ tried.pair.is_later

  pub pair_there : (first second : Instructed) × (instruction_at (history_of new) mate ≡ Some first) × (instruction_at (history_of new) n ≡ Some second)
  pair_there = (earlier, later, mate_there, later_there)

  pub knows_tried : (s s' : Shortages)
      → (s'.is_known ≡ true → (first second : Instructed) → instruction_at (history_of new) mate ≡ Some first → instruction_at (history_of new) n ≡ Some second → IsNotedTried outcome (transfer_of first second) (place_at (number_of second.instruction.day) n) s s')
      → KnowsShort s old → KnowsShort s' new
  knows_tried s s' noted knows = known_or_not s' new (λ known.
      after_tried s s' old new mate n earlier later (transfer_of earlier later) (its_transfer old n mate earlier later tried.pair) knows outcome tried (noted known earlier later mate_there later_there))
