-- A try that tells why both instructions of a pair wait already leaves all as it was.
use Rattle.std.proofs.Common.{◌≡◌, ◌∙◌, ℕ, Option, Some, None, sym, subst}
use Rattle.std.specs.Prelude.{Result, Ok, Err, IfOk, IfSome, OnOk}
use Rattle.desk_msg.specs.declared.writing.status.Reason.{Reason}
use Rattle.desk_rules.specs.declared.history.pair.Lack.{Lack}
use Rattle.desk_rules.specs.declared.history.pair.Lack.TheVariants.{Securities, Money}
use Rattle.desk_rules.specs.declared.history.standing.State.TheVariants.{Matched}
use Rattle.desk_rules.specs.Content.{Content}
use Rattle.desk_rules.specs.Standing.{reason_of_lack}
use Rattle.desk_register.specs.declared.register.Fault.{Fault}
use Rattle.desk_register.specs.declared.register.Stage.TheVariants as stages
use Rattle.desk_register.specs.View.{View, HasRead, IfRead, IfTrusted, IsChange, Stays}
use Rattle.desk_register.specs.Device.{HasNoDevice}
use Rattle.desk_register.specs.declared.outcome.Outcome.{Outcome}
use Rattle.desk_register.specs.declared.outcome.Outcome.TheVariants.{Lacks, Settled}
use Rattle.desk_register.specs.Changes.{TriesPair, standing_both}
use Rattle.desk_register.proofs.StandingLemmas.{stand_already}
use Rattle.desk_register.proofs.ViewLemmas.{blames_none, change_ok, later_then, stays_then}
use Rattle.desk_file.specs.declared.mirror.course.Phase.{Phase}
use Rattle.desk_file.specs.Course.{IsAfter}
use Rattle.desk_file.specs.Mirrored.{AreMirrored, stage_of}
use Rattle.desk_file.specs.Waiting.{BothWait, IsInVain}
use Rattle.desk_file.proofs.ChangeLemmas.{begun_at, change_keeps, ok_phase}
use Rattle.desk_file.proofs.ReadLemmas.{stays_at}
use Rattle.desk_register.specs.declared.told.KnownPair.{KnownPair}
use Rattle.desk_register.specs.Told.{IsKnownAt}
use Rattle.desk_file.proofs.ToldLemmas.{known_before}
use Rattle.desk_file.proofs.TriedLemmas.{both_follow, some_is}

module _ (old new : Content) (n : ℕ) where
  -- of a try of a pair that lacks, the content but for where both stand
  lacking : (lack : Lack) (tries : TriesPair old n (Lacks lack) new) → new ≡ record old { standing = standing_both old.standing tries.mate n (Matched (reason_of_lack (Some lack))) }
  lacking Securities tries = tries.ends.1
  lacking Money tries = tries.ends.2

  lacks_in_vain : (lack : Lack) → BothWait old n (reason_of_lack (Some lack)) → TriesPair old n (Lacks lack) new → new ≡ old
  lacks_in_vain lack wait tries =
      let mates : wait.mate ≡ tries.mate = some_is (sym wait.here.mate_is ∙ tries.pair.has_mate) in
      let Put : ℕ → Type 0 = λ m. old ≡ record old { standing = standing_both old.standing m n (Matched (reason_of_lack (Some lack))) } in
      lacking lack tries ∙ sym (subst Put mates (stand_already old wait.mate n (Matched (reason_of_lack (Some lack))) wait.here.mate_is wait.there.mate_is wait.here.waits wait.there.waits))

  pub in_vain : (reason : Option Reason) (outcome : Outcome) → IfSome reason (λ r. BothWait old n r) → TriesPair old n outcome new → IsInVain reason outcome → new ≡ old
  in_vain None outcome waits tries vain = absurd vain
  in_vain (Some reason) Settled waits tries vain = absurd vain
  in_vain (Some reason) (Lacks lack) waits tries vain = lacks_in_vain lack (subst (λ r. BothWait old n r) vain waits) tries

-- One of the two after reading calls, and after a try.

ok_stays : {X : Type 0} (result : Result X Fault) (x : X) (v w : View) → result ≡ Ok x → OnOk result (Stays v w) → Stays v w
ok_stays (Ok y) x v w is stays = stays
ok_stays (Err fault) x v w is stays = absurd (cc)

ok_tries : (result : Result Outcome Fault) (outcome : Outcome) (n : ℕ) (old new : Content) → result ≡ Ok outcome → IfOk result (λ o. TriesPair old n o new) → TriesPair old n outcome new
ok_tries (Ok o) outcome n old new is tries = (let same : o ≡ outcome = cc in subst (λ k. TriesPair old n k new) same tries)
ok_tries (Err fault) outcome n old new is tries = absurd (cc)

-- a call that went well, and reading calls behind it
change_read : {X : Type 0} (result : Result X Fault) (x : X) (v0 v1 v2 : View) → result ≡ Ok x → IsChange result v0 v1 → HasRead v1 v2 → IsChange result v0 v2
change_read (Ok y) x v0 v1 v2 is change read = change_ok y v0 v2 (stays_then v0 v1 v2 change.ok change.later read.later read.ok) (later_then v0 v1 v2 change.ok change.later read.later)
change_read (Err fault) x v0 v1 v2 is change read = absurd (cc)

-- memory was read
pub read_mirrored : (phase : Phase) (m new t : View) → HasNoDevice m → HasNoDevice new → HasRead m new → AreMirrored phase m t → AreMirrored phase new t
read_mirrored phase m new t was is read are = record {
  room = read.later.room ∙ are.room;
  at = stays_at phase m new t was is (read.same is.honest was.sure) read.ok are.at;
}

module _ (result : Result Outcome Fault) (outcome : Outcome) (reason : Option Reason) (phase phase' : Phase) (n : ℕ) (m between new t : View) (was : HasNoDevice m) (is_between : HasNoDevice between) (is : HasNoDevice new)
    (are : AreMirrored phase m t) (started : stage_of phase ≡ stages.Begun) (read : HasRead m between) (is_ok : result ≡ Ok outcome)
    (tries : IfTrusted between new (IfOk result (λ o. TriesPair between.content n o new.content))) (change : IsChange result between new) (after : IsAfter result phase phase') where
  tried : TriesPair between.content n outcome new.content
  tried = ok_tries result outcome n between.content new.content is_ok (tries is.honest is_between.sure)

  are_between : AreMirrored phase between t
  are_between = read_mirrored phase m between t was is_between read are

  -- a try that was in vain is not made over the tables
  pub vain_keeps : IfRead m between (IfSome reason (λ r. BothWait m.content n r)) → IsInVain reason outcome → AreMirrored phase' new t
  vain_keeps waits vain =
      let begun = begun_at phase m t are started in
      let same : between.content ≡ m.content = read.same is_between.honest was.sure in
      let wait : IfSome reason (λ r. BothWait between.content n r) = subst (λ c. IfSome reason (λ r. BothWait c n r)) (sym same) (waits is_between.honest was.sure (λ failed. let at = begun.memory in absurd (cc))) in
      let last : HasRead between new = record {
        same = λ honest sure. in_vain between.content new.content n reason outcome wait tried vain;
        ok = ok_stays result outcome between new is_ok change.ok;
        err = tt;
        later = change.later;
        blame = blames_none tt between new;
      } in
      subst (λ p. AreMirrored p new t) (sym (ok_phase result outcome phase phase' is_ok after)) (read_mirrored phase between new t is_between is last are_between)

  -- the pair that memory knows behind any other is the one that the tables have not tried yet
  pub tried_fits : (known : Option KnownPair) (read_on : View) → HasNoDevice read_on → IfRead new read_on (IfSome known (λ pair. IsKnownAt new.content n pair)) → IfTrusted t t (IfSome known (λ pair. IsKnownAt t.content n pair))
  tried_fits None read_on is_on known_is = λ honest sure. tt
  tried_fits (Some pair) read_on is_on known_is = λ honest sure.
      let begun = begun_at phase between t are_between started in
      let stage = (ok_stays result outcome between new is_ok change.ok).stage ∙ begun.memory in
      subst (λ c. IsKnownAt c n pair) (begun.same honest sure) (known_before between.content new.content n pair (known_is is_on.honest is.sure (λ failed. absurd (cc))) outcome tried)

  -- and it is made of them too
  pub try_keeps : (read_on : View) → HasNoDevice read_on → HasRead new read_on → (told : Result (Unit {0}) Fault) (also : Unit {0}) (last : Phase) (t' : View) → told ≡ Ok also
      → IfTrusted t t' ((made : Content) → TriesPair t.content n outcome made → OnOk told (t'.content ≡ made)) → IsChange told t t' → IsAfter told phase' last → AreMirrored last read_on t'
  try_keeps read_on is_on reads told also last t' told_is follows told_change told_after =
      let tries_on : IfTrusted between read_on (IfOk result (λ o. TriesPair between.content n o read_on.content)) =
      λ honest sure. subst (λ c. IfOk result (λ o. TriesPair between.content n o c)) (sym (reads.same is_on.honest is.sure)) (tries is.honest is_between.sure) in
      subst (λ p. AreMirrored p read_on t') (sym (ok_phase told also phase' last told_is told_after))
      (change_keeps result phase phase' between read_on t t' is_between is_on are_between started told_change.later (ok_stays told also t t' told_is told_change.ok) (change_read result outcome between new read_on is_ok change reads)
      (both_follow n result outcome told also between read_on t t' is_between is_on is_ok tries_on told_is follows) after)
