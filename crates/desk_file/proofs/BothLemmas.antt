-- A change that the tables made first and then memory; and one that was given up before.
use Rattle.std.proofs.Common.{◌≡◌, ◌∙◌, ap, refl, sym, subst, arith}
use Rattle.std.specs.Prelude.{Result, Ok, Err, OnOk}
use Rattle.std.specs.Result.{IsErrAnd}
use Rattle.std.specs.declared.alloc.AllocError.{AllocError}
use Rattle.desk_rules.specs.Content.{Content}
use Rattle.desk_register.specs.declared.register.Fault.{Fault}
use Rattle.desk_register.specs.declared.register.Fault.TheVariants.{Memory, Storage}
use Rattle.desk_register.specs.declared.register.Stage.TheVariants as stages
use Rattle.desk_register.specs.View.{View, HasRead, IfTrusted, IsChange, IsLater, IsRead, Stays, fallen}
use Rattle.desk_register.specs.Device.{HasNoDevice}
use Rattle.desk_register.proofs.ReadLemmas.{falls_read, read_one}
use Rattle.desk_register.proofs.ViewLemmas.{blames_none, blames_then, change_ok, later_then, stays_then}
use Rattle.desk_file.specs.declared.mirror.course.Phase.{Phase}
use Rattle.desk_file.specs.Both.{shown}
use Rattle.desk_file.specs.Course.{IsAfter, IsCopied, fallen_phase}
use Rattle.desk_file.specs.Mirrored.{AreAt, AreMirrored, stage_of}
use Rattle.desk_file.proofs.ChangeLemmas.{begun_at, both_make, change_keeps, error_is, ok_change, ok_phase, shown_change, tables_fell}
use Rattle.desk_file.proofs.ReadLemmas.{begun_phase, falls_at, stage_falls}
use Rattle.desk_file.proofs.WaitingLemmas.{read_mirrored}

-- an error that is handed on
pub no_value : {X : Type 0} (r : Result X Fault) (P : Fault → Type 0) (Q : Type 0) → IsErrAnd r P → OnOk r Q
no_value (Ok x) P Q is = absurd is
no_value (Err fault) P Q is = tt

err_is : {X : Type 0} (r : Result X Fault) (fault : Fault) → IsErrAnd r (λ f. f ≡ fault) → r ≡ Err fault
err_is (Ok x) fault is = absurd is
err_is (Err f) fault is = ap Err is

-- a reading call that went well
pub has_read : {X : Type 0} (r : Result X Fault) (x : X) (a b : View) → r ≡ Ok x → IsRead r a b → HasRead a b
has_read r x a b is read = read_one x a b (subst (λ r. IsRead r a b) is read)

-- ---- the tables have changed, and memory after them

module _ {X Y : Type 0} (told : Result Y Fault) (y : Y) (result : Result X Fault) (phase phase1 phase2 : Phase) (m m' t t' : View) (was : HasNoDevice m) (is : HasNoDevice m')
    (are : AreMirrored phase m t) (started : stage_of phase ≡ stages.Begun) (is_ok : told ≡ Ok y) (first : IsChange told t t') (after_first : IsAfter told phase phase1) (change : IsChange result m m') (after : IsAfter result phase1 phase2) where
  phase_is : phase1 ≡ phase
  phase_is = ok_phase told y phase phase1 is_ok after_first

  still : AreMirrored phase1 m t
  still = subst (λ p. AreMirrored p m t) (sym phase_is) are

  begun_still : stage_of phase1 ≡ stages.Begun
  begun_still = ap stage_of phase_is ∙ started

  went : IsChange (Ok y) t t'
  went = ok_change told y t t' is_ok first

  pub both_keep : (make make' : Content → Content) → ((k : Content) → make k ≡ make' k) → IfTrusted m m' (OnOk result (m'.content ≡ make m.content)) → IfTrusted t t' (OnOk told (t'.content ≡ make' t.content)) → AreMirrored phase2 m' t'
  both_keep make make' same memory tables =
      change_keeps result phase1 phase2 m m' t t' was is still begun_still went.later went.ok change (both_make result told y make make' m m' t t' was is same memory is_ok tables) after

  pub both_shown : IsChange result (shown m (stage_of phase) t) (shown m' (stage_of phase2) t')
  both_shown = subst (λ s. IsChange result (shown m s t) (shown m' (stage_of phase2) t')) (ap stage_of phase_is) (shown_change result phase1 phase2 m m' t t' was is still begun_still change went.ok went.later after)

-- ---- the tables have failed

module _ {Y : Type 0} (told : Result Y Fault) (fault : Fault) (phase phase' : Phase) (m t t' : View) (are : AreMirrored phase m t) (started : stage_of phase ≡ stages.Begun) (is_err : told ≡ Err fault) (change : IsChange told t t') (after : IsAfter told phase phase') where
  fell : IsChange {X = Y} (Err fault) t t'
  fell = subst (λ r. IsChange r t t') is_err change

  fallen_so : phase' ≡ fallen_phase phase
  fallen_so = subst (λ r. IsAfter r phase phase') is_err after

  pub fell_keeps : AreMirrored phase' m t'
  fell_keeps =
      let begun = begun_at phase m t are started in record {
        room = are.room ∙ sym fell.later.room;
        at = subst (AreAt m t') (sym (fallen_so ∙ ap fallen_phase (begun_phase phase started))) (record {
          memory = λ e. (let s = begun.memory in absurd (cc));
          tables = λ e. (let s = fell.err.stage ∙ ap fallen begun.tables in absurd (cc));
          marked = λ honest sure. begun.marked (fell.later.honest honest) (fell.later.sure honest sure) ∙ sym (fell.err.mark honest sure);
        });
      }

  pub fell_shown : {X : Type 0} (r : Result X Fault) → IsErrAnd r (λ f. f ≡ fault) → IsChange r (shown m (stage_of phase) t) (shown m (stage_of phase') t')
  fell_shown {X} r handed = subst (λ k. IsChange k (shown m (stage_of phase) t) (shown m (stage_of phase') t')) (sym (err_is r fault handed)) (tables_fell {X = Y} {Y = X} fault phase phase' m t t' are started fell fallen_so)

-- ---- there was no memory for a copy

module _ {Z : Type 0} (given : Result Z AllocError) (told : Result Z Fault) (fault : Fault) (phase phase' : Phase) (m t : View) (are : AreMirrored phase m t) (started : stage_of phase ≡ stages.Begun) (is_err : told ≡ Err fault) (copied : IsCopied given told phase phase') where
  want : (fault ≡ Memory) × (phase' ≡ fallen_phase phase)
  want = each given copied
    where
      each : (given : Result Z AllocError) → IsCopied given told phase phase' → (fault ≡ Memory) × (phase' ≡ fallen_phase phase)
      each (Ok copy) so = absurd (let bad = sym is_err ∙ so.0 in cc)
      each (Err error) so = (error_is Z fault Memory (sym is_err ∙ so.0), so.1)

  pub want_keeps : AreMirrored phase' m t
  want_keeps =
      let begun = begun_at phase m t are started in record {
        room = are.room;
        at = subst (AreAt m t) (sym (want.1 ∙ ap fallen_phase (begun_phase phase started))) (record {
          memory = λ e. (let s = begun.memory in absurd (cc));
          tables = λ e. (let s = begun.tables in absurd (cc));
          marked = begun.marked;
        });
      }

  pub want_shown : {X : Type 0} (r : Result X Fault) → IsErrAnd r (λ f. f ≡ fault) → IsChange r (shown m (stage_of phase) t) (shown m (stage_of phase') t)
  want_shown {X} r handed = subst (λ k. IsChange {X = X} k (shown m (stage_of phase) t) (shown m (stage_of phase') t)) (sym (err_is r fault handed)) (record {
    ok = tt;
    err = record { stage = ap stage_of want.1 ∙ stage_falls phase; mark = λ honest sure. refl; content = λ honest sure idle. refl };
    later = record { honest = λ honest. honest; sure = λ honest sure. sure; room = refl; device_honest = λ honest. honest; failures = omega arith };
    blame = record { storage = λ named. absurd (let clash : Memory ≡ Storage = sym want.0 ∙ error_is X fault Storage named in cc) };
  })

-- ---- memory is read, and then changes

pub read_change : {X : Type 0} (result : Result X Fault) (a b c : View) → HasRead a b → IsChange result b c → IsChange result a c
read_change (Ok x) a b c read change = record {
  ok = stays_then a b c read.ok read.later change.later change.ok;
  err = tt;
  later = later_then a b c read.ok read.later change.later;
  blame = blames_none x a c;
}
read_change (Err fault) a b c read change = record {
  ok = tt;
  err = falls_read a b c read change.later change.err;
  later = later_then a b c read.ok read.later change.later;
  blame = blames_then a b c read.ok read.later fault change.later change.blame;
}

stays_none : (t : View) → Stays t t
stays_none t = record { stage = refl; sure = λ honest sure. sure; mark = λ honest sure. refl; device = λ honest sure. sure }

later_none : (t : View) → IsLater t t
later_none t = record { honest = λ honest. honest; sure = λ honest sure. sure; room = refl; device_honest = λ honest. honest; failures = omega arith }

module _ {X : Type 0} (result : Result X Fault) (phase phase' : Phase) (m m1 m2 t : View) (was : HasNoDevice m) (is1 : HasNoDevice m1) (is2 : HasNoDevice m2) (are : AreMirrored phase m t) (started : stage_of phase ≡ stages.Begun)
    (read : HasRead m m1) (change : IsChange result m1 m2) (after : IsAfter result phase phase') where
  -- the tables are not asked
  pub alone_shown : IsChange result (shown m (stage_of phase) t) (shown m2 (stage_of phase') t)
  alone_shown = shown_change result phase phase' m m2 t t was is2 are started (read_change result m m1 m2 read change) (stays_none t) (later_none t) after

  pub alone_fell : (fault : Fault) → result ≡ Err fault → AreMirrored phase' m2 t
  alone_fell fault is_err =
      let fell : IsChange {X = X} (Err fault) m1 m2 = subst (λ r. IsChange r m1 m2) is_err change in
      let so : phase' ≡ fallen_phase phase = subst (λ r. IsAfter r phase phase') is_err after in
      let there = read_mirrored phase m m1 t was is1 read are in
      record { room = fell.later.room ∙ there.room; at = subst (AreAt m2 t) (sym so) (falls_at phase m1 m2 t is1 is2 fell.err there.at) }

  pub alone_handed : {Y : Type 0} (fault : Fault) → result ≡ Err fault → (r : Result Y Fault) → IsErrAnd r (λ f. f ≡ fault) → IsChange r (shown m (stage_of phase) t) (shown m2 (stage_of phase') t)
  alone_handed {Y} fault is_err r handed =
      let old = shown m (stage_of phase) t in
      let new = shown m2 (stage_of phase') t in
      let fell : IsChange {X = X} (Err fault) old new = subst (λ r. IsChange r old new) is_err alone_shown in
      subst (λ k. IsChange k old new) (sym (err_is r fault handed)) (record { ok = tt; err = fell.err; later = fell.later; blame = record { storage = λ named. fell.blame.storage (ap Err (error_is Y fault Storage named)) } })

-- ---- memory is read, changes, and is read again; then the tables are told

then_read : {X : Type 0} (x : X) (a b c : View) → IsChange (Ok x) a b → HasRead b c → IsChange (Ok x) a c
then_read x a b c change read = change_ok x a c (stays_then a b c change.ok change.later read.later read.ok) (later_then a b c change.ok change.later read.later)

module _ {X Y : Type 0} (result : Result X Fault) (x : X) (told : Result Y Fault) (phase phase1 phase2 : Phase) (m m1 m2 m3 t t' : View) (was : HasNoDevice m) (is : HasNoDevice m3) (are : AreMirrored phase m t) (started : stage_of phase ≡ stages.Begun)
    (read : HasRead m m1) (is_ok : result ≡ Ok x) (change : IsChange result m1 m2) (after : IsAfter result phase phase1) (read_on : HasRead m2 m3) (told_change : IsChange told t t') (told_after : IsAfter told phase1 phase2) where
  whole : IsChange (Ok x) m m3
  whole = then_read x m m2 m3 (read_change (Ok x) m m1 m2 read (ok_change result x m1 m2 is_ok change)) read_on

  first_phase : phase1 ≡ phase
  first_phase = ok_phase result x phase phase1 is_ok after

  pub tried_shown : (y : Y) → told ≡ Ok y → IsChange (Ok x) (shown m (stage_of phase) t) (shown m3 (stage_of phase2) t')
  tried_shown y told_ok =
      let tells : IsChange (Ok y) t t' = ok_change told y t t' told_ok told_change in
      shown_change (Ok x) phase phase2 m m3 t t' was is are started whole tells.ok tells.later (ok_phase told y phase1 phase2 told_ok told_after ∙ first_phase)

  module _ (fault : Fault) (told_err : told ≡ Err fault) where
    tells_not : IsChange {X = Y} (Err fault) t t'
    tells_not = subst (λ r. IsChange r t t') told_err told_change

    last_phase : phase2 ≡ fallen_phase phase
    last_phase = subst (λ r. IsAfter r phase1 phase2) told_err told_after ∙ ap fallen_phase first_phase

    pub tried_fell : AreMirrored phase2 m3 t'
    tried_fell =
        let begun = begun_at phase m t are started in
        let tells = tells_not in record {
          room = whole.later.room ∙ are.room ∙ sym tells.later.room;
          at = subst (AreAt m3 t') (sym (last_phase ∙ ap fallen_phase (begun_phase phase started))) (record {
            memory = λ e. (let s = whole.ok.stage ∙ begun.memory in absurd (cc));
            tables = λ e. (let s = tells.err.stage ∙ ap fallen begun.tables in absurd (cc));
            marked = λ honest sure. whole.ok.mark is.honest was.sure ∙ begun.marked (tells.later.honest honest) (tells.later.sure honest sure) ∙ sym (tells.err.mark honest sure);
          });
        }

    pub tried_handed : {Z : Type 0} (r : Result Z Fault) → IsErrAnd r (λ f. f ≡ fault) → IsChange r (shown m (stage_of phase) t) (shown m3 (stage_of phase2) t')
    tried_handed {Z} r handed =
        let begun = begun_at phase m t are started in
        let tells = tells_not in
        subst (λ k. IsChange {X = Z} k (shown m (stage_of phase) t) (shown m3 (stage_of phase2) t')) (sym (err_is r fault handed)) (record {
          ok = tt;
          err = record {
            stage = ap stage_of last_phase ∙ stage_falls phase;
            mark = λ honest sure. whole.ok.mark is.honest was.sure;
            content = λ honest sure idle. (let clash = sym started ∙ idle in absurd (cc));
          };
          later = record {
            honest = whole.later.honest;
            sure = whole.later.sure;
            room = whole.later.room;
            device_honest = λ honest. (tells.later.honest honest.0, tells.later.device_honest honest.1);
            failures = tells.later.failures;
          };
          blame = record {
            storage = λ named goes sure device honest trusted few.
                tells.blame.storage (ap Err (error_is Z fault Storage named)) (λ failed. (let at = begun.tables in absurd (cc))) device.0 device.1 trusted.0 trusted.1 few;
          };
        })
