-- What a reading call of memory leaves of a register that is two.
use Rattle.std.proofs.Common.{◌≡◌, ◌≢◌, ◌∙◌, ◌<◌, refl, ap, sym, subst, arith}
use Rattle.std.specs.Prelude.{Result, Ok, Err}
use Rattle.desk_register.specs.declared.register.Fault.{Fault}
use Rattle.desk_register.specs.declared.register.Fault.TheVariants.{Storage}
use Rattle.desk_register.specs.declared.register.TheConstants.{MOST_FAILURES}
use Rattle.desk_register.specs.declared.register.Stage.{Stage}
use Rattle.desk_register.specs.declared.register.Stage.TheVariants as stages
use Rattle.desk_register.specs.View.{View, Blames, Falls, IsRead, Stays, fallen}
use Rattle.desk_file.specs.declared.mirror.course.Phase.{Phase}
use Rattle.desk_file.specs.declared.mirror.course.Phase.TheVariants.{Idle, Begun, Failed, Lost}
use Rattle.desk_file.specs.Both.{HasSame, shown}
use Rattle.desk_file.specs.Course.{IsAfter, fallen_phase}
use Rattle.desk_register.specs.Device.{HasNoDevice}
use Rattle.desk_file.specs.Mirrored.{AreAt, AreMirrored, stage_of}

-- the stage falls as the phase does
pub stage_falls : (phase : Phase) → stage_of (fallen_phase phase) ≡ fallen (stage_of phase)
stage_falls Idle = refl
stage_falls Begun = refl
stage_falls Failed = refl
stage_falls Lost = refl

-- what a stage is not, once a call has failed
pub still_open : (stage : Stage) → stage ≢ stages.Idle → fallen stage ≢ stages.Idle
still_open stages.Idle not = λ e. not refl
still_open stages.Begun not = λ e. absurd (cc)
still_open stages.Failed not = λ e. absurd (cc)

pub idle_phase : (phase : Phase) → stage_of phase ≡ stages.Idle → phase ≡ Idle
idle_phase Idle e = refl
idle_phase Begun e = absurd (cc)
idle_phase Failed e = absurd (cc)
idle_phase Lost e = absurd (cc)

pub begun_phase : (phase : Phase) → stage_of phase ≡ stages.Begun → phase ≡ Begun
begun_phase Begun e = refl
begun_phase Idle e = absurd (cc)
begun_phase Failed e = absurd (cc)
begun_phase Lost e = absurd (cc)

-- no call of memory has failed where none of the register has
pub memory_goes : (phase : Phase) (m t : View) → AreMirrored phase m t → stage_of phase ≢ stages.Failed → m.stage ≢ stages.Failed
memory_goes Idle m t are goes = λ failed. let at = are.at.memory in absurd (cc)
memory_goes Begun m t are goes = λ failed. let at = are.at.memory in absurd (cc)
memory_goes Failed m t are goes = absurd (goes refl)
memory_goes Lost m t are goes = absurd (goes refl)

pub memory_idle : (phase : Phase) (m t : View) → AreMirrored phase m t → stage_of phase ≡ stages.Idle → m.stage ≡ stages.Idle
memory_idle Idle m t are e = are.at.memory
memory_idle Begun m t are e = absurd (cc)
memory_idle Failed m t are e = absurd (cc)
memory_idle Lost m t are e = absurd (cc)

-- where a call of memory went well and left the content, both are as before
pub stays_at : (phase : Phase) (m new t : View) → HasNoDevice m → HasNoDevice new → new.content ≡ m.content → Stays m new → AreAt m t phase → AreAt new t phase
stays_at Idle m new t was is same stays at = record {
  memory = stays.stage ∙ at.memory;
  tables = at.tables;
  same = λ honest sure. same ∙ at.same honest sure;
}
stays_at Begun m new t was is same stays at = record {
  memory = stays.stage ∙ at.memory;
  tables = at.tables;
  same = λ honest sure. same ∙ at.same honest sure;
  marked = λ honest sure. stays.mark is.honest was.sure ∙ at.marked honest sure;
}
stays_at Failed m new t was is same stays at = record {
  memory = λ e. at.memory (sym stays.stage ∙ e);
  tables = at.tables;
  marked = λ honest sure. stays.mark is.honest was.sure ∙ at.marked honest sure;
}
stays_at Lost m new t was is same stays at = tt

-- where it failed, so does what is open
pub falls_at : (phase : Phase) (m new t : View) → HasNoDevice m → HasNoDevice new → Falls m new → AreAt m t phase → AreAt new t (fallen_phase phase)
falls_at Idle m new t was is falls at = record {
  memory = falls.stage ∙ ap fallen at.memory;
  tables = at.tables;
  same = λ honest sure. falls.content is.honest is.sure at.memory ∙ at.same honest sure;
}
falls_at Begun m new t was is falls at = record {
  memory = λ e. (let s = falls.stage ∙ ap fallen at.memory in absurd (cc));
  tables = λ e. (let s = at.tables in absurd (cc));
  marked = λ honest sure. falls.mark is.honest is.sure ∙ at.marked honest sure;
}
falls_at Failed m new t was is falls at = record {
  memory = λ e. still_open m.stage at.memory (sym falls.stage ∙ e);
  tables = at.tables;
  marked = λ honest sure. falls.mark is.honest is.sure ∙ at.marked honest sure;
}
falls_at Lost m new t was is falls at = tt

pub read_keeps : {X : Type 0} (result : Result X Fault) (phase phase' : Phase) (m new t : View) → HasNoDevice m → HasNoDevice new → IsRead result m new
    → IsAfter result phase phase' → AreMirrored phase m t → AreMirrored phase' new t
read_keeps (Ok x) phase phase' m new t was is read after are = record {
  room = read.later.room ∙ are.room;
  at = subst (AreAt new t) (sym after) (stays_at phase m new t was is (read.same is.honest was.sure) read.ok are.at);
}
read_keeps (Err fault) phase phase' m new t was is read after are = record {
  room = read.later.room ∙ are.room;
  at = subst (AreAt new t) (sym after) (falls_at phase m new t was is read.err are.at);
}

pub holds_same : (phase : Phase) (m t : View) → AreMirrored phase m t → stage_of phase ≢ stages.Failed → HasSame m t
holds_same Idle m t are goes = are.at.same
holds_same Begun m t are goes = are.at.same
holds_same Failed m t are goes = absurd (goes refl)
holds_same Lost m t are goes = absurd (goes refl)

-- memory names no device
pub never_storage : {X : Type 0} (result : Result X Fault) (m m' : View) → HasNoDevice m → HasNoDevice m' → Blames result m m' → m.stage ≢ stages.Failed → result ≢ Err Storage
never_storage result m m' was is blame goes named =
    let before = was.failures in
    let after = is.failures in
    let few : m'.device.failures < MOST_FAILURES = omega (arith, after) in
    let more = blame.storage named goes was.sure was.device_sure is.honest is.device_honest few in
    omega (arith, before, after, more)

-- so what it answers is blamed on none, whatever the tables are
pub memory_blames : {X : Type 0} (result : Result X Fault) (phase : Phase) (stage : Stage) (m m' t t' : View) → HasNoDevice m → HasNoDevice m' → AreMirrored phase m t → Blames result m m' → Blames result (shown m (stage_of phase) t) (shown m' stage t')
memory_blames result phase stage m m' t t' was is are blame = record { storage = λ named goes. absurd (never_storage result m m' was is blame (memory_goes phase m t are goes) named) }

-- how a reading call of memory ends is how the register's does
pub read_shown : {X : Type 0} (given result : Result X Fault) (phase phase' : Phase) (m m' t : View) → HasNoDevice m → HasNoDevice m' → AreMirrored phase m t → IsRead given m m' → IsAfter given phase phase' → result ≡ given
    → IsRead result (shown m (stage_of phase) t) (shown m' (stage_of phase') t)
read_shown (Ok x) result phase phase' m m' t was is are read after same = subst (λ r. IsRead r (shown m (stage_of phase) t) (shown m' (stage_of phase') t)) (sym same) (record {
  same = read.same;
  ok = record { stage = ap stage_of after; sure = read.ok.sure; mark = read.ok.mark; device = λ honest sure. sure };
  err = tt;
  later = record { honest = read.later.honest; sure = read.later.sure; room = read.later.room; device_honest = λ honest. honest; failures = omega arith };
  blame = memory_blames (Ok x) phase (stage_of phase') m m' t t was is are read.blame;
})
read_shown {X} (Err fault) result phase phase' m m' t was is are read after same = subst (λ r. IsRead {X = X} r (shown m (stage_of phase) t) (shown m' (stage_of phase') t)) (sym same) (record {
  same = λ honest sure. tt;
  ok = tt;
  err = record { stage = ap stage_of after ∙ stage_falls phase; mark = read.err.mark; content = λ honest sure idle. read.err.content honest sure (memory_idle phase m t are idle) };
  later = record { honest = read.later.honest; sure = read.later.sure; room = read.later.room; device_honest = λ honest. honest; failures = omega arith };
  blame = memory_blames (Err fault) phase (stage_of phase') m m' t t was is are read.blame;
})
