-- What a changing call asks of both registers.
use Rattle.std.proofs.Common.{◌≡◌, ◌∙◌, ap, refl, sym, subst}
use Rattle.std.specs.Prelude.{ℕ, Result, Ok, Err, IfOk, OnOk}
use Rattle.std.specs.declared.alloc.AllocError.{AllocError}
use Rattle.desk_rules.specs.Content.{Content}
use Rattle.desk_register.specs.declared.register.Fault.{Fault}
use Rattle.desk_register.specs.declared.register.Fault.TheVariants.{Memory, Storage}
use Rattle.desk_register.specs.declared.register.Stage.TheVariants as stages
use Rattle.desk_register.specs.View.{View, IfTrusted, IsChange, IsLater, Stays, fallen}
use Rattle.desk_file.specs.declared.mirror.course.Phase.{Phase}
use Rattle.desk_file.specs.declared.mirror.course.Phase.TheVariants.{Idle, Begun, Failed, Lost}
use Rattle.desk_register.specs.Device.{HasNoDevice}
use Rattle.desk_file.specs.Both.{shown}
use Rattle.desk_file.specs.Course.{IsAfter, IsCopied, fallen_phase}
use Rattle.desk_file.proofs.ReadLemmas.{begun_phase, memory_blames, stage_falls}
use Rattle.desk_file.specs.Mirrored.{AreAt, AreBegun, AreMirrored, stage_of}

pub begun_at : (phase : Phase) (m t : View) → AreMirrored phase m t → stage_of phase ≡ stages.Begun → AreBegun m t
begun_at Begun m t are e = are.at
begun_at Idle m t are e = absurd (cc)
begun_at Failed m t are e = absurd (cc)
begun_at Lost m t are e = absurd (cc)

-- what is known of memory's room and content is known of the tables'
pub tables_fit : (P : ℕ → Content → Type 0) (phase : Phase) (m t : View) → HasNoDevice m → AreMirrored phase m t → stage_of phase ≡ stages.Begun
    → IfTrusted m m (P m.room m.content) → IfTrusted t t (P t.room t.content)
tables_fit P phase m t is are begun fits honest sure =
    subst (λ k. P k t.content) are.room (subst (P m.room) ((begun_at phase m t are begun).same honest sure) (fits is.honest is.sure))

-- where the tables have changed: memory has, too, or the register has failed
pub change_keeps : {X : Type 0} (result : Result X Fault) (phase phase' : Phase) (m m' t t' : View) → HasNoDevice m → HasNoDevice m' → AreMirrored phase m t → stage_of phase ≡ stages.Begun
    → IsLater t t' → Stays t t' → IsChange result m m' → OnOk result (t'.is_honest → t.is_sure → m.content ≡ t.content → m'.content ≡ t'.content)
    → IsAfter result phase phase' → AreMirrored phase' m' t'
change_keeps (Ok x) phase phase' m m' t t' was is are started later stays change agree after =
    let begun = begun_at phase m t are started in record {
      room = change.later.room ∙ are.room ∙ sym later.room;
      at = subst (AreAt m' t') (sym (after ∙ begun_phase phase started)) (record {
        memory = change.ok.stage ∙ begun.memory;
        tables = stays.stage ∙ begun.tables;
        same = λ honest sure. agree honest (later.sure honest sure) (begun.same (later.honest honest) (later.sure honest sure));
        marked = λ honest sure. change.ok.mark is.honest was.sure ∙ begun.marked (later.honest honest) (later.sure honest sure) ∙ sym (stays.mark honest (later.sure honest sure));
      });
    }
change_keeps (Err fault) phase phase' m m' t t' was is are started later stays change agree after =
    let begun = begun_at phase m t are started in record {
      room = change.later.room ∙ are.room ∙ sym later.room;
      at = subst (AreAt m' t') (sym (after ∙ ap fallen_phase (begun_phase phase started))) (record {
        memory = λ e. (let s = change.err.stage ∙ ap fallen begun.memory in absurd (cc));
        tables = λ e. (let s = stays.stage ∙ begun.tables in absurd (cc));
        marked = λ honest sure. change.err.mark is.honest is.sure ∙ begun.marked (later.honest honest) (later.sure honest sure) ∙ sym (stays.mark honest (later.sure honest sure));
      });
    }

-- both make the same of the same
pub both_make : {X Y : Type 0} (result : Result X Fault) (told : Result Y Fault) (y : Y) (make make' : Content → Content) (m m' t t' : View) → HasNoDevice m → HasNoDevice m' → ((k : Content) → make k ≡ make' k)
    → IfTrusted m m' (OnOk result (m'.content ≡ make m.content)) → told ≡ Ok y → IfTrusted t t' (OnOk told (t'.content ≡ make' t.content))
    → OnOk result (t'.is_honest → t.is_sure → m.content ≡ t.content → m'.content ≡ t'.content)
both_make (Ok x) (Ok y') y make make' m m' t t' was is same memory e tables = λ honest sure equal. memory is.honest was.sure ∙ ap make equal ∙ same t.content ∙ sym (tables honest sure)
both_make (Ok x) (Err fault) y make make' m m' t t' was is same memory e tables = absurd (cc)
both_make (Err fault) told y make make' m m' t t' was is same memory e tables = tt

-- the copy is what was copied
pub copied_is : {X : Type 0} (given : Result X AllocError) (told : Result X Fault) (phase phase' : Phase) (copy whole : X) → IfOk given (λ k. k ≡ whole) → IsCopied given told phase phase' → told ≡ Ok copy → copy ≡ whole
copied_is (Ok k) told phase phase' copy whole same is e = (let a = is.0 in cc)
copied_is (Err error) told phase phase' copy whole same is e = (let a = is.0 in absurd (cc))

pub copied_phase : {X : Type 0} (given : Result X AllocError) (told : Result X Fault) (phase phase' : Phase) (copy : X) → IsCopied given told phase phase' → told ≡ Ok copy → phase' ≡ phase
copied_phase (Ok k) told phase phase' copy is e = is.1
copied_phase (Err error) told phase phase' copy is e = (let a = is.0 in absurd (cc))

-- a call that went well leaves the phase
pub ok_phase : {X : Type 0} (result : Result X Fault) (x : X) (phase phase' : Phase) → result ≡ Ok x → IsAfter result phase phase' → phase' ≡ phase
ok_phase (Ok y) x phase phase' is after = after
ok_phase (Err fault) x phase phase' is after = absurd (cc)

-- of a call that is known to have gone well
pub ok_change : {X : Type 0} (result : Result X Fault) (x : X) (v v' : View) → result ≡ Ok x → IsChange result v v' → IsChange (Ok x) v v'
ok_change result x v v' is change = subst (λ r. IsChange r v v') is change

-- the fault of one that failed
abbrev Same : (X : Type 0) → Result X Fault → Result X Fault → Type 0
Same X r s = r ≡ s

abbrev IsError : (X : Type 0) → Fault → Fault → Type 0
IsError X a b = Same X (Err a) (Err b)

pub error_is : (X : Type 0) (a b : Fault) → IsError X a b → a ≡ b
error_is X a b e = (cc)

-- how a changing call of both ends, where the tables' went well, is how memory's does
pub shown_change : {X : Type 0} (result : Result X Fault) (phase phase' : Phase) (m m' t t' : View) → HasNoDevice m → HasNoDevice m' → AreMirrored phase m t → stage_of phase ≡ stages.Begun → IsChange result m m' → Stays t t' → IsLater t t'
    → IsAfter result phase phase' → IsChange result (shown m (stage_of phase) t) (shown m' (stage_of phase') t')
shown_change (Ok x) phase phase' m m' t t' was is are started change stays later after = record {
  ok = record { stage = ap stage_of after; sure = change.ok.sure; mark = change.ok.mark; device = λ honest sure. (stays.sure honest.0 sure.0, stays.device honest.1 sure.1) };
  err = tt;
  later = record { honest = change.later.honest; sure = change.later.sure; room = change.later.room; device_honest = λ honest. (later.honest honest.0, later.device_honest honest.1); failures = later.failures };
  blame = memory_blames (Ok x) phase (stage_of phase') m m' t t' was is are change.blame;
}
shown_change {X} (Err fault) phase phase' m m' t t' was is are started change stays later after = record {
  ok = tt;
  err = record { stage = ap stage_of after ∙ stage_falls phase; mark = change.err.mark; content = λ honest sure idle. (let clash = sym started ∙ idle in absurd (cc)) };
  later = record { honest = change.later.honest; sure = change.later.sure; room = change.later.room; device_honest = λ honest. (later.honest honest.0, later.device_honest honest.1); failures = later.failures };
  blame = memory_blames (Err fault) phase (stage_of phase') m m' t t' was is are change.blame;
}

-- and where the tables' failed, memory is as it was
pub tables_fell : {X Y : Type 0} (fault : Fault) (phase phase' : Phase) (m t t' : View) → AreMirrored phase m t → stage_of phase ≡ stages.Begun → IsChange {X = X} (Err fault) t t' → phase' ≡ fallen_phase phase
    → IsChange {X = Y} (Err fault) (shown m (stage_of phase) t) (shown m (stage_of phase') t')
tables_fell {X} {Y} fault phase phase' m t t' are started change after =
    let begun = begun_at phase m t are started in record {
      ok = tt;
      err = record { stage = ap stage_of after ∙ stage_falls phase; mark = λ honest sure. refl; content = λ honest sure idle. refl };
      later = record { honest = λ honest. honest; sure = λ honest sure. sure; room = refl; device_honest = λ honest. (change.later.honest honest.0, change.later.device_honest honest.1); failures = change.later.failures };
      blame = record {
        storage = λ named goes sure device honest trusted few.
            change.blame.storage (ap Err (error_is Y fault Storage named)) (λ failed. (let at = begun.tables in absurd (cc))) device.0 device.1 trusted.0 trusted.1 few;
      };
    }
