-- Which rows are known of securities and of what is outstanding, through the calls of an indexed register.
use Rattle.std.proofs.Common.{◌≡◌, ℕ, ◌+◌, ◌-◌, ◌<◌, List, Option, None, sym, ◌∙◌, subst, arith, get_or}
use Rattle.std.specs.Prelude.{Result, Ok, Err}
use Rattle.desk_rules.specs.Content.{Content, history_of}
use Rattle.desk_register.specs.declared.register.Fault.{Fault}
use Rattle.desk_register.specs.declared.register.Stage.TheVariants.{Idle}
use Rattle.desk_register.specs.Looked.{IsSecurityAfter}
use Rattle.desk_register.specs.View.{View, IsRead, fallen}
use Rattle.memory_rows.specs.declared.rows.Rows.{Rows}
use Rattle.memory_rows.specs.RowsView.{view_of_rows}
use Rattle.memory_register.specs.Sums.{HoldsSums, IsNext, IsSums}
use Rattle.memory_register.specs.declared.sums.Sums.{Sums}
use Rattle.memory_register.proofs.IndexedLemmas.{idle_is_not_failed, not_fallen}

-- the next row is the next security
pub next_is : (content : Content) (sums : Sums) (above : Option (List ℕ)) → IsNext sums above → IsSums content sums → IsSecurityAfter (history_of content) above (get_or sums.securities sums.told None)
next_is content sums above next is =
    let k = sums.told - 1 in
    let there : k + 1 < sums.known = let later = next.later in let low = next.there in omega arith in
    let same : k + 1 ≡ sums.told = let later = next.later in omega arith in
    subst (λ o. IsSecurityAfter (history_of content) o (get_or sums.securities sums.told None)) next.before
    (subst (λ n. IsSecurityAfter (history_of content) (get_or sums.securities k None) (get_or sums.securities n None)) same (is.follow.each k there))

-- where no row is known nothing is said
pub nothing_summed : (view : View) (sums : Sums) → sums.known ≡ 0 → sums.counted ≡ 0 → HoldsSums view sums
nothing_summed view sums none uncounted = record {
  now = λ up. record {
    follow = record { each = λ k below. absurd (omega arith) };
    totals = record { each = λ k below. absurd (omega arith) };
  };
}

-- by a call that reads
module _ (sums : Sums) (old new : View) (holds : HoldsSums old sums) where
  sums_same : new.stage ≡ old.stage → new.content ≡ old.content → HoldsSums new sums
  sums_same stage same = record { now = λ up. subst (λ content. IsSums content sums) (sym same) (holds.now (λ failed. up (stage ∙ failed))) }

  sums_fell : new.stage ≡ fallen old.stage → (old.stage ≡ Idle → new.content ≡ old.content) → HoldsSums new sums
  sums_fell stage same = record {
    now = λ up. let was = not_fallen old.stage new.stage stage up in subst (λ content. IsSums content sums) (sym (same was)) (holds.now (idle_is_not_failed old.stage was));
  }

pub sums_read : {T : Type 0} (sums : Sums) (old new : Rows) (r : Result T Fault) → HoldsSums (view_of_rows old) sums → IsRead r (view_of_rows old) (view_of_rows new) → HoldsSums (view_of_rows new) sums
sums_read sums old new (Ok x) holds read = sums_same sums (view_of_rows old) (view_of_rows new) holds read.ok.stage (read.same tt tt)
sums_read sums old new (Err f) holds read = sums_fell sums (view_of_rows old) (view_of_rows new) holds read.err.stage (read.err.content tt tt)
