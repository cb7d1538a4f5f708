-- Which rows are known of what an account holds next, through the calls of an indexed register.
use Rattle.std.proofs.Common.{◌≡◌, ℕ, ◌+◌, ◌-◌, ◌<◌, List, Option, None, sym, ◌∙◌, subst, arith, get_or}
use Rattle.std.specs.Prelude.{Result, Ok, Err, option_map}
use Rattle.desk_rules.specs.Content.{Content}
use Rattle.desk_register.specs.declared.register.Fault.{Fault}
use Rattle.desk_register.specs.declared.register.Stage.TheVariants.{Idle}
use Rattle.desk_register.specs.Looked.{IsHoldingAfter}
use Rattle.desk_register.specs.View.{View, IsRead, fallen}
use Rattle.memory_rows.specs.declared.rows.Rows.{Rows}
use Rattle.memory_rows.specs.RowsView.{view_of_rows}
use Rattle.memory_register.specs.Ahead.{HoldsAhead, IsAhead, IsNext}
use Rattle.memory_register.specs.declared.ahead.Ahead.{Ahead}
use Rattle.memory_register.proofs.IndexedLemmas.{idle_is_not_failed, not_fallen}

-- the next row is what the account holds next
pub next_is : (content : Content) (ahead : Ahead) (account : List ℕ) (above : Option (List ℕ)) → IsNext ahead account above → IsAhead content ahead → IsHoldingAfter content account above (get_or ahead.rows ahead.told None)
next_is content ahead account above next is =
    let k = ahead.told - 1 in
    let there : k + 1 < ahead.known = let later = next.later in let low = next.there in omega arith in
    let same : k + 1 ≡ ahead.told = let later = next.later in omega arith in
    subst (λ o. IsHoldingAfter content account o (get_or ahead.rows ahead.told None)) next.before
    (subst (λ n. IsHoldingAfter content account (option_map (λ holding. holding.isin) (get_or ahead.rows k None)) (get_or ahead.rows n None)) same ((is.rows account next.own).each k there))

-- where no row is known nothing is said
pub nothing_ahead : (view : View) (ahead : Ahead) → ahead.known ≡ 0 → HoldsAhead view ahead
nothing_ahead view ahead none = record { now = λ up. record { rows = λ account own. record { each = λ k below. absurd (omega arith) } } }

-- by a call that reads
module _ (ahead : Ahead) (old new : View) (holds : HoldsAhead old ahead) where
  ahead_same : new.stage ≡ old.stage → new.content ≡ old.content → HoldsAhead new ahead
  ahead_same stage same = record { now = λ up. subst (λ content. IsAhead content ahead) (sym same) (holds.now (λ failed. up (stage ∙ failed))) }

  ahead_fell : new.stage ≡ fallen old.stage → (old.stage ≡ Idle → new.content ≡ old.content) → HoldsAhead new ahead
  ahead_fell stage same = record {
    now = λ up. let was = not_fallen old.stage new.stage stage up in subst (λ content. IsAhead content ahead) (sym (same was)) (holds.now (idle_is_not_failed old.stage was));
  }

pub ahead_read : {T : Type 0} (ahead : Ahead) (old new : Rows) (r : Result T Fault) → HoldsAhead (view_of_rows old) ahead → IsRead r (view_of_rows old) (view_of_rows new) → HoldsAhead (view_of_rows new) ahead
ahead_read ahead old new (Ok x) holds read = ahead_same ahead (view_of_rows old) (view_of_rows new) holds read.ok.stage (read.same tt tt)
ahead_read ahead old new (Err f) holds read = ahead_fell ahead (view_of_rows old) (view_of_rows new) holds read.err.stage (read.err.content tt tt)
