-- The first due pair of all is one to try: none is before it.
use Rattle.std.proofs.Common.{ℕ, Option, Some, None}
use Rattle.std.specs.Prelude.{Result, Ok, Err, IfOk}
use Rattle.std.proofs.lemmas.Bool.{both_ways}
use Rattle.desk_rules.specs.Content.{Content}
use Rattle.desk_rules.specs.declared.history.pair.Place.{Place}
use Rattle.desk_register.specs.declared.register.Fault.{Fault}
use Rattle.desk_register.specs.Looked.{IsDuePairAfter}
use Rattle.desk_register.specs.Short.{IsToTryAfter}

pub first_to_try : (content : Content) (day : ℕ) (place next : Option Place) → IsDuePairAfter content day place next → IsToTryAfter content day place next
first_to_try content day place None none = λ q due. absurd (none q due)
first_to_try content day place (Some p) due = (due.0, λ q other before. absurd (both_ways _ (due.1 q other) before))

pub first_to_try_ok : (content : Content) (day : ℕ) (place : Option Place) (r : Result (Option Place) Fault) → IfOk r (λ next. IsDuePairAfter content day place next) → IfOk r (λ next. IsToTryAfter content day place next)
first_to_try_ok content day place (Ok next) due = first_to_try content day place next due
first_to_try_ok content day place (Err fault) due = due
