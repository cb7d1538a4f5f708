-- The unmatched instruction of a number, as it was read.
use Rattle.std.proofs.Common.{◌≡◌, ◌≢◌, ℕ, Option, None, refl, sym, ap, ◌∙◌, subst}
use Rattle.std.specs.Prelude.{Result, Ok, IfOk}
use Rattle.desk_rules.specs.Content.{Content, history_of}
use Rattle.desk_rules.specs.History.{instruction_at}
use Rattle.desk_rules.specs.Unmatched.{if_unmatched, unmatched_in}
use Rattle.desk_rules.specs.declared.history.entry.Instructed.{Instructed}
use Rattle.desk_rules.specs.declared.history.standing.Standing.{Standing}
use Rattle.desk_rules.specs.declared.history.standing.State.{State}
use Rattle.desk_rules.specs.declared.history.standing.State.TheVariants.{NoInstruction, Unmatched, Matched, Cancelled, Settled}
use Rattle.desk_register.specs.declared.register.Fault.{Fault}
use Rattle.desk_register.specs.View.{IsLater, IsRead, View}
use Rattle.desk_register.proofs.ReadLemmas.{held_so, read_one}

-- where it stands unmatched
pub unmatched_read : (v0 v1 v2 : View) (number : ℕ) (standing : Standing) (r : Result (Option Instructed) Fault) → IsRead {X = Standing} (Ok standing) v0 v1 → (v1.is_honest → v0.is_sure → standing ≡ v0.content.standing number)
    → standing.state ≡ Unmatched → IsLater v1 v2 → (v2.is_honest → v1.is_sure → IfOk r (λ found. found ≡ instruction_at (history_of v1.content) number))
    → v2.is_honest → v0.is_sure → IfOk r (λ found. found ≡ unmatched_in v0.content number)
unmatched_read v0 v1 v2 number standing r first stands state later found honest sure =
    let honest1 = later.honest honest in
    let read = read_one standing v0 v1 first in
    let there = held_so v0 v1 read (λ content. IfOk r (λ found. found ≡ instruction_at (history_of content) number)) honest1 sure (found honest (read.ok.sure honest1 sure)) in
    subst (λ (z : State). IfOk r (λ found. found ≡ if_unmatched z (instruction_at (history_of v0.content) number))) (sym state ∙ ap (λ (z : Standing). z.state) (stands honest1 sure)) there

-- where it stands otherwise
none_so : (state : State) (found : Option Instructed) → state ≢ Unmatched → None ≡ if_unmatched state found
none_so NoInstruction found other = refl
none_so Unmatched found other = absurd (other refl)
none_so (Matched reason) found other = refl
none_so Cancelled found other = refl
none_so Settled found other = refl

pub not_unmatched : (content : Content) (number : ℕ) (standing : Standing) → standing ≡ content.standing number → standing.state ≢ Unmatched → None ≡ unmatched_in content number
not_unmatched content number standing stands other =
    none_so (content.standing number).state (instruction_at (history_of content) number) (λ is. other (ap (λ (z : Standing). z.state) stands ∙ is))
