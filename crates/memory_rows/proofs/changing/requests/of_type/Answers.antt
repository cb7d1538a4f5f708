use Rattle.std.proofs.Common.{◌≡◌, ◌==◌, true, false, map, Some, sym, ◌∙◌, refl, rules}
use Rattle.desk_msg.specs.MessageType.{number_of_type}
use Rattle.desk_rules.specs.History.{instruction_at}
use Rattle.memory_rows.proofs.LookingLemmas.{instruction_within}
use Rattle.memory_rows.proofs.changing.requests.of_type.Goals as goal

pub returns-then-same_type-clause-named : goal.returns-then-same_type-clause-named
returns-then-same_type-clause-named c =
    let number : c.args.number ≡ Some c.in_ok-number.number = search rules in
    let at : instruction_at (map (λ k. k.entry) c.args.lists.now.kept.items) c.in_ok-number.number ≡ Some c.in_ok-named.named = search rules in
    let same : (number_of_type c.in_ok-named.named.instruction.mt == number_of_type c.args.mt) ≡ true = sym c.same_type.ensures ∙ c.if-same_type.true in
    rw (number, at, same) refl

pub returns-then-same_type-clause-known : goal.returns-then-same_type-clause-known
returns-then-same_type-clause-known c =
    let at : instruction_at (map (λ k. k.entry) c.args.lists.now.kept.items) c.in_ok-number.number ≡ Some c.in_ok-named.named = search rules in
    instruction_within c.args.lists.now.kept.items c.in_ok-number.number c.in_ok-named.named at

pub returns-clause-named : goal.returns-clause-named
returns-clause-named c =
    let number : c.args.number ≡ Some c.in_ok-number.number = search rules in
    let at : instruction_at (map (λ k. k.entry) c.args.lists.now.kept.items) c.in_ok-number.number ≡ Some c.in_ok-named.named = search rules in
    let other : (number_of_type c.in_ok-named.named.instruction.mt == number_of_type c.args.mt) ≡ false = sym c.same_type.ensures ∙ c.if-same_type.false in
    rw (number, at, other) refl
