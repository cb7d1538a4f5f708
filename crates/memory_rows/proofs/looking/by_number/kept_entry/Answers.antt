use Rattle.std.proofs.Common.{◌≤◌, ◌∙◌, sym, ap, arith, length, Some}
use Rattle.memory_rows.proofs.LookingLemmas.{entry_of}
use Rattle.memory_rows.proofs.looking.by_number.kept_entry.Goals as goal

pub returns : goal.returns
returns c =
    let kept = c.args.lists.now.kept.items in
    let within : c.args.number ≤ length kept = omega (arith, c.len.ensures) in
    ap (λ k. Some k.entry) c.index.ensures ∙ sym (entry_of kept c.args.number c.index.result.now (omega arith) within)
