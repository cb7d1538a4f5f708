use Rattle.std.proofs.Common.{◌≡◌, ◌∙◌, ap}
use Rattle.std.specs.Prelude.{option_and_then}
use Rattle.desk_rules.specs.Content.{history_of}
use Rattle.desk_rules.specs.History.{entry_at, instructed, instruction_at}
use Rattle.desk_file.proofs.ToldLemmas.{ok_value, some_of}
use Rattle.desk_file.proofs.mirror.told.instruction.Goals as goal

pub returns-clause-value : goal.returns-clause-value
returns-clause-value g c = λ honest sure goes.
    let history = history_of (g.R.Register.view c.args.register.now).content in
    let found = ok_value c.entry.result c.unwrap.result (λ e. e ≡ entry_at history c.args.number) c.unwrap.ensures (c.entry.ensures.value honest sure goes) in
    some_of c.instructed_by.result (instruction_at history c.args.number) (c.instructed_by.ensures ∙ ap (option_and_then instructed) found)
