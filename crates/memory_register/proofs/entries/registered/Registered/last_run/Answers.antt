use Rattle.std.proofs.Common.{◌∙◌, ap, ◌-◌, length, option_map}
use Rattle.std.specs.Prelude.{slice_get}
use Rattle.desk_codes.specs.Number.{number_of}
use Rattle.memory_register.proofs.LookUpLemmas.{last_of_runs}
use Rattle.memory_register.proofs.entries.registered.Registered.last_run.Goals as goal

pub returns : goal.returns
returns c history are =
    ap (option_map number_of) (c.copied.ensures ∙ c.last.ensures.value ∙ ap (λ xs. slice_get xs (length xs - 1)) c.deref.ensures.value) ∙ last_of_runs c.args.self.now.runs.items history are.runs
