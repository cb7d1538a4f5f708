use Rattle.std.proofs.Common.{◌∙◌, ap}
use Rattle.std.specs.Prelude.{is_some}
use Rattle.desk_register.specs.Looked.{pays_in}
use Rattle.memory_register.proofs.FirstLemmas.{first_any}
use Rattle.memory_register.proofs.entries.registered.Registered.has_currency.Goals as goal

pub returns : goal.returns
returns c history are = c.contains_key.ensures ∙ ap is_some (are.currencies c.args.ccy.now) ∙ first_any (pays_in c.args.ccy.now) history
