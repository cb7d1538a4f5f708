use Rattle.desk_msg.proofs.FormLemmas.{day_found}
use Rattle.desk_msg.proofs.reading.value.day_before_time.Goals as goal

pub returns-in_err-front : goal.returns-in_err-front
returns-in_err-front c = rw c.from_residual.ensures (λ y h. c.in_err-front.ensures y h.1)

pub returns : goal.returns
returns c = day_found c.args.text.now c.in_ok-front.front.now c.day_of.result c.in_ok-front.ensures c.day_of.ensures
