use Rattle.desk_register.proofs.SumsLemmas.{adds_up_appended, adds_up_tried}
use Rattle.desk_register.proofs.laws.sums_stay.Goals as goal

pub returns-clause-append : goal.returns-clause-append
returns-clause-append c = λ room entry reply content sums can. adds_up_appended content sums room entry reply can

pub returns-clause-settle_pair : goal.returns-clause-settle_pair
returns-clause-settle_pair c = λ n outcome old new sums tries. adds_up_tried old sums n outcome new tries
