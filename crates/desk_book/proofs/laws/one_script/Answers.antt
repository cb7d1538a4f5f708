use Rattle.std.proofs.Common.{refl}
use Rattle.desk_book.proofs.OneReading.{one_list}
use Rattle.desk_book.proofs.laws.one_script.Goals as goal

pub returns : goal.returns
returns c = λ bytes a b h k. one_list k h refl
