use Rattle.desk_book.proofs.HeadlineLemmas.{headline}
use Rattle.desk_book.proofs.laws.headline.Goals as goal

pub returns : goal.returns
returns c = headline
