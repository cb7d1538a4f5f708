use Rattle.desk_report.proofs.DifferLemmas.{row_differs}
use Rattle.desk_report.proofs.laws.nearest_differs.Goals as goal

pub returns : goal.returns
returns c books content row are there = row_differs books content are row there
