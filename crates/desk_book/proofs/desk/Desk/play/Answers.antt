use Rattle.std.proofs.Common.{length, [], ap, arith}
use Rattle.desk_book.proofs.LeftLemmas.{leaves_all}
use Rattle.desk_book.proofs.PlayEnds.{nothing_taken, read_as}
use Rattle.desk_book.proofs.desk.Desk.play.Goals as goal

pub returns-in_default-clause-left : goal.returns-in_default-clause-left
returns-in_default-clause-left g c = leaves_all g.R.Register.view g.R.Register.in_memory c.args.self.now

pub returns-in_default-clause-taken : goal.returns-in_default-clause-taken
returns-in_default-clause-taken g c = ([], nothing_taken _, omega arith)

pub returns-in_err-script-clause-left : goal.returns-in_err-script-clause-left
returns-in_err-script-clause-left g c = leaves_all g.R.Register.view g.R.Register.in_memory c.args.self.now

pub returns-in_err-script-clause-taken : goal.returns-in_err-script-clause-taken
returns-in_err-script-clause-taken g c = c.in_err-script.ensures.taken

pub returns-in-Ok-answer_script-clause-played : goal.returns-in-Ok-answer_script-clause-played
returns-in-Ok-answer_script-clause-played g c = λ books honest holds.
    let text = c.in_ok-script.ensures in (
      c.deref.result.now,
      read_as _ c.in_ok-script.script.items c.deref.result.now c.deref.ensures.value text.whole,
      (let same = ap length c.deref.ensures.value in let fits = text.fits in omega (arith, same, fits)),
      c.in-Ok-answer_script.ensures.played books honest holds,
    )

pub returns-in-Ok-answer_script-clause-taken : goal.returns-in-Ok-answer_script-clause-taken
returns-in-Ok-answer_script-clause-taken g c = c.in_ok-script.ensures.taken

pub returns-in-Ok-answer_script-clause-left : goal.returns-in-Ok-answer_script-clause-left
returns-in-Ok-answer_script-clause-left g c = c.answer_script.ensures.left

pub returns-clause-stands : goal.returns-clause-stands
returns-clause-stands g c = λ is books honest holds.
    let text = c.in_ok-script.ensures in (
      c.deref.result.now,
      read_as _ c.in_ok-script.script.items c.deref.result.now c.deref.ensures.value text.whole,
      (let same = ap length c.deref.ensures.value in let fits = text.fits in omega (arith, same, fits)),
      c.answer_script.ensures.front books honest holds,
    )

pub returns-clause-taken : goal.returns-clause-taken
returns-clause-taken g c = c.in_ok-script.ensures.taken

pub returns-clause-left : goal.returns-clause-left
returns-clause-left g c = c.answer_script.ensures.left
