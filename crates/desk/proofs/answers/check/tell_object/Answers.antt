use Rattle.std.proofs.Common.{ℕ, List, ◌++◌, ◌∙◌, subst}
use Rattle.std.specs.Prelude.{codes}
use Rattle.std.specs.Io.KnownBytes.{Appends}
use Rattle.desk.specs.CheckAnswer.{told_all}
use Rattle.desk.proofs.answers.check.tell_object.Goals as goal

pub returns-clause-told : goal.returns-clause-told
returns-clause-told g c =
    let P : List ℕ → Type 0 = λ text. Appends (g.W.Write.contents c.args.writer.now) (g.W.Write.contents c.put_line.new.writer) (text ++ codes "\n") in
    told_all c.status_of.ensures (subst P (c.as_bytes.ensures.value ∙ c.in-Ok.ensures) c.in_ok-put_line.ensures.written)
