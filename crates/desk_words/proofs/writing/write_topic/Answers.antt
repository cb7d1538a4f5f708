use Rattle.std.proofs.Common.{List, ℕ, ◌++◌, ◌∙◌, ap, subst}
use Rattle.std.specs.Prelude.{OnOk}
use Rattle.std.specs.List.{flat_map}
use Rattle.std.specs.Io.KnownBytes.{Appends}
use Rattle.desk_words.specs.Causes.{cause_text, value_of_cause}
use Rattle.desk_words.specs.Topics.{detail_text, value_of_detail}
use Rattle.desk_words.proofs.WritingLemmas.{over_values}
use Rattle.desk_words.proofs.writing.write_topic.Goals as goal

pub returns-in-Cause-clause-written : goal.returns-in-Cause-clause-written
returns-in-Cause-clause-written g c =
    let P : List ℕ → Type 0 = λ t. OnOk c.write_with.result (Appends (g.W.Write.contents c.args.writer.now) (g.W.Write.contents c.write_with.new.writer) (cause_text (value_of_cause c.in-Cause.cause) ++ t)) in
    rw c.in-Cause.is (subst P (over_values detail_text value_of_detail c.details_of.result.now ∙ ap (flat_map detail_text) c.details_of.ensures) c.write_with.ensures.written)
