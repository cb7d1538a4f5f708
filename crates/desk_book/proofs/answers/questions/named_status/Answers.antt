use Rattle.std.proofs.Common.{◌≡◌, ◌∙◌, ap, rules}
use Rattle.std.specs.Prelude.{Err}
use Rattle.desk_register.proofs.ReadLemmas.{read_more, read_none, read_one, read_then}
use Rattle.desk_register.proofs.ReadingLemmas.{broke_off}
use Rattle.desk_register.proofs.ViewLemmas.{idle_goes}
use Rattle.desk_rules.specs.Questions.{refused_question}
use Rattle.desk_book.proofs.ReadEnds.{kept_after, memory_after, message_there, none_asked, none_named, none_there, told_as}
use Rattle.desk_book.proofs.answers.questions.named_status.Goals as goal

pub returns-in_default-clause-told : goal.returns-in_default-clause-told
returns-in_default-clause-told g c = λ books honest sure keeps.
    told_as c.refused.result (refused_question c.number.result) _ c.refused.ensures.reply (ap refused_question c.number.ensures.number ∙ none_asked books c.args.sender c.args.reference c.in_default.is)

pub returns-in_default-clause-read : goal.returns-in_default-clause-read
returns-in_default-clause-read g c =
    let v0 = g.R.Register.view c.args.register.now in
    memory_after c.refused.result v0 v0 (read_none v0) c.requires.stage c.refused.ensures.memory

pub returns-in_default-2-clause-read : goal.returns-in_default-2-clause-read
returns-in_default-2-clause-read g c =
    let v0 = g.R.Register.view c.args.register.now in
    let v1 = g.R.Register.view c.number_of.new.self in
    let so_far = read_one _ v0 v1 c.in_ok-number.ensures.read in
    memory_after c.refused-in_default-2.result v0 v1 so_far c.requires.stage c.refused-in_default-2.ensures.memory

pub returns-in_default-2-clause-told : goal.returns-in_default-2-clause-told
returns-in_default-2-clause-told g c = λ books honest sure keeps.
    let v0 = g.R.Register.view c.args.register.now in
    let v1 = g.R.Register.view c.number_of.new.self in
    let first = c.in_ok-number.ensures in
    told_as c.refused-in_default-2.result (refused_question c.number-in_default-2.result) _ c.refused-in_default-2.ensures.reply
    (ap refused_question c.number-in_default-2.ensures.number ∙ none_named books v0.content keeps.tables.history c.args.sender c.args.reference c.in-Some.reference c.in-Some.is c.in_ok-number.field-0 (first.value honest sure (idle_goes _ c.requires.stage)) c.in_default-2.is)

pub returns-in_err-entry-clause-read : goal.returns-in_err-entry-clause-read
returns-in_err-entry-clause-read g c =
    let v0 = g.R.Register.view c.args.register.now in
    let v1 = g.R.Register.view c.number_of.new.self in
    let v2 = g.R.Register.view c.entry.new.self in
    let so_far = read_one _ v0 v1 c.in_ok-number.ensures.read in
    let is : c.from_residual-in_err-entry.result ≡ Err c.in_err-entry.field-0.0 = search rules in
    rw is (broke_off v0 v1 so_far c.in_err-entry.field-0.0 v2 c.in_err-entry.ensures.read)

pub returns-in_default-3-clause-read : goal.returns-in_default-3-clause-read
returns-in_default-3-clause-read g c =
    let v0 = g.R.Register.view c.args.register.now in
    let v1 = g.R.Register.view c.number_of.new.self in
    let v2 = g.R.Register.view c.entry.new.self in
    let so_far = read_more _ v0 v1 v2 (read_one _ v0 v1 c.in_ok-number.ensures.read) c.in_ok-entry.ensures.read in
    memory_after c.refused-in_default-3.result v0 v2 so_far c.requires.stage c.refused-in_default-3.ensures.memory

pub returns-in_default-3-clause-told : goal.returns-in_default-3-clause-told
returns-in_default-3-clause-told g c = λ books honest sure keeps.
    let v0 = g.R.Register.view c.args.register.now in
    let v1 = g.R.Register.view c.number_of.new.self in
    let v2 = g.R.Register.view c.entry.new.self in
    let first = c.in_ok-number.ensures in
    let second = c.in_ok-entry.ensures in
    let honest1 = second.read.later.honest honest in
    let sure1 = first.read.ok.sure honest1 sure in
    let value1 = first.value honest1 sure (idle_goes _ c.requires.stage) in
    let value2 = second.value honest sure1 (idle_goes _ (first.read.ok.stage ∙ c.requires.stage)) in
    told_as c.refused-in_default-3.result (refused_question c.number-in_default-3.result) _ c.refused-in_default-3.ensures.reply
    (ap refused_question c.number-in_default-3.ensures.number ∙ none_there books v0.content keeps.tables.history c.args.sender c.args.reference c.in-Some.reference c.in-Some.is c.in_ok-number.field-0 value1 c.in-Some-2.number c.in-Some-2.is v1.content (first.read.same honest1 sure) c.in_ok-entry.field-0 value2 c.in_default-3.is)

pub returns-clause-read : goal.returns-clause-read
returns-clause-read g c =
    let v0 = g.R.Register.view c.args.register.now in
    let v1 = g.R.Register.view c.number_of.new.self in
    let v2 = g.R.Register.view c.entry.new.self in
    let v3 = g.R.Register.view c.message_status.new.register in
    let so_far = read_more _ v0 v1 v2 (read_one _ v0 v1 c.in_ok-number.ensures.read) c.in_ok-entry.ensures.read in
    read_then v0 v2 v3 so_far c.message_status.result c.message_status.ensures.read

pub returns-clause-told : goal.returns-clause-told
returns-clause-told g c = λ books honest sure keeps.
    let v0 = g.R.Register.view c.args.register.now in
    let v1 = g.R.Register.view c.number_of.new.self in
    let v2 = g.R.Register.view c.entry.new.self in
    let v3 = g.R.Register.view c.message_status.new.register in
    let so_far = read_more _ v0 v1 v2 (read_one _ v0 v1 c.in_ok-number.ensures.read) c.in_ok-entry.ensures.read in
    let first = c.in_ok-number.ensures in
    let second = c.in_ok-entry.ensures in
    let third = c.message_status.ensures in
    let honest2 = third.read.later.honest honest in
    let honest1 = second.read.later.honest honest2 in
    let sure1 = first.read.ok.sure honest1 sure in
    let value1 = first.value honest1 sure (idle_goes _ c.requires.stage) in
    let value2 = second.value honest2 sure1 (idle_goes _ (first.read.ok.stage ∙ c.requires.stage)) in
    told_as c.message_status.result _ _ (third.told books honest (so_far.ok.sure honest2 sure) (kept_after v0 v2 books so_far honest2 sure keeps))
    (message_there books v0.content keeps.tables.history c.args.sender c.args.reference c.in-Some.reference c.in-Some.is c.in_ok-number.field-0 value1 c.in-Some-2.number c.in-Some-2.is v1.content (first.read.same honest1 sure) c.in_ok-entry.field-0 value2 c.in-Some-3.entry c.in-Some-3.is)
