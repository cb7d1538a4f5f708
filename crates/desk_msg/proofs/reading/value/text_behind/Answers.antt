use Rattle.std.proofs.Common.{◌∙◌, sym}
use Rattle.desk_msg.proofs.ValueLemmas.{begins_so, begins_not, rest_behind}
use Rattle.desk_msg.proofs.reading.value.text_behind.Goals as goal

pub returns : goal.returns
returns c =
    rw (rest_behind c.args.text.now c.args.begins.now (c.starts_with.ensures.bound c.if-not-starts_with.false))
    (begins_so c.args.text.now c.args.begins.now (sym c.starts_with.ensures.value ∙ c.if-not-starts_with.false))

pub returns-then-not-starts_with : goal.returns-then-not-starts_with
returns-then-not-starts_with c = λ rest e. begins_not c.args.text.now c.args.begins.now rest (sym c.starts_with.ensures.value ∙ c.if-not-starts_with.true) e
