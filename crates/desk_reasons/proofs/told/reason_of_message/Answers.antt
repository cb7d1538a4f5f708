use Rattle.desk_text.specs.Seen.{found_in}
use Rattle.desk_reasons.proofs.BlockLemmas.{block_told, misnested_may_be}
use Rattle.desk_reasons.proofs.told.reason_of_message.Goals as goal

pub returns-in-Ok : goal.returns-in-Ok
returns-in-Ok c =
    let read = c.in-Ok.ensures in
    block_told c.args.mt c.args.text.now (found_in c.in-Ok.block) c.told_of_block.result read.0 read.1 c.told_of_block.ensures

pub returns-in-Err : goal.returns-in-Err
returns-in-Err c = misnested_may_be c.args.text.now c.in-Err-BadNesting.line c.in-Err-BadNesting.field-0 c.in-Err-BadNesting.field-0-is c.in-Err-BadNesting.ensures
