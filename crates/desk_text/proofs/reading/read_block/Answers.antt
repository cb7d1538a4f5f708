use Rattle.desk_text.proofs.SeenLemmas.{reads_from_gives}
use Rattle.desk_text.proofs.reading.read_block.Goals as goal

pub returns : goal.returns
returns c = reads_from_gives c.args.text.now c.scan.result c.scan.ensures.gives c.scan.ensures.memory
