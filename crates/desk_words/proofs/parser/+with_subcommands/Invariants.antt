use Rattle.std.proofs.Common.{length}
use Rattle.desk_words.proofs.parser.+with_subcommands.Given as goal

abbrev pub decreases-with_subcommands : goal.decreases-with_subcommands
decreases-with_subcommands l = length l.subcommands.now
