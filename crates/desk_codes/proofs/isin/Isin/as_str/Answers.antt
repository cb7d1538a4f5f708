use Rattle.desk_codes.proofs.IsinLemmas.{isin_is_ascii}
use Rattle.desk_codes.proofs.isin.Isin.as_str.Goals as goal

pub ascii_str-requires : goal.ascii_str-requires
ascii_str-requires c = isin_is_ascii c.self.inside.bytes c.self.invariant
