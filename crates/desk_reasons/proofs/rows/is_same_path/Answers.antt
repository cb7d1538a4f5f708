use Rattle.std.proofs.Common.{sym, ◌∙◌}
use Rattle.std.specs.Str.{bytes_eq}
use Rattle.std.specs.Cmp.Derive.Mapped.{pointwise-map}
use Rattle.desk_reasons.proofs.rows.is_same_path.Goals as goal

pub returns : goal.returns
returns c = c.eq.ensures ∙ sym (pointwise-map (λ name. name.now) bytes_eq c.args.path.now c.args.other.now)
