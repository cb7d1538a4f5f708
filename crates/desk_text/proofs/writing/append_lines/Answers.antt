use Rattle.desk_text.proofs.WrittenLemmas.{field_text}
use Rattle.desk_text.proofs.writing.append_lines.Goals as goal

pub returns-clause-ok : goal.returns-clause-ok
returns-clause-ok c = field_text c.args.out.now.items c.append_all.new.out.items c.append_value.new.out.items c.args.tag.now c.args.value.now c.in_ok-append_all.ensures.ok c.in_default.ensures.ok
