use Rattle.memory_register.proofs.OnlyLemmas.{kept_with}
use Rattle.memory_register.proofs.noting.note_pair.Goals as goal

pub returns-clause-kept : goal.returns-clause-kept
returns-clause-kept c =
    kept_with c.args.places.now c.place_instruction.new.places c.args.touched.now.items c.touch_both.new.touched.items c.args.earlier c.args.later c.in_ok-touch_both.ensures.ok c.place_instruction.ensures.others
