use Rattle.std.proofs.Common.{rules, ◌≡◌, vec_len, length}
use Rattle.std.proofs.lemmas.Result.{on_ok_weaker}
use Rattle.desk_text.proofs.LinesLemmas.{value_lines-found, value_lines-last}
use Rattle.desk_text.proofs.WrittenLemmas.{front_more, value_step, value_end}
use Rattle.desk_text.proofs.writing.append_value.Goals as goal

pub loop-line-preserved : goal.loop-line-preserved
loop-line-preserved c = record {
  items = value_step c.loop-line.out.items c.append_all.new.out.items c.in-Some.line.now c.loop-line.rest.now c.in-Some.after.now _ c.in_ok-append_all.ensures.ok
      (value_lines-found c.loop-line.rest.now c.in-Some.line.now c.in-Some.after.now c.in-Some.ensures.found) c.loop-line.invariant.items;
  front = let n : vec_len c.args.out.now ≡ length c.args.out.now.items = search rules in
      rw c.in_ok-append_all.ensures.ok (front_more c.args.out.now.items c.loop-line.out.items _ (vec_len c.args.out.now) n c.loop-line.invariant.front);
}

pub returns-clause-ok : goal.returns-clause-ok
returns-clause-ok c =
    on_ok_weaker c.append_all-2.result
    (value_end c.loop-line.out.items c.append_all-2.new.out.items c.loop-line.rest.now _ (value_lines-last c.loop-line.rest.now c.in_default.ensures.none) c.loop-line.invariant.items)
    c.append_all-2.ensures.ok
