use Rattle.serde_json.specs.View.{view}
use Rattle.desk_findings.proofs.CommandLemmas.{all_of, first_at, one_more}
use Rattle.desk_findings.proofs.commands.value.first_wrong.Goals as goal

pub returns-in-Some-clause-first : goal.returns-in-Some-clause-first
returns-in-Some-clause-first c = first_at (view c.args.value.now) c.args.members.now c.loop-member.member-index _ c.in-Some.fault c.loop-member-test.true c.loop-member.invariant c.in-Some.ensures.fault

pub loop-member-preserved : goal.loop-member-preserved
loop-member-preserved c = one_more (view c.args.value.now) c.args.members.now c.loop-member.member-index _ c.loop-member-test.true c.loop-member.invariant c.in_default.ensures.right

pub returns-clause-none : goal.returns-clause-none
returns-clause-none c = all_of (view c.args.value.now) c.args.members.now c.loop-member.member-index c.loop-member-test.false c.loop-member.invariant
