use Rattle.desk_journal.proofs.KeyLemmas.{key_added}
use Rattle.desk_journal.proofs.keys.add_key.Goals as goal

pub returns-clause-keyed : goal.returns-clause-keyed
returns-clause-keyed g c = λ books honest sure are place is_notice keyed.
    let found = c.in_ok-addressed.ensures in
    key_added books (g.R.Register.view c.args.register.now).content are place c.args.notice c.in_ok-addressed.addressed is_notice (found.value honest sure) (c.requires.holds (found.read.later.honest honest) sure)
    c.args.counts.now c.count_more.new.counts c.args.keys.now.items c.add.new.list.items c.in-Ok.number keyed c.in-Ok.ensures c.add.result (rw c.type_of_notice.ensures at c.add.ensures.added)
