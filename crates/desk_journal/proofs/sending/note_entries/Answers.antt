use Rattle.std.proofs.Common.{rules, ◌≡◌, length}
use Rattle.desk_register.proofs.ReadingLemmas.{read_on}
use Rattle.desk_journal.proofs.NotingLemmas.{list_broke, noting_goes_on, walk_broke}
use Rattle.desk_journal.proofs.sending.note_entries.Goals as goal

pub returns-in_err-note_entry-clause-read : goal.returns-in_err-note_entry-clause-read
returns-in_err-note_entry-clause-read g c =
    walk_broke c.in_err-note_entry.field-0.0 c.from_residual.result (g.R.Register.view c.args.register.now) (g.R.Register.view c.numbers.register) (g.R.Register.view c.note_entry.new.register) c.from_residual.ensures.1
    c.numbers.invariant.read c.in_err-note_entry.ensures.read

pub returns-in_err-add-clause-read : goal.returns-in_err-add-clause-read
returns-in_err-add-clause-read g c =
    let v0 = g.R.Register.view c.args.register.now in
    let v = g.R.Register.view c.numbers.register in
    let v1 = g.R.Register.view c.note_entry.new.register in
    list_broke c.in_err-add.field-0.0 c.from_residual-in_err-add.result v0 v1 c.from_residual-in_err-add.ensures.1 (read_on v0 v c.numbers.invariant.read c.in_ok-note_entry.field-0 v1 c.in_ok-note_entry.ensures.read)
    c.in_err-add.ensures.register

pub numbers-preserved : goal.numbers-preserved
numbers-preserved g c =
    let w = c.in_ok-note_entry.ensures in
    let count : c.len.result ≡ length c.note_entry.new.notices.items = search rules in
    noting_goes_on (g.R.Register.view c.args.register.now) (g.R.Register.view c.numbers.register) c.numbers.before c.numbers.notices.items c.numbers.ends.items c.numbers.invariant
    (g.R.Register.view c.note_entry.new.register) c.note_entry.new.notices.items c.len.result c.add.new.list.items w.read w.noted count
    c.in_ok-add.ensures.added
