-- A name, its colon and a value.
use Rattle.desk_book.proofs.FlatLemmas.{member_passed}
use Rattle.desk_book.proofs.requests.scanning.member.Goals as goal

pub returns-clause-passed : goal.returns-clause-passed
returns-clause-passed c =
    member_passed (record { name = c.in_ok-name.name; value = c.in_ok-value.value }) c.args.text.now c.after_space.result.now c.in_ok-name.behind.now c.after_space-2.result.now c.in_ok-value.rest.now c.in_ok-written.written.now
    c.after_space.ensures c.in_ok-name.ensures c.in_ok-written.ensures c.after_space-2.ensures c.in_ok-value.ensures.passed
