-- One more member, or the end of the object.
use Rattle.std.proofs.Common.{◌≡◌, Some, sym, subst, ◌∙◌}
use Rattle.serde_json.specs.Read.{read}
use Rattle.desk_book.specs.Flat.{object_of}
use Rattle.desk_book.proofs.FlatLemmas.{Begun, begun_on, ended, empty_text}
use Rattle.desk_book.proofs.requests.flat.flat_object.Goals as goal

pub returns-in-None-clause-read : goal.returns-in-None-clause-read
returns-in-None-clause-read c =
    let read_whole = ended c.loop.flat.members.items c.in_ok-member.member c.args.bytes.now c.loop.rest.now c.in_ok-member.behind.now c.in_ok-end-in-None.end.now c.after_space.result.now
    c.loop.invariant c.in_ok-member.ensures.passed c.in_ok-member.ensures.fits c.in_ok-end-in-None.ensures c.after_space.ensures (empty_text c.after_space.result.now (sym c.is_empty.ensures ∙ c.if-not-is_empty.false)) in
    subst (λ ms. read c.args.bytes.now ≡ Some (object_of ms)) (sym c.in_ok-add.ensures) read_whole.reads

pub returns-in-None-clause-utf8 : goal.returns-in-None-clause-utf8
returns-in-None-clause-utf8 c =
    let read_whole = ended c.loop.flat.members.items c.in_ok-member.member c.args.bytes.now c.loop.rest.now c.in_ok-member.behind.now c.in_ok-end-in-None.end.now c.after_space.result.now
    c.loop.invariant c.in_ok-member.ensures.passed c.in_ok-member.ensures.fits c.in_ok-end-in-None.ensures c.after_space.ensures (empty_text c.after_space.result.now (sym c.is_empty.ensures ∙ c.if-not-is_empty.false)) in
    read_whole.utf8

pub loop-preserved : goal.loop-preserved
loop-preserved c =
    subst (λ ms. Begun ms c.args.bytes.now c.in-Some.more.now) (sym c.in_ok-add.ensures)
    (begun_on c.loop.flat.members.items c.in_ok-member.member c.args.bytes.now c.loop.rest.now c.in_ok-member.behind.now c.in-Some.more.now c.loop.invariant c.in_ok-member.ensures.passed c.in_ok-member.ensures.fits c.in-Some.ensures)
