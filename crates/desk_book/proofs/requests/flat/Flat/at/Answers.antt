-- What stands last at the name, or before that.
use Rattle.std.proofs.Common.{ap, sym, ◌∙◌}
use Rattle.serde_json.specs.Data.{no_members}
use Rattle.serde_json.specs.Find.{get_member}
use Rattle.desk_codes.proofs.BicLemmas.{same_bytes, other_bytes}
use Rattle.desk_book.specs.Flat.{put_all}
use Rattle.desk_book.proofs.FlatLemmas.{stands_last, stands_before}
use Rattle.desk_book.proofs.requests.flat.Flat.at.Goals as goal

pub returns-then-eq : goal.returns-then-eq
returns-then-eq c =
    let members = c.as_slice-members.result.now in
    let name = c.args.name.now in
    sym (stands_last members c.loop-index.index _ c.loop-index-test.true c.loop-index.auto.index name (same_bytes _ name (sym c.eq.ensures ∙ c.if-eq.true)))
    ∙ c.loop-index.invariant ∙ ap (λ l. get_member name (put_all l no_members)) c.as_slice-members.ensures.value

pub loop-index-preserved : goal.loop-index-preserved
loop-index-preserved c =
    let members = c.as_slice-members.result.now in
    let name = c.args.name.now in
    sym (stands_before members c.loop-index.index _ c.loop-index-test.true c.loop-index.auto.index name (other_bytes _ name (sym c.eq.ensures ∙ c.if-eq.false))) ∙ c.loop-index.invariant
