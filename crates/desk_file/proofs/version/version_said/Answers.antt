use Rattle.std.proofs.Common.{arith}
use Rattle.sqlite.specs.State.{HasCleanDisk}
use Rattle.desk_file.proofs.VersionLemmas.{tells_version, spares_none, spares_then}
use Rattle.desk_file.proofs.version.version_said.Goals as goal

pub returns-then-not-has_versions-clause-spares : goal.returns-then-not-has_versions-clause-spares
returns-then-not-has_versions-clause-spares g c = spares_none (g.S.Session.state c.args.conn.now)

pub returns-clause-spares : goal.returns-clause-spares
returns-clause-spares g c =
    let s0 = g.S.Session.state c.args.conn.now in
    let s1 = g.S.Session.state c.begin.new.conn in
    let s2 = g.S.Session.state c.versions-shown.new.conn in
    spares_then s0 s1 s2 c.in_ok-begin.ensures.spares (c.versions-shown.ensures.spares c.in_ok-begin.ensures.inside)

pub returns-clause-said : goal.returns-clause-said
returns-clause-said g c = λ clean.
    let begun = c.in_ok-begin.ensures in
    let clean1 : HasCleanDisk (g.S.Session.state c.begin.new.conn) = (let less = (c.versions-shown.ensures.spares begun.inside).later.clean in omega (arith, clean, less)) in
    tells_version g.S.Session.state _ c.begin.new.conn c.versions-shown.new.conn (begun.same clean1).now c.versions-shown.result (c.versions-shown.ensures.shown clean) c.told.result c.told.ensures.said
