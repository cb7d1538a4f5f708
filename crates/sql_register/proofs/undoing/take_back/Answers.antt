use Rattle.std.proofs.Common.{◌≡◌, ◌∙◌, ap}
use Rattle.sqlite.specs.Effect.{Database}
use Rattle.sqlite.specs.State.{HasCleanDisk}
use Rattle.sql_tables.specs.Schema.{desk_schema}
use Rattle.sql_register.proofs.CauseLemmas.{caused_from}
use Rattle.sql_register.proofs.ReadLemmas.{was_clean}
use Rattle.sql_register.proofs.undoing.take_back.Goals as goal

pub returns-clause-blame : goal.returns-clause-blame
returns-clause-blame g c clean is_open has still =
    let s0 = g.S.Session.state c.args.conn.now in
    let s1 = g.S.Session.state c.roll_back.new.conn in
    let s2 = g.S.Session.state c.probe-2.new.conn in
    let clean1 : HasCleanDisk s1 = was_clean _ _ c.probe-2.ensures.look.later clean in
    let clean0 : HasCleanDisk s0 = was_clean _ _ c.in_ok-roll_back.ensures.later clean1 in
    let open1 = c.probe-2.ensures.look.opened clean still in
    let undone = c.in_ok-roll_back.ensures.ok clean1 is_open has in
    let has1 : s1.now.schema ≡ desk_schema = ap (λ (d : Database). d.schema) (undone.now open1) ∙ c.requires.committed clean0 is_open in
    caused_from c.probe-2.result s0 s1 s2 (Unit {0}) c.in_ok-roll_back.ensures.later c.probe-2.ensures.look.later (λ clean3 open3 has3. record { is_open = open1; schema = has1; holds = tt })
    (λ clean2 open2 has2 it. c.probe-2.ensures.blame clean2 open2 has2) clean is_open has
