use Rattle.std.proofs.Common.{Ok, ℕ, ◌≡◌, ◌∙◌, ap, refl, subst, sym, None, Some}
use Rattle.sqlite.specs.Effect.{Database}
use Rattle.sqlite.specs.State.{HasCleanDisk}
use Rattle.desk_rules.specs.Content.{history_of}
use Rattle.desk_rules.specs.History.{instruction_at}
use Rattle.sql_tables.specs.Schema.{desk_schema}
use Rattle.sql_register.specs.Content.{content_in}
use Rattle.sql_register.specs.Holds.{IsDesk}
use Rattle.sql_tables.specs.Ends.{ForCause}
use Rattle.sql_tables.proofs.CallLemmas.{later_then}
use Rattle.sql_tables.proofs.LookLemmas.{look_ok, look_then}
use Rattle.sql_tables.proofs.ResultLemmas.{on_error}
use Rattle.sql_register.proofs.CauseLemmas.{caused_error, looked, looked_then}
use Rattle.sql_register.proofs.FailedLemmas.{look_only, no_value}
use Rattle.sql_register.proofs.WalkLemmas.{look_as, look_handed}
use Rattle.desk_rules.specs.declared.history.standing.Standing.{Standing}
use Rattle.sql_register.proofs.ReadLemmas.{was_clean}
use Rattle.sql_register.proofs.settling.pair_at.Goals as goal

none_some : (n : ℕ) → None ≡ Some n → ⊥
none_some n e = cc

pub returns-clause-value : goal.returns-clause-value
returns-clause-value g c clean is_open has desk =
    let s0 = g.S.Session.state c.args.conn.now in
    let s1 = g.S.Session.state c.instruction.new.conn in
    let s2 = g.S.Session.state c.standing.new.conn in
    let clean2 : HasCleanDisk s2 = was_clean _ _ c.in_ok-earlier.ensures.look.later clean in
    let clean1 : HasCleanDisk s1 = was_clean _ _ c.in_ok-standing.ensures.look.later clean2 in
    let same1 = c.in_ok-later.ensures.look.ok clean1 is_open has in
    let has1 : s1.now.schema ≡ desk_schema = ap (λ d. d.schema) same1.now ∙ has in
    let desk1 : IsDesk s1.now = subst IsDesk (sym same1.now) desk in
    let same2 = c.in_ok-standing.ensures.look.ok clean2 same1.is_open has1 in
    let has2 : s2.now.schema ≡ desk_schema = ap (λ d. d.schema) same2.now ∙ has1 in
    let same : s2.now ≡ s0.now = same2.now ∙ same1.now in
    let desk2 : IsDesk s2.now = subst IsDesk (sym same) desk in (
      refl,
      record {
        is_later = c.in_ok-later.ensures.value clean1 is_open has desk;
        has_mate = ap (λ (d : Database). ((content_in d).standing c.args.number).mate) (sym same1.now) ∙ (ap (λ (s : Standing). s.mate) (sym (c.in_ok-standing.ensures.value clean2 same1.is_open has1 desk1.standings)) ∙ c.in-Some.is);
        is_earlier = ap (λ (d : Database). instruction_at (history_of (content_in d)) c.in-Some.mate) (sym same) ∙ c.in_ok-earlier.ensures.value clean same2.is_open has2 desk2;
      },
    )

pub returns-in_err-later-clause-blame : goal.returns-in_err-later-clause-blame
returns-in_err-later-clause-blame g c clean is_open has desk mate earlier later pair =
    let s0 = g.S.Session.state c.args.conn.now in
    let e = c.in_err-later.field-0.0 in
    on_error c.from_residual.result e (ForCause s0 (g.S.Session.state c.instruction.new.conn)) c.from_residual.ensures.1
    (c.in_err-later.ensures.blame clean is_open has desk later pair.is_later)

pub returns-in_err-standing-clause-look : goal.returns-in_err-standing-clause-look
returns-in_err-standing-clause-look g c =
    let s0 = g.S.Session.state c.args.conn.now in
    let s1 = g.S.Session.state c.instruction.new.conn in
    let s2 = g.S.Session.state c.standing.new.conn in
    look_handed c.in_ok-later.later s0 s1 s2 c.in_ok-later.ensures.look c.from_residual-in_err-standing.result c.in_err-standing.field-0.0 c.from_residual-in_err-standing.ensures.1 c.in_err-standing.ensures.look

pub returns-in_err-standing-clause-blame : goal.returns-in_err-standing-clause-blame
returns-in_err-standing-clause-blame g c clean is_open has desk mate earlier later pair =
    let s0 = g.S.Session.state c.args.conn.now in
    let s1 = g.S.Session.state c.instruction.new.conn in
    let s2 = g.S.Session.state c.standing.new.conn in
    let e = c.in_err-standing.field-0.0 in
    on_error c.from_residual-in_err-standing.result e (ForCause s0 s2) c.from_residual-in_err-standing.ensures.1
    (caused_error e s0 s1 s2 (s1.now ≡ s0.now) c.in_ok-later.ensures.look.later c.in_err-standing.ensures.look.later (looked _ s0 s1 (λ d. d ≡ s0.now) c.in_ok-later.ensures.look refl)
    (λ clean2 open1 has1 same. let desk1 : IsDesk s1.now = subst IsDesk (sym same) desk in c.in_err-standing.ensures.blame clean2 open1 has1 desk1.standings) clean is_open has)

pub returns-in_err-earlier-clause-blame : goal.returns-in_err-earlier-clause-blame
returns-in_err-earlier-clause-blame g c clean is_open has desk mate earlier later pair =
    let s0 = g.S.Session.state c.args.conn.now in
    let s1 = g.S.Session.state c.instruction.new.conn in
    let s2 = g.S.Session.state c.standing.new.conn in
    let s3 = g.S.Session.state c.instruction-2.new.conn in
    let e = c.in_err-earlier.field-0.0 in
    let clean2 : HasCleanDisk s2 = was_clean _ _ c.in_err-earlier.ensures.look.later clean in
    let clean1 : HasCleanDisk s1 = was_clean _ _ c.in_ok-standing.ensures.look.later clean2 in
    let same1 = c.in_ok-later.ensures.look.ok clean1 is_open has in
    let has1 : s1.now.schema ≡ desk_schema = ap (λ (d : Database). d.schema) same1.now ∙ has in
    let desk1 : IsDesk s1.now = subst IsDesk (sym same1.now) desk in
    let found : Some mate ≡ Some c.in-Some.mate = sym (ap (λ (d : Database). ((content_in d).standing c.args.number).mate) same1.now ∙ pair.has_mate) ∙ (ap (λ (s : Standing). s.mate) (sym (c.in_ok-standing.ensures.value clean2 same1.is_open has1 desk1.standings)) ∙ c.in-Some.is) in
    let is_mate : mate ≡ c.in-Some.mate = cc in
    on_error c.from_residual-in_err-earlier.result e (ForCause s0 s3) c.from_residual-in_err-earlier.ensures.1
    (caused_error e s0 s2 s3 (s2.now ≡ s0.now) (later_then s0 s1 s2 c.in_ok-later.ensures.look.later c.in_ok-standing.ensures.look.later) c.in_err-earlier.ensures.look.later
    (looked_then _ s0 s1 s2 (λ d. d ≡ s0.now) (looked _ s0 s1 (λ d. d ≡ s0.now) c.in_ok-later.ensures.look refl) c.in_ok-standing.ensures.look)
    (λ clean3 open2 has2 same. c.in_err-earlier.ensures.blame clean3 open2 has2 (subst IsDesk (sym same) desk) earlier
    (ap (λ (d : Database). instruction_at (history_of (content_in d)) c.in-Some.mate) same ∙ ap (instruction_at (history_of (content_in s0.now))) (sym is_mate) ∙ pair.is_earlier)) clean is_open has)

pub returns-in_err-later-clause-value : goal.returns-in_err-later-clause-value
returns-in_err-later-clause-value g c clean is_open has desk = no_value c.from_residual.result c.in_err-later.field-0.0 c.from_residual.ensures.1 _

pub returns-in_err-standing-clause-value : goal.returns-in_err-standing-clause-value
returns-in_err-standing-clause-value g c clean is_open has desk = no_value c.from_residual-in_err-standing.result c.in_err-standing.field-0.0 c.from_residual-in_err-standing.ensures.1 _

pub returns-in_err-earlier-clause-value : goal.returns-in_err-earlier-clause-value
returns-in_err-earlier-clause-value g c clean is_open has desk = no_value c.from_residual-in_err-earlier.result c.in_err-earlier.field-0.0 c.from_residual-in_err-earlier.ensures.1 _

pub returns-in_err-later-clause-look : goal.returns-in_err-later-clause-look
returns-in_err-later-clause-look g c =
    let s0 = g.S.Session.state c.args.conn.now in
    let s1 = g.S.Session.state c.instruction.new.conn in
    look_only c.from_residual.result c.in_err-later.field-0.0 c.from_residual.ensures.1 _ s0 s1 c.in_err-later.ensures.look

pub returns-in_err-earlier-clause-look : goal.returns-in_err-earlier-clause-look
returns-in_err-earlier-clause-look g c =
    let s0 = g.S.Session.state c.args.conn.now in
    let s1 = g.S.Session.state c.instruction.new.conn in
    let s2 = g.S.Session.state c.standing.new.conn in
    let s3 = g.S.Session.state c.instruction-2.new.conn in
    look_handed c.in_ok-standing.standing s0 s2 s3 (look_then c.in_ok-later.later (Ok c.in_ok-standing.standing) s0 s1 s2 c.in_ok-later.ensures.look c.in_ok-standing.ensures.look) c.from_residual-in_err-earlier.result c.in_err-earlier.field-0.0 c.from_residual-in_err-earlier.ensures.1 c.in_err-earlier.ensures.look

pub returns-clause-look : goal.returns-clause-look
returns-clause-look g c =
    let s0 = g.S.Session.state c.args.conn.now in
    let s1 = g.S.Session.state c.instruction.new.conn in
    let s2 = g.S.Session.state c.standing.new.conn in
    let s3 = g.S.Session.state c.instruction-2.new.conn in
    look_ok c.in_ok-earlier.earlier _ s0 s3 (look_then c.in_ok-standing.standing (Ok c.in_ok-earlier.earlier) s0 s2 s3 (look_then c.in_ok-later.later (Ok c.in_ok-standing.standing) s0 s1 s2 c.in_ok-later.ensures.look c.in_ok-standing.ensures.look) c.in_ok-earlier.ensures.look)

pub returns-in_default-clause-value : goal.returns-in_default-clause-value
returns-in_default-clause-value g c clean is_open has desk = tt

pub returns-in_default-clause-look : goal.returns-in_default-clause-look
returns-in_default-clause-look g c =
    let s0 = g.S.Session.state c.args.conn.now in
    let s1 = g.S.Session.state c.instruction.new.conn in
    let s2 = g.S.Session.state c.standing.new.conn in
    look_as c.in_ok-standing.standing _ s0 s2 (look_then c.in_ok-later.later (Ok c.in_ok-standing.standing) s0 s1 s2 c.in_ok-later.ensures.look c.in_ok-standing.ensures.look)

pub returns-in_default-clause-blame : goal.returns-in_default-clause-blame
returns-in_default-clause-blame g c clean is_open has desk mate earlier later pair =
    let s0 = g.S.Session.state c.args.conn.now in
    let s1 = g.S.Session.state c.instruction.new.conn in
    let clean1 : HasCleanDisk s1 = was_clean _ _ c.in_ok-standing.ensures.look.later clean in
    let same1 = c.in_ok-later.ensures.look.ok clean1 is_open has in
    let has1 : s1.now.schema ≡ desk_schema = ap (λ (d : Database). d.schema) same1.now ∙ has in
    let desk1 : IsDesk s1.now = subst IsDesk (sym same1.now) desk in
    let found = c.in_ok-standing.ensures.value clean same1.is_open has1 desk1.standings in
    absurd (none_some mate (sym c.in_default.is ∙ ap (λ (s : Standing). s.mate) found ∙ ap (λ (d : Database). ((content_in d).standing c.args.number).mate) same1.now ∙ pair.has_mate))
