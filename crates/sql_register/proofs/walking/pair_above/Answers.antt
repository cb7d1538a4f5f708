use Rattle.std.proofs.Common.{◌≡◌, subst, sym, Some, ℕ, ◌<◌, Option, IfSome, Ok, Err}
use Rattle.sqlite.specs.Effect.{Database}
use Rattle.sqlite.specs.declared.error.Error.{Error}
use Rattle.sqlite.specs.State.{HasCleanDisk}
use Rattle.desk_rules.specs.Content.{history_of}
use Rattle.desk_rules.specs.History.{instruction_at}
use Rattle.sql_rows.specs.Standings.{IsNextMatched, standing_in}
use Rattle.sql_tables.specs.Ends.{ForCause}
use Rattle.sql_tables.proofs.ResultLemmas.{no_error, on_error}
use Rattle.sql_register.specs.Content.{content_in}
use Rattle.sql_register.proofs.WalkLemmas.{fails_then, look_as, look_handed, matched_known, matched_within, on_same, shown_then}
use Rattle.sql_register.proofs.FailedLemmas.{look_only, no_value}
use Rattle.sql_tables.proofs.LookLemmas.{look_ok, look_then}
use Rattle.sql_register.proofs.ReadLemmas.{was_clean}
use Rattle.sql_register.proofs.walking.pair_above.Goals as goal

pub returns-in_default-clause-value : goal.returns-in_default-clause-value
returns-in_default-clause-value g c clean is_open has desk =
    subst (IsNextMatched (g.S.Session.state c.args.conn.now).now c.args.after) c.in_default.is (on_same {E = Error} (Ok c.in_ok-number.field-0) c.in_ok-found.found (IsNextMatched (g.S.Session.state c.args.conn.now).now c.args.after) c.in_ok-number.ensures.same (c.in_ok-found.ensures.value clean is_open has desk.standings))

pub returns-clause-value : goal.returns-clause-value
returns-clause-value g c clean is_open has desk =
    let s0 = g.S.Session.state c.args.conn.now in
    let s1 = g.S.Session.state c.next_matched.new.conn in
    let s2 = g.S.Session.state c.standing.new.conn in
    let s3 = g.S.Session.state c.instruction.new.conn in
    let number = c.in-Some.number in
    let clean2 : HasCleanDisk s2 = was_clean _ _ c.in_ok-later.ensures.look.later clean in
    let clean1 : HasCleanDisk s1 = was_clean _ _ c.in_ok-standing.ensures.look.later clean2 in
    let stands = shown_then _ s0 s1 s2 c.in_ok-found.ensures.look (λ (d : Database). standing_in d number ≡ c.in_ok-standing.standing) c.in_ok-standing.ensures.look.later
    (λ clean3 open1 has1 desk1. sym (c.in_ok-standing.ensures.value clean3 open1 has1 desk1.standings)) clean2 is_open has desk in
    let both = look_then c.in_ok-found.found (Ok c.in_ok-standing.standing) s0 s1 s2 c.in_ok-found.ensures.look c.in_ok-standing.ensures.look in
    let is = shown_then _ s0 s2 s3 both (λ (d : Database). instruction_at (history_of (content_in d)) number ≡ Some c.in_ok-later.later) c.in_ok-later.ensures.look.later c.in_ok-later.ensures.value clean is_open has desk in (
      subst (IsNextMatched s0.now c.args.after) c.in-Some.is (on_same {E = Error} (Ok c.in_ok-number.field-0) c.in_ok-found.found (IsNextMatched s0.now c.args.after) c.in_ok-number.ensures.same (c.in_ok-found.ensures.value clean1 is_open has desk.standings)),
      c.place_due.ensures (content_in s0.now) stands is,
    )

pub returns-in_err-standing-clause-value : goal.returns-in_err-standing-clause-value
returns-in_err-standing-clause-value g c clean is_open has desk = no_value c.from_residual-in_err-standing.result c.in_err-standing.field-0.0 c.from_residual-in_err-standing.ensures.1 _

pub returns-in_err-standing-clause-within : goal.returns-in_err-standing-clause-within
returns-in_err-standing-clause-within g c = no_value c.from_residual-in_err-standing.result c.in_err-standing.field-0.0 c.from_residual-in_err-standing.ensures.1 _

pub returns-in_err-standing-clause-look : goal.returns-in_err-standing-clause-look
returns-in_err-standing-clause-look g c =
    look_handed _ (g.S.Session.state c.args.conn.now) (g.S.Session.state c.next_matched.new.conn) (g.S.Session.state c.standing.new.conn) c.in_ok-found.ensures.look c.from_residual-in_err-standing.result c.in_err-standing.field-0.0
    c.from_residual-in_err-standing.ensures.1 c.in_err-standing.ensures.look

pub returns-in_err-standing-clause-blame : goal.returns-in_err-standing-clause-blame
returns-in_err-standing-clause-blame g c clean is_open has desk =
    let s0 = g.S.Session.state c.args.conn.now in
    let s1 = g.S.Session.state c.next_matched.new.conn in
    let s2 = g.S.Session.state c.standing.new.conn in
    let e = c.in_err-standing.field-0.0 in
    on_error c.from_residual-in_err-standing.result e (ForCause s0 s2) c.from_residual-in_err-standing.ensures.1
    (fails_then _ s0 s1 s2 c.in_ok-found.ensures.look e (λ d. Unit {0}) c.in_err-standing.ensures.look.later
    (λ clean2 open1 has1 desk1 u. c.in_err-standing.ensures.blame clean2 open1 has1 desk1.standings) clean is_open has desk tt)

pub returns-in_err-later-clause-value : goal.returns-in_err-later-clause-value
returns-in_err-later-clause-value g c clean is_open has desk = no_value c.from_residual-in_err-later.result c.in_err-later.field-0.0 c.from_residual-in_err-later.ensures.1 _

pub returns-in_err-later-clause-within : goal.returns-in_err-later-clause-within
returns-in_err-later-clause-within g c = no_value c.from_residual-in_err-later.result c.in_err-later.field-0.0 c.from_residual-in_err-later.ensures.1 _

pub returns-in_err-later-clause-look : goal.returns-in_err-later-clause-look
returns-in_err-later-clause-look g c =
    let s0 = g.S.Session.state c.args.conn.now in
    let s1 = g.S.Session.state c.next_matched.new.conn in
    let s2 = g.S.Session.state c.standing.new.conn in
    let s3 = g.S.Session.state c.instruction.new.conn in
    let both = look_then c.in_ok-found.found (Ok c.in_ok-standing.standing) s0 s1 s2 c.in_ok-found.ensures.look c.in_ok-standing.ensures.look in
    look_handed c.in_ok-standing.standing s0 s2 s3 both c.from_residual-in_err-later.result c.in_err-later.field-0.0 c.from_residual-in_err-later.ensures.1 c.in_err-later.ensures.look

pub returns-in_err-later-clause-blame : goal.returns-in_err-later-clause-blame
returns-in_err-later-clause-blame g c clean is_open has desk =
    let s0 = g.S.Session.state c.args.conn.now in
    let s1 = g.S.Session.state c.next_matched.new.conn in
    let s2 = g.S.Session.state c.standing.new.conn in
    let s3 = g.S.Session.state c.instruction.new.conn in
    let e = c.in_err-later.field-0.0 in
    let number = c.in-Some.number in
    let clean2 : HasCleanDisk s2 = was_clean _ _ c.in_err-later.ensures.look.later clean in
    let clean1 : HasCleanDisk s1 = was_clean _ _ c.in_ok-standing.ensures.look.later clean2 in
    let both = look_then c.in_ok-found.found (Ok c.in_ok-standing.standing) s0 s1 s2 c.in_ok-found.ensures.look c.in_ok-standing.ensures.look in
    let next = subst (IsNextMatched s0.now c.args.after) c.in-Some.is (on_same {E = Error} (Ok c.in_ok-number.field-0) c.in_ok-found.found (IsNextMatched s0.now c.args.after) c.in_ok-number.ensures.same (c.in_ok-found.ensures.value clean1 is_open has desk.standings)) in
    on_error c.from_residual-in_err-later.result e (ForCause s0 s3) c.from_residual-in_err-later.ensures.1
    (matched_known s0.now desk number next.0.reason next.0.matched (λ i is.
    fails_then c.in_ok-standing.standing s0 s2 s3 both e (λ (d : Database). instruction_at (history_of (content_in d)) number ≡ Some i) c.in_err-later.ensures.look.later
    (λ clean3 open1 has1 desk1 at. c.in_err-later.ensures.blame clean3 open1 has1 desk1 i at) clean is_open has desk is))

pub returns-in_err-found-clause-value : goal.returns-in_err-found-clause-value
returns-in_err-found-clause-value g c clean is_open has desk = no_value c.from_residual.result c.in_err-found.field-0.0 c.from_residual.ensures.1 _

pub returns-in_err-found-clause-within : goal.returns-in_err-found-clause-within
returns-in_err-found-clause-within g c = no_value c.from_residual.result c.in_err-found.field-0.0 c.from_residual.ensures.1 _

pub returns-in_err-found-clause-look : goal.returns-in_err-found-clause-look
returns-in_err-found-clause-look g c = look_only c.from_residual.result c.in_err-found.field-0.0 c.from_residual.ensures.1 (Option ℕ) (g.S.Session.state c.args.conn.now) (g.S.Session.state c.next_matched.new.conn) c.in_err-found.ensures.look

pub returns-in_err-found-clause-blame : goal.returns-in_err-found-clause-blame
returns-in_err-found-clause-blame g c clean is_open has desk =
    on_error c.from_residual.result c.in_err-found.field-0.0 (ForCause (g.S.Session.state c.args.conn.now) (g.S.Session.state c.next_matched.new.conn)) c.from_residual.ensures.1 (c.in_err-found.ensures.blame clean is_open has desk.standings)

pub returns-in_err-number-clause-value : goal.returns-in_err-number-clause-value
returns-in_err-number-clause-value g c clean is_open has desk = no_value c.from_residual-in_err-number.result c.in_err-number.field-0.0 c.from_residual-in_err-number.ensures.1 _

pub returns-in_err-number-clause-within : goal.returns-in_err-number-clause-within
returns-in_err-number-clause-within g c = no_value c.from_residual-in_err-number.result c.in_err-number.field-0.0 c.from_residual-in_err-number.ensures.1 _

pub returns-in_err-number-clause-look : goal.returns-in_err-number-clause-look
returns-in_err-number-clause-look g c =
    let s0 = g.S.Session.state c.args.conn.now in
    let s1 = g.S.Session.state c.next_matched.new.conn in
    let e = c.in_err-number.field-0.0 in
    look_only c.from_residual-in_err-number.result e c.from_residual-in_err-number.ensures.1 (Option ℕ) s0 s1 (look_as c.in_ok-found.found e s0 s1 c.in_ok-found.ensures.look)

pub returns-in_err-number-clause-blame : goal.returns-in_err-number-clause-blame
returns-in_err-number-clause-blame g c clean is_open has desk =
    let s0 = g.S.Session.state c.args.conn.now in
    let s1 = g.S.Session.state c.next_matched.new.conn in
    let e = c.in_err-number.field-0.0 in
    on_error c.from_residual-in_err-number.result e (ForCause s0 s1) c.from_residual-in_err-number.ensures.1
    (no_error {X = Option ℕ} (Err e) (ForCause s0 s1) (c.in_err-number.ensures.all (matched_within s0.now desk c.args.after c.in_ok-found.found (c.in_ok-found.ensures.value clean is_open has desk.standings))))

pub returns-in_default-clause-within : goal.returns-in_default-clause-within
returns-in_default-clause-within g c = tt

pub returns-in_default-clause-look : goal.returns-in_default-clause-look
returns-in_default-clause-look g c = look_ok _ _ (g.S.Session.state c.args.conn.now) (g.S.Session.state c.next_matched.new.conn) c.in_ok-found.ensures.look

pub returns-in_default-clause-blame : goal.returns-in_default-clause-blame
returns-in_default-clause-blame g c clean is_open has desk = tt

pub returns-clause-within : goal.returns-clause-within
returns-clause-within g c = subst (λ o. IfSome o (λ n. (c.args.after < n) × (n < 1_000_000_000))) c.in-Some.is c.in_ok-number.ensures.within

pub returns-clause-look : goal.returns-clause-look
returns-clause-look g c =
    let s0 = g.S.Session.state c.args.conn.now in
    let s1 = g.S.Session.state c.next_matched.new.conn in
    let s2 = g.S.Session.state c.standing.new.conn in
    let s3 = g.S.Session.state c.instruction.new.conn in
    let both = look_then c.in_ok-found.found (Ok c.in_ok-standing.standing) s0 s1 s2 c.in_ok-found.ensures.look c.in_ok-standing.ensures.look in
    look_ok _ _ s0 s3 (look_then c.in_ok-standing.standing (Ok c.in_ok-later.later) s0 s2 s3 both c.in_ok-later.ensures.look)

pub returns-clause-blame : goal.returns-clause-blame
returns-clause-blame g c clean is_open has desk = tt
