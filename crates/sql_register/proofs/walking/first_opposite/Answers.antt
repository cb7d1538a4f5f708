use Rattle.std.proofs.Common.{◌<◌, ◌∙◌, arith, subst, sym, IfSome, None, Some}
use Rattle.sqlite.specs.Effect.{Database}
use Rattle.sqlite.specs.State.{HasCleanDisk}
use Rattle.desk_rules.specs.declared.history.entry.Instructed.{Instructed}
use Rattle.sql_tables.specs.Ends.{ForCause}
use Rattle.sql_tables.proofs.LookLemmas.{look_more, look_none, look_ok}
use Rattle.sql_tables.proofs.ResultLemmas.{on_error}
use Rattle.sql_register.specs.Content.{content_in}
use Rattle.sql_register.specs.Walking.{IsCandidateAbove}
use Rattle.sql_register.proofs.WalkLemmas.{fails_then, first_found, look_handed, none_found, none_passed, passed_more, shown_then, unmatched_is, unmatched_not}
use Rattle.sql_register.proofs.ReadLemmas.{was_clean}
use Rattle.sql_register.proofs.walking.first_opposite.Goals as goal

pub loop-number-init : goal.loop-number-init
loop-number-init g c =
    let s0 = g.S.Session.state c.args.conn.now in
    let i : Instructed = record { sender = c.args.sender; instruction = c.args.instruction.now } in
    record { look = look_none tt s0; small = omega arith; passed = λ clean is_open has desk. none_passed s0.now desk i }

pub candidate_above-requires : goal.candidate_above-requires
candidate_above-requires g c = let small = c.loop-number.invariant.small in omega (arith, small)

pub returns-in_err-number-clause-look : goal.returns-in_err-number-clause-look
returns-in_err-number-clause-look g c =
    look_handed tt (g.S.Session.state c.args.conn.now) (g.S.Session.state c.loop-number.conn) (g.S.Session.state c.candidate_above.new.conn) c.loop-number.invariant.look c.from_residual.result c.in_err-number.field-0.0
    c.from_residual.ensures.1 c.in_err-number.ensures.look

pub returns-in_err-number-clause-blame : goal.returns-in_err-number-clause-blame
returns-in_err-number-clause-blame g c clean is_open has desk =
    let s0 = g.S.Session.state c.args.conn.now in
    let s1 = g.S.Session.state c.loop-number.conn in
    let s2 = g.S.Session.state c.candidate_above.new.conn in
    let e = c.in_err-number.field-0.0 in
    on_error c.from_residual.result e (ForCause s0 s2) c.from_residual.ensures.1
    (fails_then tt s0 s1 s2 c.loop-number.invariant.look e (λ d. Unit {0}) c.in_err-number.ensures.look.later (λ clean2 open1 has1 desk1 u. c.in_err-number.ensures.blame clean2 open1 has1 desk1) clean is_open has desk tt)

pub returns-then-unmatched-clause-value : goal.returns-then-unmatched-clause-value
returns-then-unmatched-clause-value g c clean is_open has desk =
    let s0 = g.S.Session.state c.args.conn.now in
    let s1 = g.S.Session.state c.loop-number.conn in
    let s2 = g.S.Session.state c.candidate_above.new.conn in
    let i : Instructed = record { sender = c.args.sender; instruction = c.args.instruction.now } in
    let looked = c.in_ok-number.ensures.look in
    let clean1 : HasCleanDisk s1 = was_clean _ _ looked.later clean in
    let next = shown_then tt s0 s1 s2 c.loop-number.invariant.look (λ (d : Database). IsCandidateAbove (content_in d) i c.loop-number.after c.in_ok-number.field-0) looked.later c.in_ok-number.ensures.value clean is_open has desk in
    let found = subst (IsCandidateAbove (content_in s0.now) i c.loop-number.after) c.in-Some.is next in
    first_found (content_in s0.now) i c.loop-number.after c.in-Some.number (c.loop-number.invariant.passed clean1 is_open has desk) found.0 (unmatched_is _ (sym found.1 ∙ c.if-unmatched.true))

pub returns-then-unmatched-clause-look : goal.returns-then-unmatched-clause-look
returns-then-unmatched-clause-look g c =
    let s0 = g.S.Session.state c.args.conn.now in
    let s1 = g.S.Session.state c.loop-number.conn in
    let s2 = g.S.Session.state c.candidate_above.new.conn in
    look_ok tt (Some c.in-Some.number) s0 s2 (look_more _ s0 s1 s2 c.loop-number.invariant.look c.in_ok-number.ensures.look)

pub loop-number-smaller : goal.loop-number-smaller
loop-number-smaller g c =
    let within = subst (λ o. IfSome o (λ found. (c.loop-number.after < found.0) × (found.0 < 1_000_000_000))) c.in-Some.is c.in_ok-number.ensures.within in
    let rising = within.0 in
    let small = within.1 in
    omega (arith, small, rising)

pub loop-number-preserved : goal.loop-number-preserved
loop-number-preserved g c =
    let s0 = g.S.Session.state c.args.conn.now in
    let s1 = g.S.Session.state c.loop-number.conn in
    let s2 = g.S.Session.state c.candidate_above.new.conn in
    let i : Instructed = record { sender = c.args.sender; instruction = c.args.instruction.now } in
    let looked = c.in_ok-number.ensures.look in
    record {
      look = look_more _ s0 s1 s2 c.loop-number.invariant.look looked;
      small = (subst (λ o. IfSome o (λ found. (c.loop-number.after < found.0) × (found.0 < 1_000_000_000))) c.in-Some.is c.in_ok-number.ensures.within).1;
      passed = λ clean is_open has desk.
          let clean1 : HasCleanDisk s1 = was_clean _ _ looked.later clean in
          let next = shown_then tt s0 s1 s2 c.loop-number.invariant.look (λ (d : Database). IsCandidateAbove (content_in d) i c.loop-number.after c.in_ok-number.field-0) looked.later c.in_ok-number.ensures.value clean is_open has desk in
          let found = subst (IsCandidateAbove (content_in s0.now) i c.loop-number.after) c.in-Some.is next in
          passed_more (content_in s0.now) i c.loop-number.after c.in-Some.number (c.loop-number.invariant.passed clean1 is_open has desk) found.0 (unmatched_not _ (sym found.1 ∙ c.if-unmatched.false));
    }

pub returns-clause-value : goal.returns-clause-value
returns-clause-value g c clean is_open has desk =
    let s0 = g.S.Session.state c.args.conn.now in
    let s1 = g.S.Session.state c.loop-number.conn in
    let s2 = g.S.Session.state c.candidate_above.new.conn in
    let i : Instructed = record { sender = c.args.sender; instruction = c.args.instruction.now } in
    let looked = c.in_ok-number.ensures.look in
    let clean1 : HasCleanDisk s1 = was_clean _ _ looked.later clean in
    let next = shown_then tt s0 s1 s2 c.loop-number.invariant.look (λ (d : Database). IsCandidateAbove (content_in d) i c.loop-number.after c.in_ok-number.field-0) looked.later c.in_ok-number.ensures.value clean is_open has desk in
    none_found (content_in s0.now) i c.loop-number.after (c.loop-number.invariant.passed clean1 is_open has desk) (subst (IsCandidateAbove (content_in s0.now) i c.loop-number.after) c.in_default.is next)

pub returns-clause-look : goal.returns-clause-look
returns-clause-look g c =
    let s0 = g.S.Session.state c.args.conn.now in
    let s1 = g.S.Session.state c.loop-number.conn in
    let s2 = g.S.Session.state c.candidate_above.new.conn in
    look_ok tt None s0 s2 (look_more _ s0 s1 s2 c.loop-number.invariant.look c.in_ok-number.ensures.look)
