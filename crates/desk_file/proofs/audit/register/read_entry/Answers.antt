use Rattle.std.proofs.Common.{◌≡◌, ◌∷◌, ◌++◌, [], refl, subst, sym}
use Rattle.std.proofs.lemmas.Bool.{both_ways}
use Rattle.sql_tables.specs.Versions.{register_tree}
use Rattle.sql_entries.specs.Found.{IsFormed, IsFound}
use Rattle.sql_entries.specs.declared.compared.Found.{Found}
use Rattle.desk_rules.specs.declared.answers.reply.Kept.{Kept}
use Rattle.desk_engine.specs.KeptHistory.{CanBeKept, HoldsKept}
use Rattle.sql_tables.proofs.LookLemmas.{look_ok}
use Rattle.desk_file.proofs.HandedLemmas.{blame_none, blame_taken, blame_told, cause_told, done_none, later_none, look_before, look_told, no_answer, no_cause, not_done}
use Rattle.desk_file.proofs.FrontLemmas.{another_or_nothing, entry_or_another, entry_or_nothing, one_entry}
use Rattle.desk_file.proofs.ReadingLemmas.{more_formed}
use Rattle.desk_file.proofs.audit.register.read_entry.Goals as goal

pub returns-then-branch-clause-holds : goal.returns-then-branch-clause-holds
returns-then-branch-clause-holds g c = λ honest sure taken.
    let v0 = g.R.Register.view c.args.register.now in
    let v1 = g.R.Register.view c.take.new.register in
    let e = c.in_ok-take-in-Entry.ensures in
    let old = c.requires.holds (e.later.honest honest) sure in
    more_formed v0.room v0.content v1.content c.in-Entry.kept old ((e.next v0.content.register honest sure old.held).held c.if-branch.true) (subst IsFormed c.in-Entry.is c.in_ok-found_at.ensures.formed)

pub returns-in_err-found_at-clause-takes : goal.returns-in_err-found_at-clause-takes
returns-in_err-found_at-clause-takes g c clean is_open has honest sure formed held = no_answer c.from_residual.result _ _ c.from_residual.ensures.1

pub returns-in_err-found_at-clause-exact : goal.returns-in_err-found_at-clause-exact
returns-in_err-found_at-clause-exact g c clean is_open has honest sure kept is short can = no_answer c.from_residual.result _ _ c.from_residual.ensures.1

pub returns-in_err-found_at-clause-nothing : goal.returns-in_err-found_at-clause-nothing
returns-in_err-found_at-clause-nothing g c clean is_open has = no_answer c.from_residual.result _ _ c.from_residual.ensures.1

pub returns-in-Nothing-clause-exact : goal.returns-in-Nothing-clause-exact
returns-in-Nothing-clause-exact g c clean is_open has honest sure kept is short can = absurd (entry_or_nothing c.in_ok-found_at.field-0 kept (c.in_ok-found_at.ensures.exact clean is_open has kept is short) c.in-Nothing.is)

pub returns-in-Nothing-clause-nothing : goal.returns-in-Nothing-clause-nothing
returns-in-Nothing-clause-nothing g c clean is_open has = (λ same. (c.in_ok-found_at.ensures.nothing clean is_open has).0 c.in-Nothing.is, λ none. refl)

pub returns-in-Another-clause-exact : goal.returns-in-Another-clause-exact
returns-in-Another-clause-exact g c clean is_open has honest sure kept is short can = absurd (entry_or_another c.in_ok-found_at.field-0 kept (c.in_ok-found_at.ensures.exact clean is_open has kept is short) c.in-Another.is)

pub returns-in-Another-clause-nothing : goal.returns-in-Another-clause-nothing
returns-in-Another-clause-nothing g c clean is_open has = (λ same. absurd (cc), λ none. absurd (another_or_nothing c.in_ok-found_at.field-0 c.in-Another.is ((c.in_ok-found_at.ensures.nothing clean is_open has).1 none)))

pub returns-in_err-take-in-Entry-clause-exact : goal.returns-in_err-take-in-Entry-clause-exact
returns-in_err-take-in-Entry-clause-exact g c clean is_open has honest sure kept is short can = no_answer c.from_residual-in_err-take-in-Entry.result _ _ c.from_residual-in_err-take-in-Entry.ensures.1

pub returns-in_err-take-in-Entry-clause-nothing : goal.returns-in_err-take-in-Entry-clause-nothing
returns-in_err-take-in-Entry-clause-nothing g c clean is_open has = no_answer c.from_residual-in_err-take-in-Entry.result _ _ c.from_residual-in_err-take-in-Entry.ensures.1

pub returns-then-branch-clause-exact : goal.returns-then-branch-clause-exact
returns-then-branch-clause-exact g c = λ clean is_open has honest sure kept is short can.
    let v0 = g.R.Register.view c.args.register.now in
    let v1 = g.R.Register.view c.take.new.register in
    let e = c.in_ok-take-in-Entry.ensures in
    let held = (c.requires.holds (e.later.honest honest) sure).held in
    let same : c.in-Entry.kept ≡ kept = one_entry c.in_ok-found_at.field-0 c.in-Entry.kept kept c.in-Entry.is (c.in_ok-found_at.ensures.exact clean is_open has kept is short) in
    (refl, subst (λ (k : Kept). HoldsKept v0.room (v0.content.register ++ k ∷ []) v1.content) same ((e.next v0.content.register honest sure held).held c.if-branch.true))

pub returns-then-branch-clause-nothing : goal.returns-then-branch-clause-nothing
returns-then-branch-clause-nothing g c clean is_open has = (λ same. absurd (cc), λ none. absurd (entry_or_nothing c.in_ok-found_at.field-0 c.in-Entry.kept c.in-Entry.is ((c.in_ok-found_at.ensures.nothing clean is_open has).1 none)))

pub returns-clause-exact : goal.returns-clause-exact
returns-clause-exact g c = λ clean is_open has honest sure kept is short can.
    let v0 = g.R.Register.view c.args.register.now in
    let e = c.in_ok-take-in-Entry.ensures in
    let held = (c.requires.holds (e.later.honest honest) sure).held in
    let same : c.in-Entry.kept ≡ kept = one_entry c.in_ok-found_at.field-0 c.in-Entry.kept kept c.in-Entry.is (c.in_ok-found_at.ensures.exact clean is_open has kept is short) in
    let taken = (e.next v0.content.register honest sure held).exact.1 (subst (λ (k : Kept). CanBeKept v0.room (v0.content.register ++ k ∷ [])) (sym same) can) in
    absurd (both_ways _ c.if-branch.false taken)

pub returns-clause-nothing : goal.returns-clause-nothing
returns-clause-nothing g c clean is_open has = (λ same. absurd (cc), λ none. absurd (entry_or_nothing c.in_ok-found_at.field-0 c.in-Entry.kept c.in-Entry.is ((c.in_ok-found_at.ensures.nothing clean is_open has).1 none)))

pub returns-in_err-found_at-clause-holds : goal.returns-in_err-found_at-clause-holds
returns-in_err-found_at-clause-holds g c honest sure = no_answer c.from_residual.result _ _ c.from_residual.ensures.1

pub returns-in_err-found_at-clause-same : goal.returns-in_err-found_at-clause-same
returns-in_err-found_at-clause-same g c honest sure = no_answer c.from_residual.result _ _ c.from_residual.ensures.1

pub returns-in_err-found_at-clause-look : goal.returns-in_err-found_at-clause-look
returns-in_err-found_at-clause-look g c =
    let s0 = g.S.Session.state c.args.conn.now in
    let s1 = g.S.Session.state c.found_at.new.conn in
    look_told c.in_err-found_at.field-0.0 c.from_residual.result c.from_residual.ensures.1 Found s0 s1 c.in_err-found_at.ensures.look

pub returns-in_err-found_at-clause-cause : goal.returns-in_err-found_at-clause-cause
returns-in_err-found_at-clause-cause g c clean is_open has =
    let s0 = g.S.Session.state c.args.conn.now in
    let s1 = g.S.Session.state c.found_at.new.conn in
    cause_told c.in_err-found_at.field-0.0 c.from_residual.result c.from_residual.ensures.1 s0 s1 (c.in_err-found_at.ensures.blame clean is_open has)

pub returns-in_err-found_at-clause-done : goal.returns-in_err-found_at-clause-done
returns-in_err-found_at-clause-done g c = not_done c.from_residual.result _ _ c.from_residual.ensures.1

pub returns-in_err-found_at-clause-later : goal.returns-in_err-found_at-clause-later
returns-in_err-found_at-clause-later g c = later_none _

pub returns-in_err-found_at-clause-blame : goal.returns-in_err-found_at-clause-blame
returns-in_err-found_at-clause-blame g c kept = blame_told c.in_err-found_at.field-0.0 c.from_residual.result c.from_residual.ensures.1 _ _

pub returns-in-Nothing-clause-look : goal.returns-in-Nothing-clause-look
returns-in-Nothing-clause-look g c =
    let s0 = g.S.Session.state c.args.conn.now in
    let s1 = g.S.Session.state c.found_at.new.conn in
    look_ok c.in_ok-found_at.field-0 tt s0 s1 c.in_ok-found_at.ensures.look

pub returns-in-Nothing-clause-done : goal.returns-in-Nothing-clause-done
returns-in-Nothing-clause-done g c = done_none _ c.requires.stage

pub returns-in-Nothing-clause-later : goal.returns-in-Nothing-clause-later
returns-in-Nothing-clause-later g c = later_none _

pub returns-in-Nothing-clause-blame : goal.returns-in-Nothing-clause-blame
returns-in-Nothing-clause-blame g c kept = blame_none tt _ _

pub returns-in-Another-clause-look : goal.returns-in-Another-clause-look
returns-in-Another-clause-look g c =
    let s0 = g.S.Session.state c.args.conn.now in
    let s1 = g.S.Session.state c.found_at.new.conn in
    look_ok c.in_ok-found_at.field-0 tt s0 s1 c.in_ok-found_at.ensures.look

pub returns-in-Another-clause-done : goal.returns-in-Another-clause-done
returns-in-Another-clause-done g c = done_none _ c.requires.stage

pub returns-in-Another-clause-later : goal.returns-in-Another-clause-later
returns-in-Another-clause-later g c = later_none _

pub returns-in-Another-clause-blame : goal.returns-in-Another-clause-blame
returns-in-Another-clause-blame g c kept = blame_none tt _ _

pub returns-in_err-take-in-Entry-clause-takes : goal.returns-in_err-take-in-Entry-clause-takes
returns-in_err-take-in-Entry-clause-takes g c clean is_open has honest sure formed held = no_answer c.from_residual-in_err-take-in-Entry.result _ _ c.from_residual-in_err-take-in-Entry.ensures.1

pub returns-in_err-take-in-Entry-clause-holds : goal.returns-in_err-take-in-Entry-clause-holds
returns-in_err-take-in-Entry-clause-holds g c honest sure = no_answer c.from_residual-in_err-take-in-Entry.result _ _ c.from_residual-in_err-take-in-Entry.ensures.1

pub returns-in_err-take-in-Entry-clause-same : goal.returns-in_err-take-in-Entry-clause-same
returns-in_err-take-in-Entry-clause-same g c honest sure = no_answer c.from_residual-in_err-take-in-Entry.result _ _ c.from_residual-in_err-take-in-Entry.ensures.1

pub returns-in_err-take-in-Entry-clause-look : goal.returns-in_err-take-in-Entry-clause-look
returns-in_err-take-in-Entry-clause-look g c =
    let s0 = g.S.Session.state c.args.conn.now in
    let s1 = g.S.Session.state c.found_at.new.conn in
    look_before c.in_err-take-in-Entry.field-0.0 c.from_residual-in_err-take-in-Entry.result c.from_residual-in_err-take-in-Entry.ensures.1 s0 s1 (look_ok c.in_ok-found_at.field-0 tt s0 s1 c.in_ok-found_at.ensures.look)

pub returns-in_err-take-in-Entry-clause-cause : goal.returns-in_err-take-in-Entry-clause-cause
returns-in_err-take-in-Entry-clause-cause g c clean is_open has =
    let s0 = g.S.Session.state c.args.conn.now in
    let s1 = g.S.Session.state c.found_at.new.conn in
    no_cause c.in_err-take-in-Entry.field-0.0 c.from_residual-in_err-take-in-Entry.result c.from_residual-in_err-take-in-Entry.ensures.1 s0 s1

pub returns-in_err-take-in-Entry-clause-done : goal.returns-in_err-take-in-Entry-clause-done
returns-in_err-take-in-Entry-clause-done g c = not_done c.from_residual-in_err-take-in-Entry.result _ _ c.from_residual-in_err-take-in-Entry.ensures.1

pub returns-in_err-take-in-Entry-clause-blame : goal.returns-in_err-take-in-Entry-clause-blame
returns-in_err-take-in-Entry-clause-blame g c kept = blame_taken c.in_err-take-in-Entry.field-0.0 c.from_residual-in_err-take-in-Entry.result c.from_residual-in_err-take-in-Entry.ensures.1 _ _ (c.in_err-take-in-Entry.ensures.blame kept)

pub returns-then-branch-clause-takes : goal.returns-then-branch-clause-takes
returns-then-branch-clause-takes g c clean is_open has honest sure formed held taken =
    let s0 = g.S.Session.state c.args.conn.now in
    let v0 = g.R.Register.view c.args.register.now in
    let found = c.in_ok-found_at.ensures.found clean is_open has formed in
    record {
      kept = c.in-Entry.kept;
      is = subst (IsFound c.args.version (s0.now.trees (register_tree c.args.version)) c.args.number) c.in-Entry.is found;
      held = (c.in_ok-take-in-Entry.ensures.next v0.content.register honest sure held).held c.if-branch.true;
    }

pub returns-then-branch-clause-look : goal.returns-then-branch-clause-look
returns-then-branch-clause-look g c =
    let s0 = g.S.Session.state c.args.conn.now in
    let s1 = g.S.Session.state c.found_at.new.conn in
    look_ok c.in_ok-found_at.field-0 tt s0 s1 c.in_ok-found_at.ensures.look

pub returns-then-branch-clause-blame : goal.returns-then-branch-clause-blame
returns-then-branch-clause-blame g c kept = blame_none tt _ _
