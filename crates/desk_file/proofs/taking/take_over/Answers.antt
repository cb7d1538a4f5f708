use Rattle.std.proofs.Common.{inl, inr, subst, sym}
use Rattle.std.proofs.lemmas.Result.{IfErr-weaker}
use Rattle.std.proofs.lemmas.Bool.{both_ways}
use Rattle.desk_file.specs.Faults.{IsRefusal}
use Rattle.desk_file.proofs.taking.take_over.Goals as goal

pub returns-then-has_no_table-clause-refused : goal.returns-then-has_no_table-clause-refused
returns-then-has_no_table-clause-refused g c = IfErr-weaker c.make.result _ _ (λ e never clean is. absurd (never is)) c.make.ensures.refused

pub returns-else-has_no_table-clause-refused : goal.returns-else-has_no_table-clause-refused
returns-else-has_no_table-clause-refused g c =
    IfErr-weaker c.find.result _ _ (λ e refused clean is desks. elim desks [
      | inl none ↦ both_ways _ c.if-has_no_table.false (c.has_no_table.ensures.all none)
      | inr audited ↦ refused clean is audited.0 audited.1
    ]) c.find.ensures.refused

pub returns-then-has_no_table-clause-other : goal.returns-then-has_no_table-clause-other
returns-then-has_no_table-clause-other g c = IfErr-weaker c.make.result _ _ (λ e never clean is. absurd (never (subst IsRefusal (sym is) tt))) c.make.ensures.refused
