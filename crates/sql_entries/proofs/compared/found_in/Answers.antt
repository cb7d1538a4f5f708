use Rattle.std.proofs.Common.{◌≡◌, ◌∷◌, [], sym, ap, subst, ◌∙◌}
use Rattle.std.proofs.lemmas.Bool.{both_ways}
use Rattle.desk_rules.specs.declared.answers.reply.Kept.{Kept}
use Rattle.sql_entries.specs.declared.compared.Found.TheVariants.{Entry}
use Rattle.sql_entries.specs.Rows.{shown_kept}
use Rattle.sql_entries.specs.Told.{CanSay}
use Rattle.sql_entries.proofs.ExactLemmas.{first_row}
use Rattle.sql_entries.proofs.compared.found_in.Goals as goal

pub returns-in_default-2-clause-exact : goal.returns-in_default-2-clause-exact
returns-in_default-2-clause-exact c kept is short =
    let row = first_row c.args.rows.now c.in-Some.row.now (shown_kept c.args.version c.args.number kept) c.in-Some.ensures.value is.is in
    absurd (let e = c.in_ok-kept.ensures.exact c.args.number kept row is.formed short in let none = c.in_default-2.is in cc)

pub returns-then-not-is_row_of-clause-exact : goal.returns-then-not-is_row_of-clause-exact
returns-then-not-is_row_of-clause-exact c kept is short =
    let row = first_row c.args.rows.now c.in-Some.row.now (shown_kept c.args.version c.args.number kept) c.in-Some.ensures.value is.is in
    let same : c.in-Some-2.kept ≡ kept = (let e = c.in_ok-kept.ensures.exact c.args.number kept row is.formed short in let some = c.in-Some-2.is in cc) in
    absurd (both_ways c.is_row_of.result c.if-not-is_row_of.true (c.is_row_of.ensures.1 (is.is ∙ ap (λ (k : Kept). shown_kept c.args.version c.args.number k ∷ []) (sym same), subst (λ (k : Kept). CanSay c.args.version k.entry) (sym same) is.said)))

pub returns-clause-exact : goal.returns-clause-exact
returns-clause-exact c kept is short =
    let row = first_row c.args.rows.now c.in-Some.row.now (shown_kept c.args.version c.args.number kept) c.in-Some.ensures.value is.is in
    let same : c.in-Some-2.kept ≡ kept = (let e = c.in_ok-kept.ensures.exact c.args.number kept row is.formed short in let some = c.in-Some-2.is in cc) in
    ap Entry same
