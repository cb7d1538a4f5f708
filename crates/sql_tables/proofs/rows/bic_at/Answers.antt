use Rattle.std.proofs.Common.{◌≡◌, true, false, not, List, ℕ, sym, ap, ◌∙◌}
use Rattle.std.specs.Prelude.{nat_eq}
use Rattle.std.specs.Cmp.Lexicographic.{pointwise}
use Rattle.std.proofs.lemmas.Cmp.{nat_list_eq_equiv}
use Rattle.desk_codes.specs.Bic.{party_of}
use Rattle.sql_tables.proofs.ColumnLemmas.{own_party, words}
use Rattle.sql_tables.proofs.rows.bic_at.Goals as goal

pub returns-then-ne-clause-all : goal.returns-then-ne-clause-all
returns-then-ne-clause-all c text at col bic =
    let same : c.in_ok-text.text.now ≡ text = words _ _ (sym c.in_ok-text.ensures.value ∙ col) in
    let whole : c.as_bytes.result.now ≡ c.in_ok-text.text.now = c.as_bytes.ensures.bytes ∙ c.in-Ok.ensures.0 ∙ ap party_of same ∙ own_party text bic ∙ sym same in
    let equal : true ≡ false = c.if-ne.ensures ∙ ap (λ (a : List ℕ). not (pointwise nat_eq a c.in_ok-text.text.now)) whole ∙ ap not (nat_list_eq_equiv.refl c.in_ok-text.text.now) in
    sym equal
