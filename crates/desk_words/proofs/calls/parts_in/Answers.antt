use Rattle.std.proofs.Common.{◌≡◌, ◌∙◌, List, ℕ, ap, map, refl, subst, sym, true}
use Rattle.std.specs.Prelude.{All}
use Rattle.clap.specs.Words.{found_of, rows_of}
use Rattle.desk_words.proofs.ReportWords.{parts_over, parts_within, words_found}
use Rattle.desk_words.specs.Words.{is_part_word, part_words_in, parts_by}
use Rattle.desk_words.proofs.calls.parts_in.Goals as goal

pub returns-then-are_parts-clause-said : goal.returns-then-are_parts-clause-said
returns-then-are_parts-clause-said c =
    let P : List (List ℕ) → Type 0 = All (λ word. is_part_word word ≡ true) in
    let words : map (λ word. word.now) c.unwrap_or-named.result.now ≡ part_words_in (rows_of (found_of c.args.inner.now)) = rw c.unwrap_or-named.ensures (words_found (found_of c.args.inner.now) c.get_strs.result _ refl c.get_strs.ensures) in
    (subst P words (parts_over c.unwrap_or-named.result.now (c.are_parts.ensures.0 c.if-are_parts.true)), c.parts_of.ensures ∙ ap parts_by words)

pub returns-then-are_parts-clause-asked : goal.returns-then-are_parts-clause-asked
returns-then-are_parts-clause-asked c = λ parts are.
    let words : map (λ word. word.now) c.unwrap_or-named.result.now ≡ part_words_in (rows_of (found_of c.args.inner.now)) = rw c.unwrap_or-named.ensures (words_found (found_of c.args.inner.now) c.get_strs.result _ refl c.get_strs.ensures) in
    c.parts_of.ensures ∙ ap parts_by words ∙ sym are.1

pub returns-else-are_parts-clause-asked : goal.returns-else-are_parts-clause-asked
returns-else-are_parts-clause-asked c = λ parts are.
    let P : List (List ℕ) → Type 0 = All (λ word. is_part_word word ≡ true) in
    let words : map (λ word. word.now) c.unwrap_or-named.result.now ≡ part_words_in (rows_of (found_of c.args.inner.now)) = rw c.unwrap_or-named.ensures (words_found (found_of c.args.inner.now) c.get_strs.result _ refl c.get_strs.ensures) in
    let told : c.are_parts.result ≡ true = c.are_parts.ensures.1 (parts_within c.unwrap_or-named.result.now (subst P (sym words) are.0)) in
    cc
