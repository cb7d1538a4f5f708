use Rattle.std.proofs.Common.{refl, inl, inr, ◌≡◌, drop, codes, false, rules, sym, ap, ◌∙◌}
use Rattle.std.specs.Prelude.{nat_eq}
use Rattle.std.specs.Cmp.Lexicographic.{pointwise}
use Rattle.desk_codes.specs.Bic.{HasBicLength}
use Rattle.desk_codes.proofs.BicLemmas.{front_is_bic, whole_is_bic, same_bytes, head_office, own_branch}
use Rattle.desk_codes.proofs.bic.Bic.parse.Goals as goal
use Rattle.desk_codes.proofs.bic.Bic.parse.Goals.{else-text-ne8-via-then-text-ne8+else-text-ne11, else-text-ne8-via-else-text-ne8}

pub of-requires : goal.of-requires
of-requires c =
    let lengths : HasBicLength c.args.text.now = elim c.else-text-ne8.branch [
      | else-text-ne8-via-then-text-ne8+else-text-ne11 w ↦ inr (search rules)
      | else-text-ne8-via-else-text-ne8 w ↦ inl (search rules)
    ] in
    let branch : drop 8 c.args.text.now ≡ codes "XXX" = sym c.split_at.ensures.back ∙ same_bytes c.split_at.result.1.now (codes "XXX") (sym c.if-eq.ensures) in
    front_is_bic c.args.text.now c.split_at.result.0.now lengths (c.if-not-is_shaped.ensures.0 refl) c.split_at.ensures.front branch

pub of-requires-2 : goal.of-requires-2
of-requires-2 c =
    let lengths : HasBicLength c.args.text.now = elim c.else-text-ne8.branch [
      | else-text-ne8-via-then-text-ne8+else-text-ne11 w ↦ inr (search rules)
      | else-text-ne8-via-else-text-ne8 w ↦ inl (search rules)
    ] in
    let other : pointwise nat_eq (drop 8 c.args.text.now) (codes "XXX") ≡ false = sym (c.if-eq.ensures ∙ ap (λ z. pointwise nat_eq z (codes "XXX")) c.split_at.ensures.back) in
    whole_is_bic c.args.text.now lengths (c.if-not-is_shaped.ensures.0 refl) other

pub returns-then-eq : goal.returns-then-eq
returns-then-eq c =
    let lengths : HasBicLength c.args.text.now = elim c.else-text-ne8.branch [
      | else-text-ne8-via-then-text-ne8+else-text-ne11 w ↦ inr (search rules)
      | else-text-ne8-via-else-text-ne8 w ↦ inl (search rules)
    ] in
    (c.of.ensures ∙ c.split_at.ensures.front ∙ sym (head_office c.args.text.now c.split_at.result.1.now c.split_at.ensures.back c.if-eq.ensures), lengths, c.if-not-is_shaped.ensures.0 refl)

pub returns : goal.returns
returns c =
    let lengths : HasBicLength c.args.text.now = elim c.else-text-ne8.branch [
      | else-text-ne8-via-then-text-ne8+else-text-ne11 w ↦ inr (search rules)
      | else-text-ne8-via-else-text-ne8 w ↦ inl (search rules)
    ] in
    (c.of-2.ensures ∙ sym (own_branch c.args.text.now c.split_at.result.1.now c.split_at.ensures.back c.if-eq.ensures), lengths, c.if-not-is_shaped.ensures.0 refl)
