use Rattle.std.proofs.Common.{refl}
use Rattle.desk_codes.proofs.BicLemmas.{shape_from_parts, party_part, country_part, rest_part}
use Rattle.desk_codes.proofs.bic.is_shaped.Goals as goal

pub returns-then-not-are_code_chars : goal.returns-then-not-are_code_chars
returns-then-not-are_code_chars c = (
  λ no. let never = no in cc,
  λ s. let party = c.are_code_chars.ensures.1 (party_part c.args.text.now c.split_at.result.0.now c.split_at.ensures.front s) in cc,
)

pub returns-then-not-are_capitals : goal.returns-then-not-are_capitals
returns-then-not-are_capitals c = (
  λ no. let never = no in cc,
  λ s. let country = c.are_capitals.ensures.1 (country_part c.args.text.now c.split_at.result.1.now c.split_at-2.result.0.now c.split_at.ensures.back c.split_at-2.ensures.front s) in cc,
)

pub returns : goal.returns
returns c = (
  λ yes. shape_from_parts c.args.text.now c.split_at.result.0.now c.split_at.result.1.now c.split_at-2.result.0.now c.split_at-2.result.1.now c.split_at.ensures.front c.split_at.ensures.back c.split_at-2.ensures.front c.split_at-2.ensures.back (c.if-not-are_code_chars.ensures.0 refl) (c.if-not-are_capitals.ensures.0 refl) (c.are_code_chars-2.ensures.0 yes),
  λ s. c.are_code_chars-2.ensures.1 (rest_part c.args.text.now c.split_at.result.1.now c.split_at-2.result.1.now c.split_at.ensures.back c.split_at-2.ensures.back s),
)
