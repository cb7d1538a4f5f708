use Rattle.std.proofs.Common.{◌∙◌, sym, inl, inr}
use Rattle.memory_register.proofs.NumbersLemmas.{least_from, none_at_other, none_from}
use Rattle.memory_register.proofs.collections.numbers_by_key.next_number.Goals as goal

pub returns-in_err-next-clause-none : goal.returns-in_err-next-clause-none
returns-in_err-next-clause-none g c = rw c.from_residual.ensures (none_from g.met.K.Ord.total c.args.numbers.now c.args.key c.args.from c.in_err-next.ensures.none)

pub returns-in-Equal-clause-least : goal.returns-in-Equal-clause-least
returns-in-Equal-clause-least g c =
    least_from g.met.K.Ord.total c.args.numbers.now c.args.key c.in_ok-next.next c.args.from c.in_ok-next.number (sym c.cmp.ensures ∙ c.in-Equal.is) c.in_ok-next.ensures.least

pub returns-in-Less : goal.returns-in-Less
returns-in-Less g c = record {
  above = tt;
  there = tt;
  least = tt;
  none = none_at_other g.met.K.Ord.total c.args.numbers.now c.args.key c.in_ok-next.next c.args.from c.in_ok-next.number
      (λ same. elim c.in-Less.is [ inl less ↦ let bad = sym less ∙ c.cmp.ensures ∙ same in cc | inr greater ↦ let bad = sym greater ∙ c.cmp.ensures ∙ same in cc ])
      c.in_ok-next.ensures.from c.in_ok-next.ensures.least;
}
