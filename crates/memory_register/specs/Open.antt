-- Where unmatched instructions are found: by what two opposite instructions have in common. Only private contracts and proofs
-- speak of it.
use Rattle.std.specs.Prelude.{◌≡◌, ℕ, true, not, Option, Some, None}
use Rattle.std.specs.BTreeSet.{BTreeSet, contains}
use Rattle.std.specs.declared.cmp.Ordering.{Ordering}
use Rattle.desk_codes.specs.declared.currency.Ccy.{Ccy}
use Rattle.desk_codes.specs.declared.currency.Ccy.TheVariants.{Chf}
use Rattle.desk_msg.specs.declared.instruction.Cash.{Cash}
use Rattle.desk_msg.specs.MessageType.{is_delivery, is_against_payment}
use Rattle.desk_rules.specs.declared.history.entry.Instructed.{Instructed}
use Rattle.desk_rules.specs.declared.history.standing.State.TheVariants.{Unmatched}
use Rattle.desk_rules.specs.History.{instruction_at}
use Rattle.desk_rules.specs.Content.{Content, history_of}
use Rattle.memory_register.specs.NumbersByKey.{numbered_cmp}
use Rattle.memory_register.specs.declared.pairs.match_key.MatchKey.{MatchKey}
use Rattle.memory_register.specs.contracts.pairs.match_key.MatchKeyOrd.TheImpl as match_ord

-- the order of the keys
abbrev pub match_cmp : MatchKey → MatchKey → Ordering
match_cmp = (match_ord.ghosts).cmp

abbrev pub amount_of : Option Cash → ℕ
amount_of None = 0
amount_of (Some cash) = cash.amount

abbrev pub ccy_of : Option Cash → Ccy
ccy_of None = Chf
ccy_of (Some cash) = cash.ccy

-- an instruction's key
abbrev pub key_of : Instructed → MatchKey
key_of i = record {
  quantity = i.instruction.quantity;
  amount = amount_of i.instruction.cash;
  isin = i.instruction.isin;
  day = i.instruction.day;
  sender = i.sender;
  counterparty = i.instruction.counterparty;
  delivers = is_delivery i.instruction.mt;
  is_paid = is_against_payment i.instruction.mt;
  kind = i.instruction.kind;
  ccy = ccy_of i.instruction.cash;
}

-- the key of the instructions that are opposite to one
abbrev pub wanted_key : Instructed → MatchKey
wanted_key i = record (key_of i) {
  sender = i.instruction.counterparty;
  counterparty = i.sender;
  delivers = not (is_delivery i.instruction.mt);
}

-- each unmatched instruction is found by its key (what is found otherwise is no harm)
pub record HasOpen (numbers : BTreeSet (MatchKey × ℕ)) (content : Content) : Type 0 where
  pub each : (n : ℕ) (i : Instructed) → instruction_at (history_of content) n ≡ Some i → (content.standing n).state ≡ Unmatched
      → contains (numbered_cmp match_cmp) numbers (key_of i, n) ≡ true

-- an instruction's number is found by its key
abbrev pub OpensAt : BTreeSet (MatchKey × ℕ) → Option Instructed → ℕ → Type 0
OpensAt numbers None n = Unit {0}
OpensAt numbers (Some i) n = contains (numbered_cmp match_cmp) numbers (key_of i, n) ≡ true

-- what was found is found
abbrev pub HoldsOpen : BTreeSet (MatchKey × ℕ) → BTreeSet (MatchKey × ℕ) → Type 0
HoldsOpen old new = (q : MatchKey × ℕ) → contains (numbered_cmp match_cmp) old q ≡ true → contains (numbered_cmp match_cmp) new q ≡ true
