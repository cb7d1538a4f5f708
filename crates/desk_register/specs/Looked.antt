-- What the look-ups of a register find in its content.
use Rattle.std.specs.Prelude.{◌≡◌, ℕ, zero, suc, ◌+◌, ◌<◌, ◌≤◌, Bool, true, false, List, Option, Some, None, option_map, slice_get, sum_by, is_some, bytes_eq, filter}
use Rattle.std.specs.List.{find, list_any}
use Rattle.std.specs.Ordering.{nat_cmp}
use Rattle.std.specs.Cmp.Lexicographic.{slice_cmp}
use Rattle.std.specs.declared.cmp.Ordering.TheVariants.{Less}
use Rattle.desk_codes.specs.declared.currency.Ccy.{Ccy}
use Rattle.desk_codes.specs.Number.{number_of}
use Rattle.desk_rules.specs.declared.history.entry.Entry.{Entry}
use Rattle.desk_rules.specs.declared.history.entry.Entry.TheVariants.{PayIn}
use Rattle.desk_rules.specs.declared.answers.reply.Reply.{Reply}
use Rattle.desk_rules.specs.declared.answers.reply.Sent.{Sent}
use Rattle.desk_rules.specs.declared.history.pair.Place.{Place}
use Rattle.desk_rules.specs.declared.history.standing.State.TheVariants.{Unmatched, Matched}
use Rattle.desk_msg.specs.declared.writing.status.Reason.{Reason}
use Rattle.desk_rules.specs.declared.history.entry.Instructed.{Instructed}
use Rattle.desk_rules.specs.History.{instruction_at}
use Rattle.desk_rules.specs.Opposite.{AreOpposite}
use Rattle.desk_rules.specs.Questions.{confirms_it}
use Rattle.desk_rules.specs.Settlement.{is_before, is_past}
use Rattle.desk_rules.specs.Balances.{paid_in, paid_out, same_ccy}
use Rattle.desk_rules.specs.Facts.{accounts_of, kind_of, participants_of}
use Rattle.desk_rules.specs.declared.answers.reply.Kept.{Kept}
use Rattle.desk_rules.specs.Content.{Content, history_of}
use Rattle.desk_register.specs.declared.holding.Holding.{Holding}

-- the entry of a number, with its reply
abbrev pub kept_at : List Kept → ℕ → Option Kept
kept_at register zero = None
kept_at register (suc n) = slice_get register n

-- the reply that is kept with the entry of a number
abbrev pub reply_at : Content → ℕ → Option Reply
reply_at content n = option_map (λ kept. kept.reply) (kept_at content.register n)

-- an unmatched instruction of this number is opposite to this one
pub record IsOppositeAt (content : Content) (i : Instructed) (n : ℕ) : Type 0 where
  pub other : Instructed
  pub is_other : instruction_at (history_of content) n ≡ Some other
  pub opposite : AreOpposite other i
  pub unmatched : (content.standing n).state ≡ Unmatched

-- the least such number, or there is none
abbrev pub IsFirstOpposite : Content → Instructed → Option ℕ → Type 0
IsFirstOpposite content i None = (n : ℕ) → IsOppositeAt content i n → ⊥
IsFirstOpposite content i (Some n) = IsOppositeAt content i n × ((k : ℕ) → k < n → IsOppositeAt content i k → ⊥)

-- a matched pair of this place: its later instruction has the number, and the day
pub record IsMatchedPair (content : Content) (p : Place) : Type 0 where
  pub later : Instructed
  pub mate : ℕ
  pub reason : Reason
  pub is_later : instruction_at (history_of content) p.number ≡ Some later
  pub has_mate : (content.standing p.number).mate ≡ Some mate
  pub is_earlier : mate < p.number
  pub matched : (content.standing p.number).state ≡ Matched reason
  pub day : number_of later.instruction.day ≡ p.day

-- a matched pair that is due by a day, above a place
pub record IsDue (content : Content) (day : ℕ) (place : Option Place) (p : Place) : Type 0 where
  pub pair : IsMatchedPair content p
  pub by : p.day ≤ day
  pub above : is_past place p ≡ true

-- the first such pair, or there is none
abbrev pub IsDuePairAfter : Content → ℕ → Option Place → Option Place → Type 0
IsDuePairAfter content day place None = (p : Place) → IsDue content day place p → ⊥
IsDuePairAfter content day place (Some p) = IsDue content day place p × ((q : Place) → IsDue content day place q → is_before q p ≡ false)

-- one text is before another in the order of bytes
abbrev pub IsLess : List ℕ → List ℕ → Type 0
IsLess a b = slice_cmp nat_cmp a b ≡ Less

abbrev pub IsAboveText : Option (List ℕ) → List ℕ → Type 0
IsAboveText None b = Unit {0}
IsAboveText (Some a) b = IsLess a b

-- a registered security above one, or above none
abbrev pub IsRegisteredAbove : List Entry → Option (List ℕ) → List ℕ → Type 0
IsRegisteredAbove history above isin = (is_some (kind_of history isin) ≡ true) × IsAboveText above isin

-- the first such security, or there is none
abbrev pub IsSecurityAfter : List Entry → Option (List ℕ) → Option (List ℕ) → Type 0
IsSecurityAfter history above None = (isin : List ℕ) → IsRegisteredAbove history above isin → ⊥
IsSecurityAfter history above (Some isin) = IsRegisteredAbove history above isin × ((other : List ℕ) → IsRegisteredAbove history above other → IsLess other isin → ⊥)

-- an account holds some of a security above one, or above none
abbrev pub HoldsAbove : Content → List ℕ → Option (List ℕ) → List ℕ → Type 0
HoldsAbove content account above isin = (0 < content.position account isin) × IsAboveText above isin

-- the first such security, with how much of it the account holds, or there is none
abbrev pub IsHoldingAfter : Content → List ℕ → Option (List ℕ) → Option Holding → Type 0
IsHoldingAfter content account above None = (isin : List ℕ) → HoldsAbove content account above isin → ⊥
IsHoldingAfter content account above (Some holding) =
    HoldsAbove content account above holding.isin
    × (holding.quantity ≡ content.position account holding.isin)
    × ((other : List ℕ) → HoldsAbove content account above other → IsLess other holding.isin → ⊥)

-- what all registered accounts hold of a security
abbrev pub held_of : Content → List ℕ → ℕ
held_of content isin = sum_by (λ account. content.position account isin) (accounts_of (history_of content))

-- an entry pays in cash of this currency
abbrev pub pays_in : Ccy → Entry → Bool
pays_in ccy (PayIn payment) = same_ccy payment.ccy ccy
pays_in ccy entry = false

-- what was paid in of a currency less what was paid out; none before any pay in of it
abbrev pub IsPaid : List Entry → Ccy → Option ℕ → Type 0
IsPaid history ccy None = list_any (pays_in ccy) history ≡ false
IsPaid history ccy (Some paid) = (list_any (pays_in ccy) history ≡ true) × (paid_out history ccy + paid ≡ paid_in history ccy)

-- what all registered participants have of a currency
abbrev pub held_cash_of : Content → Ccy → ℕ
held_cash_of content ccy = sum_by (λ bic. content.cash bic ccy) (participants_of (history_of content))

-- what was sent to a participant, in order
abbrev pub sent_to : Content → List ℕ → List Sent
sent_to content bic = filter (λ message. bytes_eq message.bic bic) content.sent

-- the sent message that confirms an instruction
abbrev pub confirmation_in : Content → ℕ → Option Sent
confirmation_in content n = find (confirms_it n) content.sent
