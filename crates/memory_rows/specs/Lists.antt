-- The lists of the rows, and how a change of them is undone.
use Rattle.std.specs.Prelude.{◌≡◌, ℕ, zero, suc, ◌+◌, ◌-◌, List, [], ◌∷◌, length, take, map, slice_get, slice_set, Option, unwrap_or}
use Rattle.std.specs.BTreeMap.{get}
use Rattle.desk_codes.specs.declared.currency.Ccy.{Ccy}
use Rattle.desk_rules.specs.declared.answers.reply.Kept.{Kept}
use Rattle.desk_rules.specs.declared.answers.reply.Sent.{Sent}
use Rattle.desk_rules.specs.declared.history.standing.Standing.{Standing}
use Rattle.memory_rows.specs.declared.balance_key.BalanceKey.{BalanceKey}
use Rattle.memory_rows.specs.declared.balance_key.BalanceKey.TheVariants.{Cash, Outstanding, Paid, Position}
use Rattle.memory_rows.specs.declared.lists.Change.{Change}
use Rattle.memory_rows.specs.declared.lists.Change.TheVariants.{Appended, Moved, Sent as SentChange, Stood}
use Rattle.memory_rows.specs.declared.lists.Lists.{Lists}
use Rattle.desk_rules.specs.Balances.{issued, paid_in, paid_out, redeemed}
use Rattle.desk_rules.specs.Content.{Content}
use Rattle.desk_rules.specs.Standing.{no_standing}
use Rattle.memory_rows.specs.BalanceKeys.{balance_cmp, put_back}

-- The lists: the entries with their replies, where each stands, the balances that are recorded, and what was sent.
pub record Listed : Type 0 where
  pub kept : List Kept
  pub standings : List Standing
  pub balances : BalanceKey → Option ℕ
  pub sent : List Sent

abbrev pub listed : Lists → Listed
listed l = record {
  kept = l.kept.items;
  standings = l.standings.items;
  balances = get balance_cmp l.balances;
  sent = l.sent.items;
}

-- the balance of a key: 0 where none is recorded
abbrev pub balance_in : Listed → BalanceKey → ℕ
balance_in l key = unwrap_or (l.balances key) 0

-- where the entry of a number stands
abbrev pub standing_in : List Standing → ℕ → Standing
standing_in standings zero = no_standing
standing_in standings (suc n) = unwrap_or (slice_get standings n) no_standing

-- the content that the lists hold
abbrev pub content_in : Listed → Content
content_in l = record {
  register = l.kept;
  standing = standing_in l.standings;
  position = λ account isin. balance_in l (Position account isin);
  cash = λ bic ccy. balance_in l (Cash bic ccy);
  sent = l.sent;
}

abbrev pub without_last : {X : Type 0} → List X → List X
without_last xs = take (length xs - 1) xs

-- the lists before a change
abbrev pub undo : Change → Listed → Listed
undo Appended l = record l { kept = without_last l.kept; standings = without_last l.standings }
undo (Stood index was) l = record l { standings = slice_set l.standings index was }
undo SentChange l = record l { sent = without_last l.sent }
undo (Moved key was) l = record l { balances = put_back l.balances key was }

-- the lists before some changes, of which the last is undone first
abbrev pub undone : List Change → Listed → Listed
undone [] l = l
undone (change ∷ later) l = undo change (undone later l)

-- The totals are those of the entries: what is outstanding is issued less redeemed, and what is paid is paid in less paid
-- out.
pub record TotalsAreKept (l : Listed) : Type 0 where
  pub securities : (isin : List ℕ) → redeemed (map (λ k. k.entry) l.kept) isin + balance_in l (Outstanding isin) ≡ issued (map (λ k. k.entry) l.kept) isin
  pub currencies : (ccy : Ccy) → paid_out (map (λ k. k.entry) l.kept) ccy + balance_in l (Paid ccy) ≡ paid_in (map (λ k. k.entry) l.kept) ccy
