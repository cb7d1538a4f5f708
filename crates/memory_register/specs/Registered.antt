-- What the entries register, kept beside them. Only private contracts and proofs speak of it.
use Rattle.std.specs.Prelude.{◌≡◌, ℕ, Bool, false, List, map, filter_map, bytes_eq}
use Rattle.std.specs.BTreeMap.{get}
use Rattle.std.specs.declared.cmp.Ordering.{Ordering}
use Rattle.desk_codes.specs.declared.currency.Ccy.{Ccy}
use Rattle.desk_codes.specs.contracts.currency.CcyOrd.TheImpl as ccy_ord
use Rattle.desk_codes.specs.Number.{number_of}
use Rattle.desk_rules.specs.declared.history.entry.Entry.{Entry}
use Rattle.desk_rules.specs.declared.history.entry.Entry.TheVariants.{Account, Security}
use Rattle.desk_rules.specs.Facts.{adds_participant}
use Rattle.desk_rules.specs.History.{run_day}
use Rattle.desk_register.specs.Looked.{pays_in}
use Rattle.memory_register.specs.FirstNumbers.{first_number}
use Rattle.memory_register.specs.Keys.{text_cmp}
use Rattle.memory_register.specs.declared.entries.registered.Registered.{Registered}

-- an entry registers this account, or this security
abbrev pub adds_account : List ℕ → Entry → Bool
adds_account account (Account reference bic a) = bytes_eq a account
adds_account account entry = false

abbrev pub adds_security : List ℕ → Entry → Bool
adds_security isin (Security reference i kind) = bytes_eq i isin
adds_security isin entry = false

-- the order of currencies
abbrev pub ccy_cmp : Ccy → Ccy → Ordering
ccy_cmp = (ccy_ord.ghosts).cmp

-- each is found by the number of the first entry that registers it, or pays it in, and the runs are those of the entries
pub record AreRegistered (r : Registered) (history : List Entry) : Type 0 where
  pub participants : (bic : List ℕ) → get text_cmp r.participants bic ≡ first_number (adds_participant bic) history
  pub accounts : (account : List ℕ) → get text_cmp r.accounts account ≡ first_number (adds_account account) history
  pub securities : (isin : List ℕ) → get text_cmp r.securities isin ≡ first_number (adds_security isin) history
  pub currencies : (ccy : Ccy) → get ccy_cmp r.currencies ccy ≡ first_number (pays_in ccy) history
  pub runs : map number_of r.runs.items ≡ filter_map run_day history
