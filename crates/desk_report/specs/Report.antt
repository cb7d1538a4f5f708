-- A report as a JSON object: a member for each part that is asked for, in the order of their names.
use Rattle.std.specs.Prelude.{◌≡◌, ℕ, Bool, List, [], ◌∷◌, map, filter, codes}
use Rattle.serde_json.specs.Data.{Data, array, object, Members, no_members, member}
use Rattle.serde_json.specs.View.{items_of}
use Rattle.serde_json.specs.Written.{compact_text}
use Rattle.desk_rules.specs.Books.{Books}
use Rattle.desk_rules.specs.Content.{Content}
use Rattle.desk_book.specs.declared.answers.total.CashTotal.{CashTotal}
use Rattle.desk_book.specs.declared.answers.total.SecurityTotal.{SecurityTotal}
use Rattle.desk_book.specs.Sums.{sums_data}
use Rattle.desk_book.specs.Totals.{AreCashSums, AreSums}
use Rattle.desk_report.specs.RowData.{account_data, cash_data, pending_data, unmatched_data}
use Rattle.desk_report.specs.declared.rows.balances.AccountRow.{AccountRow}
use Rattle.desk_report.specs.declared.rows.pending.PendingPair.{PendingPair}
use Rattle.desk_report.specs.Pending.{ArePending}
use Rattle.desk_report.specs.Unmatched.{unmatched_of}
use Rattle.desk_report.specs.Accounts.{AreAccounts}
use Rattle.desk_report.specs.Cash.{cash_of}
use Rattle.desk_report.specs.declared.part.Part.{Part}
use Rattle.desk_report.specs.declared.part.Part.TheVariants.{Accounts, Cash, Pending, Sums, Unmatched}
use Rattle.desk_report.specs.declared.part.Parts.{Parts}

abbrev pub name_of_part : Part → List ℕ
name_of_part Accounts = codes "accounts"
name_of_part Cash = codes "cash"
name_of_part Pending = codes "pending"
name_of_part Sums = codes "sums"
name_of_part Unmatched = codes "unmatched"

-- all parts, in the order of their names
abbrev pub all_parts : List Part
all_parts = Accounts ∷ Cash ∷ Pending ∷ Sums ∷ Unmatched ∷ []

-- a part is asked for
abbrev pub is_asked : Parts → Part → Bool
is_asked parts Accounts = parts.accounts
is_asked parts Cash = parts.cash
is_asked parts Pending = parts.pending
is_asked parts Sums = parts.sums
is_asked parts Unmatched = parts.unmatched

-- What a part tells: an array of its rows; of the sums their object. The tables are those of these books.
abbrev pub IsPartOf : Books → Content → Part → Data → Type 0
IsPartOf books content Accounts value = (rows : List AccountRow) × AreAccounts content rows × (value ≡ array (items_of (map account_data rows)))
IsPartOf books content Cash value = value ≡ array (items_of (map cash_data (cash_of content)))
IsPartOf books content Pending value = (rows : List PendingPair) × ArePending content rows × (value ≡ array (items_of (map pending_data rows)))
IsPartOf books content Sums value = (cash : List CashTotal) × (securities : List SecurityTotal) × AreCashSums books cash × AreSums books securities × (value ≡ sums_data cash securities)
IsPartOf books content Unmatched value = value ≡ array (items_of (map unmatched_data (unmatched_of content)))

-- these parts are members of an object, one after another, each named
abbrev pub AreMembers : Books → Content → List Part → Members → Type 0
AreMembers books content [] members = members ≡ no_members
AreMembers books content (part ∷ parts) members =
    (value : Data) × IsPartOf books content part value × (rest : Members) × AreMembers books content parts rest × (members ≡ member (name_of_part part) value rest)

-- the text of the report of these parts, without white space
pub record IsReportText (books : Books) (content : Content) (parts : Parts) (text : List ℕ) : Type 0 where
  pub members : Members
  pub are : AreMembers books content (filter (is_asked parts) all_parts) members
  pub is : text ≡ compact_text (object members)
