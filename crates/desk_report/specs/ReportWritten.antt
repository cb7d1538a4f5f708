-- The pieces in which a report is written. Only private contracts and proofs speak of them.
use Rattle.std.specs.Prelude.{◌≡◌, ℕ, Bool, false, true, List, [], ◌∷◌, ◌++◌, filter, codes}
use Rattle.json.specs.Print.{quoted}
use Rattle.serde_json.specs.Data.{Data, array, Members, no_members, member}
use Rattle.serde_json.specs.View.{items_of}
use Rattle.serde_json.specs.Written.{comma_if, compact_text}
use Rattle.desk_rules.specs.Books.{Books}
use Rattle.desk_rules.specs.Content.{Content}
use Rattle.desk_book.specs.Sums.{rows_text}
use Rattle.desk_report.specs.Report.{AreMembers, IsPartOf, all_parts, is_asked}
use Rattle.desk_report.specs.declared.part.Part.{Part}
use Rattle.desk_report.specs.declared.part.Part.TheVariants.{Accounts, Cash, Pending, Sums, Unmatched}
use Rattle.desk_report.specs.declared.part.Parts.{Parts}

-- the name of a member, with what stands behind it
abbrev pub label_of : Part → List ℕ
label_of Accounts = codes "\"accounts\":"
label_of Cash = codes "\"cash\":"
label_of Pending = codes "\"pending\":"
label_of Sums = codes "\"sums\":"
label_of Unmatched = codes "\"unmatched\":"

-- what a part tells, as text
abbrev pub IsPartText : Books → Content → Part → List ℕ → Type 0
IsPartText books content part text = (value : Data) × IsPartOf books content part value × (text ≡ compact_text value)

-- the rows of a part, without the brackets of the array
abbrev pub AreRowsOf : Books → Content → Part → List ℕ → Type 0
AreRowsOf books content part text = (rows : List Data) × IsPartOf books content part (array (items_of rows)) × (text ≡ rows_text false rows)

-- a part as a member, behind a comma where members stand before it
abbrev pub IsMemberText : Books → Content → Part → Bool → List ℕ → Type 0
IsMemberText books content part is_later text = (value : Data) × IsPartOf books content part value × (text ≡ comma_if is_later ++ (label_of part ++ compact_text value))

-- members, one after another, with a comma between two, and before the first where members stand before it
abbrev pub front_of : Bool → Members → List ℕ
front_of is_later no_members = []
front_of is_later (member name value members) = comma_if is_later ++ (quoted name ++ 58 ∷ (compact_text value ++ front_of true members))

-- the members of the parts that are asked for, without the braces of the object
abbrev pub AreMembersText : Books → Content → Parts → List ℕ → Type 0
AreMembersText books content parts text = (members : Members) × AreMembers books content (filter (is_asked parts) all_parts) members × (text ≡ front_of false members)
