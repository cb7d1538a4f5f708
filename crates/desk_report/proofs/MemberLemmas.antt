-- The members of a report, one after another.
use Rattle.std.proofs.Common.{◌≡◌, ℕ, Bool, true, false, List, [], ◌∷◌, ◌++◌, refl, sym, ap, ◌∙◌, subst, append_assoc}
use Rattle.json.specs.Print.{quoted}
use Rattle.serde_json.specs.Data.{Data, Members, no_members, member}
use Rattle.serde_json.specs.Written.{comma_if, compact_text, members_text}
use Rattle.desk_rules.specs.Books.{Books}
use Rattle.desk_rules.specs.Content.{Content}
use Rattle.desk_report.specs.Report.{AreMembers, IsPartOf, name_of_part}
use Rattle.desk_report.specs.ReportWritten.{front_of, label_of}
use Rattle.desk_report.specs.declared.part.Part.{Part}
use Rattle.desk_report.specs.declared.part.Part.TheVariants.{Accounts, Cash, Pending, Sums, Unmatched}
use Rattle.serde_json.proofs.OnLiterals.{serde_json_on_literals}

-- a label is a member's name in quotes, and the colon behind it
pub label_is : (part : Part) → label_of part ≡ quoted (name_of_part part) ++ 58 ∷ []
unfolding serde_json_on_literals
label_is Accounts = refl
label_is Cash = refl
label_is Pending = refl
label_is Sums = refl
label_is Unmatched = refl

-- the brace that closes members
pub closed_members : (is_later : Bool) (members : Members) → front_of is_later members ++ 125 ∷ [] ≡ members_text is_later members
closed_members is_later no_members = refl
closed_members is_later (member name value members) =
    let comma = comma_if is_later in
    let text = compact_text value in
    let rest = front_of true members in
    append_assoc comma (quoted name ++ 58 ∷ (text ++ rest)) (125 ∷ [])
    ∙ ap (λ (l : List ℕ). comma ++ l)
    (append_assoc (quoted name) (58 ∷ (text ++ rest)) (125 ∷ []) ∙ ap (λ (l : List ℕ). quoted name ++ 58 ∷ l) (append_assoc text rest (125 ∷ []) ∙ ap (λ (l : List ℕ). text ++ l) (closed_members true members)))

module _ (books : Books) (content : Content) where
  -- What was written of members: however they go on, its text goes on by theirs.
  pub record Begun (done : List Part) (is_later : Bool) (text : List ℕ) : Type 0 where
    pub goes_on : (rest : List Part) (members : Members) → AreMembers books content rest members
        → (all : Members) × AreMembers books content (done ++ rest) all × (text ++ front_of is_later members ≡ front_of false all)

  pub begun_nothing : Begun [] false []
  begun_nothing = record { goes_on = λ rest members are. (members, are, refl) }

  module _ (done : List Part) (is_later : Bool) (text : List ℕ) (begun : Begun done is_later text) where
    -- one more member
    pub begun_more : (part : Part) (value : Data) → IsPartOf books content part value → Begun (done ++ part ∷ []) true (text ++ (comma_if is_later ++ (label_of part ++ compact_text value)))
    begun_more part value is = record {
      goes_on = λ rest members are.
          let on = begun.goes_on (part ∷ rest) (member (name_of_part part) value members) (value, is, members, are, refl) in
          let comma = comma_if is_later in
          let name = quoted (name_of_part part) in
          let one = compact_text value in
          let more = front_of true members in (
            on.0,
            subst (λ (parts : List Part). AreMembers books content parts on.0) (sym (append_assoc done (part ∷ []) rest)) on.1,
            append_assoc text (comma ++ (label_of part ++ one)) more
                ∙ (ap (λ (l : List ℕ). text ++ l) (append_assoc comma (label_of part ++ one) more
                ∙ ap (λ (l : List ℕ). comma ++ l) (append_assoc (label_of part) one more ∙ ap (λ (l : List ℕ). l ++ (one ++ more)) (label_is part) ∙ append_assoc name (58 ∷ []) (one ++ more)))
                ∙ on.2),
          );
    }
