-- The text of rows, one after another.
use Rattle.std.proofs.Common.{◌≡◌, ℕ, List, [], ◌∷◌, ◌++◌, map, Bool, true, false, codes, Option, Some, None, refl, sym, ap, ◌∙◌, append_assoc, append-nil}
use Rattle.std.specs.Io.KnownBytes.{Appends}
use Rattle.serde_json.proofs.OnLiterals.{serde_json_on_literals}
use Rattle.serde_json.specs.Data.{Data}
use Rattle.serde_json.specs.View.{items_of}
use Rattle.serde_json.specs.Written.{comma_if, compact_text, items_text}
use Rattle.desk_book.specs.declared.answers.total.CashTotal.{CashTotal}
use Rattle.desk_book.specs.declared.answers.total.SecurityTotal.{SecurityTotal}
use Rattle.desk_book.specs.Sums.{cash_data, rows_text, security_data, sums_text}

-- nothing is written behind what is there
pub appends_nothing : (a : Option (List ℕ)) → Appends a a []
appends_nothing None = tt
appends_nothing (Some x) = sym (append-nil x)

-- two writes, one after the other
pub appended : (a b c : Option (List ℕ)) (bs cs : List ℕ) → Appends a b bs → Appends b c cs → Appends a c (bs ++ cs)
appended None b c bs cs p q = tt
appended (Some x) None c bs cs p q = absurd p
appended (Some x) (Some y) None bs cs p q = absurd q
appended (Some x) (Some y) (Some z) bs cs p q = q ∙ (ap (λ l. l ++ cs) p ∙ append_assoc x bs cs)

-- What was written of rows: however they go on, its text goes on by theirs.
pub record Begun {Row : Type 0} (data_of : Row → Data) (rows : List Row) (is_later : Bool) (text : List ℕ) : Type 0 where
  pub goes_on : (more : List Row) → text ++ rows_text is_later (map data_of more) ≡ rows_text false (map data_of (rows ++ more))

module _ {Row : Type 0} (data_of : Row → Data) where
  pub begun_nothing : Begun data_of [] false []
  begun_nothing = record { goes_on = λ more. refl }

  module _ (rows : List Row) (is_later : Bool) (text : List ℕ) (begun : Begun data_of rows is_later text) where
    -- one more row
    pub begun_more : (row : Row) → Begun data_of (rows ++ row ∷ []) true (text ++ (comma_if is_later ++ compact_text (data_of row)))
    begun_more row = record {
      goes_on = λ more.
          let rest = rows_text true (map data_of more) in
          let comma = comma_if is_later in
          let one = compact_text (data_of row) in
          append_assoc text (comma ++ one) rest
          ∙ (ap (λ (l : List ℕ). text ++ l) (append_assoc comma one rest)
          ∙ (begun.goes_on (row ∷ more) ∙ ap (λ (l : List Row). rows_text false (map data_of l)) (sym (append_assoc rows (row ∷ []) more))));
    }

    -- no more of them
    pub begun_whole : text ≡ rows_text false (map data_of rows)
    begun_whole = sym (append-nil text) ∙ (begun.goes_on [] ∙ ap (λ (l : List Row). rows_text false (map data_of l)) (append-nil rows))

-- the bracket that closes rows
pub closed_by : (is_later : Bool) (rows : List Data) → rows_text is_later rows ++ 93 ∷ [] ≡ items_text is_later (items_of rows)
closed_by is_later [] = refl
closed_by is_later (row ∷ rows) =
    let comma = comma_if is_later in
    let one = compact_text row in
    let rest = rows_text true rows in
    append_assoc comma (one ++ rest) (93 ∷ [])
    ∙ ap (λ (l : List ℕ). comma ++ l) (append_assoc one rest (93 ∷ []) ∙ ap (λ (l : List ℕ). one ++ l) (closed_by true rows))

closed_before : (rows : List Data) (rest : List ℕ) → rows_text false rows ++ 93 ∷ rest ≡ items_text false (items_of rows) ++ rest
closed_before rows rest = sym (append_assoc (rows_text false rows) (93 ∷ []) rest) ∙ ap (λ (l : List ℕ). l ++ rest) (closed_by false rows)

-- the rows between the fixed parts, with their closing brackets
between : (cash : List CashTotal) (securities : List SecurityTotal)
    → codes "{\"cash\":[" ++ (items_text false (items_of (map cash_data cash)) ++ (codes ",\"securities\":[" ++ (items_text false (items_of (map security_data securities)) ++ codes "}")))
    ≡ sums_text cash securities
unfolding serde_json_on_literals
between cash securities = refl

-- the rows between the fixed parts
pub sums_written : (cash : List CashTotal) (securities : List SecurityTotal)
    → codes "{\"cash\":[" ++ (rows_text false (map cash_data cash) ++ (codes "],\"securities\":[" ++ (rows_text false (map security_data securities) ++ codes "]}")))
    ≡ sums_text cash securities
sums_written cash securities =
    let first = codes "{\"cash\":[" in
    let middle = codes ",\"securities\":[" in
    let last = codes "}" in
    let one = rows_text false (map cash_data cash) in
    let other = rows_text false (map security_data securities) in
    let rest = closed_before (map security_data securities) last in
    let all = closed_before (map cash_data cash) (middle ++ (other ++ 93 ∷ last)) in
    ap (λ (l : List ℕ). first ++ l) (all ∙ ap (λ (l : List ℕ). items_text false (items_of (map cash_data cash)) ++ (middle ++ l)) rest) ∙ between cash securities
