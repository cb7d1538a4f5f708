-- The block grammar of ISO 15022: a block as a tree, and the lines that it is written in.
use Rattle.std.specs.Prelude.{◌≡◌, ℕ, ◌<◌, suc, nat_lt, nat_le, Bool, true, false, not, ◌&&◌, ◌||◌, ◌==◌, List, [], ◌∷◌, ◌++◌, length, replicate, codes, IsTrue}
use Rattle.std.specs.List.{list_all}
use Rattle.std.specs.Str.{byte, bytes_eq}
use Rattle.desk_text.specs.declared.limits.TheConstants.{DEEPEST, LONGEST_NAME}

-- the characters of a block's lines
abbrev pub is_printable : ℕ → Bool
is_printable c = nat_le (byte " ") c && nat_le c (byte "~")

abbrev pub is_digit : ℕ → Bool
is_digit c = nat_le (byte "0") c && nat_le c (byte "9")

abbrev pub is_capital : ℕ → Bool
is_capital c = nat_le (byte "A") c && nat_le c (byte "Z")

-- a sequence's name: 1 to so many characters A to Z or 0 to 9
abbrev pub is_name : List ℕ → Bool
is_name name = nat_lt 0 (length name) && nat_le (length name) LONGEST_NAME && list_all (λ c. is_capital c || is_digit c) name

-- two digits, and at most one letter A to Z
abbrev pub is_any_tag : List ℕ → Bool
is_any_tag (a ∷ b ∷ []) = is_digit a && is_digit b
is_any_tag (a ∷ b ∷ c ∷ []) = is_digit a && is_digit b && is_capital c
is_any_tag tag = false

-- a field's tag: 16R opens a sequence and 16S closes one, so they are no fields'
abbrev pub is_tag : List ℕ → Bool
is_tag tag = is_any_tag tag && not (bytes_eq tag (codes "16R")) && not (bytes_eq tag (codes "16S"))

-- the first line of a value, which may be empty
abbrev pub is_first : List ℕ → Bool
is_first line = list_all is_printable line

-- a further line of a value: it may be empty, and begins with neither `:` nor `-`
abbrev pub is_further : List ℕ → Bool
is_further [] = true
is_further (c ∷ line) = not (c == byte ":") && not (c == byte "-") && list_all is_printable (c ∷ line)

abbrev pub opening : List ℕ → List ℕ
opening name = codes ":16R:" ++ name

abbrev pub closing : List ℕ → List ℕ
closing name = codes ":16S:" ++ name

-- a field's line, `:tag:value`
abbrev pub field_line : List ℕ → List ℕ → List ℕ
field_line tag first = codes ":" ++ (tag ++ byte ":" ∷ first)

-- Items, one after another: none; or a field, the lines of its value, and what comes after it; or a sequence, the items in it, and what comes after it.
pub data Items : Type 0 where
  none : Items
  field : (tag first : List ℕ) (further : List (List ℕ)) (rest : Items) → Items
  sequence : (name : List ℕ) (inner rest : Items) → Items

-- the lines that items are written in
abbrev pub lines_of_items : Items → List (List ℕ)
lines_of_items none = []
lines_of_items (field tag first further rest) = field_line tag first ∷ (further ++ lines_of_items rest)
lines_of_items (sequence name inner rest) = opening name ∷ (lines_of_items inner ++ closing name ∷ lines_of_items rest)

-- Within so many open sequences tags, values and names are right, and never are more open than may be.
abbrev pub AreItems : ℕ → Items → Type 0
AreItems depth none = Unit {0}
AreItems depth (field tag first further rest) = IsTrue (is_tag tag) × IsTrue (is_first first) × IsTrue (list_all is_further further) × AreItems depth rest
AreItems depth (sequence name inner rest) = (depth < DEEPEST) × IsTrue (is_name name) × AreItems (suc depth) inner × AreItems depth rest

-- The lines are a block of these items: `{4:`, the items, `-}`, and then only line ends.
pub record IsTree (lines : List (List ℕ)) (items : Items) : Type 0 where
  pub blanks : ℕ
  pub are : lines ≡ codes "{4:" ∷ (lines_of_items items ++ codes "-}" ∷ replicate blanks [])
  pub right : AreItems 0 items
