-- What a script asks.
use Rattle.std.specs.Prelude.{◌≡◌, ℕ, ◌+◌, true, false, List, [], ◌∷◌, ◌++◌, length, take, All, Option, Some, None}
use Rattle.std.specs.List.{concat}
use Rattle.desk_text.specs.declared.limits.TheConstants.{LONGEST_TEXT}
use Rattle.desk_book.specs.Asked.{Asked, asked_by}
use Rattle.desk_book.specs.Lines.{script_lines, said_by, is_skipped, has_body, is_stop}
use Rattle.desk_book.specs.Forms.{Asks}
use Rattle.desk_book.specs.declared.requests.script.Item.{Item as ScriptItem}
use Rattle.desk_book.specs.declared.requests.script.Item.TheVariants.{Ask, BadLine}

-- an item of a script: a request, or what is no request and gets 400 `refused 41`
pub data Item : Type 0 where
  ask : Asked → Item
  bad_line : Item

-- the item that a line asks, with this body behind it or none
abbrev pub Means : List ℕ → Option (List ℕ) → Item → Type 0
Means said body (ask a) = Asks said body a
Means said body bad_line = (a : Asked) → ¬ Asks said body a

-- what counts of a body's lines: one byte more than a text may have
abbrev pub posted_text : List (List ℕ) → List ℕ
posted_text body = take (LONGEST_TEXT + 1) (concat body)

-- none of the lines ends a body
abbrev pub HasNoStop : List (List ℕ) → Type 0
HasNoStop body = All (λ line. is_stop line ≡ false) body

-- These lines ask these items, in order: skipped lines ask nothing, a line without a body is an item, and a
-- line that a body follows is one with its body. The body is the lines up to one that ends it; where the
-- script ends before, line and body are one bad line.
pub data Asking : List (List ℕ) → List Item → Type 0 where
  ended : Asking [] []
  skipped : {line : List ℕ} {lines : List (List ℕ)} {items : List Item} → is_skipped (said_by line) ≡ true
      → Asking lines items → Asking (line ∷ lines) items
  bodiless : {line : List ℕ} {lines : List (List ℕ)} {item : Item} {items : List Item} → is_skipped (said_by line) ≡ false → has_body (said_by line) ≡ false
      → Means (said_by line) None item → Asking lines items → Asking (line ∷ lines) (item ∷ items)
  posted : {line : List ℕ} (body : List (List ℕ)) (stop : List ℕ) {lines : List (List ℕ)} {item : Item} {items : List Item} → has_body (said_by line) ≡ true
      → HasNoStop body → is_stop stop ≡ true → Means (said_by line) (Some (posted_text body)) item → Asking lines items → Asking (line ∷ (body ++ stop ∷ lines)) (item ∷ items)
  cut : {line : List ℕ} {body : List (List ℕ)} → has_body (said_by line) ≡ true
      → HasNoStop body → Asking (line ∷ body) (bad_line ∷ [])

-- the items that a script's bytes spell
abbrev pub Script : List ℕ → List Item → Type 0
Script bytes items = Asking (script_lines bytes) items

-- the item of the code
abbrev pub item_of : ScriptItem → Item
item_of (Ask request) = ask (asked_by request)
item_of BadLine = bad_line

-- these lines begin with an item, and the bytes behind it spell the items that follow
pub record BeginsWith (lines : List (List ℕ)) (item : Item) (rest : List ℕ) : Type 0 where
  pub then : (items : List Item) → Script rest items → Asking lines (item ∷ items)

-- the bytes spell so many items, and no other list of items
pub record SpellsOnly (bytes : List ℕ) (count : ℕ) : Type 0 where
  pub items : List Item
  pub spells : Script bytes items
  pub counted : length items ≡ count
  pub alone : (others : List Item) → Script bytes others → others ≡ items
