-- How an item is split off a script, and played. Only proofs and private contracts speak of it.
use Rattle.std.specs.Prelude.{◌≡◌, ◌==◌, ℕ, true, Bool, fold, List, [], ◌∷◌, ◌++◌, Option, Result}
use Rattle.std.specs.List.{concat}
use Rattle.std.specs.Str.{byte}
use Rattle.std.specs.Io.KnownBytes.{Appends}
use Rattle.desk_rules.specs.declared.answers.reply.Reply.{Reply}
use Rattle.desk_rules.specs.Books.{Books}
use Rattle.desk_register.specs.View.{View}
use Rattle.desk_book.specs.declared.fault.Fault.{Fault}
use Rattle.desk_book.specs.Lines.{script_lines, is_stop}
use Rattle.desk_book.specs.Script.{Item, HasNoStop}
use Rattle.desk_book.specs.Played.{HasPlayed, answers_text}

-- these lines begin with a body and the line that ends it, and the bytes behind that are the rest
pub record BeginsWithBody (lines : List (List ℕ)) (text : List ℕ) (rest : List ℕ) : Type 0 where
  pub body : List (List ℕ)
  pub stop : List ℕ
  pub split : lines ≡ body ++ stop ∷ script_lines rest
  pub inside : HasNoStop body
  pub stops : is_stop stop ≡ true
  pub is : text ≡ concat body

-- a text ends where a line does: it is empty, or its last byte is a line feed
abbrev pub ends_line : List ℕ → Bool
ends_line text = fold (λ _ c. c == byte "\n") true text

-- one item was played, and its answer written
pub record PlaysItem (was : Bool) (books : Books) (item : Item) (before after : Option (List ℕ)) (is : Bool) (old new : View) : Type 0 where
  pub answers : List (Result Reply Fault)
  pub played : HasPlayed was books (item ∷ []) answers is old new
  pub written : Appends before after (answers_text (item ∷ []) answers)
