-- A folder as a list of what is asked.
use Rattle.std.specs.Prelude.{◌≡◌, ◌≢◌, ℕ, List, All, AllPairs, Contains, Option, Some, None, map}
use Rattle.std.specs.List.{slice_get}
use Rattle.std.specs.List.Sorted.{IsStrictlySortedBy}
use Rattle.std.specs.declared.cmp.Ordering.{Ordering}
use Rattle.std.specs.Ordering.{nat_cmp, ordering_then}
use Rattle.std.specs.Cmp.Lexicographic.{slice_cmp}
use Rattle.desk_book.specs.Asked.{Asked}
use Rattle.desk_book.specs.declared.requests.question.Question.{Question}
use Rattle.desk_drop.specs.declared.file.DropFile.{DropFile}
use Rattle.desk_drop.specs.Names.{IsNameOf}

-- a file by its values
pub record File : Type 0 where
  pub name : List ℕ
  pub bytes : List ℕ

abbrev pub file_of : DropFile → File
file_of file = record { name = file.name.now; bytes = file.bytes.now }

-- no two of the files have one name
abbrev pub HaveOwnNames : List File → Type 0
HaveOwnNames files = AllPairs (λ a b. a.name ≢ b.name) files

-- A file with what it asks: its name, its place among the files, counted from 0, and the request; None where its name
-- says nothing.
pub record Item : Type 0 where
  pub name : List ℕ
  pub index : ℕ
  pub request : Option Asked

-- the question of its name, with what it holds
abbrev pub IsRequestOf : File → Option Asked → Type 0
IsRequestOf file (Some asked) = IsNameOf asked.question file.name × (asked.text ≡ file.bytes)
IsRequestOf file None = (question : Question) → ¬ IsNameOf question file.name

-- a file of these, with what it asks
pub record IsItemOf (files : List File) (item : Item) : Type 0 where
  pub file : File
  pub stands : slice_get files item.index ≡ Some file
  pub named : item.name ≡ file.name
  pub asks : IsRequestOf file item.request

-- in order of the bytes of the names, and of equal names by the place among the files
abbrev pub place_order : List ℕ × ℕ → List ℕ × ℕ → Ordering
place_order a b = ordering_then (slice_cmp nat_cmp a.0 b.0) (nat_cmp a.1 b.1)

abbrev pub place_in : Item → List ℕ × ℕ
place_in item = (item.name, item.index)

-- its name, with what it asks
abbrev pub asked_by_name : Item → List ℕ × Option Asked
asked_by_name item = (item.name, item.request)

-- The files of a folder, each once, in this order, with what they ask.
pub record IsFolder (files : List File) (items : List Item) : Type 0 where
  pub are : All (IsItemOf files) items
  pub each : (index : ℕ) (file : File) → slice_get files index ≡ Some file → Contains (map place_in items) (file.name, index)
  pub ordered : IsStrictlySortedBy place_order (map place_in items)

-- There is one such list, and no other.
pub record IsOnlyFolder (files : List File) (items : List Item) : Type 0 where
  pub is : IsFolder files items
  pub alone : (others : List Item) → IsFolder files others → others ≡ items
