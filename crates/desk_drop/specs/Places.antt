-- The names of the files with their places, in order. Only private contracts speak of it.
use Rattle.std.specs.Prelude.{◌≡◌, ℕ, List, All, Contains, Some}
use Rattle.std.specs.List.{slice_get}
use Rattle.std.specs.List.Sorted.{IsStrictlySortedBy}
use Rattle.desk_drop.specs.Folder.{File, place_order}

-- the name of the file at the place
pub record IsPlaceOf (files : List File) (place : List ℕ × ℕ) : Type 0 where
  pub file : File
  pub stands : slice_get files place.1 ≡ Some file
  pub named : place.0 ≡ file.name

-- each file's name with its place, once, in order
pub record IsOrder (files : List File) (places : List (List ℕ × ℕ)) : Type 0 where
  pub are : All (IsPlaceOf files) places
  pub each : (index : ℕ) (file : File) → slice_get files index ≡ Some file → Contains places (file.name, index)
  pub ordered : IsStrictlySortedBy place_order places
