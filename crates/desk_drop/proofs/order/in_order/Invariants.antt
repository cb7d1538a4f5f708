use Rattle.std.proofs.Common.{◌≡◌, ◌≤◌, length, map, take}
use Rattle.std.specs.Prelude.{vec_len, vec_capacity}
use Rattle.desk_drop.specs.Folder.{file_of}
use Rattle.desk_drop.proofs.OrderLemmas.{places_from}
use Rattle.desk_drop.proofs.order.in_order.Given as goal

abbrev pub invariant-files : goal.invariant-files
invariant-files l = record {
  room : length l.files ≤ vec_capacity l.places;
  count : vec_len l.places ≡ l.index;
  placed : map (λ place. (place.0.now, place.1)) l.places.items ≡ places_from 0 (map file_of (take l.index l.files));
}
