use Rattle.std.proofs.Common.{rules, ap, map, ◌∙◌}
use Rattle.desk_drop.specs.Folder.{file_of}
use Rattle.desk_drop.proofs.OrderLemmas.{all_placed, none_placed, order_of, placed_more}
use Rattle.desk_drop.proofs.order.in_order.Goals as goal

pub files-init : goal.files-init
files-init c = record { room = search rules; count = search rules; placed = ap (map (λ place. (place.0.now, place.1))) c.in_ok-places.ensures.items ∙ none_placed c.args.files.now }

pub files-preserved : goal.files-preserved
files-preserved c =
    let i = c.files.invariant in
    record {
      room = search rules;
      count = search rules;
      placed = placed_more (λ place. (place.0.now, place.1)) c.args.files.now c.files.index _ c.files.places.items c.push.new.self.items (c.as_bytes.result, c.files.index) c.files-test.true i.placed
          (search rules) (ap (λ name. (name, c.files.index)) c.as_bytes.ensures.value);
    }

pub returns : goal.returns
returns c =
    order_of (λ place. (place.0.now, place.1)) (map file_of c.args.files.now) c.files.places.items c.sort_unstable.new.self.items
    (all_placed (λ place. (place.0.now, place.1)) c.args.files.now c.files.index c.files.places.items c.files-test.false c.files.invariant.placed)
    c.sort_unstable.ensures.permutation c.sort_unstable.ensures.sorted
