use Rattle.std.proofs.Common.{rules, Bor, ℕ, List, ◌∙◌, map, sym, subst, refl, []}
use Rattle.desk_book.proofs.LeftLemmas.{leaves_all, leaves_on}
use Rattle.std.specs.Prelude.{slice_index_or}
use Rattle.desk_drop.specs.declared.file.DropReply.{DropReply}
use Rattle.desk_drop.specs.Folder.{file_of}
use Rattle.desk_drop.specs.Places.{IsOrder}
use Rattle.desk_drop.proofs.FolderLemmas.{only_folder}
use Rattle.desk_drop.proofs.TakingLemmas.{all_taken, index_within, none_blamed, none_replied, replies_within, step_blamed, step_taken}
use Rattle.desk_drop.proofs.taking.take.Goals as goal

pub places-init : goal.places-init
places-init g c =
    let view = g.R.Register.view in
    let desk = c.args.desk.now in
    let P : List (Bor (List ℕ) × ℕ) → Type 0 = λ xs. IsOrder (map file_of c.args.files.now) (map (λ place. (place.0.now, place.1)) xs) in
    let none = c.in-Ok-with_capacity.ensures.items in
    record {
      room = search rules;
      count = search rules;
      order = subst P (sym c.deref-place-items.ensures.value) c.in-Ok.ensures;
      left = leaves_all view g.R.Register.in_memory desk;
      blame = none_blamed c.in-Ok-with_capacity.replies.items (view desk.register) none;
      so_far = none_replied (map file_of c.args.files.now) (map (λ place. (place.0.now, place.1)) c.deref-place-items.result.now) c.in-Ok-with_capacity.replies.items desk.is_closed (view desk.register) none;
    }

pub bounds-files-index : goal.bounds-files-index
bounds-files-index g c = index_within (λ place. (place.0.now, place.1)) c.args.files.now c.deref-place-items.result.now c.places.place-index _ c.places.invariant.order c.places-test.true

pub offset_bounds-files-index : goal.offset_bounds-files-index
offset_bounds-files-index g c =
    let within = index_within (λ place. (place.0.now, place.1)) c.args.files.now c.deref-place-items.result.now c.places.place-index (record { ref_ptr = (0, 0); now = [] }, 0) c.places.invariant.order c.places-test.true in
    search rules

pub places-preserved : goal.places-preserved
places-preserved g c =
    let i = c.places.invariant in
    let a = c.answer_file-answer.ensures in
    let view = g.R.Register.view in
    let in_memory = g.R.Register.in_memory in
    let v0 = view c.args.desk.now.register in
    let v1 = view c.places.desk.register in
    let v2 = view c.answer_file-answer.new.desk.register in
    let place : Bor (List ℕ) × ℕ = slice_index_or c.deref-place-items.result.now c.places.place-index (record { ref_ptr = (0, 0); now = [] }, 0) in
    let reply : DropReply = record { index = place.1; answer = c.answer_file-answer.result } in
    record {
      room = search rules;
      count = search rules;
      order = i.order;
      left = leaves_on view in_memory c.args.desk.now c.places.desk c.answer_file-answer.new.desk i.left a.left;
      blame = step_blamed c.places.replies.items c.push.new.self.items reply v0 v1 v2 a.left.later (search rules) i.blame a.blame;
      so_far = step_taken (λ place. (place.0.now, place.1)) c.args.files.now c.deref-place-items.result.now c.places.place-index (record { ref_ptr = (0, 0); now = [] }, 0) _ c.places.replies.items c.push.new.self.items reply c.args.desk.now.is_closed c.places.desk.is_closed
          c.answer_file-answer.new.desk.is_closed v0 v1 v2 i.order i.left.later a.left.later c.places-test.true refl (search rules) i.so_far a.answered;
    }

pub returns-clause-taken : goal.returns-clause-taken
returns-clause-taken g c =
    let i = c.places.invariant in
    let s = i.so_far in
    let places = map (λ place. (place.0.now, place.1)) c.deref-place-items.result.now in
    (s.front, only_folder (map file_of c.args.files.now) s.front places i.order (s.placed ∙ all_taken (λ place. (place.0.now, place.1)) c.deref-place-items.result.now c.places.place-index c.places-test.false) s.are, s.told, s.answered, s.taken)

pub returns-clause-within : goal.returns-clause-within
returns-clause-within g c = replies_within c.args.files.now c.places.invariant.so_far.front c.places.replies.items c.places.invariant.so_far.are c.places.invariant.so_far.told
