-- A loop over a list that writes the rows of each item.
use Rattle.std.proofs.Common.{◌≡◌, ℕ, zero, suc, ◌+◌, ◌<◌, ◌≤◌, Bool, true, false, List, [], ◌∷◌, ◌++◌, length, take, drop, Option, Some, is_some, refl, ap, sym, ◌∙◌, subst, arith, append_assoc, append-nil}
use Rattle.std.proofs.lemmas.List.{take-append-drop, take_all, length-map}
use Rattle.std.proofs.lemmas.List.Concat.{flat_map-append}
use Rattle.std.specs.Prelude.{Result, Ok, Err, flat_map, slice_get}
use Rattle.std.specs.Result.{IsErrAnd}
use Rattle.serde_json.specs.Data.{Data}
use Rattle.desk_rules.specs.declared.history.entry.Entry.{Entry}
use Rattle.desk_rules.specs.History.{entry_at}
use Rattle.desk_rules.specs.Content.{Content, history_of}
use Rattle.desk_register.specs.View.{HasRead, IsLater, View, IsRead}
use Rattle.desk_register.specs.declared.fault.WalkFault.{WalkFault}
use Rattle.desk_register.proofs.ReadLemmas.{held_so}
use Rattle.desk_register.proofs.ReadingLemmas.{read_on}
use Rattle.desk_book.specs.RowByRow.{WritesText, WritesWhole}
use Rattle.desk_report.specs.RowsWriting.{IsRows, WritesRows, rows_at, rows_if}
use Rattle.desk_report.proofs.RowsLemmas.{RowsWritten, all_written, broke_in, handed_on, none_written, rows_ended, whole_of, written_then}

-- the rows of the first items, and of one more
module _ {Item Row : Type 0} (rows_by : Item → List Row) where
  one_item : (item : Item) → flat_map rows_by (item ∷ []) ≡ rows_by item
  one_item item = append-nil (rows_by item)

  suc_turn : (items : List Item) (turns : ℕ) → flat_map rows_by (take (suc turns) items) ≡ flat_map rows_by (take turns items) ++ rows_if rows_by (slice_get items turns)
  suc_turn [] zero = refl
  suc_turn [] (suc turns) = refl
  suc_turn (item ∷ items) zero = one_item item
  suc_turn (item ∷ items) (suc turns) =
      ap (λ (l : List Row). rows_by item ++ l) (suc_turn items turns) ∙ sym (append_assoc (rows_by item) (flat_map rows_by (take turns items)) (rows_if rows_by (slice_get items turns)))

  one_turn : (items : List Item) (turns : ℕ) → flat_map rows_by (take (turns + 1) items) ≡ flat_map rows_by (take turns items) ++ rows_if rows_by (slice_get items turns)
  one_turn items turns =
      let next : turns + 1 ≡ suc turns = omega arith in
      ap (λ (n : ℕ). flat_map rows_by (take n items)) next ∙ suc_turn items turns

  -- and all of them
  all_turns : (items : List Item) (turns : ℕ)
      → flat_map rows_by items ≡ flat_map rows_by (take turns items) ++ (rows_if rows_by (slice_get items turns) ++ flat_map rows_by (drop (turns + 1) items))
  all_turns items turns =
      let first = flat_map rows_by (take turns items) in
      let one = rows_if rows_by (slice_get items turns) in
      let rest = flat_map rows_by (drop (turns + 1) items) in
      ap (λ (l : List Item). flat_map rows_by l) (sym (take-append-drop (turns + 1) items))
      ∙ (flat_map-append rows_by (take (turns + 1) items) (drop (turns + 1) items) ∙ (ap (λ (l : List Row). l ++ rest) (one_turn items turns) ∙ append_assoc first one rest))

-- The loop: what is held, of which `Given` says what else is known, has items, and each of them has rows.
module _ {Row Item X : Type 0} (data_of : Row → Data) (Given : Content → X → Type 0) (items : Content → List Item) (rows_by : Content → X → Item → List Row) (IsJson : Type 0) where
  -- after so many turns
  pub record Looping (v0 v : View) (turns : ℕ) (was_later is_later : Bool) (before now : Option (List ℕ)) : Type 0 where
    pub read : HasRead v0 v
    pub written : IsJson → v.is_honest → v0.is_sure → (x : X) → Given v0.content x
        → RowsWritten data_of (flat_map (rows_by v0.content x) (take turns (items v0.content))) was_later is_later before now

  pub looping_begins : (v0 v : View) (is_later : Bool) (before : Option (List ℕ)) → HasRead v0 v → Looping v0 v 0 is_later is_later before before
  looping_begins v0 v is_later before read = record { read = read; written = λ json honest sure x given. none_written data_of is_later before }

  -- what a turn writes
  abbrev pub Turn : (turns : ℕ) (is_later : Bool) (result : Result Bool WalkFault) (before now : Option (List ℕ)) → Content → Type 0
  Turn turns is_later result before now content = (x : X) → Given content x → WritesRows data_of (rows_if (rows_by content x) (slice_get (items content) turns)) is_later result before now

  module _ (v0 v : View) (turns : ℕ) (was_later is_later : Bool) (before between : Option (List ℕ)) (s : Looping v0 v turns was_later is_later before between) where
    pub looping_goes_on : (v1 : View) (now_later : Bool) (now : Option (List ℕ)) → IsRead {X = Unit {0}} (Ok tt) v v1
        → (IsJson → v1.is_honest → v.is_sure → Turn turns is_later (Ok now_later) between now v.content) → Looping v0 v1 (turns + 1) was_later now_later before now
    looping_goes_on v1 now_later now read writes = record {
      read = read_on v0 v s.read tt v1 read;
      written = λ json honest sure x given.
          let honest_now = read.later.honest honest in
          let turn = held_so v0 v s.read (λ c. Turn turns is_later (Ok now_later) between now c) honest_now sure (writes json honest (s.read.ok.sure honest_now sure)) x given in
          let rows = rows_if (rows_by v0.content x) (slice_get (items v0.content) turns) in
          let first = flat_map (rows_by v0.content x) (take turns (items v0.content)) in
          let all = written_then data_of first was_later is_later before between (s.written json honest_now sure x given) rows now_later now (all_written data_of rows is_later now_later between now turn.text turn.later) in
          subst (λ z. RowsWritten data_of z was_later now_later before now) (sym (one_turn (rows_by v0.content x) (items v0.content) turns)) all;
    }

    pub looping_breaks : {Y : Type 0} (v1 : View) (now : Option (List ℕ)) (fault : WalkFault) (r : Result Y WalkFault) → IsErrAnd r (λ broken. broken ≡ fault) → IsLater v v1
        → (IsJson → v1.is_honest → v.is_sure → Turn turns is_later (Err fault) between now v.content) → IsJson → v1.is_honest → v0.is_sure → (x : X) → Given v0.content x
        → WritesText (IsRows data_of (flat_map (rows_by v0.content x) (items v0.content)) was_later) r before now
    looping_breaks v1 now fault r is later writes json honest sure x given =
        let honest_now = later.honest honest in
        let turn = held_so v0 v s.read (λ c. Turn turns is_later (Err fault) between now c) honest_now sure (writes json honest (s.read.ok.sure honest_now sure)) x given in
        let all = flat_map (rows_by v0.content x) (items v0.content) in
        let rows = rows_if (rows_by v0.content x) (slice_get (items v0.content) turns) in
        let first = flat_map (rows_by v0.content x) (take turns (items v0.content)) in
        let more = flat_map (rows_by v0.content x) (drop (turns + 1) (items v0.content)) in
        let broke = broke_in data_of first was_later is_later before between (s.written json honest_now sure x given) rows more fault now turn.text in
        handed_on (IsRows data_of all was_later) fault r before now is
        (subst (λ z. WritesText {X = Unit {0}} (IsRows data_of z was_later) (Err fault) before now) (sym (all_turns (rows_by v0.content x) (items v0.content) turns)) broke)

    pub looping_ends : (v.is_honest → v0.is_sure → length (items v0.content) ≤ turns) → IsJson → v.is_honest → v0.is_sure → (x : X) → Given v0.content x
        → RowsWritten data_of (flat_map (rows_by v0.content x) (items v0.content)) was_later is_later before between
    looping_ends enough json honest sure x given =
        subst (λ (z : List Item). RowsWritten data_of (flat_map (rows_by v0.content x) z) was_later is_later before between) (take_all turns (items v0.content) (enough honest sure)) (s.written json honest sure x given)

-- The loop over the entries, by their numbers.

within_list : {Item : Type 0} (items : List Item) (k : ℕ) → k < length items → is_some (slice_get items k) ≡ true
within_list [] k lt = absurd (omega arith)
within_list (item ∷ items) zero lt = refl
within_list (item ∷ items) (suc k) lt = within_list items k (omega arith)

numbered : (history : List Entry) (index : ℕ) → entry_at history (index + 1) ≡ slice_get history index
numbered history index = let next : index + 1 ≡ suc index = omega arith in ap (λ (n : ℕ). entry_at history n) next

module _ {Row X : Type 0} (data_of : Row → Data) (Given : Content → X → Type 0) (rows_by : Content → X → Entry → List Row) (IsJson : Type 0) where
  -- after so many entries
  pub record Numbering (v0 v : View) (count index : ℕ) (is_later : Bool) (before now : Option (List ℕ)) : Type 0 where
    pub entries : v.is_honest → v0.is_sure → count ≡ length v0.content.register
    pub loop : Looping data_of Given history_of rows_by IsJson v0 v index false is_later before now

  pub numbering_begins : (v0 v : View) (count : ℕ) (before : Option (List ℕ)) → HasRead v0 v → (v.is_honest → v0.is_sure → count ≡ length v0.content.register) → Numbering v0 v count 0 false before before
  numbering_begins v0 v count before read entries = record { entries = entries; loop = looping_begins data_of Given history_of rows_by IsJson v0 v false before read }

  -- what the rows of the entry of a number write
  abbrev pub Numbered : (number : ℕ) (is_later : Bool) (result : Result Bool WalkFault) (before now : Option (List ℕ)) → Content → Type 0
  Numbered number is_later result before now content = (x : X) → Given content x → WritesRows data_of (rows_at (rows_by content x) (history_of content) number) is_later result before now

  turn_of : (index : ℕ) (is_later : Bool) (result : Result Bool WalkFault) (before now : Option (List ℕ)) (content : Content) → Numbered (index + 1) is_later result before now content
      → Turn data_of Given history_of rows_by IsJson index is_later result before now content
  turn_of index is_later result before now content of_number x given =
      let P : Option Entry → Type 0 = λ z. WritesRows data_of (rows_if (rows_by content x) z) is_later result before now in
      subst P (numbered (history_of content) index) (of_number x given)

  module _ (v0 v : View) (count index : ℕ) (is_later : Bool) (before between : Option (List ℕ)) (s : Numbering v0 v count index is_later before between) where
    -- the next entry is there
    pub numbering_known : index < count → v.is_honest → v.is_sure → is_some (entry_at (history_of v.content) (index + 1)) ≡ true
    numbering_known lt honest sure =
        let sure0 = s.loop.read.later.sure honest sure in
        let is = s.entries honest sure0 in
        let len = length-map v0.content.register (λ kept. kept.entry) in
        let P : List Entry → Type 0 = λ h. is_some (entry_at h (index + 1)) ≡ true in
        let known : P (history_of v0.content) = ap (λ (o : Option Entry). is_some o) (numbered (history_of v0.content) index) ∙ within_list (history_of v0.content) index (omega arith) in
        subst P (sym (ap history_of (s.loop.read.same honest sure0))) known

    pub numbering_goes_on : (v1 : View) (now_later : Bool) (now : Option (List ℕ)) → IsRead {X = Unit {0}} (Ok tt) v v1
        → (IsJson → v1.is_honest → v.is_sure → Numbered (index + 1) is_later (Ok now_later) between now v.content) → Numbering v0 v1 count (index + 1) now_later before now
    numbering_goes_on v1 now_later now read writes = record {
      entries = λ honest sure. s.entries (read.later.honest honest) sure;
      loop = looping_goes_on data_of Given history_of rows_by IsJson v0 v index false is_later before between s.loop v1 now_later now read
          (λ json honest sure. turn_of index is_later (Ok now_later) between now v.content (writes json honest sure));
    }

    pub numbering_breaks : (v1 : View) (now : Option (List ℕ)) (fault : WalkFault) (r : Result (Unit {0}) WalkFault) → IsErrAnd r (λ broken. broken ≡ fault) → IsLater v v1
        → (IsJson → v1.is_honest → v.is_sure → Numbered (index + 1) is_later (Err fault) between now v.content) → IsJson → v1.is_honest → v0.is_sure → (x : X) → Given v0.content x
        → WritesText (IsRows data_of (flat_map (rows_by v0.content x) (history_of v0.content)) false) r before now
    numbering_breaks v1 now fault r is later writes = looping_breaks data_of Given history_of rows_by IsJson v0 v index false is_later before between s.loop v1 now fault r is later
        (λ json honest sure. turn_of index is_later (Err fault) between now v.content (writes json honest sure))

    pub numbering_ends : count ≤ index → IsJson → v.is_honest → v0.is_sure → (x : X) → Given v0.content x
        → WritesWhole (IsRows data_of (flat_map (rows_by v0.content x) (history_of v0.content)) false) before between
    numbering_ends enough json honest sure x given =
        whole_of data_of (flat_map (rows_by v0.content x) (history_of v0.content)) false is_later before between
        (looping_ends data_of Given history_of rows_by IsJson v0 v index false is_later before between s.loop
        (λ really known. (let is = s.entries really known in let len = length-map v0.content.register (λ kept. kept.entry) in omega arith)) json honest sure x given)

-- The rows of an entry.
module _ {Row : Type 0} (data_of : Row → Data) (rows_by : Entry → List Row) (history : List Entry) (number : ℕ) (entry : Entry) (is : entry_at history number ≡ Some entry) where
  pub entry_rows : (is_later : Bool) (r : Result Bool WalkFault) (before now : Option (List ℕ)) → WritesRows data_of (rows_by entry) is_later r before now → WritesRows data_of (rows_at rows_by history number) is_later r before now
  entry_rows is_later r before now w =
      let P : Option Entry → Type 0 = λ z. WritesRows data_of (rows_if rows_by z) is_later r before now in
      subst P (sym is) w

  pub no_entry_rows : (is_later : Bool) (before : Option (List ℕ)) → rows_by entry ≡ [] → WritesRows data_of (rows_at rows_by history number) is_later (Ok is_later) before before
  no_entry_rows is_later before none =
      let P : List Row → Type 0 = λ rows. WritesRows data_of rows is_later (Ok is_later) before before in
      entry_rows is_later (Ok is_later) before before (subst P (sym none) (rows_ended data_of [] is_later is_later before before (none_written data_of is_later before)))
