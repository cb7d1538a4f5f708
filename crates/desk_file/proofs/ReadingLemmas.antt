-- The table is the register that was read from it.
use Rattle.std.proofs.Common.{◌≡◌, inl, inr, ℕ, zero, suc, ◌+◌, ◌<◌, ◌≤◌, ◌^◌, List, [], ◌∷◌, ◌++◌, length, map, slice_get, option_map, Option, Some, refl, sym, ap, subst, ◌∙◌, arith, length-append}
use Rattle.std.proofs.lemmas.Bool.{cases_lt}
use Rattle.std.proofs.lemmas.List.{map-append}
use Rattle.sqlite.specs.Effect.{Database}
use Rattle.sqlite.specs.Order.{Row}
use Rattle.desk_rules.specs.declared.answers.reply.Kept.{Kept}
use Rattle.desk_rules.specs.Content.{Content, history_of}
use Rattle.desk_rules.specs.WellFormed.{AreWellFormed, IsWellFormed}
use Rattle.desk_rules.proofs.HistoryLemmas.{slice_get-end, slice_get-front}
use Rattle.desk_rules.proofs.WellFormedLemmas.{formed_none, formed_push}
use Rattle.desk_engine.specs.KeptHistory.{HoldsKept}
use Rattle.sql_tables.specs.Schema.{register_table}
use Rattle.sql_tables.specs.Versions.{register_tree, schema_in, AreAllFormedIn}
use Rattle.sql_tables.specs.declared.versions.Version.{Version}
use Rattle.sql_tables.specs.Order.{AreInOrder}
use Rattle.sql_entries.specs.Entries.{row_in, rows_in, values_in}
use Rattle.sql_entries.specs.Told.{CanSay}
use Rattle.sql_tables.specs.ByNumber.{HasEach, HasNoOther, HasOne}
use Rattle.sql_tables.specs.Numbered.{and_row, numbered_from}
use Rattle.sql_tables.proofs.ByNumberLemmas.{same_list}
use Rattle.desk_file.specs.declared.audit.register.Reading.{Reading}
use Rattle.desk_file.specs.declared.audit.register.Reading.TheVariants.{Whole}
use Rattle.desk_file.specs.Reading.{AreSaid, HoldsFormed, HoldsRows, IsReadIn, TakesRow}
use Rattle.desk_file.proofs.RegisterTables.{register_formed, register_up}
use Rattle.sql_entries.specs.Rows.{wanted}

abbrev its_values : Version → Kept → Row
its_values version kept = values_in version kept.entry kept.reply

-- ---- the rows of a list, number by number

wanted_front : (version : Version) (xs ys : List Kept) (n : ℕ) → n ≤ length xs → wanted version (xs ++ ys) n ≡ wanted version xs n
wanted_front version xs ys zero le = refl
wanted_front version xs ys (suc n) le = ap (option_map (its_values version)) (slice_get-front xs ys n (omega (arith, le)))

wanted_end : (version : Version) (xs : List Kept) (kept : Kept) (n : ℕ) → n ≡ length xs + 1 → wanted version (xs ++ kept ∷ []) n ≡ Some (its_values version kept)
wanted_end version xs kept zero is = absurd (omega (arith, is))
wanted_end version xs kept (suc n) is = (let same : n ≡ length xs = omega (arith, is) in ap (λ j. option_map (its_values version) (slice_get (xs ++ kept ∷ []) j)) same ∙ ap (option_map (its_values version)) (slice_get-end xs kept))

each_more : (version : Version) (rows : List Row) (xs : List Kept) (kept : Kept) (count : ℕ) → length xs ≡ count → HasEach (wanted version xs) rows count → HasOne rows (count + 1) (its_values version kept) → HasEach (wanted version (xs ++ kept ∷ [])) rows (count + 1)
each_more version rows xs kept count size has row = record {
  each = λ number some high. elim (cases_lt count number) [
    | inl last ↦ (let same : count + 1 ≡ number = omega (arith, last, high) in (its_values version kept, wanted_end version xs kept number (omega (arith, same, size)), subst (λ n. HasOne rows n (its_values version kept)) same row))
    | inr front ↦ (let it = has.each number some front in (it.0, wanted_front version xs (kept ∷ []) number (omega (arith, front, size)) ∙ it.1, it.2))
  ];
}

module _ (version : Version) (w : ℕ → Option Row) where
  numbered_is : (n : ℕ) (xs : List Kept) → ((m : ℕ) (kept : Kept) → slice_get xs m ≡ Some kept → w (suc (n + m)) ≡ Some (its_values version kept)) → numbered_from w n (length xs) ≡ rows_in version n xs
  numbered_is n [] each = refl
  numbered_is n (x ∷ xs) each =
      let start : suc (n + 0) ≡ suc n = omega arith in
      let first : w (suc n) ≡ Some (its_values version x) = subst (λ j. w j ≡ Some (its_values version x)) start (each 0 x refl) in
      let later : (m : ℕ) (kept : Kept) → slice_get xs m ≡ Some kept → w (suc (suc n + m)) ≡ Some (its_values version kept) = λ m kept at.
      (let on : suc (n + suc m) ≡ suc (suc n + m) = omega arith in subst (λ j. w j ≡ Some (its_values version kept)) on (each (suc m) kept at)) in
      let next : suc n ≡ n + 1 = omega arith in
      ap (λ o. and_row (suc n) o (numbered_from w (suc n) (length xs))) first
      ∙ ap (λ rs. row_in version (suc n) x.entry x.reply ∷ rs) (numbered_is (suc n) xs later)
      ∙ ap (λ j. row_in version j x.entry x.reply ∷ rows_in version j xs) next

rows_are : (version : Version) (xs : List Kept) → numbered_from (wanted version xs) 0 (length xs) ≡ rows_in version 0 xs
rows_are version xs = numbered_is version (wanted version xs) 0 xs (λ m kept at. let same : suc m ≡ suc (0 + m) = omega arith in subst (λ j. wanted version xs j ≡ Some (its_values version kept)) same (ap (option_map (its_values version)) at))

-- ---- one entry more

said_more : (version : Version) (xs : List Kept) (kept : Kept) → AreSaid version xs → CanSay version kept.entry → AreSaid version (xs ++ kept ∷ [])
said_more version [] kept all one = (one, tt)
said_more version (x ∷ xs) kept all one = (all.0, said_more version xs kept all.1 one)

pub none_formed : (limit : ℕ) (content : Content) → HoldsKept limit [] content → HoldsFormed limit content
none_formed limit content held =
    let is = held.register in record {
      held = subst (λ xs. HoldsKept limit xs content) (sym is) held;
      formed = subst (λ (xs : List Kept). AreWellFormed (map (λ kept. kept.entry) xs)) (sym is) formed_none;
    }

pub more_formed : (limit : ℕ) (old new : Content) (kept : Kept) → HoldsFormed limit old → HoldsKept limit (old.register ++ kept ∷ []) new → IsWellFormed kept.entry → HoldsFormed limit new
more_formed limit old new kept holds held formed =
    let is : new.register ≡ old.register ++ kept ∷ [] = held.register in
    let history : history_of new ≡ history_of old ++ kept.entry ∷ [] = ap (map (λ (k : Kept). k.entry)) is ∙ map-append (λ (k : Kept). k.entry) old.register (kept ∷ []) in
    record {
      held = subst (λ xs. HoldsKept limit xs new) (sym is) held;
      formed = subst AreWellFormed (sym history) (formed_push (history_of old) kept.entry holds.formed formed);
    }

pub none_held : (version : Version) (rows : List Row) (limit : ℕ) (content : Content) → HoldsKept limit [] content → HoldsRows version rows 0 limit content
none_held version rows limit content held =
    let holds = none_formed limit content held in record {
      held = holds.held;
      each = record { each = λ number some high. absurd (omega (arith, some, high)) };
      said = subst (AreSaid version) (sym held.register) tt;
      size = ap length held.register;
      formed = holds.formed;
    }

pub more_held : (version : Version) (rows : List Row) (count limit room : ℕ) (old new : Content) → HoldsRows version rows count limit old → TakesRow version rows (count + 1) room old new → room ≡ limit → HoldsRows version rows (count + 1) limit new
more_held version rows count limit room old new holds takes same =
    let is : new.register ≡ old.register ++ takes.kept ∷ [] = takes.held.register in
    let more = more_formed limit old new takes.kept (record { held = holds.held; formed = holds.formed }) (subst (λ r. HoldsKept r (old.register ++ takes.kept ∷ []) new) same takes.held) takes.is.formed in
    record {
      held = more.held;
      each = subst (λ xs. HasEach (wanted version xs) rows (count + 1)) (sym is) (each_more version rows old.register takes.kept count holds.size holds.each takes.is.row);
      said = subst (AreSaid version) (sym is) (said_more version old.register takes.kept holds.said takes.is.said);
      size = ap length is ∙ length-append old.register (takes.kept ∷ []) ∙ ap (λ n. n + 1) holds.size;
      formed = more.formed;
    }

-- ---- the table

pub is_read : (version : Version) (db : Database) (count limit : ℕ) (content : Content) (reading : Reading) → (reading ≡ Whole → HasNoOther (db.trees (register_tree version)) count) → AreInOrder (schema_in version) db.trees → AreAllFormedIn version db.trees
    → HoldsRows version (db.trees (register_tree version)) count limit content → count < 2 ^ 63 → reading ≡ Whole → IsReadIn version db limit content
is_read version db count limit content reading none order formed holds few whole =
    let xs = content.register in
    let rows = db.trees (register_tree version) in
    let told = subst (HasEach (wanted version xs) rows) (sym holds.size) holds.each in
    let other = subst (HasNoOther rows) (sym holds.size) (none whole) in
    record {
      entries = record {
        rows = same_list (wanted version xs) register_table rows (length xs) told other (register_up version db.trees order) (register_formed version db.trees formed) ∙ rows_are version xs;
        few = subst (λ n. n < 2 ^ 63) (sym holds.size) few;
      };
      said = holds.said;
      held = holds.held;
      formed = holds.formed;
    }

pub formed_again : (limit room : ℕ) (content : Content) → limit ≡ room → HoldsFormed limit content → HoldsFormed room content
formed_again limit room content same holds = subst (λ r. HoldsFormed r content) same holds

pub again : (limit room : ℕ) (content : Content) → limit ≡ room → HoldsKept limit content.register content → HoldsKept room content.register content
again limit room content same held = subst (λ r. HoldsKept r content.register content) same held
