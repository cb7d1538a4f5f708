-- The register of a table is read row by row: its first entries are held, and the next row is that of the next one.
use Rattle.std.proofs.Common.{◌≡◌, ◌⊎◌, ◌↔◌, inl, inr, ℕ, zero, suc, ◌+◌, ◌<◌, ◌≤◌, Bool, false, cond, List, [], ◌∷◌, ◌++◌, length, map, filter, Some, None, IfSome, slice_get, refl, sym, ap, subst, ◌∙◌, arith, add-one, length-append}
use Rattle.std.proofs.lemmas.Option.{slice_get_past}
use Rattle.sqlite.specs.Effect.{Database}
use Rattle.sqlite.specs.Order.{Row}
use Rattle.sqlite.specs.declared.types.Value.TheVariants.{Null}
use Rattle.desk_rules.specs.declared.answers.reply.Kept.{Kept}
use Rattle.desk_rules.specs.Content.{Content, history_of}
use Rattle.desk_rules.specs.History.{entry_at}
use Rattle.desk_rules.specs.WellFormed.{AreWellFormed}
use Rattle.desk_rules.proofs.WellFormedLemmas.{formed_at}
use Rattle.desk_register.specs.Looked.{kept_at}
use Rattle.desk_engine.specs.KeptHistory.{CanBeKept, HoldsKept}
use Rattle.desk_engine.proofs.KeptHistoryLemmas.{can_held, front}
use Rattle.sql_tables.specs.ByNumber.{has_number, is_above, is_below, HasNoOther, HasOne}
use Rattle.sql_tables.proofs.ByNumberLemmas.{is_not_above, is_not_below}
use Rattle.sql_entries.specs.Entries.{row_in, rows_in, values_in, AreEntriesIn}
use Rattle.sql_entries.specs.Told.{CanSay}
use Rattle.sql_tables.specs.Versions.{register_tree}
use Rattle.sql_tables.specs.declared.versions.Version.{Version}
use Rattle.sql_entries.specs.declared.compared.Found.{Found}
use Rattle.sql_entries.specs.declared.compared.Found.TheVariants.{Nothing, Another, Entry}
use Rattle.sql_entries.specs.Found.{IsRowOf}
use Rattle.sql_entries.specs.Shown.{row_if, HasShortNumbers}
use Rattle.sql_entries.proofs.FormedLemmas.{at_number}
use Rattle.sql_entries.proofs.RegisterLemmas.{found_in}
use Rattle.desk_file.specs.declared.audit.register.Step.{Step}
use Rattle.desk_file.specs.declared.audit.register.Step.TheVariants.{Taken}
use Rattle.desk_file.specs.declared.audit.register.Step.TheVariants as steps
use Rattle.desk_file.specs.Reading.{AreSaid, IsReadIn}
use Rattle.desk_file.proofs.WritableFacts.{short}

-- the first entries of a list are held, so many
pub record HoldsFront (all : List Kept) (count : ℕ) (held : List Kept) : Type 0 where
  pub rest : List Kept
  pub is : held ++ rest ≡ all
  pub size : length held ≡ count

-- ---- lists

got_behind : (xs : List Kept) (x : Kept) (ys : List Kept) → slice_get (xs ++ x ∷ ys) (length xs) ≡ Some x
got_behind [] x ys = refl
got_behind (y ∷ xs) x ys = got_behind xs x ys

joined : (xs : List Kept) (x : Kept) (ys : List Kept) → (xs ++ x ∷ []) ++ ys ≡ xs ++ x ∷ ys
joined [] x ys = refl
joined (y ∷ xs) x ys = ap (λ (zs : List Kept). y ∷ zs) (joined xs x ys)

ended : (xs : List Kept) → xs ++ [] ≡ xs
ended [] = refl
ended (x ∷ xs) = ap (λ (zs : List Kept). x ∷ zs) (ended xs)

-- ---- the rows of a list

none_passes : (version : Version) (test : Row → Bool) (last n : ℕ) (xs : List Kept) → n + length xs ≤ last → ((m : ℕ) (kept : Kept) → n < m → m ≤ last → test (row_in version m kept.entry kept.reply) ≡ false) → filter test (rows_in version n xs) ≡ []
none_passes version test last n [] high fails = refl
none_passes version test last n (x ∷ xs) high fails =
    ap (λ b. cond b (row_in version (n + 1) x.entry x.reply ∷ filter test (rows_in version (n + 1) xs)) (filter test (rows_in version (n + 1) xs))) (fails (n + 1) x (omega arith) (omega (arith, high)))
    ∙ none_passes version test last (n + 1) xs (omega (arith, high)) (λ m kept low le. fails m kept (omega (arith, low)) le)

module _ (version : Version) (db : Database) (all : List Kept) (are : AreEntriesIn version db all) where
  pub no_other : HasNoOther (db.trees (register_tree version)) (length all)
  no_other = record {
    above = ap (filter (is_above (length all))) are.rows ∙ none_passes version (is_above (length all)) (length all) 0 all (omega arith) (λ m kept low high. is_not_above m (length all) (Null ∷ values_in version kept.entry kept.reply) high);
    below = ap (filter (is_below 1)) are.rows ∙ none_passes version (is_below 1) (length all) 0 all (omega arith) (λ m kept low high. is_not_below m (Null ∷ values_in version kept.entry kept.reply) low);
  }

  at_number_is : (n : ℕ) → filter (has_number n) (db.trees (register_tree version)) ≡ row_if (λ (kept : Kept). row_in version n kept.entry kept.reply) (kept_at all n)
  at_number_is n = ap (filter (has_number n)) are.rows ∙ found_in version n all

  no_row : (n : ℕ) → length all ≤ n → filter (has_number (n + 1)) (db.trees (register_tree version)) ≡ []
  no_row n past =
      let none : kept_at all (n + 1) ≡ None = ap (kept_at all) (add-one n) ∙ slice_get_past all n past in
      at_number_is (n + 1) ∙ ap (row_if (λ (kept : Kept). row_in version (n + 1) kept.entry kept.reply)) none

  one_row : (n : ℕ) (kept : Kept) → kept_at all n ≡ Some kept → HasOne (db.trees (register_tree version)) n (values_in version kept.entry kept.reply)
  one_row n kept at = at_number_is n ∙ ap (row_if (λ (k : Kept). row_in version n k.entry k.reply)) at

-- ---- the next row

entry_kept : (xs : List Kept) (n : ℕ) (kept : Kept) → slice_get xs n ≡ Some kept → slice_get (map (λ (k : Kept). k.entry) xs) n ≡ Some kept.entry
entry_kept [] n kept at = absurd (cc)
entry_kept (x ∷ xs) zero kept at = let same : x ≡ kept = cc in ap (λ (k : Kept). Some k.entry) same
entry_kept (x ∷ xs) (suc n) kept at = entry_kept xs n kept at

said_at : (version : Version) (xs : List Kept) (n : ℕ) (kept : Kept) → AreSaid version xs → slice_get xs n ≡ Some kept → CanSay version kept.entry
said_at version [] n kept all at = absurd (cc)
said_at version (x ∷ xs) zero kept all at = let same : x ≡ kept = cc in subst (λ (k : Kept). CanSay version k.entry) same all.0
said_at version (x ∷ xs) (suc n) kept all at = said_at version xs n kept all.1 at

-- it is the next entry's, which is taken in; or there is none, and no other
abbrev pub GoesOn : Version → Database → Content → ℕ → List Kept → Step → List Kept → Type 0
GoesOn version db content count held step new =
    ((step ≡ steps.Nothing) × (held ≡ content.register) × HasNoOther (db.trees (register_tree version)) count) ⊎ ((step ≡ Taken) × HoldsFront content.register (count + 1) new)

module _ (version : Version) (db : Database) (limit : ℕ) (content : Content) (read : IsReadIn version db limit content) (count : ℕ) (held : List Kept) (holds : HoldsFront content.register count held) (step : Step) (new : Content)
    (taken : (kept : Kept) → IsRowOf version (db.trees (register_tree version)) (count + 1) kept → HasShortNumbers kept.reply → CanBeKept limit (held ++ kept ∷ []) → (step ≡ Taken) × HoldsKept limit (held ++ kept ∷ []) new)
    (nothing : (step ≡ steps.Nothing) ↔ (filter (has_number (count + 1)) (db.trees (register_tree version)) ≡ [])) where
  ends : held ≡ content.register → GoesOn version db content count held step new.register
  ends is =
      let size : length content.register ≡ count = ap length (sym is) ∙ holds.size in
      inl (nothing.1 (no_row version db content.register read.entries count (omega (arith, size))), is, subst (HasNoOther (db.trees (register_tree version))) size (no_other version db content.register read.entries))

  goes : (kept : Kept) (more : List Kept) → held ++ kept ∷ more ≡ content.register → GoesOn version db content count held step new.register
  goes kept more is =
      let here : slice_get content.register count ≡ Some kept = ap (λ (xs : List Kept). slice_get xs count) (sym is) ∙ ap (slice_get (held ++ kept ∷ more)) (sym holds.size) ∙ got_behind held kept more in
      let at : kept_at content.register (count + 1) ≡ Some kept = ap (kept_at content.register) (add-one count) ∙ here in
      let entry : entry_at (history_of content) (count + 1) ≡ Some kept.entry = ap (entry_at (history_of content)) (add-one count) ∙ entry_kept content.register count kept here in
      let row : IsRowOf version (db.trees (register_tree version)) (count + 1) kept = record { row = one_row version db content.register read.entries (count + 1) kept at; formed = formed_at (history_of content) (count + 1) kept.entry read.formed entry; said = said_at version content.register count kept read.said here } in
      let shorts = at_number (λ (k : Kept). HasShortNumbers k.reply) content.register (count + 1) (short limit read.held.books content read.held.keeps (subst AreWellFormed read.held.keeps.tables.history read.formed)) in
      let short_reply : HasShortNumbers kept.reply = subst (λ o. IfSome o (λ (k : Kept). HasShortNumbers k.reply)) at shorts in
      let can = front limit (held ++ kept ∷ []) more (subst (CanBeKept limit) (sym (joined held kept more ∙ is)) (can_held limit content.register content read.held)) in
      let it = taken kept row short_reply can in
      let grown : new.register ≡ held ++ kept ∷ [] = it.1.register in
      inr (
        it.0,
        record {
          rest = more;
          is = ap (λ (xs : List Kept). xs ++ more) grown ∙ joined held kept more ∙ is;
          size = ap length grown ∙ length-append held (kept ∷ []) ∙ ap (λ n. n + 1) holds.size;
        },
      )

  pub goes_on : GoesOn version db content count held step new.register
  goes_on = rests holds.rest holds.is
    where
      rests : (rest : List Kept) → held ++ rest ≡ content.register → GoesOn version db content count held step new.register
      rests [] is = ends (sym (ended held) ∙ is)
      rests (kept ∷ more) is = goes kept more is

-- the same of a database as it was found before, and of a register that has the same room
pub stepped : (version : Version) (d0 d1 : Database) (r0 r1 : ℕ) (content : Content) (count : ℕ) (old new : Content) (step : Step) → d1 ≡ d0 → r1 ≡ r0 → IsReadIn version d0 r0 content → HoldsFront content.register count old.register
    → ((kept : Kept) → IsRowOf version (d1.trees (register_tree version)) (count + 1) kept → HasShortNumbers kept.reply → CanBeKept r1 (old.register ++ kept ∷ []) → (step ≡ Taken) × HoldsKept r1 (old.register ++ kept ∷ []) new)
    → (step ≡ steps.Nothing) ↔ (filter (has_number (count + 1)) (d1.trees (register_tree version)) ≡ []) → GoesOn version d0 content count old.register step new.register
stepped version d0 d1 r0 r1 content count old new step same room read holds taken nothing =
    let read1 : IsReadIn version d1 r1 content = subst (λ (d : Database). IsReadIn version d r1 content) (sym same) (subst (λ r. IsReadIn version d0 r content) (sym room) read) in
    subst (λ (d : Database). GoesOn version d content count old.register step new.register) same (goes_on version d1 r1 content read1 count old.register holds step new taken nothing)

-- so no row is another's
pub not_another : (version : Version) (db : Database) (content : Content) (count : ℕ) (held : List Kept) (step : Step) (new : List Kept) → GoesOn version db content count held step new → step ≡ steps.Another → ⊥
not_another version db content count held step new (inl none) is = (let e = none.0 in cc)
not_another version db content count held step new (inr taken) is = (let e = taken.0 in cc)

pub taken_on : (version : Version) (db : Database) (content : Content) (count : ℕ) (held : List Kept) (step : Step) (new : List Kept) → GoesOn version db content count held step new → step ≡ Taken → HoldsFront content.register (count + 1) new
taken_on version db content count held step new (inl none) is = absurd (let e = none.0 in cc)
taken_on version db content count held step new (inr taken) is = taken.1

pub nothing_more : (version : Version) (db : Database) (content : Content) (count : ℕ) (held : List Kept) (step : Step) (new : List Kept) → GoesOn version db content count held step new → step ≡ steps.Nothing → (held ≡ content.register) × HasNoOther (db.trees (register_tree version)) count
nothing_more version db content count held step new (inl none) is = (none.1, none.2)
nothing_more version db content count held step new (inr taken) is = absurd (let e = taken.0 in cc)

-- ---- what was found is one thing

pub entry_or_nothing : (found : Found) (kept : Kept) → found ≡ Entry kept → found ≡ Nothing → ⊥
entry_or_nothing found kept entry nothing = (let same : Entry kept ≡ Nothing = sym entry ∙ nothing in cc)

pub entry_or_another : (found : Found) (kept : Kept) → found ≡ Entry kept → found ≡ Another → ⊥
entry_or_another found kept entry another = (let same : Entry kept ≡ Another = sym entry ∙ another in cc)

pub another_or_nothing : (found : Found) → found ≡ Another → found ≡ Nothing → ⊥
another_or_nothing found another nothing = (let same : Another ≡ Nothing = sym another ∙ nothing in cc)

pub one_entry : (found : Found) (a b : Kept) → found ≡ Entry a → found ≡ Entry b → a ≡ b
one_entry found a b one other = (let same : Entry a ≡ Entry b = sym one ∙ other in cc)

-- ---- the first and the last

pub holds_first : (limit : ℕ) (all : List Kept) (content : Content) → HoldsKept limit [] content → HoldsFront all 0 content.register
holds_first limit all content held = record { rest = all; is = ap (λ (xs : List Kept). xs ++ all) held.register; size = ap length held.register }

-- a list that is no longer than what is held of it is held whole
pub holds_last : (all : List Kept) (count : ℕ) (held : List Kept) → HoldsFront all count held → length all ≤ count → held ≡ all
holds_last all count held holds few = rests holds.rest holds.is
  where
    rests : (rest : List Kept) → held ++ rest ≡ all → held ≡ all
    rests [] is = sym (ended held) ∙ is
    rests (kept ∷ more) is = absurd (let size = sym (length-append held (kept ∷ more)) ∙ ap length is in omega (arith, size, holds.size, few))
