-- Why a statement that makes a table fails: for want, or since the device did. It is refused for nothing else where what it names
-- is free and of the right form.
use Rattle.std.proofs.Common.{◌≡◌, ◌==◌, ◌⊎◌, inl, inr, ℕ, ◌+◌, ◌^◌, ◌≤◌, List, [], ◌∷◌, length, codes, Bool, true, false, not, IsTrue, Ok, Err, Result, Some, None, IfErr, nat_le, nat_lt, refl, sym, ap, subst, ◌∙◌, arith}
use Rattle.std.specs.Result.{IsErrAnd}
use Rattle.std.specs.Str.{IsAscii}
use Rattle.std.proofs.lemmas.Bool.{and_parts, ltb-true}
use Rattle.std.proofs.lemmas.Str.{IsUtf8-from_ascii}
use Rattle.std.proofs.lemmas.Str.Ascii.{IsAscii-cons, IsAscii-nil}
use Rattle.sqlite_rules.proofs.ListLemmas.{test_has}
use Rattle.sqlite.specs.declared.types.Value.TheVariants.{Text}
use Rattle.sqlite.specs.Table.{Table}
use Rattle.sqlite.specs.Schema.{Schema}
use Rattle.sqlite.specs.declared.error.Error.{Error}
use Rattle.sqlite.specs.Command.TheVariants.{CreateTable}
use Rattle.sqlite.specs.Effect.{Database}
use Rattle.sqlite.specs.Does.{Does, MakesTable, MakesSequence, lacks_sequence}
use Rattle.sqlite.specs.Rows.{Then}
use Rattle.sqlite.specs.Change.{created, next_tree}
use Rattle.sqlite.specs.Listing.{understood}
use Rattle.sqlite.specs.Compile.{table_defined_by}
use Rattle.sqlite.specs.State.{State, Executes, IsMisplaced, mode_of}
use Rattle.sqlite_catalog.specs.Calls.{RefusesTable, IsBadName, CreatesTable}
use Rattle.sqlite_catalog.specs.Change.{automatics, is_reserved, is_used}
use Rattle.sqlite_catalog.specs.Listing.{is_fit, is_formed}
use Rattle.sqlite_catalog.specs.declared.error.Refusal.{Refusal}
use Rattle.sqlite_catalog.specs.declared.error.Refusal.TheVariants.{Invalid, NameTaken, BadName, BadKey, BadText, TooBig, Violates}
use Rattle.sqlite_rules.specs.Lists.{Has}
use Rattle.sqlite_schema.specs.declared.schema.Index.{Index}
use Rattle.sqlite_schema.specs.Rules.{index_reals, table_reals}
use Rattle.sql_tables.specs.Ends.{ForCause, IsLater}
use Rattle.sql_tables.proofs.EndLemmas.{cause_onward}
use Rattle.sql_tables.proofs.ResultLemmas.{on_error}
use Rattle.sql_tables.specs.Making.{is_ascii, IsFree, Makes}
use Rattle.sql_tables.proofs.BlameLemmas.{IsWholeIn, refused_as, same_stop, tail_in, width_in}
use Rattle.sql_tables.proofs.StatementLemmas.{same_command, same_value}
use Rattle.sql_tables.proofs.MakingLemmas.{same_text}

ascii : (text : List ℕ) → is_ascii text ≡ true → IsAscii text
ascii [] all = IsAscii-nil
ascii (c ∷ cs) all =
    let parts = and_parts (nat_lt c 128) _ all in
    IsAscii-cons c cs (ltb-true c 128 parts.0) (ascii cs parts.1)

no_unused : (b : Bool) → not b ≡ true → b ≡ true → ⊥
no_unused true is used = absurd (let e = is in cc)
no_unused false is used = absurd (let e = used in cc)

above : (a b : ℕ) → nat_lt a b ≡ true → b ≤ a → ⊥
above a b less more = omega (arith, ltb-true a b less, more)

module _ (text : List ℕ) (before after : Schema) (makes : Makes text before after) where
  abbrev free : IsFree text before
  free = makes.free

  whole_in : IsWholeIn before text 0
  whole_in = record {
    plain = makes.plain;
    whole = ap (λ r. nat_le (length text) (tail_in r)) makes.understood_as ∙ makes.ends;
    width_is = ap width_in makes.understood_as ∙ ap length makes.unnamed;
  }

  same : (table : Table) → table_defined_by text ≡ Ok table → table ≡ free.table
  same table is = same_value (sym is ∙ free.defined)

  fits_name : (name : List ℕ) (is_own : Bool) → is_ascii name ≡ true → is_reserved name ≡ false → IsBadName name is_own → ⊥
  fits_name name is_own plain unreserved (inl wrong) = wrong (IsUtf8-from_ascii name (ascii name plain))
  fits_name name is_own plain unreserved (inr reserved) = absurd (let e = sym unreserved ∙ reserved.0 in cc)

  -- it is refused for no reason
  never : (why : Refusal) → RefusesTable before text why → ⊥
  never (Invalid e) h = absurd (let e = sym free.defined ∙ h in cc)
  never NameTaken h = elim (subst (λ t. (is_used before t.name ≡ true) ⊎ ((index : Index) × Has (automatics t 0 0 t.uniques) index × (is_used before index.name ≡ true))) (same h.0 h.1) h.2) [
    | inl taken ↦ absurd (let e = sym free.unused ∙ taken in cc)
    | inr (index, has, taken) ↦ no_unused _ (test_has (λ i. not (is_used before i.name)) (automatics free.table 0 0 free.table.uniques) index free.unlisted has) taken
  ]
  never BadName h = fits_name free.table.name _ free.plain_name free.unreserved (subst (λ t. IsBadName t.name (length t.uniques == 0)) (same h.0 h.1) h.2)
  never TooBig h = elim (subst (λ t. (65536 ≤ next_tree before + length t.uniques) ⊎ ((2 ^ 64 ≤ table_reals t) ⊎ ((key : List ℕ) × Has t.uniques key × (2 ^ 64 ≤ index_reals (table_reals t) key)))) (same h.0 h.1) h.2) [
    | inl many ↦ above _ _ free.room many
    | inr (inl wide) ↦ above _ _ free.reals wide
    | inr (inr (key, has, wide)) ↦ above _ _ (test_has (λ k. nat_lt (index_reals (table_reals free.table) k) (2 ^ 64)) free.table.uniques key free.index_reals has) wide
  ]
  never BadKey h = absurd (let e = sym free.formed ∙ subst (λ t. is_formed t ≡ false) (same h.0 h.1) h.2 in cc)
  never BadText h = absurd (let e = sym free.fits ∙ subst (λ t. is_fit (Text (codes "table")) (Text t.name) (Text t.name) (Text text) ≡ false) (same h.0 h.1) h.2 in cc)
  never (Violates rule) h = h

  -- no part of it stops by itself
  module _ (db : Database) (has : db.schema ≡ before) where
    unmade : (e : Error) → MakesTable text db (Err (Some e)) → ⊥
    unmade e (inl wrong) = wrong.0 (IsUtf8-from_ascii text (ascii text free.plain))
    unmade e (inr refused) = never refused.0 (subst (λ s. RefusesTable s text refused.0) has refused.1)

    unsequenced : (mid : Database) → CreatesTable db.schema text db.trees mid.schema mid.trees → lacks_sequence mid.schema ≡ false
    unsequenced mid made =
        let is : mid.schema ≡ after = made.is ∙ ap (λ s. created s made.table) has ∙ ap (created before) (same_value (sym made.defined ∙ makes.made.defined)) ∙ sym makes.made.is in
        ap lacks_sequence is ∙ makes.unsequenced

    undefined : (e : Error) → Then (MakesTable text db) MakesSequence (Err (Some e)) → ⊥
    undefined e (inl (stop, makes', is)) = unmade e (subst (λ x. MakesTable text db (Err x)) (sym (same_stop is)) makes')
    undefined e (inr (mid, made, counts)) = absurd (let x = rw (unsequenced mid made) at counts in cc)

-- where nothing refuses it a table is not made for its cause alone
pub make_caused : (old new : State) (text : List ℕ) (before after : Schema) → Makes text before after → old.now.schema ≡ before → IsTrue old.is_open → (r : Result ℕ Error) → Executes text [] old new r → IfErr r (ForCause old new)
make_caused old new text before after makes has open' (Ok count) h = tt
make_caused old new text before after makes has open' (Err e) h = λ unlimited.
    elim (refused_as before old new has open' text [] (whole_in text before after makes) e CreateTable refl (sym (same_command (understood before text)) ∙ makes.made.makes) h) [
      | inl caused ↦ caused
      | inr (inl misplaced) ↦ absurd (placed misplaced)
      | inr (inr (is_write, does)) ↦ absurd (does_not (subst (λ t. Does old.step_limit (mode_of old) [] old.now t None CreateTable (Err (Some e))) (same_text text before after makes) does))
    ]
  where
    placed : IsMisplaced old CreateTable e → ⊥
    placed (inl (error, inl begins)) = absurd (let x = begins.0 in cc)
    placed (inl (error, inr (inl commits, out))) = absurd (let x = commits in cc)
    placed (inl (error, inr (inr rolls, out))) = absurd (let x = rolls in cc)
    placed (inr (error, name, inl releases, unnamed)) = absurd (let x = releases in cc)
    placed (inr (error, name, inr back, unnamed)) = absurd (let x = back in cc)

    does_not : Does old.step_limit (mode_of old) [] old.now text None CreateTable (Err (Some e)) → ⊥
    does_not (inl (stop, defines, is)) = undefined text before after makes old.now has e (subst (λ x. Then (MakesTable text old.now) MakesSequence (Err x)) (sym (same_stop is)) defines)
    does_not (inr (mid, made, gives)) = absurd (let x = gives in cc)

-- a call that fails for its cause, behind another
pub caused_on : {X : Type 0} (r : Result X Error) (e : Error) (a b c : State) → IsErrAnd r (λ handed. handed ≡ e) → IsLater a b → IsLater b c → ForCause b c e → IfErr r (ForCause a c)
caused_on r e a b c is p q caused = on_error r e (ForCause a c) is (cause_onward a b c e p q caused)
