-- What a change of one table leaves as it was, table by table.
use Rattle.std.proofs.Common.{◌≡◌, ◌≢◌, ◌⊎◌, sym, subst, ℕ, ◌<◌, ◌≤◌, Some, arith}
use Rattle.sqlite_rules.specs.Edit.{IsNoIndex}
use Rattle.sqlite.specs.Effect.{Database}
use Rattle.sql_tables.specs.Ends.{SparesOthers}
use Rattle.sql_tables.specs.Schema.{desk_schema}
use Rattle.sql_tables.specs.Version.{HasVersion, SayVersion}
use Rattle.sql_tables.specs.declared.version.TheConstants.{VERSION}

no_index : (tree : ℕ) → tree ≢ 1 → tree ≢ 3 → tree ≢ 5 → tree ≢ 7 → IsNoIndex desk_schema tree
no_index tree n1 n3 n5 n7 = (λ e. n1 (sym e), (λ e. n3 (sym e), (λ e. n5 (sym e), (λ e. n7 (sym e), tt))))

module _ (old new : Database) (first end : ℕ) (spares : SparesOthers first end old new) where
  pub balance_spared : (0 < first) ⊎ (end ≤ 0) → new.trees 0 ≡ old.trees 0
  balance_spared out = spares 0 out (no_index 0 (λ e. omega (arith, e)) (λ e. omega (arith, e)) (λ e. omega (arith, e)) (λ e. omega (arith, e)))

  pub cash_spared : (2 < first) ⊎ (end ≤ 2) → new.trees 2 ≡ old.trees 2
  cash_spared out = spares 2 out (no_index 2 (λ e. omega (arith, e)) (λ e. omega (arith, e)) (λ e. omega (arith, e)) (λ e. omega (arith, e)))

  pub total_spared : (4 < first) ⊎ (end ≤ 4) → new.trees 4 ≡ old.trees 4
  total_spared out = spares 4 out (no_index 4 (λ e. omega (arith, e)) (λ e. omega (arith, e)) (λ e. omega (arith, e)) (λ e. omega (arith, e)))

  pub register_spared : (6 < first) ⊎ (end ≤ 6) → new.trees 6 ≡ old.trees 6
  register_spared out = spares 6 out (no_index 6 (λ e. omega (arith, e)) (λ e. omega (arith, e)) (λ e. omega (arith, e)) (λ e. omega (arith, e)))

  pub state_spared : (8 < first) ⊎ (end ≤ 8) → new.trees 8 ≡ old.trees 8
  state_spared out = spares 8 out (no_index 8 (λ e. omega (arith, e)) (λ e. omega (arith, e)) (λ e. omega (arith, e)) (λ e. omega (arith, e)))

  pub sent_spared : (9 < first) ⊎ (end ≤ 9) → new.trees 9 ≡ old.trees 9
  sent_spared out = spares 9 out (no_index 9 (λ e. omega (arith, e)) (λ e. omega (arith, e)) (λ e. omega (arith, e)) (λ e. omega (arith, e)))

  pub version_spared : (10 < first) ⊎ (end ≤ 10) → new.trees 10 ≡ old.trees 10
  version_spared out = spares 10 out (no_index 10 (λ e. omega (arith, e)) (λ e. omega (arith, e)) (λ e. omega (arith, e)) (λ e. omega (arith, e)))

-- where the table of the version is as it was, so is the version
pub same_version : (old new : Database) → new.trees 10 ≡ old.trees 10 → HasVersion old (Some VERSION) → HasVersion new (Some VERSION)
same_version old new same = subst (λ rows. SayVersion rows (Some VERSION)) (sym same)
