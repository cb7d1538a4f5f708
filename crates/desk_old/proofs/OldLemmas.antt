-- What a database of an earlier version is audited as, and what is told of one that is none.
use Rattle.std.proofs.Common.{◌≡◌, ◌≢◌, ◌↔◌, ◌∙◌, ℕ, ℤ, List, length, Option, None, Some, IfSome, IsSomeAnd, refl, sym, ap, subst, arith}
use Rattle.sqlite.specs.Effect.{Database}
use Rattle.sqlite.specs.Schema.{Schema}
use Rattle.sqlite.specs.State.{State}
use Rattle.desk_rules.specs.declared.limits.TheConstants.{MOST_ENTRIES}
use Rattle.desk_rules.specs.Content.{Content}
use Rattle.sql_tables.specs.Schema.{desk_schema, first_schema}
use Rattle.sql_tables.specs.declared.versions.Version.{Version}
use Rattle.sql_tables.specs.declared.versions.Version.TheVariants.{First, Second, Third}
use Rattle.desk_file.specs.Audited.{HoldsVersion}
use Rattle.desk_file.specs.OtherVersion.{TellsVersion}
use Rattle.desk_old.specs.Old.{HoldsOld, IsNeither, SaysNeither}

-- version 1 has fewer tables
fewer : desk_schema ≡ first_schema → ⊥
fewer same = (let count : 7 ≡ 2 = ap (λ (s : Schema). length s.tables) same in omega (arith, count))

module _ (db : Database) (content : Content) where
  -- what holds a history of an earlier version holds it as the version that is chosen by its tables
  pub chosen : (version : Version) → version ≢ Third → ((version ≡ First) ↔ (db.schema ≡ first_schema)) → HoldsOld db content → HoldsVersion version db MOST_ENTRIES content
  chosen version earlier first old = go version old.version earlier first old.earlier old.holds
    where
      go : (version held : Version) → version ≢ Third → ((version ≡ First) ↔ (db.schema ≡ first_schema)) → held ≢ Third → HoldsVersion held db MOST_ENTRIES content → HoldsVersion version db MOST_ENTRIES content
      go First First earlier first held holds = holds
      go First Second earlier first held holds = absurd (fewer (sym holds.schema ∙ first.0 refl))
      go First Third earlier first held holds = absurd (held refl)
      go Second First earlier first held holds = absurd (let e = first.1 holds.schema in cc)
      go Second Second earlier first held holds = holds
      go Second Third earlier first held holds = absurd (held refl)
      go Third v earlier first held holds = absurd (earlier refl)

pub says_neither : {S : Type 0} (state : S → State) (db : Database) (said : Option ℤ) → IfSome said (TellsVersion state db) → IsSomeAnd said IsNeither → SaysNeither state db
says_neither state db None told neither = absurd neither
says_neither state db (Some number) told neither = record { number = number; told = told; neither = neither }
