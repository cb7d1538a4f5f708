-- The table `register` of each version of the file.
use Rattle.std.proofs.Common.{◌≡◌, inl, inr, List, [], ◌∷◌, refl, Option, None, Result, Ok, Err, IfOk}
use Rattle.sql_tables.specs.declared.fault.AuditFault.{AuditFault}
use Rattle.desk_file.specs.declared.audit.rest.Table.{Table}
use Rattle.std.specs.List.{AllByRecursion}
use Rattle.sqlite.specs.Order.{Row}
use Rattle.sqlite.specs.Tree.{Trees, IsTable}
use Rattle.sqlite.specs.Effect.{Database}
use Rattle.desk_rules.specs.Content.{Content}
use Rattle.desk_file.specs.Audited.{HasRest, SaysRest}
use Rattle.sql_tables.specs.Forms.{AreAllFormed, HasForm}
use Rattle.sql_tables.specs.Order.{AreInOrder}
use Rattle.sql_tables.specs.Schema.{desk_schema, first_register_table, register_table}
use Rattle.sql_tables.specs.Versions.{register_tree, schema_in, AreAllFormedIn}
use Rattle.sql_tables.specs.declared.versions.Version.{Version}
use Rattle.sql_tables.specs.declared.versions.Version.TheVariants.{First, Second, Third}

-- its rows stand in order
pub register_up : (version : Version) (trees : Trees) → AreInOrder (schema_in version) trees → IsTable (trees (register_tree version))
register_up First trees order = (order first_register_table (inl refl)).0
register_up Second trees order = (order register_table (inr (inr (inr (inl refl))))).0
register_up Third trees order = (order register_table (inr (inr (inr (inl refl))))).0

-- and have the same form in each version
pub register_formed : (version : Version) (trees : Trees) → AreAllFormedIn version trees → AllByRecursion (HasForm register_table) (trees (register_tree version))
register_formed First trees formed = each (trees 0) formed.0.each
  where
    each : (rows : List Row) → AllByRecursion (HasForm first_register_table) rows → AllByRecursion (HasForm register_table) rows
    each [] all = tt
    each (row ∷ rows) all = (record { number = all.0.number; values = all.0.values; is = all.0.is; each = all.0.each }, each rows all.1)
register_formed Second trees formed = formed.1.1.1.0.each
register_formed Third trees formed = formed.1.1.1.0.each

-- all versions but the first have all tables
pub rest_schema : (version : Version) → (version ≡ First → ⊥) → schema_in version ≡ desk_schema
rest_schema First not = absurd (not refl)
rest_schema Second not = refl
rest_schema Third not = refl

pub formed_rest : (version : Version) (trees : Trees) → (version ≡ First → ⊥) → AreAllFormedIn version trees → AreAllFormed trees
formed_rest First trees not formed = absurd (not refl)
formed_rest Second trees not formed = formed
formed_rest Third trees not formed = formed

pub with_rest : (version : Version) (db : Database) (content : Content) → (version ≡ First → ⊥) → SaysRest version db content → HasRest version db content
with_rest First db content not rest = absurd (not refl)
with_rest Second db content not rest = rest
with_rest Third db content not rest = rest

pub of_rest : (version : Version) (db : Database) (content : Content) → (version ≡ First → ⊥) → HasRest version db content → SaysRest version db content
of_rest First db content not rest = absurd (not refl)
of_rest Second db content not rest = rest
of_rest Third db content not rest = rest

pub no_rest : (version : Version) (db : Database) (content : Content) → version ≡ First → HasRest version db content
no_rest First db content is = tt
no_rest Second db content is = absurd cc
no_rest Third db content is = absurd cc

-- where no table says otherwise, each does that the version has
pub other_with : (version : Version) (db : Database) (content : Content) → (version ≡ First → ⊥) → (r : Result (Option Table) AuditFault) → IfOk r (λ other. other ≡ None → SaysRest version db content)
    → IfOk r (λ other. other ≡ None → HasRest version db content)
other_with version db content not (Ok other) says = λ none. with_rest version db content not (says none)
other_with version db content not (Err fault) says = tt
