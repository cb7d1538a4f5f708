-- What the audits of tables presume, of an accepted history; and what they show together.
use Rattle.std.proofs.Common.{◌≡◌, ◌⊎◌, inl, inr, ℕ, zero, suc, ◌<◌, ◌≤◌, List, [], ◌∷◌, length, map, Option, None, Some, Ok, Err, Result, IfOk, refl, sym, ap, subst, ◌∙◌, arith}
use Rattle.std.proofs.lemmas.List.{length-map}
use Rattle.std.proofs.lemmas.Option.{slice_get_past}
use Rattle.sqlite.specs.Effect.{Database}
use Rattle.desk_rules.specs.declared.history.entry.Entry.{Entry}
use Rattle.desk_rules.specs.declared.history.entry.Instructed.{Instructed}
use Rattle.desk_rules.specs.declared.answers.reply.Kept.{Kept}
use Rattle.desk_rules.specs.declared.limits.TheConstants.{MOST_ENTRIES}
use Rattle.desk_rules.specs.Content.{Content, history_of}
use Rattle.desk_rules.specs.History.{instructed, instruction_at}
use Rattle.desk_rules.specs.WellFormed.{AreWellFormed}
use Rattle.desk_rules.proofs.OneContent.{one_content}
use Rattle.desk_engine.specs.KeptHistory.{HoldsKept}
use Rattle.sql_register.proofs.ContentLemmas.{by_parts}
use Rattle.sql_register.specs.Content.{content_in}
use Rattle.sql_register.specs.Holds.{Keeps}
use Rattle.sql_rows.specs.declared.amounts.key.AmountKey.{AmountKey}
use Rattle.sql_rows.specs.declared.amounts.key.AmountKey.TheVariants as keys
use Rattle.sql_rows.specs.Amounts.{amount_at}
use Rattle.sql_tables.specs.Versions.{schema_in, SaysVersion}
use Rattle.sql_tables.specs.declared.versions.Version.{Version}
use Rattle.sql_tables.specs.declared.versions.Version.TheVariants.{Third}
use Rattle.sql_rows.specs.Said.{HasNoStranger, IsSaid}
use Rattle.sql_rows.proofs.TrueLemmas.{true_rows}
use Rattle.sql_tables.specs.declared.fault.AuditFault.{AuditFault}
use Rattle.desk_file.specs.declared.audit.register.Reading.{Reading}
use Rattle.desk_file.specs.declared.audit.register.Reading.TheVariants.{Stops}
use Rattle.desk_file.specs.declared.audit.register.Reading.TheVariants as readings
use Rattle.desk_file.specs.declared.audit.rest.Table.{Table}
use Rattle.desk_file.specs.declared.audit.auditing.Audited.{Audited}
use Rattle.desk_file.specs.declared.audit.auditing.Audited.TheVariants.{Whole}
use Rattle.desk_file.specs.Reading.{AreSaid, IsReadIn}
use Rattle.sql_rows.specs.StandingsTold.{StandsWithin}
use Rattle.desk_file.specs.Audited.{HasRest, HoldsVersion, IsAudited, IsFilled}
use Rattle.desk_file.specs.Parts.{HasParts}
use Rattle.desk_file.proofs.ContentFacts.{stands_nowhere, stranger_has_none, stranger_holds_none}
use Rattle.desk_file.proofs.PartLemmas.{becomes, every}

abbrev instructed_of : Option Entry → Option Instructed
instructed_of None = None
instructed_of (Some e) = instructed e

no_instruction : (content : Content) (m : ℕ) → (m ≡ 0) ⊎ (length content.register < m) → instruction_at (history_of content) m ≡ None
no_instruction content zero out = refl
no_instruction content (suc m) (inl none) = absurd (omega (arith, none))
no_instruction content (suc m) (inr above) =
    let size : length (history_of content) ≡ length content.register = length-map content.register (λ (k : Kept). k.entry) in
    ap instructed_of (slice_get_past (history_of content) m (omega (arith, size, above)))

pub stands_within : (limit : ℕ) (content : Content) → HoldsKept limit content.register content → StandsWithin content
stands_within limit content held n out = stands_nowhere limit held.books content held.keeps n (no_instruction content n out)

pub no_stranger : (limit : ℕ) (content : Content) → HoldsKept limit content.register content → HasNoStranger content
no_stranger limit content held = record {
  holds = stranger_holds_none limit held.books content held.keeps;
  pays = stranger_has_none limit held.books content held.keeps;
}

parts : (db : Database) (limit : ℕ) (content : Content) → HoldsVersion Third db limit content → HasParts db content
parts db limit content it =
    let read = it.filled.read in
    let rest = it.filled.rest in
    record {
      schema = it.schema;
      version = it.says;
      entries = read.entries;
      standings = rest.standings.kept;
      standing = rest.standings.each;
      sent = rest.sent;
      amounts = rest.amounts.amounts;
      positions = λ account isin. rest.amounts.said (keys.Balance account isin);
      cash = λ bic ccy. rest.amounts.said (keys.Cash bic ccy);
      outstanding = λ isin. rest.amounts.said (keys.Security isin);
      paid = λ ccy. rest.amounts.said (keys.Currency ccy);
    }

-- what is of version 3 is the desk's
pub audited : (db : Database) (limit : ℕ) (content : Content) → limit ≤ MOST_ENTRIES → HoldsVersion Third db limit content → IsAudited db limit content
audited db limit content few it =
    let read = it.filled.read in
    record {
      becomes = becomes db limit read.held.books content (parts db limit content it) few read.held.keeps (subst AreWellFormed read.held.keeps.tables.history read.formed);
      held = read.held;
      formed = read.formed;
    }

pub audited_whole : (db : Database) (limit : ℕ) (content : Content) (r : Result Audited AuditFault) → limit ≤ MOST_ENTRIES → IfOk r (λ found. found ≡ Whole → HoldsVersion Third db limit content) → IfOk r (λ found. found ≡ Whole → IsAudited db limit content)
audited_whole db limit content (Ok found) few holds = λ whole. audited db limit content few (holds whole)
audited_whole db limit content (Err fault) few holds = tt

-- what was read of the register, and what the tables beside it say of what it holds then
pub filled : (version : Version) (d0 d1 : Database) (limit : ℕ) (c1 c2 : Content) → d1 ≡ d0 → c2 ≡ c1 → IsReadIn version d0 limit c1 → HasRest version d1 c1 → IsFilled version d0 limit c2
filled version d0 d1 limit c1 c2 same then read rest = subst (IsFilled version d0 limit) (sym then) (record { read = read; rest = subst (λ (d : Database). HasRest version d c1) same rest })

-- and that the schema and the version are so
pub audit_whole : (version : Version) (d0 d1 : Database) (limit : ℕ) (content : Content) (r : Result Audited AuditFault) → d1 ≡ d0 → d0.schema ≡ schema_in version → SaysVersion version d0 → IfOk r (λ found. found ≡ Whole → IsFilled version d1 limit content)
    → IfOk r (λ found. found ≡ Whole → HoldsVersion version d0 limit content)
audit_whole version d0 d1 limit content (Ok found) same schema says fills = λ whole.
    record { schema = schema; says = says; filled = subst (λ (d : Database). IsFilled version d limit content) same (fills whole) }
audit_whole version d0 d1 limit content (Err fault) same schema says fills = tt

-- ---- the other way

-- a list that is held has one content
pub same_content : (limit room : ℕ) (a b : Content) → HoldsKept limit a.register a → HoldsKept room b.register b → a.register ≡ b.register → a ≡ b
same_content limit room a b p q register =
    let same = one_content p.books q.books a b p.keeps.tables q.keeps.tables (ap (map (λ (kept : Kept). kept.entry)) register) in
    by_parts a.register b.register a.standing b.standing a.position b.position a.cash b.cash a.sent b.sent register (every a.standing b.standing same.same_standing) same.same_position same.same_cash same.same_sent

all_said : (register : List Kept) → AreSaid Third register
all_said [] = tt
all_said (kept ∷ more) = (tt, all_said more)

-- what is audited is read and compared with success
pub is_third : (db : Database) (limit : ℕ) (content : Content) → IsAudited db limit content → HoldsVersion Third db limit content
is_third db limit content audited =
    let is : content_in db ≡ content = audited.becomes.content_is in
    let keeps : Keeps db content = subst (Keeps db) is audited.becomes.desk in
    let recorded = said is keeps in
    record {
      schema = keeps.schema;
      says = keeps.version;
      filled = record {
        read = record { entries = keeps.entries; said = all_said content.register; held = audited.held; formed = audited.formed };
        rest = record {
          standings = record { kept = keeps.standings; each = λ n. ap (λ (c : Content). c.standing n) is };
          sent = keeps.sent;
          amounts = record { amounts = keeps.amounts; each = true_rows db content keeps.amounts recorded; said = recorded };
        };
      };
    }
  where
    said : content_in db ≡ content → Keeps db content → (key : AmountKey) → IsSaid content key (amount_at db key)
    said is keeps (keys.Balance account isin) = ap (λ (c : Content). c.position account isin) is
    said is keeps (keys.Cash bic ccy) = ap (λ (c : Content). c.cash bic ccy) is
    said is keeps (keys.Security isin) = keeps.totals.outstanding isin
    said is keeps (keys.Currency ccy) = keeps.totals.paid ccy

pub filled_again : (version : Version) (d0 d1 : Database) (limit : ℕ) (content : Content) → d1 ≡ d0 → HoldsVersion version d0 limit content → IsFilled version d1 limit content
filled_again version d0 d1 limit content same it = subst (λ (d : Database). IsFilled version d limit content) (sym same) it.filled

-- the tables say the rest of what a register holds that took in the same list
pub rest_again : (version : Version) (d0 d1 : Database) (limit room : ℕ) (held content : Content) → d1 ≡ d0 → HoldsKept room held.register held → held.register ≡ content.register → IsFilled version d0 limit content → HasRest version d1 held
rest_again version d0 d1 limit room held content same holds register filled =
    let is : held ≡ content = same_content room limit held content holds filled.read.held register in
    subst (HasRest version d1) (sym is) (subst (λ (d : Database). HasRest version d content) (sym same) filled.rest)

-- what is told is one thing
pub whole_or_stops : (reading : Reading) (n : ℕ) → reading ≡ readings.Whole → reading ≡ Stops n → ⊥
whole_or_stops reading n whole stops = (let same : readings.Whole ≡ Stops n = sym whole ∙ stops in cc)

pub none_or_some : (other : Option Table) (table : Table) → other ≡ None → other ≡ Some table → ⊥
none_or_some other table none some = (let same : None ≡ Some table = sym none ∙ some in cc)
