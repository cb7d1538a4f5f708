-- From the parts to the whole.
use Rattle.std.proofs.Common.{◌≡◌, ◌≤◌, ℕ, map, arith, unwrap_or, sym, ap, subst, ◌∙◌}
use Rattle.sqlite.specs.Effect.{Database}
use Rattle.desk_rules.specs.declared.history.standing.Standing.{Standing}
use Rattle.desk_rules.specs.declared.limits.TheConstants.{MOST_ENTRIES}
use Rattle.desk_rules.specs.Books.{Books}
use Rattle.desk_rules.specs.Content.{Content}
use Rattle.desk_rules.specs.WellFormed.{AreWellFormed}
use Rattle.desk_engine.specs.Applied.{Keeps as KeepsBooks}
use Rattle.sql_rows.specs.Standings.{standing_in}
use Rattle.sql_register.specs.Content.{content_in}
use Rattle.sql_register.specs.Holds.{AreTotals, Becomes, Keeps, outstanding_in, paid_in_table}
use Rattle.sql_register.specs.RowsSaid.{kept_in}
use Rattle.sql_register.proofs.ContentLemmas.{by_parts}
use Rattle.sql_register.proofs.SaidLemmas.{register_again}
use Rattle.sql_register.proofs.SentContent.{sent_is}
use Rattle.desk_file.specs.Parts.{HasParts}
use Rattle.desk_file.proofs.ContentFacts.{had_is, held_is, nothing_unnamed, paid_together, registered, stands_nowhere, stranger_has_none, stranger_holds_none}
use Rattle.desk_file.proofs.WritableFacts.{all_formed, sendable, short, stands, within}

pub every : (f g : ℕ → Standing) → ((n : ℕ) → f n ≡ g n) → f ≡ g
every f g same = λ k n. same n k

module _ (db : Database) (limit : ℕ) (books : Books) (content : Content) (parts : HasParts db content) (few : limit ≤ MOST_ENTRIES) (keeps : KeepsBooks limit books content) (formed : AreWellFormed books.history) where
  content_is : content_in db ≡ content
  content_is = by_parts _ _ _ _ _ _ _ _ _ _ (ap (map kept_in) parts.entries.rows ∙ register_again 0 content.register) (every (standing_in db) content.standing parts.standing) parts.positions parts.cash (sent_is db content.sent parts.sent)

  totals : AreTotals db content
  totals = record {
    outstanding = parts.outstanding;
    paid = parts.paid;
    paid_sum = λ ccy. paid_together limit books content keeps ccy (paid_in_table db ccy) (parts.paid ccy);
    held = λ isin. held_is limit books content keeps isin (outstanding_in db isin) (parts.outstanding isin);
    held_cash = λ ccy. had_is limit books content keeps ccy (unwrap_or (paid_in_table db ccy) 0) (paid_together limit books content keeps ccy (paid_in_table db ccy) (parts.paid ccy));
    no_stranger = stranger_holds_none limit books content keeps;
    no_stranger_pays = stranger_has_none limit books content keeps;
  }

  whole : Keeps db content
  whole = record {
    schema = parts.schema;
    version = parts.version;
    amounts = parts.amounts;
    entries = parts.entries;
    standings = parts.standings;
    instructions = stands_nowhere limit books content keeps;
    sent = parts.sent;
    totals = totals;
    registered = registered limit books content keeps;
    stands = stands limit books content keeps formed;
    within = (let all = within limit books content keeps formed MOST_ENTRIES few in omega (arith, all));
    formed = all_formed limit books content keeps formed;
    short = short limit books content keeps formed;
    sendable = sendable limit books content keeps formed;
    named = nothing_unnamed limit books content keeps formed;
  }

  pub becomes : Becomes db content
  becomes = record { desk = subst (Keeps db) (sym content_is) whole; content_is = content_is }
