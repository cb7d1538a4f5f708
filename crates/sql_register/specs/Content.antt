-- What the desk's tables say, as the content of a register.
use Rattle.std.specs.Prelude.{map, unwrap_or}
use Rattle.sqlite.specs.Effect.{Database}
use Rattle.desk_codes.specs.Currency.{letters_of}
use Rattle.desk_rules.specs.Content.{Content}
use Rattle.sql_rows.specs.declared.amounts.key.Ledger.TheVariants.{Balance, Cash}
use Rattle.sql_rows.specs.Amounts.{amount_in}
use Rattle.sql_rows.specs.Standings.{standing_in}
use Rattle.sql_register.specs.RowsSaid.{kept_in, sent_in}

abbrev pub content_in : Database → Content
content_in db = record {
  register = map kept_in (db.trees 6);
  standing = standing_in db;
  position = λ account isin. unwrap_or (amount_in db Balance account isin) 0;
  cash = λ bic ccy. unwrap_or (amount_in db Cash bic (letters_of ccy)) 0;
  sent = map sent_in (db.trees 9);
}
