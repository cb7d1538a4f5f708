-- The columns that a struct of the program fills.
use Rattle.sql_entries.specs.declared.columns.Filled.{Filled}
use Rattle.sql_entries.specs.Columns.{Columns}

abbrev pub columns_in : Filled → Columns
columns_in filled = record {
  bic = filled.bic.now;
  account = filled.account.now;
  isin = filled.isin.now;
  unit = filled.unit.now;
  quantity = filled.quantity;
  currency = filled.currency.now;
  amount = filled.amount;
  day = filled.day.now;
  rule = filled.rule;
  mt = filled.mt;
  settlement = filled.settlement.now;
  place = filled.place.now;
  previous = filled.previous.now;
}
