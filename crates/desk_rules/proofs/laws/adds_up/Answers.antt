use Rattle.desk_rules.proofs.Conservation.{securities_add_up, cash_adds_up}
use Rattle.desk_rules.proofs.laws.adds_up.Goals as goal

pub returns : goal.returns
returns c = record {
  securities = λ limit history pairs settled isin was pairing settlement. securities_add_up limit history was pairs settled pairing settlement isin;
  cash = λ limit history pairs settled ccy was pairing settlement. cash_adds_up limit history was pairs settled pairing settlement ccy;
}
