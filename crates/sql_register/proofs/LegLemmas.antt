-- One balance is changed, and then both legs of a pair.
use Rattle.std.proofs.Common.{◌≡◌, ◌≢◌, inr, refl, sym, ap, subst, ◌∙◌, ℕ, ◌+◌, ◌-◌, ◌<◌, ◌≤◌, ◌^◌, List, Bool, true, false, Option, Some, None, Result, Ok, Err, OnOk, arith}
use Rattle.std.specs.Prelude.{bytes_eq, ◌&&◌, unwrap_or}
use Rattle.sqlite.specs.Effect.{Database}
use Rattle.sqlite.specs.declared.error.Error.{Error}
use Rattle.desk_codes.specs.Currency.{letters_of}
use Rattle.desk_codes.specs.declared.currency.Ccy.{Ccy}
use Rattle.desk_msg.specs.declared.instruction.Cash.{Cash as Amount}
use Rattle.desk_register.specs.Changes.{FitsCash, HasCash, LacksCash, SidesFit, cash_at, delivered, delivering_side, moved_to, paid_over, receiving_side}
use Rattle.desk_register.specs.declared.outcome.Outcome.{Outcome}
use Rattle.desk_register.specs.declared.outcome.Outcome.TheVariants.{Lacks, Settled}
use Rattle.desk_register.proofs.CaseLemmas.{by_bool, same_bytes}
use Rattle.desk_rules.specs.Balances.{same_ccy}
use Rattle.desk_rules.specs.Content.{CashBalances, Positions}
use Rattle.desk_rules.specs.declared.history.entry.Instructed.{Instructed}
use Rattle.desk_rules.specs.declared.history.pair.Lack.TheVariants.{Money, Securities}
use Rattle.sql_rows.specs.Amounts.{AreAmounts, amount_at}
use Rattle.sql_rows.specs.Changes.{SetsAmount, Takes}
use Rattle.sql_rows.specs.declared.amounts.key.AmountKey.TheVariants as keys
use Rattle.sql_rows.specs.declared.amounts.key.Ledger.TheVariants.{Balance, Cash, Total}
use Rattle.sql_rows.proofs.AmountLemmas.{same_amounts, same_recorded, set_amounts, short_less, unchanged_amounts}
use Rattle.sql_tables.specs.Ends.{SparesOthers}
use Rattle.sql_register.specs.Content.{content_in}
use Rattle.sql_register.specs.Settling.{AmountsSo, Fares, MovesBoth, MovesLegs, TakesCash, TakesHeld, cash_then, less_cash, less_held, more_cash, more_held, positions_then}

module _ (a b : Database) where
  set_position : (account isin : List ℕ) (amount : ℕ) → SetsAmount a b (keys.Balance account isin) amount → AmountsSo a b (moved_to (content_in a).position account isin amount) (content_in a).cash
  set_position account isin amount set = record {
    kept = set.kept;
    position_is = λ k x i. set_amounts a b (keys.Balance account isin) amount set Balance x i k;
    cash_is = λ k bic ccy. set_amounts a b (keys.Balance account isin) amount set Cash bic (letters_of ccy) k;
    totals = λ subject code. set.recorded Total subject code;
    others = set.spares;
  }

  set_cash : (bic : List ℕ) (ccy : Ccy) (amount : ℕ) → SetsAmount a b (keys.Cash bic ccy) amount → AmountsSo a b (content_in a).position (cash_at (content_in a).cash bic ccy amount)
  set_cash bic ccy amount set = record {
    kept = set.kept;
    position_is = λ k x i. set_amounts a b (keys.Cash bic ccy) amount set Balance x i k;
    cash_is = λ k x c. set_amounts a b (keys.Cash bic ccy) amount set Cash x (letters_of c) k;
    totals = λ subject code. set.recorded Total subject code;
    others = set.spares;
  }

  -- nothing has changed
  kept_so : AreAmounts a → SparesOthers 0 0 a b → AmountsSo a b (content_in a).position (content_in a).cash
  kept_so amounts spares =
      let same = unchanged_amounts a b spares in
      record {
        kept = same_amounts a b same amounts;
        position_is = λ k x i. (ap (λ o. unwrap_or o 0) (same_recorded a b same Balance x i)) k;
        cash_is = λ k x c. (ap (λ o. unwrap_or o 0) (same_recorded a b same Cash x (letters_of c))) k;
        totals = λ subject code. same_recorded a b same Total subject code;
        others = λ tree out none. spares tree (inr (omega arith)) none;
      }

  pub takes_held : (account isin : List ℕ) (q : ℕ) → 0 < q → AreAmounts a → (r : Bool) → Takes a b (keys.Balance account isin) q r → TakesHeld a b account isin q r
  takes_held account isin q some amounts true h = (h.0, set_position account isin _ h.1)
  takes_held account isin q some amounts false h = (short_less (amount_at a (keys.Balance account isin)) q some h.0, kept_so amounts h.1)

  pub puts_held : (account isin : List ℕ) (q : ℕ) (r : Result (Unit {0}) Error)
      → OnOk r (SetsAmount a b (keys.Balance account isin) ((content_in a).position account isin + q)) → OnOk r (AmountsSo a b (more_held (content_in a).position account isin q) (content_in a).cash)
  puts_held account isin q (Ok tt) h = set_position account isin _ h
  puts_held account isin q (Err e) h = tt

  pub takes_cash : (bic : List ℕ) (asked : Amount) (r : Bool) → Takes a b (keys.Cash bic asked.ccy) asked.amount r → TakesCash a b bic (Some asked) r
  takes_cash bic asked true h = (h.0, set_cash bic asked.ccy _ h.1)
  takes_cash bic asked false h = short_less (amount_at a (keys.Cash bic asked.ccy)) asked.amount asked.some h.0

  pub puts_cash : (bic : List ℕ) (asked : Amount) (r : Result (Unit {0}) Error)
      → OnOk r (SetsAmount a b (keys.Cash bic asked.ccy) ((content_in a).cash bic asked.ccy + asked.amount)) → OnOk r (AmountsSo a b (content_in a).position (more_cash (content_in a).cash bic (Some asked)))
  puts_cash bic asked (Ok tt) h = set_cash bic asked.ccy _ h
  puts_cash bic asked (Err e) h = tt

-- no cash was asked for
pub same_so : (a : Database) → AreAmounts a → AmountsSo a a (content_in a).position (content_in a).cash
same_so a amounts = record { kept = amounts; position_is = refl; cash_is = refl; totals = λ subject code. refl; others = λ tree out none. refl }

so_then : (a b c : Database) (p p' : Positions) (x x' : CashBalances) → AmountsSo a b p x → AmountsSo b c p' x' → AmountsSo a c p' x'
so_then a b c p p' x x' first second = record {
  kept = second.kept;
  position_is = second.position_is;
  cash_is = second.cash_is;
  totals = λ subject code. second.totals subject code ∙ first.totals subject code;
  others = λ tree out none. second.others tree out none ∙ first.others tree out none;
}

-- ---- what was taken off one balance leaves room on the other

pub less_fits : (position : Positions) (from to isin : List ℕ) (q : ℕ) → position to isin + q < 2 ^ 63 → less_held position from isin q to isin + q < 2 ^ 63
less_fits position from to isin q fits = by_bool (bytes_eq from to && bytes_eq isin isin)
    (λ t. let left : less_held position from isin q to isin ≡ position from isin - q = rw t refl in
    by_bool (bytes_eq from to) (λ s. let same : position from isin ≡ position to isin = ap (λ x. position x isin) (same_bytes from to s) in omega arith) (λ f. let bad = rw f at t in absurd (cc)))
    (λ f. let left : less_held position from isin q to isin ≡ position to isin = rw f refl in omega arith)

pub less_cash_fits : (cash : CashBalances) (from to : List ℕ) (asked : Option Amount) → FitsCash cash to asked → FitsCash (less_cash cash from asked) to asked
less_cash_fits cash from to None fits = tt
less_cash_fits cash from to (Some asked) fits = by_bool (bytes_eq from to && same_ccy asked.ccy asked.ccy)
    (λ t. let left : less_cash cash from (Some asked) to asked.ccy ≡ cash from asked.ccy - asked.amount = rw t refl in
    by_bool (bytes_eq from to) (λ s. let same : cash from asked.ccy ≡ cash to asked.ccy = ap (λ x. cash x asked.ccy) (same_bytes from to s) in omega arith) (λ f. let bad = rw f at t in absurd (cc)))
    (λ f. let left : less_cash cash from (Some asked) to asked.ccy ≡ cash to asked.ccy = rw f refl in omega arith)

paid_is : (cash : CashBalances) (from to : List ℕ) (asked : Option Amount) → more_cash (less_cash cash from asked) to asked ≡ paid_over cash from to asked
paid_is cash from to None = refl
paid_is cash from to (Some asked) = refl

-- ---- both legs

module _ (a b c d e : Database) (from to isin : List ℕ) (q : ℕ) (payer payee : List ℕ) (asked : Option Amount) where
  pub both_legs : AmountsSo a b (less_held (content_in a).position from isin q) (content_in a).cash → AmountsSo b c (content_in b).position (less_cash (content_in b).cash payer asked)
      → AmountsSo c d (more_held (content_in c).position to isin q) (content_in c).cash → AmountsSo d e (content_in d).position (more_cash (content_in d).cash payee asked)
      → AmountsSo a e (delivered (content_in a).position from to isin q) (paid_over (content_in a).cash payer payee asked)
  both_legs takes pays gives paid = record {
    kept = paid.kept;
    position_is = paid.position_is ∙ gives.position_is ∙ ap (λ (p : Positions). more_held p to isin q) (pays.position_is ∙ takes.position_is);
    cash_is = paid.cash_is ∙ ap (λ (x : CashBalances). more_cash x payee asked) (gives.cash_is ∙ pays.cash_is ∙ ap (λ (x : CashBalances). less_cash x payer asked) takes.cash_is)
        ∙ paid_is (content_in a).cash payer payee asked;
    totals = λ subject code. paid.totals subject code ∙ gives.totals subject code ∙ pays.totals subject code ∙ takes.totals subject code;
    others = λ tree out none. paid.others tree out none ∙ gives.others tree out none ∙ pays.others tree out none ∙ takes.others tree out none;
  }

-- ---- the legs of a pair, by its sides

module _ (a b c d e : Database) (earlier later from to : Instructed) (is_from : from ≡ delivering_side earlier later) (is_to : to ≡ receiving_side earlier later) where
  abbrev isin : List ℕ
  isin = later.instruction.isin

  abbrev q : ℕ
  q = later.instruction.quantity

  there : TakesHeld a b from.instruction.account isin q true → q ≤ (content_in a).position (delivering_side earlier later).instruction.account isin
  there takes = subst (λ (i : Instructed). q ≤ (content_in a).position i.instruction.account isin) is_from takes.0

  has : TakesHeld a b from.instruction.account isin q true → TakesCash b c to.sender later.instruction.cash true → HasCash (content_in a).cash (receiving_side earlier later).sender later.instruction.cash
  has takes pays = subst (λ (i : Instructed). HasCash (content_in a).cash i.sender later.instruction.cash) is_to (subst (λ (x : CashBalances). HasCash x to.sender later.instruction.cash) takes.1.cash_is pays.0)

  pub put_fits : SidesFit (content_in a) earlier later → TakesHeld a b from.instruction.account isin q true → TakesCash b c to.sender later.instruction.cash true → (content_in c).position to.instruction.account isin + q < 2 ^ 63
  put_fits fits takes pays =
      let left : (content_in c).position ≡ less_held (content_in a).position from.instruction.account isin q = pays.1.position_is ∙ takes.1.position_is in
      let room = subst (λ (i : Instructed). (content_in a).position i.instruction.account isin + q < 2 ^ 63) (sym is_to) (fits.securities (there takes)) in
      subst (λ (p : Positions). p to.instruction.account isin + q < 2 ^ 63) (sym left) (less_fits (content_in a).position from.instruction.account to.instruction.account isin q room)

  pub pay_fits : SidesFit (content_in a) earlier later → TakesHeld a b from.instruction.account isin q true → TakesCash b c to.sender later.instruction.cash true
      → AmountsSo c d (more_held (content_in c).position to.instruction.account isin q) (content_in c).cash → FitsCash (content_in d).cash from.sender later.instruction.cash
  pay_fits fits takes pays gives =
      let left : (content_in d).cash ≡ less_cash (content_in a).cash to.sender later.instruction.cash =
      gives.cash_is ∙ pays.1.cash_is ∙ ap (λ (x : CashBalances). less_cash x to.sender later.instruction.cash) takes.1.cash_is in
      let room = subst (λ (i : Instructed). FitsCash (content_in a).cash i.sender later.instruction.cash) (sym is_from) (fits.cash (has takes pays)) in
      subst (λ (x : CashBalances). FitsCash x from.sender later.instruction.cash) (sym left) (less_cash_fits (content_in a).cash to.sender from.sender later.instruction.cash room)

  pub legs_settled : TakesHeld a b from.instruction.account isin q true → TakesCash b c to.sender later.instruction.cash true → AmountsSo c d (more_held (content_in c).position to.instruction.account isin q) (content_in c).cash
      → AmountsSo d e (content_in d).position (more_cash (content_in d).cash from.sender later.instruction.cash) → MovesLegs a e earlier later Settled
  legs_settled takes pays gives paid = record {
    fares = (there takes, has takes pays);
    amounts = λ ok. subst (λ (i : Instructed). AmountsSo a e (delivered (content_in a).position (delivering_side earlier later).instruction.account i.instruction.account isin q)
        (paid_over (content_in a).cash i.sender (delivering_side earlier later).sender later.instruction.cash)) is_to
        (subst (λ (i : Instructed). AmountsSo a e (delivered (content_in a).position i.instruction.account to.instruction.account isin q) (paid_over (content_in a).cash to.sender i.sender later.instruction.cash)) is_from
        (both_legs a b c d e from.instruction.account to.instruction.account isin q to.sender from.sender later.instruction.cash takes.1 pays.1 gives paid));
  }

  -- the account holds too little, and nothing has changed
  pub legs_short : TakesHeld a b from.instruction.account isin q false → MovesLegs a b earlier later (Lacks Securities)
  legs_short takes = record {
    fares = subst (λ (i : Instructed). (content_in a).position i.instruction.account isin < q) is_from takes.0;
    amounts = λ ok. takes.1;
  }

  -- the quantity is taken, and the participant has too little
  pub legs_unpaid : TakesHeld a b from.instruction.account isin q true → TakesCash b c to.sender later.instruction.cash false → MovesLegs a c earlier later (Lacks Money)
  legs_unpaid takes lacks = record {
    fares = (there takes, subst (λ (i : Instructed). LacksCash (content_in a).cash i.sender later.instruction.cash) is_to (subst (λ (x : CashBalances). LacksCash x to.sender later.instruction.cash) takes.1.cash_is lacks));
    amounts = λ ok. absurd (ok refl);
  }

-- ---- both legs or none

module _ (a b c : Database) (earlier later : Instructed) (outcome : Outcome) (same : b ≡ a) (legs : MovesLegs b c earlier later outcome) where
  fares_same : Fares (content_in a) earlier later outcome
  fares_same = subst (λ (db : Database). Fares (content_in db) earlier later outcome) same legs.fares

  -- where money does not lack, what the legs have made stays
  pub both_moved : outcome ≢ Lacks Money → MovesBoth a c earlier later outcome
  both_moved goes = record {
    fares = fares_same;
    amounts = subst (λ (db : Database). AmountsSo db c (positions_then (content_in db) earlier later outcome) (cash_then (content_in db) earlier later outcome)) same (legs.amounts goes);
  }

  -- where it does, the tables are as they were
  pub both_back : (d : Database) → d ≡ a → AreAmounts a → outcome ≡ Lacks Money → MovesBoth a d earlier later outcome
  both_back d back amounts lacks = record {
    fares = fares_same;
    amounts = subst (λ (o : Outcome). AmountsSo a d (positions_then (content_in a) earlier later o) (cash_then (content_in a) earlier later o)) (sym lacks)
        (subst (λ (db : Database). AmountsSo a db (content_in a).position (content_in a).cash) (sym back) (same_so a amounts));
  }
