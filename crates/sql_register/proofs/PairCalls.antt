-- The calls that pair two instructions, cancel a pair, and let one wait.
use Rattle.std.proofs.Common.{ℕ, Result, Ok, Err, OnOk}
use Rattle.sqlite.specs.State.{State}
use Rattle.sqlite.specs.Effect.{Database}
use Rattle.sqlite.specs.declared.error.Error.{Error}
use Rattle.desk_register.specs.Told.{waiting}
use Rattle.desk_msg.specs.declared.writing.status.Reason.TheVariants.{Future}
use Rattle.desk_register.specs.Changes.{CanCancelPair, CanPair, pair_cancelled, paired}
use Rattle.desk_register.specs.declared.outcome.Outcome.TheVariants.{Lacks}
use Rattle.desk_rules.specs.declared.history.pair.Lack.{Lack}
use Rattle.desk_rules.specs.declared.history.pair.Lack.TheVariants.{Money, Securities}
use Rattle.desk_rules.specs.declared.history.standing.State.TheVariants.{Cancelled, Matched}
use Rattle.sql_tables.specs.Ends.{Stays}
use Rattle.sql_register.specs.Content.{content_in}
use Rattle.sql_register.specs.Holds.{Becomes, IsDesk}
use Rattle.sql_register.specs.Pairs.{StandBoth}
use Rattle.sql_register.specs.Settling.{state_then}
use Rattle.sql_register.proofs.BothContent.{stands_pair}

module _ (old : Database) (old' new : State) (m n : ℕ) (desk : IsDesk old) where
  pub pair_call : (r : Result (Unit {0}) Error) → CanPair (content_in old) m n → OnOk r (Stays old' new) → OnOk r (StandBoth old new.now m n (Matched Future)) → OnOk r (Becomes new.now (paired m n (content_in old)))
  pair_call (Ok tt) can stays stood = stands_pair old new.now m n can.earlier can.later desk can.two can.is_earlier can.is_later (Matched Future) (λ e. cc) stays.schema stood
  pair_call (Err e) can stays stood = tt

  module _ (can : CanCancelPair (content_in old) m n) where
    pub cancel_call : (r : Result (Unit {0}) Error) → OnOk r (Stays old' new) → OnOk r (StandBoth old new.now m n Cancelled) → OnOk r (Becomes new.now (pair_cancelled m n (content_in old)))
    cancel_call (Ok tt) stays stood = stands_pair old new.now m n can.earlier can.later desk can.two can.pair.is_earlier can.pair.is_later Cancelled (λ e. cc) stays.schema stood
    cancel_call (Err e) stays stood = tt

    pub wait_call : (lack : Lack) (r : Result (Unit {0}) Error) → OnOk r (Stays old' new) → OnOk r (StandBoth old new.now m n (state_then (Lacks lack))) → OnOk r (Becomes new.now (waiting m n lack (content_in old)))
    wait_call Securities (Ok tt) stays stood = stands_pair old new.now m n can.earlier can.later desk can.two can.pair.is_earlier can.pair.is_later (state_then (Lacks Securities)) (λ e. cc) stays.schema stood
    wait_call Money (Ok tt) stays stood = stands_pair old new.now m n can.earlier can.later desk can.two can.pair.is_earlier can.pair.is_later (state_then (Lacks Money)) (λ e. cc) stays.schema stood
    wait_call lack (Err e) stays stood = tt
