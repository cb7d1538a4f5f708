-- The walk over an account's holdings, row by row.
use Rattle.std.proofs.Common.{◌≡◌, ℕ, ◌+◌, ◌≤◌, List, [], ◌∷◌, ◌++◌, length, Option, Some, None, refl, sym, ◌∙◌, subst, arith}
use Rattle.std.proofs.lemmas.List.{length-map}
use Rattle.std.specs.Prelude.{Result, Ok, Err}
use Rattle.std.specs.Result.{IsErrAnd}
use Rattle.desk_msg.specs.declared.writing.statement_row.SinkFault.{SinkFault}
use Rattle.desk_msg.specs.declared.writing.statement_row.SinkFault.TheVariants.{Memory, Write}
use Rattle.desk_msg.specs.declared.writing.statement_row.StatementRow.{StatementRow}
use Rattle.desk_msg.specs.TookRows.{TookAll}
use Rattle.desk_msg.proofs.TakenRows.{TookAll-push}
use Rattle.desk_register.specs.declared.register.Fault.{Fault}
use Rattle.desk_register.specs.declared.register.Fault.TheVariants as faults
use Rattle.desk_register.specs.View.{HasRead, IsLater, View, IsRead}
use Rattle.desk_register.specs.Looked.{IsHoldingAfter}
use Rattle.desk_register.specs.declared.holding.Holding.{Holding}
use Rattle.desk_register.specs.Ends.{broken_off}
use Rattle.desk_holdings.specs.Holdings.{HoldsRegistered}
use Rattle.desk_holdings.specs.Taking.{Took, TookFirst, TookHoldings, TookUpTo}
use Rattle.desk_holdings.specs.Walking.{IsNextRow}
use Rattle.desk_register.specs.declared.fault.WalkFault.{WalkFault}
use Rattle.desk_register.specs.declared.fault.WalkFault.TheVariants.{Sink}
use Rattle.desk_holdings.proofs.GatheringLemmas.{Gathered, gathered_all, gathered_first, gathers_none, gathers_one, none_further}
use Rattle.desk_register.proofs.ReadLemmas.{held_so}
use Rattle.desk_register.proofs.ReadingLemmas.{read_on}

module _ {S : Type 0} (took : S → StatementRow → S → Type 0) (account : List ℕ) where
  -- The walk, after so many rows.
  pub record Walking (v0 v : View) (count : ℕ) (last : Option (List ℕ)) (told : ℕ) (before now : S) : Type 0 where
    pub entries : v.is_honest → v0.is_sure → count ≡ length v0.content.register
    pub read : HasRead v0 v
    pub rows : List StatementRow
    pub taken : TookAll took before rows now
    pub gathered : v.is_honest → v0.is_sure → Gathered v0.content account last told rows

  pub walking_begins : (v0 v : View) (count : ℕ) (before : S) → HasRead v0 v → (v.is_honest → v0.is_sure → count ≡ length v0.content.register) → Walking v0 v count None 0 before before
  walking_begins v0 v count before read entries = record {
    entries = entries;
    read = read;
    rows = [];
    taken = refl;
    gathered = λ honest sure. gathers_none v0.content account;
  }

  -- no call has failed before the first row was told
  pub none_taken : (v0 v : View) (before : S) → (v.is_honest → v0.is_sure → HoldsRegistered v0.content account) → TookFirst took account v0 v before before
  none_taken v0 v before known = record {
    rows = [];
    taken = refl;
    are = λ honest sure. gathered_first v0.content account (known honest sure) None 0 [] (gathers_none v0.content account);
  }

  module _ (v0 v : View) (count : ℕ) (last : Option (List ℕ)) (told : ℕ) (before now : S) (w : Walking v0 v count last told before now) where
    pub walking_goes_on : (v1 : View) (row : StatementRow) (after : S) → IsRead {X = Option StatementRow} (Ok (Some row)) v v1 → (v1.is_honest → v.is_sure → IsNextRow v.content account last (Some row)) → took now row after
        → Walking v0 v1 count (Some row.isin) (told + 1) before after
    walking_goes_on v1 row after read next one = record {
      entries = λ honest sure. w.entries (read.later.honest honest) sure;
      read = read_on v0 v w.read (Some row) v1 read;
      rows = w.rows ++ row ∷ [];
      taken = TookAll-push took before w.rows now row after w.taken one;
      gathered = λ honest sure.
          let honest1 = read.later.honest honest in
          let is = held_so v0 v w.read (λ c. IsNextRow c account last (Some row)) honest1 sure (next honest (w.read.ok.sure honest1 sure)) in
          gathers_one v0.content account last told w.rows (w.gathered honest1 sure) row is;
    }

    -- what was taken so far are the first of the holdings
    pub walking_breaks : (v1 : View) → IsLater v v1 → (v0.is_honest → v0.is_sure → HoldsRegistered v0.content account) → TookFirst took account v0 v1 before now
    walking_breaks v1 later known = record {
      rows = w.rows;
      taken = w.taken;
      are = λ honest sure.
          let honest1 = later.honest honest in
          gathered_first v0.content account (known (w.read.later.honest honest1) sure) last told w.rows (w.gathered honest1 sure);
    }

    -- the next of them was handed over
    pub walking_hands_over : (v1 : View) (row : StatementRow) → IsRead {X = Option StatementRow} (Ok (Some row)) v v1 → (v1.is_honest → v.is_sure → IsNextRow v.content account last (Some row))
        → (v0.is_honest → v0.is_sure → HoldsRegistered v0.content account) → TookUpTo took account v0 v1 before now
    walking_hands_over v1 row read next known = record {
      rows = w.rows;
      next = row;
      taken = w.taken;
      are = λ honest sure.
          let honest1 = read.later.honest honest in
          let is = held_so v0 v w.read (λ c. IsNextRow c account last (Some row)) honest1 sure (next honest (w.read.ok.sure honest1 sure)) in
          gathered_first v0.content account (known (w.read.later.honest honest1) sure) (Some row.isin) (told + 1) (w.rows ++ row ∷ [])
          (gathers_one v0.content account last told w.rows (w.gathered honest1 sure) row is);
    }

    pub walking_ends : (v1 : View) → IsLater v v1 → (v1.is_honest → v.is_sure → IsNextRow v.content account last None) → TookHoldings took account v0 v1 before now
    walking_ends v1 later next = record {
      rows = w.rows;
      taken = w.taken;
      are = λ honest sure.
          let honest1 = later.honest honest in
          let none = held_so v0 v w.read (λ c. IsNextRow c account last None) honest1 sure (next honest (w.read.ok.sure honest1 sure)) in
          gathered_all v0.content account last told w.rows (w.gathered honest1 sure) none;
    }

    -- a store that shows what it holds has no holding left after as many as there are entries
    pub walking_is_over : (v1 : View) (holding : Holding) → count ≤ told → IsLater v v1 → (v0.is_honest → v0.is_sure → HoldsRegistered v0.content account)
        → (v1.is_honest → v.is_sure → IsHoldingAfter v.content account last (Some holding)) → v1.is_honest → v0.is_sure → ⊥
    walking_is_over v1 holding enough later known next honest sure =
        let honest1 = later.honest honest in
        let is = w.entries honest1 sure in
        let len = length-map v0.content.register (λ kept. kept.entry) in
        let none = none_further v0.content account last told w.rows (w.gathered honest1 sure) (known (w.read.later.honest honest1) sure) (omega arith) in
        let held = held_so v0 v w.read (λ c. IsHoldingAfter c account last (Some holding)) honest1 sure (next honest (w.read.ok.sure honest1 sure)) in
        none holding.isin held.0

-- What was taken where the walk broke off, by why.
module _ {S X : Type 0} (took : S → StatementRow → S → Type 0) (account : List ℕ) (v0 v1 : View) (before after : S) where
  pub took_by_fault : (fault : Fault) (r : Result X WalkFault) → IsErrAnd r (λ broken. broken ≡ broken_off fault) → TookFirst took account v0 v1 before after → Took took account r v0 v1 before after
  took_by_fault fault (Ok x) is first = absurd is
  took_by_fault faults.Memory (Err broken) is first = subst (λ z. Took {X = X} took account (Err z) v0 v1 before after) (sym is) first
  took_by_fault faults.Storage (Err broken) is first = subst (λ z. Took {X = X} took account (Err z) v0 v1 before after) (sym is) first

  pub took_by_sink : (fault : SinkFault) (r : Result X WalkFault) → IsErrAnd r (λ broken. broken ≡ Sink fault) → (now : S) → TookUpTo took account v0 v1 before now → (fault ≡ Memory → after ≡ now)
      → Took took account r v0 v1 before after
  took_by_sink fault (Ok x) is now first same = absurd is
  took_by_sink Write (Err broken) is now first same = subst (λ z. Took {X = X} took account (Err z) v0 v1 before after) (sym is) (now, first)
  took_by_sink Memory (Err broken) is now first same =
      let P : S → Type 0 = λ z. TookUpTo took account v0 v1 before z in
      subst (λ z. Took {X = X} took account (Err z) v0 v1 before after) (sym is) (subst P (sym (same refl)) first)
