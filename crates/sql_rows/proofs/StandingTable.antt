-- What the query of `state` shows, and what the table is then.
use Rattle.std.proofs.Common.{◌≡◌, ◌≢◌, ◌⊎◌, inl, inr, ℕ, zero, suc, ◌+◌, ◌<◌, ◌≤◌, ◌^◌, pos, List, [], ◌∷◌, length, map, cond, codes, refl, sym, ap, subst, ◌∙◌, arith, Bool, true, false, if◌then◌else◌, Option, Some, None, Ok, Err, Result, IfOk, IfErr, IsTrue, Vec}
use Rattle.std.specs.declared.alloc.Global.{Global}
use Rattle.sqlite.specs.declared.error.Error.{Error}
use Rattle.std.specs.List.{AllByRecursion}
use Rattle.std.proofs.lemmas.Bool.{eq-eqb, ne_eqb, cases_lt}
use Rattle.sqlite.specs.Order.{Row}
use Rattle.sqlite.specs.declared.types.Value.TheVariants.{Null, Int}
use Rattle.sqlite.specs.Term.{Term, col}
use Rattle.sqlite.specs.Command.TheVariants.{Select}
use Rattle.sqlite.specs.Effect.{Database}
use Rattle.sqlite.specs.Listing.{understood}
use Rattle.sqlite.specs.Program.{overlay}
use Rattle.sqlite.specs.State.{State, FailsToQuery, Shown}
use Rattle.sqlite_tied.specs.Compute.{everything}
use Rattle.sqlite.proofs.Callers.{command_of, reads_as}
use Rattle.sqlite_trees.specs.Tree.{IsTable}
use Rattle.sqlite_trees.proofs.ListLemmas.{all_weaker, IsPermutation-same}
use Rattle.desk_rules.specs.Content.{Content}
use Rattle.desk_rules.specs.Standing.{no_standing}
use Rattle.desk_rules.specs.declared.history.standing.State.{State as Stand}
use Rattle.desk_rules.specs.declared.history.standing.State.TheVariants.{NoInstruction, Unmatched, Matched, Cancelled, Settled}
use Rattle.desk_msg.specs.declared.writing.status.Reason.TheVariants.{Future, Lack, Money}
use Rattle.desk_rules.specs.declared.history.standing.Standing.{Standing}
use Rattle.sql_tables.specs.Schema.{desk_schema, state_table}
use Rattle.sql_tables.specs.Statements.{IsQuery}
use Rattle.sql_tables.specs.Forms.{AreAllFormed, HasForm}
use Rattle.sql_tables.specs.Order.{AreInOrder}
use Rattle.sql_rows.specs.Standings.{columns_of, reason_code, standing_among, standing_written, state_code, state_written, written_in, IsStandingRow}
use Rattle.sql_tables.specs.Whole.{shown_by, IsWhole}
use Rattle.sql_tables.specs.Numbered.{and_row, numbered_from, row_with}
use Rattle.sql_tables.specs.Ends.{ForCause}
use Rattle.sql_tables.proofs.BlameLemmas.{IsWhole as IsOneText, query_caused}
use Rattle.sql_tables.proofs.RowLemmas.{is_computed, whole, IsNumbered}
use Rattle.sql_tables.proofs.NumberedLemmas.{each_row, rises}
use Rattle.sql_rows.specs.StandingsTold.{row_by, wanted, written_of, AreTold, IsTold, SaysStandings, StandsWithin}
use Rattle.sql_rows.proofs.OrderedRows.{in_order, ordered_rows}

-- ---- the query

abbrev pub all_text : List ℕ
all_text = codes "SELECT number, mate, state, reason, asked FROM state ORDER BY number"

abbrev columns : List Term
columns = col 1 0 ∷ col 1 2 ∷ col 1 3 ∷ col 1 4 ∷ col 1 5 ∷ []

all_is : command_of (understood desk_schema all_text) ≡ Select (record { lets = []; body = in_order 8 columns }) (codes "number" ∷ codes "mate" ∷ codes "state" ∷ codes "reason" ∷ codes "asked" ∷ [])
unfolding understood everything
all_is = refl

pub reads_all : IsQuery all_text
unfolding understood everything
reads_all = record { selects = refl; plain = (refl, refl); unlisted = refl }

all_whole : IsOneText all_text 0
unfolding understood everything
all_whole = record { plain = (refl, refl); whole = refl; width_is = refl }

pub all_caused : (old new : State) → old.now.schema ≡ desk_schema → IsTrue old.is_open → (r : Result (Vec Row Global) Error) → IfErr r (FailsToQuery all_text [] old new) → IfErr r (ForCause old new)
all_caused old new has open' r h = query_caused old new has open' all_text [] all_whole _ _ all_is reads_all.unlisted refl refl refl r h

shows_all : (old new : State) (rows : List Row) → old.now.schema ≡ desk_schema → IsTable (old.now.trees 8) → Shown all_text [] old new rows → rows ≡ map (shown_by 4) (old.now.trees 8)
shows_all old new rows has up h =
    let answers = reads_as all_text [] old new desk_schema has _ all_is reads_all.plain reads_all.unlisted rows h in
    ordered_rows 8 4 columns (overlay old.now.trees []) [] rows (λ row. refl) up (answers.answer Null)

pub all_shown : (old new : State) → old.now.schema ≡ desk_schema → IsTable (old.now.trees 8) → (r : Result (Vec Row Global) Error) → IfOk r (λ rows. Shown all_text [] old new rows.items)
    → IfOk r (λ rows. rows.items ≡ map (shown_by 4) (old.now.trees 8))
all_shown old new has up (Ok rows) h = shows_all old new rows.items has up h
all_shown old new has up (Err e) h = tt

-- ---- the rows that standings make

pub row_is : (state : Stand) (values row : Row) → row_by state values ≡ Some row → (row ≡ values) × (state ≢ NoInstruction)
row_is NoInstruction values row h = absurd (cc)
row_is Unmatched values row h = (cc, λ e. absurd (cc))
row_is (Matched reason) values row h = (cc, λ e. absurd (cc))
row_is Cancelled values row h = (cc, λ e. absurd (cc))
row_is Settled values row h = (cc, λ e. absurd (cc))

state_back : (s : Stand) → state_written (state_code s) (reason_code s) ≡ s
state_back NoInstruction = refl
state_back Unmatched = refl
state_back (Matched Future) = refl
state_back (Matched Lack) = refl
state_back (Matched Money) = refl
state_back Cancelled = refl
state_back Settled = refl

asked_once : (asked : Bool) → (if asked then 1 else 0) ≤ 1
asked_once true = omega arith
asked_once false = omega arith

pass : (i m : ℕ) (w : Option Row) (rows : List Row) → i ≢ m → standing_among (and_row i w rows) m ≡ standing_among rows m
pass i m None rows apart = refl
pass i m (Some values) rows apart = ap (λ b. cond b (standing_written (written_in (row_with i values))) (standing_among rows m)) (ne_eqb i m apart)

meet_row : (m : ℕ) (s : Standing) (state : Stand) (rows : List Row) → state ≢ NoInstruction → standing_among (and_row m (row_by state (columns_of (written_of s))) rows) m ≡ standing_written (written_of s)
meet_row m s NoInstruction rows some = absurd (some refl)
meet_row m s Unmatched rows some = ap (λ b. cond b (standing_written (written_of s)) (standing_among rows m)) (eq-eqb m m refl)
meet_row m s (Matched reason) rows some = ap (λ b. cond b (standing_written (written_of s)) (standing_among rows m)) (eq-eqb m m refl)
meet_row m s Cancelled rows some = ap (λ b. cond b (standing_written (written_of s)) (standing_among rows m)) (eq-eqb m m refl)
meet_row m s Settled rows some = ap (λ b. cond b (standing_written (written_of s)) (standing_among rows m)) (eq-eqb m m refl)

meet : (m : ℕ) (s : Standing) (rows : List Row) → IsTold m s → standing_among rows m ≡ no_standing → standing_among (and_row m (row_by s.state (columns_of (written_of s))) rows) m ≡ s
meet m s rows (inl none) out = subst (λ (s : Standing). standing_among (and_row m (row_by s.state (columns_of (written_of s))) rows) m ≡ s) (sym none) out
meet m s rows (inr some) out = meet_row m s s.state rows some.1 ∙ some.2

small : (m : ℕ) (s : Standing) → IsTold m s → s.state ≢ NoInstruction → m < 2 ^ 63
small m s (inl none) some = absurd (some (ap (λ (s : Standing). s.state) none))
small m s (inr it) some = it.0

module _ (standing : ℕ → Standing) where
  none_out : (n k m : ℕ) → (m ≤ n) ⊎ (n + k < m) → standing_among (numbered_from (wanted standing) n k) m ≡ no_standing
  none_out n zero m out = refl
  none_out n (suc k) m (inl below) = pass (suc n) m (wanted standing (suc n)) (numbered_from (wanted standing) (suc n) k) (λ e. omega (arith, e, below)) ∙ none_out (suc n) k m (inl (omega (arith, below)))
  none_out n (suc k) m (inr above) = pass (suc n) m (wanted standing (suc n)) (numbered_from (wanted standing) (suc n) k) (λ e. omega (arith, e, above)) ∙ none_out (suc n) k m (inr (omega (arith, above)))

  said : (n k m : ℕ) → ((i : ℕ) → n < i → i ≤ n + k → IsTold i (standing i)) → n < m → m ≤ n + k → standing_among (numbered_from (wanted standing) n k) m ≡ standing m
  said n zero m each low high = absurd (omega (arith, low, high))
  said n (suc k) m each low high = elim (cases_lt (suc n) m) [
    | inl later ↦ pass (suc n) m (wanted standing (suc n)) (numbered_from (wanted standing) (suc n) k) (λ e. omega (arith, e, later))
        ∙ said (suc n) k m (λ i lo hi. each i (omega (arith, lo)) (omega (arith, hi))) later (omega (arith, high))
    | inr here ↦ (let is : suc n ≡ m = omega (arith, here, low) in
        subst (λ j. standing_among (numbered_from (wanted standing) n (suc k)) j ≡ standing j) is
        (meet (suc n) (standing (suc n)) (numbered_from (wanted standing) (suc n) k) (each (suc n) (omega arith) (omega arith)) (none_out (suc n) k (suc n) (inl (omega arith)))))
  ]

  whole_rows : (n : ℕ) → AllByRecursion (IsWhole 4) (numbered_from (wanted standing) 0 n)
  whole_rows n = each_row (wanted standing) (IsWhole 4) 0 n (λ m values low high is.
      let it = row_is (standing m).state (columns_of (written_of (standing m))) values is in
      record { number = Int (pos m); values = values; is = refl; size = ap length it.0 })

  formed_rows : (n : ℕ) → ((i : ℕ) → 0 < i → i ≤ 0 + n → IsTold i (standing i)) → AllByRecursion IsStandingRow (numbered_from (wanted standing) 0 n)
  formed_rows n told = each_row (wanted standing) IsStandingRow 0 n (λ m values low high is.
      let s = standing m in
      let it = row_is s.state (columns_of (written_of s)) values is in
      record {
        number = m;
        written = written_of s;
        is = ap (row_with m) it.0;
        small = small m s (told m low high) it.1;
        instruction = λ none. it.1 (sym (state_back s.state) ∙ none);
        request = asked_once s.cancel_requested;
      })

-- ---- the table

numbered : IsNumbered state_table 4
numbered = record { key = refl; last = refl; size = refl }

pub in_numbers : (db : Database) → AreInOrder desk_schema db.trees → IsTable (db.trees 8)
in_numbers db order = (order state_table (inr (inr (inr (inr (inl refl)))))).0

pub says_all : (db : Database) (content : Content) (rows : List Row) → AreInOrder desk_schema db.trees → AreAllFormed db.trees → StandsWithin content
    → rows ≡ map (shown_by 4) (db.trees 8) → AreTold content.standing (length content.register) rows → SaysStandings db content
says_all db content rows order formed within shown all =
    let n = length content.register in
    let made = numbered_from (wanted content.standing) 0 n in
    let up = in_numbers db order in
    let wholes = all_weaker (HasForm state_table) (IsWhole 4) (whole state_table 4 numbered) (db.trees 8) formed.1.1.1.1.0.each in
    let is : db.trees 8 ≡ made =
    is_computed 4 (db.trees 8) made rows up (rises (wanted content.standing) 0 n) wholes (whole_rows content.standing n) (IsPermutation-same (map (shown_by 4) (db.trees 8)) rows (sym shown)) all.shown in
    let told : (i : ℕ) → 0 < i → i ≤ 0 + n → IsTold i (content.standing i) = λ i low high. one content n all.each i low high in
    record {
      kept = record { rising = up; formed = subst (AllByRecursion IsStandingRow) (sym is) (formed_rows content.standing n told) };
      each = λ m. ap (λ rs. standing_among rs m) is ∙ elim (cases_lt 0 m) [
        | inl some ↦ elim (cases_lt n m) [
          | inl above ↦ none_out content.standing 0 n m (inr (omega (arith, above))) ∙ sym (within m (inr above))
          | inr high ↦ said content.standing 0 n m told some (omega (arith, high))
        ]
        | inr none ↦ none_out content.standing 0 n m (inl (omega (arith, none))) ∙ sym (within m (inl (omega (arith, none))))
      ];
    }
  where
    one : (content : Content) (n : ℕ) → ((k : ℕ) → k < n → IsTold (k + 1) (content.standing (k + 1))) → (i : ℕ) → 0 < i → i ≤ 0 + n → IsTold i (content.standing i)
    one content n each zero low high = absurd (omega (arith, low))
    one content n each (suc k) low high = (let e : k + 1 ≡ suc k = omega arith in subst (λ j. IsTold j (content.standing j)) e (each k (omega (arith, high))))
