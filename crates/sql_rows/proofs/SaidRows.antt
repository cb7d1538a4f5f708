-- What the rows of a table are that says where each entry stands.
use Rattle.std.proofs.Common.{◌≡◌, ◌≢◌, ◌⊎◌, inl, inr, ℕ, zero, suc, ◌+◌, ◌<◌, ◌≤◌, ◌^◌, ◌==◌, List, length, map, cond, if◌then◌else◌, Some, None, unwrap_or, refl, sym, ap, subst, ◌∙◌, arith}
use Rattle.std.proofs.lemmas.Bool.{cases_Bool, cases_lt, eqb-true}
use Rattle.sqlite.specs.Effect.{Database}
use Rattle.sqlite.specs.Order.{Row}
use Rattle.sqlite_trees.proofs.ListLemmas.{all_weaker}
use Rattle.desk_rules.specs.Content.{Content}
use Rattle.desk_rules.specs.declared.history.standing.State.{State as Stand}
use Rattle.desk_rules.specs.declared.history.standing.State.TheVariants.{NoInstruction, Unmatched, Matched, Cancelled, Settled}
use Rattle.desk_rules.specs.declared.history.standing.Standing.{Standing}
use Rattle.sql_tables.specs.Queries.{Among}
use Rattle.sql_tables.proofs.QueryLemmas.{all_among, at_among}
use Rattle.sql_rows.specs.Standings.{columns_of, mate_written, reason_code, standing_row, standing_written, state_code, state_written, IsStandingRow, Written}
use Rattle.sql_rows.proofs.StandingLemmas.{codes_back, nowhere, row_of, row_says}
use Rattle.sql_tables.specs.Whole.{shown_by}
use Rattle.sql_tables.specs.Numbered.{numbered_from, row_with}
use Rattle.sql_tables.proofs.ByNumberLemmas.{among_made}
use Rattle.sql_tables.proofs.NumberedLemmas.{each_row, rises}
use Rattle.sql_tables.proofs.RowLemmas.{same_rows}
use Rattle.sql_rows.specs.StandingsTold.{as_said, content_as, wanted, written_of, AreTold, IsTold, SaysStandings, StandsWithin}
use Rattle.desk_rules.specs.Standing.{no_standing}
use Rattle.sql_tables.specs.declared.versions.Version.{Version}
use Rattle.sql_tables.specs.declared.versions.Version.TheVariants.{First, Second, Third}
use Rattle.sql_rows.proofs.StandingRows.{a_row}
use Rattle.sql_rows.proofs.StandingTable.{row_is}

-- ---- what was written, from what is read of it

mate_back : (m : ℕ) → unwrap_or (mate_written m) 0 ≡ m
mate_back m = elim (cases_Bool (m == 0)) [
  | inl none ↦ ap (λ b. unwrap_or (cond b None (Some m)) 0) none ∙ sym (eqb-true m 0 none)
  | inr some ↦ ap (λ b. unwrap_or (cond b None (Some m)) 0) some
]

asked_back : (n : ℕ) → n ≤ 1 → (if n == 1 then 1 else 0) ≡ n
asked_back zero few = refl
asked_back (suc zero) few = refl
asked_back (suc (suc n)) few = absurd (omega (arith, few))

written_back : (w : Written) → state_written w.state w.reason ≢ NoInstruction → w.asked ≤ 1 → written_of (standing_written w) ≡ w
written_back w some few =
    let codes = codes_back w.state w.reason some in
    let state = state_written w.state w.reason in
    let asked = if w.asked == 1 then 1 else 0 in
    let make : ℕ → ℕ → ℕ → ℕ → Written = λ m s r n. record { mate = m; state = s; reason = r; asked = n } in
    ap (λ m. make m (state_code state) (reason_code state) asked) (mate_back w.mate) ∙ ap (λ s. make w.mate s (reason_code state) asked) codes.0
    ∙ ap (λ r. make w.mate w.state r asked) codes.1 ∙ ap (λ n. make w.mate w.state w.reason n) (asked_back w.asked few)

-- ---- versions of the file

none_as : (version : Version) → as_said version no_standing ≡ no_standing
none_as First = refl
none_as Second = refl
none_as Third = refl

-- what has no entry stands nowhere, as a version tells it
pub within_as : (version : Version) (content : Content) → StandsWithin content → StandsWithin (content_as version content)
within_as version content within n out = ap (as_said version) (within n out) ∙ none_as version

-- ---- the table

none_or : (s : Stand) → (s ≡ NoInstruction) ⊎ (s ≢ NoInstruction)
none_or NoInstruction = inl refl
none_or Unmatched = inr (λ e. absurd (cc))
none_or (Matched reason) = inr (λ e. absurd (cc))
none_or Cancelled = inr (λ e. absurd (cc))
none_or Settled = inr (λ e. absurd (cc))

module _ (db : Database) (content : Content) (says : SaysStandings db content) (within : StandsWithin content) where
  abbrev held : List Row
  held = db.trees 8

  abbrev count : ℕ
  count = length content.register

  abbrev made : List Row
  made = numbered_from (wanted content.standing) 0 count

  -- the row of an instruction
  row_at : (m : ℕ) → (content.standing m).state ≢ NoInstruction
      → (r : Row) × (it : IsStandingRow r) × Among held r × (it.number ≡ m) × (content.standing m ≡ standing_written it.written) × (written_of (content.standing m) ≡ it.written)
  row_at m some =
      let found = row_of m held says.kept.rising says.kept.formed (λ none. some (ap (λ (s : Standing). s.state) (sym (says.each m)) ∙ none)) in
      let it = found.1 in
      let is : content.standing m ≡ standing_written it.written = sym (says.each m) ∙ found.4 in
      (found.0, it, found.2, found.3, is, ap written_of is ∙ written_back it.written it.instruction it.request)

  told : (m : ℕ) → IsTold m (content.standing m)
  told m = elim (none_or (content.standing m).state) [
    | inl none ↦ inl (sym (says.each m) ∙ nowhere m held says.kept.formed (ap (λ (s : Standing). s.state) (says.each m) ∙ none))
    | inr some ↦ (let at = row_at m some in inr (subst (λ n. n < 2 ^ 63) at.3 at.1.small, some, ap standing_written at.5 ∙ sym at.4))
  ]

  -- an instruction's number is an entry's
  entered : (m : ℕ) → (content.standing m).state ≢ NoInstruction → (0 < m) × (m ≤ count)
  entered m some = elim (cases_lt 0 m) [
    | inl low ↦ elim (cases_lt count m) [
      | inl above ↦ absurd (some (ap (λ (s : Standing). s.state) (within m (inr above))))
      | inr high ↦ (low, high)
    ]
    | inr none ↦ absurd (some (ap (λ (s : Standing). s.state) (within m (inl (omega (arith, none))))))
  ]

  -- each row is computed
  is_made : (r : Row) → Among held r → Among made r
  is_made r there =
      let it = at_among IsStandingRow held says.kept.formed r there in
      let m = it.number in
      let is : content.standing m ≡ standing_written it.written = sym (says.each m) ∙ row_says held says.kept.rising says.kept.formed r there it in
      let some : (content.standing m).state ≢ NoInstruction = λ none. it.instruction (ap (λ (s : Standing). s.state) (sym is) ∙ none) in
      let bounds = entered m some in
      let values = columns_of (written_of (content.standing m)) in
      let row : row_with m values ≡ r = ap (λ w. row_with m (columns_of w)) (ap written_of is ∙ written_back it.written it.instruction it.request) ∙ sym it.is in
      subst (Among made) row (among_made (wanted content.standing) 0 count m values bounds.0 (omega (arith, bounds.1)) (a_row (content.standing m).state values some))

  rows_made : held ≡ made
  rows_made = same_rows held made says.kept.rising (rises (wanted content.standing) 0 count) (all_weaker (Among held) (Among made) is_made held (all_among held))
      (each_row (wanted content.standing) (Among held) 0 count (λ m values low high is.
      let so = row_is (content.standing m).state (columns_of (written_of (content.standing m))) values is in
      let at = row_at m so.1 in
      let row : at.0 ≡ row_with m values = at.1.is ∙ ap (λ k. standing_row k at.1.written) at.3 ∙ ap (λ w. row_with m (columns_of w)) (sym at.5) ∙ ap (row_with m) (sym so.0) in
      subst (Among held) row at.2))

  pub tells_all : (rows : List Row) → rows ≡ map (shown_by 4) held → AreTold content.standing count rows
  tells_all rows is = record { shown = is ∙ ap (map (shown_by 4)) rows_made; each = λ k low. told (k + 1) }
