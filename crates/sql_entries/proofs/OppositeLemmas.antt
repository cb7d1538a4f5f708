-- The first instruction above a number that is opposite to one.
use Rattle.std.proofs.Common.{◌≡◌, ◌≢◌, inl, inr, ℕ, zero, suc, ◌+◌, ◌<◌, ◌^◌, ◌==◌, pos, nat_lt, List, [], ◌∷◌, length, filter, Bool, true, false, ◌&&◌, Option, None, Some, option_map, slice_get, IfSome, Ok, Err, Result, IfOk, Vec, refl, sym, ap, subst, ◌∙◌, arith}
use Rattle.std.specs.Prelude.{not, option_and_then}
use Rattle.std.specs.declared.alloc.Global.{Global}
use Rattle.std.specs.declared.cmp.Ordering.TheVariants.{Less}
use Rattle.std.specs.Ordering.{is_lt}
use Rattle.std.specs.Str.{bytes_eq}
use Rattle.std.proofs.lemmas.Bool.{and_from, and_parts, cases_lt, eq-eqb, eqb-true, lt-ltb, ltb-true}
use Rattle.std.proofs.lemmas.Slice.Eq.{bytes_eq-Decides}
use Rattle.sqlite.specs.Order.{Row, value_cmp}
use Rattle.sqlite.specs.declared.error.Error.{Error}
use Rattle.sqlite.specs.declared.types.Value.TheVariants.{Null, Int}
use Rattle.sqlite.specs.Ops.{binary}
use Rattle.sqlite.specs.Program.{overlay}
use Rattle.sqlite.specs.State.{State, Shown}
use Rattle.sqlite.specs.Term.{col}
use Rattle.sqlite.specs.Tree.{rowid}
use Rattle.sqlite.proofs.Callers.{reads_as}
use Rattle.desk_msg.specs.declared.mt.Mt.{Mt}
use Rattle.desk_msg.specs.declared.mt.Mt.TheVariants.{Mt540, Mt541, Mt542, Mt543, Mt544, Mt545, Mt546, Mt547}
use Rattle.desk_msg.specs.MessageType.{number_of_type, is_instruction, is_delivery, is_against_payment}
use Rattle.desk_msg.specs.Profile.{code_of_kind}
use Rattle.desk_rules.specs.declared.history.entry.Entry.{Entry}
use Rattle.desk_rules.specs.declared.history.entry.Entry.TheVariants.{Instruct}
use Rattle.desk_rules.specs.declared.answers.reply.Kept.{Kept}
use Rattle.desk_rules.specs.declared.answers.reply.Reply.{Reply}
use Rattle.desk_rules.specs.declared.history.entry.Instructed.{Instructed}
use Rattle.desk_rules.specs.History.{instructed, instruction_at, sender_of}
use Rattle.desk_rules.specs.Opposite.{AreOpposite}
use Rattle.sql_tables.specs.CashColumns.{amount_of, currency_of}
use Rattle.sql_tables.specs.Queries.{passes_all, rising, Among, IsFirst}
use Rattle.sql_tables.specs.Rows.{number_rows}
use Rattle.sql_tables.specs.Schema.{desk_schema}
use Rattle.sql_tables.proofs.ColumnLemmas.{one_cash, one_kind, one_type}
use Rattle.sql_tables.proofs.QueryLemmas.{among_filter, filter_among, first_row}
use Rattle.sql_tables.proofs.ValueLemmas.{equal_test, number_less, text_test}
use Rattle.sql_entries.specs.Columns.{columns_of, kind_number, sender_text}
use Rattle.sql_entries.specs.Entries.{AreEntries, entries_in, row_of, rows_from}
use Rattle.sql_entries.specs.Opposites.{IsNextOpposite, IsOppositeEntry, asked_for, opposite_type}
use Rattle.sql_entries.proofs.EffectLemmas.{entry_of, kept_past}
use Rattle.sql_entries.proofs.EntryLemmas.{row_with}
use Rattle.sql_entries.proofs.FindingTexts.{opposite_terms, opposite_text, finds_opposite}
use Rattle.sql_entries.proofs.RowLemmas.{number_above_test}

-- ---- the type on the other side

abbrev type_by : Bool → Bool → Mt
type_by false false = Mt540
type_by false true = Mt541
type_by true false = Mt542
type_by true true = Mt543

type_by_sides : (mt : Mt) → is_instruction mt ≡ true → mt ≡ type_by (is_delivery mt) (is_against_payment mt)
type_by_sides Mt540 is = refl
type_by_sides Mt541 is = refl
type_by_sides Mt542 is = refl
type_by_sides Mt543 is = refl
type_by_sides Mt544 is = absurd cc
type_by_sides Mt545 is = absurd cc
type_by_sides Mt546 is = absurd cc
type_by_sides Mt547 is = absurd cc

opposite_by_sides : (mt : Mt) → is_instruction mt ≡ true → opposite_type mt ≡ type_by (not (is_delivery mt)) (is_against_payment mt)
opposite_by_sides Mt540 is = refl
opposite_by_sides Mt541 is = refl
opposite_by_sides Mt542 is = refl
opposite_by_sides Mt543 is = refl
opposite_by_sides Mt544 is = absurd cc
opposite_by_sides Mt545 is = absurd cc
opposite_by_sides Mt546 is = absurd cc
opposite_by_sides Mt547 is = absurd cc

other_side : (mt : Mt) → is_delivery (opposite_type mt) ≢ is_delivery mt
other_side Mt540 e = cc
other_side Mt541 e = cc
other_side Mt542 e = cc
other_side Mt543 e = cc
other_side Mt544 e = cc
other_side Mt545 e = cc
other_side Mt546 e = cc
other_side Mt547 e = cc

same_payment : (mt : Mt) → is_against_payment (opposite_type mt) ≡ is_against_payment mt
same_payment Mt540 = refl
same_payment Mt541 = refl
same_payment Mt542 = refl
same_payment Mt543 = refl
same_payment Mt544 = refl
same_payment Mt545 = refl
same_payment Mt546 = refl
same_payment Mt547 = refl

differ : (a b : Bool) → a ≢ b → a ≡ not b
differ true true d = absurd (d refl)
differ true false d = refl
differ false true d = refl
differ false false d = absurd (d refl)

opposite_from_sides : (a b : Mt) → is_instruction a ≡ true → is_instruction b ≡ true → is_delivery a ≢ is_delivery b → is_against_payment a ≡ is_against_payment b → a ≡ opposite_type b
opposite_from_sides a b at bt sides payment =
    let one = type_by_sides a at in
    let two = opposite_by_sides b bt in
    let delivers = differ (is_delivery a) (is_delivery b) sides in
    one ∙ ap (λ d. type_by d (is_against_payment a)) delivers ∙ ap (type_by (not (is_delivery b))) payment ∙ sym two

-- ---- which entries are asked for

text_is : (s t : List ℕ) → bytes_eq s t ≡ true → s ≡ t
text_is s t = (bytes_eq-Decides s t).0

is_text : (s t : List ℕ) → s ≡ t → bytes_eq s t ≡ true
is_text s t = (bytes_eq-Decides s t).1

module _ (i : Instructed) (after : ℕ) where
  -- an instruction whose columns are what is asked for, one by one
  abbrev is_asked_for : ℕ → Entry → Bool
  is_asked_for number entry =
      (kind_number entry == 8)
      && (bytes_eq (columns_of entry).isin i.instruction.isin
      && (bytes_eq (columns_of entry).day i.instruction.day
      && (((columns_of entry).quantity == i.instruction.quantity)
      && (bytes_eq (sender_text (sender_of entry)) i.instruction.counterparty
      && (bytes_eq (columns_of entry).bic i.sender
      && (((columns_of entry).mt == number_of_type (opposite_type i.instruction.mt))
      && (bytes_eq (columns_of entry).unit (code_of_kind i.instruction.kind)
      && (bytes_eq (columns_of entry).currency (currency_of i.instruction.cash)
      && (((columns_of entry).amount == amount_of i.instruction.cash)
      && (nat_lt after number
      && true))))))))))

  abbrev test : Row → Bool
  test = passes_all opposite_terms (asked_for i after)

  asked_test : (number : ℕ) (entry : Entry) (reply : Reply) → test (row_of number entry reply) ≡ is_asked_for number entry
  unfolding binary
  asked_test number entry reply =
      let columns = columns_of entry in
      rw (
        equal_test (kind_number entry) 8,
        text_test columns.isin i.instruction.isin,
        text_test columns.day i.instruction.day,
        equal_test columns.quantity i.instruction.quantity,
        text_test (sender_text (sender_of entry)) i.instruction.counterparty,
        text_test columns.bic i.sender,
        equal_test columns.mt (number_of_type (opposite_type i.instruction.mt)),
        text_test columns.unit (code_of_kind i.instruction.kind),
        text_test columns.currency (currency_of i.instruction.cash),
        equal_test columns.amount (amount_of i.instruction.cash),
        number_above_test number after,
      ) refl

  opposite_if_asked : (number : ℕ) (entry : Entry) → is_asked_for number entry ≡ true → (other : Instructed) × (instructed entry ≡ Some other) × AreOpposite other i × (after < number)
  opposite_if_asked number (Instruct sender instruction) h =
      let j = i.instruction in
      let p0 = and_parts (bytes_eq instruction.isin j.isin) _ h in
      let p1 = and_parts (bytes_eq instruction.day j.day) _ p0.1 in
      let p2 = and_parts (instruction.quantity == j.quantity) _ p1.1 in
      let p3 = and_parts (bytes_eq sender j.counterparty) _ p2.1 in
      let p4 = and_parts (bytes_eq instruction.counterparty i.sender) _ p3.1 in
      let p5 = and_parts (number_of_type instruction.mt == number_of_type (opposite_type j.mt)) _ p4.1 in
      let p6 = and_parts (bytes_eq (code_of_kind instruction.kind) (code_of_kind j.kind)) _ p5.1 in
      let p7 = and_parts (bytes_eq (currency_of instruction.cash) (currency_of j.cash)) _ p6.1 in
      let p8 = and_parts (amount_of instruction.cash == amount_of j.cash) _ p7.1 in
      let p9 = and_parts (nat_lt after number) true p8.1 in
      let mt : instruction.mt ≡ opposite_type j.mt = one_type instruction.mt (opposite_type j.mt) (eqb-true _ _ p5.0) in (
        record { sender = sender; instruction = instruction },
        refl,
        record {
          sides = λ same. other_side j.mt (ap is_delivery (sym mt) ∙ same);
          payment = ap is_against_payment mt ∙ same_payment j.mt;
          isin = text_is _ _ p0.0;
          quantity = eqb-true _ _ p2.0;
          kind = one_kind instruction.kind j.kind (text_is _ _ p6.0);
          day = text_is _ _ p1.0;
          cash = one_cash instruction.cash j.cash (text_is _ _ p7.0) (eqb-true _ _ p8.0);
          names = text_is _ _ p4.0;
          is_named = sym (text_is _ _ p3.0);
        },
        ltb-true after number p9.0,
      )
  opposite_if_asked number _ h = absurd (cc)

  opposite_passes : (number : ℕ) (other : Instructed) → AreOpposite other i → after < number → is_asked_for number (Instruct other.sender other.instruction) ≡ true
  opposite_passes number other o above =
      let a = other.instruction in
      let b = i.instruction in
      let mt = opposite_from_sides a.mt b.mt a.instructs b.instructs o.sides o.payment in
      and_from (bytes_eq a.isin b.isin) _ (is_text _ _ o.isin)
      (and_from (bytes_eq a.day b.day) _ (is_text _ _ o.day)
      (and_from (a.quantity == b.quantity) _ (eq-eqb _ _ o.quantity)
      (and_from (bytes_eq other.sender b.counterparty) _ (is_text _ _ (sym o.is_named))
      (and_from (bytes_eq a.counterparty i.sender) _ (is_text _ _ o.names)
      (and_from (number_of_type a.mt == number_of_type (opposite_type b.mt)) _ (eq-eqb _ _ (ap number_of_type mt))
      (and_from (bytes_eq (code_of_kind a.kind) (code_of_kind b.kind)) _ (is_text _ _ (ap code_of_kind o.kind))
      (and_from (bytes_eq (currency_of a.cash) (currency_of b.cash)) _ (is_text _ _ (ap currency_of o.cash))
      (and_from (amount_of a.cash == amount_of b.cash) _ (eq-eqb _ _ (ap amount_of o.cash))
      (and_from (nat_lt after number) true (lt-ltb after number above) refl)))))))))

  asked_if_opposite : (number : ℕ) (entry : Entry) (other : Instructed) → instructed entry ≡ Some other → AreOpposite other i → after < number → is_asked_for number entry ≡ true
  asked_if_opposite number (Instruct sender instruction) other is o above =
      let same : other ≡ record { sender = sender; instruction = instruction } = cc in
      opposite_passes number (record { sender = sender; instruction = instruction }) (subst (λ a. AreOpposite a i) same o) above
  asked_if_opposite number _ other is o above = absurd (cc)

-- ---- the rows of the register, by their numbers

row_there : (k n : ℕ) (register : List Kept) (kept : Kept) → slice_get register k ≡ Some kept → Among (rows_from n register) (row_with (n + k + 1) kept)
row_there zero n [] kept is = absurd (cc)
row_there (suc k) n [] kept is = absurd (cc)
row_there zero n (first ∷ more) kept is =
    let own : kept ≡ first = cc in
    let same : n + 0 + 1 ≡ n + 1 = omega arith in
    inl (ap (λ m. row_with m kept) same ∙ ap (row_with (n + 1)) own)
row_there (suc k) n (first ∷ more) kept is =
    let same : n + 1 + k + 1 ≡ n + suc k + 1 = omega arith in
    inr (subst (λ m. Among (rows_from (n + 1) more) (row_with m kept)) same (row_there k (n + 1) more kept is))

there_row : (n : ℕ) (register : List Kept) (r : Row) → Among (rows_from n register) r → (k : ℕ) × (kept : Kept) × (slice_get register k ≡ Some kept) × (r ≡ row_with (n + k + 1) kept)
there_row n [] r among = absurd among
there_row n (first ∷ more) r (inl here) = (let same : n + 1 ≡ n + 0 + 1 = omega arith in (0, first, refl, here ∙ ap (λ m. row_with m first) same))
there_row n (first ∷ more) r (inr later) =
    let it = there_row (n + 1) more r later in
    let same : n + 1 + it.0 + 1 ≡ n + suc it.0 + 1 = omega arith in
    (suc it.0, it.1, it.2, it.3 ∙ ap (λ m. row_with m it.1) same)

-- what the entry of a number instructs
instruction_of : (register : List Kept) (k : ℕ) (found : Option Kept) → slice_get register k ≡ found → instruction_at (entries_in register) (suc k) ≡ option_and_then instructed (option_map (λ (kept : Kept). kept.entry) found)
instruction_of register k found is = ap (option_and_then instructed) (sym (entry_of register (suc k)) ∙ ap (option_map (λ (kept : Kept). kept.entry)) is)

-- ---- the first that passes

module _ (register : List Kept) (i : Instructed) (after : ℕ) where
  abbrev held : List Row
  held = rows_from 0 register

  abbrev history : List Entry
  history = entries_in register

  abbrev passing : List Row
  passing = filter (test i after) held

  -- the row of an opposite instruction passes
  shown_if_opposite : (number : ℕ) → after < number → IsOppositeEntry history i number → (row : Row) × (rowid row ≡ Int (pos number)) × Among passing row
  shown_if_opposite zero above o = absurd (omega (arith, above))
  shown_if_opposite (suc k) above o = go (slice_get register k) refl
    where
      go : (found : Option Kept) → slice_get register k ≡ found → (row : Row) × (rowid row ≡ Int (pos (suc k))) × Among passing row
      go None is = absurd (let e : ◌≡◌ {A = Option Instructed} None (Some o.other) = sym (instruction_of register k None is) ∙ o.is_other in cc)
      go (Some kept) is =
          let instructs : instructed kept.entry ≡ Some o.other = sym (instruction_of register k (Some kept) is) ∙ o.is_other in
          let same : 0 + k + 1 ≡ suc k = omega arith in
          let there : Among held (row_with (suc k) kept) = subst (λ m. Among held (row_with m kept)) same (row_there k 0 register kept is) in (
            row_with (suc k) kept,
            refl,
            filter_among (test i after) held (row_with (suc k) kept) there (asked_test i after (suc k) kept.entry kept.reply ∙ asked_if_opposite i after (suc k) kept.entry o.other instructs o.opposite above),
          )

  -- a row that passes is that of an opposite instruction
  opposite_if_shown : (r : Row) → Among passing r → (number : ℕ) × (rowid r ≡ Int (pos number)) × (after < number) × IsOppositeEntry history i number
  opposite_if_shown r among =
      let it = among_filter (test i after) held r among in
      let at = there_row 0 register r it.0 in
      let number = suc at.0 in
      let same : 0 + at.0 + 1 ≡ suc at.0 = omega arith in
      let is : r ≡ row_with number at.1 = at.3 ∙ ap (λ m. row_with m at.1) same in
      let o = opposite_if_asked i after number at.1.entry (sym (asked_test i after number at.1.entry at.1.reply) ∙ ap (test i after) (sym is) ∙ it.1) in
      (number, ap rowid is, o.3, record { other = o.0; is_other = instruction_of register at.0 (Some at.1) at.2 ∙ o.1; opposite = o.2 })

  least : (number : ℕ) (r : Row) → rowid r ≡ Int (pos number) → ((s : Row) → Among passing s → is_lt (value_cmp (rowid s) (rowid r)) ≡ false) → (lesser : ℕ) → after < lesser → lesser < number
      → IsOppositeEntry history i lesser → ⊥
  least number r is none lesser above low o =
      let it = shown_if_opposite lesser above o in
      let below : value_cmp (rowid it.0) (rowid r) ≡ Less = ap (λ v. value_cmp v (rowid r)) it.1 ∙ ap (value_cmp (Int (pos lesser))) is ∙ number_less lesser number low in
      let bad : true ≡ false = sym (ap is_lt below) ∙ none it.0 it.2 in
      cc

  next_from : (rows : List Row) → IsFirst passing (asked_for i after) (col 1 0 ∷ []) (col 1 0) rising rows → (found : Option ℕ) × (rows ≡ number_rows found) × IsNextOpposite history i after found
  next_from rows (inl none) = (None, none.0, λ number above o. let it = shown_if_opposite number above o in subst (λ xs. Among xs it.0) none.1 it.2)
  next_from rows (inr one) =
      let at = opposite_if_shown one.0 one.1 in
      (Some at.0, one.2 ∙ ap (λ v. (v ∷ []) ∷ []) at.1, (at.2, at.3, least at.0 one.0 at.1 one.3))

  -- its number is one of the register's
  pub next_is_small : length register < 2 ^ 63 → (found : Option ℕ) → IsNextOpposite history i after found → IfSome found (λ n. n < 2 ^ 63)
  next_is_small few None next = tt
  next_is_small few (Some zero) next = absurd (omega (arith, next.0))
  next_is_small few (Some (suc k)) next = elim (cases_lt (length register) (suc k)) [
    | inl past ↦ absurd (let e : ◌≡◌ {A = Option Instructed} None (Some next.1.other) = sym (instruction_of register k None (kept_past register (suc k) past)) ∙ next.1.is_other in cc)
    | inr there ↦ omega (arith, few, there)
  ]

pub opposite_shown : (old new : State) → old.now.schema ≡ desk_schema → (register : List Kept) → AreEntries old.now register → (i : Instructed) (after : ℕ) (r : Result (Vec Row Global) Error)
    → IfOk r (λ rows. Shown opposite_text (asked_for i after) old new rows.items) → IfOk r (λ rows. (found : Option ℕ) × (rows.items ≡ number_rows found) × IsNextOpposite (entries_in register) i after found)
opposite_shown old new has register are i after (Ok rows) h =
    let params = asked_for i after in
    let answers = reads_as opposite_text params old new desk_schema has _ finds_opposite.is finds_opposite.query.plain finds_opposite.query.unlisted rows.items h in
    next_from register i after rows.items
    (subst (λ held. IsFirst (filter (test i after) held) params (col 1 0 ∷ []) (col 1 0) rising rows.items) are.rows
    (first_row 6 opposite_terms (col 1 0 ∷ []) (col 1 0) rising (overlay old.now.trees []) params rows.items (answers.answer Null)))
opposite_shown old new has register are i after (Err e) h = tt
