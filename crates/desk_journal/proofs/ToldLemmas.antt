-- What the entry of a number caused to be sent, as it is noted: by its kind, and where there is none.
use Rattle.std.proofs.Common.{◌≡◌, ℕ, ◌*◌, inl, inr, if◌then◌else◌, List, [], ◌∷◌, ◌++◌, map, Option, Some, None, refl, sym, ap, ◌∙◌, arith}
use Rattle.std.specs.Prelude.{◌==◌, nat_lt, option_and_then, replicate}
use Rattle.std.specs.List.{flat_map}
use Rattle.std.proofs.lemmas.Bool.{cases_Bool, cases_lt, eqb-true, le-ltb, lt-ltb}
use Rattle.desk_msg.specs.declared.instruction.Instruction.{Instruction}
use Rattle.desk_rules.specs.declared.answers.reply.Notice.{Notice}
use Rattle.desk_rules.specs.declared.history.entry.Entry.{Entry}
use Rattle.desk_rules.specs.declared.history.entry.Entry.TheVariants.{Participant, Account, Security, Issue, Redeem, PayIn, PayOut, Instruct, Cancel, Run}
use Rattle.desk_rules.specs.declared.history.entry.Instructed.{Instructed}
use Rattle.desk_rules.specs.declared.history.entry.RunRule.{RunRule}
use Rattle.desk_rules.specs.Books.{Books, AreBooks}
use Rattle.desk_rules.specs.Content.{Content, history_of}
use Rattle.desk_rules.specs.History.{entry_at, instructed, instruction_at, run_day}
use Rattle.desk_rules.specs.Pairing.{mate_of}
use Rattle.desk_rules.specs.Sent.{told_by, told_of_pair, told_of_settled}
use Rattle.desk_rules.specs.Settlement.{day_of, settled_count}
use Rattle.desk_rules.specs.Tables.{AreTables}
use Rattle.desk_rules.proofs.Decided.{Contains-from_In}
use Rattle.desk_rules.proofs.SentFronts.{flat-none, if_not}
use Rattle.desk_rules.proofs.SettlementLemmas.{by_some, due_facts}
use Rattle.desk_journal.specs.Sending.{advice_if, blank}
use Rattle.desk_journal.proofs.CauseLemmas.{told_none, told_paired, told_run, told_unpaired}

-- what is neither an instruction nor a run
no_instruction : (e : Entry) → ((sender : List ℕ) (instruction : Instruction) → e ≡ Instruct sender instruction → ⊥) → instructed e ≡ None
no_instruction (Participant reference bic) other = refl
no_instruction (Account reference bic account) other = refl
no_instruction (Security reference isin kind) other = refl
no_instruction (Issue movement) other = refl
no_instruction (Redeem movement) other = refl
no_instruction (PayIn payment) other = refl
no_instruction (PayOut payment) other = refl
no_instruction (Instruct sender instruction) other = absurd (other sender instruction refl)
no_instruction (Cancel sender order) other = refl
no_instruction (Run reference day rule) other = refl

no_run : (e : Entry) → ((reference day : List ℕ) (rule : RunRule) → e ≡ Run reference day rule → ⊥) → run_day e ≡ None
no_run (Participant reference bic) other = refl
no_run (Account reference bic account) other = refl
no_run (Security reference isin kind) other = refl
no_run (Issue movement) other = refl
no_run (Redeem movement) other = refl
no_run (PayIn payment) other = refl
no_run (PayOut payment) other = refl
no_run (Instruct sender instruction) other = refl
no_run (Cancel sender order) other = refl
no_run (Run reference day rule) other = absurd (other reference day rule refl)

none_some : {X : Type 0} (o : Option X) (x : X) → o ≡ None → o ≡ Some x → ⊥
none_some o x none some = absurd (cc)

-- where there is no entry, nothing is told
nothing_told : (books : Books) → AreBooks books → (n : ℕ) → entry_at books.history n ≡ None → told_by books n ≡ []
nothing_told books are n none = ap (λ z. z ++ flat_map (told_of_settled books.history n) books.settled) by_pairs ∙ by_settled
  where
    by_pairs : flat_map (told_of_pair n) books.pairs ≡ []
    by_pairs = flat-none (told_of_pair n) books.pairs (λ p i. if_not (p.later == n) _ [] (elim (cases_Bool (p.later == n)) [
      | inr other ↦ other
      | inl same ↦
          let mate = (are.pairing.exact p).0 (Contains-from_In books.pairs p i) in
          let opposite = mate.candidate.opposite in
          absurd (none_some (instruction_at books.history n) opposite.second (ap (option_and_then instructed) none) (ap (instruction_at books.history) (sym (eqb-true p.later n same)) ∙ opposite.is_second))
    ]))

    by_settled : flat_map (told_of_settled books.history n) books.settled ≡ []
    by_settled = flat-none (told_of_settled books.history n) books.settled (λ s i. if_not (s.run == n) _ [] (elim (cases_Bool (s.run == n)) [
      | inr other ↦ other
      | inl same ↦
          let settles = (are.settlement.exact s).0 (Contains-from_In books.settled s i) in
          let found = by_some run_day (entry_at books.history s.run) (day_of books.history s.pair) (due_facts books.history s.run s.pair settles.due).by in
          absurd (none_some (entry_at books.history n) found.0 none (ap (entry_at books.history) (sym (eqb-true s.run n same)) ∙ found.1))
    ]))

abbrev one_advice : ℕ → List Notice
one_advice m = record { about = m; run = None } ∷ []

-- an instruction tells an advice, where it is paired with an earlier one
advice_told : (books : Books) → AreBooks books → (n : ℕ) (i : Instructed) → instruction_at books.history n ≡ Some i → (mate : Option ℕ) → mate_of books.pairs n ≡ mate → map blank (told_by books n) ≡ advice_if n mate
advice_told books are n i is None alone = ap (map blank) (told_unpaired books are n i is (λ k has lt. none_some (mate_of books.pairs n) k alone has))
advice_told books are n i is (Some m) mate = elim (cases_lt m n) [
  | inl lt ↦
      ap (map blank) (told_paired books are n m i is mate lt)
      ∙ ap (λ b. if b then one_advice m else []) (sym (lt-ltb m n lt))
  | inr ge ↦
      ap (map blank) (told_unpaired books are n i is (λ k has lt. let same = one_mate m k (sym mate ∙ has) in absurd (omega (arith, lt, ge, same))))
      ∙ sym (if_not (nat_lt m n) _ [] (le-ltb m n ge))
]
  where
    one_mate : (a b : ℕ) → Some a ≡ Some b → a ≡ b
    one_mate a b e = cc

module _ (content : Content) (books : Books) (are : AreTables books content) (n : ℕ) where
  in_books : (o : Option Entry) → entry_at (history_of content) n ≡ o → entry_at books.history n ≡ o
  in_books o is = ap (λ h. entry_at h n) (sym are.history) ∙ is

  pub by_instruction : (sender : List ℕ) (instruction : Instruction) → entry_at (history_of content) n ≡ Some (Instruct sender instruction) → advice_if n (mate_of books.pairs n) ≡ map blank (told_by books n)
  by_instruction sender instruction is =
      sym (advice_told books are.are n (record { sender = sender; instruction = instruction }) (ap (option_and_then instructed) (in_books (Some (Instruct sender instruction)) is)) (mate_of books.pairs n) refl)

  pub by_run : (reference day : List ℕ) (rule : RunRule) → entry_at (history_of content) n ≡ Some (Run reference day rule) → (settled : ℕ) → settled ≡ settled_count books.settled n
      → replicate (2 * settled) (record { about = 0; run = Some n }) ≡ map blank (told_by books n)
  by_run reference day rule is settled same =
      ap (λ k. replicate (2 * k) (record { about = 0; run = Some n })) same ∙ sym (told_run books are.are n reference day rule (in_books (Some (Run reference day rule)) is))

  pub by_other : (e : Entry) → entry_at (history_of content) n ≡ Some e → ((sender : List ℕ) (instruction : Instruction) → e ≡ Instruct sender instruction → ⊥)
      → ((reference day : List ℕ) (rule : RunRule) → e ≡ Run reference day rule → ⊥) → [] ≡ map blank (told_by books n)
  by_other e is not_instruct not_run = sym (ap (map blank) (told_none books are.are n e (in_books (Some e) is) (no_instruction e not_instruct) (no_run e not_run)))

  pub by_none : entry_at (history_of content) n ≡ None → [] ≡ map blank (told_by books n)
  by_none is = sym (ap (map blank) (nothing_told books are.are n (in_books None is)))
