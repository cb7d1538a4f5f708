-- A pass that begins, one that is over, and a run that has made its passes and is added.
use Rattle.std.proofs.Common.{◌≡◌, ◌≢◌, inl, inr, ℕ, ◌+◌, ◌<◌, ◌≤◌, ◌==◌, Bool, true, false, ◌&&◌, List, [], ◌∷◌, ◌++◌, length, Contains, Option, Some, None, refl, ap, sym, ◌∙◌, subst, arith, length-append, append-nil, if◌then◌else◌}
use Rattle.std.specs.Prelude.{option_and_then, nat_lt, Result, Ok, Err, OnOk}
use Rattle.std.proofs.lemmas.Bool.{cases_Bool, cases_lt, cases_eq, ne_eqb, both_ways}
use Rattle.std.proofs.lemmas.Bool.Decides.{nat_tests}
use Rattle.std.proofs.lemmas.List.Elements.{filter-append}
use Rattle.desk_codes.specs.Number.{number_of}
use Rattle.desk_rules.specs.declared.history.entry.Entry.{Entry}
use Rattle.desk_rules.specs.declared.history.entry.Entry.TheVariants.{Run}
use Rattle.desk_rules.specs.declared.history.entry.RunRule.{RunRule}
use Rattle.desk_rules.specs.declared.history.pair.Pair.{Pair}
use Rattle.desk_rules.specs.declared.history.pair.Settled.{Settled}
use Rattle.desk_register.specs.declared.register.Fault.{Fault}
use Rattle.desk_rules.specs.declared.answers.reply.Reply.{Reply}
use Rattle.desk_rules.specs.declared.history.standing.State.{State}
use Rattle.desk_rules.specs.declared.history.standing.State.TheVariants as states
use Rattle.desk_rules.specs.declared.history.standing.State.TheVariants.{NoInstruction, Unmatched, Matched, Cancelled}
use Rattle.desk_msg.specs.declared.writing.status.Reason.{Reason}
use Rattle.desk_rules.specs.declared.history.standing.Standing.{Standing}
use Rattle.desk_rules.specs.declared.answers.verdict.Verdict.TheVariants.{Accept}
use Rattle.desk_rules.specs.declared.history.entry.Instructed.{Instructed}
use Rattle.desk_rules.specs.History.{before, instruction_at, instructed}
use Rattle.desk_rules.specs.Cancelled.{is_cancel_requested, is_cancelled_pair}
use Rattle.desk_rules.specs.Balances.{credits, debits, cash_credits, cash_debits}
use Rattle.desk_rules.specs.Covered.{lack_of}
use Rattle.desk_rules.specs.Pairing.{IsPairing}
use Rattle.desk_rules.specs.Settlement.{IsSettlement, is_due, precedes, settled_before, pass_begins, is_in_passes, last_pass, passes_of}
use Rattle.desk_rules.specs.Books.{Books, AreBooks}
use Rattle.desk_rules.specs.Standing.{reason_of_lack}
use Rattle.desk_rules.specs.Verdict.{WasAccepted, IsVerdict}
use Rattle.desk_rules.specs.Content.{Content, history_of}
use Rattle.desk_rules.specs.Stands.{reason_found, IsReason, IsInPair, StandsAt, StandsSo}
use Rattle.desk_register.specs.Changes.{appended}
use Rattle.desk_engine.specs.Tables.{Tables, Grown}
use Rattle.desk_engine.specs.Pass.{HasPassed, HasToldSoFar, IsPassed, PassesAt, PassesSo, IsUnderway, IsOver, found_in, is_below, books_after}
use Rattle.desk_rules.proofs.Decided.{In, In-from_Contains, Contains-from_In, filter-none, filter-same, not_back}
use Rattle.desk_rules.proofs.Existence.{run_unpaired}
use Rattle.desk_rules.proofs.HistoryLemmas.{entry_at-end, before-front, before-all, instruction_at-known, instruction_at-front}
use Rattle.desk_rules.proofs.PairingLemmas.{pairing_alone}
use Rattle.desk_rules.proofs.BalanceLemmas.{IsIn, credits-entry, debits-entry, cash_credits-entry, cash_debits-entry}
use Rattle.desk_rules.proofs.SettlementLemmas.{due_facts, due_known, precedes_strict, precedes_run, begins_first}
use Rattle.desk_rules.proofs.SettlementGrowth.{as_far_decided, decided_as_far, run_begins, run_ends, is_due-front, precedes-front, in_passes-front}
use Rattle.desk_rules.proofs.NothingLeft.{begins_counted, counted_begins}
use Rattle.desk_engine.proofs.WaitingLemmas.{settled_and_left}
use Rattle.desk_engine.proofs.TablesLemmas.{accepted_more, beyond, history_more, length_is, not_cancelled, pairs_known, settled_known}

-- what a later run settles changes no pass of an earlier one
last_pass-none : (ss : List Settled) (run : ℕ) → ((s : Settled) → In ss s → s.run ≢ run) → last_pass ss run ≡ 0
last_pass-none [] run none = refl
last_pass-none (s ∷ ss) run none =
    let other : s.run == run ≡ false = ne_eqb s.run run (none s (inl refl)) in
    ap (λ b. if b && nat_lt (last_pass ss run) s.pass then s.pass else last_pass ss run) other ∙ last_pass-none ss run (λ t i. none t (inr i))

last_pass-other : (ss more : List Settled) (run : ℕ) → ((s : Settled) → In more s → s.run ≢ run) → last_pass (ss ++ more) run ≡ last_pass ss run
last_pass-other [] more run none = last_pass-none more run none
last_pass-other (s ∷ ss) more run none = ap (λ n. if s.run == run && nat_lt n s.pass then s.pass else n) (last_pass-other ss more run none)

module _ (books : Books) (reference day : List ℕ) (rule : RunRule) (pass : ℕ) (start settled : List Settled) (count waiting : ℕ) (content : Content) (are : AreBooks books)
    (over : IsOver books (Run reference day rule) pass start settled count waiting content) where
  longer : length (books.history ++ Run reference day rule ∷ []) ≡ length books.history + 1
  longer = length-append books.history (Run reference day rule ∷ [])

  -- the next pass begins
  pub next_begins : pass_begins (books.history ++ Run reference day rule ∷ []) settled (length books.history + 1) (pass + 1) ≡ true → IsUnderway books (Run reference day rule) (pass + 1) None settled content
  next_begins begun = record {
    passing = record {
      history = over.passing.history;
      standing = λ k. again k (instruction_at books.history k) (content.standing k) (over.passing.standing k);
      position = over.passing.position;
      cash = over.passing.cash;
    };
    reached = over.reached;
    begun = begun;
    further = over.further;
  }
    where
      again_so : (k : ℕ) (mate : Option ℕ) (state : State) → PassesSo books (Run reference day rule) pass (λ p. true) settled k mate state
          → PassesSo books (Run reference day rule) (pass + 1) (is_below books (Run reference day rule) None) settled k mate state
      again_so k mate NoInstruction x = x
      again_so k mate Unmatched x = x
      again_so k mate Cancelled x = x
      again_so k mate (Matched reason) x = record { pair = x.pair; in_pair = x.in_pair; not_due = x.not_due; tried = λ due low. absurd (cc) }
      again_so k mate states.Settled x = x

      again : (k : ℕ) (o : Option Instructed) (st : Standing) → PassesAt books (Run reference day rule) pass (λ p. true) settled k o st
          → PassesAt books (Run reference day rule) (pass + 1) (is_below books (Run reference day rule) None) settled k o st
      again k None st x = x
      again k (Some i) st x = record { so = again_so k st.mate st.state x.so; requested = x.requested }

  -- The run has made its passes, where the next does not begin.
  module _ (last : pass_begins (books.history ++ Run reference day rule ∷ []) settled (length books.history + 1) (pass + 1) ≡ false) where
    settlement : IsSettlement (books.history ++ Run reference day rule ∷ []) books.pairs settled
    settlement = run_ends (books.history ++ Run reference day rule ∷ []) books.pairs settled (length books.history + 1) (pass + 1) (sym longer) (omega arith) (decided_as_far over.reached) last

    pub passes_is : passes_of (books.history ++ Run reference day rule ∷ []) settled (length books.history + 1) ≡ pass
    passes_is =
        let g = books.history ++ Run reference day rule ∷ [] in
        let n = length books.history + 1 in
        let here = begins_counted g books.pairs settled settlement n pass over.begun in
        let most : pass ≤ passes_of g settled n = here.1 in
        elim (cases_lt pass (passes_of g settled n)) [
          | inl more ↦ absurd (both_ways _ last (counted_begins g books.pairs settled settlement n (pass + 1) (omega arith) (omega arith)))
          | inr no_more ↦ omega arith
        ]

    -- what stood before an earlier run stands there still
    passes_earlier : (r : ℕ) → r ≤ length books.history → passes_of (books.history ++ Run reference day rule ∷ []) settled r ≡ passes_of books.history books.settled r
    passes_earlier r known =
        let g = books.history ++ Run reference day rule ∷ [] in
        let others : (s : Settled) → In over.further.more s → s.run ≢ r = λ s i e. (let at = over.further.of_run s (Contains-from_In over.further.more s i) in omega arith) in
        let same : last_pass settled r ≡ last_pass books.settled r = ap (λ z. last_pass z r) over.further.is_more ∙ last_pass-other books.settled over.further.more r others in
        ap (λ b. if b then last_pass settled r + 1 else 1) (in_passes-front books.history (Run reference day rule ∷ []) r known)
        ∙ ap (λ n. if is_in_passes books.history r then n + 1 else 1) same

    settled_earlier : (p : Pair) (r k : ℕ) → p.later ≤ length books.history → r ≤ length books.history
        → settled_before (books.history ++ Run reference day rule ∷ []) (record { run = r; pass = k; pair = p }) settled ≡ settled_before books.history (record { run = r; pass = k; pair = p }) books.settled
    settled_earlier p r k le known =
        let g = books.history ++ Run reference day rule ∷ [] in
        let t : Settled = record { run = r; pass = k; pair = p } in
        ap (λ z. settled_before g t z) over.further.is_more ∙ filter-append (λ s. precedes g s t) books.settled over.further.more
        ∙ ap (λ z. settled_before g t books.settled ++ z) (filter-none (λ s. precedes g s t) over.further.more (λ s i.
        let at : s.run ≡ length books.history + 1 = over.further.of_run s (Contains-from_In over.further.more s i) in
        not_back (precedes g) (precedes_strict g) t s (precedes_run g t s (omega arith))))
        ∙ append-nil (settled_before g t books.settled)
        ∙ filter-same (λ s. precedes g s t) (λ s. precedes books.history s t) books.settled (λ s i.
        let ranged = settled_known books.history books.pairs books.settled are.settlement s i in
        let a : s.pair.later < s.run = ranged.numbered in
        let b : s.run ≤ length books.history = ranged.run in
        precedes-front books.history (Run reference day rule ∷ []) s t (omega arith) le)

    found_earlier : (p : Pair) (r : ℕ) → p.later ≤ length books.history → r ≤ length books.history → reason_found books p r ≡ reason_found (books_after books (Run reference day rule) settled) p r
    found_earlier p r le known =
        let g = books.history ++ Run reference day rule ∷ [] in
        let k = passes_of books.history books.settled r in
        sym (ap (λ z. reason_of_lack (lack_of (before r g) (settled_before g (record { run = r; pass = z; pair = p }) settled) p)) (passes_earlier r known)
        ∙ ap (λ z. reason_of_lack (lack_of z (settled_before g (record { run = r; pass = k; pair = p }) settled) p)) (before-front books.history (Run reference day rule ∷ []) r (omega arith))
        ∙ ap (λ z. reason_of_lack (lack_of (before r books.history) z p)) (settled_earlier p r k le known))

    -- a pair that this run did not try
    due_earlier : (p : Pair) (r : ℕ) → is_due (books.history ++ Run reference day rule ∷ []) (length books.history + 1) p ≡ false
        → is_due (books.history ++ Run reference day rule ∷ []) r p ≡ true → (r ≤ length books.history) × (is_due books.history r p ≡ true)
    due_earlier p r not_now due =
        let g = books.history ++ Run reference day rule ∷ [] in
        let known : r ≤ length g = due_known g r p due in
        let f = due_facts g r p due in
        elim (cases_lt r (length books.history + 1)) [
          | inl lt ↦ (omega arith, sym (is_due-front books.history (Run reference day rule ∷ []) r p (omega arith) f.numbered) ∙ due)
          | inr ge ↦ absurd (let at : r ≡ length books.history + 1 = (let l = longer in omega arith) in let P : ℕ → Type 0 = λ k. is_due g k p ≡ true in both_ways _ not_now (subst P at due))
        ]

    reason_on : (p : Pair) (reason : Reason) → p.later ≤ length books.history → is_due (books.history ++ Run reference day rule ∷ []) (length books.history + 1) p ≡ false
        → IsReason books p reason → IsReason (books_after books (Run reference day rule) settled) p reason
    reason_on p reason le not_now (inl why) = inl (record {
      none = λ run lt due. (let old = due_earlier p run not_now due in let low : run ≤ length books.history = old.0 in why.none run (omega arith) old.1);
      future = why.future;
    })
    reason_on p reason le not_now (inr why) =
        let known : why.run ≤ length books.history = due_known books.history why.run p why.due in
        let f = due_facts books.history why.run p why.due in
        inr (record {
          run = why.run;
          below = let l = longer in omega arith;
          due = is_due-front books.history (Run reference day rule ∷ []) why.run p known f.numbered ∙ why.due;
          last = λ later above lt due. (let old = due_earlier p later not_now due in let low : later ≤ length books.history = old.0 in why.last later above (omega arith) old.1);
          found = why.found ∙ found_earlier p why.run le known;
        })

    -- a pair that it has tried, last in its last pass
    this_reason : (p : Pair) (reason : Reason) → is_due (books.history ++ Run reference day rule ∷ []) (length books.history + 1) p ≡ true → reason ≡ found_in books (Run reference day rule) pass settled p
        → IsReason (books_after books (Run reference day rule) settled) p reason
    this_reason p reason due is =
        let g = books.history ++ Run reference day rule ∷ [] in
        let n = length books.history + 1 in
        inr (record {
          run = n;
          below = let l = longer in omega arith;
          due = due;
          last = λ later above lt now. absurd (let l = longer in omega arith);
          found =
              is
              ∙ ap (λ k. reason_of_lack (lack_of books.history (settled_before g (record { run = n; pass = k; pair = p }) settled) p)) (sym passes_is)
              ∙ ap (λ h. reason_of_lack (lack_of h (settled_before g (record { run = n; pass = passes_of g settled n; pair = p }) settled) p)) (sym (before-all books.history (Run reference day rule ∷ []) n refl));
        })

    requested_same : (k : ℕ) → k ≤ length books.history → is_cancel_requested (books.history ++ Run reference day rule ∷ []) k ≡ is_cancel_requested books.history k
    requested_same k le = not_cancelled books.history (Run reference day rule) k le (λ i at. refl)

    in_order : (p : Pair) → Contains books.pairs p → (p.earlier ≤ length books.history) × (p.later ≤ length books.history)
    in_order p c =
        let within = pairs_known books.history books.pairs are.pairing p (In-from_Contains books.pairs p c) in
        (within.earlier, within.later)

    gone_same : (p : Pair) → Contains books.pairs p → is_cancelled_pair (books.history ++ Run reference day rule ∷ []) p ≡ is_cancelled_pair books.history p
    gone_same p c =
        let known = in_order p c in
        ap (λ b. b && is_cancel_requested (books.history ++ Run reference day rule ∷ []) p.later) (requested_same p.earlier known.0)
        ∙ ap (λ b. is_cancel_requested books.history p.earlier && b) (requested_same p.later known.1)

    in_pair_after : (k : ℕ) (mate : Option ℕ) (p : Pair) (gone : Bool) → IsInPair (record books { settled = settled }) k mate p gone → IsInPair (books_after books (Run reference day rule) settled) k mate p gone
    in_pair_after k mate p gone x = record { paired = x.paired; side = x.side; other = x.other; unsettled = x.unsettled; gone = gone_same p x.paired ∙ x.gone }

    stands_so : (k : ℕ) (mate : Option ℕ) (state : State) → k ≤ length books.history → PassesSo books (Run reference day rule) pass (λ p. true) settled k mate state
        → StandsSo (books_after books (Run reference day rule) settled) k mate state
    stands_so k mate NoInstruction le x = x
    stands_so k mate Unmatched le x = record { none = x.none; free = x.free; gone = requested_same k le ∙ x.gone }
    stands_so k mate Cancelled le (inl x) = inl (record { none = x.none; free = x.free; gone = requested_same k le ∙ x.gone })
    stands_so k mate Cancelled le (inr x) = inr (record { pair = x.pair; in_pair = in_pair_after k mate x.pair true x.in_pair })
    stands_so k mate (Matched reason) le x =
        let known = in_order x.pair x.in_pair.paired in
        record {
          pair = x.pair;
          in_pair = in_pair_after k mate x.pair false x.in_pair;
          why = elim (cases_Bool (is_due (books.history ++ Run reference day rule ∷ []) (length books.history + 1) x.pair)) [
            | inl due ↦ this_reason x.pair reason due (x.tried due refl)
            | inr out ↦ reason_on x.pair reason known.1 out (x.not_due out)
          ];
        }
    stands_so k mate states.Settled le x = record { settlement = x.settlement; settled = x.settled; side = x.side; other = x.other }

    stands_at : (k : ℕ) (o : Option Instructed) (st : Standing) → instruction_at books.history k ≡ o → PassesAt books (Run reference day rule) pass (λ p. true) settled k o st
        → StandsAt (books_after books (Run reference day rule) settled) k o st
    stands_at k None st at x = x
    stands_at k (Some i) st at x =
        let known = instruction_at-known books.history k i at in
        record { so = stands_so k st.mate st.state known.1 x.so; requested = x.requested ∙ sym (requested_same k known.1) }

    pub has_passed : HasPassed books (Run reference day rule) settled content
    has_passed = record {
      history = over.passing.history;
      settlement = settlement;
      standing = λ k. stands_at k (instruction_at books.history k) (content.standing k) refl (over.passing.standing k);
      position = over.passing.position;
      cash = over.passing.cash;
    }

-- The run is added.

pub tables_after_run : (limit : ℕ) (books : Books) (reference day : List ℕ) (rule : RunRule) (settled : List Settled) (content : Content) (reply : Reply) → AreBooks books → WasAccepted limit books.history
    → IsVerdict limit books (Run reference day rule) Accept → HasPassed books (Run reference day rule) settled content → HasToldSoFar books (Run reference day rule) settled content
    → Tables limit (record { history = books.history ++ Run reference day rule ∷ []; pairs = books.pairs; settled = settled }) (appended (Run reference day rule) reply content)
tables_after_run limit books reference day rule settled content reply are was verdict passed told =
    let h = books.history in
    let e : Entry = Run reference day rule in
    let number : length content.register ≡ length h = length_is content h passed.history in
    let pairing : IsPairing (h ++ e ∷ []) books.pairs = pairing_alone h e books.pairs are.pairing (λ k c. run_unpaired h e books.pairs (number_of day) k refl c) in
    let l = length-append h (e ∷ []) in
    let within : (s : Settled) → In settled s → IsIn h s.pair = λ s i.
    let r = settled_known (h ++ e ∷ []) books.pairs settled passed.settlement s i in
    let a : s.pair.later < s.run = r.numbered in
    let b : s.run ≤ length (h ++ e ∷ []) = r.run in
    let c = (passed.settlement.exact s).0 (Contains-from_In settled s i) in
    let mate = (are.pairing.exact s.pair).0 c.paired in
    let less : s.pair.earlier < s.pair.later = mate.candidate.earlier in
    record { earlier = omega arith; later = omega arith } in
    record {
      history = history_more content e reply h passed.history;
      are_books = record { pairing = pairing; settlement = passed.settlement };
      accepted = accepted_more limit books e are was verdict;
      standing = λ k. elim (cases_eq k (length h + 1)) [
        | inl last ↦
            let new : k == length content.register + 1 ≡ true = grind (arith, nat_tests) in
            let nothing : instruction_at (h ++ e ∷ []) k ≡ None = ap (option_and_then instructed) (entry_at-end h e k last) in
            rw (new, nothing) refl
        | inr other ↦
            let old : k == length content.register + 1 ≡ false = ne_eqb k (length content.register + 1) (λ (q : k ≡ length content.register + 1). other (omega arith)) in
            let P : Option Instructed → Type 0 = λ o. StandsAt (record { history = h ++ e ∷ []; pairs = books.pairs; settled = settled }) k o (content.standing k) in
            let same : instruction_at (h ++ e ∷ []) k ≡ instruction_at h k = elim (cases_lt (length h) k) [
              | inr le ↦ instruction_at-front h (e ∷ []) k le
              | inl above ↦ beyond (h ++ e ∷ []) k (omega arith) ∙ sym (beyond h k above)
            ] in
            rw old (subst P (sym same) (passed.standing k))
      ];
      position = λ account isin.
          let more = credits-entry h e settled within account isin in
          let less = debits-entry h e settled within account isin in
          let here : content.position account isin + debits h settled account isin ≡ credits h settled account isin = passed.position account isin in
          omega arith;
      cash = λ bic ccy.
          let more = cash_credits-entry h e settled within bic ccy in
          let less = cash_debits-entry h e settled within bic ccy in
          let here : content.cash bic ccy + cash_debits h settled bic ccy ≡ cash_credits h settled bic ccy = passed.cash bic ccy in
          omega arith;
      sent = told;
    }

pub tables_run : (limit : ℕ) (books : Books) (reference day : List ℕ) (rule : RunRule) (settled : List Settled) (content : Content) (reply : Reply) → AreBooks books → WasAccepted limit books.history
    → IsVerdict limit books (Run reference day rule) Accept → HasPassed books (Run reference day rule) settled content → HasToldSoFar books (Run reference day rule) settled content → Grown limit books (Run reference day rule) (appended (Run reference day rule) reply content)
tables_run limit books reference day rule settled content reply are was verdict passed told = record {
  pairs = books.pairs;
  settled = settled;
  tables = tables_after_run limit books reference day rule settled content reply are was verdict passed told;
}

-- The first pass begins.

begins_so : (books : Books) (e : Entry) (k : ℕ) (mate : Option ℕ) (state : State) → StandsSo books k mate state → PassesSo books e 1 (is_below books e None) books.settled k mate state
begins_so books e k mate NoInstruction x = x
begins_so books e k mate Unmatched x = x
begins_so books e k mate Cancelled x = x
begins_so books e k mate (Matched reason) x = record { pair = x.pair; in_pair = x.in_pair; not_due = λ out. x.why; tried = λ due low. absurd (cc) }
begins_so books e k mate states.Settled x = x

begins_at : (books : Books) (e : Entry) (k : ℕ) (o : Option Instructed) (st : Standing) → StandsAt books k o st → PassesAt books e 1 (is_below books e None) books.settled k o st
begins_at books e k None st x = x
begins_at books e k (Some i) st x = record { so = begins_so books e k st.mate st.state x.so; requested = x.requested }

pub first_begins : (limit : ℕ) (books : Books) (reference day : List ℕ) (rule : RunRule) (content : Content) → Tables limit books content → IsUnderway books (Run reference day rule) 1 None books.settled content
first_begins limit books reference day rule content tables = record {
  passing = record {
    history = tables.history;
    standing = λ k. begins_at books (Run reference day rule) k (instruction_at books.history k) (content.standing k) (tables.standing k);
    position = tables.position;
    cash = tables.cash;
  };
  reached = as_far_decided (run_begins books.history (Run reference day rule) books.pairs books.settled tables.are_books.settlement);
  begun = begins_first (books.history ++ Run reference day rule ∷ []) books.settled (length books.history + 1) 1 refl;
  further = record {
    more = [];
    is_more = sym (append-nil books.settled);
    of_run = λ s c. absurd (In-from_Contains [] s c);
    few = settled_and_left books tables.are_books;
  };
}

pub run_added : (limit : ℕ) (reference day : List ℕ) (rule : RunRule) (old new : Content) (reply : Reply) (r : Result (Unit {0}) Fault) → IsPassed limit (Run reference day rule) old → OnOk r (new ≡ appended (Run reference day rule) reply old)
    → OnOk r ((books : Books) × (books.history ≡ history_of old) × Grown limit books (Run reference day rule) new)
run_added limit reference day rule old new reply (Ok done) p added =
    let P : Content → Type 0 = λ c. Grown limit p.books (Run reference day rule) c in
    (p.books, sym p.passed.history, subst P (sym added) (tables_run limit p.books reference day rule p.settled old reply p.are_books p.accepted p.verdict p.passed p.told))
run_added limit reference day rule old new reply (Err fault) p added = added
