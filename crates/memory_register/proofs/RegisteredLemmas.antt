-- What the entries register, with one entry more, and with one less.
use Rattle.std.proofs.Common.{◌≡◌, ℕ, ◌+◌, false, List, [], ◌∷◌, ◌++◌, ◌-◌, length, map, take, Option, Some, None, refl, ap, sym, ◌∙◌, arith}
use Rattle.std.specs.Prelude.{if◌then◌else◌, Vec, filter_map}
use Rattle.std.specs.declared.alloc.Global.{Global}
use Rattle.std.specs.Ordering.{is_eq}
use Rattle.std.specs.BTreeMap.{BTreeMap, get}
use Rattle.std.proofs.lemmas.List.{append-nil, map-append}
use Rattle.std.proofs.lemmas.List.Elements.{filter_map-append}
use Rattle.std.proofs.lemmas.Map.Text.{is_eq-slice_cmp}
use Rattle.desk_codes.specs.declared.currency.Ccy.{Ccy}
use Rattle.desk_codes.proofs.CurrencyLemmas.{tied_by_letters}
use Rattle.desk_codes.specs.Number.{number_of}
use Rattle.desk_msg.specs.declared.instruction.Kind.{Kind}
use Rattle.desk_rules.specs.Balances.{same_ccy}
use Rattle.desk_rules.specs.declared.history.entry.Entry.{Entry}
use Rattle.desk_rules.specs.declared.history.entry.Entry.TheVariants.{Participant, Account, Security, Issue, Redeem, PayIn, PayOut, Instruct, Cancel, Run}
use Rattle.desk_rules.specs.declared.history.entry.Payment.{Payment}
use Rattle.desk_rules.specs.declared.history.entry.RunRule.{RunRule}
use Rattle.desk_rules.specs.Facts.{adds_participant}
use Rattle.desk_rules.specs.History.{run_day}
use Rattle.desk_register.specs.Looked.{pays_in}
use Rattle.memory_register.specs.declared.entries.registered.Registered.{Registered}
use Rattle.memory_register.specs.FirstNumbers.{number_if, or_number, without}
use Rattle.memory_register.specs.Keys.{text_cmp}
use Rattle.memory_register.specs.Registered.{AreRegistered, adds_account, adds_security, ccy_cmp}
use Rattle.memory_register.proofs.FirstLemmas.{first_forgotten, first_kept, first_noted, first_stays}

-- two currencies are one where they tie in their order
ccy_test : (a b : Ccy) → same_ccy a b ≡ is_eq (ccy_cmp a b)
ccy_test a b = sym (tied_by_letters a b)

-- what one entry more says

said_same : {X : Type 0} (says : Entry → Option X) (history : List Entry) (e : Entry) → says e ≡ None → filter_map says history ≡ filter_map says (history ++ e ∷ [])
said_same says history e none = sym (filter_map-append says history (e ∷ []) ∙ rw none (append-nil (filter_map says history)))

said_more : {X : Type 0} (says : Entry → Option X) (history : List Entry) (e : Entry) (x : X) → says e ≡ Some x → filter_map says (history ++ e ∷ []) ≡ filter_map says history ++ x ∷ []
said_more says history e x some = filter_map-append says history (e ∷ []) ∙ rw some refl

-- the numbers of days, without the last
no_number : (xs : List ℕ) (x : ℕ) → [] ≡ xs ++ x ∷ [] → ⊥
no_number [] x e = cc
no_number (y ∷ xs) x e = cc

less_last : (day : List ℕ) (old : List (List ℕ)) (days : List ℕ) (last : ℕ) → map number_of (day ∷ old) ≡ days ++ last ∷ [] → map number_of (take (length old) (day ∷ old)) ≡ days
less_last day [] [] last whole = refl
less_last day [] (x ∷ days) last whole = let rest : [] ≡ days ++ last ∷ [] = cc in absurd (no_number days last rest)
less_last day (e ∷ old) [] last whole = cc
less_last day (e ∷ old) (x ∷ days) last whole =
    let first : number_of day ≡ x = cc in
    let rest : map number_of (e ∷ old) ≡ days ++ last ∷ [] = cc in
    ap (λ z. z ∷ map number_of (take (length old) (e ∷ old))) first ∙ ap (λ z. x ∷ z) (less_last e old days last rest)

pub numbers_off : (old new : List (List ℕ)) (k : ℕ) (days : List ℕ) (last : ℕ) → k ≡ length old - 1 → new ≡ take k old → map number_of old ≡ days ++ last ∷ [] → map number_of new ≡ days
numbers_off [] new k days last count is whole = absurd (no_number days last whole)
numbers_off (day ∷ old) new k days last count is whole = let same : k ≡ length old = omega arith in ap (map number_of) (is ∙ ap (λ z. take z (day ∷ old)) same) ∙ less_last day old days last whole

-- an entry that registers nothing, pays nothing in and is no run
pub record RegistersNothing (e : Entry) : Type 0 where
  pub adds_participant : (q : List ℕ) → adds_participant q e ≡ false
  pub adds_account : (q : List ℕ) → adds_account q e ≡ false
  pub adds_security : (q : List ℕ) → adds_security q e ≡ false
  pub pays_in : (q : Ccy) → pays_in q e ≡ false
  pub run_day : run_day e ≡ None

pub nothing_else : (e : Entry) → ((r b : List ℕ) → e ≡ Participant r b → ⊥) → ((r b a : List ℕ) → e ≡ Account r b a → ⊥) → ((r i : List ℕ) (k : Kind) → e ≡ Security r i k → ⊥)
    → ((p : Payment) → e ≡ PayIn p → ⊥) → ((r d : List ℕ) (rule : RunRule) → e ≡ Run r d rule → ⊥) → RegistersNothing e
nothing_else (Participant r b) p a s c d = absurd (p r b refl)
nothing_else (Account r b acc) p a s c d = absurd (a r b acc refl)
nothing_else (Security r i k) p a s c d = absurd (s r i k refl)
nothing_else (PayIn payment) p a s c d = absurd (c payment refl)
nothing_else (Run r day rule) p a s c d = absurd (d r day rule refl)
nothing_else (Issue m) p a s c d = record { adds_participant = λ q. refl; adds_account = λ q. refl; adds_security = λ q. refl; pays_in = λ q. refl; run_day = refl }
nothing_else (Redeem m) p a s c d = record { adds_participant = λ q. refl; adds_account = λ q. refl; adds_security = λ q. refl; pays_in = λ q. refl; run_day = refl }
nothing_else (PayOut m) p a s c d = record { adds_participant = λ q. refl; adds_account = λ q. refl; adds_security = λ q. refl; pays_in = λ q. refl; run_day = refl }
nothing_else (Instruct m i) p a s c d = record { adds_participant = λ q. refl; adds_account = λ q. refl; adds_security = λ q. refl; pays_in = λ q. refl; run_day = refl }
nothing_else (Cancel m o) p a s c d = record { adds_participant = λ q. refl; adds_account = λ q. refl; adds_security = λ q. refl; pays_in = λ q. refl; run_day = refl }

module _ (old : Registered) (history : List Entry) (e : Entry) (n : ℕ) (is : n ≡ length history + 1) where
  module _ (reference bic : List ℕ) (here : e ≡ Participant reference bic) (tree : BTreeMap (List ℕ) ℕ) where
    pub noted_participant : AreRegistered old history → ((q : List ℕ) → get text_cmp tree q ≡ or_number (get text_cmp old.participants q) (number_if (is_eq (text_cmp bic q)) n)) → AreRegistered (record old { participants = tree }) (history ++ e ∷ [])
    noted_participant are put = record {
      participants = first_noted text_cmp adds_participant old.participants history e n is tree bic (λ q. rw here (sym (is_eq-slice_cmp bic q))) put are.participants;
      accounts = first_kept text_cmp adds_account old.accounts history e n is (λ q. rw here refl) are.accounts;
      securities = first_kept text_cmp adds_security old.securities history e n is (λ q. rw here refl) are.securities;
      currencies = first_kept ccy_cmp pays_in old.currencies history e n is (λ q. rw here refl) are.currencies;
      runs = are.runs ∙ said_same run_day history e (rw here refl);
    }

    pub forgot_participant : AreRegistered old (history ++ e ∷ []) → ((q : List ℕ) → get text_cmp tree q ≡ (if is_eq (text_cmp bic q) then without n (get text_cmp old.participants q) else get text_cmp old.participants q)) → AreRegistered (record old { participants = tree }) history
    forgot_participant are took = record {
      participants = first_forgotten text_cmp adds_participant old.participants history e n is tree bic (λ q. rw here (sym (is_eq-slice_cmp bic q))) took are.participants;
      accounts = first_stays text_cmp adds_account old.accounts history e n is (λ q. rw here refl) are.accounts;
      securities = first_stays text_cmp adds_security old.securities history e n is (λ q. rw here refl) are.securities;
      currencies = first_stays ccy_cmp pays_in old.currencies history e n is (λ q. rw here refl) are.currencies;
      runs = are.runs ∙ sym (said_same run_day history e (rw here refl));
    }

  module _ (reference bic account : List ℕ) (here : e ≡ Account reference bic account) (tree : BTreeMap (List ℕ) ℕ) where
    pub noted_account : AreRegistered old history → ((q : List ℕ) → get text_cmp tree q ≡ or_number (get text_cmp old.accounts q) (number_if (is_eq (text_cmp account q)) n)) → AreRegistered (record old { accounts = tree }) (history ++ e ∷ [])
    noted_account are put = record {
      participants = first_kept text_cmp adds_participant old.participants history e n is (λ q. rw here refl) are.participants;
      accounts = first_noted text_cmp adds_account old.accounts history e n is tree account (λ q. rw here (sym (is_eq-slice_cmp account q))) put are.accounts;
      securities = first_kept text_cmp adds_security old.securities history e n is (λ q. rw here refl) are.securities;
      currencies = first_kept ccy_cmp pays_in old.currencies history e n is (λ q. rw here refl) are.currencies;
      runs = are.runs ∙ said_same run_day history e (rw here refl);
    }

    pub forgot_account : AreRegistered old (history ++ e ∷ []) → ((q : List ℕ) → get text_cmp tree q ≡ (if is_eq (text_cmp account q) then without n (get text_cmp old.accounts q) else get text_cmp old.accounts q)) → AreRegistered (record old { accounts = tree }) history
    forgot_account are took = record {
      participants = first_stays text_cmp adds_participant old.participants history e n is (λ q. rw here refl) are.participants;
      accounts = first_forgotten text_cmp adds_account old.accounts history e n is tree account (λ q. rw here (sym (is_eq-slice_cmp account q))) took are.accounts;
      securities = first_stays text_cmp adds_security old.securities history e n is (λ q. rw here refl) are.securities;
      currencies = first_stays ccy_cmp pays_in old.currencies history e n is (λ q. rw here refl) are.currencies;
      runs = are.runs ∙ sym (said_same run_day history e (rw here refl));
    }

  module _ (reference isin : List ℕ) (kind : Kind) (here : e ≡ Security reference isin kind) (tree : BTreeMap (List ℕ) ℕ) where
    pub noted_security : AreRegistered old history → ((q : List ℕ) → get text_cmp tree q ≡ or_number (get text_cmp old.securities q) (number_if (is_eq (text_cmp isin q)) n)) → AreRegistered (record old { securities = tree }) (history ++ e ∷ [])
    noted_security are put = record {
      participants = first_kept text_cmp adds_participant old.participants history e n is (λ q. rw here refl) are.participants;
      accounts = first_kept text_cmp adds_account old.accounts history e n is (λ q. rw here refl) are.accounts;
      securities = first_noted text_cmp adds_security old.securities history e n is tree isin (λ q. rw here (sym (is_eq-slice_cmp isin q))) put are.securities;
      currencies = first_kept ccy_cmp pays_in old.currencies history e n is (λ q. rw here refl) are.currencies;
      runs = are.runs ∙ said_same run_day history e (rw here refl);
    }

    pub forgot_security : AreRegistered old (history ++ e ∷ []) → ((q : List ℕ) → get text_cmp tree q ≡ (if is_eq (text_cmp isin q) then without n (get text_cmp old.securities q) else get text_cmp old.securities q)) → AreRegistered (record old { securities = tree }) history
    forgot_security are took = record {
      participants = first_stays text_cmp adds_participant old.participants history e n is (λ q. rw here refl) are.participants;
      accounts = first_stays text_cmp adds_account old.accounts history e n is (λ q. rw here refl) are.accounts;
      securities = first_forgotten text_cmp adds_security old.securities history e n is tree isin (λ q. rw here (sym (is_eq-slice_cmp isin q))) took are.securities;
      currencies = first_stays ccy_cmp pays_in old.currencies history e n is (λ q. rw here refl) are.currencies;
      runs = are.runs ∙ sym (said_same run_day history e (rw here refl));
    }

  module _ (payment : Payment) (here : e ≡ PayIn payment) (tree : BTreeMap (Ccy) ℕ) where
    pub noted_currency : AreRegistered old history → ((q : Ccy) → get ccy_cmp tree q ≡ or_number (get ccy_cmp old.currencies q) (number_if (is_eq (ccy_cmp payment.ccy q)) n)) → AreRegistered (record old { currencies = tree }) (history ++ e ∷ [])
    noted_currency are put = record {
      participants = first_kept text_cmp adds_participant old.participants history e n is (λ q. rw here refl) are.participants;
      accounts = first_kept text_cmp adds_account old.accounts history e n is (λ q. rw here refl) are.accounts;
      securities = first_kept text_cmp adds_security old.securities history e n is (λ q. rw here refl) are.securities;
      currencies = first_noted ccy_cmp pays_in old.currencies history e n is tree payment.ccy (λ q. rw here (ccy_test payment.ccy q)) put are.currencies;
      runs = are.runs ∙ said_same run_day history e (rw here refl);
    }

    pub forgot_currency : AreRegistered old (history ++ e ∷ []) → ((q : Ccy) → get ccy_cmp tree q ≡ (if is_eq (ccy_cmp payment.ccy q) then without n (get ccy_cmp old.currencies q) else get ccy_cmp old.currencies q)) → AreRegistered (record old { currencies = tree }) history
    forgot_currency are took = record {
      participants = first_stays text_cmp adds_participant old.participants history e n is (λ q. rw here refl) are.participants;
      accounts = first_stays text_cmp adds_account old.accounts history e n is (λ q. rw here refl) are.accounts;
      securities = first_stays text_cmp adds_security old.securities history e n is (λ q. rw here refl) are.securities;
      currencies = first_forgotten ccy_cmp pays_in old.currencies history e n is tree payment.ccy (λ q. rw here (ccy_test payment.ccy q)) took are.currencies;
      runs = are.runs ∙ sym (said_same run_day history e (rw here refl));
    }

  module _ (reference day : List ℕ) (rule : RunRule) (here : e ≡ Run reference day rule) (runs : Vec (List ℕ) Global) where
    pub noted_run : AreRegistered old history → runs.items ≡ old.runs.items ++ day ∷ [] → AreRegistered (record old { runs = runs }) (history ++ e ∷ [])
    noted_run are more = record {
      participants = first_kept text_cmp adds_participant old.participants history e n is (λ q. rw here refl) are.participants;
      accounts = first_kept text_cmp adds_account old.accounts history e n is (λ q. rw here refl) are.accounts;
      securities = first_kept text_cmp adds_security old.securities history e n is (λ q. rw here refl) are.securities;
      currencies = first_kept ccy_cmp pays_in old.currencies history e n is (λ q. rw here refl) are.currencies;
      runs = ap (map number_of) more ∙ map-append number_of old.runs.items (day ∷ []) ∙ ap (λ z. z ++ number_of day ∷ []) are.runs ∙ sym (said_more run_day history e (number_of day) (rw here refl));
    }

    pub forgot_run : AreRegistered old (history ++ e ∷ []) → ((days : List ℕ) (last : ℕ) → map number_of old.runs.items ≡ days ++ last ∷ [] → map number_of runs.items ≡ days) → AreRegistered (record old { runs = runs }) history
    forgot_run are less = record {
      participants = first_stays text_cmp adds_participant old.participants history e n is (λ q. rw here refl) are.participants;
      accounts = first_stays text_cmp adds_account old.accounts history e n is (λ q. rw here refl) are.accounts;
      securities = first_stays text_cmp adds_security old.securities history e n is (λ q. rw here refl) are.securities;
      currencies = first_stays ccy_cmp pays_in old.currencies history e n is (λ q. rw here refl) are.currencies;
      runs = less (filter_map run_day history) (number_of day) (are.runs ∙ said_more run_day history e (number_of day) (rw here refl));
    }

  module _ (none : RegistersNothing e) where
    pub noted_other : AreRegistered old history → AreRegistered old (history ++ e ∷ [])
    noted_other are = record {
      participants = first_kept text_cmp adds_participant old.participants history e n is (none.adds_participant) are.participants;
      accounts = first_kept text_cmp adds_account old.accounts history e n is (none.adds_account) are.accounts;
      securities = first_kept text_cmp adds_security old.securities history e n is (none.adds_security) are.securities;
      currencies = first_kept ccy_cmp pays_in old.currencies history e n is (none.pays_in) are.currencies;
      runs = are.runs ∙ said_same run_day history e (none.run_day);
    }

    pub forgot_other : AreRegistered old (history ++ e ∷ []) → AreRegistered old history
    forgot_other are = record {
      participants = first_stays text_cmp adds_participant old.participants history e n is (none.adds_participant) are.participants;
      accounts = first_stays text_cmp adds_account old.accounts history e n is (none.adds_account) are.accounts;
      securities = first_stays text_cmp adds_security old.securities history e n is (none.adds_security) are.securities;
      currencies = first_stays ccy_cmp pays_in old.currencies history e n is (none.pays_in) are.currencies;
      runs = are.runs ∙ sym (said_same run_day history e (none.run_day));
    }
