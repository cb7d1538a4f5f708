-- The confirmations that are said account for all balances, and messages say one list of confirmations.
use Rattle.std.proofs.Common.{◌≡◌, ℕ, ◌+◌, ◌<◌, ◌≤◌, Bool, true, false, not, if◌then◌else◌, List, [], ◌∷◌, ◌++◌, length, bytes_eq, sum_by, refl, sym, ◌∙◌, ap, subst, arith, Option, Some, None, Result, Ok, inl, inr}
use Rattle.std.specs.Prelude.{◌==◌, MatchBool, option_and_then}
use Rattle.std.specs.List.{range_with_len, flat_map}
use Rattle.std.proofs.lemmas.Bool.{cases_Bool, eqb-true}
use Rattle.desk_codes.specs.declared.currency.Ccy.{Ccy}
use Rattle.desk_codes.specs.Day.{IsDay}
use Rattle.desk_text.proofs.LawLemmas.{one-fields}
use Rattle.desk_msg.specs.declared.mt.Mt.{Mt}
use Rattle.desk_msg.specs.declared.mt.Mt.TheVariants.{Mt540, Mt541, Mt542, Mt543, Mt544, Mt545, Mt546, Mt547}
use Rattle.desk_msg.specs.declared.fault.MsgFault.{MsgFault}
use Rattle.desk_msg.specs.declared.instruction.Cash.{Cash}
use Rattle.desk_msg.specs.MessageType.{is_delivery, number_of_type}
use Rattle.desk_msg.specs.ConfirmationText.{confirming_type}
use Rattle.desk_msg.specs.declared.reading.confirmed.Confirmed.{Confirmed}
use Rattle.desk_msg.specs.Confirms.{Confirms, paid_by}
use Rattle.desk_msg.proofs.OneConfirmation.{one_confirmation}
use Rattle.desk_rules.specs.declared.history.entry.Entry.{Entry}
use Rattle.desk_rules.specs.declared.history.entry.Entry.TheVariants.{Run}
use Rattle.desk_rules.specs.declared.history.pair.Settled.{Settled}
use Rattle.desk_rules.specs.declared.answers.reply.Sent.{Sent}
use Rattle.desk_rules.specs.History.{Instructed, entry_at, run_day}
use Rattle.desk_rules.specs.Balances.{delivery_of, receipt_of, quantity_if, quantity_on, cash_in, amount_of}
use Rattle.desk_rules.specs.Settlement.{is_by, day_of}
use Rattle.desk_rules.specs.Sent.{Notice, told_of_pair, told_of_settled, told_by, notices_of, date_in, sent_of}
use Rattle.desk_rules.specs.Books.{Books, AreBooks}
use Rattle.desk_rules.specs.Confirmations.{Confirmation, SaysConfirmation, SayConfirmations, confirmation_by, is_confirmation, quantity_confirmed, amount_in, amount_confirmed, AccountFor}
use Rattle.desk_rules.specs.WellFormed.{AreWellFormed}
use Rattle.desk_rules.proofs.WellFormedLemmas.{day_at}
use Rattle.desk_rules.proofs.Decided.{In, Contains-from_In}
use Rattle.desk_rules.proofs.BalanceLemmas.{sum_same}
use Rattle.desk_rules.proofs.HistoryLemmas.{entry_at-known}
use Rattle.desk_rules.proofs.SettlementLemmas.{due_facts, by_some}
use Rattle.desk_rules.proofs.SaidConfirmations.{confirmations_of, HaveDays, say_all}
use Rattle.desk_rules.proofs.ConfirmedSums.{HasLegs, legs_of, of_leg, legs_value, all_said}

-- The days of runs.

day_of_run : (h : List Entry) (run day : ℕ) (e : Entry) → AreWellFormed h → entry_at h run ≡ Some e → is_by (run_day e) day ≡ true → IsDay (date_in (entry_at h run))
day_of_run h run day (Run reference date rule) formed is by = subst (λ o. IsDay (date_in o)) (sym is) (day_at h run reference date rule formed is)
day_of_run h run day e formed is by = absurd (cc)

-- What a confirmation says is what its instruction moves.

delivering : (mt : Mt) → is_delivery (confirming_type mt) ≡ is_delivery mt
delivering Mt540 = refl
delivering Mt541 = refl
delivering Mt542 = refl
delivering Mt543 = refl
delivering Mt544 = refl
delivering Mt545 = refl
delivering Mt546 = refl
delivering Mt547 = refl

same_cash : (ccy : Ccy) (cash : Option Cash) → amount_in ccy (paid_by cash) ≡ cash_in ccy cash
same_cash ccy None = refl
same_cash ccy (Some cash) = refl

-- where a test of the type holds, and where it doesn't
kept : (test : Bool) (n : ℕ) → test ≡ true → quantity_if test n ≡ n
kept test n e = rw e refl

left_out : (test : Bool) (n : ℕ) → test ≡ false → quantity_if test n ≡ 0
left_out test n e = rw e refl

module _ (books : Books) (are : AreBooks books) (read : AreWellFormed books.history) where
  -- each settled pair has a delivery and a receipt, and its run a number and a day
  pub record IsKnown (s : Settled) : Type 0 where
    pub legs : HasLegs books.history s.pair
    pub from : 1 ≤ s.run
    pub below : s.run < 1 + length books.history
    pub day : IsDay (date_in (entry_at books.history s.run))

  pub known : (s : Settled) → In books.settled s → IsKnown s
  known s i =
      let settles = (are.settlement.exact s).0 (Contains-from_In books.settled s i) in
      let mate = (are.pairing.exact s.pair).0 settles.paired in
      let due = due_facts books.history s.run s.pair settles.due in
      let run = by_some run_day (entry_at books.history s.run) (day_of books.history s.pair) due.by in
      let at = entry_at-known books.history s.run run.0 run.1 in
      let by = subst (λ o. is_by (option_and_then run_day o) (day_of books.history s.pair) ≡ true) run.1 due.by in
      record {
        legs = legs_of books.history s.pair mate.candidate.opposite;
        from = at.0;
        below = omega (arith, at.1);
        day = day_of_run books.history s.run (day_of books.history s.pair) run.0 read run.1 by;
      }

  -- the notices of runs are of days

  days_joined : (a b : List Notice) → HaveDays books.history a → HaveDays books.history b → HaveDays books.history (a ++ b)
  days_joined [] b x y = y
  days_joined (n ∷ a) b x y = (x.0, days_joined a b x.1 y)

  days_flat : {X : Type 0} (f : X → List Notice) (xs : List X) → ((x : X) → In xs x → HaveDays books.history (f x)) → HaveDays books.history (flat_map f xs)
  days_flat f [] each = tt
  days_flat f (x ∷ xs) each = days_joined (f x) (flat_map f xs) (each x (inl refl)) (days_flat f xs (λ y i. each y (inr i)))

  days_if : (test : Bool) (ns : List Notice) → (test ≡ true → HaveDays books.history ns) → HaveDays books.history (if test then ns else [])
  days_if true ns days = days refl
  days_if false ns days = tt

  all_days : HaveDays books.history (notices_of books)
  all_days =
      days_flat (told_by books) (range_with_len 1 (length books.history)) (λ n i. days_joined (flat_map (told_of_pair n) books.pairs) (flat_map (told_of_settled books.history n) books.settled)
      (days_flat (told_of_pair n) books.pairs (λ p j. days_if (p.later == n) _ (λ e. (tt, tt))))
      (days_flat (told_of_settled books.history n) books.settled (λ s j. days_if (s.run == n) _ (λ e. let day = subst (λ m. IsDay (date_in (entry_at books.history m))) (eqb-true s.run n e) (known s j).day in (day, (day, tt))))))

  in_range : (s : Settled) → In books.settled s → (1 ≤ s.run) × (s.run < 1 + length books.history)
  in_range s i = let k = known s i in (k.from, k.below)

  abbrev confirmations : List Confirmation
  confirmations = confirmations_of books.history (notices_of books)

  from_receipts : (f : Confirmation → ℕ) (q : Option Instructed → ℕ) → ((i : Instructed) (day : List ℕ) → f (confirmation_by i day) ≡ quantity_if (not (is_delivery (confirming_type i.instruction.mt))) (q (Some i)))
      → sum_by f confirmations ≡ sum_by (λ s. q (receipt_of books.history s.pair)) books.settled
  from_receipts f q same =
      let g : Instructed → ℕ = λ i. quantity_if (not (is_delivery (confirming_type i.instruction.mt))) (q (Some i)) in
      all_said books f g same in_range
      ∙ sum_same (legs_value books f g same) (λ s. q (receipt_of books.history s.pair)) books.settled (λ s i.
      let legs = (known s i).legs in
      let gone : of_leg books f g same (delivery_of books.history s.pair) ≡ 0 = ap (of_leg books f g same) legs.delivered ∙ left_out _ (q (Some legs.delivery)) (ap not (delivering legs.delivery.instruction.mt ∙ legs.delivers)) in
      let come : of_leg books f g same (receipt_of books.history s.pair) ≡ q (receipt_of books.history s.pair) = ap (of_leg books f g same) legs.received ∙ kept _ (q (Some legs.receipt)) (ap not (delivering legs.receipt.instruction.mt ∙ legs.receives)) ∙ sym (ap q legs.received) in
      omega (arith, gone, come))

  from_deliveries : (f : Confirmation → ℕ) (q : Option Instructed → ℕ) → ((i : Instructed) (day : List ℕ) → f (confirmation_by i day) ≡ quantity_if (is_delivery (confirming_type i.instruction.mt)) (q (Some i)))
      → sum_by f confirmations ≡ sum_by (λ s. q (delivery_of books.history s.pair)) books.settled
  from_deliveries f q same =
      let g : Instructed → ℕ = λ i. quantity_if (is_delivery (confirming_type i.instruction.mt)) (q (Some i)) in
      all_said books f g same in_range
      ∙ sum_same (legs_value books f g same) (λ s. q (delivery_of books.history s.pair)) books.settled (λ s i.
      let legs = (known s i).legs in
      let come : of_leg books f g same (receipt_of books.history s.pair) ≡ 0 = ap (of_leg books f g same) legs.received ∙ left_out _ (q (Some legs.receipt)) (delivering legs.receipt.instruction.mt ∙ legs.receives) in
      let gone : of_leg books f g same (delivery_of books.history s.pair) ≡ q (delivery_of books.history s.pair) = ap (of_leg books f g same) legs.delivered ∙ kept _ (q (Some legs.delivery)) (delivering legs.delivery.instruction.mt ∙ legs.delivers) ∙ sym (ap q legs.delivered) in
      omega (arith, gone, come))

  account : AccountFor books confirmations
  account = record {
    credited = λ account isin. let said = from_receipts (λ confirmation. quantity_if (not (is_delivery confirmation.mt)) (quantity_confirmed account isin confirmation)) (quantity_on account isin) (λ i day. refl) in omega (arith, said);
    debited = λ account isin. let said = from_deliveries (λ confirmation. quantity_if (is_delivery confirmation.mt) (quantity_confirmed account isin confirmation)) (quantity_on account isin) (λ i day. refl) in omega (arith, said);
    paid = λ bic ccy. let said = from_deliveries (λ confirmation. quantity_if (is_delivery confirmation.mt) (amount_confirmed bic ccy confirmation)) (amount_of bic ccy) (λ i day. ap (λ n. quantity_if (is_delivery (confirming_type i.instruction.mt)) (quantity_if (bytes_eq i.sender bic) n)) (same_cash ccy i.instruction.cash)) in omega (arith, said);
    paying = λ bic ccy. let said = from_receipts (λ confirmation. quantity_if (not (is_delivery confirmation.mt)) (amount_confirmed bic ccy confirmation)) (amount_of bic ccy) (λ i day. ap (λ n. quantity_if (not (is_delivery (confirming_type i.instruction.mt))) (quantity_if (bytes_eq i.sender bic) n)) (same_cash ccy i.instruction.cash)) in omega (arith, said);
  }

  pub confirmed : (ms : List Confirmation) × SayConfirmations (sent_of books) ms × AccountFor books ms
  confirmed = (confirmations, say_all books.history read 1 (notices_of books) all_days, account)

-- Messages say one list of confirmations.

type_of : ℕ → Mt
type_of n =
    if n == 540 then Mt540 else
    if n == 541 then Mt541 else
    if n == 542 then Mt542 else
    if n == 543 then Mt543 else
    if n == 544 then Mt544 else
    if n == 545 then Mt545 else
    if n == 546 then Mt546 else
    Mt547

type_back : (mt : Mt) → type_of (number_of_type mt) ≡ mt
unfolding type_of
type_back Mt540 = refl
type_back Mt541 = refl
type_back Mt542 = refl
type_back Mt543 = refl
type_back Mt544 = refl
type_back Mt545 = refl
type_back Mt546 = refl
type_back Mt547 = refl

move_from : Mt → List ℕ → Confirmed → Confirmation
move_from mt bic confirmed = record { mt = mt; bic = bic; confirmed = confirmed }

same_move : (m n : Mt) (b c : List ℕ) (x y : Confirmed) → m ≡ n → b ≡ c → x ≡ y → move_from m b x ≡ move_from n c y
same_move m n b c x y e f g = cc

abbrev as_result : Confirmed → Result Confirmed MsgFault
as_result x = Ok x

same_settlement : (x y : Confirmed) → as_result x ≡ as_result y → x ≡ y
same_settlement x y e = cc

one_move : (message : Sent) (u v : Confirmation) → SaysConfirmation message u → SaysConfirmation message v → u ≡ v
unfolding move_from
one_move message u v x y =
    let type : u.mt ≡ v.mt = sym (type_back u.mt) ∙ ap type_of (sym x.type ∙ y.type) ∙ type_back v.mt in
    let fields : x.fields ≡ y.fields = one-fields message.text x.fields y.fields x.block y.block in
    let says = subst (λ mt. Confirms mt x.fields (Ok v.confirmed)) (sym type) (subst (λ fs. Confirms v.mt fs (Ok v.confirmed)) (sym fields) y.says) in
    same_move u.mt v.mt u.bic v.bic u.confirmed v.confirmed type (sym x.addressee ∙ y.addressee)
    (same_settlement u.confirmed v.confirmed (one_confirmation u.mt x.fields (Ok u.confirmed) (Ok v.confirmed) x.says says))

pub one_list : (messages : List Sent) (a b : List Confirmation) → SayConfirmations messages a → SayConfirmations messages b → a ≡ b
one_list [] [] [] x y = refl
one_list [] [] (v ∷ b) x y = absurd y
one_list [] (u ∷ a) [] x y = absurd x
one_list [] (u ∷ a) (v ∷ b) x y = absurd x
one_list (message ∷ messages) [] [] x y = refl
one_list (message ∷ messages) [] (v ∷ b) x y =
    let P : Bool → Type 0 = λ t. MatchBool t (SaysConfirmation message v × SayConfirmations messages b) (SayConfirmations messages (v ∷ b)) in
    one_list messages [] (v ∷ b) x.1 (subst P x.0 y)
one_list (message ∷ messages) (u ∷ a) [] x y =
    let P : Bool → Type 0 = λ t. MatchBool t (SaysConfirmation message u × SayConfirmations messages a) (SayConfirmations messages (u ∷ a)) in
    one_list messages (u ∷ a) [] (subst P y.0 x) y.1
one_list (message ∷ messages) (u ∷ a) (v ∷ b) x y =
    let P : Bool → Type 0 = λ t. MatchBool t (SaysConfirmation message u × SayConfirmations messages a) (SayConfirmations messages (u ∷ a)) in
    let Q : Bool → Type 0 = λ t. MatchBool t (SaysConfirmation message v × SayConfirmations messages b) (SayConfirmations messages (v ∷ b)) in
    elim (cases_Bool (is_confirmation message)) [
      | inl e ↦
          let first = subst P e x in
          let second = subst Q e y in
          let rest = one_list messages a b first.1 second.1 in
          ap (λ w. w ∷ a) (one_move message u v first.0 second.0) ∙ ap (λ w. v ∷ w) rest
      | inr e ↦ one_list messages (u ∷ a) (v ∷ b) (subst P e x) (subst Q e y)
    ]
