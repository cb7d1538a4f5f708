-- The row of a matched pair: what was read of the pair makes it, and there is one.
use Rattle.std.proofs.Common.{◌≡◌, ℕ, ◌<◌, Bool, true, false, if◌then◌else◌, Option, Some, refl, ap, sym, ◌∙◌, subst, arith}
use Rattle.std.proofs.lemmas.Bool.{lt-ltb}
use Rattle.std.proofs.lemmas.Bool.Decides.{nat_tests}
use Rattle.std.specs.Prelude.{nat_lt}
use Rattle.desk_codes.specs.Number.{number_of}
use Rattle.desk_msg.specs.declared.writing.status.Reason.{Reason}
use Rattle.desk_msg.specs.MessageType.{is_delivery}
use Rattle.desk_rules.specs.declared.history.entry.Instructed.{Instructed}
use Rattle.desk_rules.specs.declared.history.pair.Pair.{Pair}
use Rattle.desk_rules.specs.declared.history.pair.Place.{Place}
use Rattle.desk_rules.specs.Balances.{deliverer_of, delivering, delivery_of, is_delivered_by, receipt_of, receiver_of, receiving}
use Rattle.desk_rules.specs.Content.{Content, history_of}
use Rattle.desk_rules.specs.History.{instruction_at}
use Rattle.desk_report.specs.declared.rows.pending.PendingPair.{PendingPair}
use Rattle.desk_report.specs.declared.rows.pending.Side.{Side}
use Rattle.desk_report.specs.declared.pending.pair.Leg.{Leg}
use Rattle.desk_report.specs.declared.pending.pair.WaitingPair.{WaitingPair}
use Rattle.desk_report.specs.Pending.{IsPendingRow, lacking_of, pair_of_numbers, place_of_row, side_of}
use Rattle.desk_report.specs.PendingReading.{IsLeg, IsPair, IsWaitingPair, row_with, side_with}
use Rattle.desk_report.proofs.MatchedLemmas.{place_same}

same_side : (a b : Side) → a.number ≡ b.number → a.bic ≡ b.bic → a.reference ≡ b.reference → a.account ≡ b.account → a.is_cancel_requested ≡ b.is_cancel_requested → a ≡ b
same_side a b n s r t c = λ i. record { number = n i; bic = s i; reference = r i; account = t i; is_cancel_requested = c i }

same_row : (a b : PendingPair) → a.day ≡ b.day → a.reason ≡ b.reason → a.lacking ≡ b.lacking → a.isin ≡ b.isin → a.kind ≡ b.kind → a.quantity ≡ b.quantity → a.cash ≡ b.cash
    → a.deliverer ≡ b.deliverer → a.receiver ≡ b.receiver → a ≡ b
same_row a b d r l s k q c x y =
    λ i. record { day = d i; reason = r i; lacking = l i; isin = s i; kind = k i; quantity = q i; cash = c i; deliverer = x i; receiver = y i }

-- A row by what was read.

same_instructed : (a b : Instructed) (o : Option Instructed) → o ≡ Some a → o ≡ Some b → a ≡ b
same_instructed a b o e f = let both : Some a ≡ Some b = sym e ∙ f in cc

-- of the two legs one is the deliverer's, and the other the receiver's
delivering_leg : (content : Content) (delivers : Bool) (m n : ℕ) (earlier later : Leg) → IsLeg content m earlier → IsLeg content n later → IsLeg content (delivering delivers m n) (delivering delivers earlier later)
delivering_leg content true m n earlier later e l = e
delivering_leg content false m n earlier later e l = l

receiving_leg : (content : Content) (delivers : Bool) (m n : ℕ) (earlier later : Leg) → IsLeg content m earlier → IsLeg content n later → IsLeg content (receiving delivers m n) (receiving delivers earlier later)
receiving_leg content true m n earlier later e l = l
receiving_leg content false m n earlier later e l = e

side_read : (content : Content) (number : ℕ) (leg : Leg) → IsLeg content number leg → side_with leg ≡ side_of content number leg.instructed
side_read content number leg l = same_side (side_with leg) (side_of content number leg.instructed) l.number refl refl refl (ap (λ z. z.cancel_requested) l.standing)

module _ (content : Content) (place : Place) (pair : WaitingPair) (read : IsPair content place pair) where
  abbrev numbers : Pair
  numbers = pair_of_numbers read.waiting.pair.mate place.number

  delivers : is_delivered_by (instruction_at (history_of content) read.waiting.pair.mate) ≡ is_delivery read.earlier.instructed.instruction.mt
  delivers = ap is_delivered_by read.is_earlier.instructed

  deliverer_leg : IsLeg content (deliverer_of (history_of content) numbers) pair.deliverer
  deliverer_leg =
      let b = is_delivery read.earlier.instructed.instruction.mt in
      let m = read.waiting.pair.mate in
      let n = place.number in
      let leg = delivering_leg content b m n read.earlier read.later read.is_earlier read.is_later in
      subst (λ z. IsLeg content (deliverer_of (history_of content) numbers) z) (sym read.deliverer)
      (subst (λ z. IsLeg content (delivering z m n) (delivering b read.earlier read.later)) (sym delivers) leg)

  receiver_leg : IsLeg content (receiver_of (history_of content) numbers) pair.receiver
  receiver_leg =
      let b = is_delivery read.earlier.instructed.instruction.mt in
      let m = read.waiting.pair.mate in
      let n = place.number in
      let leg = receiving_leg content b m n read.earlier read.later read.is_earlier read.is_later in
      subst (λ z. IsLeg content (receiver_of (history_of content) numbers) z) (sym read.receiver)
      (subst (λ z. IsLeg content (receiving z m n) (receiving b read.earlier read.later)) (sym delivers) leg)

  terms_read : pair.later ≡ read.waiting.pair.later
  terms_read = read.terms ∙ same_instructed read.later.instructed read.waiting.pair.later (instruction_at (history_of content) place.number) read.is_later.instructed read.waiting.pair.is_later

  pub row_read : (lacking : Option ℕ) → lacking ≡ lacking_of content pair.reason pair.deliverer.instructed pair.receiver.instructed → IsPendingRow content place (row_with pair lacking)
  row_read lacking is = record {
    pair = read.waiting.pair;
    delivery = pair.deliverer.instructed;
    receipt = pair.receiver.instructed;
    is_delivery = deliverer_leg.instructed;
    is_receipt = receiver_leg.instructed;
    deliverer = side_read content (deliverer_of (history_of content) numbers) pair.deliverer deliverer_leg;
    receiver = side_read content (receiver_of (history_of content) numbers) pair.receiver receiver_leg;
    day = ap (λ z. z.instruction.day) terms_read;
    isin = ap (λ z. z.instruction.isin) terms_read;
    kind = ap (λ z. z.instruction.kind) terms_read;
    quantity = ap (λ z. z.instruction.quantity) terms_read;
    cash = ap (λ z. z.instruction.cash) terms_read;
    reason = read.reason;
    lacking = is ∙ ap (λ z. lacking_of content z pair.deliverer.instructed pair.receiver.instructed) read.reason;
  }

-- each matched pair has a row
module _ (content : Content) (place : Place) (w : IsWaitingPair content place) where
  leg_at : ℕ → Instructed → Leg
  leg_at number instructed = record { number = number; instructed = instructed; standing = content.standing number }

  pub row_exists : (row : PendingPair) × IsPendingRow content place row
  unfolding leg_at
  row_exists =
      let earlier = leg_at w.pair.mate w.earlier in
      let later = leg_at place.number w.pair.later in
      let b = is_delivery w.earlier.instruction.mt in
      let pair : WaitingPair = record { reason = w.pair.reason; later = w.pair.later; deliverer = delivering b earlier later; receiver = receiving b earlier later } in
      let read : IsPair content place pair = record {
        waiting = w;
        earlier = earlier;
        later = later;
        is_earlier = record { number = refl; instructed = w.is_earlier; standing = refl };
        is_later = record { number = refl; instructed = w.pair.is_later; standing = refl };
        reason = refl;
        terms = refl;
        deliverer = refl;
        receiver = refl;
      } in
      (row_with pair (lacking_of content pair.reason pair.deliverer.instructed pair.receiver.instructed), row_read content place pair read (lacking_of content pair.reason pair.deliverer.instructed pair.receiver.instructed) refl)

-- The place of a row.

greater : (b : Bool) (m n : ℕ) → m < n → (if nat_lt (delivering b m n) (receiving b m n) then receiving b m n else delivering b m n) ≡ n
greater true m n lt = rw (lt-ltb m n lt) refl
greater false m n lt = let test : nat_lt n m ≡ false = grind (arith, nat_tests) in rw test refl

greater_of : (d r d' r' n : ℕ) → d ≡ d' → r ≡ r' → (if nat_lt d' r' then r' else d') ≡ n → (if nat_lt d r then r else d) ≡ n
greater_of d r d' r' n e f is = rw (e, f) is

pub place_told : (content : Content) (place : Place) (row : PendingPair) → IsPendingRow content place row → place_of_row row ≡ place
place_told content place row x =
    let h = history_of content in
    let p = pair_of_numbers x.pair.mate place.number in
    place_same (place_of_row row) place
    (ap number_of x.day ∙ x.pair.day)
    (greater_of row.deliverer.number row.receiver.number (deliverer_of h p) (receiver_of h p) place.number (ap (λ z. z.number) x.deliverer) (ap (λ z. z.number) x.receiver)
    (greater (is_delivered_by (instruction_at h x.pair.mate)) x.pair.mate place.number x.pair.is_earlier))

-- A pair has one row.

module _ (content : Content) (place : Place) (a b : PendingPair) (x : IsPendingRow content place a) (y : IsPendingRow content place b) where
  one_later : x.pair.later ≡ y.pair.later
  one_later = same_instructed x.pair.later y.pair.later (instruction_at (history_of content) place.number) x.pair.is_later y.pair.is_later

  one_mate : x.pair.mate ≡ y.pair.mate
  one_mate = let both : Some x.pair.mate ≡ Some y.pair.mate = sym x.pair.has_mate ∙ y.pair.has_mate in cc

  one_reason : x.pair.reason ≡ y.pair.reason
  one_reason = let both = sym x.pair.matched ∙ y.pair.matched in cc

  one_pair : pair_of_numbers x.pair.mate place.number ≡ pair_of_numbers y.pair.mate place.number
  one_pair = ap (λ z. pair_of_numbers z place.number) one_mate

  one_delivery : x.delivery ≡ y.delivery
  one_delivery = same_instructed x.delivery y.delivery (delivery_of (history_of content) (pair_of_numbers y.pair.mate place.number)) (sym (ap (delivery_of (history_of content)) one_pair) ∙ x.is_delivery) y.is_delivery

  one_receipt : x.receipt ≡ y.receipt
  one_receipt = same_instructed x.receipt y.receipt (receipt_of (history_of content) (pair_of_numbers y.pair.mate place.number)) (sym (ap (receipt_of (history_of content)) one_pair) ∙ x.is_receipt) y.is_receipt

  one_side : (m n : ℕ) (i j : Instructed) → m ≡ n → i ≡ j → side_of content m i ≡ side_of content n j
  one_side m n i j e f = rw (e, f) refl

  one_lacking : lacking_of content x.pair.reason x.delivery x.receipt ≡ lacking_of content y.pair.reason y.delivery y.receipt
  one_lacking = lacking_same x.pair.reason y.pair.reason x.delivery y.delivery x.receipt y.receipt one_reason one_delivery one_receipt
    where
      lacking_same : (r s : Reason) (d e t u : Instructed) → r ≡ s → d ≡ e → t ≡ u → lacking_of content r d t ≡ lacking_of content s e u
      lacking_same r s d e t u p q o = rw (p, q, o) refl

  pub one_row : a ≡ b
  one_row =
      let h = history_of content in
      same_row a b
      (x.day ∙ ap (λ z. z.instruction.day) one_later ∙ sym y.day)
      (x.reason ∙ one_reason ∙ sym y.reason)
      (x.lacking ∙ one_lacking ∙ sym y.lacking)
      (x.isin ∙ ap (λ z. z.instruction.isin) one_later ∙ sym y.isin)
      (x.kind ∙ ap (λ z. z.instruction.kind) one_later ∙ sym y.kind)
      (x.quantity ∙ ap (λ z. z.instruction.quantity) one_later ∙ sym y.quantity)
      (x.cash ∙ ap (λ z. z.instruction.cash) one_later ∙ sym y.cash)
      (x.deliverer ∙ one_side _ _ x.delivery y.delivery (ap (deliverer_of h) one_pair) one_delivery ∙ sym y.deliverer)
      (x.receiver ∙ one_side _ _ x.receipt y.receipt (ap (receiver_of h) one_pair) one_receipt ∙ sym y.receiver)
