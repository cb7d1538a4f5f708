-- Accounts hold none but registered securities, where each entry was accepted in its turn.
use Rattle.std.proofs.Common.{◌≡◌, inl, inr, ℕ, suc, ◌+◌, ◌-◌, ◌<◌, Bool, true, false, List, [], ◌∷◌, ◌++◌, bytes_eq, sum_by, drop, Option, Some, None, is_some, refl, ap, sym, subst, arith}
use Rattle.std.specs.Prelude.{is_none, slice_get}
use Rattle.std.proofs.lemmas.Bool.{cases_lt}
use Rattle.std.proofs.lemmas.List.{take-append-drop}
use Rattle.std.proofs.lemmas.List.Sums.{sum_by-cons}
use Rattle.desk_msg.specs.declared.instruction.Kind.{Kind}
use Rattle.desk_rules.specs.declared.history.entry.Entry.{Entry}
use Rattle.desk_rules.specs.declared.history.entry.Entry.TheVariants.{Participant, Account, Security, Issue, Redeem, PayIn, PayOut, Instruct, Cancel, Run}
use Rattle.desk_rules.specs.declared.history.pair.Settled.{Settled}
use Rattle.desk_rules.specs.declared.history.entry.Instructed.{Instructed}
use Rattle.desk_rules.specs.History.{instructed, entry_at, before, instruction_at}
use Rattle.desk_rules.specs.Balances.{credits, debits, issued_by, movement_on, movement_of, quantity_if, quantity_on, receipt_of, receiver_of}
use Rattle.desk_rules.specs.Books.{Books}
use Rattle.desk_rules.specs.Content.{Content}
use Rattle.desk_rules.specs.Facts.{kind_by, kind_of, or_else}
use Rattle.desk_rules.specs.Tables.{AreTables}
use Rattle.desk_rules.specs.Verdict.{WasAccepted}
use Rattle.desk_rules.proofs.Accepted.{Passes, passes}
use Rattle.desk_rules.proofs.Decided.{In}
use Rattle.desk_rules.proofs.Existence.{books_exist}
use Rattle.desk_rules.proofs.HistoryLemmas.{some_before}
use Rattle.desk_register.proofs.CaseLemmas.{same_bytes}
use Rattle.desk_holdings.specs.Holdings.{HoldsRegistered}

-- a security is registered
abbrev IsRegistered : List Entry → List ℕ → Type 0
IsRegistered history isin = is_some (kind_of history isin) ≡ true

some_unless_none : {X : Type 0} (o : Option X) → is_none o ≡ false → is_some o ≡ true
some_unless_none None e = cc
some_unless_none (Some x) e = refl

-- and stays so
else_more : (o a b : Option Kind) → (is_some a ≡ true → is_some b ≡ true) → is_some (or_else o a) ≡ true → is_some (or_else o b) ≡ true
else_more None a b more e = more e
else_more (Some kind) a b more e = refl

still_registered : (h g : List Entry) (isin : List ℕ) → IsRegistered h isin → IsRegistered (h ++ g) isin
still_registered [] g isin e = cc
still_registered (entry ∷ h) g isin e = else_more (kind_by isin entry) (kind_of h isin) (kind_of (h ++ g) isin) (still_registered h g isin) e

-- The security that an entry brings on an account is registered.
abbrev IsKnown : List Entry → Entry → Type 0
IsKnown h (Issue movement) = IsRegistered h movement.isin
IsKnown h (Instruct sender i) = IsRegistered h i.isin
IsKnown h entry = Unit {0}

known_before : (b : Books) (e : Entry) → Passes b e → IsKnown b.history e
known_before b (Participant reference bic) p = tt
known_before b (Account reference bic account) p = tt
known_before b (Security reference isin kind) p = tt
known_before b (Issue movement) p = some_unless_none (kind_of b.history movement.isin) (p.checks _ (inr (inl refl)))
known_before b (Redeem movement) p = tt
known_before b (PayIn payment) p = tt
known_before b (PayOut payment) p = tt
known_before b (Instruct sender i) p = some_unless_none (kind_of b.history i.isin) (p.checks _ (inr (inl refl)))
known_before b (Cancel sender order) p = tt
known_before b (Run reference day rule) p = tt

still_known : (h g : List Entry) (e : Entry) → IsKnown h e → IsKnown (h ++ g) e
still_known h g (Participant reference bic) k = tt
still_known h g (Account reference bic account) k = tt
still_known h g (Security reference isin kind) k = tt
still_known h g (Issue movement) k = still_registered h g movement.isin k
still_known h g (Redeem movement) k = tt
still_known h g (PayIn payment) k = tt
still_known h g (PayOut payment) k = tt
still_known h g (Instruct sender i) k = still_registered h g i.isin k
still_known h g (Cancel sender order) k = tt
still_known h g (Run reference day rule) k = tt

known : (limit : ℕ) (h : List Entry) → WasAccepted limit h → (n : ℕ) (e : Entry) → entry_at h n ≡ Some e → IsKnown h e
known limit h was n e at =
    let front = before n h in
    let own = books_exist front in
    let books : Books = record { history = front; pairs = own.0; settled = own.1 } in
    let p = passes limit books e (was.each n e books at refl (record { pairing = own.2.pairing; settlement = own.2.settlement })) in
    let P : List Entry → Type 0 = λ z. IsKnown z e in
    subst P (take-append-drop (n - 1) h) (still_known front (drop (n - 1) h) e (known_before books e p))

number_of_member : (h : List Entry) (e : Entry) → In h e → (n : ℕ) × (entry_at h n ≡ Some e)
number_of_member h e i = let found = place_of_member h e i in (suc found.0, found.1)
  where
    place_of_member : (xs : List Entry) (x : Entry) → In xs x → (k : ℕ) × (slice_get xs k ≡ Some x)
    place_of_member [] x j = absurd j
    place_of_member (y ∷ xs) x (inl same) = (0, ap Some same)
    place_of_member (y ∷ xs) x (inr j) = let rest = place_of_member xs x j in (suc rest.0, rest.1)

-- Of a sum above 0 some part is.
some_part : {X : Type 0} (f : X → ℕ) (xs : List X) → 0 < sum_by f xs → (x : X) × In xs x × (0 < f x)
some_part f [] some = absurd (omega arith)
some_part f (x ∷ xs) some =
    let parts = sum_by-cons f x xs in
    elim (cases_lt 0 (f x)) [
      | inl here ↦ (x, inl refl, here)
      | inr none ↦ (let rest = some_part f xs (omega arith) in (rest.0, inr rest.1, rest.2))
    ]

-- a quantity counts where the test holds
counts : (test : Bool) (quantity : ℕ) → 0 < quantity_if test quantity → (test ≡ true) × (0 < quantity)
counts true quantity some = (refl, some)
counts false quantity some = absurd (omega arith)

abbrev SecurityOf : List Entry → Option Instructed → Type 0
SecurityOf h None = ⊥
SecurityOf h (Some i) = IsRegistered h i.instruction.isin

module _ (account isin : List ℕ) where
  issue_known : (h : List Entry) (e : Entry) → IsKnown h e → 0 < issued_by (movement_on account isin) e → IsRegistered h isin
  issue_known h (Participant reference bic) k some = absurd (omega arith)
  issue_known h (Account reference bic a) k some = absurd (omega arith)
  issue_known h (Security reference i kind) k some = absurd (omega arith)
  issue_known h (Issue movement) k some =
      let on = counts (bytes_eq movement.account account) (movement_of isin movement) some in
      let of = counts (bytes_eq movement.isin isin) movement.quantity on.1 in
      subst (λ z. IsRegistered h z) (same_bytes movement.isin isin of.0) k
  issue_known h (Redeem movement) k some = absurd (omega arith)
  issue_known h (PayIn payment) k some = absurd (omega arith)
  issue_known h (PayOut payment) k some = absurd (omega arith)
  issue_known h (Instruct sender instruction) k some = absurd (omega arith)
  issue_known h (Cancel sender order) k some = absurd (omega arith)
  issue_known h (Run reference day rule) k some = absurd (omega arith)

  instructed_known : (h : List Entry) (e : Entry) (i : Instructed) → instructed e ≡ Some i → IsKnown h e → IsRegistered h i.instruction.isin
  instructed_known h (Participant reference bic) i is k = absurd (cc)
  instructed_known h (Account reference bic a) i is k = absurd (cc)
  instructed_known h (Security reference s kind) i is k = absurd (cc)
  instructed_known h (Issue movement) i is k = absurd (cc)
  instructed_known h (Redeem movement) i is k = absurd (cc)
  instructed_known h (PayIn payment) i is k = absurd (cc)
  instructed_known h (PayOut payment) i is k = absurd (cc)
  instructed_known h (Instruct sender instruction) i is k = let P : Option Instructed → Type 0 = SecurityOf h in subst P is k
  instructed_known h (Cancel sender order) i is k = absurd (cc)
  instructed_known h (Run reference day rule) i is k = absurd (cc)

  received_known : (h : List Entry) (o : Option Instructed) → ((i : Instructed) → o ≡ Some i → IsRegistered h i.instruction.isin) → 0 < quantity_on account isin o → IsRegistered h isin
  received_known h None each some = absurd (omega arith)
  received_known h (Some i) each some =
      let on = counts (bytes_eq i.instruction.account account) (quantity_if (bytes_eq i.instruction.isin isin) i.instruction.quantity) some in
      let of = counts (bytes_eq i.instruction.isin isin) i.instruction.quantity on.1 in
      subst (λ z. IsRegistered h z) (same_bytes i.instruction.isin isin of.0) (each i refl)

  module _ (limit : ℕ) (h : List Entry) (was : WasAccepted limit h) where
    member_known : (e : Entry) → In h e → IsKnown h e
    member_known e i = let n = number_of_member h e i in known limit h was n.0 e n.1

    side_known : (n : ℕ) (i : Instructed) → instruction_at h n ≡ Some i → IsRegistered h i.instruction.isin
    side_known n i is = let found = some_before instructed (entry_at h n) i is in instructed_known h found.0 i found.2 (known limit h was n found.0 found.1)

    credited_known : (settled : List Settled) → 0 < credits h settled account isin → IsRegistered h isin
    credited_known settled some = elim (cases_lt 0 (sum_by (issued_by (movement_on account isin)) h)) [
      | inl issues ↦ (let part = some_part (issued_by (movement_on account isin)) h issues in issue_known h part.0 (member_known part.0 part.1) part.2)
      | inr none ↦
          let receives : 0 < sum_by (λ s. quantity_on account isin (receipt_of h s.pair)) settled = omega arith in
          let part = some_part (λ s. quantity_on account isin (receipt_of h s.pair)) settled receives in
          received_known h (receipt_of h part.0.pair) (side_known (receiver_of h part.0.pair)) part.2
    ]

pub holds_registered : (limit : ℕ) (books : Books) (content : Content) (account : List ℕ) → AreTables books content → WasAccepted limit books.history → HoldsRegistered content account
holds_registered limit books content account tables was = record {
  each = λ isin some.
      let makes_up : content.position account isin + debits books.history books.settled account isin ≡ credits books.history books.settled account isin = tables.positions account isin in
      let P : List Entry → Type 0 = λ h. IsRegistered h isin in
      subst P (sym tables.history) (credited_known account isin limit books.history was books.settled (omega arith));
}
