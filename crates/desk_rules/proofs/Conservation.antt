-- Where each entry was accepted in its turn, positions add up to what was issued less what was redeemed, and cash to
-- what was paid in less what was paid out.
use Rattle.std.proofs.Common.{◌≡◌, ℕ, suc, ◌+◌, ◌-◌, ◌⊎◌, inl, inr, Bool, true, false, not, cond, List, [], ◌∷◌, ◌++◌, bytes_eq, sum_by, if◌then◌else◌, drop, Option, Some, None, refl, sym, ◌∙◌, ap, subst, arith, append_assoc, append-nil, Contains}
use Rattle.std.specs.Prelude.{is_some, is_none, slice_get}
use Rattle.std.proofs.lemmas.Bool.{cases_Bool, both_ways, or_cases, or_parts, not-false}
use Rattle.std.proofs.lemmas.List.{take-append-drop}
use Rattle.std.proofs.lemmas.List.Elements.{filter_map-append}
use Rattle.std.proofs.lemmas.List.Sums.{sum_by-cons}
use Rattle.std.proofs.lemmas.Slice.Eq.{bytes_eq-Decides}
use Rattle.desk_codes.specs.declared.currency.Ccy.{Ccy}
use Rattle.desk_msg.specs.MessageType.{is_delivery}
use Rattle.desk_rules.specs.declared.history.entry.Entry.{Entry}
use Rattle.desk_rules.specs.declared.history.entry.Entry.TheVariants.{Participant, Account, Security, Issue, Redeem, PayIn, PayOut, Instruct, Cancel, Run}
use Rattle.desk_rules.specs.declared.history.pair.Pair.{Pair}
use Rattle.desk_rules.specs.declared.history.pair.Settled.{Settled}
use Rattle.desk_rules.specs.History.{Instructed, instructed, entry_at, before, instruction_at}
use Rattle.desk_rules.specs.Opposite.{AreOpposite, AreOppositeAt}
use Rattle.desk_rules.specs.Pairing.{IsPairing}
use Rattle.desk_rules.specs.Balances.{is_delivered_by, delivery_of, receipt_of, quantity_if, movement_of, movement_on, issued_by, redeemed_by, issued, redeemed, quantity_on, credits, debits, payment_in, payment_of, paid_in_by, paid_out_by, paid_in, paid_out, cash_in, amount_of, cash_credits, cash_debits}
use Rattle.desk_rules.specs.Settlement.{IsSettlement}
use Rattle.desk_rules.specs.Books.{Books}
use Rattle.desk_rules.specs.Facts.{is_participant, is_owner, or_else, owner_of, account_by, participant_by, accounts_of, participants_of}
use Rattle.desk_rules.specs.Verdict.{WasAccepted}
use Rattle.desk_rules.proofs.Decided.{In, In-left, In-push_cases}
use Rattle.desk_rules.proofs.HistoryLemmas.{some_before}
use Rattle.desk_rules.proofs.PairingLaws.{opposite_back}
use Rattle.desk_rules.proofs.SettlementLemmas.{decided_settlement}
use Rattle.desk_rules.proofs.Existence.{books_exist}
use Rattle.desk_rules.proofs.Accepted.{Passes, passes, accepted_front, accepted_last}
use Rattle.desk_rules.proofs.BalanceLemmas.{sum_same}

-- Sums.

pub sum_add : {X : Type 0} (f g : X → ℕ) (xs : List X) → sum_by (λ x. f x + g x) xs ≡ sum_by f xs + sum_by g xs
sum_add f g [] = refl
sum_add f g (x ∷ xs) =
    let a = sum_by-cons (λ y. f y + g y) x xs in
    let b = sum_by-cons f x xs in
    let c = sum_by-cons g x xs in
    let rest = sum_add f g xs in
    omega arith

pub sum_zero : {X : Type 0} (f : X → ℕ) (xs : List X) → ((x : X) → In xs x → f x ≡ 0) → sum_by f xs ≡ 0
sum_zero f [] none = refl
sum_zero f (x ∷ xs) none = let a = sum_by-cons f x xs in let here = none x (inl refl) in let rest = sum_zero f xs (λ y i. none y (inr i)) in omega arith

pub sum_swap : {X Y : Type 0} (f : X → Y → ℕ) (xs : List X) (ys : List Y) → sum_by (λ x. sum_by (f x) ys) xs ≡ sum_by (λ y. sum_by (λ x. f x y) xs) ys
sum_swap f [] ys = sym (sum_zero (λ y. sum_by (λ x. f x y) []) ys (λ y i. refl))
sum_swap {X} {Y} f (x ∷ xs) ys =
    let a = sum_by-cons (λ z. sum_by (f z) ys) x xs in
    let rest = sum_swap f xs ys in
    let b = sum_same (λ y. sum_by (λ z. f z y) (x ∷ xs)) (λ y. f x y + sum_by (λ z. f z y) xs) ys (λ y i. sum_by-cons (λ z. f z y) x xs) in
    let c = sum_add (f x) (λ y. sum_by (λ z. f z y) xs) ys in
    omega arith

-- Keys, each of which stands once.

abbrev NotIn : List ℕ → List (List ℕ) → Type 0
NotIn x keys = (y : List ℕ) → In keys y → bytes_eq x y ≡ false

abbrev Once : List ℕ → List (List ℕ) → Type 0
Once x [] = ⊥
Once x (y ∷ keys) = ((bytes_eq x y ≡ true) × NotIn x keys) ⊎ ((bytes_eq x y ≡ false) × Once x keys)

abbrev Apart : List (List ℕ) → Type 0
Apart [] = Unit {0}
Apart (x ∷ keys) = NotIn x keys × Apart keys

same_bytes : (a b : List ℕ) → bytes_eq a b ≡ true → a ≡ b
same_bytes a b e = let d = bytes_eq-Decides a b in d.0 e

own_bytes : (a : List ℕ) → bytes_eq a a ≡ true
own_bytes a = let d = bytes_eq-Decides a a in d.1 refl

bytes_back : (a b : List ℕ) → bytes_eq a b ≡ false → bytes_eq b a ≡ false
bytes_back a b e = elim (cases_Bool (bytes_eq b a)) [
  | inr f ↦ f
  | inl t ↦ let P : List ℕ → Type 0 = λ z. bytes_eq a z ≡ false in absurd (both_ways (bytes_eq a a) (subst P (same_bytes b a t) e) (own_bytes a))
]

once_from : (x : List ℕ) (keys : List (List ℕ)) → Apart keys → In keys x → Once x keys
once_from x [] apart i = absurd i
once_from x (y ∷ keys) apart (inl e) = let P : List ℕ → Type 0 = λ z. (bytes_eq z y ≡ true) × NotIn z keys in inl (subst P e (own_bytes y, apart.0))
once_from x (y ∷ keys) apart (inr i) = inr (bytes_back y x (apart.0 x i), once_from x keys apart.1 i)

apart_push : (keys : List (List ℕ)) (x : List ℕ) → Apart keys → NotIn x keys → Apart (keys ++ x ∷ [])
apart_push [] x apart new = ((λ y i. absurd i), tt)
apart_push (y ∷ keys) x apart new = (
  λ z i. elim (In-push_cases keys x z i) [
    | inl old ↦ apart.0 z old
    | inr e ↦ let P : List ℕ → Type 0 = λ v. bytes_eq y v ≡ false in subst P e (bytes_back x y (new y (inl refl)))
  ],
  apart_push keys x apart.1 (λ z i. new z (inr i)),
)

pub if_true : (b : Bool) (n : ℕ) → b ≡ true → quantity_if b n ≡ n
if_true b n e = rw e refl

pub if_false : (b : Bool) (n : ℕ) → b ≡ false → quantity_if b n ≡ 0
if_false b n e = rw e refl

-- what stands at one key is found once in all
sum_once : (x : List ℕ) (n : ℕ) (keys : List (List ℕ)) → Once x keys → sum_by (λ y. quantity_if (bytes_eq x y) n) keys ≡ n
sum_once x n [] once = absurd once
sum_once x n (y ∷ keys) once =
    let a = sum_by-cons (λ z. quantity_if (bytes_eq x z) n) y keys in
    elim once [
      | inl here ↦
          let rest = sum_zero (λ z. quantity_if (bytes_eq x z) n) keys (λ z i. if_false (bytes_eq x z) n (here.1 z i)) in
          let this : quantity_if (bytes_eq x y) n ≡ n = if_true (bytes_eq x y) n here.0 in
          omega arith
      | inr later ↦
          let rest = sum_once x n keys later.1 in
          let this : quantity_if (bytes_eq x y) n ≡ 0 = if_false (bytes_eq x y) n later.0 in
          omega arith
    ]

-- What is registered.

none_else : {X : Type 0} (a b : Option X) → or_else a b ≡ None → (a ≡ None) × (b ≡ None)
none_else None b e = (refl, e)
none_else (Some x) b e = absurd (cc)

some_else : {X : Type 0} (a b : Option X) (x : X) → or_else a b ≡ Some x → (a ≡ Some x) ⊎ (b ≡ Some x)
some_else None b x e = inr e
some_else (Some y) b x e = inl e

if_none : {X : Type 0} (b : Bool) (x : X) → (if b then Some x else None) ≡ None → b ≡ false
if_none true x e = absurd (cc)
if_none false x e = refl

if_some : {X : Type 0} (b : Bool) (x y : X) → (if b then Some x else None) ≡ Some y → b ≡ true
if_some true x y e = refl
if_some false x y e = absurd (cc)

-- an account without an owner is none of the registered ones
ownerless : (h : List Entry) (a : List ℕ) → owner_of h a ≡ None → NotIn a (accounts_of h)
ownerless [] a none y i = absurd i
ownerless (Participant reference bic ∷ h) a none y i = ownerless h a none y i
ownerless (Account reference bic account ∷ h) a none y i =
    let parts = none_else (if bytes_eq account a then Some bic else None) (owner_of h a) none in
    elim i [
      | inl e ↦ let P : List ℕ → Type 0 = λ z. bytes_eq a z ≡ false in subst P e (bytes_back account a (if_none (bytes_eq account a) bic parts.0))
      | inr later ↦ ownerless h a parts.1 y later
    ]
ownerless (Security reference isin kind ∷ h) a none y i = ownerless h a none y i
ownerless (Issue movement ∷ h) a none y i = ownerless h a none y i
ownerless (Redeem movement ∷ h) a none y i = ownerless h a none y i
ownerless (PayIn payment ∷ h) a none y i = ownerless h a none y i
ownerless (PayOut payment ∷ h) a none y i = ownerless h a none y i
ownerless (Instruct sender instruction ∷ h) a none y i = ownerless h a none y i
ownerless (Cancel sender order ∷ h) a none y i = ownerless h a none y i
ownerless (Run reference day rule ∷ h) a none y i = ownerless h a none y i

-- an account with an owner is one of the registered ones
pub owned : (h : List Entry) (a owner : List ℕ) → owner_of h a ≡ Some owner → In (accounts_of h) a
owned [] a owner e = absurd (cc)
owned (Participant reference bic ∷ h) a owner e = owned h a owner e
owned (Account reference bic account ∷ h) a owner e = elim (some_else (if bytes_eq account a then Some bic else None) (owner_of h a) owner e) [
  | inl here ↦ inl (same_bytes account a (if_some (bytes_eq account a) bic owner here))
  | inr later ↦ inr (owned h a owner later)
]
owned (Security reference isin kind ∷ h) a owner e = owned h a owner e
owned (Issue movement ∷ h) a owner e = owned h a owner e
owned (Redeem movement ∷ h) a owner e = owned h a owner e
owned (PayIn payment ∷ h) a owner e = owned h a owner e
owned (PayOut payment ∷ h) a owner e = owned h a owner e
owned (Instruct sender instruction ∷ h) a owner e = owned h a owner e
owned (Cancel sender order ∷ h) a owner e = owned h a owner e
owned (Run reference day rule ∷ h) a owner e = owned h a owner e

stranger : (h : List Entry) (b : List ℕ) → is_participant h b ≡ false → NotIn b (participants_of h)
stranger [] b none y i = absurd i
stranger (Participant reference bic ∷ h) b none y i =
    let parts = or_parts (bytes_eq bic b) (is_participant h b) none in
    elim i [
      | inl e ↦ let P : List ℕ → Type 0 = λ z. bytes_eq b z ≡ false in subst P e (bytes_back bic b parts.0)
      | inr later ↦ stranger h b parts.1 y later
    ]
stranger (Account reference bic account ∷ h) b none y i = stranger h b none y i
stranger (Security reference isin kind ∷ h) b none y i = stranger h b none y i
stranger (Issue movement ∷ h) b none y i = stranger h b none y i
stranger (Redeem movement ∷ h) b none y i = stranger h b none y i
stranger (PayIn payment ∷ h) b none y i = stranger h b none y i
stranger (PayOut payment ∷ h) b none y i = stranger h b none y i
stranger (Instruct sender instruction ∷ h) b none y i = stranger h b none y i
stranger (Cancel sender order ∷ h) b none y i = stranger h b none y i
stranger (Run reference day rule ∷ h) b none y i = stranger h b none y i

pub takes_part : (h : List Entry) (b : List ℕ) → is_participant h b ≡ true → In (participants_of h) b
takes_part [] b e = absurd (cc)
takes_part (Participant reference bic ∷ h) b e = elim (or_cases (bytes_eq bic b) (is_participant h b) e) [
  | inl here ↦ inl (same_bytes bic b here)
  | inr later ↦ inr (takes_part h b later)
]
takes_part (Account reference bic account ∷ h) b e = takes_part h b e
takes_part (Security reference isin kind ∷ h) b e = takes_part h b e
takes_part (Issue movement ∷ h) b e = takes_part h b e
takes_part (Redeem movement ∷ h) b e = takes_part h b e
takes_part (PayIn payment ∷ h) b e = takes_part h b e
takes_part (PayOut payment ∷ h) b e = takes_part h b e
takes_part (Instruct sender instruction ∷ h) b e = takes_part h b e
takes_part (Cancel sender order ∷ h) b e = takes_part h b e
takes_part (Run reference day rule ∷ h) b e = takes_part h b e

-- Of an accepted history.

accepted_grow : (limit : ℕ) (P : List Entry → Type 0) → ((h : List Entry) (e : Entry) → WasAccepted limit (h ++ e ∷ []) → P h → P (h ++ e ∷ [])) → (h g : List Entry) → WasAccepted limit (h ++ g) → P h → P (h ++ g)
accepted_grow limit P step h [] was p = subst P (sym (append-nil h)) p
accepted_grow limit P step h (e ∷ g) was p =
    let W : List Entry → Type 0 = WasAccepted limit in
    let was' : WasAccepted limit (h ++ e ∷ [] ++ g) = subst W (sym (append_assoc h (e ∷ []) g)) was in
    subst P (append_assoc h (e ∷ []) g) (accepted_grow limit P step (h ++ e ∷ []) g was' (step h e (accepted_front limit (h ++ e ∷ []) g was') p))

-- what holds of no entry, and with each accepted one, holds of an accepted history
pub accepted_all : (limit : ℕ) (P : List Entry → Type 0) → P [] → ((h : List Entry) (e : Entry) → WasAccepted limit (h ++ e ∷ []) → P h → P (h ++ e ∷ [])) → (h : List Entry) → WasAccepted limit h → P h
accepted_all limit P none step h was = accepted_grow limit P step [] h was none

is_some_false : {X : Type 0} (o : Option X) → is_some o ≡ false → o ≡ None
is_some_false None e = refl
is_some_false (Some x) e = absurd (cc)

pub is_none_false : {X : Type 0} (o : Option X) → is_none o ≡ false → (x : X) × (o ≡ Some x)
is_none_false None e = absurd (cc)
is_none_false (Some x) e = (x, refl)

-- no account is registered twice

accounts_push : (h : List Entry) (e : Entry) → accounts_of (h ++ e ∷ []) ≡ accounts_of h ++ accounts_of (e ∷ [])
accounts_push h e = filter_map-append account_by h (e ∷ [])

accounts_stay : (h : List Entry) (e : Entry) → account_by e ≡ None → Apart (accounts_of h) → Apart (accounts_of (h ++ e ∷ []))
accounts_stay h e none apart =
    let P : List (List ℕ) → Type 0 = Apart in
    let alone : accounts_of (e ∷ []) ≡ [] = rw none refl in
    subst P (sym (accounts_push h e ∙ ap (λ z. accounts_of h ++ z) alone ∙ append-nil (accounts_of h))) apart

accounts_apart : (limit : ℕ) (h : List Entry) (e : Entry) → WasAccepted limit (h ++ e ∷ []) → Apart (accounts_of h) → Apart (accounts_of (h ++ e ∷ []))
accounts_apart limit h (Participant reference bic) was apart = accounts_stay h (Participant reference bic) refl apart
accounts_apart limit h (Account reference bic account) was apart =
    let own = books_exist h in
    let p = accepted_last limit h (Account reference bic account) own.0 own.1 was own.2 in
    let none = is_some_false (owner_of h account) (p.checks _ (inl refl)) in
    let P : List (List ℕ) → Type 0 = Apart in
    subst P (sym (accounts_push h (Account reference bic account))) (apart_push (accounts_of h) account apart (ownerless h account none))
accounts_apart limit h (Security reference isin kind) was apart = accounts_stay h (Security reference isin kind) refl apart
accounts_apart limit h (Issue movement) was apart = accounts_stay h (Issue movement) refl apart
accounts_apart limit h (Redeem movement) was apart = accounts_stay h (Redeem movement) refl apart
accounts_apart limit h (PayIn payment) was apart = accounts_stay h (PayIn payment) refl apart
accounts_apart limit h (PayOut payment) was apart = accounts_stay h (PayOut payment) refl apart
accounts_apart limit h (Instruct sender instruction) was apart = accounts_stay h (Instruct sender instruction) refl apart
accounts_apart limit h (Cancel sender order) was apart = accounts_stay h (Cancel sender order) refl apart
accounts_apart limit h (Run reference day rule) was apart = accounts_stay h (Run reference day rule) refl apart

participants_push : (h : List Entry) (e : Entry) → participants_of (h ++ e ∷ []) ≡ participants_of h ++ participants_of (e ∷ [])
participants_push h e = filter_map-append participant_by h (e ∷ [])

participants_stay : (h : List Entry) (e : Entry) → participant_by e ≡ None → Apart (participants_of h) → Apart (participants_of (h ++ e ∷ []))
participants_stay h e none apart =
    let P : List (List ℕ) → Type 0 = Apart in
    let alone : participants_of (e ∷ []) ≡ [] = rw none refl in
    subst P (sym (participants_push h e ∙ ap (λ z. participants_of h ++ z) alone ∙ append-nil (participants_of h))) apart

participants_apart : (limit : ℕ) (h : List Entry) (e : Entry) → WasAccepted limit (h ++ e ∷ []) → Apart (participants_of h) → Apart (participants_of (h ++ e ∷ []))
participants_apart limit h (Participant reference bic) was apart =
    let own = books_exist h in
    let p = accepted_last limit h (Participant reference bic) own.0 own.1 was own.2 in
    let P : List (List ℕ) → Type 0 = Apart in
    subst P (sym (participants_push h (Participant reference bic))) (apart_push (participants_of h) bic apart (stranger h bic (p.checks _ (inl refl))))
participants_apart limit h (Account reference bic account) was apart = participants_stay h (Account reference bic account) refl apart
participants_apart limit h (Security reference isin kind) was apart = participants_stay h (Security reference isin kind) refl apart
participants_apart limit h (Issue movement) was apart = participants_stay h (Issue movement) refl apart
participants_apart limit h (Redeem movement) was apart = participants_stay h (Redeem movement) refl apart
participants_apart limit h (PayIn payment) was apart = participants_stay h (PayIn payment) refl apart
participants_apart limit h (PayOut payment) was apart = participants_stay h (PayOut payment) refl apart
participants_apart limit h (Instruct sender instruction) was apart = participants_stay h (Instruct sender instruction) refl apart
participants_apart limit h (Cancel sender order) was apart = participants_stay h (Cancel sender order) refl apart
participants_apart limit h (Run reference day rule) was apart = participants_stay h (Run reference day rule) refl apart

-- what an entry names is registered

abbrev IsRegistered : List Entry → Entry → Type 0
IsRegistered h (Participant reference bic) = Unit {0}
IsRegistered h (Account reference bic account) = Unit {0}
IsRegistered h (Security reference isin kind) = Unit {0}
IsRegistered h (Issue movement) = In (accounts_of h) movement.account
IsRegistered h (Redeem movement) = In (accounts_of h) movement.account
IsRegistered h (PayIn payment) = In (participants_of h) payment.bic
IsRegistered h (PayOut payment) = In (participants_of h) payment.bic
IsRegistered h (Instruct sender instruction) = In (accounts_of h) instruction.account × In (participants_of h) sender
IsRegistered h (Cancel sender order) = Unit {0}
IsRegistered h (Run reference day rule) = Unit {0}

owner_some : (sender : List ℕ) (o : Option (List ℕ)) → not (is_owner sender o) ≡ false → (owner : List ℕ) × (o ≡ Some owner)
owner_some sender None e = absurd (cc)
owner_some sender (Some owner) e = (owner, refl)

registered_before : (b : Books) (e : Entry) → Passes b e → IsRegistered b.history e
registered_before b (Participant reference bic) p = tt
registered_before b (Account reference bic account) p = tt
registered_before b (Security reference isin kind) p = tt
registered_before b (Issue movement) p = let o = is_none_false (owner_of b.history movement.account) (p.checks _ (inl refl)) in owned b.history movement.account o.0 o.1
registered_before b (Redeem movement) p = let o = is_none_false (owner_of b.history movement.account) (p.checks _ (inl refl)) in owned b.history movement.account o.0 o.1
registered_before b (PayIn x) p = takes_part b.history x.bic (not-false (is_participant b.history x.bic) (p.checks _ (inl refl)))
registered_before b (PayOut x) p = takes_part b.history x.bic (not-false (is_participant b.history x.bic) (p.checks _ (inl refl)))
registered_before b (Instruct sender i) p =
    let o = owner_some sender (owner_of b.history i.account) (p.checks _ (inr (inr (inr (inl refl))))) in
    (owned b.history i.account o.0 o.1, takes_part b.history sender (not-false (is_participant b.history sender) p.known))
registered_before b (Cancel sender order) p = tt
registered_before b (Run reference day rule) p = tt

accounts_more : (h g : List Entry) (x : List ℕ) → In (accounts_of h) x → In (accounts_of (h ++ g)) x
accounts_more h g x i = let P : List (List ℕ) → Type 0 = λ z. In z x in subst P (sym (filter_map-append account_by h g)) (In-left (accounts_of h) (accounts_of g) x i)

participants_more : (h g : List Entry) (x : List ℕ) → In (participants_of h) x → In (participants_of (h ++ g)) x
participants_more h g x i = let P : List (List ℕ) → Type 0 = λ z. In z x in subst P (sym (filter_map-append participant_by h g)) (In-left (participants_of h) (participants_of g) x i)

still_registered : (h g : List Entry) (e : Entry) → IsRegistered h e → IsRegistered (h ++ g) e
still_registered h g (Participant reference bic) r = tt
still_registered h g (Account reference bic account) r = tt
still_registered h g (Security reference isin kind) r = tt
still_registered h g (Issue x) r = accounts_more h g x.account r
still_registered h g (Redeem x) r = accounts_more h g x.account r
still_registered h g (PayIn x) r = participants_more h g x.bic r
still_registered h g (PayOut x) r = participants_more h g x.bic r
still_registered h g (Instruct sender i) r = (accounts_more h g i.account r.0, participants_more h g sender r.1)
still_registered h g (Cancel sender order) r = tt
still_registered h g (Run reference day rule) r = tt

registered : (limit : ℕ) (h : List Entry) → WasAccepted limit h → (n : ℕ) (e : Entry) → entry_at h n ≡ Some e → IsRegistered h e
registered limit h was n e at =
    let front = before n h in
    let own = books_exist front in
    let books : Books = record { history = front; pairs = own.0; settled = own.1 } in
    let p = passes limit books e (was.each n e books at refl (record { pairing = own.2.pairing; settlement = own.2.settlement })) in
    let P : List Entry → Type 0 = λ z. IsRegistered z e in
    subst P (take-append-drop (n - 1) h) (still_registered front (drop (n - 1) h) e (registered_before books e p))

number_of_member : (h : List Entry) (e : Entry) → In h e → (n : ℕ) × (entry_at h n ≡ Some e)
number_of_member h e i = let found = place_of_member h e i in (suc found.0, found.1)
  where
    place_of_member : (xs : List Entry) (x : Entry) → In xs x → (k : ℕ) × (slice_get xs k ≡ Some x)
    place_of_member [] x j = absurd j
    place_of_member (y ∷ xs) x (inl same) = (0, ap Some same)
    place_of_member (y ∷ xs) x (inr j) = let rest = place_of_member xs x j in (suc rest.0, rest.1)

-- The sums over all accounts.

module _ (limit : ℕ) (h : List Entry) (was : WasAccepted limit h) where
  accounts_once : (x : List ℕ) → In (accounts_of h) x → Once x (accounts_of h)
  accounts_once x i = once_from x (accounts_of h) (accepted_all limit (λ z. Apart (accounts_of z)) tt (accounts_apart limit) h was) i

  participants_once : (x : List ℕ) → In (participants_of h) x → Once x (participants_of h)
  participants_once x i = once_from x (participants_of h) (accepted_all limit (λ z. Apart (participants_of z)) tt (participants_apart limit) h was) i

  issued_once : (isin : List ℕ) (e : Entry) → IsRegistered h e → sum_by (λ a. issued_by (movement_on a isin) e) (accounts_of h) ≡ issued_by (movement_of isin) e
  issued_once isin (Participant reference bic) r = sum_zero (λ a. 0) (accounts_of h) (λ a i. refl)
  issued_once isin (Account reference bic account) r = sum_zero (λ a. 0) (accounts_of h) (λ a i. refl)
  issued_once isin (Security reference i kind) r = sum_zero (λ a. 0) (accounts_of h) (λ a i. refl)
  issued_once isin (Issue x) r = sum_once x.account (movement_of isin x) (accounts_of h) (accounts_once x.account r)
  issued_once isin (Redeem x) r = sum_zero (λ a. 0) (accounts_of h) (λ a i. refl)
  issued_once isin (PayIn x) r = sum_zero (λ a. 0) (accounts_of h) (λ a i. refl)
  issued_once isin (PayOut x) r = sum_zero (λ a. 0) (accounts_of h) (λ a i. refl)
  issued_once isin (Instruct sender instruction) r = sum_zero (λ a. 0) (accounts_of h) (λ a i. refl)
  issued_once isin (Cancel sender order) r = sum_zero (λ a. 0) (accounts_of h) (λ a i. refl)
  issued_once isin (Run reference day rule) r = sum_zero (λ a. 0) (accounts_of h) (λ a i. refl)

  redeemed_once : (isin : List ℕ) (e : Entry) → IsRegistered h e → sum_by (λ a. redeemed_by (movement_on a isin) e) (accounts_of h) ≡ redeemed_by (movement_of isin) e
  redeemed_once isin (Participant reference bic) r = sum_zero (λ a. 0) (accounts_of h) (λ a i. refl)
  redeemed_once isin (Account reference bic account) r = sum_zero (λ a. 0) (accounts_of h) (λ a i. refl)
  redeemed_once isin (Security reference i kind) r = sum_zero (λ a. 0) (accounts_of h) (λ a i. refl)
  redeemed_once isin (Issue x) r = sum_zero (λ a. 0) (accounts_of h) (λ a i. refl)
  redeemed_once isin (Redeem x) r = sum_once x.account (movement_of isin x) (accounts_of h) (accounts_once x.account r)
  redeemed_once isin (PayIn x) r = sum_zero (λ a. 0) (accounts_of h) (λ a i. refl)
  redeemed_once isin (PayOut x) r = sum_zero (λ a. 0) (accounts_of h) (λ a i. refl)
  redeemed_once isin (Instruct sender instruction) r = sum_zero (λ a. 0) (accounts_of h) (λ a i. refl)
  redeemed_once isin (Cancel sender order) r = sum_zero (λ a. 0) (accounts_of h) (λ a i. refl)
  redeemed_once isin (Run reference day rule) r = sum_zero (λ a. 0) (accounts_of h) (λ a i. refl)

  paid_in_once : (ccy : Ccy) (e : Entry) → IsRegistered h e → sum_by (λ b. paid_in_by (payment_of b ccy) e) (participants_of h) ≡ paid_in_by (payment_in ccy) e
  paid_in_once ccy (Participant reference bic) r = sum_zero (λ a. 0) (participants_of h) (λ a i. refl)
  paid_in_once ccy (Account reference bic account) r = sum_zero (λ a. 0) (participants_of h) (λ a i. refl)
  paid_in_once ccy (Security reference i kind) r = sum_zero (λ a. 0) (participants_of h) (λ a i. refl)
  paid_in_once ccy (Issue x) r = sum_zero (λ a. 0) (participants_of h) (λ a i. refl)
  paid_in_once ccy (Redeem x) r = sum_zero (λ a. 0) (participants_of h) (λ a i. refl)
  paid_in_once ccy (PayIn x) r = sum_once x.bic (payment_in ccy x) (participants_of h) (participants_once x.bic r)
  paid_in_once ccy (PayOut x) r = sum_zero (λ a. 0) (participants_of h) (λ a i. refl)
  paid_in_once ccy (Instruct sender instruction) r = sum_zero (λ a. 0) (participants_of h) (λ a i. refl)
  paid_in_once ccy (Cancel sender order) r = sum_zero (λ a. 0) (participants_of h) (λ a i. refl)
  paid_in_once ccy (Run reference day rule) r = sum_zero (λ a. 0) (participants_of h) (λ a i. refl)

  paid_out_once : (ccy : Ccy) (e : Entry) → IsRegistered h e → sum_by (λ b. paid_out_by (payment_of b ccy) e) (participants_of h) ≡ paid_out_by (payment_in ccy) e
  paid_out_once ccy (Participant reference bic) r = sum_zero (λ a. 0) (participants_of h) (λ a i. refl)
  paid_out_once ccy (Account reference bic account) r = sum_zero (λ a. 0) (participants_of h) (λ a i. refl)
  paid_out_once ccy (Security reference i kind) r = sum_zero (λ a. 0) (participants_of h) (λ a i. refl)
  paid_out_once ccy (Issue x) r = sum_zero (λ a. 0) (participants_of h) (λ a i. refl)
  paid_out_once ccy (Redeem x) r = sum_zero (λ a. 0) (participants_of h) (λ a i. refl)
  paid_out_once ccy (PayIn x) r = sum_zero (λ a. 0) (participants_of h) (λ a i. refl)
  paid_out_once ccy (PayOut x) r = sum_once x.bic (payment_in ccy x) (participants_of h) (participants_once x.bic r)
  paid_out_once ccy (Instruct sender instruction) r = sum_zero (λ a. 0) (participants_of h) (λ a i. refl)
  paid_out_once ccy (Cancel sender order) r = sum_zero (λ a. 0) (participants_of h) (λ a i. refl)
  paid_out_once ccy (Run reference day rule) r = sum_zero (λ a. 0) (participants_of h) (λ a i. refl)

  member_registered : (e : Entry) → In h e → IsRegistered h e
  member_registered e i = let n = number_of_member h e i in registered limit h was n.0 e n.1

  all_issued : (isin : List ℕ) → sum_by (λ a. sum_by (issued_by (movement_on a isin)) h) (accounts_of h) ≡ issued h isin
  all_issued isin = sum_swap (λ a. issued_by (movement_on a isin)) (accounts_of h) h ∙ sum_same (λ e. sum_by (λ a. issued_by (movement_on a isin) e) (accounts_of h)) (issued_by (movement_of isin)) h (λ e i. issued_once isin e (member_registered e i))

  all_redeemed : (isin : List ℕ) → sum_by (λ a. sum_by (redeemed_by (movement_on a isin)) h) (accounts_of h) ≡ redeemed h isin
  all_redeemed isin = sum_swap (λ a. redeemed_by (movement_on a isin)) (accounts_of h) h ∙ sum_same (λ e. sum_by (λ a. redeemed_by (movement_on a isin) e) (accounts_of h)) (redeemed_by (movement_of isin)) h (λ e i. redeemed_once isin e (member_registered e i))

  all_paid_in : (ccy : Ccy) → sum_by (λ b. sum_by (paid_in_by (payment_of b ccy)) h) (participants_of h) ≡ paid_in h ccy
  all_paid_in ccy = sum_swap (λ b. paid_in_by (payment_of b ccy)) (participants_of h) h ∙ sum_same (λ e. sum_by (λ b. paid_in_by (payment_of b ccy) e) (participants_of h)) (paid_in_by (payment_in ccy)) h (λ e i. paid_in_once ccy e (member_registered e i))

  all_paid_out : (ccy : Ccy) → sum_by (λ b. sum_by (paid_out_by (payment_of b ccy)) h) (participants_of h) ≡ paid_out h ccy
  all_paid_out ccy = sum_swap (λ b. paid_out_by (payment_of b ccy)) (participants_of h) h ∙ sum_same (λ e. sum_by (λ b. paid_out_by (payment_of b ccy) e) (participants_of h)) (paid_out_by (payment_in ccy)) h (λ e i. paid_out_once ccy e (member_registered e i))

  -- What a settled pair moves from one side it moves to the other.

  abbrev SidesOf : Option Instructed → Type 0
  SidesOf None = ⊥
  SidesOf (Some i) = In (accounts_of h) i.instruction.account × In (participants_of h) i.sender

  instruct_registered : (e : Entry) (i : Instructed) → instructed e ≡ Some i → IsRegistered h e → SidesOf (Some i)
  instruct_registered (Participant reference bic) i is r = absurd (cc)
  instruct_registered (Account reference bic account) i is r = absurd (cc)
  instruct_registered (Security reference isin kind) i is r = absurd (cc)
  instruct_registered (Issue x) i is r = absurd (cc)
  instruct_registered (Redeem x) i is r = absurd (cc)
  instruct_registered (PayIn x) i is r = absurd (cc)
  instruct_registered (PayOut x) i is r = absurd (cc)
  instruct_registered (Instruct sender instruction) i is r = let P : Option Instructed → Type 0 = SidesOf in subst P is r
  instruct_registered (Cancel sender order) i is r = absurd (cc)
  instruct_registered (Run reference day rule) i is r = absurd (cc)

  side_registered : (n : ℕ) (i : Instructed) → instruction_at h n ≡ Some i → SidesOf (Some i)
  side_registered n i is = let found = some_before instructed (entry_at h n) i is in instruct_registered found.0 i found.2 (registered limit h was n found.0 found.1)

  moved_once : (isin : List ℕ) (i : Instructed) → SidesOf (Some i) → sum_by (λ a. quantity_on a isin (Some i)) (accounts_of h) ≡ quantity_if (bytes_eq i.instruction.isin isin) i.instruction.quantity
  moved_once isin i sides = sum_once i.instruction.account (quantity_if (bytes_eq i.instruction.isin isin) i.instruction.quantity) (accounts_of h) (accounts_once i.instruction.account sides.0)

  paid_once : (ccy : Ccy) (i : Instructed) → SidesOf (Some i) → sum_by (λ b. amount_of b ccy (Some i)) (participants_of h) ≡ cash_in ccy i.instruction.cash
  paid_once ccy i sides = sum_once i.sender (cash_in ccy i.instruction.cash) (participants_of h) (participants_once i.sender sides.1)

  -- a pair's delivery and receipt
  record HasSides (p : Pair) : Type 0 where
    delivery : Instructed
    receipt : Instructed
    is_delivery : delivery_of h p ≡ Some delivery
    is_receipt : receipt_of h p ≡ Some receipt
    delivers : SidesOf (Some delivery)
    receives : SidesOf (Some receipt)
    opposite : AreOpposite delivery receipt

  sides_of : (p : Pair) → AreOppositeAt h p.earlier p.later → HasSides p
  sides_of p o =
      let first = side_registered p.earlier o.first o.is_first in
      let second = side_registered p.later o.second o.is_second in
      let test : is_delivered_by (instruction_at h p.earlier) ≡ is_delivery o.first.instruction.mt = ap is_delivered_by o.is_first in
      elim (cases_Bool (is_delivery o.first.instruction.mt)) [
        | inl e ↦ record {
          delivery = o.first;
          receipt = o.second;
          is_delivery = ap (λ b. instruction_at h (cond b p.earlier p.later)) (test ∙ e) ∙ o.is_first;
          is_receipt = ap (λ b. instruction_at h (cond b p.later p.earlier)) (test ∙ e) ∙ o.is_second;
          delivers = first;
          receives = second;
          opposite = o.opposite;
        }
        | inr e ↦ record {
          delivery = o.second;
          receipt = o.first;
          is_delivery = ap (λ b. instruction_at h (cond b p.earlier p.later)) (test ∙ e) ∙ o.is_second;
          is_receipt = ap (λ b. instruction_at h (cond b p.later p.earlier)) (test ∙ e) ∙ o.is_first;
          delivers = second;
          receives = first;
          opposite = opposite_back o.first o.second o.opposite;
        }
      ]

  same_moved : (p : Pair) → HasSides p → (isin : List ℕ) → sum_by (λ a. quantity_on a isin (receipt_of h p)) (accounts_of h) ≡ sum_by (λ a. quantity_on a isin (delivery_of h p)) (accounts_of h)
  same_moved p s isin =
      let come : sum_by (λ a. quantity_on a isin (receipt_of h p)) (accounts_of h) ≡ quantity_if (bytes_eq s.receipt.instruction.isin isin) s.receipt.instruction.quantity =
      ap (λ o. sum_by (λ a. quantity_on a isin o) (accounts_of h)) s.is_receipt ∙ moved_once isin s.receipt s.receives in
      let gone : sum_by (λ a. quantity_on a isin (delivery_of h p)) (accounts_of h) ≡ quantity_if (bytes_eq s.delivery.instruction.isin isin) s.delivery.instruction.quantity =
      ap (λ o. sum_by (λ a. quantity_on a isin o) (accounts_of h)) s.is_delivery ∙ moved_once isin s.delivery s.delivers in
      come ∙ sym (ap (λ x. quantity_if (bytes_eq x isin) s.delivery.instruction.quantity) s.opposite.isin ∙ ap (λ n. quantity_if (bytes_eq s.receipt.instruction.isin isin) n) s.opposite.quantity) ∙ sym gone

  same_paid : (p : Pair) → HasSides p → (ccy : Ccy) → sum_by (λ b. amount_of b ccy (delivery_of h p)) (participants_of h) ≡ sum_by (λ b. amount_of b ccy (receipt_of h p)) (participants_of h)
  same_paid p s ccy =
      let come : sum_by (λ b. amount_of b ccy (delivery_of h p)) (participants_of h) ≡ cash_in ccy s.delivery.instruction.cash =
      ap (λ o. sum_by (λ b. amount_of b ccy o) (participants_of h)) s.is_delivery ∙ paid_once ccy s.delivery s.delivers in
      let gone : sum_by (λ b. amount_of b ccy (receipt_of h p)) (participants_of h) ≡ cash_in ccy s.receipt.instruction.cash =
      ap (λ o. sum_by (λ b. amount_of b ccy o) (participants_of h)) s.is_receipt ∙ paid_once ccy s.receipt s.receives in
      come ∙ ap (λ c. cash_in ccy c) s.opposite.cash ∙ sym gone

  pub account_registered : (n : ℕ) (i : Instructed) → instruction_at h n ≡ Some i → In (accounts_of h) i.instruction.account
  account_registered n i is = let sides = side_registered n i is in sides.0

  pub sender_registered : (n : ℕ) (i : Instructed) → instruction_at h n ≡ Some i → In (participants_of h) i.sender
  sender_registered n i is = let sides = side_registered n i is in sides.1

  -- The sums, whatever pairs of the history are settled.

  module _ (ps : List Pair) (settled : List Settled) (pairing : IsPairing h ps) (inside : (s : Settled) → In settled s → Contains ps s.pair) where
    paired_sides : (s : Settled) → In settled s → HasSides s.pair
    paired_sides s i = let mate = (pairing.exact s.pair).0 (inside s i) in sides_of s.pair mate.candidate.opposite

    pub paired_add_up : (isin : List ℕ) → sum_by (λ a. credits h settled a isin) (accounts_of h) + redeemed h isin ≡ sum_by (λ a. debits h settled a isin) (accounts_of h) + issued h isin
    paired_add_up isin =
        let come = sum_add (λ a. sum_by (issued_by (movement_on a isin)) h) (λ a. sum_by (λ s. quantity_on a isin (receipt_of h s.pair)) settled) (accounts_of h) in
        let gone = sum_add (λ a. sum_by (redeemed_by (movement_on a isin)) h) (λ a. sum_by (λ s. quantity_on a isin (delivery_of h s.pair)) settled) (accounts_of h) in
        let received = sum_swap (λ a s. quantity_on a isin (receipt_of h s.pair)) (accounts_of h) settled in
        let delivered = sum_swap (λ a s. quantity_on a isin (delivery_of h s.pair)) (accounts_of h) settled in
        let same = sum_same (λ s. sum_by (λ a. quantity_on a isin (receipt_of h s.pair)) (accounts_of h)) (λ s. sum_by (λ a. quantity_on a isin (delivery_of h s.pair)) (accounts_of h)) settled (λ s i. same_moved s.pair (paired_sides s i) isin) in
        let put = all_issued isin in
        let taken = all_redeemed isin in
        omega arith

    pub paired_cash_adds_up : (ccy : Ccy) → sum_by (λ b. cash_credits h settled b ccy) (participants_of h) + paid_out h ccy ≡ sum_by (λ b. cash_debits h settled b ccy) (participants_of h) + paid_in h ccy
    paired_cash_adds_up ccy =
        let come = sum_add (λ b. sum_by (paid_in_by (payment_of b ccy)) h) (λ b. sum_by (λ s. amount_of b ccy (delivery_of h s.pair)) settled) (participants_of h) in
        let gone = sum_add (λ b. sum_by (paid_out_by (payment_of b ccy)) h) (λ b. sum_by (λ s. amount_of b ccy (receipt_of h s.pair)) settled) (participants_of h) in
        let earned = sum_swap (λ b s. amount_of b ccy (delivery_of h s.pair)) (participants_of h) settled in
        let spent = sum_swap (λ b s. amount_of b ccy (receipt_of h s.pair)) (participants_of h) settled in
        let same = sum_same (λ s. sum_by (λ b. amount_of b ccy (delivery_of h s.pair)) (participants_of h)) (λ s. sum_by (λ b. amount_of b ccy (receipt_of h s.pair)) (participants_of h)) settled (λ s i. same_paid s.pair (paired_sides s i) ccy) in
        let put = all_paid_in ccy in
        let taken = all_paid_out ccy in
        omega arith

  -- the settlement of the history is of its pairs

  module _ (ps : List Pair) (settled : List Settled) (pairing : IsPairing h ps) (settlement : IsSettlement h ps settled) where
    settled_in_pairs : (s : Settled) → In settled s → Contains ps s.pair
    settled_in_pairs s i =
        let d = decided_settlement h ps settled settlement in
        let c = (d.exact s (d.within s i)).0 i in
        c.paired

    pub securities_add_up : (isin : List ℕ) → sum_by (λ a. credits h settled a isin) (accounts_of h) + redeemed h isin ≡ sum_by (λ a. debits h settled a isin) (accounts_of h) + issued h isin
    securities_add_up isin = paired_add_up ps settled pairing settled_in_pairs isin

    pub cash_adds_up : (ccy : Ccy) → sum_by (λ b. cash_credits h settled b ccy) (participants_of h) + paid_out h ccy ≡ sum_by (λ b. cash_debits h settled b ccy) (participants_of h) + paid_in h ccy
    cash_adds_up ccy = paired_cash_adds_up ps settled pairing settled_in_pairs ccy
