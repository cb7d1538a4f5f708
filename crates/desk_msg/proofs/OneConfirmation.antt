-- Fields confirm one settlement or have one fault.
use Rattle.std.proofs.Common.{◌≡◌, ◌≢◌, ℕ, Bool, true, false, if◌then◌else◌, List, [], ◌∷◌, codes, sym, ◌∙◌, ap, refl, ◌⊎◌, inl, inr, Option, Some, None, Result, Ok, Err, is_some, subst}
use Rattle.desk_codes.specs.declared.currency.Ccy.{Ccy}
use Rattle.desk_text.specs.Fields.{Found}
use Rattle.desk_msg.specs.declared.mt.Mt.{Mt}
use Rattle.desk_msg.specs.declared.fault.Word.{Word}
use Rattle.desk_msg.specs.declared.fault.Word.TheVariants.{Field19A}
use Rattle.desk_msg.specs.declared.fault.MsgFault.{MsgFault}
use Rattle.desk_msg.specs.declared.fault.MsgFault.TheVariants.{Missing, Repeated, BadValue, Function}
use Rattle.desk_msg.specs.declared.instruction.Kind.{Kind}
use Rattle.desk_msg.specs.MessageType.{is_against_payment}
use Rattle.desk_msg.specs.Profile.{Row, Said, text_said, function_row, security_row, safe_row, amount_said}
use Rattle.desk_msg.specs.Reads.{Gives, Fails, GiveAll}
use Rattle.desk_msg.specs.declared.reading.confirmed.Confirmed.{Confirmed}
use Rattle.desk_msg.specs.Confirms.{Confirms, FailsConfirming, confirmation_said, confirmation_rows, rela_row, eset_row, settled_row, paid_row, paid_said}
use Rattle.desk_msg.proofs.ReadingLaws.{one_given, one_failure, one_first, given_not_first, ArePlain, none_one, many_one, bad_gives}
use Rattle.desk_msg.proofs.MessageLaws.{one_text, quantity_parts, amount_parts}

-- The same parts make the same whole.

paid_of : Ccy → ℕ → Option (Ccy × ℕ)
paid_of ccy amount = Some (ccy, amount)

same_paid : (c d : Ccy) (m n : ℕ) → c ≡ d → m ≡ n → paid_of c m ≡ paid_of d n
same_paid c d m n e f = cc

confirmed_from : (related day isin : List ℕ) (kind : Kind) (quantity : ℕ) (account : List ℕ) (cash : Option (Ccy × ℕ)) → Confirmed
confirmed_from related day isin kind quantity account cash =
    record { related = related; day = day; isin = isin; kind = kind; quantity = quantity; account = account; cash = cash }

same_parts : (r s d e i j : List ℕ) (k l : Kind) (m n : ℕ) (a b : List ℕ) (x y : Option (Ccy × ℕ)) → r ≡ s → d ≡ e → i ≡ j → k ≡ l → m ≡ n → a ≡ b → x ≡ y → confirmed_from r d i k m a x ≡ confirmed_from s e j l n b y
same_parts r s d e i j k l m n a b x y p q t u v w z = cc

-- the amount is one
one_cash : (fields : List Found) (against : Bool) (a b : Option (Ccy × ℕ)) (one other : Word → Said) → is_some a ≡ against → is_some b ≡ against → one Field19A ≡ paid_said a → other Field19A ≡ paid_said b
    → GiveAll fields (if against then paid_row ∷ [] else []) one → GiveAll fields (if against then paid_row ∷ [] else []) other → a ≡ b
unfolding paid_of
one_cash fields against None None one other ea eb sa sb x y = refl
one_cash fields against None (Some b) one other ea eb sa sb x y = absurd (let g = ea in let h = eb in cc)
one_cash fields against (Some a) None one other ea eb sa sb x y = absurd (let g = ea in let h = eb in cc)
one_cash fields false (Some a) (Some b) one other ea eb sa sb x y = absurd (let g = ea in cc)
one_cash fields true (Some a) (Some b) one other ea eb sa sb x y =
    let P : Said → Type 0 = Gives fields paid_row in
    let same = amount_parts a.0 b.0 a.1 b.1 (one_given fields paid_row (amount_said a.0 a.1) (amount_said b.0 b.1) (subst P sa x.0) (subst P sb y.0)) in
    same_paid a.0 b.0 a.1 b.1 same.0 same.1

one_settlement : (mt : Mt) (fields : List Found) (a b : Confirmed) → Confirms mt fields (Ok a) → Confirms mt fields (Ok b) → a ≡ b
unfolding confirmed_from
one_settlement mt fields a b x y =
    let quantity = quantity_parts a.kind b.kind a.quantity b.quantity (one_given fields settled_row _ _ x.1.1.1.1.1.0 y.1.1.1.1.1.0) in
    same_parts a.related b.related a.day b.day a.isin b.isin a.kind b.kind a.quantity b.quantity a.account b.account a.cash b.cash
    (one_text fields rela_row a.related b.related x.1.1.0 y.1.1.0)
    (one_text fields eset_row a.day b.day x.1.1.1.0 y.1.1.1.0)
    (one_text fields security_row a.isin b.isin x.1.1.1.1.0 y.1.1.1.1.0)
    quantity.0 quantity.1
    (one_text fields safe_row a.account b.account x.1.1.1.1.1.1.0 y.1.1.1.1.1.1.0)
    (one_cash fields (is_against_payment mt) a.cash b.cash (confirmation_said a) (confirmation_said b) x.0 y.0 refl refl x.1.1.1.1.1.1.1 y.1.1.1.1.1.1.1)

-- the function is another than NEWM
IsOther : List Found → Type 0
IsOther fields = (function : List ℕ) × Gives fields function_row (text_said function) × (function ≢ codes "NEWM")

-- the two ways in which the function fails
abbrev Ways : List Found → MsgFault → Type 0
Ways fields fault = ((fault ≡ Function) × IsOther fields) ⊎ ((fault ≢ Function) × Fails fields function_row fault)

ways : (fields : List Found) (fault : MsgFault) → FailsConfirming fields fault → Ways fields fault
unfolding IsOther
ways fields Function x = inl (refl, x)
ways fields (Missing word) x = inr ((λ e. cc), x)
ways fields (Repeated word) x = inr ((λ e. cc), x)
ways fields (BadValue word) x = inr ((λ e. cc), x)

not_given : (fields : List Found) (row : Row) (said : Said) (fault : MsgFault) → fault ≢ Function → Fails fields row fault → Gives fields row said → ⊥
not_given fields row said (Missing word) p fails gives = none_one fields row gives.field fails.1 gives.only
not_given fields row said (Repeated word) p fails gives = many_one fields row gives.field fails.1 gives.only
not_given fields row said (BadValue word) p fails gives = bad_gives fields row said fails.1 gives
not_given fields row said Function p fails gives = p refl

newm_not_failing : (fields : List Found) (fault : MsgFault) → Gives fields function_row (text_said (codes "NEWM")) → Ways fields fault → ⊥
unfolding IsOther
newm_not_failing fields fault gives (inl x) = x.1.2 (one_text fields function_row x.1.0 (codes "NEWM") x.1.1 gives)
newm_not_failing fields fault gives (inr x) = not_given fields function_row (text_said (codes "NEWM")) fault x.0 x.1 gives

one_way : (fields : List Found) (e f : MsgFault) → Ways fields e → Ways fields f → e ≡ f
unfolding IsOther
one_way fields e f (inl x) (inl y) = x.0 ∙ sym y.0
one_way fields e f (inl x) (inr y) = absurd (not_given fields function_row (text_said x.1.0) f y.0 y.1 x.1.1)
one_way fields e f (inr x) (inl y) = absurd (not_given fields function_row (text_said y.1.0) e x.0 x.1 y.1.1)
one_way fields e f (inr x) (inr y) = one_failure fields function_row e f x.1 y.1

plain_if : (against : Bool) → ArePlain (if against then paid_row ∷ [] else [])
plain_if true = ((λ e. cc), tt)
plain_if false = tt

plain_rows : (mt : Mt) → ArePlain (confirmation_rows mt)
plain_rows mt = ((λ e. cc), ((λ e. cc), ((λ e. cc), ((λ e. cc), ((λ e. cc), plain_if (is_against_payment mt))))))

one_fault : (mt : Mt) (fields : List Found) (e f : MsgFault) → Confirms mt fields (Err e) → Confirms mt fields (Err f) → e ≡ f
one_fault mt fields e f (inl x) (inl y) = one_way fields e f (ways fields e x) (ways fields f y)
one_fault mt fields e f (inl x) (inr y) = absurd (newm_not_failing fields e y.0 (ways fields e x))
one_fault mt fields e f (inr x) (inl y) = absurd (newm_not_failing fields f x.0 (ways fields f y))
one_fault mt fields e f (inr x) (inr y) = one_first fields (confirmation_rows mt) e f (plain_rows mt) x.1 y.1

settlement_no_fault : (mt : Mt) (fields : List Found) (c : Confirmed) (fault : MsgFault) → Confirms mt fields (Ok c) → Confirms mt fields (Err fault) → ⊥
settlement_no_fault mt fields c fault x (inl y) = newm_not_failing fields fault x.1.0 (ways fields fault y)
settlement_no_fault mt fields c fault x (inr y) = given_not_first fields (confirmation_rows mt) (confirmation_said c) fault (plain_rows mt) x.1.1 y.1

pub one_confirmation : (mt : Mt) (fields : List Found) (a b : Result Confirmed MsgFault) → Confirms mt fields a → Confirms mt fields b → a ≡ b
one_confirmation mt fields (Ok a) (Ok b) x y = ap Ok (one_settlement mt fields a b x y)
one_confirmation mt fields (Ok a) (Err f) x y = absurd (settlement_no_fault mt fields a f x y)
one_confirmation mt fields (Err e) (Ok b) x y = absurd (settlement_no_fault mt fields b e y x)
one_confirmation mt fields (Err e) (Err f) x y = ap Err (one_fault mt fields e f x y)
