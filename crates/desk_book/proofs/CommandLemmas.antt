-- The objects of the commands, from what was looked up in a value.
use Rattle.std.proofs.Common.{◌≡◌, ℕ, ◌<◌, List, [], ◌∷◌, length, arith, Some, None, Option, IfNone, codes, option_map, option_and_then, refl, subst}
use Rattle.serde_json.specs.Data.{Data, null, boolean, number, string, array, object, Members, no_members, unsigned, negative, float}
use Rattle.serde_json.specs.Read.{read}
use Rattle.serde_json.proofs.OnLiterals.{serde_json_on_literals}
use Rattle.serde_json.specs.Events.{members_len}
use Rattle.serde_json.specs.Find.{get, get_member, as_object, as_str, as_number, as_u64}
use Rattle.desk_book.specs.Command.{text_member, number_member, participant_object, account_object, security_object, movement_object, payment_object, run_object}
use Rattle.desk_book.specs.Members.{text_at, number_at}
use Rattle.desk_book.specs.Command.{IsCommand}
use Rattle.desk_msg.specs.declared.instruction.Kind.{Kind}
use Rattle.desk_rules.specs.declared.history.entry.Movement.{Movement}
use Rattle.desk_rules.specs.declared.history.entry.Payment.{Payment}
use Rattle.desk_rules.specs.declared.history.entry.Entry.{Entry}
use Rattle.desk_rules.specs.declared.history.entry.Entry.TheVariants.{Participant, Account, Security, Issue, Redeem, PayIn, PayOut, Run}
use Rattle.desk_rules.specs.declared.history.entry.RunRule.{RunRule}
use Rattle.desk_rules.specs.declared.history.entry.RunRule.TheVariants.{Passes}
use Rattle.desk_book.specs.Members.{IsOrderedObject}
use Rattle.desk_book.proofs.ExactLemmas.{exact_object}
use Rattle.desk_book.proofs.OneCommand.{apart}

text_is : (t : List ℕ) (o : Option Data) → option_and_then as_str o ≡ Some t → o ≡ Some (string t)
text_is t None h = cc
text_is t (Some null) h = cc
text_is t (Some (boolean b)) h = cc
text_is t (Some (number n)) h = cc
text_is t (Some (string s)) h = cc
text_is t (Some (array ds)) h = cc
text_is t (Some (object ms)) h = cc

whole_is : (n : ℕ) (o : Option Data) → option_and_then as_u64 (option_and_then as_number o) ≡ Some n → o ≡ Some (number (unsigned n))
whole_is n None h = cc
whole_is n (Some null) h = cc
whole_is n (Some (boolean b)) h = cc
whole_is n (Some (number (unsigned m))) h = cc
whole_is n (Some (number (negative z))) h = cc
whole_is n (Some (number (float x))) h = cc
whole_is n (Some (string s)) h = cc
whole_is n (Some (array ds)) h = cc
whole_is n (Some (object ms)) h = cc

-- what is found in a value is found among its members
among : (k : List ℕ) (d : Data) (ms : Members) → as_object d ≡ Some ms → get k d ≡ get_member k ms
among k null ms is = cc
among k (boolean b) ms is = cc
among k (number n) ms is = cc
among k (string s) ms is = cc
among k (array ds) ms is = cc
among k (object ns) ms is = let same : ns ≡ ms = cc in rw same

text_among : (k t : List ℕ) (d : Data) (ms : Members) → as_object d ≡ Some ms → text_at k d ≡ Some t → get_member k ms ≡ Some (string t)
text_among k t d ms is h = let a = among k d ms is in let b = text_is t (get k d) h in cc

whole_among : (k : List ℕ) (n : ℕ) (d : Data) (ms : Members) → as_object d ≡ Some ms → number_at k d ≡ Some n → get_member k ms ≡ Some (number (unsigned n))
whole_among k n d ms is h = let a = among k d ms is in let b = whole_is n (get k d) h in cc

abbrev pub HasMembers : Data → ℕ → Type 0
HasMembers d n = option_map members_len (as_object d) ≡ Some n

pub participant_is : (d : Data) (reference bic : List ℕ) → IsOrderedObject d → HasMembers d 3 → text_at (codes "op") d ≡ Some (codes "participant")
    → text_at (codes "ref") d ≡ Some reference → text_at (codes "bic") d ≡ Some bic → d ≡ participant_object reference bic
participant_is d reference bic ordered long op has_ref has_bic =
    let ns = text_member (codes "bic") bic (text_member (codes "op") (codes "participant") (text_member (codes "ref") reference no_members)) in
    exact_object ns d ((refl, (refl, tt)), ((refl, tt), (tt, tt))) ordered long
    (λ ms is. (text_among (codes "bic") bic d ms is has_bic, (text_among (codes "op") (codes "participant") d ms is op, (text_among (codes "ref") reference d ms is has_ref, tt))))

pub run_is : (d : Data) (reference day : List ℕ) → IsOrderedObject d → HasMembers d 3 → text_at (codes "op") d ≡ Some (codes "run")
    → text_at (codes "ref") d ≡ Some reference → text_at (codes "day") d ≡ Some day → d ≡ run_object reference day
run_is d reference day ordered long op has_ref has_day =
    let ns = text_member (codes "day") day (text_member (codes "op") (codes "run") (text_member (codes "ref") reference no_members)) in
    exact_object ns d ((refl, (refl, tt)), ((refl, tt), (tt, tt))) ordered long
    (λ ms is. (text_among (codes "day") day d ms is has_day, (text_among (codes "op") (codes "run") d ms is op, (text_among (codes "ref") reference d ms is has_ref, tt))))

pub account_is : (d : Data) (reference bic account : List ℕ) → IsOrderedObject d → HasMembers d 4 → text_at (codes "op") d ≡ Some (codes "account")
    → text_at (codes "ref") d ≡ Some reference → text_at (codes "bic") d ≡ Some bic → text_at (codes "account") d ≡ Some account → d ≡ account_object reference bic account
account_is d reference bic account ordered long op has_ref has_bic has_account =
    let ns = text_member (codes "account") account (text_member (codes "bic") bic (text_member (codes "op") (codes "account") (text_member (codes "ref") reference no_members))) in
    exact_object ns d ((refl, (refl, (refl, tt))), ((refl, (refl, tt)), ((refl, tt), (tt, tt)))) ordered long
    (λ ms is. (
      text_among (codes "account") account d ms is has_account,
      (text_among (codes "bic") bic d ms is has_bic, (text_among (codes "op") (codes "account") d ms is op, (text_among (codes "ref") reference d ms is has_ref, tt))),
    ))

pub security_is : (d : Data) (reference isin kind : List ℕ) → IsOrderedObject d → HasMembers d 4 → text_at (codes "op") d ≡ Some (codes "security")
    → text_at (codes "ref") d ≡ Some reference → text_at (codes "isin") d ≡ Some isin → text_at (codes "kind") d ≡ Some kind → d ≡ security_object reference isin kind
security_is d reference isin kind ordered long op has_ref has_isin has_kind =
    let ns = text_member (codes "isin") isin (text_member (codes "kind") kind (text_member (codes "op") (codes "security") (text_member (codes "ref") reference no_members))) in
    exact_object ns d ((refl, (refl, (refl, tt))), ((refl, (refl, tt)), ((refl, tt), (tt, tt)))) ordered long
    (λ ms is. (
      text_among (codes "isin") isin d ms is has_isin,
      (text_among (codes "kind") kind d ms is has_kind, (text_among (codes "op") (codes "security") d ms is op, (text_among (codes "ref") reference d ms is has_ref, tt))),
    ))

pub movement_is : (d : Data) (op reference account isin : List ℕ) (quantity : ℕ) → IsOrderedObject d → HasMembers d 5 → text_at (codes "op") d ≡ Some op
    → text_at (codes "ref") d ≡ Some reference → text_at (codes "account") d ≡ Some account → text_at (codes "isin") d ≡ Some isin
    → number_at (codes "quantity") d ≡ Some quantity → d ≡ movement_object op reference account isin quantity
movement_is d op reference account isin quantity ordered long has_op has_ref has_account has_isin has_quantity =
    let ns = text_member (codes "account") account (text_member (codes "isin") isin (text_member (codes "op") op (number_member (codes "quantity") quantity (text_member (codes "ref") reference no_members)))) in
    exact_object ns d ((refl, (refl, (refl, (refl, tt)))), ((refl, (refl, (refl, tt))), ((refl, (refl, tt)), ((refl, tt), (tt, tt))))) ordered long
    (λ ms is. (
      text_among (codes "account") account d ms is has_account,
      (
        text_among (codes "isin") isin d ms is has_isin,
        (
          text_among (codes "op") op d ms is has_op,
          (whole_among (codes "quantity") quantity d ms is has_quantity, (text_among (codes "ref") reference d ms is has_ref, tt)),
        ),
      ),
    ))

pub payment_is : (d : Data) (op reference bic ccy : List ℕ) (amount : ℕ) → IsOrderedObject d → HasMembers d 5 → text_at (codes "op") d ≡ Some op
    → text_at (codes "ref") d ≡ Some reference → text_at (codes "bic") d ≡ Some bic → text_at (codes "ccy") d ≡ Some ccy
    → number_at (codes "amount") d ≡ Some amount → d ≡ payment_object op reference bic ccy amount
payment_is d op reference bic ccy amount ordered long has_op has_ref has_bic has_ccy has_amount =
    let ns = number_member (codes "amount") amount (text_member (codes "bic") bic (text_member (codes "ccy") ccy (text_member (codes "op") op (text_member (codes "ref") reference no_members)))) in
    exact_object ns d ((refl, (refl, (refl, (refl, tt)))), ((refl, (refl, (refl, tt))), ((refl, (refl, tt)), ((refl, tt), (tt, tt))))) ordered long
    (λ ms is. (
      whole_among (codes "amount") amount d ms is has_amount,
      (
        text_among (codes "bic") bic d ms is has_bic,
        (
          text_among (codes "ccy") ccy d ms is has_ccy,
          (text_among (codes "op") op d ms is has_op, (text_among (codes "ref") reference d ms is has_ref, tt)),
        ),
      ),
    ))

-- A value whose `op` is this is no command of another operation.

pub only_participant : (d : Data) → text_at (codes "op") d ≡ Some (codes "participant") → ((reference bic : List ℕ) → ¬ IsCommand d (Participant reference bic))
    → (entry : Entry) → ¬ IsCommand d entry
only_participant d op none (Participant reference bic) c = none reference bic c
only_participant d op none entry c = apart d entry (codes "participant") refl c op

pub only_account : (d : Data) → text_at (codes "op") d ≡ Some (codes "account") → ((reference bic account : List ℕ) → ¬ IsCommand d (Account reference bic account))
    → (entry : Entry) → ¬ IsCommand d entry
only_account d op none (Account reference bic account) c = none reference bic account c
only_account d op none entry c = apart d entry (codes "account") refl c op

pub only_security : (d : Data) → text_at (codes "op") d ≡ Some (codes "security") → ((reference isin : List ℕ) (kind : Kind) → ¬ IsCommand d (Security reference isin kind))
    → (entry : Entry) → ¬ IsCommand d entry
only_security d op none (Security reference isin kind) c = none reference isin kind c
only_security d op none entry c = apart d entry (codes "security") refl c op

pub only_issue : (d : Data) → text_at (codes "op") d ≡ Some (codes "issue") → ((movement : Movement) → ¬ IsCommand d (Issue movement))
    → (entry : Entry) → ¬ IsCommand d entry
only_issue d op none (Issue movement) c = none movement c
only_issue d op none entry c = apart d entry (codes "issue") refl c op

pub only_redeem : (d : Data) → text_at (codes "op") d ≡ Some (codes "redeem") → ((movement : Movement) → ¬ IsCommand d (Redeem movement))
    → (entry : Entry) → ¬ IsCommand d entry
only_redeem d op none (Redeem movement) c = none movement c
only_redeem d op none entry c = apart d entry (codes "redeem") refl c op

pub only_pay_in : (d : Data) → text_at (codes "op") d ≡ Some (codes "payin") → ((payment : Payment) → ¬ IsCommand d (PayIn payment))
    → (entry : Entry) → ¬ IsCommand d entry
only_pay_in d op none (PayIn payment) c = none payment c
only_pay_in d op none entry c = apart d entry (codes "payin") refl c op

pub only_pay_out : (d : Data) → text_at (codes "op") d ≡ Some (codes "payout") → ((payment : Payment) → ¬ IsCommand d (PayOut payment))
    → (entry : Entry) → ¬ IsCommand d entry
only_pay_out d op none (PayOut payment) c = none payment c
only_pay_out d op none entry c = apart d entry (codes "payout") refl c op

pub only_run : (d : Data) → text_at (codes "op") d ≡ Some (codes "run") → ((reference day : List ℕ) → ¬ IsCommand d (Run reference day Passes))
    → (entry : Entry) → ¬ IsCommand d entry
only_run d op none (Run reference day rule) c = (let P : RunRule → Type 0 = λ r. IsCommand d (Run reference day r) in none reference day (subst P c.3 c))
only_run d op none entry c = apart d entry (codes "run") refl c op

pub if_none : {T : Type 0} {P Q : Type 0} (o : Option T) → (P → Q) → IfNone o P → IfNone o Q
if_none None f h = f h
if_none (Some x) f h = h

none_from_nothing : read [] ≡ None
unfolding serde_json_on_literals
none_from_nothing = refl

-- no value is spelled by nothing
pub not_empty : (bytes : List ℕ) (d : Data) → read bytes ≡ Some d → 0 < length bytes
not_empty [] d h = let none = none_from_nothing in cc
not_empty (x ∷ bytes) d h = omega arith
