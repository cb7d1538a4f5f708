-- Bytes spell one command at most.
use Rattle.std.proofs.Common.{◌≡◌, ℕ, false, List, [], Some, bytes_eq, codes, cond, eqb, get_or, refl, sym, ap, ◌∙◌}
use Rattle.std.proofs.lemmas.Bool.{both_ways}
use Rattle.serde_json.specs.Data.{Data}
use Rattle.desk_codes.specs.Bic.{party_of}
use Rattle.desk_codes.specs.Currency.{letters_of}
use Rattle.desk_codes.proofs.CurrencyLemmas.{known_by_letters}
use Rattle.desk_msg.specs.declared.instruction.Kind.{Kind}
use Rattle.desk_msg.specs.declared.instruction.Kind.TheVariants.{Unit as Units, FaceAmount}
use Rattle.desk_rules.specs.declared.history.entry.Entry.{Entry}
use Rattle.desk_rules.specs.declared.history.entry.Entry.TheVariants.{Participant, Account, Security, Issue, Redeem, PayIn, PayOut, Instruct, Cancel, Run}
use Rattle.desk_msg.specs.Profile.{code_of_kind}
use Rattle.desk_rules.proofs.SameContent.{movement_same, payment_same}
use Rattle.desk_register.proofs.CaseLemmas.{bytes_refl}
use Rattle.desk_book.specs.Command.{IsCommand, SpellsCommand}
use Rattle.desk_book.specs.Members.{text_at, number_at}

kind_of : List ℕ → Kind
kind_of word = cond (eqb (get_or word 0 0) 85) Units FaceAmount

kind_back : (kind : Kind) → kind_of (code_of_kind kind) ≡ kind
unfolding kind_of
kind_back Units = refl
kind_back FaceAmount = refl

same_kind : (a b : Kind) → code_of_kind a ≡ code_of_kind b → a ≡ b
same_kind a b e = sym (kind_back a) ∙ ap kind_of e ∙ kind_back b

-- the word of an operation
abbrev pub op_word : Entry → List ℕ
op_word (Participant reference bic) = codes "participant"
op_word (Account reference bic account) = codes "account"
op_word (Security reference isin kind) = codes "security"
op_word (Issue movement) = codes "issue"
op_word (Redeem movement) = codes "redeem"
op_word (PayIn payment) = codes "payin"
op_word (PayOut payment) = codes "payout"
op_word (Run reference day rule) = codes "run"
op_word (Instruct sender instruction) = []
op_word (Cancel sender order) = []

op_is : (d : Data) (e : Entry) → IsCommand d e → text_at (codes "op") d ≡ Some (op_word e)
op_is d (Participant reference bic) h = ap (text_at (codes "op")) h.3
op_is d (Account reference bic account) h = ap (text_at (codes "op")) h.4
op_is d (Security reference isin kind) h = ap (text_at (codes "op")) h.2
op_is d (Issue movement) h = ap (text_at (codes "op")) h.1
op_is d (Redeem movement) h = ap (text_at (codes "op")) h.1
op_is d (PayIn payment) h = ap (text_at (codes "op")) h.3
op_is d (PayOut payment) h = ap (text_at (codes "op")) h.3
op_is d (Run reference day rule) h = ap (text_at (codes "op")) h.2
op_is d (Instruct sender instruction) h = absurd h
op_is d (Cancel sender order) h = absurd h

-- a command is of the operation that its `op` names
of_word : (d : Data) (e : Entry) (word : List ℕ) → IsCommand d e → text_at (codes "op") d ≡ Some word → op_word e ≡ word
of_word d e word h is = let both = sym (op_is d e h) ∙ is in cc

pub apart : (d : Data) (e : Entry) (word : List ℕ) → bytes_eq (op_word e) word ≡ false → IsCommand d e → text_at (codes "op") d ≡ Some word → ⊥
apart d e word other h is = both_ways (bytes_eq (op_word e) word) other (ap (λ w. bytes_eq (op_word e) w) (sym (of_word d e word h is)) ∙ bytes_refl (op_word e))

other_op : (d : Data) (a b : Entry) → IsCommand d a → IsCommand d b → op_word a ≡ op_word b
other_op d a b h k = let e = sym (op_is d a h) ∙ op_is d b k in cc

found : (name a b : List ℕ) (d x y : Data) → d ≡ x → d ≡ y → text_at name x ≡ Some a → text_at name y ≡ Some b → a ≡ b
found name a b d x y p q f g = let e = sym f ∙ ap (text_at name) (sym p ∙ q) ∙ g in cc

counted : (name : List ℕ) (a b : ℕ) (d x y : Data) → d ≡ x → d ≡ y → number_at name x ≡ Some a → number_at name y ≡ Some b → a ≡ b
counted name a b d x y p q f g = let e = sym f ∙ ap (number_at name) (sym p ∙ q) ∙ g in cc

one_entry : (d : Data) (a b : Entry) → IsCommand d a → IsCommand d b → a ≡ b
one_entry d (Participant reference bic) (Participant reference' bic') h k = let r = found (codes "ref") reference reference' d _ _ h.3 k.3 refl refl in let n = found (codes "bic") h.0 k.0 d _ _ h.3 k.3 refl refl in let p : bic ≡ bic' = h.1.0 ∙ ap party_of n ∙ sym k.1.0 in cc
one_entry d (Participant reference bic) b h k = let e = other_op d (Participant reference bic) b h k in cc
one_entry d (Account reference bic account) (Account reference' bic' account') h k = let r = found (codes "ref") reference reference' d _ _ h.4 k.4 refl refl in let x = found (codes "account") account account' d _ _ h.4 k.4 refl refl in let n = found (codes "bic") h.0 k.0 d _ _ h.4 k.4 refl refl in let p : bic ≡ bic' = h.1.0 ∙ ap party_of n ∙ sym k.1.0 in cc
one_entry d (Account reference bic account) b h k = let e = other_op d (Account reference bic account) b h k in cc
one_entry d (Security reference isin kind) (Security reference' isin' kind') h k = let r = found (codes "ref") reference reference' d _ _ h.2 k.2 refl refl in let i = found (codes "isin") isin isin' d _ _ h.2 k.2 refl refl in let w = same_kind kind kind' (found (codes "kind") (code_of_kind kind) (code_of_kind kind') d _ _ h.2 k.2 refl refl) in cc
one_entry d (Security reference isin kind) b h k = let e = other_op d (Security reference isin kind) b h k in cc
one_entry d (Issue movement) (Issue movement') h k = ap Issue (movement_same movement movement' (found (codes "ref") movement.reference movement'.reference d _ _ h.1 k.1 refl refl) (found (codes "account") movement.account movement'.account d _ _ h.1 k.1 refl refl) (found (codes "isin") movement.isin movement'.isin d _ _ h.1 k.1 refl refl) (counted (codes "quantity") movement.quantity movement'.quantity d _ _ h.1 k.1 refl refl))
one_entry d (Issue movement) b h k = let e = other_op d (Issue movement) b h k in cc
one_entry d (Redeem movement) (Redeem movement') h k = ap Redeem (movement_same movement movement' (found (codes "ref") movement.reference movement'.reference d _ _ h.1 k.1 refl refl) (found (codes "account") movement.account movement'.account d _ _ h.1 k.1 refl refl) (found (codes "isin") movement.isin movement'.isin d _ _ h.1 k.1 refl refl) (counted (codes "quantity") movement.quantity movement'.quantity d _ _ h.1 k.1 refl refl))
one_entry d (Redeem movement) b h k = let e = other_op d (Redeem movement) b h k in cc
one_entry d (PayIn payment) (PayIn payment') h k = ap PayIn (payment_same payment payment' (found (codes "ref") payment.reference payment'.reference d _ _ h.3 k.3 refl refl) (h.1.0 ∙ ap party_of (found (codes "bic") h.0 k.0 d _ _ h.3 k.3 refl refl) ∙ sym k.1.0) (known_by_letters payment.ccy payment'.ccy (found (codes "ccy") (letters_of payment.ccy) (letters_of payment'.ccy) d _ _ h.3 k.3 refl refl)) (counted (codes "amount") payment.amount payment'.amount d _ _ h.3 k.3 refl refl))
one_entry d (PayIn payment) b h k = let e = other_op d (PayIn payment) b h k in cc
one_entry d (PayOut payment) (PayOut payment') h k = ap PayOut (payment_same payment payment' (found (codes "ref") payment.reference payment'.reference d _ _ h.3 k.3 refl refl) (h.1.0 ∙ ap party_of (found (codes "bic") h.0 k.0 d _ _ h.3 k.3 refl refl) ∙ sym k.1.0) (known_by_letters payment.ccy payment'.ccy (found (codes "ccy") (letters_of payment.ccy) (letters_of payment'.ccy) d _ _ h.3 k.3 refl refl)) (counted (codes "amount") payment.amount payment'.amount d _ _ h.3 k.3 refl refl))
one_entry d (PayOut payment) b h k = let e = other_op d (PayOut payment) b h k in cc
one_entry d (Run reference day rule) (Run reference' day' rule') h k = let p : rule ≡ rule' = h.3 ∙ sym k.3 in let r = found (codes "ref") reference reference' d _ _ h.2 k.2 refl refl in let x = found (codes "day") day day' d _ _ h.2 k.2 refl refl in cc
one_entry d (Run reference day rule) b h k = let e = other_op d (Run reference day rule) b h k in cc
one_entry d (Instruct sender instruction) b h k = absurd h
one_entry d (Cancel sender order) b h k = absurd h

pub one_each : (bytes : List ℕ) (a b : Entry) → SpellsCommand bytes a → SpellsCommand bytes b → a ≡ b
one_each bytes a b h k =
    let same : h.value ≡ k.value = let e = sym h.reads ∙ k.reads in cc in
    one_entry h.value a b h.command (rw same k.command)
