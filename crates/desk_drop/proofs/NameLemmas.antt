-- What the name of a file asks.
use Rattle.std.proofs.Common.{◌≡◌, ◌≢◌, ℕ, ◌-◌, true, false, List, [], ◌∷◌, ◌++◌, All, codes, length, Option, Some, None, IfNone, arith, refl, sym, ◌∙◌, ap, subst, ⊎_elim, append_assoc, get_or}
use Rattle.std.specs.Prelude.{nat_eq, take, drop}
use Rattle.std.specs.Cmp.Lexicographic.{pointwise}
use Rattle.std.proofs.lemmas.List.{append_cancel_right, length-append, take-append-drop}
use Rattle.std.proofs.Math.Seq.{drop-append_seam}
use Rattle.std.proofs.lemmas.List.Elements.{All-cons, All-head, All-nil, All-tail, All-weaker}
use Rattle.desk_codes.specs.Characters.{IsCodeChar}
use Rattle.desk_codes.specs.Bic.{party_of}
use Rattle.desk_codes.proofs.BicLemmas.{other_bytes, shape_codes, same_bytes}
use Rattle.desk_msg.specs.MessageType.{digits_of_type}
use Rattle.desk_book.specs.declared.requests.question.InstructionType.{InstructionType}
use Rattle.desk_book.specs.declared.requests.question.InstructionType.TheVariants.{Mt540, Mt541, Mt542, Mt543}
use Rattle.desk_book.specs.declared.requests.question.Question.{Question}
use Rattle.desk_book.specs.declared.requests.question.Question.TheVariants.{Message, Operator, Status, Sent, Holdings, Sums}
use Rattle.desk_book.specs.Asked.{mt_of}
use Rattle.desk_book.specs.Forms.{SpellsBic}
use Rattle.desk_book.proofs.OneReading.{same_kind}
use Rattle.desk_drop.specs.Names.{IsNameOf}

-- Parts between full stops.

abbrev pub NoStop : List ℕ → Type 0
NoStop text = All (λ c. c ≢ 46) text

bic_no_stop : (bic party : List ℕ) → SpellsBic bic party → NoStop bic
bic_no_stop bic party n = All-weaker IsCodeChar (λ c. c ≢ 46) (λ c d e. ⊎_elim (λ h. omega arith) (λ h. omega arith) d) bic (shape_codes bic n.2)

three_no_stop : (a b c : ℕ) → a ≢ 46 → b ≢ 46 → c ≢ 46 → NoStop (a ∷ b ∷ c ∷ [])
three_no_stop a b c x y z = All-cons (λ c. c ≢ 46) a (b ∷ c ∷ []) x (All-cons (λ c. c ≢ 46) b (c ∷ []) y (All-cons (λ c. c ≢ 46) c [] z (All-nil (λ c. c ≢ 46))))

digits_no_stop : (kind : InstructionType) → NoStop (digits_of_type (mt_of kind))
digits_no_stop Mt540 = three_no_stop 53 52 48 (λ e. omega arith) (λ e. omega arith) (λ e. omega arith)
digits_no_stop Mt541 = three_no_stop 53 52 49 (λ e. omega arith) (λ e. omega arith) (λ e. omega arith)
digits_no_stop Mt542 = three_no_stop 53 52 50 (λ e. omega arith) (λ e. omega arith) (λ e. omega arith)
digits_no_stop Mt543 = three_no_stop 53 52 51 (λ e. omega arith) (λ e. omega arith) (λ e. omega arith)

-- a text splits at its first full stop in one way
same_split : (w v p q : List ℕ) → NoStop w → NoStop v → w ++ 46 ∷ p ≡ v ++ 46 ∷ q → (w ≡ v) × (p ≡ q)
same_split [] [] p q a b e = (refl, cc)
same_split [] (y ∷ v) p q a b e = absurd (All-head (λ c. c ≢ 46) y v b cc)
same_split (x ∷ w) [] p q a b e = absurd (All-head (λ c. c ≢ 46) x w a cc)
same_split (x ∷ w) (y ∷ v) p q a b e =
    let rest = same_split w v p q (All-tail (λ c. c ≢ 46) x w a) (All-tail (λ c. c ≢ 46) y v b) cc in
    let head : x ≡ y = cc in
    (rw (head, rest.0) refl, rest.1)

none_to_split : (text w p : List ℕ) → NoStop text → text ≡ w ++ 46 ∷ p → ⊥
none_to_split [] [] p a e = cc
none_to_split [] (y ∷ w) p a e = cc
none_to_split (x ∷ text) [] p a e = All-head (λ c. c ≢ 46) x text a cc
none_to_split (x ∷ text) (y ∷ w) p a e = none_to_split text w p (All-tail (λ c. c ≢ 46) x text a) cc

-- Ends.

end_of : (front end : List ℕ) → drop (length (front ++ end) - length end) (front ++ end) ≡ end
end_of front end =
    let n : length (front ++ end) - length end ≡ length front = (let l = length-append front end in omega arith) in
    ap (λ k. drop k (front ++ end)) n ∙ drop-append_seam front end

-- a text that was found to end so
pub ended : (end text front : List ℕ) → pointwise nat_eq (drop (length text - length end) text) end ≡ true → front ≡ take (length text - length end) text → text ≡ front ++ end
ended end text front ends is =
    let n = length text - length end in
    sym (take-append-drop n text) ∙ ap (λ x. take n text ++ x) (same_bytes (drop n text) end ends) ∙ ap (λ x. x ++ end) (sym is)

-- one that was found not to
pub other_end : (end text front : List ℕ) → pointwise nat_eq (drop (length text - length end) text) end ≡ false → text ≡ front ++ end → ⊥
other_end end text front other is =
    other_bytes (drop (length text - length end) text) end other (ap (λ t. drop (length t - length end) t) is ∙ end_of front end)

-- The name of a message.

-- what stands before `.fin`
before_end : List ℕ → InstructionType → List ℕ → List ℕ
before_end bic kind others = bic ++ 46 ∷ (digits_of_type (mt_of kind) ++ 46 ∷ others)

parts : (sender : List ℕ) (kind : InstructionType) (name : List ℕ) (n : IsNameOf (Message sender kind) name) → name ≡ before_end n.0 kind n.1 ++ codes ".fin"
unfolding before_end
parts sender kind name n =
    let d = digits_of_type (mt_of kind) in
    let inner : d ++ 46 ∷ (n.1 ++ codes ".fin") ≡ (d ++ 46 ∷ n.1) ++ codes ".fin" = sym (append_assoc d (46 ∷ n.1) (codes ".fin")) in
    n.3 ∙ ap (λ x. n.0 ++ 46 ∷ x) inner ∙ sym (append_assoc n.0 (46 ∷ (d ++ 46 ∷ n.1)) (codes ".fin"))

-- as it was read, up to its end
read_front : (name front sender : List ℕ) (kind : InstructionType) → name ≡ front ++ codes ".fin" → (n : IsNameOf (Message sender kind) name) → front ≡ n.0 ++ 46 ∷ (digits_of_type (mt_of kind) ++ 46 ∷ n.1)
unfolding before_end
read_front name front sender kind is n = append_cancel_right front (before_end n.0 kind n.1) (codes ".fin") (sym is ∙ parts sender kind name n)

pub no_end : (name sender : List ℕ) (kind : InstructionType) → pointwise nat_eq (drop (length name - 4) name) (codes ".fin") ≡ false → ¬ IsNameOf (Message sender kind) name
no_end name sender kind other n = other_end (codes ".fin") name (before_end n.0 kind n.1) other (parts sender kind name n)

pub no_first : (name front sender : List ℕ) (kind : InstructionType) → name ≡ front ++ codes ".fin" → NoStop front → ¬ IsNameOf (Message sender kind) name
no_first name front sender kind is none n = none_to_split front n.0 (digits_of_type (mt_of kind) ++ 46 ∷ n.1) none (read_front name front sender kind is n)

-- the first part is the BIC, and the type and others stand behind it
first_part : (name front bic behind sender : List ℕ) (kind : InstructionType) → name ≡ front ++ codes ".fin" → front ≡ bic ++ 46 ∷ behind → NoStop bic → (n : IsNameOf (Message sender kind) name)
    → (bic ≡ n.0) × (behind ≡ digits_of_type (mt_of kind) ++ 46 ∷ n.1)
first_part name front bic behind sender kind is split none n =
    same_split bic n.0 behind (digits_of_type (mt_of kind) ++ 46 ∷ n.1) none (bic_no_stop n.0 sender n.2) (sym split ∙ read_front name front sender kind is n)

pub no_second : (name front bic behind sender : List ℕ) (kind : InstructionType) → name ≡ front ++ codes ".fin" → front ≡ bic ++ 46 ∷ behind → NoStop bic → NoStop behind
    → ¬ IsNameOf (Message sender kind) name
no_second name front bic behind sender kind is split none further n =
    none_to_split behind (digits_of_type (mt_of kind)) n.1 further (first_part name front bic behind sender kind is split none n).1

pub no_sender : (name front bic behind sender : List ℕ) (kind : InstructionType) → name ≡ front ++ codes ".fin" → front ≡ bic ++ 46 ∷ behind → NoStop bic → ((party : List ℕ) → ¬ SpellsBic bic party)
    → ¬ IsNameOf (Message sender kind) name
no_sender name front bic behind sender kind is split none bad n =
    let P : List ℕ → Type 0 = λ w. SpellsBic w sender in
    bad sender (subst P (sym (first_part name front bic behind sender kind is split none n).0) n.2)

pub no_type : (name front bic behind digits others sender : List ℕ) (kind : InstructionType) → name ≡ front ++ codes ".fin" → front ≡ bic ++ 46 ∷ behind → NoStop bic → behind ≡ digits ++ 46 ∷ others → NoStop digits
    → ((kind : InstructionType) → ¬ (digits_of_type (mt_of kind) ≡ digits)) → ¬ IsNameOf (Message sender kind) name
no_type name front bic behind digits others sender kind is split none second plain bad n =
    let first = first_part name front bic behind sender kind is split none n in
    let d = digits_of_type (mt_of kind) in
    bad kind (sym (same_split digits d others n.1 plain (digits_no_stop kind) (sym second ∙ first.1)).0)

pub named : (name front bic behind digits others sender : List ℕ) (kind : InstructionType) → name ≡ front ++ codes ".fin" → front ≡ bic ++ 46 ∷ behind → behind ≡ digits ++ 46 ∷ others → SpellsBic bic sender
    → digits_of_type (mt_of kind) ≡ digits → IsNameOf (Message sender kind) name
named name front bic behind digits others sender kind is split second spells same =
    let d = digits_of_type (mt_of kind) in
    let inner : (d ++ 46 ∷ others) ++ codes ".fin" ≡ d ++ 46 ∷ (others ++ codes ".fin") = append_assoc d (46 ∷ others) (codes ".fin") in
    let read : front ≡ bic ++ 46 ∷ (d ++ 46 ∷ others) = split ∙ ap (λ x. bic ++ 46 ∷ x) (second ∙ ap (λ x. x ++ 46 ∷ others) (sym same)) in
    (bic, others, spells, is ∙ ap (λ x. x ++ codes ".fin") read ∙ append_assoc bic (46 ∷ (d ++ 46 ∷ others)) (codes ".fin") ∙ ap (λ x. bic ++ 46 ∷ x) inner)

-- A name asks one question.

two_ends : (name other sender : List ℕ) (kind : InstructionType) → name ≡ other ++ codes ".json" → IsNameOf (Message sender kind) name → ⊥
two_ends name other sender kind json n =
    let x = before_end n.0 kind n.1 ++ codes ".f" in
    let y = other ++ codes ".js" in
    let first : name ≡ x ++ codes "in" = parts sender kind name n ∙ sym (append_assoc (before_end n.0 kind n.1) (codes ".f") (codes "in")) in
    let second : name ≡ y ++ codes "on" = json ∙ sym (append_assoc other (codes ".js") (codes "on")) in
    let f : List ℕ → List ℕ = λ t. drop (length t - 2) t in
    let a : f name ≡ codes "in" = ap f first ∙ end_of x (codes "in") in
    let b : f name ≡ codes "on" = ap f second ∙ end_of y (codes "on") in
    let e : 105 ≡ 111 = ap (λ t. get_or t 0 0) (sym a ∙ b) in
    omega (arith, e)

same_message : (name s t : List ℕ) (j k : InstructionType) → IsNameOf (Message s j) name → IsNameOf (Message t k) name → Message s j ≡ Message t k
same_message name s t j k m n =
    let a = digits_of_type (mt_of j) in
    let b = digits_of_type (mt_of k) in
    let first = same_split m.0 n.0 (a ++ 46 ∷ (m.1 ++ codes ".fin")) (b ++ 46 ∷ (n.1 ++ codes ".fin")) (bic_no_stop m.0 s m.2) (bic_no_stop n.0 t n.2) (sym m.3 ∙ n.3) in
    let second = same_split a b (m.1 ++ codes ".fin") (n.1 ++ codes ".fin") (digits_no_stop j) (digits_no_stop k) first.1 in
    let party : s ≡ t = m.2.0 ∙ ap party_of first.0 ∙ sym n.2.0 in
    let kind : j ≡ k = same_kind j k second.0 in
    ap (λ p. Message p j) party ∙ ap (λ q. Message t q) kind

pub one_question : (name : List ℕ) (p q : Question) → IsNameOf p name → IsNameOf q name → p ≡ q
one_question name (Message s j) (Message t k) m n = same_message name s t j k m n
one_question name (Message s j) Operator m n = absurd (two_ends name n.0 s j n.1 m)
one_question name Operator (Message t k) m n = absurd (two_ends name m.0 t k m.1 n)
one_question name Operator Operator m n = refl
one_question name (Message s j) (Status sender) m n = absurd n
one_question name (Message s j) (Sent receiver number) m n = absurd n
one_question name (Message s j) (Holdings owner) m n = absurd n
one_question name (Message s j) Sums m n = absurd n
one_question name Operator (Status sender) m n = absurd n
one_question name Operator (Sent receiver number) m n = absurd n
one_question name Operator (Holdings owner) m n = absurd n
one_question name Operator Sums m n = absurd n
one_question name (Status sender) q m n = absurd m
one_question name (Sent receiver number) q m n = absurd m
one_question name (Holdings owner) q m n = absurd m
one_question name Sums q m n = absurd m

-- what is neither a message's name nor a command's, asks nothing
pub nothing : (name : List ℕ) → ((sender : List ℕ) (kind : InstructionType) → ¬ IsNameOf (Message sender kind) name) → ((front : List ℕ) → ¬ (name ≡ front ++ codes ".json")) → (question : Question)
    → ¬ IsNameOf question name
nothing name no_message no_command (Message sender kind) n = no_message sender kind n
nothing name no_message no_command Operator n = no_command n.0 n.1
nothing name no_message no_command (Status sender) n = n
nothing name no_message no_command (Sent receiver number) n = n
nothing name no_message no_command (Holdings owner) n = n
nothing name no_message no_command Sums n = n

pub if_none : {T : Type 0} {P Q : Type 0} (o : Option T) → (P → Q) → IfNone o P → IfNone o Q
if_none None f p = f p
if_none (Some x) f p = tt
