-- Trying a pair of one content has one outcome.
use Rattle.std.proofs.Common.{◌≡◌, ◌∙◌, refl, sym, subst, ℕ, arith}
use Rattle.std.specs.Prelude.{Option, Some, None, Result, Ok, Err, IfOk, OnOk}
use Rattle.desk_msg.specs.declared.instruction.Cash.{Cash}
use Rattle.desk_rules.specs.declared.history.entry.Instructed.{Instructed}
use Rattle.desk_rules.specs.declared.history.pair.Lack.TheVariants.{Securities, Money}
use Rattle.desk_rules.specs.Content.{CashBalances, Content}
use Rattle.desk_register.specs.declared.outcome.Outcome.{Outcome}
use Rattle.desk_register.specs.declared.outcome.Outcome.TheVariants.{Lacks, Settled}
use Rattle.desk_register.specs.Changes.{HasCash, LacksCash, TriesPair, TriesSides, receiving_side}
use Rattle.desk_register.specs.declared.register.Fault.{Fault}
use Rattle.desk_register.specs.View.{View, IfTrusted}
use Rattle.desk_register.specs.Device.{HasNoDevice}
use Rattle.std.specs.Prelude.{List}

pub some_is : {X : Type 0} {x y : X} → Some x ≡ Some y → x ≡ y
some_is e = (cc)

-- who has the cash that is asked does not lack it
not_both : (cash : CashBalances) (bic : List ℕ) (asked : Option Cash) → HasCash cash bic asked → LacksCash cash bic asked → ⊥
not_both cash bic None has lacks = lacks
not_both cash bic (Some asked) has lacks = absurd (omega arith)

-- one outcome of two sides has one content after it, and no other outcome fits
one_side : (old : Content) (n m : ℕ) (earlier later : Instructed) (a b : Outcome) (x y : Content) → TriesSides old n m earlier later a x → TriesSides old n m earlier later b y → (a ≡ b) × (x ≡ y)
one_side old n m earlier later Settled Settled x y p q = (refl, p.2 ∙ sym q.2)
one_side old n m earlier later Settled (Lacks Securities) x y p q = absurd (let a = p.0 in let b = q.0 in omega arith)
one_side old n m earlier later Settled (Lacks Money) x y p q = absurd (not_both old.cash (receiving_side earlier later).sender later.instruction.cash p.1 q.1)
one_side old n m earlier later (Lacks Securities) Settled x y p q = absurd (let a = p.0 in let b = q.0 in omega arith)
one_side old n m earlier later (Lacks Securities) (Lacks Securities) x y p q = (refl, p.1 ∙ sym q.1)
one_side old n m earlier later (Lacks Securities) (Lacks Money) x y p q = absurd (let a = p.0 in let b = q.0 in omega arith)
one_side old n m earlier later (Lacks Money) Settled x y p q = absurd (not_both old.cash (receiving_side earlier later).sender later.instruction.cash q.1 p.1)
one_side old n m earlier later (Lacks Money) (Lacks Securities) x y p q = absurd (let a = p.0 in let b = q.0 in omega arith)
one_side old n m earlier later (Lacks Money) (Lacks Money) x y p q = (refl, p.2 ∙ sym q.2)

pub one_trial : (old : Content) (n : ℕ) (a b : Outcome) (x y : Content) → TriesPair old n a x → TriesPair old n b y → (a ≡ b) × (x ≡ y)
one_trial old n a b x y p q =
    let mates : p.mate ≡ q.mate = some_is (sym p.pair.has_mate ∙ q.pair.has_mate) in
    let laters : p.later ≡ q.later = some_is (sym p.pair.is_later ∙ q.pair.is_later) in
    let earliers : p.earlier ≡ q.earlier = some_is (sym p.pair.is_earlier ∙ (rw mates q.pair.is_earlier)) in
    one_side old n q.mate q.earlier q.later a b x y (subst (λ i. TriesSides old n q.mate q.earlier i a x) laters (subst (λ i. TriesSides old n q.mate i p.later a x) earliers (subst (λ k. TriesSides old n k p.earlier p.later a x) mates p.ends))) q.ends

-- both make the same of the same
pub both_follow : (n : ℕ) (result : Result Outcome Fault) (outcome : Outcome) (told : Result (Unit {0}) Fault) (also : Unit {0}) (m m' t t' : View) → HasNoDevice m → HasNoDevice m' → result ≡ Ok outcome
    → IfTrusted m m' (IfOk result (λ o. TriesPair m.content n o m'.content)) → told ≡ Ok also → IfTrusted t t' ((made : Content) → TriesPair t.content n outcome made → OnOk told (t'.content ≡ made))
    → OnOk result (t'.is_honest → t.is_sure → m.content ≡ t.content → m'.content ≡ t'.content)
both_follow n (Ok x) outcome (Ok tt) also m m' t t' was is is_ok memory e follows = λ honest sure equal.
    (let same : x ≡ outcome = cc in sym (follows honest sure m'.content (subst (λ o. TriesPair t.content n o m'.content) same (subst (λ k. TriesPair k n x m'.content) equal (memory is.honest was.sure)))))
both_follow n (Ok x) outcome (Err fault) also m m' t t' was is is_ok memory e follows = absurd (cc)
both_follow n (Err fault) outcome told also m m' t t' was is is_ok memory e follows = tt
