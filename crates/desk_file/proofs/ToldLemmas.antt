-- A pair that memory knows, and what the tables make of it.
use Rattle.std.proofs.Common.{◌≡◌, ◌∙◌, refl, sym, ap, subst, ℕ, ◌<◌, ◌==◌, true, arith}
use Rattle.std.specs.Prelude.{Option, Some, None, Result, Ok, Err, IfOk, IfSome, OnOk}
use Rattle.std.proofs.lemmas.Bool.Decides.{nat_tests}
use Rattle.desk_msg.specs.declared.writing.status.Reason.TheVariants.{Lack as LackOfSecurities, Money as LackOfMoney}
use Rattle.desk_rules.specs.declared.history.standing.Standing.{Standing}
use Rattle.desk_rules.specs.declared.history.standing.State.{State}
use Rattle.desk_rules.specs.declared.history.standing.State.TheVariants as States
use Rattle.desk_rules.specs.declared.history.standing.State.TheVariants.{Matched}
use Rattle.desk_rules.specs.Content.{Content, history_of}
use Rattle.desk_rules.specs.History.{instruction_at}
use Rattle.desk_rules.specs.declared.history.entry.Instructed.{Instructed}
use Rattle.desk_rules.specs.declared.history.pair.Lack.{Lack}
use Rattle.desk_rules.specs.declared.history.pair.Lack.TheVariants.{Securities, Money}
use Rattle.desk_register.specs.Changes.{CanCancelPair, CanSettle, IsPairAt, TriesPair, standing_both}
use Rattle.desk_register.specs.declared.outcome.Outcome.{Outcome}
use Rattle.desk_register.specs.declared.outcome.Outcome.TheVariants.{Lacks, Settled}
use Rattle.desk_register.specs.declared.register.Fault.{Fault}
use Rattle.desk_register.specs.declared.register.Fault.TheVariants.{Memory, Storage}
use Rattle.desk_register.specs.View.{View, IsChange}
use Rattle.desk_register.specs.declared.told.KnownPair.{KnownPair}
use Rattle.desk_file.specs.Told.{IsDone}
use Rattle.desk_register.specs.Told.{IsKnownAt, waiting}
use Rattle.desk_file.proofs.ChangeLemmas.{error_is}
use Rattle.desk_file.proofs.TriedLemmas.{one_trial, some_is}

-- what went well says
pub ok_value : {X : Type 0} (r : Result X Fault) (x : X) (P : X → Type 0) → r ≡ Ok x → IfOk r P → P x
ok_value (Ok y) x P e p = (let same : y ≡ x = cc in subst P same p)
ok_value (Err f) x P e p = absurd (cc)

pub ok_fact : {X : Type 0} (r : Result X Fault) (x : X) (P : Type 0) → r ≡ Ok x → OnOk r P → P
ok_fact (Ok y) x P e p = p
ok_fact (Err f) x P e p = absurd (cc)

pub some_of : {X : Type 0} (o p : Option X) → o ≡ p → IfSome o (λ x. p ≡ Some x)
some_of (Some x) p e = sym e
some_of None p e = tt

-- a pair that was read, part by part, where nothing changed meanwhile
pub read_pair : (was mid between : Content) (n mate : ℕ) (earlier later : Instructed) → (was.standing n).mate ≡ Some mate → mid ≡ was → instruction_at (history_of mid) mate ≡ Some earlier → between ≡ mid
    → instruction_at (history_of between) n ≡ Some later → IsKnownAt was n (record { mate = mate; number = n; earlier = earlier; later = later })
read_pair was mid between n mate earlier later has same is_earlier still is_later = record {
  number = refl;
  is_pair = record {
    is_later = ap (λ c. instruction_at (history_of c) n) (sym (still ∙ same)) ∙ is_later;
    has_mate = has;
    is_earlier = ap (λ c. instruction_at (history_of c) mate) (sym same) ∙ is_earlier;
  };
}

module _ (content : Content) (n day : ℕ) (pair : KnownPair) (can : CanSettle content n day) (known : IsKnownAt content n pair) where
  at_number : IsPairAt content n pair.mate pair.earlier pair.later
  at_number = subst (λ k. IsPairAt content k pair.mate pair.earlier pair.later) known.number known.is_pair

  mate_is : can.mate ≡ pair.mate
  mate_is = some_is (sym can.pair.has_mate ∙ at_number.has_mate)

  -- a pair that can be tried is matched
  pub can_wait : CanCancelPair content pair.mate n
  can_wait = record {
    two = subst (λ k. k < n) mate_is can.two;
    earlier = pair.earlier;
    later = pair.later;
    pair = at_number;
    back = ap (λ k. (content.standing k).mate) (sym mate_is) ∙ can.back;
    earlier_reason = can.earlier_reason;
    earlier_matched = ap (λ k. (content.standing k).state) (sym mate_is) ∙ can.earlier_matched;
    later_reason = can.later_reason;
    later_matched = can.later_matched;
  }

-- what a try makes of a pair that lacks
pub lacking : (old new : Content) (n : ℕ) (pair : KnownPair) (lack : Lack) → IsKnownAt old n pair → TriesPair old n (Lacks lack) new → waiting pair.mate n lack old ≡ new
lacking old new n pair Securities known tries =
    let mates : pair.mate ≡ tries.mate = some_is (sym (subst (λ k. IsPairAt old k pair.mate pair.earlier pair.later) known.number known.is_pair).has_mate ∙ tries.pair.has_mate) in
    ap (λ m. waiting m n Securities old) mates ∙ sym tries.ends.1
lacking old new n pair Money known tries =
    let mates : pair.mate ≡ tries.mate = some_is (sym (subst (λ k. IsPairAt old k pair.mate pair.earlier pair.later) known.number known.is_pair).has_mate ∙ tries.pair.has_mate) in
    ap (λ m. waiting m n Money old) mates ∙ sym tries.ends.2

-- the tables have tried the same
pub done_same : (tried : Result Outcome Fault) (done : Result (Unit {0}) Fault) (n : ℕ) (outcome : Outcome) (old new now : Content) → IsDone tried done → IfOk tried (λ o. TriesPair old n o now) → TriesPair old n outcome new → OnOk done (now ≡ new)
done_same (Ok o) done n outcome old new now is tries other = subst (λ r. OnOk r (now ≡ new)) (sym is) (one_trial old n o outcome now new tries other).1
done_same (Err fault) done n outcome old new now is tries other = subst (λ r. OnOk r (now ≡ new)) (sym is) tt

-- a try ends so, told without its outcome
pub done_change : (tried : Result Outcome Fault) (done : Result (Unit {0}) Fault) (v w : View) → IsDone tried done → IsChange tried v w → IsChange done v w
done_change (Ok o) done v w is change = subst (λ r. IsChange r v w) (sym is) (record {
  ok = change.ok;
  err = tt;
  later = change.later;
  blame = record { storage = λ e. absurd (cc) };
})
done_change (Err fault) done v w is change = subst (λ r. IsChange r v w) (sym is) (record {
  ok = tt;
  err = change.err;
  later = change.later;
  blame = record { storage = λ e. change.blame.storage (ap Err (error_is (Unit {0}) fault Storage e)) };
})

-- A pair as memory knows it behind a try is the one that was tried.

stood : (standing : ℕ → Standing) (m n : ℕ) (state : State) → (standing_both standing m n state n).mate ≡ Some m
stood standing m n state = (let test : n == n ≡ true = grind (arith, nat_tests) in rw test refl)

module _ (old new : Content) (n : ℕ) (pair : KnownPair) (known : IsKnownAt new n pair) where
  stands_so : (m : ℕ) (state : State) → (old.standing n).mate ≡ Some m → history_of new ≡ history_of old → (new.standing n).mate ≡ (standing_both old.standing m n state n).mate → IsKnownAt old n pair
  stands_so m state had same now =
      let at = subst (λ k. IsPairAt new k pair.mate pair.earlier pair.later) known.number known.is_pair in
      let mates : m ≡ pair.mate = some_is (sym (stood old.standing m n state) ∙ sym now ∙ at.has_mate) in
      record {
        number = known.number;
        is_pair = subst (λ k. IsPairAt old k pair.mate pair.earlier pair.later) (sym known.number) (record {
          is_later = ap (λ h. instruction_at h n) (sym same) ∙ at.is_later;
          has_mate = had ∙ ap Some mates;
          is_earlier = ap (λ h. instruction_at h pair.mate) (sym same) ∙ at.is_earlier;
        });
      }

  pub known_before : (outcome : Outcome) → TriesPair old n outcome new → IsKnownAt old n pair
  known_before Settled tries = stands_so tries.mate States.Settled tries.pair.has_mate (ap history_of tries.ends.2) (ap (λ (c : Content). (c.standing n).mate) tries.ends.2)
  known_before (Lacks Securities) tries = stands_so tries.mate (Matched LackOfSecurities) tries.pair.has_mate (ap history_of tries.ends.1) (ap (λ (c : Content). (c.standing n).mate) tries.ends.1)
  known_before (Lacks Money) tries = stands_so tries.mate (Matched LackOfMoney) tries.pair.has_mate (ap history_of tries.ends.2) (ap (λ (c : Content). (c.standing n).mate) tries.ends.2)
