-- One message after the other.
use Rattle.std.proofs.Common.{◌≡◌, ℕ, ◌+◌, ◌*◌, ◌<◌, ◌≤◌, ◌==◌, true, refl, List, ◌++◌, length, length-append, Option, Some, None, ap, sym, ◌∙◌, subst, arith}
use Rattle.std.specs.Prelude.{Result, Ok, Err, IfSome, OnOk}
use Rattle.std.proofs.lemmas.Option.{IfSome_then}
use Rattle.desk_register.specs.declared.register.Fault.{Fault}
use Rattle.desk_rules.specs.declared.history.entry.Instructed.{Instructed}
use Rattle.desk_rules.specs.declared.limits.TheConstants.{SENT_A_PAIR}
use Rattle.desk_rules.specs.declared.history.standing.Standing.{Standing}
use Rattle.desk_register.specs.Changes.{IsPairAt, TriesPair}
use Rattle.desk_register.specs.declared.outcome.Outcome.{Outcome}
use Rattle.desk_register.specs.declared.outcome.Outcome.TheVariants as outcomes
use Rattle.desk_register.specs.declared.outcome.Outcome.TheVariants.{Lacks}
use Rattle.desk_engine.specs.Pass.{IsTried}
use Rattle.std.proofs.lemmas.Bool.Decides.{nat_tests}
use Rattle.desk_register.specs.declared.told.KnownPair.{KnownPair}
use Rattle.desk_register.specs.Told.{IsKnownAt}
use Rattle.desk_register.specs.View.{View}
use Rattle.desk_rules.specs.Content.{Content, history_of}
use Rattle.desk_rules.specs.History.{instruction_at}
use Rattle.desk_engine.specs.Sending.{confirmed_to, with_both_confirmed, with_confirmed}

one_at_most : (k about : ℕ) (o : Option Instructed) (day : List ℕ) → length (confirmed_to k about o day) ≤ 1
one_at_most k about None day = omega arith
one_at_most k about (Some i) day = omega arith

-- where two messages could be sent and one was, one can be
pub room_for_second : (v0 v1 : View) (about : ℕ) (day : List ℕ) → length v0.content.sent + 1 < SENT_A_PAIR * v0.room → v1.content ≡ with_confirmed about day v0.content → v1.room ≡ v0.room
    → length v1.content.sent < SENT_A_PAIR * v1.room
room_for_second v0 v1 about day room sent same =
    let k = length v0.content.sent + 1 in
    let o = instruction_at (history_of v0.content) about in
    let one = one_at_most k about o day in
    let size = length-append v0.content.sent (confirmed_to k about o day) in
    let now : length v1.content.sent ≡ length (v0.content.sent ++ confirmed_to k about o day) = ap (λ (c : Content). length c.sent) sent in
    omega (arith, room, same, one, size, now)

pub both_sent : (old mid new : Content) (first second : ℕ) (day : List ℕ) (r : Result (Unit {0}) Fault) → mid ≡ with_confirmed first day old → OnOk r (new ≡ with_confirmed second day mid)
    → OnOk r (new ≡ with_confirmed second day (with_confirmed first day old))
both_sent old mid new first second day (Ok done) one other = (let P : Content → Type 0 = λ c. new ≡ with_confirmed second day c in subst P one other)
both_sent old mid new first second day (Err fault) one other = other

-- a pair that settled is the pair that it was
pair_still : (old new : Content) (n : ℕ) (t : TriesPair old n outcomes.Settled new) → IsPairAt new n t.mate t.earlier t.later
pair_still old new n t =
    let P : Content → Type 0 = λ c. IsPairAt c n t.mate t.earlier t.later in
    let here : n == n ≡ true = grind (arith, nat_tests) in
    subst P (sym t.ends.2) (record { is_later = t.pair.is_later; has_mate = rw here refl; is_earlier = t.pair.is_earlier })

pub tried_settled : (old mid new : Content) (n : ℕ) (day : List ℕ) (outcome : Outcome) → outcome ≡ outcomes.Settled → TriesPair old n outcome mid
    → ((m : ℕ) (earlier later : Instructed) → IsPairAt mid n m earlier later → new ≡ with_both_confirmed m n earlier day mid) → IsTried old n day outcome new
tried_settled old mid new n day outcomes.Settled is t sent = record { between = mid; tried = t; told = sent t.mate t.earlier t.later (pair_still old mid n t) }
tried_settled old mid new n day (Lacks lack) is t sent = absurd (cc)

-- the pair of a number that was looked up
module _ (content : Content) (n mate0 : ℕ) (standing : Standing) (first second : Option Instructed) (r : Option KnownPair) (stood : standing ≡ content.standing n) (has : standing.mate ≡ Some mate0)
    (at_mate : first ≡ instruction_at (history_of content) mate0) (at_number : second ≡ instruction_at (history_of content) n) where
  own_mate : Some mate0 ≡ (content.standing n).mate
  own_mate = sym has ∙ ap (λ (s : Standing). s.mate) stood

  pub pair_looked_up : (mate : ℕ) (earlier later : Instructed) → IsPairAt content n mate earlier later
      → ((a b : Instructed) → first ≡ Some a → second ≡ Some b → r ≡ Some (record { mate = mate0; number = n; earlier = a; later = b })) → r ≡ Some (record { mate = mate; number = n; earlier = earlier; later = later })
  pair_looked_up mate earlier later pair made =
      let mates : Some mate0 ≡ Some mate = own_mate ∙ pair.has_mate in
      let same : mate0 ≡ mate = cc in
      made earlier later (at_mate ∙ ap (instruction_at (history_of content)) same ∙ pair.is_earlier) (at_number ∙ pair.is_later)
      ∙ ap (λ m. Some (record { mate = m; number = n; earlier = earlier; later = later })) same

  pub known_looked_up : IfSome r (λ p. (p.mate ≡ mate0) × (p.number ≡ n) × (first ≡ Some p.earlier) × (second ≡ Some p.later)) → IfSome r (λ p. IsKnownAt content n p)
  known_looked_up made = IfSome_then r made (λ p same. record {
    number = same.1;
    is_pair = record {
      is_later = ap (instruction_at (history_of content)) same.1 ∙ sym at_number ∙ same.3;
      has_mate = ap (λ k. (content.standing k).mate) same.1 ∙ sym own_mate ∙ ap Some (sym same.0);
      is_earlier = ap (instruction_at (history_of content)) same.0 ∙ sym at_mate ∙ same.2;
    };
  })
