-- The loop of a pass, over the views of the register. Where the run goes over the pairs again, what stays short is passed over.
use Rattle.std.specs.Prelude.{Bool}
use Rattle.std.proofs.Common.{◌≡◌, inl, inr, ℕ, ◌+◌, ◌-◌, ◌<◌, ◌≤◌, true, false, List, length, Option, Some, None, refl, ap, sym, ◌∙◌, subst, arith, length-append}
use Rattle.std.proofs.lemmas.Bool.{cases_Bool}
use Rattle.desk_codes.specs.Number.{number_of}
use Rattle.desk_rules.specs.declared.history.entry.Entry.TheVariants.{Run}
use Rattle.desk_rules.specs.declared.history.entry.RunRule.{RunRule}
use Rattle.desk_rules.specs.declared.history.pair.Place.{Place}
use Rattle.desk_rules.specs.declared.history.pair.Settled.{Settled}
use Rattle.desk_rules.specs.Books.{Books}
use Rattle.desk_rules.specs.Content.{Content}
use Rattle.desk_register.specs.declared.outcome.Outcome.{Outcome}
use Rattle.desk_register.specs.declared.outcome.Outcome.TheVariants as outcomes
use Rattle.desk_register.specs.declared.outcome.Outcome.TheVariants.{Lacks}
use Rattle.desk_register.specs.View.{View, IsLater, Stays}
use Rattle.desk_register.specs.Looked.{IsDue, IsDuePairAfter}
use Rattle.desk_register.proofs.ViewLemmas.{later_then, stays_then}
use Rattle.desk_engine.specs.declared.settlement_run.Ran.{Ran}
use Rattle.desk_engine.specs.declared.settlement_run.Taken.{Taken}
use Rattle.desk_engine.specs.Pass.{CanPass, CanTry, HasMade, IsAtPass, IsNextPair, PassEnds, Takes, due_left, one_if, settled_of}
use Rattle.desk_engine.proofs.RunningLemmas.{one_settled, taken_keeps}
use Rattle.desk_engine.proofs.ShortLemmas.{skip}
use Rattle.desk_engine.proofs.TablesLemmas.{length_is}
use Rattle.desk_engine.proofs.UnderwayLemmas.{Underway, can_try, ends_none, goes_on, pairs_few, starts, waits_rest}

-- the next pair that a pass takes is due
pub next_is_due : (again : Bool) (content : Content) (day : ℕ) (place : Option Place) (next : Place) → IsNextPair again content day place (Some next) → IsDue content day place next
next_is_due false content day place next is = is.0
next_is_due true content day place next is = is.0

-- how far the pass has come, with so many tried at least; the first pass tries each that it comes by
pub record ComesTo (books : Books) (reference day : List ℕ) (rule : RunRule) (pass : ℕ) (start : List Settled) (again : Bool) (place : Option Place) (tried settled : ℕ) (content : Content) : Type 0 where
  pub tried_so : ℕ
  pub waiting_so : ℕ
  pub enough : tried ≤ tried_so
  pub each : again ≡ false → settled + waiting_so ≡ tried
  pub underway : Underway books reference day rule pass start place tried_so settled waiting_so content

-- past what stays short, where that is passed over, the next one is the next that is due
pub record Reached (books : Books) (reference day : List ℕ) (rule : RunRule) (pass : ℕ) (start : List Settled) (again : Bool) (tried settled : ℕ) (next : Option Place) (content : Content) : Type 0 where
  pub place : Option Place
  pub come : ComesTo books reference day rule pass start again place tried settled content
  pub after : IsDuePairAfter content (number_of day) place next

reach : (limit : ℕ) (books : Books) (reference day : List ℕ) (rule : RunRule) (pass : ℕ) (start : List Settled) (again : Bool) (place : Option Place) (tried settled : ℕ) (next : Option Place) (content before : Content)
    → IsAtPass limit books (Run reference day rule) pass start before → ComesTo books reference day rule pass start again place tried settled content → IsNextPair again content (number_of day) place next
    → Reached books reference day rule pass start again tried settled next content
reach limit books reference day rule pass start false place tried settled next content before at c after = record { place = place; come = c; after = after }
reach limit books reference day rule pass start true place tried settled next content before at c to_try =
    let s = skip limit books reference day rule pass start settled content at.are_books at.accepted place c.tried_so c.waiting_so next c.underway to_try in
    let more : tried ≤ s.tried_so = (let a = c.enough in let b = s.enough in omega arith) in
    record {
      place = s.place;
      come = record { tried_so = s.tried_so; waiting_so = s.waiting_so; enough = more; each = λ is. absurd (cc); underway = s.underway };
      after = s.after;
    }

-- how many wait after a try
waiting_on : Outcome → ℕ → ℕ
waiting_on outcomes.Settled waiting = waiting
waiting_on (Lacks lack) waiting = waiting + 1

waits_on : (outcome : Outcome) (waiting : ℕ) → waiting_on outcome waiting + settled_of outcome ≡ waiting + 1
unfolding waiting_on
waits_on outcomes.Settled waiting = omega arith
waits_on (Lacks lack) waiting = omega arith

few_settled : (settles : Bool) → one_if settles ≤ 1
few_settled true = omega arith
few_settled false = omega arith

pub record Trying (room : ℕ) (v0 v : View) (day : List ℕ) (again : Bool) (place : Option Place) (tried settled : ℕ) : Type 0 where
  pub stays : Stays v0 v
  pub later : IsLater v0 v
  pub counted : settled ≤ tried
  pub kept : v.is_honest → v0.is_sure → v.content.register ≡ v0.content.register
  pub comes : v.is_honest → v0.is_sure → (books : Books) (reference : List ℕ) (rule : RunRule) (pass : ℕ) (start : List Settled) → IsAtPass room books (Run reference day rule) pass start v0.content
      → ComesTo books reference day rule pass start again place tried settled v.content

pub trying_begins : (room : ℕ) (v0 : View) (day : List ℕ) (again : Bool) → Trying room v0 v0 day again None 0 0
trying_begins room v0 day again = record {
  stays = record { stage = refl; sure = λ honest sure. sure; mark = λ honest sure. refl; device = λ honest sure. sure };
  later = record { honest = λ honest. honest; sure = λ honest sure. sure; room = refl; device_honest = λ honest. honest; failures = omega arith };
  counted = omega arith;
  kept = λ honest sure. refl;
  comes = λ honest sure books reference rule pass start at. record {
    tried_so = 0;
    waiting_so = 0;
    enough = omega arith;
    each = λ first. refl;
    underway = starts books reference day rule pass start v0.content at.are_books at.underway at.told;
  };
}

module _ (room : ℕ) (v0 v : View) (day : List ℕ) (again : Bool) (place : Option Place) (tried settled : ℕ) (r : Trying room v0 v day again place tried settled) where
  come : (next : Option Place) → v.is_honest → v0.is_sure → (books : Books) (reference : List ℕ) (rule : RunRule) (pass : ℕ) (start : List Settled) → IsAtPass room books (Run reference day rule) pass start v0.content
      → IsNextPair again v.content (number_of day) place next → Reached books reference day rule pass start again tried settled next v.content
  come next honest sure books reference rule pass start at is =
      reach room books reference day rule pass start again place tried settled next v.content v0.content at (r.comes honest sure books reference rule pass start at) is

  pub trying_goes_on : (w : View) (new_settled : ℕ) (taken : Taken) → Stays v w → IsLater v w → (w.is_honest → v.is_sure → Takes again v.content day place (Some taken) w.content) → new_settled ≡ settled + one_if taken.settles
      → Trying room v0 w day again (Some taken.place) (tried + 1) new_settled
  trying_goes_on w new_settled taken stays later took settles = record {
    stays = stays_then v0 v w r.stays r.later later stays;
    later = later_then v0 v w r.stays r.later later;
    counted = (let c = r.counted in let few = few_settled taken.settles in omega arith);
    kept = λ honest sure. taken_keeps v.content w.content day again place (Some taken) (took honest (r.stays.sure (later.honest honest) sure)) ∙ r.kept (later.honest honest) sure;
    comes = λ honest sure books reference rule pass start at.
        let honest1 = later.honest honest in
        let t = took honest (r.stays.sure honest1 sure) in
        let s = come (Some taken.place) honest1 sure books reference rule pass start at t.0 in
        let c = s.come in
        let one : settled_of t.1.outcome ≡ one_if taken.settles = one_settled t.1.outcome ∙ ap one_if t.1.settled in
        let sum : settled + settled_of t.1.outcome ≡ new_settled = omega arith in
        let waits = waits_on t.1.outcome c.waiting_so in
        let P : ℕ → Type 0 = λ k. Underway books reference day rule pass start (Some taken.place) (c.tried_so + 1) k (waiting_on t.1.outcome c.waiting_so) w.content in
        record {
          tried_so = c.tried_so + 1;
          waiting_so = waiting_on t.1.outcome c.waiting_so;
          enough = (let more = c.enough in omega arith);
          each = λ first. (let all = c.each first in omega arith);
          underway = subst P sum (goes_on room books reference day rule pass start s.place c.tried_so settled c.waiting_so (waiting_on t.1.outcome c.waiting_so) v.content w.content (record { place = taken.place; outcome = t.1.outcome })
              at.are_books at.accepted c.underway (s.after, t.1.tried) waits);
        };
  }

  module _ (number : ℕ) (before : Ran) (here : room ≡ v0.room) (may : v0.is_honest → v0.is_sure → CanPass room day before v0.content) where
    pub trying_can_try : v.is_honest → v.is_sure → (next : Place) → IsNextPair again v.content (number_of day) place (Some next) → CanTry v.room v.content next.number (number_of day)
    trying_can_try honest sure next is =
        let sure0 = r.later.sure honest sure in
        let can = may (r.later.honest honest) sure0 in
        let at = can.made.at_pass in
        let s = come (Some next) honest sure0 can.books can.reference can.rule (before.passes + 1) can.settled at is in
        let P : ℕ → Type 0 = λ k. CanTry k v.content next.number (number_of day) in
        subst P (here ∙ sym r.later.room) (can_try room can.books can.reference day can.rule (before.passes + 1) can.settled s.place s.come.tried_so settled s.come.waiting_so v.content at.are_books at.accepted s.come.underway next s.after)

    module _ (is_number : v0.is_honest → v0.is_sure → number ≡ length v0.content.register + 1) where
      -- a store that shows what it holds has fewer pairs than entries to try
      pub trying_ends_so : number ≤ tried → v.is_honest → v0.is_sure → ⊥
      trying_ends_so all honest sure =
          let honest0 = r.later.honest honest in
          let can = may honest0 sure in
          let at = can.made.at_pass in
          let c = r.comes honest sure can.books can.reference can.rule (before.passes + 1) can.settled at in
          let size = length_is v0.content can.books.history at.underway.passing.history in
          let is = is_number honest0 sure in
          let left = c.underway.left in
          let enough = c.enough in
          omega arith

      -- nor do more pairs settle than there are entries
      pub trying_settles_few : number ≤ before.settled + settled → v.is_honest → v0.is_sure → ⊥
      trying_settles_few many honest sure =
          let honest0 = r.later.honest honest in
          let can = may honest0 sure in
          let at = can.made.at_pass in
          let c = r.comes honest sure can.books can.reference can.rule (before.passes + 1) can.settled at in
          let size = length_is v0.content can.books.history at.underway.passing.history in
          let is = is_number honest0 sure in
          let pairs = pairs_few can.books at.are_books in
          let few = c.underway.underway.further.few in
          let all = length-append can.settled c.underway.here in
          let here_so = c.underway.count_is in
          let so_far = can.made.so_far in
          omega arith

  -- where no pair is left, the pass is over, and as many wait as were due in it less those that settled
  pub trying_ends : (w : View) (due : ℕ) (before : Ran) (books : Books) (reference : List ℕ) (rule : RunRule) (start : List Settled) → (again ≡ false → due ≡ tried) → (again ≡ true → due ≡ before.waiting) → (again ≡ true → 0 < before.passes)
      → IsLater v w → (w.is_honest → v.is_sure → Takes again v.content day place None w.content) → w.is_honest → v0.is_sure → HasMade room books (Run reference day rule) before start v0.content
      → PassEnds books (Run reference day rule) (before.passes + 1) start settled (due - settled) w.content
  trying_ends w due before books reference rule start first further passes later took honest sure made =
      let honest1 = later.honest honest in
      let at = made.at_pass in
      let t = took honest (r.stays.sure honest1 sure) in
      let s = come None honest1 sure books reference rule (before.passes + 1) start at t.0 in
      let c = s.come in
      let all : due_left books (Run reference day rule) start ≡ settled + c.waiting_so = waits_rest books reference day rule (before.passes + 1) start s.place c.tried_so settled c.waiting_so v.content at.are_books c.underway s.after in
      let rest : c.waiting_so ≡ due - settled = elim (cases_Bool again) [
        | inl is ↦ (let due_is = further is in let waits = made.waits (passes is) in omega arith)
        | inr is ↦ (let due_is = first is in let each = c.each is in omega arith)
      ] in
      let P : ℕ → Type 0 = λ k. PassEnds books (Run reference day rule) (before.passes + 1) start settled k w.content in
      subst P rest (ends_none books reference day rule (before.passes + 1) start s.place c.tried_so settled c.waiting_so v.content w.content at.are_books c.underway (s.after, t.1))
