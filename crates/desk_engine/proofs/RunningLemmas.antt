-- The loops of a run, over the views of the register.
use Rattle.std.specs.Prelude.{Bool, nat_lt}
use Rattle.std.proofs.lemmas.Bool.{ltb-true, ltb-false}
use Rattle.desk_rules.specs.Settlement.{allows_more}
use Rattle.std.proofs.Common.{◌≡◌, ◌⊎◌, inl, inr, ℕ, ◌+◌, ◌<◌, ◌≤◌, true, false, ◌&&◌, refl, List, [], length, Option, Some, None, ap, sym, ◌∙◌, subst, arith, length-append}
use Rattle.desk_codes.specs.Number.{number_of}
use Rattle.desk_rules.specs.declared.history.entry.Entry.TheVariants.{Run}
use Rattle.desk_rules.specs.declared.history.entry.RunRule.{RunRule}
use Rattle.desk_rules.specs.declared.history.entry.RunRule.TheVariants.{OnePass, Passes}
use Rattle.desk_rules.specs.declared.history.pair.Place.{Place}
use Rattle.desk_rules.specs.declared.history.pair.Settled.{Settled}
use Rattle.desk_engine.specs.declared.settlement_run.Ran.{Ran}
use Rattle.desk_engine.specs.declared.settlement_run.Taken.{Taken}
use Rattle.desk_register.specs.View.{View, IsLater, Stays}
use Rattle.desk_rules.specs.Books.{Books}
use Rattle.desk_rules.specs.Content.{Content}
use Rattle.desk_rules.specs.declared.history.entry.Instructed.{Instructed}
use Rattle.desk_register.specs.Changes.{CanSettle}
use Rattle.desk_register.specs.declared.outcome.Outcome.{Outcome}
use Rattle.desk_register.specs.declared.outcome.Outcome.TheVariants as outcomes
use Rattle.desk_register.specs.declared.outcome.Outcome.TheVariants.{Lacks}
use Rattle.desk_register.specs.Looked.{IsDuePairAfter}
use Rattle.desk_engine.specs.Applied.{Keeps}
use Rattle.desk_engine.specs.Tables.{Tables}
use Rattle.desk_engine.specs.Pass.{CanPass, CanRun, Fares, HasMade, IsAtPass, PassEnds, RanTo, Takes, has_settled, one_if, settled_of, told_of_try}
use Rattle.desk_engine.proofs.TablesLemmas.{length_is}
use Rattle.desk_register.proofs.ViewLemmas.{later_then, stays_then}
use Rattle.desk_engine.proofs.FinishLemmas.{first_begins}
use Rattle.desk_engine.proofs.KeepsLemmas.{tables_of}
use Rattle.desk_engine.proofs.SentLemmas.{sent_none_yet}
use Rattle.desk_engine.proofs.UnderwayLemmas.{PassesMade, can_try, goes_again, pairs_few, pass_over, run_over, settles_keeps, starts}

-- to try a pair changes no entry and no reply

told_keeps : (m n : ℕ) (earlier : Instructed) (day : List ℕ) (outcome : Outcome) (content : Content) → (told_of_try m n earlier day outcome content).register ≡ content.register
told_keeps m n earlier day outcomes.Settled content = refl
told_keeps m n earlier day (Lacks lack) content = refl

fares_keeps : (old new : Content) (n : ℕ) (day : List ℕ) (settles : Bool) → Fares old n day settles new → new.register ≡ old.register
fares_keeps old new n day settles t =
    let try = t.tried in
    ap (λ (c : Content). c.register) try.told
    ∙ told_keeps try.tried.mate n try.tried.earlier day t.outcome try.between
    ∙ settles_keeps old try.between n t.outcome try.tried

pub taken_keeps : (old new : Content) (day : List ℕ) (again : Bool) (place : Option Place) (taken : Option Taken) → Takes again old day place taken new → new.register ≡ old.register
taken_keeps old new day again place None t = ap (λ (c : Content). c.register) t.1
taken_keeps old new day again place (Some taken) t = fares_keeps old new taken.place.number day taken.settles t.1

-- how many a try settles
pub one_settled : (outcome : Outcome) → settled_of outcome ≡ one_if (has_settled outcome)
one_settled outcomes.Settled = refl
one_settled (Lacks lack) = refl

-- Pass by pass.

-- what the code asks before a further pass
pub makes_another : (rule : RunRule) (last : ℕ) → (allows_more (Some rule) && nat_lt 0 last) ≡ true → (rule ≡ Passes) × (0 < last)
makes_another OnePass last is = absurd (cc)
makes_another Passes last is = (refl, ltb-true 0 last is)

pub makes_no_other : (rule : RunRule) (last : ℕ) → (allows_more (Some rule) && nat_lt 0 last) ≡ false → (rule ≡ OnePass) ⊎ (last ≡ 0)
makes_no_other OnePass last is = inl refl
makes_no_other Passes last is = inr (let few : last ≤ 0 = ltb-false 0 last is in omega arith)

-- the first pass may be made of a register with the tables of a history
at_first : (room : ℕ) (books : Books) (reference day : List ℕ) (rule : RunRule) (content : Content) → Tables room books content → IsAtPass room books (Run reference day rule) 1 books.settled content
at_first room books reference day rule content tables = record {
  are_books = tables.are_books;
  accepted = tables.accepted;
  underway = first_begins room books reference day rule content tables;
  told = tables.sent ∙ sym (sent_none_yet books (Run reference day rule) tables.are_books);
}

-- The first due pair can be tried where the tables of books are kept, whatever run may come.
pub kept_can_settle : (limit : ℕ) (books : Books) (content : Content) (day : List ℕ) (next : Place) → Keeps limit books content → IsDuePairAfter content (number_of day) None (Some next) → CanSettle content next.number (number_of day)
kept_can_settle limit books content day next keeps due =
    let at = at_first limit books [] day OnePass content (tables_of limit books content keeps) in
    let can = can_try limit books [] day OnePass 1 books.settled None 0 0 0 content at.are_books at.accepted (starts books [] day OnePass 1 books.settled content at.are_books at.underway at.told) next due in
    can.settle

-- a run has made its passes so far, which settled a pair each
pub record Passing (room : ℕ) (v0 v : View) (day : List ℕ) (rule : RunRule) (begun number : ℕ) (ran : Ran) : Type 0 where
  pub stays : Stays v0 v
  pub later : IsLater v0 v
  pub kept : v.is_honest → v0.is_sure → v.content.register ≡ v0.content.register
  pub passes : ran.passes ≡ begun
  pub counted : ran.passes ≤ ran.settled
  pub few : ran.settled ≤ number
  pub made : v.is_honest → v0.is_sure → (books : Books) (reference : List ℕ) → Tables room books v0.content → (start : List Settled) × HasMade room books (Run reference day rule) ran start v.content

pub passing_begins : (room : ℕ) (v0 : View) (day : List ℕ) (rule : RunRule) (number : ℕ) (ran : Ran) → ran ≡ record { passes = 0; settled = 0; last = 0; waiting = 0 } → Passing room v0 v0 day rule 0 number ran
passing_begins room v0 day rule number ran is =
    let none : Ran = record { passes = 0; settled = 0; last = 0; waiting = 0 } in
    let P : Ran → Type 0 = λ r. Passing room v0 v0 day rule 0 number r in
    let first : Passing room v0 v0 day rule 0 number none = record {
      stays = record { stage = refl; sure = λ honest sure. sure; mark = λ honest sure. refl; device = λ honest sure. sure };
      later = record { honest = λ honest. honest; sure = λ honest sure. sure; room = refl; device_honest = λ honest. honest; failures = omega arith };
      kept = λ honest sure. refl;
      passes = refl;
      counted = omega arith;
      few = omega arith;
      made = λ honest sure books reference tables. (
        books.settled,
        record { at_pass = at_first room books reference day rule v0.content tables; so_far = omega arith; waits = λ some. absurd (omega arith) },
      );
    } in
    subst P (sym is) first

module _ (room : ℕ) (v0 v : View) (day : List ℕ) (rule : RunRule) (begun number : ℕ) (ran : Ran) (here : room ≡ v0.room) (p : Passing room v0 v day rule begun number ran) where
  pub passing_can_go : (v0.is_honest → v0.is_sure → CanRun room v0.content) → v.is_honest → v.is_sure → CanPass v.room day ran v.content
  passing_can_go may honest sure =
      let sure0 = p.later.sure honest sure in
      let can = may (p.later.honest honest) sure0 in
      let m = p.made honest sure0 can.books [] can.tables in
      let Q : ℕ → Type 0 = λ k. CanPass k day ran v.content in
      subst Q (here ∙ sym p.later.room) (record { books = can.books; reference = []; rule = rule; settled = m.0; made = m.1 })

  pub passing_number : (v0.is_honest → v0.is_sure → number ≡ length v0.content.register + 1) → v.is_honest → v.is_sure → number ≡ length v.content.register + 1
  passing_number is_number honest sure =
      let sure0 = p.later.sure honest sure in
      let same = ap length (p.kept honest sure0) in
      let is = is_number (p.later.honest honest) sure0 in
      omega arith

  -- a store that shows what it holds settles no pair in so many passes
  pub passing_ends_so : (v0.is_honest → v0.is_sure → CanRun room v0.content) → (v0.is_honest → v0.is_sure → number ≡ length v0.content.register + 1) → number ≤ begun → v.is_honest → v0.is_sure → ⊥
  passing_ends_so may is_number all honest sure =
      let honest0 = p.later.honest honest in
      let can = may honest0 sure in
      let m = p.made honest sure can.books [] can.tables in
      let size = length_is v0.content can.books.history can.tables.history in
      let is = is_number honest0 sure in
      let pairs = pairs_few can.books can.tables.are_books in
      let few = m.1.at_pass.underway.further.few in
      let so_far = m.1.so_far in
      let counted = p.counted in
      let passes = p.passes in
      omega arith

  -- A pass more was made.
  module _ (w : View) (now : Ran) (passes : now.passes ≡ ran.passes + 1) (settled : now.settled ≡ ran.settled + now.last)
      (ends : (books : Books) (reference : List ℕ) (rule : RunRule) (start : List Settled) → w.is_honest → v.is_sure → HasMade v.room books (Run reference day rule) ran start v.content → PassEnds books (Run reference day rule) (ran.passes + 1) start now.last now.waiting w.content)
      (later : IsLater v w) where
    all_made : w.is_honest → v0.is_sure → (books : Books) (reference : List ℕ) → Tables room books v0.content → PassesMade books reference day rule ran.passes now.settled now.waiting now.last w.content
    all_made honest sure books reference tables =
        let honest1 = later.honest honest in
        let m = p.made honest1 sure books reference tables in
        let Q : ℕ → Type 0 = λ k. HasMade k books (Run reference day rule) ran m.0 v.content in
        pass_over books reference day rule ran.passes ran.settled now.last now.waiting now.settled m.0 w.content p.counted m.1.so_far settled
        (ends books reference rule m.0 honest (p.stays.sure honest1 sure) (subst Q (here ∙ sym p.later.room) m.1))

    pub passing_goes_on : rule ≡ Passes → 0 < now.last → Stays v w → (w.is_honest → v.is_sure → w.content.register ≡ v.content.register) → now.settled < number → Passing room v0 w day rule (begun + 1) number now
    passing_goes_on again some stays kept few = record {
      stays = stays_then v0 v w p.stays p.later later stays;
      later = later_then v0 v w p.stays p.later later;
      kept = λ honest sure. (let honest1 = later.honest honest in kept honest (p.stays.sure honest1 sure) ∙ p.kept honest1 sure);
      passes = (let was = p.passes in omega arith);
      counted = (let was = p.counted in omega arith);
      few = (let less = few in omega arith);
      made = λ honest sure books reference tables.
          let all = all_made honest sure books reference tables in
          let pass : all.pass + 1 ≡ now.passes + 1 = ap (λ k. k + 1) (all.is_pass ∙ sym passes) in
          let P : ℕ → Type 0 = λ k. IsAtPass room books (Run reference day rule) k all.settled w.content in
          let a = length-append books.settled all.over.further.more in
          let b = ap length all.over.further.is_more in
          let c = all.total in (
            all.settled,
            record {
              at_pass = subst P pass (record {
                are_books = tables.are_books;
                accepted = tables.accepted;
                underway = goes_again books reference day rule ran.passes now.settled now.waiting now.last w.content tables.are_books all again some;
                told = all.told;
              });
              so_far = omega arith;
              waits = λ any. all.over.waits;
            },
          );
    }

    pub passing_ends : (books : Books) (reference : List ℕ) → (rule ≡ OnePass) ⊎ (now.last ≡ 0) → w.is_honest → v0.is_sure → Tables room books v0.content → RanTo books (Run reference day rule) now.settled now.waiting now.passes w.content
    passing_ends books reference why honest sure tables =
        let P : ℕ → Type 0 = λ k. RanTo books (Run reference day rule) now.settled now.waiting k w.content in
        subst P (sym passes) (run_over books reference day rule ran.passes now.settled now.waiting now.last w.content tables.are_books (all_made honest sure books reference tables) why)
