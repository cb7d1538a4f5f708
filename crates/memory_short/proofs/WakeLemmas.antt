-- What is known of short pairs, after places were put among those to try, or were taken out, and after what was brought was taken up.
use Rattle.std.proofs.Common.{◌≡◌, ℕ, zero, suc, ◌<◌, ◌≤◌, [], ◌∷◌, List, length, true, false, Some, refl, ap, sym, ◌∙◌, subst, arith, inl, inr}
use Rattle.std.specs.Prelude.{option_map, Result, Ok, Err, OnOk}
use Rattle.std.specs.Ordering.{is_eq}
use Rattle.std.specs.BTreeMap.{BTreeMap}
use Rattle.std.specs.BTreeSet.{BTreeSet, contains}
use Rattle.std.proofs.lemmas.Bool.{cases_lt, false_from_ne_true}
use Rattle.desk_codes.specs.Number.{number_of}
use Rattle.desk_codes.specs.declared.day.Day.{Day}
use Rattle.desk_rules.specs.declared.history.entry.Entry.{Entry}
use Rattle.desk_rules.specs.declared.history.entry.Instructed.{Instructed}
use Rattle.desk_rules.specs.declared.history.pair.Lack.{Lack}
use Rattle.desk_rules.specs.declared.history.pair.Lack.TheVariants.{Securities, Money}
use Rattle.desk_rules.specs.declared.history.standing.State.TheVariants.{Matched}
use Rattle.desk_rules.specs.declared.history.pair.Place.{Place}
use Rattle.desk_rules.specs.Content.{Content}
use Rattle.desk_rules.specs.History.{instruction_at}
use Rattle.desk_rules.specs.Standing.{reason_of_lack}
use Rattle.desk_register.specs.Changes.{empty_content}
use Rattle.desk_register.specs.declared.outcome.Outcome.{Outcome}
use Rattle.desk_register.specs.declared.told.KnownPair.{KnownPair}
use Rattle.memory_rows.specs.Transfers.{IsTransferAt, Transfer, moved_by, transfer_of}
use Rattle.memory_short.specs.DuePlaces.{AreMatched, HasDue, place_at}
use Rattle.desk_rules.specs.Places.{place_cmp}
use Rattle.memory_short.specs.Shortages.{Brings, IsBrought, IsBroughtIfAny, IsNotedLack, IsNotedSettled, IsNotedTried, IsUncovered, KnowsAt, KnowsShort, PutsIn, TakesOut, is_to_try}
use Rattle.memory_short.specs.Wants.{AreWaiting, FewerWait, IsWantOf, KeepsOtherWaits, Waits, cash_want, is_waiting, less_given, more_taken, want_cmp}
use Rattle.memory_short.specs.declared.shortages.Shortages.{Shortages}
use Rattle.memory_short.specs.declared.wants.Want.{Want}
use Rattle.memory_short.proofs.PlaceCases.{by_place}
use Rattle.memory_short.proofs.ShortageLemmas.{carried, matched_of_stand, one_transfer, same_not_come}
use Rattle.memory_short.proofs.WantOrder.{by_want}

-- A place that is to be tried again.
module _ (s s' : Shortages) (content : Content) (here : Place) (want : Want) (amount : ℕ) (t : Transfer) (mate : ℕ) (lack : Lack) (knows : KnowsShort s content) (waiting : is_waiting s.waits want amount here ≡ true)
    (moves : IsTransferAt content here.number mate t) (told : (l : Lack) → (content.standing here.number).state ≡ Matched (reason_of_lack (Some l)) → lack ≡ l) where
  its_want : (want : Want) (amount : ℕ) → is_waiting s.waits want amount here ≡ true → IsWantOf t lack want amount
  its_want want amount is =
      let w = (knows.each here).waits want amount is in
      subst (λ z. IsWantOf z lack want amount) (sym (one_transfer content here.number mate t moves w.short)) (subst (λ l. IsWantOf (transfer_of w.short.earlier w.short.later) l want amount) (sym (told w.short.lack w.short.later_waits)) w.wanted)

  pub this_want : IsWantOf t lack want amount
  this_want = its_want want amount waiting

  pub wakes_place : (s'.is_known ≡ true → s.is_known ≡ true) → s'.brought ≡ s.brought → is_to_try s'.to_try here ≡ true → ((q : Place) → is_eq (place_cmp here q) ≡ false → is_to_try s'.to_try q ≡ is_to_try s.to_try q)
      → KeepsOtherWaits here s.waits s'.waits → FewerWait s.waits s'.waits → ((want : Want) (amount : ℕ) → IsWantOf t lack want amount → is_waiting s'.waits want amount here ≡ false) → KnowsShort s' content
  wakes_place known brought there others other_waits fewer gone =
      let none : (want : Want) (amount : ℕ) → is_waiting s'.waits want amount here ≡ true → ⊥ = λ want amount is. let bad = sym is ∙ gone want amount (its_want want amount (fewer.each want amount here is)) in cc in
      let w = (knows.each here).waits want amount waiting in
      let its_place : KnowsAt s' content here = record {
        noted = λ is_known pair out. let bad = sym there ∙ out in absurd (cc);
        tried = λ is. matched_of_stand content here w.short w.day;
        waits = λ want amount is. absurd (none want amount is);
        uncovered = λ want amount is unbrought. absurd (none want amount is);
      } in
      record {
        each = λ at. by_place here at (λ same. subst (KnowsAt s' content) same its_place) (λ other.
            carried s s' content content known (λ want is. subst (λ z. contains want_cmp z want ≡ true) (sym brought) is) (λ k i is. is) (λ want amount q is unbrought. same_not_come content content refl refl want)
            at (record { to_try = others at other; waits = λ want amount. other_waits.each want amount at other }) (knows.each at) refl (record { mate = refl; state = refl }) (λ short. record { mate = refl; state = refl }));
      }

-- What was brought is taken up, once all that wait for it are uncovered.
pub taken_up : (s s' : Shortages) (content : Content) (want : Want) → s'.is_known ≡ s.is_known → s'.to_try ≡ s.to_try → s'.waits ≡ s.waits
    → ((q : Want) → is_eq (want_cmp want q) ≡ false → contains want_cmp s'.brought q ≡ contains want_cmp s.brought q)
    → ((amount : ℕ) (at : Place) → is_waiting s.waits want amount at ≡ true → IsUncovered content want amount) → KnowsShort s content → KnowsShort s' content
taken_up s s' content want known to_try waits others uncovered knows = record {
  each = λ at.
      let here = knows.each at in
      let tried : is_to_try s'.to_try at ≡ is_to_try s.to_try at = ap (λ z. is_to_try z at) to_try in
      let wait : (want : Want) (amount : ℕ) → is_waiting s'.waits want amount at ≡ is_waiting s.waits want amount at = λ want amount. ap (λ z. is_waiting z want amount at) waits in
      record {
        noted = λ is pair out. let was = here.noted (sym known ∙ is) pair (sym tried ∙ out) in record { short = was.short; waiting = record { each = λ want amount wanted. wait want amount ∙ was.waiting.each want amount wanted } };
        tried = λ is. here.tried (sym tried ∙ is);
        waits = λ want amount is. let was = here.waits want amount (sym (wait want amount) ∙ is) in record { short = was.short; day = was.day; wanted = was.wanted; out = tried ∙ was.out };
        uncovered = λ other amount is unbrought. by_want want other
            (λ same. subst (λ z. IsUncovered content z amount) same (uncovered amount at (subst (λ z. is_waiting s.waits z amount at ≡ true) (sym same) (sym (wait other amount) ∙ is))))
            (λ apart. here.uncovered other amount (sym (wait other amount) ∙ is) (sym (others other apart) ∙ unbrought));
      };
}

-- What is not known of any pair may change.
pub known_alike : (s s' : Shortages) (content : Content) → s'.is_known ≡ s.is_known → s'.to_try ≡ s.to_try → s'.waits ≡ s.waits → s'.brought ≡ s.brought → KnowsShort s content → KnowsShort s' content
known_alike s s' content known to_try waits brought knows = record {
  each = λ at.
      let here = knows.each at in
      let tried : is_to_try s'.to_try at ≡ is_to_try s.to_try at = ap (λ z. is_to_try z at) to_try in
      let wait : (want : Want) (amount : ℕ) → is_waiting s'.waits want amount at ≡ is_waiting s.waits want amount at = λ want amount. ap (λ z. is_waiting z want amount at) waits in
      record {
        noted = λ is pair out. let was = here.noted (sym known ∙ is) pair (sym tried ∙ out) in record { short = was.short; waiting = record { each = λ want amount wanted. wait want amount ∙ was.waiting.each want amount wanted } };
        tried = λ is. here.tried (sym tried ∙ is);
        waits = λ want amount is. let was = here.waits want amount (sym (wait want amount) ∙ is) in record { short = was.short; day = was.day; wanted = was.wanted; out = tried ∙ was.out };
        uncovered = λ want amount is unbrought. here.uncovered want amount (sym (wait want amount) ∙ is) (ap (λ z. contains want_cmp z want) (sym brought) ∙ unbrought);
      };
}

-- Those that are left wait for more than there is, or for as much as there is less than.

pub more_than : (waits : Waits) (want : Want) (most found : ℕ) → most < found → ((n : ℕ) (at : Place) → is_waiting waits want n at ≡ true → found ≤ n) → (amount : ℕ) (at : Place) → is_waiting waits want amount at ≡ true → most < amount
more_than waits want most found less least amount at is = let more = least amount at is in omega arith

pub none_left : (waits : Waits) (want : Want) (most : ℕ) → ((n : ℕ) (at : Place) → is_waiting waits want n at ≡ false) → (amount : ℕ) (at : Place) → is_waiting waits want amount at ≡ true → most < amount
none_left waits want most none amount at is = let bad = sym is ∙ none amount at in absurd (cc)

pub no_more_than : (waits : Waits) (want : Want) (most : ℕ) → ((n : ℕ) (at : Place) → most < n → is_waiting waits want n at ≡ false) → (amount : ℕ) (at : Place) → is_waiting waits want amount at ≡ true → amount ≤ most
no_more_than waits want most none amount at is = elim (cases_lt most amount) [ inl lt ↦ (let bad = sym is ∙ none amount at lt in absurd (cc)) | inr ge ↦ ge ]

-- All matched pairs are to be tried.

pub nothing_touched : (touched : List ℕ) → length touched ≡ 0 → touched ≡ []
nothing_touched [] e = refl
nothing_touched (n ∷ touched) e = absurd (omega arith)

pub learned : (s s' : Shortages) (matched : BTreeSet Place) (touched : List ℕ) (content : Content) → s.is_known ≡ false → s'.waits ≡ s.waits → ((q : Place) → is_to_try s'.to_try q ≡ contains place_cmp matched q)
    → touched ≡ [] → HasDue matched content → AreMatched matched content touched → KnowsShort s' content
learned s s' matched touched content unknown waits all none due only = record {
  each = λ at.
      let none_waits : (want : Want) (amount : ℕ) → is_waiting s'.waits want amount at ≡ false = λ want amount. rw (waits, s.none_waits unknown) refl in
      record {
        noted = λ known pair out. let bad = sym (all at ∙ due.each at pair) ∙ out in absurd (cc);
        tried = λ is. only.each at (sym (all at) ∙ is) (rw none refl);
        waits = λ want amount is. let bad = sym is ∙ none_waits want amount in absurd (cc);
        uncovered = λ want amount is unbrought. let bad = sym is ∙ none_waits want amount in absurd (cc);
      };
}

-- A place that is put in, and one that is taken out.

pub puts_in : (s s' : Shortages) (here : Place) → (s'.is_known ≡ true → s.is_known ≡ true) → s'.waits ≡ s.waits → s'.brought ≡ s.brought → is_to_try s'.to_try here ≡ true
    → ((q : Place) → is_eq (place_cmp here q) ≡ false → is_to_try s'.to_try q ≡ is_to_try s.to_try q) → PutsIn here s s'
puts_in s s' here known waits brought there others = record {
  keeps = record {
    known = known;
    others = λ at apart. record { to_try = others at apart; waits = λ want amount. ap (λ z. is_waiting z want amount at) waits };
    brought = λ want is. subst (λ z. contains want_cmp z want ≡ true) (sym brought) is;
  };
  there = there;
  waits = λ want amount. ap (λ z. is_waiting z want amount here) waits;
}

pub put_at : (s s' : Shortages) (number d e : ℕ) → d ≡ e → PutsIn (place_at d number) s s' → PutsIn (place_at e number) s s'
put_at s s' number d e same puts = subst (λ z. PutsIn (place_at z number) s s') same puts

pub day_of_later : (history : List Entry) (n : ℕ) (day : Day) (later : Instructed) → Some day ≡ option_map (λ i. i.instruction.day) (instruction_at history n) → instruction_at history n ≡ Some later → day ≡ later.instruction.day
day_of_later history n day later is at = let both : Some day ≡ Some later.instruction.day = is ∙ ap (option_map (λ i. i.instruction.day)) at in cc

pub takes_out : (s s' : Shortages) (t : Transfer) (here : Place) (mid : Waits) → (s'.is_known ≡ true → s.is_known ≡ true) → s'.brought ≡ s.brought → is_to_try s'.to_try here ≡ false
    → ((q : Place) → is_eq (place_cmp here q) ≡ false → is_to_try s'.to_try q ≡ is_to_try s.to_try q) → KeepsOtherWaits here s.waits mid → KeepsOtherWaits here mid s'.waits → FewerWait s.waits mid → FewerWait mid s'.waits
    → ((want : Want) (amount : ℕ) → IsWantOf t Securities want amount → is_waiting mid want amount here ≡ false) → ((want : Want) (amount : ℕ) → IsWantOf t Money want amount → is_waiting s'.waits want amount here ≡ false) → TakesOut t here s s'
takes_out s s' t here mid known brought out others first second fewer_mid fewer_new securities money = record {
  keeps = record {
    known = known;
    others = λ at apart. record { to_try = others at apart; waits = λ want amount. second.each want amount at apart ∙ first.each want amount at apart };
    brought = λ want is. subst (λ z. contains want_cmp z want ≡ true) (sym brought) is;
  };
  out = out;
  gone = record { fewer = λ want amount is. fewer_mid.each want amount here (fewer_new.each want amount here is); none = λ was. by_lack };
}
  where
    by_lack : (lack : Lack) (want : Want) (amount : ℕ) → IsWantOf t lack want amount → is_waiting s'.waits want amount here ≡ false
    by_lack Securities want amount is = false_from_ne_true (is_waiting s'.waits want amount here) (λ there. let bad = sym (fewer_new.each want amount here there) ∙ securities want amount is in cc)
    by_lack Money want amount is = money want amount is

-- What a pair lacks that was tried: it was known to stay short, or it is tried again, or it waits.

pub lacks_otherwise : (s mid out s' : Shortages) (t : Transfer) (lack : Lack) (here : Place) → (s'.is_known ≡ true → s.is_known ≡ true) → ((q : Place) → is_to_try mid.to_try q ≡ is_to_try s.to_try q) → mid.waits ≡ s.waits → mid.brought ≡ s.brought
    → TakesOut t here mid out → s'.waits ≡ out.waits → s'.brought ≡ out.brought → is_to_try s'.to_try here ≡ true → ((q : Place) → is_eq (place_cmp here q) ≡ false → is_to_try s'.to_try q ≡ is_to_try out.to_try q) → IsNotedLack t lack here s s'
lacks_otherwise s mid out s' t lack here known same waits brought taken then_waits then_brought there others = record {
  keeps = record {
    known = known;
    others = λ at apart.
        let kept = taken.keeps.others at apart in
        record {
          to_try = others at apart ∙ kept.to_try ∙ same at;
          waits = λ want amount. ap (λ z. is_waiting z want amount at) then_waits ∙ kept.waits want amount ∙ ap (λ z. is_waiting z want amount at) waits;
        };
    brought = λ want is. subst (λ z. contains want_cmp z want ≡ true) (sym then_brought) (taken.keeps.brought want (subst (λ z. contains want_cmp z want ≡ true) (sym brought) is));
  };
  stays = λ is. record {
    fewer = λ want amount waiting. subst (λ z. is_waiting z want amount here ≡ true) waits (taken.gone.fewer want amount (subst (λ z. is_waiting z want amount here ≡ true) then_waits waiting));
    none = λ was its want amount wanted. ap (λ z. is_waiting z want amount here) then_waits ∙ taken.gone.none (same here ∙ was) its want amount wanted;
  };
  waiting = λ is. let bad = sym there ∙ is in absurd (cc);
  only = λ is. let bad = sym there ∙ is in absurd (cc);
  was = λ is. let bad = sym there ∙ is in absurd (cc);
}

pub lacks_still : (s s' : Shortages) (t : Transfer) (lack : Lack) (here : Place) → (s'.is_known ≡ true → s.is_known ≡ true) → ((q : Place) → is_to_try s'.to_try q ≡ is_to_try s.to_try q) → s'.waits ≡ s.waits → s'.brought ≡ s.brought
    → is_to_try s.to_try here ≡ true → IsNotedLack t lack here s s'
lacks_still s s' t lack here known same waits brought there = record {
  keeps = record {
    known = known;
    others = λ at apart. record { to_try = same at; waits = λ want amount. ap (λ z. is_waiting z want amount at) waits };
    brought = λ want is. subst (λ z. contains want_cmp z want ≡ true) (sym brought) is;
  };
  stays = λ is. record {
    fewer = λ want amount waiting. subst (λ z. is_waiting z want amount here ≡ true) waits waiting;
    none = λ was. let bad = sym there ∙ was in absurd (cc);
  };
  waiting = λ is. let bad = sym (same here ∙ there) ∙ is in absurd (cc);
  only = λ is. let bad = sym (same here ∙ there) ∙ is in absurd (cc);
  was = λ is. let bad = sym (same here ∙ there) ∙ is in absurd (cc);
}

pub lacks_and_waits : (s s' : Shortages) (mid : BTreeMap Place ℕ) (t : Transfer) (lack : Lack) (here : Place) → (s'.is_known ≡ true → s.is_known ≡ true) → ((q : Place) → is_to_try mid q ≡ is_to_try s.to_try q) → s'.brought ≡ s.brought
    → is_to_try s.to_try here ≡ true → is_to_try s'.to_try here ≡ false → ((q : Place) → is_eq (place_cmp here q) ≡ false → is_to_try s'.to_try q ≡ is_to_try mid q)
    → KeepsOtherWaits here s.waits s'.waits → AreWaiting s'.waits t lack here → ((want : Want) (amount : ℕ) → is_waiting s'.waits want amount here ≡ true → is_waiting s.waits want amount here ≡ false → IsWantOf t lack want amount) → IsNotedLack t lack here s s'
lacks_and_waits s s' mid t lack here known same brought was out others other_waits waiting only = record {
  keeps = record {
    known = known;
    others = λ at apart. record { to_try = others at apart ∙ same at; waits = λ want amount. other_waits.each want amount at apart };
    brought = λ want is. subst (λ z. contains want_cmp z want ≡ true) (sym brought) is;
  };
  stays = λ is. let bad = sym is ∙ out in absurd (cc);
  waiting = λ is. waiting;
  only = λ is. only;
  was = λ is. was;
}

-- what is noted of a pair that was looked up, said of its two instructions
pub noted_of : (s s' : Shortages) (outcome : Outcome) (pair : KnownPair) (here : Place) (mate number : ℕ) (earlier later : Instructed) → pair ≡ record { mate = mate; number = number; earlier = earlier; later = later }
    → here ≡ place_at (number_of later.instruction.day) number → IsNotedTried outcome (moved_by pair) here s s' → IsNotedTried outcome (transfer_of earlier later) (place_at (number_of later.instruction.day) number) s s'
noted_of s s' outcome pair here mate number earlier later is at noted =
    subst (λ p. IsNotedTried outcome (transfer_of earlier later) p s s') at (subst (λ (p : KnownPair). IsNotedTried outcome (moved_by p) here s s') is noted)

pub noted_at : (s s' : Shortages) (t : Transfer) (lack : Lack) (here place : Place) → here ≡ place → IsNotedLack t lack here s s' → IsNotedLack t lack place s s'
noted_at s s' t lack here place same noted = subst (λ p. IsNotedLack t lack p s s') same noted

-- A pair that settled, once what it brings was put down.
pub settles_and_brings : (s out one two s' : Shortages) (t : Transfer) (here : Place) → TakesOut t here s out → Brings out one → IsBrought one (more_taken t) → Brings one two → IsBrought two (less_given t) → Brings two s'
    → IsBroughtIfAny s' (cash_want t.deliverer t.cash) → IsNotedSettled t here s s'
settles_and_brings s out one two s' t here taken first more second less third paid =
    let to_try : s'.to_try ≡ out.to_try = third.to_try ∙ second.to_try ∙ first.to_try in
    let waits : s'.waits ≡ out.waits = third.waits ∙ second.waits ∙ first.waits in
    record {
      taken = record {
        keeps = record {
          known = λ is. taken.keeps.known (sym (third.known ∙ second.known ∙ first.known) ∙ is);
          others = λ at apart.
              let kept = taken.keeps.others at apart in
              record { to_try = ap (λ z. is_to_try z at) to_try ∙ kept.to_try; waits = λ want amount. ap (λ z. is_waiting z want amount at) waits ∙ kept.waits want amount };
          brought = λ want is. third.more want (second.more want (first.more want (taken.keeps.brought want is)));
        };
        out = ap (λ z. is_to_try z here) to_try ∙ taken.out;
        gone = record {
          fewer = λ want amount is. taken.gone.fewer want amount (subst (λ z. is_waiting z want amount here ≡ true) waits is);
          none = λ was lack want amount wanted. ap (λ z. is_waiting z want amount here) waits ∙ taken.gone.none was lack want amount wanted;
        };
      };
      more_taken = record { each = λ amount at is. third.more (more_taken t) (second.more (more_taken t) (more.each amount at (subst (λ z. is_waiting z (more_taken t) amount at ≡ true) (third.waits ∙ second.waits) is))) };
      less_given = record { each = λ amount at is. third.more (less_given t) (less.each amount at (subst (λ z. is_waiting z (less_given t) amount at ≡ true) third.waits is)) };
      more_paid = paid;
    }

pub on_ok : {X E : Type 0} {P Q : Type 0} (r : Result X E) → (P → Q) → OnOk r P → OnOk r Q
on_ok (Ok x) goes p = goes p
on_ok (Err e) goes p = tt

-- in a register without entries no pair is matched
none_before_first : (n : ℕ) {i : Instructed} → instruction_at [] n ≡ Some i → ⊥
none_before_first zero e = cc
none_before_first (suc n) e = cc

pub none_in_none : (s : Shortages) → s.to_try.entries ≡ [] → s.waits.entries ≡ [] → KnowsShort s empty_content
none_in_none s none_tried none_waits = record {
  each = λ at.
      let tried : is_to_try s.to_try at ≡ false = rw none_tried refl in
      let waits : (want : Want) (amount : ℕ) → is_waiting s.waits want amount at ≡ false = λ want amount. rw none_waits refl in
      record {
        noted = λ known pair out. absurd (none_before_first at.number pair.is_later);
        tried = λ is. let bad = sym is ∙ tried in absurd (cc);
        waits = λ want amount is. let bad = sym is ∙ waits want amount in absurd (cc);
        uncovered = λ want amount is unbrought. let bad = sym is ∙ waits want amount in absurd (cc);
      };
}
