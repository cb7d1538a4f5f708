-- Which pairs are known to stay short, through what the calls of a register make of its content.
use Rattle.std.proofs.Common.{◌≡◌, ◌≢◌, ℕ, ◌+◌, ◌-◌, ◌<◌, ◌≤◌, length, true, false, List, map, Option, Some, None, refl, ap, sym, ◌∙◌, subst, arith, inl, inr}
use Rattle.std.specs.Prelude.{◌&&◌, bytes_eq, is_some}
use Rattle.std.specs.BTreeSet.{contains}
use Rattle.std.specs.Ordering.{is_eq}
use Rattle.std.proofs.lemmas.Bool.{and_parts, cases_eq, false_from_ne_true}
use Rattle.desk_codes.specs.declared.currency.Ccy.{Ccy}
use Rattle.desk_codes.specs.Number.{number_of}
use Rattle.desk_msg.specs.declared.instruction.Cash.{Cash}
use Rattle.desk_msg.specs.declared.writing.status.Reason.{Reason}
use Rattle.desk_rules.specs.Balances.{same_ccy}
use Rattle.desk_rules.specs.declared.history.entry.Entry.{Entry}
use Rattle.desk_rules.specs.declared.history.entry.Entry.TheVariants.{Participant, Account, Security, Issue, Redeem, PayIn, PayOut, Instruct, Cancel, Run}
use Rattle.desk_rules.specs.declared.history.entry.Instructed.{Instructed}
use Rattle.desk_rules.specs.declared.history.pair.Lack.{Lack}
use Rattle.desk_rules.specs.declared.history.pair.Lack.TheVariants.{Securities, Money}
use Rattle.desk_rules.specs.declared.history.pair.Place.{Place}
use Rattle.desk_rules.specs.declared.history.standing.Standing.{Standing}
use Rattle.desk_rules.specs.declared.history.standing.State.{State}
use Rattle.desk_rules.specs.declared.history.standing.State.TheVariants.{Cancelled, Matched, Settled, Unmatched}
use Rattle.desk_rules.specs.declared.answers.reply.Reply.{Reply}
use Rattle.desk_rules.specs.Content.{CashBalances, Content, Positions, history_of}
use Rattle.desk_rules.specs.History.{instruction_at}
use Rattle.desk_rules.specs.Standing.{reason_of_lack}
use Rattle.desk_rules.proofs.Deciding.{same_ccy-true}
use Rattle.desk_rules.proofs.HistoryLemmas.{instruction_at-known}
use Rattle.desk_register.specs.declared.outcome.Outcome.{Outcome}
use Rattle.desk_register.specs.declared.outcome.Outcome.TheVariants as outcomes
use Rattle.desk_register.specs.declared.outcome.Outcome.TheVariants.{Lacks}
use Rattle.desk_register.specs.Changes.{IsPairAt, LacksCash, TriesSides, appended, cancelled, cash_at, delivered, delivering_side, first_standing, moved_to, paid_over, receiving_side, standing_both}
use Rattle.desk_register.specs.Looked.{IsMatchedPair}
use Rattle.desk_register.specs.Short.{LacksNow, StaysShort}
use Rattle.desk_register.proofs.CaseLemmas.{by_bool, same_bytes}
use Rattle.memory_rows.specs.Transfers.{IsTransferAt, Transfer, transfer_of}
use Rattle.memory_short.specs.DuePlaces.{place_at}
use Rattle.desk_rules.specs.Places.{place_cmp}
use Rattle.memory_short.specs.Shortages.{Agrees, Brings, IsBrought, IsBroughtIfAny, IsNotedLack, IsNotedSettled, IsNotedTried, IsUncovered, KeepsOthers, KnowsAt, KnowsShort, LetsGo, PutsIn, StandsShort, TakesOut, is_to_try}
use Rattle.memory_short.specs.Wants.{AreWaiting, IsAsked, IsWantOf, cash_want, is_waiting, less_given, more_taken, want_cmp, woken_by}
use Rattle.memory_short.specs.declared.shortages.Shortages.{Shortages}
use Rattle.memory_short.specs.declared.wants.Want.{Want}
use Rattle.memory_short.specs.declared.wants.Want.TheVariants.{MoreHeld, LessHeld, MoreCash}
use Rattle.memory_short.proofs.StandingLemmas.{AreAlike, at_earlier, at_later, at_other, history_more, history_same, instruction_more, n_is, no_mate, noted, noted_alike, size_of, standing_here, standing_other, stands_otherwise}
use Rattle.memory_short.proofs.PlaceCases.{by_place, equal_place}

-- Balances.

-- what is waited for has not come
abbrev pub HasNotCome : Content → Content → Want → Type 0
HasNotCome old new (MoreHeld account isin) = new.position account isin ≤ old.position account isin
HasNotCome old new (LessHeld account isin) = old.position account isin ≤ new.position account isin
HasNotCome old new (MoreCash bic ccy) = new.cash bic ccy ≤ old.cash bic ccy

uncovered_still : (old new : Content) (want : Want) (amount : ℕ) → HasNotCome old new want → IsUncovered old want amount → IsUncovered new want amount
uncovered_still old new (MoreHeld account isin) amount not_come less = omega arith
uncovered_still old new (LessHeld account isin) amount not_come enough = omega arith
uncovered_still old new (MoreCash bic ccy) amount not_come less = omega arith

pub same_not_come : (old new : Content) → new.position ≡ old.position → new.cash ≡ old.cash → (want : Want) → HasNotCome old new want
same_not_come old new position cash (MoreHeld account isin) = let same : new.position account isin ≡ old.position account isin = ap (λ f. f account isin) position in omega arith
same_not_come old new position cash (LessHeld account isin) = let same : new.position account isin ≡ old.position account isin = ap (λ f. f account isin) position in omega arith
same_not_come old new position cash (MoreCash bic ccy) = let same : new.cash bic ccy ≡ old.cash bic ccy = ap (λ f. f bic ccy) cash in omega arith

-- What a pair lacks, by what it waits for.

cash_lacks : (content : Content) (bic : List ℕ) (cash : Option Cash) → is_some cash ≡ true → ((ccy : Ccy) (amount : ℕ) → IsAsked cash ccy amount → content.cash bic ccy < amount) → LacksCash content.cash bic cash
cash_lacks content bic None some less = cc
cash_lacks content bic (Some asked) some less = less asked.ccy asked.amount (refl, refl)

lacks_of : (content : Content) (earlier later : Instructed) (lack : Lack) → (lack ≡ Money → is_some later.instruction.cash ≡ true)
    → ((want : Want) (amount : ℕ) → IsWantOf (transfer_of earlier later) lack want amount → IsUncovered content want amount) → LacksNow content earlier later lack
lacks_of content earlier later Securities pays uncovered = uncovered (MoreHeld (delivering_side earlier later).instruction.account later.instruction.isin) later.instruction.quantity (refl, refl, refl, refl)
lacks_of content earlier later Money pays uncovered = (
  uncovered (LessHeld (delivering_side earlier later).instruction.account later.instruction.isin) later.instruction.quantity (refl, refl, refl, refl),
  cash_lacks content (receiving_side earlier later).sender later.instruction.cash (pays refl) (λ ccy amount asked. uncovered (MoreCash (receiving_side earlier later).sender ccy) amount (refl, refl, asked)),
)

pub short_of_noted : (s : Shortages) (content : Content) → KnowsShort s content → ((want : Want) → contains want_cmp s.brought want ≡ false) → s.is_known ≡ true
    → (p : Place) → IsMatchedPair content p → is_to_try s.to_try p ≡ false → StaysShort content p.number
short_of_noted s content knows none known p pair out =
    let here = knows.each p in
    let noted = here.noted known pair out in
    let n = noted.short in
    record {
      mate = n.mate;
      earlier = n.earlier;
      later = n.later;
      lack = n.lack;
      pair = n.pair;
      two = n.two;
      back = n.back;
      earlier_waits = n.earlier_waits;
      later_waits = n.later_waits;
      lacks = lacks_of content n.earlier n.later n.lack n.pays (λ want amount is. here.uncovered want amount (noted.waiting.each want amount is) (none want));
    }

-- what a pair waits for that lacks something has not come
asked_less : (content : Content) (bic b : List ℕ) (cash : Option Cash) (ccy : Ccy) (amount : ℕ) → b ≡ bic → IsAsked cash ccy amount → LacksCash content.cash bic cash → content.cash b ccy < amount
asked_less content bic b None ccy amount same asked lacks = absurd lacks
asked_less content bic b (Some a) ccy amount same asked lacks =
    let here : content.cash b ccy ≡ content.cash bic a.ccy = ap (λ z. content.cash z ccy) same ∙ ap (content.cash bic) asked.0 in
    let much = asked.1 in
    omega arith

uncovered_of : (content : Content) (earlier later : Instructed) (lack : Lack) → LacksNow content earlier later lack → (want : Want) (amount : ℕ) → IsWantOf (transfer_of earlier later) lack want amount → IsUncovered content want amount
uncovered_of content earlier later Securities lacks (MoreHeld a i) amount (e, account, isin, much) =
    let here : content.position a i ≡ content.position (delivering_side earlier later).instruction.account later.instruction.isin = ap (λ z. content.position z i) account ∙ ap (content.position (delivering_side earlier later).instruction.account) isin in
    omega arith
uncovered_of content earlier later Securities lacks (LessHeld a i) amount (e, account, isin, much) = absurd (cc)
uncovered_of content earlier later Securities lacks (MoreCash b c) amount (e, bic, asked) = absurd (cc)
uncovered_of content earlier later Money lacks (MoreHeld a i) amount (e, account, isin, much) = absurd (cc)
uncovered_of content earlier later Money lacks (LessHeld a i) amount (e, account, isin, much) =
    let here : content.position a i ≡ content.position (delivering_side earlier later).instruction.account later.instruction.isin = ap (λ z. content.position z i) account ∙ ap (content.position (delivering_side earlier later).instruction.account) isin in
    let enough = lacks.0 in
    omega arith
uncovered_of content earlier later Money lacks (MoreCash b c) amount (e, bic, asked) = asked_less content (receiving_side earlier later).sender b later.instruction.cash c amount bic asked lacks.1

some_of_lack : (cash : CashBalances) (bic : List ℕ) (asked : Option Cash) → LacksCash cash bic asked → is_some asked ≡ true
some_of_lack cash bic None lacks = absurd lacks
some_of_lack cash bic (Some asked) lacks = refl

pays_of : (content : Content) (earlier later : Instructed) (lack : Lack) → LacksNow content earlier later lack → lack ≡ Money → is_some later.instruction.cash ≡ true
pays_of content earlier later Securities lacks e = absurd (cc)
pays_of content earlier later Money lacks e = some_of_lack content.cash (receiving_side earlier later).sender later.instruction.cash lacks.1

-- Places.

pub matched_of_stand : (content : Content) (at : Place) (short : StandsShort content at.number) → number_of short.later.instruction.day ≡ at.day → IsMatchedPair content at
matched_of_stand content at short day = record {
  later = short.later;
  mate = short.mate;
  reason = reason_of_lack (Some short.lack);
  is_later = short.pair.is_later;
  has_mate = short.pair.has_mate;
  is_earlier = short.two;
  matched = short.later_waits;
  day = day;
}

-- a matched pair was one, where its later instruction stands as before
matched_before : (old new : Content) (p : Place) → IsMatchedPair new p → instruction_at (history_of new) p.number ≡ instruction_at (history_of old) p.number
    → AreAlike (new.standing p.number) (old.standing p.number) → IsMatchedPair old p
matched_before old new p pair same alike = record {
  later = pair.later;
  mate = pair.mate;
  reason = pair.reason;
  is_later = sym same ∙ pair.is_later;
  has_mate = sym alike.mate ∙ pair.has_mate;
  is_earlier = pair.is_earlier;
  matched = sym alike.state ∙ pair.matched;
  day = pair.day;
}

-- a matched pair is one still, where its later instruction stands as before
pub matched_after : (old new : Content) (p : Place) → IsMatchedPair old p → instruction_at (history_of new) p.number ≡ instruction_at (history_of old) p.number
    → AreAlike (new.standing p.number) (old.standing p.number) → IsMatchedPair new p
matched_after old new p pair same alike = record {
  later = pair.later;
  mate = pair.mate;
  reason = pair.reason;
  is_later = same ∙ pair.is_later;
  has_mate = alike.mate ∙ pair.has_mate;
  is_earlier = pair.is_earlier;
  matched = alike.state ∙ pair.matched;
  day = pair.day;
}

pub alike_at : (a b : Standing) → a ≡ b → AreAlike a b
alike_at a b same = record { mate = ap (λ s. s.mate) same; state = ap (λ s. s.state) same }

pub same_known : (old new : Content) → new.register ≡ old.register → (k : ℕ) → instruction_at (history_of new) k ≡ instruction_at (history_of old) k
same_known old new register k = ap (λ r. instruction_at (map (λ kept. kept.entry) r) k) register

-- From one content to another, in which instructions are as they were, and nothing has come that is waited for and not brought.
module _ (s s' : Shortages) (old new : Content) (known : s'.is_known ≡ true → s.is_known ≡ true)
    (brought : (want : Want) → contains want_cmp s.brought want ≡ true → contains want_cmp s'.brought want ≡ true)
    (instructions : (k : ℕ) (i : Instructed) → instruction_at (history_of old) k ≡ Some i → instruction_at (history_of new) k ≡ Some i)
    (not_come : (want : Want) (amount : ℕ) (at : Place) → is_waiting s'.waits want amount at ≡ true → contains want_cmp s'.brought want ≡ false → HasNotCome old new want) where
  abbrev stands_on : (k : ℕ) (short : StandsShort old k) → AreAlike (new.standing k) (old.standing k) → AreAlike (new.standing short.mate) (old.standing short.mate) → StandsShort new k
  stands_on k short here there = record {
    mate = short.mate;
    earlier = short.earlier;
    later = short.later;
    lack = short.lack;
    pair = record { is_later = instructions k short.later short.pair.is_later; has_mate = here.mate ∙ short.pair.has_mate; is_earlier = instructions short.mate short.earlier short.pair.is_earlier };
    two = short.two;
    back = there.mate ∙ short.back;
    earlier_waits = there.state ∙ short.earlier_waits;
    later_waits = here.state ∙ short.later_waits;
    pays = short.pays;
  }

  not_brought : (want : Want) → contains want_cmp s'.brought want ≡ false → contains want_cmp s.brought want ≡ false
  not_brought want apart = false_from_ne_true (contains want_cmp s.brought want) (λ there. let kept = brought want there in let bad = sym kept ∙ apart in cc)

  -- what is known of a place is known still, where both instructions of its pair stand as before
  pub carried : (at : Place) → Agrees s s' at → KnowsAt s old at → instruction_at (history_of new) at.number ≡ instruction_at (history_of old) at.number → AreAlike (new.standing at.number) (old.standing at.number)
      → ((short : StandsShort old at.number) → AreAlike (new.standing short.mate) (old.standing short.mate)) → KnowsAt s' new at
  carried at agrees knows same alike mates = record {
    noted = λ is pair out.
        let was = knows.noted (known is) (matched_before old new at pair same alike) (sym agrees.to_try ∙ out) in
        record { short = stands_on at.number was.short alike (mates was.short); waiting = record { each = λ want amount wanted. agrees.waits want amount ∙ was.waiting.each want amount wanted } };
    tried = λ is. matched_after old new at (knows.tried (sym agrees.to_try ∙ is)) same alike;
    waits = λ want amount is.
        let was = knows.waits want amount (sym (agrees.waits want amount) ∙ is) in
        record { short = stands_on at.number was.short alike (mates was.short); day = was.day; wanted = was.wanted; out = agrees.to_try ∙ was.out };
    uncovered = λ want amount is apart. uncovered_still old new want amount (not_come want amount at is apart) (knows.uncovered want amount (sym (agrees.waits want amount) ∙ is) (not_brought want apart));
  }

  -- of a place where no pair was matched, and none is, nothing is known
  pub empty : (at : Place) → Agrees s s' at → KnowsAt s old at → (IsMatchedPair old at → ⊥) → (IsMatchedPair new at → ⊥) → KnowsAt s' new at
  empty at agrees knows was is = record {
    noted = λ known pair out. absurd (is pair);
    tried = λ there. absurd (was (knows.tried (sym agrees.to_try ∙ there)));
    waits = λ want amount there. let w = knows.waits want amount (sym (agrees.waits want amount) ∙ there) in absurd (was (matched_of_stand old at w.short w.day));
    uncovered = λ want amount there apart. let w = knows.waits want amount (sym (agrees.waits want amount) ∙ there) in absurd (was (matched_of_stand old at w.short w.day));
  }

agrees_here : (s : Shortages) (at : Place) → Agrees s s at
agrees_here s at = record { to_try = refl; waits = λ want amount. refl }

-- Where nothing is known nothing is kept.
pub forgotten : (s : Shortages) → s.is_known ≡ false → (content : Content) → KnowsShort s content
forgotten s none content = record {
  each = λ at.
      let none_tried : is_to_try s.to_try at ≡ false = rw (s.none_to_try none) refl in
      let none_waits : (want : Want) (amount : ℕ) → is_waiting s.waits want amount at ≡ false = λ want amount. rw (s.none_waits none) refl in
      record {
        noted = λ known pair out. let bad = sym known ∙ none in absurd (cc);
        tried = λ is. let bad = sym is ∙ none_tried in absurd (cc);
        waits = λ want amount is. let bad = sym is ∙ none_waits want amount in absurd (cc);
        uncovered = λ want amount is apart. let bad = sym is ∙ none_waits want amount in absurd (cc);
      };
}

-- known or forgotten
pub known_or_not : (s : Shortages) (content : Content) → (s.is_known ≡ true → KnowsShort s content) → KnowsShort s content
known_or_not s content knows = by_bool s.is_known knows (λ none. forgotten s none content)

-- Nothing changes that pairs stand by.
pub after_nothing : (s : Shortages) (old new : Content) → new.register ≡ old.register → new.standing ≡ old.standing → new.position ≡ old.position → new.cash ≡ old.cash → KnowsShort s old → KnowsShort s new
after_nothing s old new register standing position cash knows =
    let alike = λ (k : ℕ). alike_at (new.standing k) (old.standing k) (ap (λ f. f k) standing) in
    record {
      each = λ at. carried s s old new (λ known. known) (λ want there. there) (λ k i is. same_known old new register k ∙ is) (λ want amount q is apart. same_not_come old new position cash want)
          at (agrees_here s at) (knows.each at) (same_known old new register at.number) (alike at.number) (λ short. alike short.mate);
    }

-- What an entry brings about, and what a settlement does.

other_held : (make : List ℕ → List ℕ → Want) (account isin a i : List ℕ) → (make account isin ≡ make a i → ⊥) → (bytes_eq account a && bytes_eq isin i) ≡ false
other_held make account isin a i apart = by_bool (bytes_eq account a && bytes_eq isin i)
    (λ same.
    let both = and_parts (bytes_eq account a) (bytes_eq isin i) same in
    absurd (apart (ap (λ z. make z isin) (same_bytes account a both.0) ∙ ap (make a) (same_bytes isin i both.1))))
    (λ other. other)

other_cash : (bic b : List ℕ) (ccy c : Ccy) → (MoreCash bic ccy ≡ MoreCash b c → ⊥) → (bytes_eq bic b && same_ccy ccy c) ≡ false
other_cash bic b ccy c apart = by_bool (bytes_eq bic b && same_ccy ccy c)
    (λ same.
    let both = and_parts (bytes_eq bic b) (same_ccy ccy c) same in
    absurd (apart (ap (λ z. MoreCash z ccy) (same_bytes bic b both.0) ∙ ap (MoreCash b) (same_ccy-true ccy c both.1))))
    (λ other. other)

-- a position that was moved to, by whether it is the one
moved_here : (position : Positions) (account isin a i : List ℕ) (quantity : ℕ) → (bytes_eq account a && bytes_eq isin i) ≡ true
    → (moved_to position account isin quantity a i ≡ quantity) × (position account isin ≡ position a i)
moved_here position account isin a i quantity same =
    let both = and_parts (bytes_eq account a) (bytes_eq isin i) same in
    (rw same refl, ap (λ z. position z isin) (same_bytes account a both.0) ∙ ap (position a) (same_bytes isin i both.1))

moved_elsewhere : (position : Positions) (account isin a i : List ℕ) (quantity : ℕ) → (bytes_eq account a && bytes_eq isin i) ≡ false → moved_to position account isin quantity a i ≡ position a i
moved_elsewhere position account isin a i quantity other = rw other refl

moved_less : (position : Positions) (account isin a i : List ℕ) (quantity : ℕ) → quantity ≤ position account isin → moved_to position account isin quantity a i ≤ position a i
moved_less position account isin a i quantity less = by_bool (bytes_eq account a && bytes_eq isin i)
    (λ same. let here = moved_here position account isin a i quantity same in let moved = here.0 in let at = here.1 in omega arith)
    (λ other. let elsewhere = moved_elsewhere position account isin a i quantity other in omega arith)

moved_more : (position : Positions) (account isin a i : List ℕ) (quantity : ℕ) → position account isin ≤ quantity → position a i ≤ moved_to position account isin quantity a i
moved_more position account isin a i quantity more = by_bool (bytes_eq account a && bytes_eq isin i)
    (λ same. let here = moved_here position account isin a i quantity same in let moved = here.0 in let at = here.1 in omega arith)
    (λ other. let elsewhere = moved_elsewhere position account isin a i quantity other in omega arith)

cash_elsewhere : (cash : CashBalances) (bic b : List ℕ) (ccy c : Ccy) (amount : ℕ) → (bytes_eq bic b && same_ccy ccy c) ≡ false → cash_at cash bic ccy amount b c ≡ cash b c
cash_elsewhere cash bic b ccy c amount other = rw other refl

cash_here : (cash : CashBalances) (bic b : List ℕ) (ccy c : Ccy) (amount : ℕ) → (bytes_eq bic b && same_ccy ccy c) ≡ true
    → (cash_at cash bic ccy amount b c ≡ amount) × (cash bic ccy ≡ cash b c)
cash_here cash bic b ccy c amount same =
    let both = and_parts (bytes_eq bic b) (same_ccy ccy c) same in
    (rw same refl, ap (λ z. cash z ccy) (same_bytes bic b both.0) ∙ ap (cash b) (same_ccy-true ccy c both.1))

cash_less : (cash : CashBalances) (bic b : List ℕ) (ccy c : Ccy) (amount : ℕ) → amount ≤ cash bic ccy → cash_at cash bic ccy amount b c ≤ cash b c
cash_less cash bic b ccy c amount less = by_bool (bytes_eq bic b && same_ccy ccy c)
    (λ same. let here = cash_here cash bic b ccy c amount same in let moved = here.0 in let at = here.1 in omega arith)
    (λ other. let elsewhere = cash_elsewhere cash bic b ccy c amount other in omega arith)

-- after an entry nothing else has come than what it brings about
entry_brings : (entry : Entry) (reply : Reply) (content : Content) (want : Want) → (woken_by entry ≡ Some want → ⊥) → HasNotCome content (appended entry reply content) want
entry_brings (Issue m) reply content (MoreHeld a i) apart =
    let same = moved_elsewhere content.position m.account m.isin a i (content.position m.account m.isin + m.quantity) (other_held MoreHeld m.account m.isin a i (λ e. apart (ap Some e))) in
    omega arith
entry_brings (Issue m) reply content (LessHeld a i) apart = moved_more content.position m.account m.isin a i (content.position m.account m.isin + m.quantity) (omega arith)
entry_brings (Issue m) reply content (MoreCash b c) apart = omega arith
entry_brings (Redeem m) reply content (MoreHeld a i) apart = moved_less content.position m.account m.isin a i (content.position m.account m.isin - m.quantity) (omega arith)
entry_brings (Redeem m) reply content (LessHeld a i) apart =
    let same = moved_elsewhere content.position m.account m.isin a i (content.position m.account m.isin - m.quantity) (other_held LessHeld m.account m.isin a i (λ e. apart (ap Some e))) in
    omega arith
entry_brings (Redeem m) reply content (MoreCash b c) apart = omega arith
entry_brings (PayIn p) reply content (MoreHeld a i) apart = omega arith
entry_brings (PayIn p) reply content (LessHeld a i) apart = omega arith
entry_brings (PayIn p) reply content (MoreCash b c) apart =
    let same = cash_elsewhere content.cash p.bic b p.ccy c (content.cash p.bic p.ccy + p.amount) (other_cash p.bic b p.ccy c (λ e. apart (ap Some e))) in
    omega arith
entry_brings (PayOut p) reply content (MoreHeld a i) apart = omega arith
entry_brings (PayOut p) reply content (LessHeld a i) apart = omega arith
entry_brings (PayOut p) reply content (MoreCash b c) apart = cash_less content.cash p.bic b p.ccy c (content.cash p.bic p.ccy - p.amount) (omega arith)
entry_brings (Participant reference bic) reply content want apart = same_not_come content (appended (Participant reference bic) reply content) refl refl want
entry_brings (Account reference bic account) reply content want apart = same_not_come content (appended (Account reference bic account) reply content) refl refl want
entry_brings (Security reference isin kind) reply content want apart = same_not_come content (appended (Security reference isin kind) reply content) refl refl want
entry_brings (Instruct sender instruction) reply content want apart = same_not_come content (appended (Instruct sender instruction) reply content) refl refl want
entry_brings (Cancel sender order) reply content want apart = same_not_come content (appended (Cancel sender order) reply content) refl refl want
entry_brings (Run reference day rule) reply content want apart = same_not_come content (appended (Run reference day rule) reply content) refl refl want

delivered_no_more : (position : Positions) (from to isin a i : List ℕ) (quantity : ℕ) → (bytes_eq to a && bytes_eq isin i) ≡ false → delivered position from to isin quantity a i ≤ position a i
delivered_no_more position from to isin a i quantity other =
    let taken : Positions = moved_to position from isin (position from isin - quantity) in
    let same = moved_elsewhere taken to isin a i (taken to isin + quantity) other in
    let less = moved_less position from isin a i (position from isin - quantity) (omega arith) in
    subst (λ z. z ≤ position a i) (sym same) less

delivered_no_less : (position : Positions) (from to isin a i : List ℕ) (quantity : ℕ) → (bytes_eq from a && bytes_eq isin i) ≡ false → position a i ≤ delivered position from to isin quantity a i
delivered_no_less position from to isin a i quantity other =
    let taken : Positions = moved_to position from isin (position from isin - quantity) in
    let more = moved_more taken to isin a i (taken to isin + quantity) (omega arith) in
    let same = moved_elsewhere position from isin a i (position from isin - quantity) other in
    subst (λ z. z ≤ moved_to taken to isin (taken to isin + quantity) a i) same more

paid_no_more : (cash : CashBalances) (from to b : List ℕ) (c : Ccy) (asked : Option Cash) → (cash_want to asked ≡ Some (MoreCash b c) → ⊥) → paid_over cash from to asked b c ≤ cash b c
paid_no_more cash from to b c None apart = omega arith
paid_no_more cash from to b c (Some asked) apart =
    let taken : CashBalances = cash_at cash from asked.ccy (cash from asked.ccy - asked.amount) in
    let same = cash_elsewhere taken to b asked.ccy c (taken to asked.ccy + asked.amount) (other_cash to b asked.ccy c (λ e. apart (ap Some e))) in
    let less = cash_less cash from b asked.ccy c (cash from asked.ccy - asked.amount) (omega arith) in
    subst (λ z. z ≤ cash b c) (sym same) less

settlement_brings : (old new : Content) (t : Transfer) → new.position ≡ delivered old.position t.given t.taken t.isin t.quantity → new.cash ≡ paid_over old.cash t.receiver t.deliverer t.cash
    → (want : Want) → (more_taken t ≡ want → ⊥) → (less_given t ≡ want → ⊥) → (cash_want t.deliverer t.cash ≡ Some want → ⊥) → HasNotCome old new want
settlement_brings old new t position cash (MoreHeld a i) more less paid =
    subst (λ z. z ≤ old.position a i) (ap (λ f. f a i) (sym position)) (delivered_no_more old.position t.given t.taken t.isin a i t.quantity (other_held MoreHeld t.taken t.isin a i more))
settlement_brings old new t position cash (LessHeld a i) more less paid =
    subst (λ z. old.position a i ≤ z) (ap (λ f. f a i) (sym position)) (delivered_no_less old.position t.given t.taken t.isin a i t.quantity (other_held LessHeld t.given t.isin a i less))
settlement_brings old new t position cash (MoreCash b c) more less paid =
    subst (λ z. z ≤ old.cash b c) (ap (λ f. f b c) (sym cash)) (paid_no_more old.cash t.receiver t.deliverer b c t.cash paid)

-- what is brought is nothing that is waited for and not brought
not_this : (s : Shortages) (this want : Want) (amount : ℕ) (at : Place) → IsBrought s this → is_waiting s.waits want amount at ≡ true → contains want_cmp s.brought want ≡ false → this ≡ want → ⊥
not_this s this want amount at brought is apart same =
    let there = brought.each amount at (subst (λ z. is_waiting s.waits z amount at ≡ true) (sym same) is) in
    let bad = sym (subst (λ z. contains want_cmp s.brought z ≡ true) same there) ∙ apart in
    cc

not_any : (s : Shortages) (any : Option Want) (want : Want) (amount : ℕ) (at : Place) → IsBroughtIfAny s any → is_waiting s.waits want amount at ≡ true → contains want_cmp s.brought want ≡ false → any ≡ Some want → ⊥
not_any s None want amount at brought is apart same = cc
not_any s (Some this) want amount at brought is apart same = not_this s this want amount at brought is apart (let one : this ≡ want = cc in one)

-- Two instructions that stand otherwise.

-- no other pair has either of the two
abbrev pub AreFree : Content → ℕ → ℕ → Type 0
AreFree old m n = (k : ℕ) (short : StandsShort old k) → k ≢ n → k ≢ m → (short.mate ≢ n) × (short.mate ≢ m)

pub mated_free : (old : Content) (m n : ℕ) → (old.standing n).mate ≡ Some m → (old.standing m).mate ≡ Some n → AreFree old m n
mated_free old m n n_has m_has k short not_n not_m = (
  λ is. let mates : Some k ≡ Some m = sym short.back ∙ ap (λ z. (old.standing z).mate) is ∙ n_has in let same : k ≡ m = cc in not_m same,
  λ is. let mates : Some k ≡ Some n = sym short.back ∙ ap (λ z. (old.standing z).mate) is ∙ m_has in let same : k ≡ n = cc in not_n same,
)

unmatched_apart : (old : Content) (m k : ℕ) (short : StandsShort old k) → (old.standing m).state ≡ Unmatched → short.mate ≢ m
unmatched_apart old m k short unmatched is = let bad : Matched (reason_of_lack (Some short.lack)) ≡ Unmatched = sym short.earlier_waits ∙ ap (λ z. (old.standing z).state) is ∙ unmatched in cc

pub unmatched_free : (old : Content) (m n : ℕ) → (old.standing m).state ≡ Unmatched → (old.standing n).state ≡ Unmatched → AreFree old m n
unmatched_free old m n m_is n_is k short not_n not_m = (unmatched_apart old n k short n_is, unmatched_apart old m k short m_is)

-- what is unmatched is no matched pair's
pub unmatched_none : (content : Content) (k : ℕ) (p : Place) → (content.standing k).state ≡ Unmatched → p.number ≡ k → IsMatchedPair content p → ⊥
unmatched_none content k p unmatched here pair = let bad : Matched pair.reason ≡ Unmatched = sym pair.matched ∙ ap (λ z. (content.standing z).state) here ∙ unmatched in cc

-- the earlier instruction of a pair is no pair's later one
pub earlier_none : (content : Content) (m n : ℕ) (p : Place) → m < n → (content.standing m).mate ≡ Some n → p.number ≡ m → IsMatchedPair content p → ⊥
earlier_none content m n p two has_mate here pair =
    let mates : Some pair.mate ≡ Some n = sym pair.has_mate ∙ ap (λ z. (content.standing z).mate) here ∙ has_mate in
    let mate : pair.mate ≡ n = cc in
    let earlier = pair.is_earlier in
    omega arith

-- a matched pair of a number stands at one place
pub one_place : (content : Content) (n : ℕ) (later : Instructed) (at : Place) → instruction_at (history_of content) n ≡ Some later → at.number ≡ n → is_eq (place_cmp (place_at (number_of later.instruction.day) n) at) ≡ false → IsMatchedPair content at → ⊥
one_place content n later at is here apart pair =
    let laters : Some pair.later ≡ Some later = sym pair.is_later ∙ ap (instruction_at (history_of content)) here ∙ is in
    let same : pair.later ≡ later = cc in
    let day : number_of later.instruction.day ≡ at.day = ap (λ i. number_of i.instruction.day) (sym same) ∙ pair.day in
    let one : (place_at (number_of later.instruction.day) n) ≡ at = λ k. record { day = day k; number = sym here k } in
    let bad = sym (subst (λ z. is_eq (place_cmp z at) ≡ true) (sym one) (equal_place at)) ∙ apart in
    cc

module _ (s s' : Shortages) (old new : Content) (m n : ℕ) (state : State) (later : Instructed) (two : m < n) (apart : state ≢ Unmatched) (same : new.register ≡ old.register)
    (stand : new.standing ≡ standing_both old.standing m n state) (is_later : instruction_at (history_of old) n ≡ Some later) (free : AreFree old m n)
    (none_earlier : (p : Place) → p.number ≡ m → IsMatchedPair old p → ⊥) (keeps : KeepsOthers (place_at (number_of later.instruction.day) n) s s')
    (not_come : (want : Want) (amount : ℕ) (at : Place) → is_waiting s'.waits want amount at ≡ true → contains want_cmp s'.brought want ≡ false → HasNotCome old new want) (knows : KnowsShort s old) where
  instruction_same : (k : ℕ) → instruction_at (history_of new) k ≡ instruction_at (history_of old) k
  instruction_same k = ap (λ h. instruction_at h k) (history_same old new m n state two apart same stand)

  others_on : (at : Place) → is_eq (place_cmp (place_at (number_of later.instruction.day) n) at) ≡ false → KnowsAt s' new at
  others_on at other =
      let instructions : (k : ℕ) (i : Instructed) → instruction_at (history_of old) k ≡ Some i → instruction_at (history_of new) k ≡ Some i = λ k i is. instruction_same k ∙ is in
      let stands = λ (k : ℕ) (not_n : k ≢ n) (not_m : k ≢ m). alike_at (new.standing k) (old.standing k) (at_other old new m n state two apart same stand k not_n not_m) in
      elim (cases_eq at.number n) [
        | inl here ↦
            empty s s' old new keeps.known keeps.brought instructions not_come at (keeps.others at other) (knows.each at) (one_place old n later at is_later here other)
            (one_place new n later at (instruction_same n ∙ is_later) here other)
        | inr not_n ↦ elim (cases_eq at.number m) [
          | inl here ↦
              empty s s' old new keeps.known keeps.brought instructions not_come at (keeps.others at other) (knows.each at) (none_earlier at here)
              (earlier_none new m n at two (ap (λ z. z.mate) (at_earlier old new m n state two apart same stand)) here)
          | inr not_m ↦
              carried s s' old new keeps.known keeps.brought instructions not_come at (keeps.others at other) (knows.each at) (instruction_same at.number) (stands at.number not_n not_m)
              (λ short. let mates = free at.number short not_n not_m in stands short.mate mates.0 mates.1)
        ]
      ]

  -- what is known of their own place was seen
  pub two_stand : KnowsAt s' new (place_at (number_of later.instruction.day) n) → KnowsShort s' new
  two_stand here = record { each = λ at. by_place (place_at (number_of later.instruction.day) n) at (λ same. subst (KnowsAt s' new) same here) (others_on at) }

  -- the pair is matched no more
  pub none_there : ((reason : Reason) → state ≢ Matched reason) → IsMatchedPair new (place_at (number_of later.instruction.day) n) → ⊥
  none_there ended pair = ended pair.reason (sym (ap (λ z. z.state) (at_later old new m n state two apart same stand)) ∙ pair.matched)

-- One pair moves one thing.
pub one_transfer : (content : Content) (n mate : ℕ) (t : Transfer) → IsTransferAt content n mate t → (short : StandsShort content n) → t ≡ transfer_of short.earlier short.later
one_transfer content n mate t moves short =
    let mates : Some mate ≡ Some short.mate = sym moves.has_mate ∙ short.pair.has_mate in
    let one : mate ≡ short.mate = cc in
    moves.moves short.earlier short.later (ap (instruction_at (history_of content)) one ∙ short.pair.is_earlier) short.pair.is_later

-- a pair that was taken out waits for nothing
let_go : (s s' : Shortages) (content : Content) (n mate : ℕ) (t : Transfer) (day : ℕ) → IsTransferAt content n mate t → LetsGo t (place_at day n) s s' → KnowsAt s content (place_at day n)
    → (want : Want) (amount : ℕ) → is_waiting s'.waits want amount (place_at day n) ≡ true → ⊥
let_go s s' content n mate t day moves gone knows want amount is =
    let was = knows.waits want amount (gone.fewer want amount is) in
    let wanted : IsWantOf t was.short.lack want amount = subst (λ z. IsWantOf z was.short.lack want amount) (sym (one_transfer content n mate t moves was.short)) was.wanted in
    let none = gone.none was.out was.short.lack want amount wanted in
    let bad = sym is ∙ none in
    cc

-- A pair that ends, and was taken out.
module _ (s s' : Shortages) (old new : Content) (m n : ℕ) (state : State) (later : Instructed) (t : Transfer) (two : m < n) (apart : state ≢ Unmatched) (ended : (reason : Reason) → state ≢ Matched reason)
    (same : new.register ≡ old.register) (stand : new.standing ≡ standing_both old.standing m n state) (is_later : instruction_at (history_of old) n ≡ Some later)
    (n_has : (old.standing n).mate ≡ Some m) (m_has : (old.standing m).mate ≡ Some n) (moves : IsTransferAt old n m t) (out : TakesOut t (place_at (number_of later.instruction.day) n) s s')
    (not_come : (want : Want) (amount : ℕ) (at : Place) → is_waiting s'.waits want amount at ≡ true → contains want_cmp s'.brought want ≡ false → HasNotCome old new want) (knows : KnowsShort s old) where
  pub after_end : KnowsShort s' new
  after_end =
      let day = number_of later.instruction.day in
      let none = let_go s s' old n m t day moves out.gone (knows.each (place_at day n)) in
      two_stand s s' old new m n state later two apart same stand is_later (mated_free old m n n_has m_has) (λ p here. earlier_none old m n p two m_has here) out.keeps not_come knows
      (record {
        noted = λ known pair is. absurd (none_there s s' old new m n state later two apart same stand is_later (mated_free old m n n_has m_has) (λ p here. earlier_none old m n p two m_has here) out.keeps not_come knows ended pair);
        tried = λ is. let bad = sym is ∙ out.out in absurd (cc);
        waits = λ want amount is. absurd (none want amount is);
        uncovered = λ want amount is unbrought. absurd (none want amount is);
      })

-- A pair that is made is to be tried.
pub after_made : (s s' : Shortages) (old new : Content) (m n : ℕ) (reason : Reason) (later : Instructed) → m < n → new ≡ record old { standing = standing_both old.standing m n (Matched reason) } → instruction_at (history_of old) n ≡ Some later
    → (old.standing m).state ≡ Unmatched → (old.standing n).state ≡ Unmatched → PutsIn (place_at (number_of later.instruction.day) n) s s' → KnowsShort s old → KnowsShort s' new
after_made s s' old new m n reason later two is is_later m_is n_is puts knows =
    let state : State = Matched reason in
    let register : new.register ≡ old.register = ap (λ c. c.register) is in
    let stand : new.standing ≡ standing_both old.standing m n state = ap (λ c. c.standing) is in
    let day = number_of later.instruction.day in
    let at_n = at_later old new m n state two (λ e. cc) register stand in
    let none : (want : Want) (amount : ℕ) → is_waiting s'.waits want amount (place_at day n) ≡ true → ⊥ = λ want amount there.
    let was = (knows.each (place_at day n)).waits want amount (sym (puts.waits want amount) ∙ there) in
    unmatched_none old n (place_at day n) n_is refl (matched_of_stand old (place_at day n) was.short was.day)
    in
    two_stand s s' old new m n state later two (λ e. cc) register stand is_later (unmatched_free old m n m_is n_is) (λ p here. unmatched_none old m p m_is here) puts.keeps
    (λ want amount at waiting unbrought. same_not_come old new (ap (λ c. c.position) is) (ap (λ c. c.cash) is) want) knows
    (record {
      noted = λ known pair out. let bad = sym puts.there ∙ out in absurd (cc);
      tried = λ there. record {
        later = later;
        mate = m;
        reason = reason;
        is_later = same_known old new register n ∙ is_later;
        has_mate = ap (λ z. z.mate) at_n;
        is_earlier = two;
        matched = ap (λ z. z.state) at_n;
        day = refl;
      };
      waits = λ want amount there. absurd (none want amount there);
      uncovered = λ want amount there unbrought. absurd (none want amount there);
    })

-- A pair that was tried.

-- the pair of two numbers, each the other's mate, was tried
pub record IsTried (old : Content) (mate n : ℕ) (earlier later : Instructed) (outcome : Outcome) (new : Content) : Type 0 where
  pub pair : IsPairAt old n mate earlier later
  pub two : mate < n
  pub back : (old.standing mate).mate ≡ Some n
  pub ends : TriesSides old n mate earlier later outcome new

-- what trying a pair that lacks does
pub lacked : (old : Content) (n m : ℕ) (earlier later : Instructed) (lack : Lack) (new : Content) → TriesSides old n m earlier later (Lacks lack) new
    → LacksNow old earlier later lack × (new ≡ record old { standing = standing_both old.standing m n (Matched (reason_of_lack (Some lack))) })
lacked old n m earlier later Securities new ends = (ends.0, ends.1)
lacked old n m earlier later Money new ends = ((ends.0, ends.1), ends.2)

lacks_same : (old new : Content) (earlier later : Instructed) (lack : Lack) → new.position ≡ old.position → new.cash ≡ old.cash → LacksNow old earlier later lack → LacksNow new earlier later lack
lacks_same old new earlier later Securities position cash lacks = subst (λ f. f (delivering_side earlier later).instruction.account later.instruction.isin < later.instruction.quantity) (sym position) lacks
lacks_same old new earlier later Money position cash lacks = (
  subst (λ f. later.instruction.quantity ≤ f (delivering_side earlier later).instruction.account later.instruction.isin) (sym position) lacks.0,
  subst (λ f. LacksCash f (receiving_side earlier later).sender later.instruction.cash) (sym cash) lacks.1,
)

module _ (s s' : Shortages) (old new : Content) (m n : ℕ) (earlier later : Instructed) (t : Transfer) (moves : IsTransferAt old n m t) (knows : KnowsShort s old) where
  own : (outcome : Outcome) → IsTried old m n earlier later outcome new → t ≡ transfer_of earlier later
  own outcome tried = moves.moves earlier later tried.pair.is_earlier tried.pair.is_later

  after_settled : IsTried old m n earlier later outcomes.Settled new → IsNotedSettled t (place_at (number_of later.instruction.day) n) s s' → KnowsShort s' new
  after_settled tried noted =
      let is = tried.ends.2 in
      let same = own outcomes.Settled tried in
      let moved : new.position ≡ delivered old.position t.given t.taken t.isin t.quantity = ap (λ c. c.position) is ∙ ap (λ z. delivered old.position z.given z.taken z.isin z.quantity) (sym same) in
      let paid : new.cash ≡ paid_over old.cash t.receiver t.deliverer t.cash = ap (λ c. c.cash) is ∙ ap (λ z. paid_over old.cash z.receiver z.deliverer z.cash) (sym same) in
      after_end s s' old new m n Settled later t tried.two (λ e. cc) (λ reason e. cc) (ap (λ c. c.register) is) (ap (λ c. c.standing) is) tried.pair.is_later tried.pair.has_mate tried.back moves noted.taken
      (λ want amount at waiting unbrought.
      settlement_brings old new t moved paid want (not_this s' (more_taken t) want amount at noted.more_taken waiting unbrought) (not_this s' (less_given t) want amount at noted.less_given waiting unbrought)
      (not_any s' (cash_want t.deliverer t.cash) want amount at noted.more_paid waiting unbrought))
      knows

  after_lack : (lack : Lack) → IsTried old m n earlier later (Lacks lack) new → IsNotedLack t lack (place_at (number_of later.instruction.day) n) s s' → KnowsShort s' new
  after_lack lack tried noted =
      let parts = lacked old n m earlier later lack new tried.ends in
      let is = parts.1 in
      let state : State = Matched (reason_of_lack (Some lack)) in
      let register : new.register ≡ old.register = ap (λ c. c.register) is in
      let stand : new.standing ≡ standing_both old.standing m n state = ap (λ c. c.standing) is in
      let day = number_of later.instruction.day in
      let same = own (Lacks lack) tried in
      let at_n = at_later old new m n state tried.two (λ e. cc) register stand in
      let at_m = at_earlier old new m n state tried.two (λ e. cc) register stand in
      let short : StandsShort new n = record {
        mate = m;
        earlier = earlier;
        later = later;
        lack = lack;
        pair = record { is_later = same_known old new register n ∙ tried.pair.is_later; has_mate = ap (λ z. z.mate) at_n; is_earlier = same_known old new register m ∙ tried.pair.is_earlier };
        two = tried.two;
        back = ap (λ z. z.mate) at_m;
        earlier_waits = ap (λ z. z.state) at_m;
        later_waits = ap (λ z. z.state) at_n;
        pays = pays_of old earlier later lack parts.0;
      } in
      let here = knows.each (place_at day n) in
      -- what it waits for, if it is not to be tried
      let waits_for : (want : Want) (amount : ℕ) → is_waiting s'.waits want amount (place_at day n) ≡ true → (is_to_try s'.to_try (place_at day n) ≡ false) × IsWantOf (transfer_of earlier later) lack want amount = λ want amount waiting.
      by_bool (is_to_try s'.to_try (place_at day n)) (λ there. absurd (let_go s s' old n m t day moves (noted.stays there) here want amount waiting)) (λ out. (
        out,
        by_bool (is_waiting s.waits want amount (place_at day n)) (λ before. let was = here.waits want amount before in let bad = sym was.out ∙ noted.was out in absurd (cc))
            (λ before. subst (λ z. IsWantOf z lack want amount) same (noted.only out want amount waiting before)),
      ))
      in
      two_stand s s' old new m n state later tried.two (λ e. cc) register stand tried.pair.is_later (mated_free old m n tried.pair.has_mate tried.back) (λ p at. earlier_none old m n p tried.two tried.back at) noted.keeps
      (λ want amount at waiting unbrought. same_not_come old new (ap (λ c. c.position) is) (ap (λ c. c.cash) is) want) knows
      (record {
        noted = λ known pair out. record {
          short = short;
          waiting = subst (λ z. AreWaiting s'.waits z lack (place_at day n)) same (noted.waiting out);
        };
        tried = λ there. matched_of_stand new (place_at day n) short refl;
        waits = λ want amount waiting. let w = waits_for want amount waiting in record { short = short; day = refl; wanted = w.1; out = w.0 };
        uncovered = λ want amount waiting unbrought.
            let w = waits_for want amount waiting in
            uncovered_of new earlier later lack (lacks_same old new earlier later lack (ap (λ c. c.position) is) (ap (λ c. c.cash) is) parts.0) want amount w.1;
      })

  by_outcome : (outcome : Outcome) → IsTried old m n earlier later outcome new → IsNotedTried outcome t (place_at (number_of later.instruction.day) n) s s' → KnowsShort s' new
  by_outcome outcomes.Settled tried noted = after_settled tried noted
  by_outcome (Lacks lack) tried noted = after_lack lack tried noted

  pub after_tried : (outcome : Outcome) → IsTried old m n earlier later outcome new → IsNotedTried outcome t (place_at (number_of t.day) n) s s' → KnowsShort s' new
  after_tried outcome tried noted = by_outcome outcome tried (subst (λ z. IsNotedTried outcome t (place_at (number_of z) n) s s') (ap (λ z. z.day) (own outcome tried)) noted)

-- One entry more.

agrees_brought : (s s' : Shortages) → Brings s s' → (at : Place) → Agrees s s' at
agrees_brought s s' brings at = record { to_try = ap (λ z. is_to_try z at) brings.to_try; waits = λ want amount. ap (λ z. is_waiting z want amount at) brings.waits }

module _ (entry : Entry) (reply : Reply) (content : Content) where
  abbrev pub next : ℕ
  next = length content.register + 1

  pub below_next : (k : ℕ) (i : Instructed) → instruction_at (history_of content) k ≡ Some i → k ≢ next
  below_next k i at same =
      let known = instruction_at-known (history_of content) k i at in
      let most = known.1 in
      let size = size_of content in
      omega arith

  instruction_still : (k : ℕ) → k ≢ next → instruction_at (history_of (appended entry reply content)) k ≡ instruction_at (history_of content) k
  instruction_still k apart = ap (λ h. instruction_at h k) (history_more entry reply content) ∙ instruction_more (history_of content) entry next k (n_is entry reply content next refl) apart

  stands_still : (k : ℕ) → k ≢ next → AreAlike ((appended entry reply content).standing k) (content.standing k)
  stands_still k apart =
      let alike = noted_alike entry (history_of content) content.standing k in
      let same = stands_otherwise entry reply content next refl k apart in
      record { mate = ap (λ z. z.mate) (sym same) ∙ alike.mate; state = ap (λ z. z.state) (sym same) ∙ alike.state }

  none_at_next : (p : Place) → p.number ≡ next → IsMatchedPair (appended entry reply content) p → ⊥
  none_at_next p here pair =
      let stood : (appended entry reply content).standing p.number ≡ first_standing entry = ap (appended entry reply content).standing here ∙ standing_here (noted entry reply content next refl) next (first_standing entry) in
      let mates : None ≡ Some pair.mate = sym (no_mate entry) ∙ ap (λ z. z.mate) (sym stood) ∙ pair.has_mate in
      cc

  -- a matched pair is one still
  pub matched_still : (p : Place) → IsMatchedPair content p → IsMatchedPair (appended entry reply content) p
  matched_still p pair = let apart = below_next p.number pair.later pair.is_later in matched_after content (appended entry reply content) p pair (instruction_still p.number apart) (stands_still p.number apart)

pub after_appended : (s s' : Shortages) (entry : Entry) (reply : Reply) (content : Content) → Brings s s' → IsBroughtIfAny s' (woken_by entry) → KnowsShort s content → KnowsShort s' (appended entry reply content)
after_appended s s' entry reply content brings brought knows = record {
  each = λ at.
      let new = appended entry reply content in
      let instructions : (k : ℕ) (i : Instructed) → instruction_at (history_of content) k ≡ Some i → instruction_at (history_of new) k ≡ Some i = λ k i is. instruction_still entry reply content k (below_next entry reply content k i is) ∙ is in
      let not_come : (want : Want) (amount : ℕ) (q : Place) → is_waiting s'.waits want amount q ≡ true → contains want_cmp s'.brought want ≡ false → HasNotCome content new want = λ want amount q is unbrought.
      entry_brings entry reply content want (not_any s' (woken_by entry) want amount q brought is unbrought)
      in
      let known : s'.is_known ≡ true → s.is_known ≡ true = λ is. sym brings.known ∙ is in
      elim (cases_eq at.number (next entry reply content)) [
        | inl here ↦ empty s s' content new known brings.more instructions not_come at (agrees_brought s s' brings at) (knows.each at) (λ pair. below_next entry reply content at.number pair.later pair.is_later here) (none_at_next entry reply content at here)
        | inr apart ↦
            carried s s' content new known brings.more instructions not_come at (agrees_brought s s' brings at) (knows.each at) (instruction_still entry reply content at.number apart) (stands_still entry reply content at.number apart)
            (λ short. stands_still entry reply content short.mate (below_next entry reply content short.mate short.earlier short.pair.is_earlier))
      ];
}

-- One instruction that stands cancelled.

module _ (n : ℕ) (content : Content) (unmatched : (content.standing n).state ≡ Unmatched) where
  stands_cancelled : (k : ℕ) → k ≢ n → AreAlike ((cancelled n content).standing k) (content.standing k)
  stands_cancelled k apart = let gone : Standing = record (content.standing n) { state = Cancelled } in alike_at ((cancelled n content).standing k) (content.standing k) (standing_other content.standing n k gone apart)

  none_cancelled : (p : Place) → p.number ≡ n → IsMatchedPair (cancelled n content) p → ⊥
  none_cancelled p here pair =
      let gone : Standing = record (content.standing n) { state = Cancelled } in
      let state : ((cancelled n content).standing p.number).state ≡ Cancelled = ap (λ z. z.state) (ap (cancelled n content).standing here ∙ standing_here content.standing n gone) in
      let bad : Cancelled ≡ Matched pair.reason = sym state ∙ pair.matched in
      cc

  -- a matched pair is one still
  pub matched_beside : (p : Place) → IsMatchedPair content p → IsMatchedPair (cancelled n content) p
  matched_beside p pair = matched_after content (cancelled n content) p pair refl (stands_cancelled p.number (λ here. unmatched_none content n p unmatched here pair))

  pub after_cancelled : (s : Shortages) → KnowsShort s content → KnowsShort s (cancelled n content)
  after_cancelled s knows = record {
    each = λ at.
        let new = cancelled n content in
        let not_come : (want : Want) (amount : ℕ) (q : Place) → is_waiting s.waits want amount q ≡ true → contains want_cmp s.brought want ≡ false → HasNotCome content new want = λ want amount q is unbrought. same_not_come content new refl refl want in
        elim (cases_eq at.number n) [
          | inl here ↦ empty s s content new (λ known. known) (λ want there. there) (λ k i is. is) not_come at (agrees_here s at) (knows.each at) (unmatched_none content n at unmatched here) (none_cancelled at here)
          | inr apart ↦
              carried s s content new (λ known. known) (λ want there. there) (λ k i is. is) not_come at (agrees_here s at) (knows.each at) refl (stands_cancelled at.number apart)
              (λ short. stands_cancelled short.mate (unmatched_apart content n at.number short unmatched))
        ];
  }
