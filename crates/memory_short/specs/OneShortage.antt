-- That a pair stands matched, or short, is a fact: there is one mate, one pair of instructions, and one reason that they tell.
use Rattle.std.proofs.Common.{◌≡◌, ℕ, ◌<◌, List, Option, Some, None, true, refl, ap, sym, ◌∙◌}
use Rattle.std.specs.Prelude.{is_some}
use Rattle.std.specs.BTreeSet.{BTreeSet}
use Rattle.std.proofs.Props.{props}
use mathlib.Core.HLevel.{Σ_prop_path}
use Rattle.desk_codes.specs.Number.{number_of}
use Rattle.desk_msg.specs.declared.instruction.Cash.{Cash}
use Rattle.desk_msg.specs.declared.writing.status.Reason.{Reason}
use Rattle.desk_rules.specs.declared.history.entry.Entry.{Entry}
use Rattle.desk_rules.specs.declared.history.entry.Instructed.{Instructed}
use Rattle.desk_rules.specs.declared.history.pair.Lack.{Lack}
use Rattle.desk_rules.specs.declared.history.pair.Lack.TheVariants.{Securities, Money}
use Rattle.desk_rules.specs.declared.history.pair.Place.{Place}
use Rattle.desk_rules.specs.declared.history.standing.State.TheVariants.{Matched}
use Rattle.desk_rules.specs.Content.{Content, history_of}
use Rattle.desk_rules.specs.History.{instruction_at}
use Rattle.desk_rules.specs.Standing.{reason_of_lack}
use Rattle.desk_register.specs.Changes.{IsPairAt}
use Rattle.desk_register.specs.Looked.{IsMatchedPair}
use Rattle.desk_register.specs.View.{View}
use Rattle.memory_rows.specs.Transfers.{Transfer}
use Rattle.desk_codes.specs.declared.currency.Ccy.{Ccy}
use Rattle.memory_short.specs.DuePlaces.{HoldsMatched}
use Rattle.memory_short.specs.Shortages.{HoldsShort, IsUncovered, StandsShort}
use Rattle.memory_short.specs.Wants.{IsAsked, IsWantOf}
use Rattle.memory_short.specs.declared.shortages.Shortages.{Shortages}
use Rattle.memory_short.specs.declared.wants.Want.{Want}
use Rattle.memory_short.specs.declared.wants.Want.TheVariants.{MoreHeld, LessHeld, MoreCash}

pub one_reason : (a b : Lack) → reason_of_lack (Some a) ≡ reason_of_lack (Some b) → a ≡ b
one_reason Securities Securities e = refl
one_reason Securities Money e = absurd (cc)
one_reason Money Securities e = absurd (cc)
one_reason Money Money e = refl

-- a matched pair's later instruction, its mate and its reason, and what is said of them
abbrev MatchedParts : Type 0
MatchedParts = Instructed × ℕ × Reason

pub record SaidMatched (content : Content) (p : Place) (x : MatchedParts) : Type 0 where
  pub is_later : instruction_at (history_of content) p.number ≡ Some x.0
  pub has_mate : (content.standing p.number).mate ≡ Some x.1
  pub is_earlier : x.1 < p.number
  pub matched : (content.standing p.number).state ≡ Matched x.2
  pub day : number_of x.0.instruction.day ≡ p.day

said_matched_prop : (content : Content) (p : Place) (x : MatchedParts) → IsProp (SaidMatched content p x)
said_matched_prop content p x = hlevel props

abbrev matched_parts : (content : Content) (p : Place) → IsMatchedPair content p → MatchedParts
matched_parts content p s = (s.later, s.mate, s.reason)

abbrev matched_said : (content : Content) (p : Place) (s : IsMatchedPair content p) → SaidMatched content p (matched_parts content p s)
matched_said content p s = record { is_later = s.is_later; has_mate = s.has_mate; is_earlier = s.is_earlier; matched = s.matched; day = s.day }

pub matched_prop : (content : Content) (p : Place) → IsProp (IsMatchedPair content p)
matched_prop content p a b =
    let whole : ((x : MatchedParts) × SaidMatched content p x) → IsMatchedPair content p = λ s. record {
      later = s.0.0;
      mate = s.0.1;
      reason = s.0.2;
      is_later = s.1.is_later;
      has_mate = s.1.has_mate;
      is_earlier = s.1.is_earlier;
      matched = s.1.matched;
      day = s.1.day;
    } in
    let laters : Some a.later ≡ Some b.later = sym a.is_later ∙ b.is_later in
    let later : a.later ≡ b.later = cc in
    let mates : Some a.mate ≡ Some b.mate = sym a.has_mate ∙ b.has_mate in
    let mate : a.mate ≡ b.mate = cc in
    let states : Matched a.reason ≡ Matched b.reason = sym a.matched ∙ b.matched in
    let reason : a.reason ≡ b.reason = cc in
    let base : matched_parts content p a ≡ matched_parts content p b = cc in
    let both : ◌≡◌ {A = (x : MatchedParts) × SaidMatched content p x} (matched_parts content p a, matched_said content p a) (matched_parts content p b, matched_said content p b) = Σ_prop_path (λ x. said_matched_prop content p x) base in
    ap whole both

-- a pair's mate and instructions, and what it lacks, and what is said of them
abbrev Parts : Type 0
Parts = ℕ × Instructed × Instructed × Lack

pub record Said (content : Content) (n : ℕ) (x : Parts) : Type 0 where
  pub pair : IsPairAt content n x.0 x.1 x.2
  pub two : x.0 < n
  pub back : (content.standing x.0).mate ≡ Some n
  pub earlier_waits : (content.standing x.0).state ≡ Matched (reason_of_lack (Some x.3))
  pub later_waits : (content.standing n).state ≡ Matched (reason_of_lack (Some x.3))
  pub pays : x.3 ≡ Money → is_some x.2.instruction.cash ≡ true

said_prop : (content : Content) (n : ℕ) (x : Parts) → IsProp (Said content n x)
said_prop content n x = hlevel props

abbrev parts_of : (content : Content) (n : ℕ) → StandsShort content n → Parts
parts_of content n s = (s.mate, s.earlier, s.later, s.lack)

abbrev said_of : (content : Content) (n : ℕ) (s : StandsShort content n) → Said content n (parts_of content n s)
said_of content n s = record { pair = s.pair; two = s.two; back = s.back; earlier_waits = s.earlier_waits; later_waits = s.later_waits; pays = s.pays }

pub stands_prop : (content : Content) (n : ℕ) → IsProp (StandsShort content n)
stands_prop content n a b =
    let whole : ((x : Parts) × Said content n x) → StandsShort content n = λ s. record {
      mate = s.0.0;
      earlier = s.0.1;
      later = s.0.2;
      lack = s.0.3;
      pair = s.1.pair;
      two = s.1.two;
      back = s.1.back;
      earlier_waits = s.1.earlier_waits;
      later_waits = s.1.later_waits;
      pays = s.1.pays;
    } in
    let mates : Some a.mate ≡ Some b.mate = sym a.pair.has_mate ∙ b.pair.has_mate in
    let mate : a.mate ≡ b.mate = cc in
    let laters : Some a.later ≡ Some b.later = sym a.pair.is_later ∙ b.pair.is_later in
    let later : a.later ≡ b.later = cc in
    let earliers : Some a.earlier ≡ Some b.earlier = sym a.pair.is_earlier ∙ ap (instruction_at (history_of content)) mate ∙ b.pair.is_earlier in
    let earlier : a.earlier ≡ b.earlier = cc in
    let states : Matched (reason_of_lack (Some a.lack)) ≡ Matched (reason_of_lack (Some b.lack)) = sym a.later_waits ∙ b.later_waits in
    let reasons : reason_of_lack (Some a.lack) ≡ reason_of_lack (Some b.lack) = cc in
    let lack : a.lack ≡ b.lack = one_reason a.lack b.lack reasons in
    let base : parts_of content n a ≡ parts_of content n b = cc in
    let both : ◌≡◌ {A = (x : Parts) × Said content n x} (parts_of content n a, said_of content n a) (parts_of content n b, said_of content n b) = Σ_prop_path (λ x. said_prop content n x) base in
    ap whole both

asked_prop : (cash : Option Cash) (ccy : Ccy) (amount : ℕ) → IsProp (IsAsked cash ccy amount)
asked_prop None ccy amount = hlevel props
asked_prop (Some asked) ccy amount = hlevel props

want_prop : (t : Transfer) (lack : Lack) (want : Want) (amount : ℕ) → IsProp (IsWantOf t lack want amount)
want_prop t lack (MoreHeld account isin) amount = hlevel props
want_prop t lack (LessHeld account isin) amount = hlevel props
want_prop t lack (MoreCash bic ccy) amount = hlevel (props, asked_prop)

uncovered_prop : (content : Content) (want : Want) (amount : ℕ) → IsProp (IsUncovered content want amount)
uncovered_prop content (MoreHeld account isin) amount = hlevel props
uncovered_prop content (LessHeld account isin) amount = hlevel props
uncovered_prop content (MoreCash bic ccy) amount = hlevel props

-- so is what a register knows of them
pub holds_short_prop : (view : View) (shortages : Shortages) → IsProp (HoldsShort view shortages)
holds_short_prop view shortages = hlevel (props, stands_prop, matched_prop, want_prop, uncovered_prop)

pub holds_matched_prop : (view : View) (places : BTreeSet Place) (noted : List Entry) (touched : List ℕ) → IsProp (HoldsMatched view places noted touched)
holds_matched_prop view places noted touched = hlevel (props, matched_prop)
