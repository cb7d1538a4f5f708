-- What the tables of an open desk tell of its matched pairs: the instructions of each are opposite, and none is to settle after
-- the last day.
use Rattle.std.proofs.Common.{◌≡◌, inl, inr, ℕ, ◌<◌, true, false, Contains, Option, Some, refl, ap, sym, ◌∙◌, subst, arith}
use Rattle.std.proofs.lemmas.Bool.{ne_eqb}
use Rattle.std.proofs.lemmas.Bool.Decides.{nat_tests}
use Rattle.std.specs.Prelude.{◌==◌}
use Rattle.desk_msg.specs.declared.instruction.Instruction.{Instruction}
use Rattle.desk_msg.specs.declared.instruction.Message.TheVariants.{New}
use Rattle.desk_rules.specs.declared.history.pair.Pair.{Pair}
use Rattle.desk_rules.specs.declared.history.pair.Place.{Place}
use Rattle.desk_rules.specs.declared.history.standing.Standing.{Standing}
use Rattle.desk_rules.specs.declared.history.standing.State.{State}
use Rattle.desk_rules.specs.Books.{Books}
use Rattle.desk_rules.specs.Content.{Content}
use Rattle.desk_rules.specs.History.{instruction_at}
use Rattle.desk_rules.specs.Opposite.{AreOpposite}
use Rattle.desk_rules.specs.Pairing.{IsSide, mate_in}
use Rattle.desk_rules.specs.Stands.{IsMatched, StandsAt, StandsSo}
use Rattle.desk_rules.specs.Tables.{AreTables}
use Rattle.desk_rules.specs.WellFormed.{AreWellFormed, IsReadable}
use Rattle.desk_rules.proofs.StandsLemmas.{is_stands}
use Rattle.desk_rules.proofs.WellFormedLemmas.{readable_at}
use Rattle.desk_codes.specs.Day.{IsDay}
use Rattle.desk_codes.specs.Number.{number_of}
use Rattle.desk_register.specs.Looked.{IsMatchedPair}
use Rattle.desk_report.specs.PendingReading.{AreDated, IsWaitingPair}
use Rattle.desk_report.proofs.DayLemmas.{last_of_all}

-- a pair by the number of one side, the other side of which has a lower number
by_sides : (p : Pair) (n m : ℕ) → p.earlier < p.later → IsSide p n → mate_in p n ≡ m → m < n → (p.earlier ≡ m) × (p.later ≡ n)
by_sides p n m less (inl early) mate lt =
    let test : p.earlier == n ≡ true = grind (arith, nat_tests) in
    let is : p.later ≡ m = sym (rw test refl) ∙ mate in
    absurd (omega arith)
by_sides p n m less (inr late) mate lt =
    let test : p.earlier == n ≡ false = ne_eqb p.earlier n (λ (q : p.earlier ≡ n). absurd (omega arith)) in
    let is : p.earlier ≡ m = sym (rw test refl) ∙ mate in
    (is, late)

module _ (books : Books) (content : Content) (tables : AreTables books content) (place : Place) (w : IsMatchedPair content place) where
  in_history : instruction_at books.history place.number ≡ Some w.later
  in_history = ap (λ h. instruction_at h place.number) (sym tables.history) ∙ w.is_later

  is_matched : IsMatched books place.number (Some w.mate) w.reason
  is_matched =
      let P : Standing → Type 0 = λ s. StandsAt books place.number (Some w.later) s in
      let Q : State → Type 0 = λ s. StandsSo books place.number (content.standing place.number).mate s in
      let R : Option ℕ → Type 0 = λ m. IsMatched books place.number m w.reason in
      let stands = subst P (sym (tables.standings.each place.number)) (is_stands books tables.are place.number (Some w.later) in_history) in
      subst R w.has_mate (subst Q w.matched stands.so)

  opposite_mate : (p : Pair) → Contains books.pairs p → IsSide p place.number → mate_in p place.number ≡ w.mate → IsWaitingPair content place
  opposite_mate p paired side other =
      let mate = (tables.are.pairing.exact p).0 paired in
      let is = by_sides p place.number w.mate mate.candidate.earlier side other w.is_earlier in
      let o = mate.candidate.opposite in
      let first : instruction_at books.history w.mate ≡ Some o.first = ap (λ k. instruction_at books.history k) (sym is.0) ∙ o.is_first in
      let second : instruction_at books.history place.number ≡ Some o.second = ap (λ k. instruction_at books.history k) (sym is.1) ∙ o.is_second in
      let both : Some o.second ≡ Some w.later = sym second ∙ in_history in
      let same : o.second ≡ w.later = cc in
      record {
        pair = w;
        earlier = o.first;
        is_earlier = ap (λ h. instruction_at h w.mate) tables.history ∙ first;
        opposite = subst (λ z. AreOpposite o.first z) same o.opposite;
      }

  pub are_opposite : IsWaitingPair content place
  are_opposite =
      let m = is_matched in
      let other : Some w.mate ≡ Some (mate_in m.pair place.number) = m.in_pair.other in
      let is : mate_in m.pair place.number ≡ w.mate = cc in
      opposite_mate m.pair m.in_pair.paired m.in_pair.side is

-- an instruction that fields read as has a day
day_read : (i : Instruction) → IsReadable i.mt (New i) → IsDay i.day
day_read i r =
    let date = r.1.1.1.1.0 in
    let says = date.says in
    says.2.0

pub are_dated : (books : Books) (content : Content) → AreTables books content → AreWellFormed books.history → AreDated content
are_dated books content tables formed = record {
  by = λ place w.
      let day = day_read w.later.instruction (readable_at books.history place.number w.later formed (in_history books content tables place w)) in
      let is : number_of w.later.instruction.day ≡ place.day = w.day in
      let most = last_of_all w.later.instruction.day day in
      omega arith;
}
