-- A matched pair and its row, as they were read.
use Rattle.std.proofs.Common.{◌≡◌, ◌≢◌, ℕ, true, Option, Some, None, is_some, refl, sym, ◌∙◌, ap, subst}
use Rattle.std.specs.Prelude.{Ok}
use Rattle.desk_msg.specs.declared.writing.status.Reason.{Reason}
use Rattle.desk_msg.specs.MessageType.{is_delivery}
use Rattle.desk_rules.specs.declared.history.pair.Place.{Place}
use Rattle.desk_rules.specs.declared.history.standing.State.TheVariants.{Matched}
use Rattle.desk_rules.specs.Balances.{delivering, receiving}
use Rattle.desk_rules.specs.Content.{Content, history_of}
use Rattle.desk_rules.specs.History.{instruction_at}
use Rattle.desk_rules.specs.declared.history.entry.Instructed.{Instructed}
use Rattle.desk_rules.specs.declared.history.standing.Standing.{Standing}
use Rattle.desk_register.specs.declared.register.Stage.TheVariants.{Failed}
use Rattle.desk_register.specs.View.{View, IsLater, IsRead}
use Rattle.desk_register.proofs.ReadLemmas.{held_so, kept_so, read_one}
use Rattle.desk_report.specs.declared.rows.pending.PendingPair.{PendingPair}
use Rattle.desk_report.specs.declared.pending.pair.Leg.{Leg}
use Rattle.desk_report.specs.declared.pending.pair.WaitingPair.{WaitingPair}
use Rattle.desk_report.specs.Pending.{IsPendingRow, lacking_of}
use Rattle.desk_report.specs.PendingReading.{IsLeg, IsPair, IsWaitingPair, row_with}
use Rattle.desk_report.proofs.PendingRowLemmas.{row_read}

same_mate : (a b : ℕ) → Some a ≡ Some b → a ≡ b
same_mate a b e = cc

mate_or_none : (mate : ℕ) → None ≡ Some mate → ⊥
mate_or_none mate e = absurd (cc)

-- the pair of two legs
pair_of_legs : (content : Content) (place : Place) (w : IsWaitingPair content place) (mate : ℕ) (reason : Reason) (later earlier : Leg) (pair : WaitingPair) → IsLeg content place.number later → later.standing.mate ≡ Some mate
    → later.standing.state ≡ Matched reason → IsLeg content mate earlier → pair.reason ≡ reason → pair.later ≡ later.instructed
    → pair.deliverer ≡ delivering (is_delivery earlier.instructed.instruction.mt) earlier later → pair.receiver ≡ receiving (is_delivery earlier.instructed.instruction.mt) earlier later → IsPair content place pair
pair_of_legs content place w mate reason later earlier pair l has state e why terms deliverer receiver =
    let mates : Some mate ≡ Some w.pair.mate = sym has ∙ ap (λ z. z.mate) l.standing ∙ w.pair.has_mate in
    let one : mate ≡ w.pair.mate = cc in
    let reasons : Matched reason ≡ Matched w.pair.reason = sym state ∙ ap (λ z. z.state) l.standing ∙ w.pair.matched in
    let same : reason ≡ w.pair.reason = cc in
    record {
      waiting = w;
      earlier = earlier;
      later = later;
      is_earlier = subst (λ z. IsLeg content z earlier) one e;
      is_later = l;
      reason = why ∙ same;
      terms = terms;
      deliverer = deliverer;
      receiver = receiver;
    }

-- as the second was read after the first
pub pair_read : (v0 v1 v2 : View) (place : Place) (mate : ℕ) (reason : Reason) (later earlier : Leg) (pair : WaitingPair) → (v0.is_honest → v0.is_sure → IsWaitingPair v0.content place)
    → IsRead {X = Leg} (Ok later) v0 v1 → (v1.is_honest → v0.is_sure → IsLeg v0.content place.number later) → later.standing.mate ≡ Some mate → later.standing.state ≡ Matched reason
    → IsRead {X = Leg} (Ok earlier) v1 v2 → (v2.is_honest → v1.is_sure → IsLeg v1.content mate earlier) → pair.reason ≡ reason → pair.later ≡ later.instructed
    → pair.deliverer ≡ delivering (is_delivery earlier.instructed.instruction.mt) earlier later → pair.receiver ≡ receiving (is_delivery earlier.instructed.instruction.mt) earlier later
    → v2.is_honest → v0.is_sure → IsPair v0.content place pair
pair_read v0 v1 v2 place mate reason later earlier pair known first is_later has state second is_earlier why terms deliverer receiver honest sure =
    let honest1 = second.later.honest honest in
    let honest0 = first.later.honest honest1 in
    let read = read_one later v0 v1 first in
    let e = held_so v0 v1 read (λ c. IsLeg c mate earlier) honest1 sure (is_earlier honest (read.ok.sure honest1 sure)) in
    pair_of_legs v0.content place (known honest0 sure) mate reason later earlier pair (is_later honest1 sure) has state e why terms deliverer receiver

-- The pair's instructions are there, and a store that answers otherwise does not show what it holds.
module _ (v0 v1 : View) (place : Place) (later : Leg) (known : v0.is_honest → v0.is_sure → IsWaitingPair v0.content place) (first : IsRead {X = Leg} (Ok later) v0 v1)
    (is_later : v1.is_honest → v0.is_sure → IsLeg v0.content place.number later) where
  pub mate_known : (mate : ℕ) → later.standing.mate ≡ Some mate → v1.is_honest → v1.is_sure → is_some (instruction_at (history_of v1.content) mate) ≡ true
  mate_known mate has honest sure =
      let sure0 = first.later.sure honest sure in
      let w = known (first.later.honest honest) sure0 in
      let one = same_mate mate w.pair.mate (sym has ∙ ap (λ (z : Standing). z.mate) (is_later honest sure0).standing ∙ w.pair.has_mate) in
      kept_so v0 v1 (read_one later v0 v1 first) (λ content. is_some (instruction_at (history_of content) mate) ≡ true) honest sure0
      (ap (λ n. is_some (instruction_at (history_of v0.content) n)) one ∙ ap is_some w.is_earlier)

  pub no_mate : later.standing.mate ≡ None → v1.is_honest → v0.is_sure → ⊥
  no_mate none honest sure =
      let w = known (first.later.honest honest) sure in
      mate_or_none w.pair.mate (sym none ∙ ap (λ (z : Standing). z.mate) (is_later honest sure).standing ∙ w.pair.has_mate)

  pub not_matched : ((reason : Reason) → later.standing.state ≡ Matched reason → ⊥) → v1.is_honest → v0.is_sure → ⊥
  not_matched other honest sure =
      let w = known (first.later.honest honest) sure in
      other w.pair.reason (ap (λ (z : Standing). z.state) (is_later honest sure).standing ∙ w.pair.matched)

-- an instruction and where it stands, as they were read one after the other
pub leg_read : (v0 v1 v2 : View) (n : ℕ) (instructed : Instructed) (standing : Standing) → IsRead {X = Instructed} (Ok instructed) v0 v1 → (v1.is_honest → v0.is_sure → instruction_at (history_of v0.content) n ≡ Some instructed)
    → v1.stage ≢ Failed → IsLater v1 v2 → (v2.is_honest → v1.is_sure → v1.stage ≢ Failed → standing ≡ v1.content.standing n) → v2.is_honest → v0.is_sure
    → IsLeg v0.content n (record { number = n; instructed = instructed; standing = standing })
leg_read v0 v1 v2 n instructed standing first is_there goes later stands honest sure =
    let honest1 = later.honest honest in
    let read = read_one instructed v0 v1 first in
    record {
      number = refl;
      instructed = is_there honest1 sure;
      standing = held_so v0 v1 read (λ (c : Content). standing ≡ c.standing n) honest1 sure (stands honest (read.ok.sure honest1 sure) goes);
    }

-- and what is lacking after the pair
pub row_of_pair : (v0 v1 v2 : View) (place : Place) (pair : WaitingPair) (lacking : Option ℕ) (row : PendingPair) → IsRead {X = WaitingPair} (Ok pair) v0 v1
    → (v1.is_honest → v0.is_sure → IsPair v0.content place pair) → IsRead {X = Option ℕ} (Ok lacking) v1 v2
    → (v2.is_honest → v1.is_sure → lacking ≡ lacking_of v1.content pair.reason pair.deliverer.instructed pair.receiver.instructed) → row ≡ row_with pair lacking
    → v2.is_honest → v0.is_sure → IsPendingRow v0.content place row
row_of_pair v0 v1 v2 place pair lacking row first is_pair second is_lacking is honest sure =
    let honest1 = second.later.honest honest in
    let read = read_one pair v0 v1 first in
    let l = held_so v0 v1 read (λ c. lacking ≡ lacking_of c pair.reason pair.deliverer.instructed pair.receiver.instructed) honest1 sure (is_lacking honest (read.ok.sure honest1 sure)) in
    subst (λ z. IsPendingRow v0.content place z) (sym is) (row_read v0.content place pair (is_pair honest1 sure) lacking l)
