-- Searches of the content.
use Rattle.std.proofs.Common.{◌≡◌, true, ℕ, ◌<◌, ◌≤◌, Option, Some, ap, sym, ◌∙◌, subst, arith}
use Rattle.desk_codes.specs.Number.{number_of}
use Rattle.desk_rules.specs.declared.history.entry.Instructed.{Instructed}
use Rattle.desk_rules.specs.declared.history.pair.Place.{Place}
use Rattle.desk_rules.specs.declared.history.standing.State.TheVariants.{Matched}
use Rattle.desk_msg.specs.declared.writing.status.Reason.{Reason}
use Rattle.desk_rules.specs.History.{instruction_at}
use Rattle.desk_rules.specs.Opposite.{AreOpposite}
use Rattle.desk_rules.specs.Content.{Content, history_of}
use Rattle.desk_rules.specs.Settlement.{is_past}
use Rattle.desk_register.specs.Looked.{IsDue, IsOppositeAt}

-- the instruction of a number is the one that was found
pub opposite_of : (content : Content) (wanted other : Instructed) (n : ℕ) → instruction_at (history_of content) n ≡ Some other → IsOppositeAt content wanted n → AreOpposite other wanted
opposite_of content wanted other n is o =
    let same : o.other ≡ other = let e = sym o.is_other ∙ is in cc in
    subst (λ i. AreOpposite i wanted) same o.opposite

-- a due pair's place, by what stands at its number
pub due_from : (content : Content) (n day mate : ℕ) (above : Option Place) (later : Instructed) (reason : Reason) (p : Place) → p.number ≡ n → instruction_at (history_of content) n ≡ Some later
    → (content.standing n).mate ≡ Some mate → (content.standing n).state ≡ Matched reason → mate < n → p.day ≡ number_of later.instruction.day → p.day ≤ day → is_past above p ≡ true → IsDue content day above p
due_from content n day mate above later reason p number is has_mate matched earlier day_is by over = record {
  pair = record {
    later = later;
    mate = mate;
    reason = reason;
    is_later = ap (instruction_at (history_of content)) number ∙ is;
    has_mate = ap (λ k. (content.standing k).mate) number ∙ has_mate;
    is_earlier = omega arith;
    matched = ap (λ k. (content.standing k).state) number ∙ matched;
    day = sym day_is;
  };
  by = by;
  above = over;
}

-- a due pair of a number has the place that the instruction there gives it
pub place_of_due : (content : Content) (n day d : ℕ) (above : Option Place) (later : Instructed) (p : Place) → p.number ≡ n → instruction_at (history_of content) n ≡ Some later
    → d ≡ number_of later.instruction.day → IsDue content day above p → is_past above (record { day = d; number = n }) ≡ true
place_of_due content n day d above later p number is day_is due =
    let same : due.pair.later ≡ later = let e = sym due.pair.is_later ∙ ap (instruction_at (history_of content)) number ∙ is in cc in
    let here : p.day ≡ d = sym due.pair.day ∙ ap (λ i. number_of i.instruction.day) same ∙ sym day_is in
    let place : p ≡ record { day = d; number = n } = (λ k. record { day = here k; number = number k }) in
    subst (λ q. is_past above q ≡ true) place due.above
