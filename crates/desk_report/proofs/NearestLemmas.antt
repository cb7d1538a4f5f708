-- The nearest to an instruction, by the least numbers that were noted.
use Rattle.std.proofs.Common.{◌≡◌, ℕ, Bool, true, List, [], ◌∷◌, length, Option, Some, None, refl, sym, ap, ◌∙◌}
use Rattle.std.specs.Prelude.{Ok, option_and_then, option_map}
use Rattle.std.specs.List.{find}
use Rattle.std.specs.BTreeMap.{BTreeMap, get}
use Rattle.desk_rules.specs.Content.{Content, history_of}
use Rattle.desk_rules.specs.History.{instruction_at}
use Rattle.desk_rules.specs.declared.history.entry.Instructed.{Instructed}
use Rattle.desk_rules.specs.declared.history.standing.State.{State}
use Rattle.desk_rules.specs.declared.history.standing.State.TheVariants.{NoInstruction, Unmatched, Matched, Cancelled, Settled}
use Rattle.desk_register.specs.View.{IsLater, IsRead, View}
use Rattle.desk_register.proofs.CaseLemmas.{by_bool}
use Rattle.desk_register.proofs.ReadLemmas.{held_so, read_one}
use Rattle.desk_report.specs.declared.rows.unmatched.Nearest.{Nearest}
use Rattle.desk_report.specs.declared.rows.unmatched.UnmatchedInstruction.{UnmatchedInstruction}
use Rattle.desk_report.specs.declared.unmatched.near.NearKey.{NearKey}
use Rattle.desk_report.specs.NearKeys.{near_cmp, near_key}
use Rattle.desk_report.specs.FirstNumbers.{AreFirst}
use Rattle.desk_rules.specs.Unmatched.{if_unmatched, unmatched_in}
use Rattle.desk_report.specs.Unmatched.{is_some_near, nearest_number, nearest_of, nearest_told, numbers_of, row_of, unmatched_row}
use Rattle.desk_report.proofs.FirstLemmas.{found_nearest}

pub found_holds : (test : ℕ → Bool) (ns : List ℕ) (n : ℕ) → find test ns ≡ Some n → test n ≡ true
found_holds test [] n is = absurd (cc)
found_holds test (m ∷ ns) n is = by_bool (test m)
    (λ here. let same : m ≡ n = let found = rw here at is in cc in ap test (sym same) ∙ here)
    (λ other. found_holds test ns n (rw other at is))

none_near : (one : Instructed) (found : Option Instructed) → found ≡ None → is_some_near one found ≡ true → ⊥
none_near one None is near = cc
none_near one (Some other) is near = cc

-- where it stands unmatched at all, the instruction is the unmatched one
unmatched_is : (state : State) (found : Option Instructed) (one other : Instructed) → is_some_near one (if_unmatched state found) ≡ true → found ≡ Some other → if_unmatched state found ≡ Some other
unmatched_is Unmatched found one other near is = is
unmatched_is NoInstruction found one other near is = absurd (cc)
unmatched_is (Matched reason) found one other near is = absurd (cc)
unmatched_is Cancelled found one other near is = absurd (cc)
unmatched_is Settled found one other near is = absurd (cc)

none_unmatched : (state : State) (found : Option Instructed) → found ≡ None → if_unmatched state found ≡ None
none_unmatched Unmatched found is = is
none_unmatched NoInstruction found is = refl
none_unmatched (Matched reason) found is = refl
none_unmatched Cancelled found is = refl
none_unmatched Settled found is = refl

module _ (content : Content) (numbers : BTreeMap NearKey ℕ) (one : Instructed) (first : AreFirst numbers content (length content.register)) where
  abbrev told_at : ℕ → Option Nearest
  told_at n = option_map (nearest_told one n) (unmatched_in content n)

  pub nearest_none : get near_cmp numbers (near_key one) ≡ None → None ≡ nearest_of content one
  nearest_none none = sym (ap (option_and_then told_at) (sym (found_nearest content numbers one first) ∙ none))

  module _ (n : ℕ) (noted : get near_cmp numbers (near_key one) ≡ Some n) where
    is_found : nearest_number content one ≡ Some n
    is_found = sym (found_nearest content numbers one first) ∙ noted

    is_there : is_some_near one (unmatched_in content n) ≡ true
    is_there = found_holds (λ k. is_some_near one (unmatched_in content k)) (numbers_of content) n is_found

    pub nearest_known : (other : Instructed) → instruction_at (history_of content) n ≡ Some other → Some (nearest_told one n other) ≡ nearest_of content one
    nearest_known other known =
        let is = unmatched_is (content.standing n).state (instruction_at (history_of content) n) one other is_there known in
        sym (ap (option_and_then told_at) is_found ∙ ap (option_map (nearest_told one n)) is)

    pub nearest_there : instruction_at (history_of content) n ≡ None → ⊥
    nearest_there none = none_near one (unmatched_in content n) (none_unmatched (content.standing n).state (instruction_at (history_of content) n) none) is_there

-- The row of an instruction, by the nearest one to it.

abbrev pub as_row : ℕ → Instructed → Option Nearest → Option UnmatchedInstruction
as_row number one nearest = Some (record { number = number; instructed = one; nearest = nearest })

row_told : (content : Content) (number : ℕ) (one : Instructed) (nearest : Option Nearest) → unmatched_in content number ≡ Some one → nearest ≡ nearest_of content one
    → as_row number one nearest ≡ unmatched_row content number
row_told content number one nearest at is =
    ap (λ z. as_row number one z) is ∙ sym (ap (option_map (row_of content number)) at)

-- as both were read
pub row_read : (v0 v1 v2 : View) (number : ℕ) (found : Option Instructed) (one : Instructed) (nearest : Option Nearest) → IsRead {X = Option Instructed} (Ok found) v0 v1
    → (v1.is_honest → v0.is_sure → found ≡ unmatched_in v0.content number) → found ≡ Some one → IsLater v1 v2 → (v2.is_honest → v1.is_sure → nearest ≡ nearest_of v1.content one)
    → v2.is_honest → v0.is_sure → as_row number one nearest ≡ unmatched_row v0.content number
row_read v0 v1 v2 number found one nearest first told is later is_nearest honest sure =
    let honest1 = later.honest honest in
    let read = read_one found v0 v1 first in
    let near = held_so v0 v1 read (λ c. nearest ≡ nearest_of c one) honest1 sure (is_nearest honest (read.ok.sure honest1 sure)) in
    row_told v0.content number one nearest (sym (told honest1 sure) ∙ is) near
