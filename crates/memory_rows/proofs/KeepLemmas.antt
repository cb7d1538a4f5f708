-- Changes that are kept for good, and balances of 0 that are taken out.
use Rattle.std.proofs.Common.{◌≡◌, ◌≢◌, ℕ, Bool, true, false, List, [], ◌∷◌, ◌++◌, Option, Some, None, refl, ap, sym, ◌∙◌}
use Rattle.std.specs.Prelude.{◌||◌}
use Rattle.std.specs.List.{list_any}
use Rattle.std.proofs.lemmas.Bool.{or_parts}
use Rattle.std.proofs.lemmas.List.Folds.{list_any-append}
use Rattle.desk_register.proofs.CaseLemmas.{by_bool}
use Rattle.memory_rows.specs.declared.balance_key.BalanceKey.{BalanceKey}
use Rattle.memory_rows.specs.declared.lists.Change.{Change}
use Rattle.memory_rows.specs.declared.lists.Change.TheVariants.{Appended, Moved, Sent as SentChange, Stood}
use Rattle.memory_rows.specs.BalanceKeys.{HasNoNought, is_key, put_back, with_record, without_nought}
use Rattle.memory_rows.specs.Lists.{Listed, balance_in, content_in, standing_in, undo, undone}
use Rattle.memory_rows.specs.Moves.{SameEntries, kept_for_good}
use Rattle.memory_rows.proofs.AppendLemmas.{content_by_parts}
use Rattle.memory_rows.proofs.BalanceLemmas.{nought_before, same_without}

-- a change moves a balance, and one of some does
abbrev pub moves : BalanceKey → Change → Bool
moves k (Moved key was) = is_key key k
moves k change = false

abbrev pub is_moved : List Change → BalanceKey → Bool
is_moved changes k = list_any (moves k) changes

-- what no change moves is as it was before them

put_elsewhere : (balances : BalanceKey → Option ℕ) (key k : BalanceKey) (was : Option ℕ) → is_key key k ≡ false → put_back balances key was k ≡ balances k
put_elsewhere balances key k None f = rw f refl
put_elsewhere balances key k (Some was) f = rw f refl

unmoved_one : (change : Change) (l : Listed) (k : BalanceKey) → moves k change ≡ false → (undo change l).balances k ≡ l.balances k
unmoved_one Appended l k f = refl
unmoved_one (Stood index was) l k f = refl
unmoved_one SentChange l k f = refl
unmoved_one (Moved key was) l k f = put_elsewhere l.balances key k was f

unmoved : (changes : List Change) (l : Listed) (k : BalanceKey) → is_moved changes k ≡ false → (undone changes l).balances k ≡ l.balances k
unmoved [] l k f = refl
unmoved (change ∷ later) l k f =
    let parts = or_parts (moves k change) (is_moved later k) f in
    unmoved_one change (undone later l) k parts.0 ∙ unmoved later l k parts.1

-- each balance that is recorded as 0 was moved
pub record NoughtsAreMoved (l : Listed) (changes : List Change) : Type 0 where
  pub each : (k : BalanceKey) → l.balances k ≡ Some 0 → is_moved changes k ≡ true

pub all_moved : (l : Listed) (changes : List Change) → HasNoNought (undone changes l).balances → NoughtsAreMoved l changes
all_moved l changes lean = record {
  each = λ k e. by_bool (is_moved changes k) (λ t. t) (λ f. absurd (lean.each k (unmoved changes l k f ∙ e)));
}

pub none_moved : (l : Listed) (changes : List Change) → changes ≡ [] → NoughtsAreMoved l changes → HasNoNought l.balances
none_moved l changes none all = record { each = λ k e. (let bad : is_moved [] k ≡ true = ap (λ z. is_moved z k) (sym none) ∙ all.each k e in absurd (cc)) }

-- none is recorded as 0 once one is recorded that is not, or one is taken out

pub lean_recorded : (balances : BalanceKey → Option ℕ) (key : BalanceKey) (amount : ℕ) → amount ≢ 0 → HasNoNought balances → HasNoNought (with_record balances key (Some amount))
lean_recorded balances key amount some lean = record {
  each = λ k e. by_bool (is_key key k)
      (λ t. let same : Some amount ≡ Some 0 = rw t at e in some (cc))
      (λ f. lean.each k (rw f at e));
}

pub lean_without : (balances : BalanceKey → Option ℕ) (key : BalanceKey) → HasNoNought balances → HasNoNought (without_nought balances key)
lean_without balances key lean = record { each = λ k e. lean.each k (nought_before balances key k e).1 }

-- one change kept

before_last : (a b : Bool) → (a || (b || false)) ≡ true → b ≡ false → a ≡ true
before_last true b e f = refl
before_last false true e f = absurd (cc)
before_last false false e f = e

nought_in : (change : Change) (l : Listed) (k : BalanceKey) → (kept_for_good change l).balances k ≡ Some 0 → (moves k change ≡ false) × (l.balances k ≡ Some 0)
nought_in Appended l k e = (refl, e)
nought_in (Stood index was) l k e = (refl, e)
nought_in SentChange l k e = (refl, e)
nought_in (Moved key was) l k e = nought_before l.balances key k e

pub kept_noughts : (l : Listed) (rest : List Change) (change : Change) → NoughtsAreMoved l (rest ++ change ∷ []) → NoughtsAreMoved (kept_for_good change l) rest
kept_noughts l rest change all = record {
  each = λ k e.
      let old = nought_in change l k e in
      before_last (is_moved rest k) (moves k change) (sym (list_any-append (moves k) rest (change ∷ [])) ∙ all.each k old.1) old.0;
}

pub kept_amounts : (change : Change) (l : Listed) → balance_in (kept_for_good change l) ≡ balance_in l
kept_amounts Appended l = refl
kept_amounts (Stood index was) l = refl
kept_amounts SentChange l = refl
kept_amounts (Moved key was) l = same_without l key

pub kept_entries : (change : Change) (first l : Listed) → SameEntries first l → SameEntries first (kept_for_good change l)
kept_entries Appended first l same = same
kept_entries (Stood index was) first l same = same
kept_entries SentChange first l same = same
kept_entries (Moved key was) first l same = record { kept = same.kept; standings = same.standings; sent = same.sent }

-- the content is the same
pub kept_content : (old new : Listed) → SameEntries old new → balance_in new ≡ balance_in old → content_in new ≡ content_in old
kept_content old new same amounts = content_by_parts _ _ _ _ _ _ _ _ same.kept (ap standing_in same.standings) amounts same.sent
