-- The lists of a list register: changes undone, standings and amounts.
use Rattle.std.proofs.Common.{◌≡◌, ℕ, zero, suc, ◌-◌, List, [], ◌∷◌, ◌++◌, length, get_or, Option, Some, None, refl, ap, ◌∙◌, arith}
use Rattle.std.specs.Prelude.{slice_set}
use Rattle.std.proofs.lemmas.List.{length-append, set-get_or}
use Rattle.std.proofs.Math.Seq.{take-append_seam}
use Rattle.desk_rules.specs.declared.answers.reply.Kept.{Kept}
use Rattle.desk_rules.specs.declared.answers.reply.Sent.{Sent}
use Rattle.desk_rules.specs.declared.history.standing.Standing.{Standing}
use Rattle.memory_rows.specs.declared.balance_key.BalanceKey.{BalanceKey}
use Rattle.memory_rows.specs.declared.lists.Change.{Change}
use Rattle.memory_rows.specs.declared.lists.Change.TheVariants.{Appended, Stood, Sent as SentChange, Moved}
use Rattle.memory_rows.specs.BalanceKeys.{is_key, put_back, with_record}
use Rattle.memory_rows.specs.Lists.{Listed, undo, undone, without_last}
use Rattle.memory_rows.proofs.BalanceLemmas.{key_refl, key_true}
use Rattle.desk_register.proofs.CaseLemmas.{by_bool}

pub undone-push : (changes : List Change) (change : Change) (l : Listed) → undone (changes ++ change ∷ []) l ≡ undone changes (undo change l)
undone-push [] change l = refl
undone-push (first ∷ changes) change l = ap (undo first) (undone-push changes change l)

-- Each change is undone by its undoing.

without_last-push : {X : Type 0} (xs : List X) (x : X) → without_last (xs ++ x ∷ []) ≡ xs
without_last-push xs x = let size : length (xs ++ x ∷ []) - 1 ≡ length xs = omega (arith, length-append xs (x ∷ [])) in rw (size, take-append_seam) refl

pub before_appended : (changes : List Change) (l : Listed) (kept : Kept) (standing : Standing)
    → undone (changes ++ Appended ∷ []) (record l { kept = l.kept ++ kept ∷ []; standings = l.standings ++ standing ∷ [] }) ≡ undone changes l
before_appended changes l kept standing =
    undone-push changes Appended _ ∙ ap (undone changes) (rw (without_last-push l.kept kept, without_last-push l.standings standing) refl)

pub before_sent : (changes : List Change) (l : Listed) (message : Sent) → undone (changes ++ SentChange ∷ []) (record l { sent = l.sent ++ message ∷ [] }) ≡ undone changes l
before_sent changes l message = undone-push changes SentChange _ ∙ ap (undone changes) (rw (without_last-push l.sent message) refl)

pub before_stood : (changes : List Change) (l : Listed) (index : ℕ) (was new : Standing) → slice_set (slice_set l.standings index new) index was ≡ l.standings
    → undone (changes ++ Stood index was ∷ []) (record l { standings = slice_set l.standings index new }) ≡ undone changes l
before_stood changes l index was new back = undone-push changes (Stood index was) _ ∙ ap (λ z. undone changes (record l { standings = z })) back

-- what was recorded is put back
recorded_back : (balances : BalanceKey → Option ℕ) (key k : BalanceKey) (was : Option ℕ) (amount : ℕ) → was ≡ balances key → put_back (with_record balances key (Some amount)) key was k ≡ balances k
recorded_back balances key k None amount same =
    by_bool (is_key key k)
    (λ t. let here : None ≡ balances k = same ∙ ap balances (key_true key k t) in rw t here)
    (λ f. rw f refl)
recorded_back balances key k (Some was) amount same =
    by_bool (is_key key k)
    (λ t. let here : Some was ≡ balances k = same ∙ ap balances (key_true key k t) in rw (t, key_refl key) here)
    (λ f. rw f refl)

pub before_moved : (changes : List Change) (l : Listed) (key : BalanceKey) (was : Option ℕ) (amount : ℕ) → was ≡ l.balances key
    → undone (changes ++ Moved key was ∷ []) (record l { balances = with_record l.balances key (Some amount) }) ≡ undone changes l
before_moved changes l key was amount same =
    undone-push changes (Moved key was) _ ∙ ap (λ z. undone changes (record l { balances = z })) (λ i k. recorded_back l.balances key k was amount same i)

set_twice : {X : Type 0} (xs : List X) (i : ℕ) (a b : X) → slice_set (slice_set xs i a) i b ≡ slice_set xs i b
set_twice [] i a b = refl
set_twice (x ∷ xs) zero a b = refl
set_twice (x ∷ xs) (suc i) a b = ap (λ z. x ∷ z) (set_twice xs i a b)

-- what was at a place, put back there, gives the list back
pub set_back : {X : Type 0} (xs : List X) (i : ℕ) (was new : X) → was ≡ get_or xs i was → slice_set (slice_set xs i new) i was ≡ xs
set_back xs i was new e = set_twice xs i new was ∙ ap (slice_set xs i) e ∙ set-get_or xs i was
