-- The least numbers of unmatched instructions by their keys, with one number more.
use Rattle.std.proofs.Common.{◌≡◌, ℕ, ◌+◌, Bool, List, [], ◌∷◌, Option, Some, None, refl, sym, ap, ◌∙◌, arith}
use Rattle.std.specs.Prelude.{length, Ok}
use Rattle.std.specs.Bool.{then_some}
use Rattle.std.specs.Ordering.{is_eq}
use Rattle.std.specs.List.{find, range_with_len}
use Rattle.std.specs.Option.{option_or}
use Rattle.std.specs.BTreeMap.{BTreeMap, get, IsEmpty}
use Rattle.std.proofs.lemmas.List.Folds.{find-append}
use Rattle.desk_rules.specs.Content.{Content}
use Rattle.desk_rules.specs.declared.history.entry.Instructed.{Instructed}
use Rattle.desk_rules.proofs.SentFronts.{range-append}
use Rattle.desk_register.specs.View.{HasRead, View, IsRead}
use Rattle.desk_register.proofs.CaseLemmas.{by_bool}
use Rattle.desk_register.proofs.ReadLemmas.{held_so, read_none}
use Rattle.desk_register.proofs.ReadingLemmas.{read_on}
use Rattle.desk_report.specs.declared.unmatched.near.NearKey.{NearKey}
use Rattle.desk_report.specs.NearKeys.{key_of, near_cmp, near_key}
use Rattle.desk_report.specs.FirstNumbers.{AreFirst, IsNoted, has_key}
use Rattle.desk_rules.specs.Unmatched.{unmatched_in}
use Rattle.desk_report.specs.Unmatched.{is_some_near, nearest_number, numbers_of}
use Rattle.desk_report.proofs.NearLemmas.{near_by_key}

-- no unmatched instruction has a number up to 0
first_none : (content : Content) (numbers : BTreeMap NearKey ℕ) → IsEmpty numbers → AreFirst numbers content 0
first_none content numbers empty = record { each = λ key. rw empty refl }

one_found : (test : ℕ → Bool) (n : ℕ) → find test (n ∷ []) ≡ then_some (test n) n
one_found test n = by_bool (test n) (λ here. rw here refl) (λ other. rw other refl)

-- the number of an unmatched instruction was put at its key
pub noted_one : (content : Content) (number : ℕ) (old new : BTreeMap NearKey ℕ) (one : Instructed) (key : NearKey) → unmatched_in content number ≡ Some one → key ≡ key_of one
    → ((q : NearKey) → get near_cmp new q ≡ option_or (get near_cmp old q) (then_some (is_eq (near_cmp key q)) number)) → IsNoted content number old new
noted_one content number old new one key is same put = record {
  each = λ q.
      put q
      ∙ ap (λ k. option_or (get near_cmp old q) (then_some (is_eq (near_cmp k q)) number)) same
      ∙ ap (λ o. option_or (get near_cmp old q) (then_some (has_key q o) number)) (sym is);
}

or_none : (found : Option ℕ) → found ≡ option_or found None
or_none None = refl
or_none (Some n) = refl

-- what is no unmatched instruction's number is put nowhere
pub noted_none : (content : Content) (number : ℕ) (numbers : BTreeMap NearKey ℕ) → unmatched_in content number ≡ None → IsNoted content number numbers numbers
noted_none content number numbers none = record {
  each = λ key.
      or_none (get near_cmp numbers key)
      ∙ ap (λ o. option_or (get near_cmp numbers key) (then_some (has_key key o) number)) (sym none);
}

-- with one number more
first_more : (content : Content) (upto : ℕ) (old new : BTreeMap NearKey ℕ) → AreFirst old content upto → IsNoted content (upto + 1) old new → AreFirst new content (upto + 1)
first_more content upto old new first noted = record {
  each = λ key.
      let test : ℕ → Bool = λ n. has_key key (unmatched_in content n) in
      let next : 1 + upto ≡ upto + 1 = omega arith in
      let longer = find-append test (range_with_len 1 upto) ((1 + upto) ∷ []) in
      noted.each key
      ∙ ap (λ o. option_or o (then_some (test (upto + 1)) (upto + 1))) (first.each key)
      ∙ ap (λ o. option_or (find test (range_with_len 1 upto)) o) (sym (one_found test (upto + 1)))
      ∙ ap (λ k. option_or (find test (range_with_len 1 upto)) (find test (k ∷ []))) (sym next)
      ∙ sym longer
      ∙ ap (find test) (sym (range-append 1 upto 1));
}

-- The first walk, after so many numbers.
pub record Noting (v0 v : View) (upto : ℕ) (numbers : BTreeMap NearKey ℕ) : Type 0 where
  pub read : HasRead v0 v
  pub first : v.is_honest → v0.is_sure → AreFirst numbers v0.content upto

pub noting_begins : (v0 : View) (numbers : BTreeMap NearKey ℕ) → IsEmpty numbers → Noting v0 v0 0 numbers
noting_begins v0 numbers empty = record { read = read_none v0; first = λ honest sure. first_none v0.content numbers empty }

pub noting_goes_on : (v0 v v1 : View) (upto : ℕ) (old new : BTreeMap NearKey ℕ) → Noting v0 v upto old → IsRead {X = Unit {0}} (Ok tt) v v1
    → (v1.is_honest → v.is_sure → IsNoted v.content (upto + 1) old new) → Noting v0 v1 (upto + 1) new
noting_goes_on v0 v v1 upto old new n read noted = record {
  read = read_on v0 v n.read tt v1 read;
  first = λ honest sure.
      let honest_now = read.later.honest honest in
      let here = held_so v0 v n.read (λ c. IsNoted c (upto + 1) old new) honest_now sure (noted honest (n.read.ok.sure honest_now sure)) in
      first_more v0.content upto old new (n.first honest_now sure) here;
}

-- What is near to an instruction is found by the key that is looked for.

some_near : (one : Instructed) (other : Option Instructed) → has_key (near_key one) other ≡ is_some_near one other
some_near one None = refl
some_near one (Some other) = near_by_key one other

find_same : (p q : ℕ → Bool) (ns : List ℕ) → ((n : ℕ) → p n ≡ q n) → find p ns ≡ find q ns
find_same p q [] same = refl
find_same p q (n ∷ ns) same = rw (same n, find_same p q ns same) refl

pub found_nearest : (content : Content) (numbers : BTreeMap NearKey ℕ) (one : Instructed) → AreFirst numbers content (length content.register) → get near_cmp numbers (near_key one) ≡ nearest_number content one
found_nearest content numbers one first =
    first.each (near_key one)
    ∙ find_same (λ n. has_key (near_key one) (unmatched_in content n)) (λ n. is_some_near one (unmatched_in content n)) (numbers_of content) (λ n. some_near one (unmatched_in content n))
