-- What is found by walking the tables is what is looked for.
use Rattle.std.proofs.Common.{◌≡◌, ◌≢◌, inl, inr, refl, ap, sym, subst, ◌∙◌, ℕ, ◌<◌, ◌≤◌, true, false, if◌then◌else◌, Option, Some, None, IfSome, Result, Ok, Err, IfOk, IsErrAnd, IsTrue, arith}
use Rattle.std.proofs.lemmas.Bool.{cases_Bool, cases_lt, false_from_ne_true}
use Rattle.sqlite.specs.Effect.{Database}
use Rattle.sqlite.specs.State.{State as StoreState, HasCleanDisk}
use Rattle.sqlite.specs.declared.error.Error.{Error}
use Rattle.desk_codes.specs.Number.{number_of}
use Rattle.desk_msg.specs.declared.writing.status.Reason.{Reason}
use Rattle.desk_rules.specs.Content.{Content, history_of}
use Rattle.desk_rules.specs.History.{instruction_at}
use Rattle.desk_rules.specs.Settlement.{is_before, is_past}
use Rattle.desk_rules.specs.declared.history.entry.Instructed.{Instructed}
use Rattle.desk_rules.specs.declared.history.pair.Place.{Place}
use Rattle.desk_rules.specs.declared.history.standing.Standing.{Standing}
use Rattle.desk_rules.specs.declared.history.standing.State.{State}
use Rattle.desk_rules.specs.declared.history.standing.State.TheVariants.{Cancelled, Matched, NoInstruction, Settled, Unmatched}
use Rattle.desk_rules.proofs.PlaceLemmas.{before_never, before_through}
use Rattle.desk_register.specs.Looked.{IsDue, IsDuePairAfter, IsFirstOpposite, IsOppositeAt}
use Rattle.sql_entries.specs.Opposites.{IsNextOpposite, IsOppositeEntry}
use Rattle.sql_rows.specs.Standings.{IsNextMatched}
use Rattle.sql_tables.specs.Ends.{ForCause, IfSound, IsLater, IsLook}
use Rattle.sql_tables.proofs.LookLemmas.{look_err, look_ok, look_then}
use Rattle.sql_register.specs.Content.{content_in}
use Rattle.sql_register.specs.Holds.{IsDesk}
use Rattle.sql_register.specs.Walking.{is_unmatched, sooner, IsDueAt}
use Rattle.sql_register.proofs.CauseLemmas.{above, below, caused_error, looked}

-- what is so of a value that was found is so of what is handed on of it
pub on_same : {X E : Type 0} (r : Result X E) (x : X) (P : X → Type 0) → IfOk r (λ y. y ≡ x) → P x → IfOk r P
on_same (Ok y) x P same is = subst P (sym same) is
on_same (Err e) x P same is = tt

-- ---- one look after another

module _ {X : Type 0} (x : X) (a b c : StoreState) (first : IsLook (Ok x) a b) where
  -- what a look shows after one that went well is so of the tables as they were
  pub shown_then : (P : Database → Type 0) → IsLater b c → IfSound b c (IsDesk b.now → P b.now) → IfSound a c (IsDesk a.now → P a.now)
  shown_then P later shows clean is_open has desk =
      let clean1 : HasCleanDisk b = omega (arith, clean, later.clean) in
      let same = first.ok clean1 is_open has in
      subst P same.now (shows clean same.is_open (ap (λ (d : Database). d.schema) same.now ∙ has) (subst IsDesk (sym same.now) desk))

  pub fails_then : (e : Error) (P : Database → Type 0) → IsLater b c → IfSound b c (IsDesk b.now → P b.now → ForCause b c e) → IfSound a c (IsDesk a.now → P a.now → ForCause a c e)
  fails_then e P later fails clean is_open has desk holds =
      caused_error e a b c (IsDesk b.now × P b.now) first.later later (looked x a b (λ d. IsDesk d × P d) first (desk, holds)) (λ clean1 open1 has1 both. fails clean1 open1 has1 both.0 both.1) clean is_open has

  -- a failure that is handed on
  pub look_handed : {Y Z : Type 0} (r : Result Z Error) (e : Error) → IsErrAnd r (λ handed. handed ≡ e) → IsLook {X = Y} (Err e) b c → IsLook r a c
  look_handed (Ok z) e handed look = absurd handed
  look_handed {Z = Z} (Err y) e handed look = subst (λ z. IsLook {X = Z} (Err z) a c) (sym handed) (look_err e a c (look_then x (Err e) a b c first look))

-- a look that went well, and what it showed is refused
pub look_as : {X Y : Type 0} (x : X) (e : Error) (a b : StoreState) → IsLook (Ok x) a b → IsLook {X = Y} (Err e) a b
look_as x e a b look = record {
  ok = λ clean is_open has. tt;
  err = λ clean is_open has. inl (look.ok clean is_open has);
  why = λ clean is_open has inside out. (let same = look.ok clean is_open has in absurd (let bad = subst IsTrue (sym same.mode ∙ out) inside in cc));
  opened = look.opened;
  later = look.later;
}

-- and whatever is made of what it showed
pub look_any : {X Y : Type 0} (x : X) (r : Result Y Error) (a b : StoreState) → IsLook (Ok x) a b → IsLook r a b
look_any x (Ok y) a b look = look_ok x y a b look
look_any x (Err e) a b look = look_as x e a b look

-- ---- opposite instructions

pub unmatched_is : (s : State) → is_unmatched s ≡ true → s ≡ Unmatched
unmatched_is NoInstruction is = absurd (cc)
unmatched_is Unmatched is = refl
unmatched_is (Matched reason) is = absurd (cc)
unmatched_is Cancelled is = absurd (cc)
unmatched_is Settled is = absurd (cc)

pub unmatched_not : (s : State) → is_unmatched s ≡ false → s ≢ Unmatched
unmatched_not NoInstruction not is = absurd (cc)
unmatched_not Unmatched not is = absurd (cc)
unmatched_not (Matched reason) not is = absurd (cc)
unmatched_not Cancelled not is = absurd (cc)
unmatched_not Settled not is = absurd (cc)

module _ (content : Content) (i : Instructed) where
  -- no unmatched opposite instruction has a number up to this one
  abbrev pub IsPassed : ℕ → Type 0
  IsPassed after = (n : ℕ) → n ≤ after → IsOppositeAt content i n → ⊥

  entry_of : (n : ℕ) → IsOppositeAt content i n → IsOppositeEntry (history_of content) i n
  entry_of n at = record { other = at.other; is_other = at.is_other; opposite = at.opposite }

  -- nor one below the next opposite instruction
  passed_below : (after n : ℕ) → IsPassed after → IsNextOpposite (history_of content) i after (Some n) → (k : ℕ) → k < n → IsOppositeAt content i k → ⊥
  passed_below after n passed next k low at = elim (cases_lt after k) [ inl past ↦ next.2 k past low (entry_of k at) | inr not ↦ passed k not at ]

  pub passed_more : (after n : ℕ) → IsPassed after → IsNextOpposite (history_of content) i after (Some n) → (content.standing n).state ≢ Unmatched → IsPassed n
  passed_more after n passed next other k most at = elim (cases_lt k n) [
    | inl low ↦ passed_below after n passed next k low at
    | inr not ↦ let same : k ≡ n = omega (arith, most, not) in other (ap (λ m. (content.standing m).state) (sym same) ∙ at.unmatched)
  ]

  pub first_found : (after n : ℕ) → IsPassed after → IsNextOpposite (history_of content) i after (Some n) → (content.standing n).state ≡ Unmatched → IsFirstOpposite content i (Some n)
  first_found after n passed next unmatched =
      let entry = next.1 in
      (record { other = entry.other; is_other = entry.is_other; opposite = entry.opposite; unmatched = unmatched }, passed_below after n passed next)

  pub none_found : (after : ℕ) → IsPassed after → IsNextOpposite (history_of content) i after None → IsFirstOpposite content i None
  none_found after passed next n at = elim (cases_lt after n) [ inl past ↦ next n past (entry_of n at) | inr not ↦ passed n not at ]

module _ (db : Database) (desk : IsDesk db) where
  pub none_passed : (i : Instructed) → IsPassed (content_in db) i 0
  none_passed i n most at = let some = above db desk n at.other at.is_other in omega (arith, some, most)

  pub opposite_within : (i : Instructed) (after : ℕ) (found : Option ℕ) → IsNextOpposite (history_of (content_in db)) i after found → IfSome found (λ n. (after < n) × (n < 1_000_000_000))
  opposite_within i after None next = tt
  opposite_within i after (Some n) next = (next.0, below db desk n next.1.other next.1.is_other)

-- ---- due pairs

module _ (content : Content) (day : ℕ) (place : Option Place) where
  -- the first due pair among those whose later instruction has at most this number, or there is none
  abbrev pub IsFirstUpTo : ℕ → Option Place → Type 0
  IsFirstUpTo after None = (p : Place) → p.number ≤ after → IsDue content day place p → ⊥
  IsFirstUpTo after (Some p) = IsDue content day place p × ((q : Place) → q.number ≤ after → IsDue content day place q → is_before q p ≡ false)

  pub none_due : IsFirstUpTo 0 None
  none_due p most due = let some = due.pair.is_earlier in omega (arith, some, most)

  -- a number has one due pair at most
  same_place : (p q : Place) → p.number ≡ q.number → IsDue content day place p → IsDue content day place q → p ≡ q
  same_place p q number due other =
      let same : due.pair.later ≡ other.pair.later = (let e = sym due.pair.is_later ∙ ap (instruction_at (history_of content)) number ∙ other.pair.is_later in cc) in
      let days : p.day ≡ q.day = sym due.pair.day ∙ ap (λ (i : Instructed). number_of i.instruction.day) same ∙ other.pair.day in
      λ k. record { day = days k; number = number k }

  not_before : (p q : Place) → q ≡ p → is_before q p ≡ false
  not_before p q same = before_never q p (ap (λ (x : Place). x.day) same) (ap (λ (x : Place). x.number) same)

  -- a due pair up to the next matched number is one up to the number before, or the one of it
  module _ (after n : ℕ) (least : (m : ℕ) (reason : Reason) → (content.standing m).state ≡ Matched reason → after < m → n ≤ m) where
    split : {G : Type 0} (q : Place) → q.number ≤ n → IsDue content day place q → (q.number ≤ after → G) → (q.number ≡ n → G) → G
    split q most due old new = elim (cases_lt after q.number) [
      | inl past ↦ let no_less = least q.number due.pair.reason due.pair.matched past in new (omega (arith, most, no_less))
      | inr not ↦ old not
    ]

    pub first_more : (first found : Option Place) → IsFirstUpTo after first → IsDueAt content day place n found → IsFirstUpTo n (sooner first found)
    first_more None None first here = λ q most due. split q most due (λ old. first q old due) (λ new. here q new due)
    first_more None (Some b) first here =
        (here.1, λ q most due. split q most due (λ old. absurd (first q old due)) (λ new. not_before b q (same_place q b (new ∙ sym here.0) due here.1)))
    first_more (Some a) None first here = (first.0, λ q most due. split q most due (λ old. first.1 q old due) (λ new. absurd (here q new due)))
    first_more (Some a) (Some b) first here = elim (cases_Bool (is_before b a)) [
      | inl before ↦ subst (IsFirstUpTo n) (ap (λ t. if t then Some b else Some a) (sym before)) (
        here.1,
        λ q most due. split q most due
            (λ old. false_from_ne_true (is_before q b) (λ sooner'. let e = before_through q b a sooner' before in let f = first.1 q old due in absurd (cc)))
            (λ new. not_before b q (same_place q b (new ∙ sym here.0) due here.1)),
      )
      | inr not ↦ subst (IsFirstUpTo n) (ap (λ t. if t then Some b else Some a) (sym not)) (
        first.0,
        λ q most due. split q most due
            (λ old. first.1 q old due)
            (λ new. subst (λ x. is_before x a ≡ false) (sym (same_place q b (new ∙ sym here.0) due here.1)) not),
      )
    ]

  -- where no number above this one is matched, all due pairs are up to it
  module _ (after : ℕ) (none : (m : ℕ) (reason : Reason) → (content.standing m).state ≡ Matched reason → after < m → ⊥) where
    up_to : (q : Place) → IsDue content day place q → q.number ≤ after
    up_to q due = elim (cases_lt after q.number) [ inl past ↦ absurd (none q.number due.pair.reason due.pair.matched past) | inr not ↦ not ]

    pub first_all : (first : Option Place) → IsFirstUpTo after first → IsDuePairAfter content day place first
    first_all None first = λ q due. first q (up_to q due) due
    first_all (Some p) first = (first.0, λ q due. first.1 q (up_to q due) due)

  -- by what stands at a number
  module _ (n : ℕ) (later : Instructed) (is : instruction_at (history_of content) n ≡ Some later) where
    pub due_here : (mate : ℕ) (reason : Reason) (p : Place) → p.number ≡ n → (content.standing n).mate ≡ Some mate → (content.standing n).state ≡ Matched reason → mate < n
        → p.day ≡ number_of later.instruction.day → p.day ≤ day → is_past place p ≡ true → IsDue content day place p
    due_here mate reason p number has_mate matched earlier day_is by past = record {
      pair = record {
        later = later;
        mate = mate;
        reason = reason;
        is_later = ap (instruction_at (history_of content)) number ∙ is;
        has_mate = ap (λ k. (content.standing k).mate) number ∙ has_mate;
        is_earlier = omega (arith, number, earlier);
        matched = ap (λ k. (content.standing k).state) number ∙ matched;
        day = sym day_is;
      };
      by = by;
      above = past;
    }

module _ (db : Database) (desk : IsDesk db) where
  -- a matched number is an instruction's
  pub matched_known : {G : Type 0} (n : ℕ) (reason : Reason) → ((content_in db).standing n).state ≡ Matched reason → ((i : Instructed) → instruction_at (history_of (content_in db)) n ≡ Some i → G) → G
  matched_known {G} n reason matched known = go (instruction_at (history_of (content_in db)) n) refl
    where
      go : (o : Option Instructed) → instruction_at (history_of (content_in db)) n ≡ o → G
      go None is = absurd (let none = ap (λ (s : Standing). s.state) (desk.instructions n is) in cc)
      go (Some i) is = known i is

  pub matched_within : (after : ℕ) (found : Option ℕ) → IsNextMatched db after found → IfSome found (λ n. (after < n) × (n < 1_000_000_000))
  matched_within after None next = tt
  matched_within after (Some n) next = (next.0.above, matched_known n next.0.reason next.0.matched (λ i is. below db desk n i is))
