-- The registered securities, gathered one by one in their order, and what is left of them.
use Rattle.std.proofs.Common.{◌≡◌, ◌⊎◌, inl, inr, ℕ, zero, suc, ◌+◌, ◌≤◌, Bool, true, false, List, [], ◌∷◌, ◌++◌, length, Contains, AllPairs, get_or, bytes_eq, Option, Some, None, is_some, refl, ap, sym, ◌∙◌, subst, arith, append_assoc, append-nil}
use Rattle.std.proofs.lemmas.Bool.{both_ways, cases_Bool}
use Rattle.std.proofs.lemmas.List.Elements.{Contains-get_or, Contains-append_left, Contains-push, Contains-push_cases}
use Rattle.std.proofs.lemmas.List.Quantifiers.{all_pairs_push}
use Rattle.std.specs.Ordering.{nat_cmp, is_lt}
use Rattle.std.specs.Cmp.Lexicographic.{slice_cmp}
use Rattle.desk_msg.specs.declared.instruction.Kind.{Kind}
use Rattle.desk_rules.specs.declared.history.entry.Entry.{Entry}
use Rattle.desk_rules.specs.declared.history.entry.Entry.TheVariants.{Participant, Account, Security, Issue, Redeem, PayIn, PayOut, Instruct, Cancel, Run}
use Rattle.desk_rules.specs.Balances.{issued, redeemed}
use Rattle.desk_rules.specs.Books.{Books}
use Rattle.desk_rules.specs.Facts.{kind_by, kind_of, or_else}
use Rattle.desk_rules.proofs.Decided.{In}
use Rattle.desk_rules.specs.Content.{Content, history_of}
use Rattle.desk_register.specs.Looked.{IsLess, IsAboveText, IsRegisteredAbove, IsSecurityAfter, held_of}
use Rattle.desk_register.specs.Registered.{security_by}
use Rattle.desk_register.proofs.CaseLemmas.{bytes_refl}
use Rattle.desk_engine.specs.Applied.{Keeps}
use Rattle.desk_engine.proofs.HeldLemmas.{held_adds_up}
use Rattle.desk_holdings.proofs.AboveLemmas.{above_from, above_then, above_yes, fewer, is_above, left_above, left_most, less_from, less_then, listed_is_left, never_less, not_above, registered}
use Rattle.desk_book.specs.declared.answers.total.SecurityTotal.{SecurityTotal}
use Rattle.desk_book.specs.Totals.{AreTotals, IsTotal}

-- The totals of the securities up to the last one: each that is registered and not above it has its total.
pub record Gathered (content : Content) (last : Option (List ℕ)) (gathered : ℕ) (totals : List SecurityTotal) : Type 0 where
  pub each : (total : SecurityTotal) → Contains totals total → IsTotal content total
  pub in_order : AllPairs (λ a b. IsLess a.isin b.isin) totals
  pub below : (total : SecurityTotal) → Contains totals total → (isin : List ℕ) → IsAboveText last isin → IsLess total.isin isin
  pub all : (isin : List ℕ) → is_some (kind_of (history_of content) isin) ≡ true → is_above last isin ≡ false → (total : SecurityTotal) × Contains totals total × (total.isin ≡ isin)
  pub left : gathered + left_above (history_of content) last ≤ length (history_of content)

pub contains_none : {X : Type 0} (x : X) → Contains [] x → ⊥
contains_none x c = let lt = c.1 in absurd (omega arith)

pub gathers_none : (content : Content) → Gathered content None 0 []
gathers_none content = record {
  each = λ total c. absurd (contains_none total c);
  in_order = λ i j d lt within. absurd (omega arith);
  below = λ total c isin up. absurd (contains_none total c);
  all = λ isin listed low. cc;
  left = (let most = left_most (history_of content) None in omega arith);
}

module _ (content : Content) (last : Option (List ℕ)) (gathered : ℕ) (totals : List SecurityTotal) (g : Gathered content last gathered totals) where
  module _ (isin : List ℕ) (total : SecurityTotal) (after : IsSecurityAfter (history_of content) last (Some isin)) (is : total.isin ≡ isin) (right : IsTotal content total) where
    above_last : IsAboveText last total.isin
    above_last = subst (λ z. IsAboveText last z) (sym is) after.0.1

    more : List SecurityTotal
    more = totals ++ total ∷ []

    gathered_or_new : (other : List ℕ) → is_some (kind_of (history_of content) other) ≡ true → IsLess other isin ⊎ (other ≡ isin)
        → (found : SecurityTotal) × Contains (totals ++ total ∷ []) found × (found.isin ≡ other)
    gathered_or_new other listed (inr same) = (total, Contains-push totals total, is ∙ sym same)
    gathered_or_new other listed (inl less) = elim (cases_Bool (is_above last other)) [
      | inl high ↦ absurd (after.1 other (listed, above_from last other high) less)
      | inr low ↦ (let old = g.all other listed low in (old.0, Contains-append_left totals (total ∷ []) old.0 old.1, old.2))
    ]

    pub gathers_one : Gathered content (Some isin) (gathered + 1) (totals ++ total ∷ [])
    gathers_one = record {
      each = λ t c. elim (Contains-push_cases totals total t c) [ inl old ↦ g.each t old | inr new ↦ subst (λ z. IsTotal content z) new right ];
      in_order = all_pairs_push (λ a b. IsLess a.isin b.isin) totals total g.in_order (λ k d lt. g.below (get_or totals k d) (Contains-get_or totals k d lt) total.isin above_last);
      below = λ t c other up. elim (Contains-push_cases totals total t c) [
        | inl old ↦ g.below t old other (above_then last isin other after.0.1 up)
        | inr new ↦ subst (λ z. IsLess z other) (sym is ∙ ap (λ z. z.isin) new) up
      ];
      all = λ other listed low. gathered_or_new other listed (not_above isin other low);
      left = (let less = fewer (history_of content) last isin after.0 in let had = g.left in omega arith);
    }

  pub gathered_all : ((isin : List ℕ) → IsRegisteredAbove (history_of content) last isin → ⊥) → AreTotals content totals
  gathered_all none = record {
    each = g.each;
    all = λ isin listed. elim (cases_Bool (is_above last isin)) [
      | inl high ↦ absurd (none isin (listed, above_from last isin high))
      | inr low ↦ g.all isin listed low
    ];
    in_order = g.in_order;
  }

  -- as many as there are entries are all of them
  pub gathered_enough : length (history_of content) ≤ gathered → AreTotals content totals
  gathered_enough enough = gathered_all (λ isin listed.
      let some = listed_is_left (history_of content) last isin listed in
      let left = g.left in
      absurd (omega arith))

-- The least name, if there is one, that passes a test.
module _ (p : List ℕ → Bool) where
  record IsLeast (names : List (List ℕ)) (name : List ℕ) : Type 0 where
    passes : p name ≡ true
    kept : In names name
    least : (other : List ℕ) → In names other → p other ≡ true → IsLess other name → ⊥

  abbrev NonePasses : List (List ℕ) → Type 0
  NonePasses names = (other : List ℕ) → In names other → p other ≡ true → ⊥

  module _ (name : List ℕ) (names : List (List ℕ)) where
    -- the others, where the first one passes no test
    skipped : p name ≡ false → ((least : List ℕ) × IsLeast names least) ⊎ NonePasses names → ((least : List ℕ) × IsLeast (name ∷ names) least) ⊎ NonePasses (name ∷ names)
    skipped no_pass (inr none) = inr (λ other i yes_pass. elim i [
      | inl same ↦ both_ways (p name) no_pass (ap p same ∙ yes_pass)
      | inr later ↦ none other later yes_pass
    ])
    skipped no_pass (inl found) = inl (
      found.0,
      record {
        passes = found.1.passes;
        kept = inr found.1.kept;
        least = λ other i yes_pass less. elim i [
          | inl same ↦ both_ways (p name) no_pass (ap p same ∙ yes_pass)
          | inr later ↦ found.1.least other later yes_pass less
        ];
      },
    )

    -- the first one is the least
    first_least : p name ≡ true → ((other : List ℕ) → In names other → p other ≡ true → IsLess other name → ⊥) → IsLeast (name ∷ names) name
    first_least passes rest = record {
      passes = passes;
      kept = inl refl;
      least = λ other i yes_pass less. elim i [
        | inl same ↦ never_less name (subst (λ z. IsLess z name) (sym same) less)
        | inr later ↦ rest other later yes_pass less
      ];
    }

    -- another one is
    other_least : (found : List ℕ) → IsLeast names found → is_lt (slice_cmp nat_cmp name found) ≡ false → IsLeast (name ∷ names) found
    other_least found f not_before = record {
      passes = f.passes;
      kept = inr f.kept;
      least = λ other i yes_pass less. elim i [
        | inl same ↦ both_ways (is_lt (slice_cmp nat_cmp name found)) not_before (ap is_lt (subst (λ z. IsLess z found) (sym same) less))
        | inr later ↦ f.least other later yes_pass less
      ];
    }

    taken : p name ≡ true → ((least : List ℕ) × IsLeast names least) ⊎ NonePasses names → ((least : List ℕ) × IsLeast (name ∷ names) least) ⊎ NonePasses (name ∷ names)
    taken passes (inr none) = inl (name, first_least passes (λ other i yes_pass less. none other i yes_pass))
    taken passes (inl found) = elim (cases_Bool (is_lt (slice_cmp nat_cmp name found.0))) [
      | inl before ↦ inl (name, first_least passes (λ other i yes_pass less. found.1.least other i yes_pass (less_then other name found.0 less (less_from (slice_cmp nat_cmp name found.0) before))))
      | inr after ↦ inl (found.0, other_least found.0 found.1 after)
    ]

  least_or_none : (names : List (List ℕ)) → ((least : List ℕ) × IsLeast names least) ⊎ NonePasses names
  least_or_none [] = inr (λ other i yes_pass. absurd i)
  least_or_none (name ∷ names) = elim (cases_Bool (p name)) [
    | inl passes ↦ taken name names passes (least_or_none names)
    | inr no_pass ↦ skipped name names no_pass (least_or_none names)
  ]

-- The names of the registered securities.

abbrev named_also : Option (List ℕ) → List (List ℕ) → List (List ℕ)
named_also None names = names
named_also (Some name) names = name ∷ names

abbrev names_of : List Entry → List (List ℕ)
names_of [] = []
names_of (entry ∷ history) = named_also (security_by entry) (names_of history)

named_later : (named : Option (List ℕ)) (names : List (List ℕ)) (isin : List ℕ) → In names isin → In (named_also named names) isin
named_later None names isin i = i
named_later (Some name) names isin i = inr i

is_named : (history : List Entry) (entry : Entry) (isin : List ℕ) → In history entry → security_by entry ≡ Some isin → In (names_of history) isin
is_named [] entry isin i is = absurd i
is_named (x ∷ history) entry isin i is = elim i [
  | inl same ↦ subst (λ named. In (named_also named (names_of history)) isin) (sym (ap security_by same ∙ is)) (inl refl)
  | inr later ↦ named_later (security_by x) (names_of history) isin (is_named history entry isin later is)
]

-- a kind that is said, or said by further entries
said_first : (o rest : Option Kind) → is_some o ≡ true → is_some (or_else o rest) ≡ true
said_first None rest e = cc
said_first (Some kind) rest e = refl

said_later : (o rest : Option Kind) → is_some rest ≡ true → is_some (or_else o rest) ≡ true
said_later None rest e = e
said_later (Some kind) rest e = refl

registers_itself : (reference isin : List ℕ) (kind : Kind) → is_some (kind_by isin (Security reference isin kind)) ≡ true
registers_itself reference isin kind = let same : bytes_eq isin isin ≡ true = bytes_refl isin in rw same refl

named_registered : (history : List Entry) (isin : List ℕ) → In (names_of history) isin → is_some (kind_of history isin) ≡ true
named_registered [] isin i = absurd i
named_registered (Security reference name kind ∷ history) isin i = elim i [
  | inl same ↦
      let P : List ℕ → Type 0 = λ z. is_some (kind_by z (Security reference name kind)) ≡ true in
      said_first (kind_by isin (Security reference name kind)) (kind_of history isin) (subst P same (registers_itself reference name kind))
  | inr later ↦ said_later (kind_by isin (Security reference name kind)) (kind_of history isin) (named_registered history isin later)
]
named_registered (Participant reference bic ∷ history) isin i = named_registered history isin i
named_registered (Account reference bic account ∷ history) isin i = named_registered history isin i
named_registered (Issue movement ∷ history) isin i = named_registered history isin i
named_registered (Redeem movement ∷ history) isin i = named_registered history isin i
named_registered (PayIn payment ∷ history) isin i = named_registered history isin i
named_registered (PayOut payment ∷ history) isin i = named_registered history isin i
named_registered (Instruct sender instruction ∷ history) isin i = named_registered history isin i
named_registered (Cancel sender order ∷ history) isin i = named_registered history isin i
named_registered (Run reference day rule ∷ history) isin i = named_registered history isin i

-- the next security, if there is one
next_or_none : (history : List Entry) (last : Option (List ℕ)) → ((isin : List ℕ) × IsSecurityAfter history last (Some isin)) ⊎ IsSecurityAfter history last None
next_or_none history last =
    let listed = λ (isin : List ℕ) (r : is_some (kind_of history isin) ≡ true). (let by = registered history isin r in is_named history by.entry isin by.kept by.is) in
    elim (least_or_none (is_above last) (names_of history)) [
      | inl found ↦ inl (
        found.0,
        (
          (named_registered history found.0 found.1.kept, above_from last found.0 found.1.passes),
          λ other r less. found.1.least other (listed other r.0) (above_yes last other r.1) less,
        ),
      )
      | inr none ↦ inr (λ isin r. none isin (listed isin r.0) (above_yes last isin r.1))
    ]

-- What was gathered goes on to the totals of all securities, where the tables are those of accepted entries.
module _ (limit : ℕ) (books : Books) (content : Content) (keeps : Keeps limit books content) where
  total_of : List ℕ → SecurityTotal
  total_of isin = record { isin = isin; held = held_of content isin; outstanding = held_of content isin }

  is_total : (isin : List ℕ) → is_some (kind_of (history_of content) isin) ≡ true → IsTotal content (total_of isin)
  unfolding total_of
  is_total isin known = record {
    known = known;
    held = refl;
    outstanding = (let P : List Entry → Type 0 = λ h. redeemed h isin + held_of content isin ≡ issued h isin in subst P (sym keeps.tables.history) (held_adds_up limit books content isin keeps));
  }

  ends_here : (totals : List SecurityTotal) → AreTotals content totals → (more : List SecurityTotal) × AreTotals content (totals ++ more)
  ends_here totals are = ([], subst (λ z. AreTotals content z) (sym (append-nil totals)) are)

  goes_on : (turns : ℕ) (last : Option (List ℕ)) (gathered : ℕ) (totals : List SecurityTotal) → Gathered content last gathered totals → length (history_of content) ≤ gathered + turns
      → (more : List SecurityTotal) × AreTotals content (totals ++ more)
  unfolding total_of
  goes_on zero last gathered totals g enough = ends_here totals (gathered_enough content last gathered totals g (omega arith))
  goes_on (suc turns) last gathered totals g enough = elim (next_or_none (history_of content) last) [
    | inr none ↦ ends_here totals (gathered_all content last gathered totals g none)
    | inl next ↦
        let total = total_of next.0 in
        let now = gathers_one content last gathered totals g next.0 total next.1 refl (is_total next.0 next.1.0.0) in
        let more = goes_on turns (Some next.0) (gathered + 1) (totals ++ total ∷ []) now (omega arith) in
        (total ∷ more.0, subst (λ z. AreTotals content z) (append_assoc totals (total ∷ []) more.0) more.1)
  ]

  pub totals_go_on : (last : Option (List ℕ)) (gathered : ℕ) (totals : List SecurityTotal) → Gathered content last gathered totals → (more : List SecurityTotal) × AreTotals content (totals ++ more)
  totals_go_on last gathered totals g = goes_on (length (history_of content)) last gathered totals g (omega arith)

  pub totals_exist : (totals : List SecurityTotal) × AreTotals content totals
  totals_exist = totals_go_on None 0 [] (gathers_none content)
