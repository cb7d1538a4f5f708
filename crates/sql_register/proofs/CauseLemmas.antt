-- Why calls on a register's tables fail: for want of memory or size, or where the device failed in them.
use Rattle.std.proofs.Common.{◌≡◌, inl, inr, ℕ, ◌<◌, ◌≤◌, ◌^◌, Bool, true, false, List, [], ◌∷◌, sum_by, bytes_eq, IsTrue, Result, Ok, Err, IfErr, Option, Some, None, refl, sym, ap, subst, ◌∙◌, arith, length, lit<}
use Rattle.std.proofs.lemmas.Bool.{cases_lt}
use Rattle.std.proofs.lemmas.List.{length-map}
use Rattle.std.proofs.lemmas.List.Sums.{sum_by-cons}
use Rattle.sqlite.specs.declared.error.Error.{Error}
use Rattle.sqlite.specs.State.{State, HasCleanDisk}
use Rattle.sqlite.specs.Effect.{Database}
use Rattle.desk_codes.specs.CheckDigit.{IsIsin}
use Rattle.desk_register.specs.Looked.{held_of}
use Rattle.desk_register.proofs.CaseLemmas.{same_bytes}
use Rattle.desk_rules.specs.Balances.{issued, issued_by, movement_of, quantity_if}
use Rattle.desk_rules.specs.Content.{history_of}
use Rattle.desk_rules.specs.Facts.{accounts_of, owner_of}
use Rattle.desk_rules.specs.History.{instruction_at}
use Rattle.desk_rules.specs.WellFormed.{IsWellFormed}
use Rattle.desk_rules.specs.declared.answers.reply.Kept.{Kept}
use Rattle.desk_rules.specs.declared.history.entry.Entry.{Entry}
use Rattle.desk_rules.specs.declared.history.entry.Entry.TheVariants.{Participant, Account, Security, Issue, Redeem, PayIn, PayOut, Instruct, Cancel, Run}
use Rattle.desk_rules.specs.declared.history.entry.Instructed.{Instructed}
use Rattle.desk_rules.proofs.Conservation.{owned}
use Rattle.desk_rules.proofs.Decided.{Contains-from_In, In}
use Rattle.desk_rules.proofs.HistoryLemmas.{instruction_at-known}
use Rattle.sql_rows.specs.Holdings.{HoldsIsins}
use Rattle.sql_tables.specs.Schema.{desk_schema}
use Rattle.sql_tables.specs.Ends.{IfSound, IsLater, ForCause, IsLook, IsWrite}
use Rattle.sql_tables.proofs.EndLemmas.{cause_onward}
use Rattle.sql_register.specs.Content.{content_in}
use Rattle.sql_register.specs.Holds.{IsDesk}
use Rattle.sql_register.specs.Settling.{IsMarked, IsTrial}

-- ---- calls one after another

-- the connection is open over the desk's tables, and this holds
pub record IsReady (s : State) (P : Type 0) : Type 0 where
  pub is_open : IsTrue s.is_open
  pub schema : s.now.schema ≡ desk_schema
  pub holds : P

-- the cause of a failure is one from an earlier state on
pub caused_error : (e : Error) (a b c : State) (P : Type 0) → IsLater a b → IsLater b c → IfSound a b (IsReady b P) → IfSound b c (P → ForCause b c e) → IfSound a c (ForCause a c e)
caused_error e a b c P p later first fails clean is_open has =
    let clean1 : HasCleanDisk b = omega (arith, clean, later.clean) in
    let ready = first clean1 is_open has in
    cause_onward a b c e p later (fails clean ready.is_open ready.schema ready.holds)

pub caused_from : {Y : Type 0} (r : Result Y Error) (a b c : State) (P : Type 0) → IsLater a b → IsLater b c → IfSound a b (IsReady b P) → IfSound b c (P → IfErr r (ForCause b c)) → IfSound a c (IfErr r (ForCause a c))
caused_from (Ok y) a b c P p later first fails = λ clean is_open has. tt
caused_from (Err e) a b c P p later first fails = caused_error e a b c P p later first fails

-- after a look that went well
pub looked : {X : Type 0} (x : X) (a b : State) (P : Database → Type 0) → IsLook (Ok x) a b → P a.now → IfSound a b (IsReady b (P b.now))
looked x a b P look holds clean is_open has =
    let same = look.ok clean is_open has in
    record { is_open = same.is_open; schema = ap (λ (d : Database). d.schema) same.now ∙ has; holds = subst P (sym same.now) holds }

pub looked_then : {X : Type 0} (x : X) (a b c : State) (P : Database → Type 0) → IfSound a b (IsReady b (P b.now)) → IsLook (Ok x) b c → IfSound a c (IsReady c (P c.now))
looked_then x a b c P first look clean is_open has =
    let clean1 : HasCleanDisk b = omega (arith, clean, look.later.clean) in
    let ready = first clean1 is_open has in
    looked x b c P look ready.holds clean ready.is_open ready.schema

-- after a change that went well
pub wrote : {X : Type 0} (x : X) (a b : State) (P : Type 0) → IsWrite (Ok x) a b → IfSound a b P → IfSound a b (IsReady b P)
wrote x a b P write fact clean is_open has =
    let stays = write.ok clean is_open has in
    record { is_open = stays.is_open; schema = stays.schema; holds = fact clean is_open has }

pub wrote_then : {X : Type 0} (x : X) (a b c : State) (P Q : Type 0) → IfSound a b (IsReady b P) → IsWrite (Ok x) b c → IfSound b c (P → Q) → IfSound a c (IsReady c Q)
wrote_then x a b c P Q first write fact clean is_open has =
    let clean1 : HasCleanDisk b = omega (arith, clean, write.later.clean) in
    let ready = first clean1 is_open has in
    let stays = write.ok clean ready.is_open ready.schema in
    record { is_open = stays.is_open; schema = stays.schema; holds = fact clean ready.is_open ready.schema ready.holds }

-- while the savepoint of a pair is set
pub marked : {X : Type 0} (x : X) (a b : State) (P : Type 0) → IsTrial (Ok x) a b (IsMarked a b) → a.in_transaction ≡ true → a.marks ≡ [] → IfSound a b (IsMarked a b → P) → IfSound a b (IsReady b P)
marked x a b P trial inside none fact clean is_open has =
    let mark = trial.ok clean is_open has inside none in
    record { is_open = mark.is_open; schema = mark.schema; holds = fact clean is_open has mark }

-- ---- numbers of instructions

-- an entry's number is one that a row can hold
pub number_fits : (n : ℕ) → n < 1_000_000_000 → n < 2 ^ 63
number_fits n small = let room : 1_000_000_000 < 2 ^ 63 = lit< tt in omega (arith, small, room)

module _ (db : Database) (desk : IsDesk db) (n : ℕ) (i : Instructed) (is : instruction_at (history_of (content_in db)) n ≡ Some i) where
  known : (0 < n) × (n ≤ length (history_of (content_in db)))
  known = instruction_at-known (history_of (content_in db)) n i is

  pub above : 0 < n
  above = known.0

  pub below : n < 1_000_000_000
  below =
      let size = length-map (content_in db).register (λ (k : Kept). k.entry) in
      let least = known.1 in
      let most = desk.within in
      omega (arith, size, least, most)

-- ---- what an account holds some of is an ISIN

within_sum : (f : List ℕ → ℕ) (xs : List (List ℕ)) (x : List ℕ) → In xs x → f x ≤ sum_by f xs
within_sum f [] x is = absurd is
within_sum f (y ∷ ys) x (inl same) = let sum = sum_by-cons f y ys in let here : f y ≡ f x = ap f same in omega (arith, sum, here)
within_sum f (y ∷ ys) x (inr later) = let sum = sum_by-cons f y ys in let less = within_sum f ys x later in omega (arith, sum, less)

quantity_some : (test : Bool) (quantity : ℕ) → 0 < quantity_if test quantity → test ≡ true
quantity_some true quantity some = refl
quantity_some false quantity some = absurd (omega (arith, some))

issues : (isin : List ℕ) (e : Entry) → IsWellFormed e → 0 < issued_by (movement_of isin) e → IsIsin isin
issues isin (Participant reference bic) formed some = absurd (omega (arith, some))
issues isin (Account reference bic account) formed some = absurd (omega (arith, some))
issues isin (Security reference i kind) formed some = absurd (omega (arith, some))
issues isin (Issue m) formed some = subst IsIsin (same_bytes m.isin isin (quantity_some (bytes_eq m.isin isin) m.quantity some)) formed.isin
issues isin (Redeem m) formed some = absurd (omega (arith, some))
issues isin (PayIn x) formed some = absurd (omega (arith, some))
issues isin (PayOut x) formed some = absurd (omega (arith, some))
issues isin (Instruct sender i) formed some = absurd (omega (arith, some))
issues isin (Cancel sender order) formed some = absurd (omega (arith, some))
issues isin (Run reference day rule) formed some = absurd (omega (arith, some))

issued_some : (isin : List ℕ) (h : List Entry) → ((e : Entry) → In h e → IsWellFormed e) → 0 < issued h isin → IsIsin isin
issued_some isin [] formed some = absurd (omega (arith, some))
issued_some isin (e ∷ h) formed some =
    let sum = sum_by-cons (issued_by (movement_of isin)) e h in
    elim (cases_lt 0 (issued_by (movement_of isin) e)) [
      | inl here ↦ issues isin e (formed e (inl refl)) here
      | inr none ↦ issued_some isin h (λ x i. formed x (inr i)) (omega (arith, some, sum, none))
    ]

owner_cases : {G : Type 0} (o : Option (List ℕ)) → (o ≡ None → G) → ((bic : List ℕ) → o ≡ Some bic → G) → G
owner_cases None none some = none refl
owner_cases (Some bic) none some = some bic refl

pub holds_isins : (db : Database) → IsDesk db → (account : List ℕ) → HoldsIsins db account
holds_isins db desk account isin some =
    let content = content_in db in
    let h = history_of content in
    let some' : 0 < content.position account isin = some in
    owner_cases (owner_of h account)
    (λ none. absurd (let nothing = desk.totals.no_stranger account isin none in omega (arith, some', nothing)))
    (λ bic owner.
    let part : content.position account isin ≤ held_of content isin = within_sum (λ a. content.position a isin) (accounts_of h) account (owned h account bic owner) in
    let held = desk.totals.held isin in
    let whole = desk.totals.outstanding isin in
    issued_some isin h (λ e i. desk.formed.each e (Contains-from_In h e i)) (omega (arith, some', part, held, whole)))
