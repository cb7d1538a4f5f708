use Rattle.std.proofs.Common.{◌≡◌, inl, inr, ℕ, ◌+◌, ◌-◌, ◌^◌, min, Bool, true, false, cond, List, [], ◌∷◌, Option, None, Some, Ok, Err, Result, IfOk, IfErr, IfSome, ap₂, subst₂}
use Rattle.sqlite_disk.specs.Events.{Event, replay, settled}
use Rattle.sqlite_disk.specs.History.{MayLeave}
use Rattle.sqlite_wal.specs.Recovery.{Image}
use Rattle.sqlite.specs.Files.{file_state}
use Rattle.desk_file.proofs.OrderLemmas.{found_in_order}
use Rattle.desk_file.proofs.files.open_in_order.Goals as goal

-- what is told of what is left, where something is
unopened : {E L : Type 0} {A B : E → L → Type 0} {X : Type 0} (r : Result X (E × Option L)) → ((error : E) (left : L) → A error left → B error left)
    → IfErr r (λ e. IfSome e.1 (A e.0)) → IfErr r (λ e. IfSome e.1 (B e.0))
unopened (Ok x) f a = tt
unopened (Err (error, None)) f a = tt
unopened (Err (error, Some left)) f a = f error left a

abbrev image : List ℕ → List ℕ → Image
image log db = record { log = log; db = db }

abbrev seen : List ℕ → List ℕ → Bool → List Event → List ℕ
seen log db is_log history = (replay (cond is_log log db) history).seen

abbrev caught : List ℕ → List ℕ → Bool → List Event → ℕ
caught log db is_log history = (replay (cond is_log log db) history).caught

abbrev Leaves : Bool → List ℕ → List ℕ → List ℕ → Bool → List Event → Type 0
Leaves mixes log db left is_log history = let m = replay (cond is_log log db) history in MayLeave mixes m.seen m.synced m.steps left

-- a file to which nothing happened holds what it held, also after a crash
settled_leaves : (mixes : Bool) (log db left : List ℕ) (is_log : Bool) (key : ℕ) → Leaves mixes log db left is_log (settled key ∷ []) → left ≡ cond is_log log db
settled_leaves mixes log db left is_log key (inl same) = same
settled_leaves mixes log db left is_log key (inr same) = same

both : {X E : Type 0} {A B C : X → Type 0} (r : Result X E) → ((x : X) → A x → B x → C x) → IfOk r A → IfOk r B → IfOk r C
both (Ok x) f a b = f x a b
both (Err e) f a b = tt

pub returns-clause-order : goal.returns-clause-order
returns-clause-order g c =
    both c.open_from.result
    (λ conn opens finds clean.
    let opened = opens clean in
    let live = opened.1 opened.0.is_open in
    found_in_order _ (file_state conn).committed.trees (file_state conn).committed.schema (finds clean).reads live.1.lists)
    c.open_from.ensures.opened c.open_from.ensures.found

pub returns-clause-cause : goal.returns-clause-cause
returns-clause-cause g c =
    unopened c.open_from.result
    (λ error left it.
    let log : List ℕ = g.S.Start.log in
    let db : List ℕ = g.S.Start.db in
    let mixes : Bool = g.S.Start.is_mixing in
    record {
      files = it.0;
      opened = record {
        holds = ap₂ image (ap₂ (seen log db) it.1.0 it.1.1) (ap₂ (seen log db) it.2.0 it.2.1);
        only = λ later left.
            ap₂ image (settled_leaves mixes log db later.log true it.0.log.key (subst₂ (Leaves mixes log db later.log) it.1.0 it.1.1 left.0))
            (settled_leaves mixes log db later.db false it.0.db.key (subst₂ (Leaves mixes log db later.db) it.2.0 it.2.1 left.1));
        uncaught = ap₂ (λ (a b : ℕ). min (a + b) (2 ^ 64 - 1)) (ap₂ (caught log db) it.1.0 it.1.1) (ap₂ (caught log db) it.2.0 it.2.1);
      };
      ends = it.3;
    })
    c.open_from.ensures.cause
