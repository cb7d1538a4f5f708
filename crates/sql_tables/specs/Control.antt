-- What the texts do that begin and end a transaction.
use Rattle.std.specs.Prelude.{◌≡◌, [], ◌∷◌, true, false, IsTrue, List, ℕ, codes}
use Rattle.sqlite.specs.Effect.{Database}
use Rattle.sqlite.specs.State.{State, Savepoint}

abbrev pub begin_text : List ℕ
begin_text = codes "BEGIN"

abbrev pub commit_text : List ℕ
commit_text = codes "COMMIT"

abbrev pub roll_back_text : List ℕ
roll_back_text = codes "ROLLBACK"

abbrev pub probe_text : List ℕ
probe_text = codes "SELECT 1"

abbrev pub save_text : List ℕ
save_text = codes "SAVEPOINT pair"

abbrev pub release_text : List ℕ
release_text = codes "RELEASE pair"

abbrev pub go_back_text : List ℕ
go_back_text = codes "ROLLBACK TO pair"

-- the savepoint of a pair, inside a transaction
abbrev pub mark_at : Database → Savepoint
mark_at db = record { name = codes "pair"; begins = false; db = db }

module _ (old new : State) where
  -- a transaction is open, which sees what was seen before
  pub record Begins : Type 0 where
    pub is_open : IsTrue new.is_open
    pub now : new.now ≡ old.now
    pub committed : new.committed ≡ old.committed
    pub mode : new.in_transaction ≡ true
    pub marks : new.marks ≡ old.marks

  -- what the transaction saw is committed
  pub record Commits : Type 0 where
    pub is_open : IsTrue new.is_open
    pub now : new.now ≡ old.now
    pub committed : new.committed ≡ old.now
    pub mode : new.in_transaction ≡ false
    pub marks : new.marks ≡ []

  -- within the transaction the savepoint is set, where none was
  pub record Saves : Type 0 where
    pub is_open : IsTrue new.is_open
    pub now : new.now ≡ old.now
    pub committed : new.committed ≡ old.committed
    pub mode : new.in_transaction ≡ true
    pub marks : new.marks ≡ mark_at old.now ∷ []

  -- the savepoint is given up, and what was changed since stays
  pub record Releases : Type 0 where
    pub is_open : IsTrue new.is_open
    pub now : new.now ≡ old.now
    pub committed : new.committed ≡ old.committed
    pub mode : new.in_transaction ≡ true
    pub marks : new.marks ≡ []

  -- what was changed since the savepoint, at which the tables were these, is taken back, and the savepoint stays
  pub record GoesBack (db : Database) : Type 0 where
    pub is_open : IsTrue new.is_open
    pub now : new.now ≡ db
    pub committed : new.committed ≡ old.committed
    pub mode : new.in_transaction ≡ true
    pub marks : new.marks ≡ mark_at db ∷ []
