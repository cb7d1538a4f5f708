-- How one entry that was kept fares, as it is taken in once more.
use Rattle.std.specs.Prelude.{◌≡◌, ◌↔◌, ℕ, Bool, IsTrue, List, [], ◌∷◌, ◌++◌, Option, Some, None}
use Rattle.desk_rules.specs.declared.history.entry.Entry.{Entry}
use Rattle.desk_rules.specs.declared.answers.reply.Kept.{Kept}
use Rattle.desk_rules.specs.declared.answers.reply.Reply.{Reply}
use Rattle.desk_rules.specs.declared.answers.verdict.Verdict.TheVariants.{Accept}
use Rattle.desk_rules.specs.Books.{Books}
use Rattle.desk_rules.specs.Content.{Content}
use Rattle.desk_rules.specs.Reply.{reply_to}
use Rattle.desk_rules.specs.Verdict.{IsVerdict}
use Rattle.desk_engine.specs.Applied.{Keeps}
use Rattle.desk_engine.specs.KeptHistory.{CanBeKept, HoldsKept}

-- the entry is accepted, and kept as the last one of longer books, with this reply
pub record IsTakenIn (limit : ℕ) (books : Books) (entry : Entry) (reply : Reply) (new : Content) : Type 0 where
  pub verdict : IsVerdict limit books entry Accept
  pub after : Books
  pub longer : after.history ≡ books.history ++ entry ∷ []
  pub keeps : Keeps limit after new
  pub replied : reply ≡ reply_to after entry

-- the entry is not accepted, and nothing has changed
pub record IsLeftOut (limit : ℕ) (books : Books) (entry : Entry) (old new : Content) : Type 0 where
  pub verdict : IsVerdict limit books entry Accept → ⊥
  pub same : new ≡ old

-- by its reply, if it got one
abbrev pub IsDecided : ℕ → Books → Entry → Option Reply → Content → Content → Type 0
IsDecided limit books entry None old new = IsLeftOut limit books entry old new
IsDecided limit books entry (Some reply) old new = IsTakenIn limit books entry reply new

-- The entry was decided on. The answer is whether it was accepted with the reply that was kept.
pub record IsCompared (limit : ℕ) (books : Books) (kept : Kept) (taken : Bool) (old new : Content) : Type 0 where
  pub reply : Option Reply
  pub decided : IsDecided limit books kept.entry reply old new
  pub compared : IsTrue taken ↔ (reply ≡ Some kept.reply)

-- After what is held so far it comes next. The answer is whether a desk can have kept both; then both are held.
pub record IsNext (limit : ℕ) (before : List Kept) (kept : Kept) (taken : Bool) (new : Content) : Type 0 where
  pub exact : IsTrue taken ↔ CanBeKept limit (before ++ kept ∷ [])
  pub held : IsTrue taken → HoldsKept limit (before ++ kept ∷ []) new
