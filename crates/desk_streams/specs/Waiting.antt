-- Bytes that wait to be written.
use Rattle.std.specs.Prelude.{◌<◌, ◌≤◌, ℕ, List, vec_capacity, vec_len}
use Rattle.desk_streams.specs.declared.outbox.Outbox.{Outbox}
use Rattle.desk_streams.specs.declared.outbox.TheConstants.{PIECE}

-- what waits
abbrev pub waits : Outbox → List ℕ
waits outbox = outbox.waiting.items

-- fewer than a piece wait, and there is room for one
pub record HasRoom (outbox : Outbox) : Type 0 where
  pub few : vec_len outbox.waiting < PIECE
  pub room : PIECE ≤ vec_capacity outbox.waiting
