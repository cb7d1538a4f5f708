-- A call on the desk's tables, as clauses name it: by the session before and after, and what a session shows of its database.
use Rattle.std.specs.Prelude.{Result, IfErr}
use Rattle.sqlite.specs.declared.error.Error.{Error}
use Rattle.sqlite.specs.Effect.{Database}
use Rattle.sqlite.specs.Schema.{Schema}
use Rattle.sqlite.specs.State.{State}
use Rattle.sql_tables.specs.Ends.{ForCause, IfSound, IfSoundIn, IsLook, IsLookIn, IsWrite}

module _ {S : Type 0} (state : S → State) where
  -- what is seen
  abbrev pub tables : S → Database
  tables session = (state session).now

  module _ (old new : S) where
    -- a fact, where answers over the call are to be trusted
    abbrev pub Soundly : Type 0 → Type 0
    Soundly fact = IfSound (state old) (state new) fact

    -- the same over tables of a schema
    abbrev pub SoundlyIn : Schema → Type 0 → Type 0
    SoundlyIn schema fact = IfSoundIn schema (state old) (state new) fact

    abbrev pub LooksIn : Schema → {X : Type 0} → Result X Error → Type 0
    LooksIn schema result = IsLookIn schema result (state old) (state new)

    -- the call only reads, and ends so
    abbrev pub Looks : {X : Type 0} → Result X Error → Type 0
    Looks result = IsLook result (state old) (state new)

    -- the call changes the tables, and ends so
    abbrev pub Writes : {X : Type 0} → Result X Error → Type 0
    Writes result = IsWrite result (state old) (state new)

    -- the call fails only for want, or where the device fails in it
    abbrev pub FailsForCause : {X : Type 0} → Result X Error → Type 0
    FailsForCause result = IfErr result (ForCause (state old) (state new))
