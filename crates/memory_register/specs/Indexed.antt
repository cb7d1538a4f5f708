-- Look-ups kept beside the rows. Only the invariant of the register, private contracts and proofs speak of it.
use Rattle.std.specs.Prelude.{◌≡◌, ◌≢◌, ℕ, ◌+◌, List, [], ◌++◌, length}
use Rattle.std.specs.BTreeSet.{BTreeSet}
use Rattle.desk_rules.specs.declared.history.entry.Entry.{Entry}
use Rattle.desk_rules.specs.declared.history.pair.Place.{Place}
use Rattle.desk_register.specs.declared.register.Stage.TheVariants.{Idle, Failed}
use Rattle.memory_register.specs.declared.entries.known.Known.{Known}
use Rattle.memory_register.specs.declared.pairs.match_key.MatchKey.{MatchKey}
use Rattle.desk_rules.specs.Content.{Content, history_of}
use Rattle.memory_short.specs.DuePlaces.{HasDue}
use Rattle.memory_register.specs.Known.{AreKnown}
use Rattle.memory_register.specs.Open.{HasOpen}
use Rattle.desk_register.specs.View.{View}

-- What is found by the look-ups is found in what is held, and in what `back` goes back to. After a call that failed nothing
-- is said of what is held.
pub record IsIndexed (view : View) (known : Known) (open_numbers : BTreeSet (MatchKey × ℕ)) (due_places : BTreeSet Place) (noted : List Entry) : Type 0 where
  pub idle : view.stage ≡ Idle → noted ≡ []
  pub keyed : AreKnown known (history_of view.mark ++ noted)
  pub grown : view.stage ≢ Failed → history_of view.content ≡ history_of view.mark ++ noted
  pub open_marked : HasOpen open_numbers view.mark
  pub open_now : view.stage ≢ Failed → HasOpen open_numbers view.content
  pub due_marked : HasDue due_places view.mark
  pub due_now : view.stage ≢ Failed → HasDue due_places view.content

-- what held of a content holds, and of one that has so many entries fewer
pub record HoldsOn (Was Is : Content → Type 0) (content : Content) (noted : ℕ) : Type 0 where
  pub now : Was content → Is content
  pub marked : (mark : Content) → length mark.register + noted ≡ length content.register → Was mark → Is mark
