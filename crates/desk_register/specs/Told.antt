-- What a register makes of a pair of which it is told.
use Rattle.std.specs.Prelude.{◌≡◌, ℕ, Some}
use Rattle.desk_rules.specs.declared.history.pair.Lack.{Lack}
use Rattle.desk_rules.specs.declared.history.standing.State.TheVariants.{Matched}
use Rattle.desk_rules.specs.Content.{Content}
use Rattle.desk_rules.specs.Standing.{reason_of_lack}
use Rattle.desk_register.specs.Changes.{IsPairAt, standing_both}
use Rattle.desk_register.specs.declared.told.KnownPair.{KnownPair}

-- the content in which both instructions of a pair wait for what it lacks
abbrev pub waiting : ℕ → ℕ → Lack → Content → Content
waiting m n lack content = record content {
  standing = standing_both content.standing m n (Matched (reason_of_lack (Some lack)));
}

-- the pair is the one of this number, and says what its two instructions say
pub record IsKnownAt (content : Content) (n : ℕ) (pair : KnownPair) : Type 0 where
  pub number : pair.number ≡ n
  pub is_pair : IsPairAt content pair.number pair.mate pair.earlier pair.later
