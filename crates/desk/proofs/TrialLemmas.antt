-- What is tried over the desk of a file.
use Rattle.std.proofs.Common.{◌≡◌, ◌≢◌, ℕ, Bool, List, Option, inl, inr, refl, sym, subst}
use Rattle.std.proofs.KnownBytes.{Appends-trans}
use Rattle.std.specs.Prelude.{◌++◌, Result, Ok, Err, IfOk, IsOkAnd, codes}
use Rattle.std.specs.Io.KnownBytes.{Appends}
use Rattle.desk_rules.specs.Books.{Books}
use Rattle.desk.specs.CheckAnswer as checks
use Rattle.desk.specs.CheckAnswer.{text_of_findings}
use Rattle.desk.specs.PlayAnswer as plays
use Rattle.desk.specs.Status.{EndsBy, failure_line}
use Rattle.desk.specs.TrialAnswer.{IsOpenTrialAnswer, IsTrialFrom, told_from, told_unclosed}
use Rattle.desk.specs.declared.answers.trial.Trial.{Trial}
use Rattle.desk.specs.declared.answers.trial.Trial.TheVariants.{Check, Play}
use Rattle.desk.specs.declared.status.Failure.TheVariants.{Storage}
use Rattle.desk.specs.declared.status.Status.{Status}
use Rattle.desk.specs.declared.status.Status.TheVariants.{Fault}

-- what is tried is this
pub tried_as : {E : Type 0} (r : Result Status E) (given : Option (List ℕ)) (U : Type 0) (reads : Bool) (P : List ℕ → Type 0) (books : Books) (trial other : Trial) → trial ≡ other → IfOk r (λ status. IsTrialFrom other books given U reads status P)
    → IfOk r (λ status. IsTrialFrom trial books given U reads status P)
tried_as r given U reads P books trial other is told = subst (λ it. IfOk r (λ status. IsTrialFrom it books given U reads status P)) (sym is) told

module _ (trial : Trial) (books : Books) (given : Option (List ℕ)) (U : Type 0) (reads : Bool) (before mid : Option (List ℕ)) where
  -- a text was told, where that is no fault
  abbrev TellsText : Status → Type 0
  TellsText said = (text : List ℕ) × IsTrialFrom trial books given U reads said (λ told. told ≡ text) × Appends before mid text

-- the text that was told
text_told : (trial : Trial) (books : Books) (given : Option (List ℕ)) (U : Type 0) (reads : Bool) (before mid : Option (List ℕ)) (said : Status) → IsTrialFrom trial books given U reads said (Appends before mid) → said ≢ Fault → TellsText trial books given U reads before mid said
text_told Play books given U reads before mid said (plays.told_answers script text came play done wrote) fine = (text, plays.told_answers script text came play done refl, wrote)
text_told Play books given U reads before mid said (plays.told_no_script fault may told) fine = absurd (fine told.0)
text_told (Check format) books given U reads before mid said (checks.told_script script came (checks.told_findings requests findings are is wrote)) fine =
    (text_of_findings format requests findings, checks.told_script script came (checks.told_findings requests findings are is refl), wrote)
text_told (Check format) books given U reads before mid said (checks.told_script script came (checks.told_memory short told)) fine = absurd (fine told.0)
text_told (Check format) books given U reads before mid said (checks.told_no_script fault may told) fine = absurd (fine told.0)

-- how it ended over a file
module _ (has_closed : Bool) (trial : Trial) (books : Books) (given : Option (List ℕ)) (U : Type 0) (reads : Bool) (before mid after : Option (List ℕ)) where
  ended_by : (said status : Status) → IsTrialFrom trial books given U reads said (Appends before mid) → EndsBy has_closed said status (after ≡ mid) (Appends mid after) → IsOpenTrialAnswer has_closed trial books given U reads status (Appends before after)
  ended_by said status is (inl same) =
      let P : Status → Type 0 = λ s. IsOpenTrialAnswer has_closed trial books given U reads s (Appends before after) in
      subst P (sym same.0) (told_from (subst (λ k. IsTrialFrom trial books given U reads said (Appends before k)) (sym same.1) is) same.2)
  ended_by said status is (inr unclosed) =
      let t = text_told trial books given U reads before mid said is unclosed.0 in
      told_unclosed said t.0 t.1 unclosed.0 unclosed.1 unclosed.2.0 (Appends-trans before mid after t.0 (failure_line Storage ++ codes "\n") t.2 unclosed.2.1)

  pub ended_trial : {E : Type 0} (told ended : Result Status E) → IfOk told (λ status. IsTrialFrom trial books given U reads status (Appends before mid))
      → IfOk ended (λ status. IsOkAnd told (λ said. EndsBy has_closed said status (after ≡ mid) (Appends mid after))) → IfOk ended (λ status. IsOpenTrialAnswer has_closed trial books given U reads status (Appends before after))
  ended_trial told (Err e) is ends = tt
  ended_trial (Err e) (Ok status) is ends = absurd ends
  ended_trial (Ok said) (Ok status) is ends = ended_by said status is ends
