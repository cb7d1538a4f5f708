-- Members of an object, one after another.
use Rattle.std.proofs.Common.{◌≡◌, ℕ, List, Ok, Err, Result, IfOk, ap, ◌∙◌}
use Rattle.std.specs.Result.{IsOkAnd}
use Rattle.std.specs.declared.alloc.AllocError.{AllocError}
use Rattle.serde_json.specs.Data.{Data, Members, number, put, string, unsigned}
use Rattle.serde_json.specs.View.{view}
use Rattle.serde_json.specs.declared.value.Value.{Value}

module _ (name : List ℕ) (before told more : Members) where
  pub text_told : (text wanted : List ℕ) → text ≡ wanted → before ≡ told → more ≡ put name (string text) before → more ≡ put name (string wanted) told
  text_told text wanted is was adds = adds ∙ ap (λ t. put name (string t) before) is ∙ ap (put name (string wanted)) was

  pub number_told : (n wanted : ℕ) → n ≡ wanted → before ≡ told → more ≡ put name (number (unsigned n)) before → more ≡ put name (number (unsigned wanted)) told
  number_told n wanted is was adds = adds ∙ ap (λ m. put name (number (unsigned m)) before) is ∙ ap (put name (number (unsigned wanted))) was

  pub member_told : (d : Data) → before ≡ told → more ≡ put name d before → more ≡ put name d told
  member_told d was adds = adds ∙ ap (put name d) was

  pub value_told : (made : Result Value AllocError) (d : Data) → IfOk made (λ value. view value ≡ d) → before ≡ told → IsOkAnd made (λ value. more ≡ put name (view value) before) → more ≡ put name d told
  value_told (Ok value) d is was adds = adds ∙ ap (λ x. put name x before) is ∙ ap (put name d) was
  value_told (Err error) d is was adds = absurd adds
