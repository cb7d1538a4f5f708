-- What is told of an answer that is explained, and that each of HTTP's own, and the fault without a number, is.
use Rattle.std.proofs.Common.{◌≡◌, ◌∙◌, ap, ℕ, List, [], ◌∷◌, codes, decimal, Option, Some, None, option_map, refl, subst, sym}
use Rattle.std.specs.Prelude.{IsSome, MatchOption}
use Rattle.std.specs.Fmt.{digits}
use Rattle.desk_http.specs.Refusals.{status_of_refusal}
use Rattle.desk_http.specs.declared.refusal.Refusal.{Refusal}
use Rattle.desk_http.specs.declared.refusal.Refusal.TheVariants.{BadRequest, NotFound, MethodNotAllowed, LengthRequired, PayloadTooLarge, HeaderFieldsTooLarge}
use Rattle.desk_words.specs.Causes.{catalogue}
use Rattle.desk_words.specs.Topics.{explanation, others, topic_text}
use Rattle.desk_words.specs.declared.topics.TheConstants.{NO_ANSWER}
use Rattle.desk_words.specs.declared.topics.Topic.{Topic}
use Rattle.desk.specs.ExplainAnswer.{IsExplainAnswer}
use Rattle.desk.specs.declared.status.Status.{Status}
use Rattle.desk.specs.declared.status.Status.TheVariants.{Done, Refused}

module _ (words : List (List ℕ)) (found : Option Topic) (IsPrinted : List ℕ → Type 0) (same : option_map topic_text found ≡ explanation words) where
  IsTold : Status → Option (List ℕ) → Type 0
  IsTold status text = MatchOption text ((status ≡ Refused) × IsPrinted NO_ANSWER.now) (λ t. (status ≡ Done) × IsPrinted t)

  pub explained_by : (topic : Topic) → found ≡ Some topic → IsPrinted (topic_text topic) → IsExplainAnswer words Done IsPrinted
  unfolding IsTold
  explained_by topic is printed = subst (IsTold Done) (sym (ap (option_map topic_text) is) ∙ same) (refl, printed)

  pub unexplained : found ≡ None → IsPrinted NO_ANSWER.now → IsExplainAnswer words Refused IsPrinted
  unfolding IsTold
  unexplained is printed = subst (IsTold Refused) (sym (ap (option_map topic_text) is) ∙ same) (refl, printed)

pub http_explained : (refusal : Refusal) → IsSome (explanation (codes "refused" ∷ decimal (status_of_refusal refusal) ∷ []))
unfolding catalogue others digits
http_explained BadRequest = refl
http_explained NotFound = refl
http_explained MethodNotAllowed = refl
http_explained LengthRequired = refl
http_explained PayloadTooLarge = refl
http_explained HeaderFieldsTooLarge = refl

pub input_explained : IsSome (explanation (codes "fault" ∷ codes "io" ∷ []))
unfolding catalogue others
input_explained = refl
