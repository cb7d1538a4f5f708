-- What a part that is no BIC names.
use Rattle.std.proofs.Common.{◌≡◌, ℕ, List, Option, Some, None, IfNone, subst}
use Rattle.desk_book.specs.Forms.{SpellsBic}
use Rattle.desk_book.specs.declared.requests.question.Question.{Question}
use Rattle.desk_book.specs.declared.requests.question.Question.TheVariants.{Message, Status, Holdings, Sent}
use Rattle.desk_http.specs.Paths.{Names, Path, message, operator, status, holdings, sent, sums}

-- the party that a path begins with, where it has one
abbrev pub party_part : Path → Option (List ℕ)
party_part (message bic mt) = Some bic
party_part (status bic) = Some bic
party_part (holdings bic) = Some bic
party_part (sent bic number) = Some bic
party_part path = None

nobody : (path : Path) (bic : List ℕ) → party_part path ≡ Some bic → ((party : List ℕ) → SpellsBic bic party → ⊥) → (question : Question) → Names path question → ⊥
nobody path bic is none question names = by path question is names
  where
    by : (path : Path) (question : Question) → party_part path ≡ Some bic → Names path question → ⊥
    by (message b mt) (Message sender kind) e n = let same : b ≡ bic = cc in none sender (subst (λ w. SpellsBic w sender) same n.0)
    by (status b) (Status sender) e n = let same : b ≡ bic = cc in none sender (subst (λ w. SpellsBic w sender) same n)
    by (holdings b) (Holdings owner) e n = let same : b ≡ bic = cc in none owner (subst (λ w. SpellsBic w owner) same n)
    by (sent b number) (Sent receiver count) e n = let same : b ≡ bic = cc in none receiver (subst (λ w. SpellsBic w receiver) same n.0)
    by operator question e n = cc
    by sums question e n = cc
    by path question e n = absurd n

pub names_nobody : {T : Type 0} (o : Option T) (path : Path) (bic : List ℕ) → party_part path ≡ Some bic → ((party : List ℕ) → SpellsBic bic party → ⊥) → IfNone o ((question : Question) → Names path question → ⊥)
names_nobody None path bic is none = nobody path bic is none
names_nobody (Some x) path bic is none = tt
