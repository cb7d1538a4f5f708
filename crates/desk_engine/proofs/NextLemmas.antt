-- What is known over a call that only reads: the next pair of a pass, and what was decided on an entry.
use Rattle.std.proofs.Common.{◌≡◌, ℕ, Bool, List, Option, Some, sym, subst}
use Rattle.std.specs.Prelude.{Result, IfOk}
use Rattle.desk_rules.specs.declared.answers.reply.Reply.{Reply}
use Rattle.desk_rules.specs.declared.answers.verdict.Verdict.{Verdict}
use Rattle.desk_rules.specs.declared.answers.verdict.Verdict.TheVariants.{Accept}
use Rattle.desk_rules.specs.declared.history.entry.Entry.{Entry}
use Rattle.desk_rules.specs.declared.history.pair.Place.{Place}
use Rattle.desk_rules.specs.Books.{Books}
use Rattle.desk_rules.specs.Content.{Content}
use Rattle.desk_rules.specs.Tables.{AreTables}
use Rattle.desk_rules.specs.Verdict.{IsVerdict}
use Rattle.desk_register.specs.Looked.{IsDue}
use Rattle.desk_engine.specs.declared.accepting.Failure.{Failure}
use Rattle.desk_engine.specs.Applied.{CanApply, Keeps}
use Rattle.desk_engine.specs.KeptHistory.{KeepsSome}
use Rattle.desk_engine.specs.Pass.{CanTry, Fares, IsNextPair}
use Rattle.desk_engine.specs.Taken.{IsDecided}
use Rattle.desk_engine.proofs.TryingLemmas.{next_is_due}

module _ (old new : Content) (same : new ≡ old) where
  -- what is due is so still
  pub due_here : (again : Bool) (day : ℕ) (place found : Option Place) (next : Place) → found ≡ Some next → IsNextPair again old day place found → IsDue new day place next
  due_here again day place found next is here = next_is_due again new day place next (subst (λ z. IsNextPair again z day place (Some next)) (sym same) (subst (λ o. IsNextPair again old day place o) is here))

  pub try_here : (room now n day : ℕ) → now ≡ room → CanTry room old n day → CanTry now new n day
  try_here room now n day most can = subst (λ z. CanTry now z n day) (sym same) (subst (λ k. CanTry k old n day) (sym most) can)

  pub fares_so : (n : ℕ) (day : List ℕ) (settles : Bool) (last : Content) → Fares new n day settles last → Fares old n day settles last
  fares_so n day settles last fares = subst (λ z. Fares z n day settles last) same fares

  -- and so is what was kept and decided
  pub decided_so : (room now : ℕ) (books : Books) (entry : Entry) (last : Content) (r : Result (Option Reply) Failure) → now ≡ room
      → (Keeps now books new → IfOk r (λ reply. IsDecided now books entry reply new last)) → Keeps room books old → IfOk r (λ reply. IsDecided room books entry reply old last)
  decided_so room now books entry last r most decided =
      let F : ℕ → Content → Type 0 = λ k z. Keeps k books z → IfOk r (λ reply. IsDecided k books entry reply z last) in
      subst (λ z. F room z) same (subst (λ k. F k new) most decided)

  pub can_apply : (room now : ℕ) (entry : Entry) (verdict : Verdict) → now ≡ room → verdict ≡ Accept → KeepsSome room old → ((books : Books) → AreTables books old → IsVerdict room books entry verdict) → CanApply now entry new
  can_apply room now entry verdict most is some decides =
      let can : CanApply room entry old = record { books = some.books; keeps = some.keeps; verdict = subst (IsVerdict room some.books entry) is (decides some.books some.keeps.tables) } in
      subst (λ z. CanApply now entry z) (sym same) (subst (λ k. CanApply k entry old) (sym most) can)
