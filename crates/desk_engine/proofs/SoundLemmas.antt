-- What is kept is sound.
use Rattle.std.proofs.Common.{◌≡◌, inl, inr, ℕ, List, [], ◌∷◌, ◌++◌, sym, subst, ◌∙◌, arith}
use Rattle.std.specs.Prelude.{Ok, Err}
use Rattle.desk_rules.specs.declared.history.entry.Entry.{Entry}
use Rattle.desk_rules.specs.declared.answers.reply.Sent.{Sent}
use Rattle.desk_rules.specs.Books.{Books}
use Rattle.desk_rules.specs.BothLegs.{ComeInTwos, NeighboursAreOfOne, StandTogether}
use Rattle.desk_rules.specs.Confirmations.{SayConfirmations}
use Rattle.desk_rules.specs.Content.{Content}
use Rattle.desk_rules.specs.WellFormed.{AreWellFormed, IsWellFormed}
use Rattle.desk_rules.proofs.ConfirmedChanges.{confirmed}
use Rattle.desk_rules.proofs.Decided.{Contains-from_In, In-cases, In-from_Contains}
use Rattle.desk_rules.proofs.LegsConfirmed as legs
use Rattle.desk_rules.proofs.LegsMoved.{moves}
use Rattle.desk_rules.proofs.NonNegative.{never_negative}
use Rattle.desk_rules.proofs.NothingLeft as left
use Rattle.desk_register.specs.View.{View}
use Rattle.desk_engine.specs.Accepting.{IsLeft}
use Rattle.desk_engine.specs.Applied.{HasApplied, Keeps}
use Rattle.desk_engine.specs.declared.accepting.Failure.{Failure}
use Rattle.desk_engine.specs.declared.accepting.Failure.TheVariants.{Undone, Lost}
use Rattle.desk_engine.specs.declared.applied.Accepted.{Accepted}
use Rattle.desk_engine.specs.Sound.{IsSound, LeavesSound}
use Rattle.desk_engine.proofs.HeldLemmas.{held_adds_up, held_cash_adds_up}

pub kept_is_sound : (limit : ℕ) (books : Books) (content : Content) → Keeps limit books content → AreWellFormed books.history → IsSound books content
kept_is_sound limit books content keeps formed =
    let are = keeps.tables.are in
    let says = confirmed books are formed in
    let never = never_negative limit books.history books.pairs books.settled keeps.accepted are.pairing are.settlement in
    let S : List Sent → Type 0 = λ messages. SayConfirmations messages says.0 in
    let T : List Sent → Type 0 = ComeInTwos in
    let N : List Sent → Type 0 = λ messages. NeighboursAreOfOne books messages in
    record {
      securities_add_up = λ isin. held_adds_up limit books content isin keeps;
      cash_adds_up = λ ccy. held_cash_adds_up limit books content ccy keeps;
      none_negative = never.now;
      none_negative_between = λ s inside. never.each s (In-from_Contains books.settled s inside);
      confirmations = says.0;
      confirmed = record {
        said = subst S (sym keeps.tables.sent) says.1;
        positions = λ account isin.
            let balance = keeps.tables.positions account isin in
            let come = says.2.credited account isin in
            let gone = says.2.debited account isin in
            omega (arith, balance, come, gone);
        cash = λ bic ccy.
            let balance = keeps.tables.cash bic ccy in
            let come = says.2.paid bic ccy in
            let gone = says.2.paying bic ccy in
            omega (arith, balance, come, gone);
      };
      legs = record {
        in_twos = subst T (sym keeps.tables.sent) (legs.in_twos books are formed);
        together = λ s inside.
            let P : List Sent → Type 0 = λ messages. StandTogether books.history s messages in
            subst P (sym keeps.tables.sent) (legs.stand_together books are formed s (In-from_Contains books.settled s inside));
        neighbours = subst N (sym keeps.tables.sent) (legs.neighbours_are_of_one books are formed);
        moves = λ s settled inside. moves books s settled are inside;
      };
      nothing_left = λ front reference day p. left.nothing_left front reference day books p are;
    }

more_formed : (h : List Entry) (e : Entry) → AreWellFormed h → IsWellFormed e → AreWellFormed (h ++ e ∷ [])
more_formed h e formed one = record {
  each = λ f inside. elim (In-cases h (e ∷ []) f (In-from_Contains (h ++ e ∷ []) f inside)) [
    | inl before ↦ formed.each f (Contains-from_In h f before)
    | inr (inl last) ↦ subst IsWellFormed last one
    | inr (inr none) ↦ absurd none
  ];
}

-- what a step leaves that went well
pub kept_sound : (v0 v1 v2 : View) (books : Books) (entry : Entry) (accepted : Accepted) → IsWellFormed entry → Keeps v0.room books v0.content → AreWellFormed books.history → v1.content ≡ v0.content → v1.room ≡ v0.room
    → (Keeps v1.room books v1.content → HasApplied v1.room books entry accepted v2.content) → LeavesSound books entry (Ok accepted) v2.content
kept_sound v0 v1 v2 books entry accepted one keeps formed same room applies =
    let P : Content → Type 0 = λ c. Keeps v1.room books c in
    let Q : ℕ → Type 0 = λ k. Keeps k books v0.content in
    let applied = applies (subst P (sym same) (subst Q (sym room) keeps)) in
    let F : List Entry → Type 0 = λ h. AreWellFormed h in
    (applied.after, applied.longer, kept_is_sound v1.room applied.after v2.content applied.keeps (subst F (sym applied.longer) (more_formed books.history entry formed one)))

-- and a failure, where the register shows again what it held
pub left_sound : (v0 v2 : View) (content : Content) (books : Books) (entry : Entry) (failure : Failure) → Keeps v0.room books v0.content → AreWellFormed books.history → v2.is_honest
    → (v2.is_sure → content ≡ v0.content) → IsLeft failure content v2 → LeavesSound books entry (Err failure) v2.content
left_sound v0 v2 content books entry (Undone fault) keeps formed honest same left =
    let P : Content → Type 0 = λ c. IsSound books c in
    subst P (sym (left.same honest ∙ same (left.sure honest))) (kept_is_sound v0.room books v0.content keeps formed)
left_sound v0 v2 content books entry Lost keeps formed honest same left = tt
