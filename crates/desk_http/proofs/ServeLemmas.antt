-- A connection's request, asked once, and its response.
use Rattle.std.proofs.Common.{◌≡◌, ℕ, Bool, List, [], ◌∷◌, Option, IfSome, Result, Ok, Err, OnOk, refl, sym, ap, subst, ◌∙◌}
use Rattle.std.specs.Io.KnownBytes.{Appends}
use Rattle.desk_rules.specs.declared.answers.reply.Reply.{Reply}
use Rattle.desk_rules.specs.Books.{Books}
use Rattle.desk_register.specs.View.{View}
use Rattle.desk_book.specs.declared.fault.Fault.{Fault}
use Rattle.desk_book.specs.Asked.{Asked}
use Rattle.desk_book.specs.DeskValue.{DeskValue}
use Rattle.desk_book.specs.Held.{Holds, Steps}
use Rattle.desk_book.specs.Left.{AnswersRequest}
use Rattle.desk_book.proofs.HeadlineLemmas.{promised}
use Rattle.desk_book.proofs.LeftLemmas.{says_so}
use Rattle.desk_book.proofs.RunLemmas.{blamed_one}
use Rattle.desk_http.specs.declared.call.Call.{Call}
use Rattle.desk_http.specs.declared.refusal.Refusal.{Refusal}
use Rattle.desk_http.specs.Connection.{Connection}
use Rattle.desk_http.specs.Decisions.{asked_at, asked_by_found}
use Rattle.desk_http.specs.Served.{Responds, Serves, answer_response, refusal_response}

abbrev pub Asks : Option (List ℕ) → Result Asked Refusal → Type 0
Asks stream outcome = IfSome stream (λ bytes. Connection bytes outcome)

module _ {R : Type 0} (view : R → View) (is_in_memory : Bool) where
  pub one_served : (stream : Option (List ℕ)) (books : Books) (asked : Asked) (answer : Result Reply Fault) (old new : DeskValue R) → Asks stream (Ok asked) → AnswersRequest view is_in_memory answer old new
      → Steps (view old.register).room books asked answer new.is_closed (view new.register) → Serves old.is_closed books stream new.is_closed (view old.register) (view new.register)
  one_served stream books asked answer old new asks a s = record {
    outcome = Ok asked;
    asks = asks;
    answers = answer ∷ [];
    last = s.next;
    in_turn = (says_so view is_in_memory answer old new a, (s.next, s.step, (a.closed, refl)));
    holds = s.holds;
    promise = s.promise;
    blame = blamed_one answer (view old.register) (view new.register) a.left.later a.blame;
  }

  pub one_responded : {E : Type 0} (r : Result (Unit {0}) E) (text : List ℕ) (before after : Option (List ℕ)) (stream : Option (List ℕ)) (books : Books) (asked : Asked) (answer : Result Reply Fault) (old new : DeskValue R)
      → text ≡ answer_response answer → OnOk r (Appends before after text) → Asks stream (Ok asked) → AnswersRequest view is_in_memory answer old new
      → Steps (view old.register).room books asked answer new.is_closed (view new.register) → OnOk r (Responds old.is_closed books stream before after new.is_closed (view old.register) (view new.register))
  unfolding one_served
  one_responded (Ok done) text before after stream books asked answer old new shown written asks a s =
      let P : List ℕ → Type 0 = λ t. Appends before after t in
      record { served = one_served stream books asked answer old new asks a s; written = subst P shown written }
  one_responded (Err fault) text before after stream books asked answer old new shown written asks a s = tt

pub none_served : (stream : Option (List ℕ)) (was : Bool) (books : Books) (refusal : Refusal) (view : View) → Asks stream (Err refusal) → Holds was view books → Serves was books stream was view view
none_served stream was books refusal view asks holds = record {
  outcome = Err refusal;
  asks = asks;
  answers = [];
  last = books;
  in_turn = (refl, refl);
  holds = holds;
  promise = promised was view books holds;
  blame = λ honest device few. refl;
}

pub none_responded : {E : Type 0} (r : Result (Unit {0}) E) (before after : Option (List ℕ)) (stream : Option (List ℕ)) (was : Bool) (books : Books) (refusal : Refusal) (view : View)
    → OnOk r (Appends before after (refusal_response refusal)) → Asks stream (Err refusal) → Holds was view books → OnOk r (Responds was books stream before after was view view)
unfolding none_served
none_responded (Ok done) before after stream was books refusal view written asks holds = record { served = none_served stream was books refusal view asks holds; written = written }
none_responded (Err fault) before after stream was books refusal view written asks holds = tt

-- what was found is asked
pub found_asks : (stream : Option (List ℕ)) (input : List ℕ) (found : Result (Call × ℕ) Refusal) (call : Call) (start : ℕ) (asked : Asked) → found ≡ Ok (call, start) → asked ≡ asked_at input call start → Asks stream (asked_by_found input found)
    → Asks stream (Ok asked)
found_asks stream input found call start asked e same asks =
    let P : Result Asked Refusal → Type 0 = Asks stream in
    subst P (ap (asked_by_found input) e ∙ ap Ok (sym same)) asks

pub found_refused : (stream : Option (List ℕ)) (input : List ℕ) (found : Result (Call × ℕ) Refusal) (refusal : Refusal) → found ≡ Err refusal → Asks stream (asked_by_found input found) → Asks stream (Err refusal)
found_refused stream input found refusal e asks =
    let P : Result Asked Refusal → Type 0 = Asks stream in
    subst P (ap (asked_by_found input) e) asks
