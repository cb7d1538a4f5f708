-- A script, item by item.
use Rattle.std.proofs.Common.{◌≡◌, ℕ, Bool, List, [], ◌∷◌, ◌++◌, refl, ap, sym, ◌∙◌, subst, append-nil, append_assoc}
use Rattle.std.specs.Prelude.{Option, Result, Ok, Err, OnOk}
use Rattle.std.specs.Io.KnownBytes.{Appends, append_known}
use Rattle.std.proofs.KnownBytes.{Appends-nil, Appends-trans}
use Rattle.desk_rules.specs.declared.answers.reply.Reply.{Reply}
use Rattle.desk_rules.specs.Books.{Books}
use Rattle.desk_register.specs.View.{View, IsLater}
use Rattle.desk_book.specs.declared.fault.Fault.{Fault}
use Rattle.desk_book.specs.Answered.{AnsweredInTurn, says_closed}
use Rattle.desk_book.specs.Asked.{Asked, asked_by}
use Rattle.desk_book.specs.declared.requests.question.Request.{Request}
use Rattle.desk_book.specs.DeskValue.{DeskValue}
use Rattle.desk_book.specs.Held.{Holds, Steps}
use Rattle.desk_book.specs.Left.{AnswersRequest}
use Rattle.desk_book.specs.Played.{HasPlayed, PlaysFront, PlaysScript, answers_text, asked_in, answer_text}
use Rattle.desk_book.specs.Items.{PlaysItem}
use Rattle.desk_book.specs.Lines.{script_lines}
use Rattle.desk_book.specs.Script.{Asking, BeginsWith, Item, Script, ask, bad_line, item_of}
use Rattle.desk_book.specs.declared.requests.script.Item.{Item as ScriptItem}
use Rattle.desk_book.specs.declared.requests.script.Item.TheVariants.{Ask, BadLine}
use Rattle.desk_book.specs.WrittenAnswers.{written_bad_line}
use Rattle.desk_book.proofs.HeadlineLemmas.{promised}
use Rattle.desk_book.proofs.LeftLemmas.{says_so}
use Rattle.desk_streams.proofs.OutboxLemmas.{all_written}
use Rattle.desk_book.proofs.RunLemmas.{blamed_one, blamed_then, run_then}

-- One item.

pub one_played : {R : Type 0} (view : R → View) (is_in_memory : Bool) (books : Books) (asked : Asked) (answer : Result Reply Fault) (old new : DeskValue R) → AnswersRequest view is_in_memory answer old new
    → Steps (view old.register).room books asked answer new.is_closed (view new.register)
    → HasPlayed old.is_closed books (ask asked ∷ []) (answer ∷ []) new.is_closed (view old.register) (view new.register)
one_played view is_in_memory books asked answer old new a s = record {
  last = s.next;
  in_turn = (says_so view is_in_memory answer old new a, (s.next, s.step, (a.closed, refl)));
  holds = s.holds;
  promise = s.promise;
  blame = blamed_one answer (view old.register) (view new.register) a.left.later a.blame;
}

pub item_written : {E : Type 0} (was : Bool) (books : Books) (item : ScriptItem) (request : Request) (answer : Result Reply Fault) (text : List ℕ) (before after : Option (List ℕ)) (is : Bool) (old new : View) (r : Result (Unit {0}) E)
    → item ≡ Ask request → text ≡ answer_text answer → HasPlayed was books (ask (asked_by request) ∷ []) (answer ∷ []) is old new → OnOk r (Appends before after text)
    → OnOk r (PlaysItem was books (item_of item) before after is old new)
item_written was books item request answer text before after is old new (Ok done) same shown played written =
    let P : ScriptItem → Type 0 = λ i. PlaysItem was books (item_of i) before after is old new in
    let Q : List ℕ → Type 0 = λ t. Appends before after t in
    subst P (sym same) (record { answers = answer ∷ []; played = played; written = subst Q (shown ∙ sym (append-nil (answer_text answer))) written })
item_written was books item request answer text before after is old new (Err fault) same shown played written = tt

pub bad_line_played : (was : Bool) (books : Books) (view : View) → Holds was view books → HasPlayed was books (bad_line ∷ []) [] was view view
bad_line_played was books view holds = record {
  last = books;
  in_turn = (refl, refl);
  holds = holds;
  promise = promised was view books holds;
  blame = λ honest device few. refl;
}

pub bad_line_told : {E : Type 0} (was : Bool) (books : Books) (item : ScriptItem) (before after : Option (List ℕ)) (view : View) (r : Result (Unit {0}) E) → item ≡ BadLine → Holds was view books
    → OnOk r (Appends before after written_bad_line) → OnOk r (PlaysItem was books (item_of item) before after was view view)
bad_line_told was books item before after view (Ok done) same holds written =
    let P : ScriptItem → Type 0 = λ i. PlaysItem was books (item_of i) before after was view view in
    let Q : List ℕ → Type 0 = λ t. Appends before after t in
    subst P (sym same) (record { answers = []; played = bad_line_played was books view holds; written = subst Q (sym (append-nil written_bad_line)) written })
bad_line_told was books item before after view (Err fault) same holds written = tt

-- Items one after another.

asked_then : (items more : List Item) → asked_in (items ++ more) ≡ asked_in items ++ asked_in more
asked_then [] more = refl
asked_then (bad_line ∷ items) more = asked_then items more
asked_then (ask asked ∷ items) more = ap (λ rest. asked ∷ rest) (asked_then items more)

text_then : (limit : ℕ) (was : Bool) (books : Books) (items more : List Item) (answers others : List (Result Reply Fault)) (is : Bool) (last : Books) → AnsweredInTurn limit was books (asked_in items) answers is last
    → answers_text (items ++ more) (answers ++ others) ≡ answers_text items answers ++ answers_text more others
text_then limit was books [] more [] others is last run = refl
text_then limit was books [] more (answer ∷ answers) others is last run = absurd run
text_then limit was books (bad_line ∷ items) more answers others is last run =
    ap (λ text. written_bad_line ++ text) (text_then limit was books items more answers others is last run) ∙ sym (append_assoc written_bad_line (answers_text items answers) (answers_text more others))
text_then limit was books (ask asked ∷ items) more [] others is last run = absurd run
text_then limit was books (ask asked ∷ items) more (answer ∷ answers) others is last run =
    ap (λ text. answer_text answer ++ text) (text_then limit (says_closed answer) run.1.0 items more answers others is last run.1.2)
    ∙ sym (append_assoc (answer_text answer) (answers_text items answers) (answers_text more others))

play_then : (was is next : Bool) (books : Books) (front items : List Item) (answers others : List (Result Reply Fault)) (v0 v1 v2 : View) → IsLater v0 v1 → IsLater v1 v2
    → (first : HasPlayed was books front answers is v0 v1) → HasPlayed is first.last items others next v1 v2 → HasPlayed was books (front ++ items) (answers ++ others) next v0 v2
play_then was is next books front items answers others v0 v1 v2 soon later first second =
    let P : ℕ → Type 0 = λ k. AnsweredInTurn k is first.last (asked_in items) others next second.last in
    let Q : List Asked → Type 0 = λ requests. AnsweredInTurn v0.room was books requests (answers ++ others) next second.last in
    let run = run_then v0.room was books (asked_in front) (asked_in items) answers others is next first.last second.last first.in_turn (subst P soon.room second.in_turn) in
    record {
      last = second.last;
      in_turn = subst Q (sym (asked_then front items)) run;
      holds = second.holds;
      promise = second.promise;
      blame = blamed_then answers others v0 v1 v2 later first.blame second.blame;
    }

-- The loop over a script.

-- so far these items were played, and their answers written
pub record SoFar (was : Bool) (books : Books) (script behind : List ℕ) (before after : Option (List ℕ)) (is : Bool) (old new : View) : Type 0 where
  pub front : List Item
  pub spells : (items : List Item) → Script behind items → Script script (front ++ items)
  pub answers : List (Result Reply Fault)
  pub played : HasPlayed was books front answers is old new
  pub written : Appends before after (answers_text front answers)

pub none_so_far : (was : Bool) (books : Books) (script : List ℕ) (before : Option (List ℕ)) (view : View) → Holds was view books → SoFar was books script script before before was view view
none_so_far was books script before view holds = record {
  front = [];
  spells = λ items is. is;
  answers = [];
  played = record { last = books; in_turn = (refl, refl); holds = holds; promise = promised was view books holds; blame = λ honest device few. refl };
  written = Appends-nil before;
}

spells_more : (script behind after : List ℕ) (front : List Item) (item : Item) → ((items : List Item) → Script behind items → Script script (front ++ items)) → BeginsWith (script_lines behind) item after
    → (items : List Item) → Script after items → Script script ((front ++ item ∷ []) ++ items)
spells_more script behind after front item spells first items is =
    let P : List Item → Type 0 = λ xs. Script script xs in
    subst P (sym (append_assoc front (item ∷ []) items)) (spells (item ∷ items) (first.then items is))

pub more_so_far : (v0 v1 v2 : View) (was is next : Bool) (books : Books) (script behind rest : List ℕ) (a b c : Option (List ℕ)) (item : Item) → IsLater v0 v1 → IsLater v1 v2
    → (s : SoFar was books script behind a b is v0 v1) → BeginsWith (script_lines behind) item rest → PlaysItem is s.played.last item b c next v1 v2 → SoFar was books script rest a c next v0 v2
more_so_far v0 v1 v2 was is next books script behind rest a b c item soon later s first p =
    let P : List ℕ → Type 0 = λ text. Appends a c text in
    record {
      front = s.front ++ item ∷ [];
      spells = spells_more script behind rest s.front item s.spells first;
      answers = s.answers ++ p.answers;
      played = play_then was is next books s.front (item ∷ []) s.answers p.answers v0 v1 v2 soon later s.played p.played;
      written = subst P (sym (text_then v0.room was books s.front (item ∷ []) s.answers p.answers is s.played.last s.played.in_turn))
          (Appends-trans a b c (answers_text s.front s.answers) (answers_text (item ∷ []) p.answers) s.written p.written);
    }

pub script_played : (was is : Bool) (books : Books) (script behind : List ℕ) (a b : Option (List ℕ)) (old new : View) → SoFar was books script behind a b is old new → Asking (script_lines behind) []
    → PlaysScript was books script a b is old new
script_played was is books script behind a b old new s none = record {
  items = s.front;
  spells = (let P : List Item → Type 0 = λ items. Script script items in subst P (append-nil s.front) (s.spells [] none));
  answers = s.answers;
  played = s.played;
  written = s.written;
}

pub front_played : (was is : Bool) (books : Books) (script behind : List ℕ) (a b : Option (List ℕ)) (old new : View) → SoFar was books script behind a b is old new → PlaysFront was books script is old new
front_played was is books script behind a b old new s = record { front = s.front; behind = behind; spells = s.spells; answers = s.answers; played = s.played }

pub front_and_one : (v0 v1 v2 : View) (was is next : Bool) (books : Books) (script behind rest : List ℕ) (a b : Option (List ℕ)) (item : Item) → IsLater v0 v1 → IsLater v1 v2
    → (s : SoFar was books script behind a b is v0 v1) → BeginsWith (script_lines behind) item rest → (answers : List (Result Reply Fault)) × HasPlayed is s.played.last (item ∷ []) answers next v1 v2
    → PlaysFront was books script next v0 v2
front_and_one v0 v1 v2 was is next books script behind rest a b item soon later s first p = record {
  front = s.front ++ item ∷ [];
  behind = rest;
  spells = spells_more script behind rest s.front item s.spells first;
  answers = s.answers ++ p.0;
  played = play_then was is next books s.front (item ∷ []) s.answers p.0 v0 v1 v2 soon later s.played p.1;
}

-- what waited is written at the end
pub finished : {E : Type 0} (r : Result (Unit {0}) E) (was is : Bool) (books : Books) (script : List ℕ) (from old new : Option (List ℕ)) (waits : List ℕ) {waited : List ℕ} (v0 v1 : View) → waited ≡ []
    → PlaysScript was books script (append_known from waited) (append_known old waits) is v0 v1 → OnOk r (Appends old new waits) → OnOk r (PlaysScript was books script from new is v0 v1)
finished (Ok done) was is books script from old new waits v0 v1 none played written =
    let P : List ℕ → Type 0 = λ bytes. Appends (append_known from bytes) (append_known old waits) (answers_text played.items played.answers) in
    record {
      items = played.items;
      spells = played.spells;
      answers = played.answers;
      played = played.played;
      written = all_written from old new waits (answers_text played.items played.answers) (subst P none played.written) written;
    }
finished (Err fault) was is books script from old new waits v0 v1 none played written = tt
