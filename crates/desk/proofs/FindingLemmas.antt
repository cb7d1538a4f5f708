-- What is told of findings.
use Rattle.std.proofs.Common.{◌≡◌, ◌≢◌, ℕ, List, [], ◌∷◌, ◌++◌, map, refl, ap, sym, ◌∙◌}
use Rattle.std.proofs.lemmas.List.Concat.{flat_map-cons}
use Rattle.std.specs.List.{flat_map}
use Rattle.std.specs.Prelude.{Option, Result, Ok, Err, IfOk, OnOk}
use Rattle.std.specs.Io.KnownBytes.{Appends}
use Rattle.desk_book.specs.Asked.{asked_by, mt_of}
use Rattle.desk_book.specs.Lines.{script_lines}
use Rattle.desk_book.specs.Script.{BeginsWith, ask}
use Rattle.desk_book.specs.declared.requests.question.InstructionType.{InstructionType}
use Rattle.desk_book.specs.declared.requests.question.Question.TheVariants.{Message, Operator}
use Rattle.desk_book.specs.declared.requests.question.Request.{Request}
use Rattle.desk.specs.Reason.{IsNoCommand, IsNoMessage, IsUnread, command, message}
use Rattle.desk_words.proofs.WritingLemmas.{both}

pub each_told : {X Y : Type 0} (f : Y → List ℕ) (g : X → Y) (xs : List X) → flat_map (λ x. f (g x)) xs ≡ flat_map f (map g xs)
each_told f g [] = refl
each_told f g (x ∷ xs) = flat_map-cons (λ x. f (g x)) x xs ∙ ap (λ rest. f (g x) ++ rest) (each_told f g xs) ∙ sym (flat_map-cons f (g x) (map g xs))

-- texts are told of each, and then another text
pub told_then : {E : Type 0} {X Y : Type 0} (r : Result (Unit {0}) E) (f : Y → List ℕ) (g : X → Y) (xs : List X) (before between after : Option (List ℕ)) (rest : List ℕ) → Appends before between (flat_map (λ x. f (g x)) xs)
    → OnOk r (Appends between after rest) → OnOk r (Appends before after (flat_map f (map g xs) ++ rest))
told_then (Ok done) f g xs before between after rest front then = both before between after (flat_map (λ x. f (g x)) xs) rest (flat_map f (map g xs) ++ rest) front then (ap (λ text. text ++ rest) (sym (each_told f g xs)))
told_then (Err fault) f g xs before between after rest front then = tt

-- why a command cannot be read is told of a script that asks it
pub asked_command : {X E : Type 0} (r : Result X E) (words : X → List ℕ) (text rest : List ℕ) (request : Request) → BeginsWith (script_lines text) (ask (asked_by request)) rest → request.question ≡ Operator
    → IfOk r (λ x. words x ≢ [] → IsNoCommand request.text.now) → IfOk r (λ x. words x ≢ [] → IsUnread text)
asked_command (Ok x) words text rest request begins is none = λ some. command (asked_by request) rest begins is (none some)
asked_command (Err fault) words text rest request begins is none = tt

-- and why a message cannot be read, of one that sends it
pub asked_message : {X E : Type 0} (r : Result X E) (words : X → List ℕ) (text rest : List ℕ) (request : Request) (sender : List ℕ) (kind : InstructionType) → BeginsWith (script_lines text) (ask (asked_by request)) rest → request.question ≡ Message sender kind
    → IfOk r (λ x. words x ≢ [] → IsNoMessage (mt_of kind) request.text.now) → IfOk r (λ x. words x ≢ [] → IsUnread text)
asked_message (Ok x) words text rest request sender kind begins is none = λ some. message (asked_by request) rest sender kind begins is (none some)
asked_message (Err fault) words text rest request sender kind begins is none = tt
