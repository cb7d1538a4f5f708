-- Files, taken one after another.
use Rattle.std.proofs.Common.{◌≡◌, ℕ, ◌+◌, ◌<◌, ◌≤◌, Bool, true, List, [], ◌∷◌, ◌++◌, length, map, take, get_or, refl, sym, ◌∙◌, ap, subst, arith, All, Option, Some, None}
use Rattle.std.specs.Prelude.{Result, unwrap_or}
use Rattle.std.specs.List.{slice_get}
use Rattle.std.proofs.Math.ListN.{get_or-map}
use Rattle.std.proofs.lemmas.List.{length-map, map-append, take_all, take_more}
use Rattle.std.proofs.lemmas.Option.{slice_get_within, unwrap_or-slice_get}
use Rattle.std.proofs.lemmas.List.Elements.{All-cons, All-contains, All-head, All-nil, All-push, All-tail, Contains-get_or}
use Rattle.desk_rules.specs.declared.answers.reply.Reply.{Reply}
use Rattle.desk_rules.specs.Books.{Books}
use Rattle.desk_register.specs.View.{View, IfCounted, IsLater}
use Rattle.desk_book.specs.declared.fault.Fault.{Fault}
use Rattle.desk_book.specs.Answered.{AnsweredInTurn, AreBlamed, BlamesRequest, says_closed}
use Rattle.desk_book.specs.Asked.{Asked}
use Rattle.desk_book.specs.Held.{Holds, Steps}
use Rattle.desk_book.proofs.HeadlineLemmas.{promised}
use Rattle.desk_book.proofs.RunLemmas.{blamed, run_then}
use Rattle.desk_drop.specs.declared.file.DropFile.{DropFile}
use Rattle.desk_drop.specs.declared.file.DropReply.{DropReply}
use Rattle.desk_drop.specs.Folder.{File, IsItemOf, IsRequestOf, Item, file_of, place_in}
use Rattle.desk_drop.specs.Places.{IsOrder, IsPlaceOf}
use Rattle.desk_drop.specs.Taken.{AreAnswered, HasTaken, answers_in, asked_in}

-- One file.

pub asked_one : (limit : ℕ) (was : Bool) (books : Books) (asked : Asked) (answer : Result Reply Fault) (is : Bool) (view : View) → is ≡ says_closed answer → (was ≡ true → says_closed answer ≡ true)
    → Steps limit books asked answer is view → HasTaken limit was books (Some asked ∷ []) (answer ∷ []) is view
asked_one limit was books asked answer is view closed stays s = record { last = s.next; in_turn = (stays, (s.next, s.step, (closed, refl))); holds = s.holds; promise = s.promise }

pub refused_one : (limit : ℕ) (was : Bool) (books : Books) (answer : Result Reply Fault) (view : View) → Holds was view books → HasTaken limit was books (None ∷ []) (answer ∷ []) was view
refused_one limit was books answer view holds = record { last = books; in_turn = (refl, refl); holds = holds; promise = promised was view books holds }

-- One after another.

pub answered_then : (was mid is : Bool) (front more : List (Option Asked)) (answers others : List (Result Reply Fault)) → AreAnswered was front answers mid → AreAnswered mid more others is
    → AreAnswered was (front ++ more) (answers ++ others) is
answered_then was mid is [] more [] others first second = (let P : Bool → Type 0 = λ b. AreAnswered b more others is in subst P first second)
answered_then was mid is [] more (a ∷ answers) others first second = absurd first
answered_then was mid is (Some asked ∷ front) more [] others first second = absurd first
answered_then was mid is (None ∷ front) more [] others first second = absurd first
answered_then was mid is (Some asked ∷ front) more (a ∷ answers) others first second = (first.0, answered_then (says_closed a) mid is front more answers others first.1 second)
answered_then was mid is (None ∷ front) more (a ∷ answers) others first second = (first.0, answered_then was mid is front more answers others first.1 second)

asked_then : (front more : List (Option Asked)) → asked_in (front ++ more) ≡ asked_in front ++ asked_in more
asked_then [] more = refl
asked_then (Some asked ∷ front) more = ap (λ xs. asked ∷ xs) (asked_then front more)
asked_then (None ∷ front) more = asked_then front more

answers_then : (was is : Bool) (front more : List (Option Asked)) (answers others : List (Result Reply Fault)) → AreAnswered was front answers is → answers_in (front ++ more) (answers ++ others) ≡ answers_in front answers ++ answers_in more others
answers_then was is [] more [] others first = refl
answers_then was is [] more (a ∷ answers) others first = absurd first
answers_then was is (Some asked ∷ front) more [] others first = absurd first
answers_then was is (None ∷ front) more [] others first = absurd first
answers_then was is (Some asked ∷ front) more (a ∷ answers) others first = ap (λ xs. a ∷ xs) (answers_then (says_closed a) is front more answers others first.1)
answers_then was is (None ∷ front) more (a ∷ answers) others first = answers_then was is front more answers others first.1

pub taken_then : (limit : ℕ) (was mid is : Bool) (books : Books) (front more : List (Option Asked)) (answers others : List (Result Reply Fault)) (v1 v2 : View) → AreAnswered was front answers mid
    → (first : HasTaken limit was books front answers mid v1) → HasTaken limit mid first.last more others is v2 → HasTaken limit was books (front ++ more) (answers ++ others) is v2
taken_then limit was mid is books front more answers others v1 v2 each first second =
    let A : List Asked → Type 0 = λ xs. AnsweredInTurn limit was books xs (answers_in front answers ++ answers_in more others) is second.last in
    let B : List (Result Reply Fault) → Type 0 = λ xs. AnsweredInTurn limit was books (asked_in (front ++ more)) xs is second.last in
    let run = run_then limit was books (asked_in front) (asked_in more) (answers_in front answers) (answers_in more others) mid is first.last second.last first.in_turn second.in_turn in
    record {
      last = second.last;
      in_turn = subst B (sym (answers_then was mid front more answers others each)) (subst A (sym (asked_then front more)) run);
      holds = second.holds;
      promise = second.promise;
    }

-- no file
pub none_taken : (limit : ℕ) (was : Bool) (books : Books) (view : View) → Holds was view books → HasTaken limit was books [] [] was view
none_taken limit was books view holds = record { last = books; in_turn = (refl, refl); holds = holds; promise = promised was view books holds }

-- The files up to a place.

-- the first of the places, taken, and answered so
pub record SoFar (files : List File) (places : List (List ℕ × ℕ)) (i : ℕ) (indices : List ℕ) (answers : List (Result Reply Fault)) (was is : Bool) (v0 v1 : View) : Type 0 where
  pub front : List Item
  pub are : All (IsItemOf files) front
  pub placed : map place_in front ≡ take i places
  pub told : indices ≡ map (λ item. item.index) front
  pub answered : AreAnswered was (map (λ item. item.request) front) answers is
  pub taken : (books : Books) → v1.is_honest → Holds was v0 books → HasTaken v0.room was books (map (λ item. item.request) front) answers is v1

pub none_so_far : (files : List File) (places : List (List ℕ × ℕ)) (was : Bool) (view : View) → SoFar files places 0 [] [] was was view view
none_so_far files places was view = record {
  front = [];
  are = All-nil (IsItemOf files);
  placed = refl;
  told = refl;
  answered = refl;
  taken = λ books honest holds. none_taken view.room was books view holds;
}

-- a file was asked what its name says, and answered so
abbrev pub Asks : File → Result Reply Fault → Bool → Bool → View → View → Type 0
Asks file answer was is v1 v2 = (request : Option Asked) × IsRequestOf file request × AreAnswered was (request ∷ []) (answer ∷ []) is
    × ((books : Books) → v2.is_honest → Holds was v1 books → HasTaken v1.room was books (request ∷ []) (answer ∷ []) is v2)

pub more_so_far : (files : List File) (places : List (List ℕ × ℕ)) (i : ℕ) (d : List ℕ × ℕ) (indices more : List ℕ) (answers others : List (Result Reply Fault)) (answer : Result Reply Fault) (was mid is : Bool) (v0 v1 v2 : View) → IsLater v0 v1
    → IsLater v1 v2 → i < length places → (place : IsPlaceOf files (get_or places i d)) → more ≡ indices ++ (get_or places i d).1 ∷ [] → others ≡ answers ++ answer ∷ [] → SoFar files places i indices answers was mid v0 v1
    → Asks place.file answer mid is v1 v2 → SoFar files places (i + 1) more others was is v0 v2
more_so_far files places i d indices more answers others answer was mid is v0 v1 v2 soon later lt place grown longer s a =
    let p = get_or places i d in
    let item : Item = record { name = p.0; index = p.1; request = a.0 } in
    let front = map (λ (x : Item). x.request) s.front in
    let requests : map (λ (x : Item). x.request) (s.front ++ item ∷ []) ≡ front ++ a.0 ∷ [] = map-append (λ (x : Item). x.request) s.front (item ∷ []) in
    let both = answered_then was mid is front (a.0 ∷ []) answers (answer ∷ []) s.answered a.2 in
    let A : List (Option Asked) → List (Result Reply Fault) → Type 0 = λ rs xs. AreAnswered was rs xs is in
    record {
      front = s.front ++ item ∷ [];
      are = All-push (IsItemOf files) s.front item s.are (record { file = place.file; stands = place.stands; named = place.named; asks = a.1 });
      placed = map-append place_in s.front (item ∷ []) ∙ ap (λ ps. ps ++ p ∷ []) s.placed ∙ sym (take_more places i d lt);
      told = grown ∙ ap (λ ks. ks ++ p.1 ∷ []) s.told ∙ sym (map-append (λ (x : Item). x.index) s.front (item ∷ []));
      answered = subst (λ rs. A rs others) (sym requests) (subst (λ xs. A (front ++ a.0 ∷ []) xs) (sym longer) both);
      taken = λ books honest holds.
          (let T : List (Option Asked) → List (Result Reply Fault) → Type 0 = λ rs xs. HasTaken v0.room was books rs xs is v2 in
          let first = s.taken books (later.honest honest) holds in
          let L : ℕ → Type 0 = λ k. HasTaken k mid first.last (a.0 ∷ []) (answer ∷ []) is v2 in
          let second = subst L soon.room (a.3 first.last honest first.holds) in
          subst (λ rs. T rs others) (sym requests) (subst (λ xs. T (front ++ a.0 ∷ []) xs) (sym longer) (taken_then v0.room was mid is books front (a.0 ∷ []) answers (answer ∷ []) v1 v2 s.answered first second)));
    }

-- the file of the code at a place
pub file_at : (files : List DropFile) (k : ℕ) (d : DropFile) (file : File) → slice_get (map file_of files) k ≡ Some file → file_of (get_or files k d) ≡ file
file_at files k d file stands = sym (get_or-map file_of files k d) ∙ sym (unwrap_or-slice_get (map file_of files) k (file_of d)) ∙ ap (λ o. unwrap_or o (file_of d)) stands

pub place_within : (files : List DropFile) (k : ℕ) (file : File) → slice_get (map file_of files) k ≡ Some file → k < length files
place_within files k file stands = (let lt = slice_get_within (map file_of files) k file stands in let n = length-map files file_of in omega arith)

-- the place at an index of the order
pub place_at : (files : List File) (places : List (List ℕ × ℕ)) (i : ℕ) (d : List ℕ × ℕ) → IsOrder files places → i < length places → IsPlaceOf files (get_or places i d)
place_at files places i d order lt = All-contains (IsPlaceOf files) places (get_or places i d) order.are (Contains-get_or places i d lt)

-- each index is one of a file
pub all_within : (files : List DropFile) (items : List Item) → All (IsItemOf (map file_of files)) items → All (λ k. k < length files) (map (λ item. item.index) items)
all_within files [] are = All-nil (λ k. k < length files)
all_within files (item ∷ items) are =
    let first = All-head (IsItemOf (map file_of files)) item items are in
    All-cons (λ k. k < length files) item.index (map (λ (x : Item). x.index) items) (place_within files item.index first.file first.stands) (all_within files items (All-tail (IsItemOf (map file_of files)) item items are))

-- Places as the code has them, by f.
module _ {X : Type 0} (f : X → List ℕ × ℕ) where
  pub index_within : (files : List DropFile) (xs : List X) (i : ℕ) (x : X) → IsOrder (map file_of files) (map f xs) → i < length xs → (f (get_or xs i x)).1 < length files
  index_within files xs i x order lt =
      let n = length-map xs f in
      let place = place_at (map file_of files) (map f xs) i (f x) order (omega arith) in
      let P : List ℕ × ℕ → Type 0 = λ p. p.1 < length files in
      subst P (get_or-map f xs i x) (place_within files (get_or (map f xs) i (f x)).1 place.file place.stands)

  pub all_taken : (xs : List X) (i : ℕ) → length xs ≤ i → take i (map f xs) ≡ map f xs
  all_taken xs i all = take_all i (map f xs) (let n = length-map xs f in omega arith)

  pub step_taken : (files : List DropFile) (xs : List X) (i : ℕ) (x : X) (d : DropFile) (replies more : List DropReply) (reply : DropReply) (was mid is : Bool) (v0 v1 v2 : View) → IsOrder (map file_of files) (map f xs)
      → IsLater v0 v1 → IsLater v1 v2 → i < length xs → reply.index ≡ (f (get_or xs i x)).1 → more ≡ replies ++ reply ∷ []
      → SoFar (map file_of files) (map f xs) i (map (λ (r : DropReply). r.index) replies) (map (λ (r : DropReply). r.answer) replies) was mid v0 v1
      → Asks (file_of (get_or files (f (get_or xs i x)).1 d)) reply.answer mid is v1 v2
      → SoFar (map file_of files) (map f xs) (i + 1) (map (λ (r : DropReply). r.index) more) (map (λ (r : DropReply). r.answer) more) was is v0 v2
  step_taken files xs i x d replies more reply was mid is v0 v1 v2 order soon later lt told grown s a =
      let n = length-map xs f in
      let same = get_or-map f xs i x in
      let place = place_at (map file_of files) (map f xs) i (f x) order (omega arith) in
      let k = (get_or (map f xs) i (f x)).1 in
      let at : k ≡ (f (get_or xs i x)).1 = ap (λ (p : List ℕ × ℕ). p.1) same in
      let file : file_of (get_or files (f (get_or xs i x)).1 d) ≡ place.file = ap (λ j. file_of (get_or files j d)) (sym at) ∙ file_at files k d place.file place.stands in
      let A : File → Type 0 = λ x. Asks x reply.answer mid is v1 v2 in
      let indices : map (λ (r : DropReply). r.index) more ≡ map (λ (r : DropReply). r.index) replies ++ k ∷ [] =
      ap (map (λ (r : DropReply). r.index)) grown ∙ map-append (λ (r : DropReply). r.index) replies (reply ∷ []) ∙ ap (λ j. map (λ (r : DropReply). r.index) replies ++ j ∷ []) (told ∙ sym at) in
      let answers : map (λ (r : DropReply). r.answer) more ≡ map (λ (r : DropReply). r.answer) replies ++ reply.answer ∷ [] =
      ap (map (λ (r : DropReply). r.answer)) grown ∙ map-append (λ (r : DropReply). r.answer) replies (reply ∷ []) in
      more_so_far (map file_of files) (map f xs) i (f x) (map (λ (r : DropReply). r.index) replies) (map (λ (r : DropReply). r.index) more) (map (λ (r : DropReply). r.answer) replies) (map (λ (r : DropReply). r.answer) more) reply.answer
      was mid is v0 v1 v2 soon later (omega arith) place indices answers s (subst A file a)

pub step_blamed : (replies more : List DropReply) (reply : DropReply) (v0 v1 v2 : View) → IsLater v1 v2 → more ≡ replies ++ reply ∷ []
    → IfCounted v1 (AreBlamed (map (λ (r : DropReply). r.answer) replies) v0.device.failures v1.device.failures) → BlamesRequest reply.answer v1 v2 → IfCounted v2 (AreBlamed (map (λ (r : DropReply). r.answer) more) v0.device.failures v2.device.failures)
step_blamed replies more reply v0 v1 v2 later grown before now =
    let answers : map (λ (r : DropReply). r.answer) more ≡ map (λ (r : DropReply). r.answer) replies ++ reply.answer ∷ [] =
    ap (map (λ (r : DropReply). r.answer)) grown ∙ map-append (λ (r : DropReply). r.answer) replies (reply ∷ []) in
    let P : List (Result Reply Fault) → Type 0 = λ xs. IfCounted v2 (AreBlamed xs v0.device.failures v2.device.failures) in
    subst P (sym answers) (blamed v0 v1 v2 (map (λ (r : DropReply). r.answer) replies) reply.answer later before now)

-- no reply
pub none_blamed : (replies : List DropReply) (view : View) → replies ≡ [] → IfCounted view (AreBlamed (map (λ (r : DropReply). r.answer) replies) view.device.failures view.device.failures)
none_blamed replies view none =
    let P : List DropReply → Type 0 = λ rs. IfCounted view (AreBlamed (map (λ (r : DropReply). r.answer) rs) view.device.failures view.device.failures) in
    subst P (sym none) (λ honest device few. refl)

pub none_replied : (files : List File) (places : List (List ℕ × ℕ)) (replies : List DropReply) (was : Bool) (view : View) → replies ≡ []
    → SoFar files places 0 (map (λ (r : DropReply). r.index) replies) (map (λ (r : DropReply). r.answer) replies) was was view view
none_replied files places replies was view none =
    let P : List DropReply → Type 0 = λ rs. SoFar files places 0 (map (λ (r : DropReply). r.index) rs) (map (λ (r : DropReply). r.answer) rs) was was view view in
    subst P (sym none) (none_so_far files places was view)

-- all replies are those of files
pub replies_within : (files : List DropFile) (items : List Item) (replies : List DropReply) → All (IsItemOf (map file_of files)) items → map (λ (r : DropReply). r.index) replies ≡ map (λ (item : Item). item.index) items
    → All (λ (r : DropReply). r.index < length files) replies
replies_within files items replies are told =
    let P : List ℕ → Type 0 = λ ks. All (λ k. k < length files) ks in
    let all : All (λ k. k < length files) (map (λ (r : DropReply). r.index) replies) = subst P (sym told) (all_within files items are) in
    λ k d lt. (let n = length-map replies (λ (r : DropReply). r.index) in let Q : ℕ → Type 0 = λ j. j < length files in subst Q (get_or-map (λ (r : DropReply). r.index) replies k d) (all k d.index (omega arith)))
