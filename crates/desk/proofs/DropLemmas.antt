-- A folder, taken on the desk of a file.
use Rattle.std.proofs.Common.{inl, inr, ◌≡◌, ◌≢◌, ℕ, Bool, false, List, [], ◌++◌, map, Option, refl, sym, ◌∙◌, subst}
use Rattle.std.specs.Prelude.{Result, Ok, Err, IfErr, IfOk, IsOkAnd, OnErr, codes}
use Rattle.std.specs.Io.KnownBytes.{Appends}
use Rattle.std.proofs.KnownBytes.{Appends-nil, Appends-trans}
use Rattle.desk_rules.specs.Books.{Books}
use Rattle.desk_register.specs.View.{View}
use Rattle.desk_book.specs.Answered.{AnsweredInTurn}
use Rattle.desk_book.specs.DeskValue.{DeskValue}
use Rattle.desk_book.specs.Headline.{Headline}
use Rattle.desk_rules.specs.declared.limits.TheConstants.{MOST_ENTRIES}
use Rattle.desk_book.specs.Held.{Holds}
use Rattle.desk_engine.specs.Ready.{KeepsFormed}
use Rattle.desk_drop.specs.declared.file.DropReply.{DropReply}
use Rattle.desk_drop.specs.Folder.{File, IsOnlyFolder, Item}
use Rattle.desk_drop.specs.Taken.{AreAnswered, HasTaken, answers_in, asked_in}
use Rattle.desk.specs.Left.{IsLeft, LeavesSome, PassesOn}
use Rattle.desk.specs.PlayAnswer.{AreHeld, KeptBy}
use Rattle.desk.specs.DropAnswer.{AreTakenFrom, IsFolderEnd, IsFolderFailure, IsFolderTold, IsOpenDropAnswer, told_done, told_failed, told_nothing, told_unclosed, told_undone}
use Rattle.desk.specs.Status.{EndsBy, IsFailureTold, failure_line}
use Rattle.desk.specs.declared.status.Failure.{Failure}
use Rattle.desk.specs.declared.status.Failure.TheVariants.{Storage}
use Rattle.desk.specs.declared.status.Status.{Status}
use Rattle.desk.specs.declared.status.Status.TheVariants.{Done, Fault}
use Rattle.desk.proofs.LeftLemmas.{none_asked, some_left}
use Rattle.desk.proofs.PlayLemmas.{left_so}

-- files were taken from these books
pub taken_from : (limit : ℕ) (books : Books) (files : List File) (replies : List DropReply) (was is : Bool) (v0 v1 : View) → v0.room ≡ limit → v1.room ≡ v0.room → was ≡ false
    → (t : (items : List Item) × IsOnlyFolder files items × (map (λ (reply : DropReply). reply.index) replies ≡ map (λ (item : Item). item.index) items)
    × AreAnswered was (map (λ (item : Item). item.request) items) (map (λ (reply : DropReply). reply.answer) replies) is
    × ((b : Books) → v1.is_honest → Holds was v0 b → HasTaken v0.room was b (map (λ (item : Item). item.request) items) (map (λ (reply : DropReply). reply.answer) replies) is v1))
    → v1.is_honest → Holds was v0 books → AreTakenFrom limit (IsLeft is v1) books files replies
taken_from limit books files replies was is v0 v1 most room not_closed t honest holds =
    let taken = t.4 books honest holds in
    let requests = map (λ (item : Item). item.request) t.0 in
    let answers = map (λ (reply : DropReply). reply.answer) replies in
    let P : ℕ → Type 0 = λ k. AnsweredInTurn k was books (asked_in requests) (answers_in requests answers) is taken.last in
    let Q : Bool → Type 0 = λ b. AnsweredInTurn limit b books (asked_in requests) (answers_in requests answers) is taken.last in
    let A : Bool → Type 0 = λ b. AreAnswered b requests answers is in
    let H : ℕ → Type 0 = λ k. Headline k taken.last v1.content in
    record {
      items = t.0;
      only = t.1;
      told = t.2;
      is_closed = is;
      answered = subst A not_closed t.3;
      last = taken.last;
      in_turn = subst Q not_closed (subst P most taken.in_turn);
      promise = λ stays. (v1.content, subst H (room ∙ most) (taken.promise stays));
      left = record { closed = refl; holds = taken.holds };
    }

-- what is told of a folder
pub folder_end : {X E : Type 0} (contents : X → Option (List ℕ)) (w0 w1 : X) (done : Result (Unit {0}) Failure) (r : Result Status E) → IfErr done IsFolderFailure → IfOk r (λ status. IsFolderTold done status (w1 ≡ w0) (Appends (contents w0) (contents w1)))
    → IfOk r (λ status. IsFolderEnd status (Appends (contents w0) (contents w1)))
folder_end contents w0 w1 done (Err e) why told = tt
folder_end contents w0 w1 (Ok done) (Ok status) why told = told_done told.0 (subst (λ w. Appends (contents w0) (contents w) []) (sym told.1) (Appends-nil (contents w0)))
folder_end contents w0 w1 (Err failure) (Ok status) why told = told_undone failure why told

-- how it ended over a file
module _ (has_closed : Bool) (before mid after : Option (List ℕ)) where
  ended_by : (said status : Status) → IsFolderEnd said (Appends before mid) → EndsBy has_closed said status (after ≡ mid) (Appends mid after) → IsOpenDropAnswer has_closed status (Appends before after)
  ended_by said status (told_done done none) (inl same) =
      let no_fault : said ≢ Fault = λ is. (let clash : Done ≡ Fault = sym done ∙ is in cc) in
      told_nothing (same.0 ∙ done) (same.2 no_fault) (subst (λ k. Appends before k []) (sym same.1) none)
  ended_by said status (told_undone failure why told) (inl same) =
      let P : Status → Type 0 = λ s. IsFailureTold failure s (Appends before after) in
      told_failed failure why (subst P (sym same.0) (subst (λ k. IsFailureTold failure said (Appends before k)) (sym same.1) told))
  ended_by said status (told_done done none) (inr unclosed) = told_unclosed unclosed.1 (unclosed.2.0, Appends-trans before mid after [] (failure_line Storage ++ codes "\n") none unclosed.2.1)
  ended_by said status (told_undone failure why told) (inr unclosed) = absurd (unclosed.0 told.0)

  pub ended_folder : {E : Type 0} (told result : Result Status E) → IfOk told (λ said. IsFolderEnd said (Appends before mid)) → IfOk result (λ status. IsOkAnd told (λ said. EndsBy has_closed said status (after ≡ mid) (Appends mid after)))
      → IfOk result (λ status. IsOpenDropAnswer has_closed status (Appends before after))
  ended_folder told (Err e) is ends = tt
  ended_folder (Err e) (Ok status) is ends = absurd ends
  ended_folder (Ok said) (Ok status) is ends = ended_by said status is ends

-- what a folder left over a file
pub left_taken : (books : Books) (v0 v1 : View) (L M : Bool → Books → Type 0) → v0.room ≡ MOST_ENTRIES → v1.is_honest → (AreHeld v0 v1 books → LeavesSome v0.room books L) → PassesOn L M → KeptBy v0 books → LeavesSome MOST_ENTRIES books M
left_taken books v0 v1 L M most honest left on keeps = some_left v0.room books L M most on (left (honest, subst (λ k. KeepsFormed k books v0.content) (sym most) keeps))

-- as `taken_from`, where there was memory for the lists
pub ok_taken : {V E : Type 0} (items_of : V → List DropReply) (r : Result V E) (limit : ℕ) (books : Books) (files : List File) (was is : Bool) (v0 v1 : View) → v0.room ≡ limit → v1.room ≡ v0.room → was ≡ false
    → IfOk r (λ replies. (items : List Item) × IsOnlyFolder files items × (map (λ (reply : DropReply). reply.index) (items_of replies) ≡ map (λ (item : Item). item.index) items)
    × AreAnswered was (map (λ (item : Item). item.request) items) (map (λ (reply : DropReply). reply.answer) (items_of replies)) is
    × ((b : Books) → v1.is_honest → Holds was v0 b → HasTaken v0.room was b (map (λ (item : Item). item.request) items) (map (λ (reply : DropReply). reply.answer) (items_of replies)) is v1))
    → v1.is_honest → Holds was v0 books → IfOk r (λ replies. AreTakenFrom limit (IsLeft is v1) books files (items_of replies))
ok_taken items_of (Ok replies) limit books files was is v0 v1 most room not_closed t honest holds = taken_from limit books files (items_of replies) was is v0 v1 most room not_closed t honest holds
ok_taken items_of (Err fault) limit books files was is v0 v1 most room not_closed t honest holds = tt

-- a folder that was taken is some requests
pub taken_some : (limit : ℕ) (L : Bool → Books → Type 0) (books : Books) (files : List File) (replies : List DropReply) → AreTakenFrom limit L books files replies → LeavesSome limit books L
taken_some limit L books files replies t =
    let requests = map (λ (item : Item). item.request) t.items in
    let answers = map (λ (reply : DropReply). reply.answer) replies in
    record { requests = asked_in requests; answers = answers_in requests answers; is_closed = t.is_closed; last = t.last; in_turn = t.in_turn; left = t.left }

-- what was left where memory was wanting for the lists, or where the files were taken
module _ {R : Type 0} (view : R → View) (old new : DeskValue R) (books : Books) (stays : old.is_closed ≡ false) (holds : Holds old.is_closed (view old.register) books) where
  pub untouched_some : new ≡ old → LeavesSome (view old.register).room books (IsLeft new.is_closed (view new.register))
  untouched_some same = none_asked (view old.register).room books (IsLeft new.is_closed (view new.register)) (left_so view old new books same stays holds)

  pub taken_or_not : {V E : Type 0} (items_of : V → List DropReply) (files : List File) (r : Result V E) → IfOk r (λ replies. AreTakenFrom (view old.register).room (IsLeft new.is_closed (view new.register)) books files (items_of replies)) → OnErr r (new ≡ old)
      → LeavesSome (view old.register).room books (IsLeft new.is_closed (view new.register))
  taken_or_not items_of files (Ok replies) taken none = taken_some (view old.register).room (IsLeft new.is_closed (view new.register)) books files (items_of replies) taken
  taken_or_not items_of files (Err fault) taken none = untouched_some none
