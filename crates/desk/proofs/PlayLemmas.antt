-- A script on a desk in memory, or over a file.
use Rattle.std.proofs.Common.{inl, inr, ◌≡◌, ◌≢◌, ◌<◌, ◌≤◌, ℕ, Bool, false, List, length, get_or, All, Option, IfSome, refl, sym, ◌∙◌, subst, arith}
use Rattle.std.proofs.KnownBytes.{Appends-trans}
use Rattle.std.specs.Prelude.{◌++◌, Result, Ok, Err, IfOk, IsOkAnd, OnErr, OnOk, codes, true}
use Rattle.std.specs.Io.KnownBytes.{Appends}
use Rattle.desk_book.specs.declared.limits.TheConstants.{LONGEST_SCRIPT}
use Rattle.desk_rules.specs.declared.answers.reply.Reply.{Reply}
use Rattle.desk_rules.specs.Books.{Books}
use Rattle.memory_register.specs.declared.list_register.ListRegister.{ListRegister}
use Rattle.desk_engine.specs.Applied.{no_books}
use Rattle.memory_register.specs.ListsView.{view_of_lists}
use Rattle.desk_rules.specs.declared.limits.TheConstants.{MOST_ENTRIES}
use Rattle.desk_register.specs.Changes.{empty_content}
use Rattle.desk_register.specs.declared.register.TheConstants.{MOST_FAILURES}
use Rattle.desk_register.specs.View.{View}
use Rattle.desk_book.proofs.FormedLemmas.{empty_formed}
use Rattle.desk_book.proofs.RunLemmas.{none_failed, open_all_along}
use Rattle.desk_book.specs.declared.fault.Fault.{Fault}
use Rattle.desk_book.specs.declared.fault.Fault.TheVariants as faults
use Rattle.desk_book.specs.Answered.{AnsweredInTurn, says_closed}
use Rattle.desk_book.specs.DeskValue.{DeskValue}
use Rattle.desk_book.specs.Headline.{Headline}
use Rattle.desk_book.specs.Held.{Holds}
use Rattle.desk_engine.specs.Ready.{KeepsFormed}
use Rattle.desk_book.specs.Played.{PlaysFront, PlaysScript, answers_text, asked_in}
use Rattle.desk_streams.specs.declared.fault.InputFault.{InputFault}
use Rattle.desk_streams.specs.declared.fault.InputFault.TheVariants.{Memory, ReadFailed, TooLong}
use Rattle.desk_book.specs.declared.fault.PlayFault.{PlayFault}
use Rattle.desk_book.specs.declared.fault.PlayFault.TheVariants as plays
use Rattle.desk.specs.Input.{MayGiveNone, failure_of}
use Rattle.desk.specs.Left.{IsLeft, PassesOn}
use Rattle.desk.specs.PlayAnswer.{AreHeld, IsOpenPlayAnswer, IsPlayedAnyhow, KeptBy, PlaysFrom, told_opened, IsLeftAnyhow, IsReplyOrMemory, IsPlayAnswer, IsPlayAnswerFrom, IsPlayed, IsPlayedFrom, IsPlayedInFront, IsPlayedInPart, IsPlayTold, IsFilePlayAnswer, told_answers, told_answers_from, told_from, told_no_script_from, told_unclosed}
use Rattle.desk_file.specs.Opened.{IsReadyFor}
use Rattle.desk.specs.Status.{Ends, EndsBy, IsFailureTold, failure_line}
use Rattle.desk.specs.declared.status.Failure.{Failure}
use Rattle.desk.specs.declared.status.Failure.TheVariants as failure
use Rattle.desk.specs.declared.status.Failure.TheVariants.{Storage}
use Rattle.desk.specs.declared.status.Status.{Status}
use Rattle.desk.specs.declared.status.Status.TheVariants as exit

is_in_memory : (answer : Result Reply Fault) → says_closed answer ≡ false → answer ≢ Err faults.Storage → IsReplyOrMemory answer
is_in_memory (Ok reply) not_closed sound = tt
is_in_memory (Err faults.Memory) not_closed sound = refl
is_in_memory (Err faults.Storage) not_closed sound = absurd (sound refl)
is_in_memory (Err faults.Closed) not_closed sound = cc

-- no fault of a device, and not closed: so want of memory
pub only_memory : (answers : List (Result Reply Fault)) → All (λ answer. says_closed answer ≡ false) answers → All (λ answer. answer ≢ Err faults.Storage) answers → All IsReplyOrMemory answers
only_memory answers not_closed sound = λ k d lt. is_in_memory (get_or answers k d) (not_closed k d lt) (sound k d lt)

pub told : (books : Books) (r : Option (List ℕ)) (U : Type 0) (reads : Bool) (before after : Option (List ℕ)) (was is : Bool) (v0 v1 : View) → v0.room ≡ MOST_ENTRIES → v1.room ≡ v0.room → was ≡ false → is ≡ false → v1.device.failures ≡ v0.device.failures → v1.device.failures < MOST_FAILURES
    → v1.is_honest → v1.device.is_honest → Holds was v0 books
    → ((books : Books) → v1.is_honest → Holds was v0 books → (script : List ℕ) × IfSome r (λ input. input ≡ script) × (length script ≤ LONGEST_SCRIPT) × PlaysScript was books script before after is v0 v1)
    → IsPlayAnswer books r U reads exit.Done (Appends before after)
told books r U reads before after was is v0 v1 most room not_closed stays sound few honest device holds played =
    let p = played books honest holds in
    let s = p.3 in
    let P : ℕ → Type 0 = λ k. AnsweredInTurn k was books (asked_in s.items) s.answers is s.played.last in
    let Q : Bool → Type 0 = λ b. AnsweredInTurn MOST_ENTRIES b books (asked_in s.items) s.answers is s.played.last in
    let R : Bool → Type 0 = λ b. AnsweredInTurn MOST_ENTRIES false books (asked_in s.items) s.answers b s.played.last in
    let run : AnsweredInTurn MOST_ENTRIES false books (asked_in s.items) s.answers false s.played.last = subst R stays (subst Q not_closed (subst P most s.played.in_turn)) in
    let H : ℕ → Type 0 = λ k. Headline k s.played.last v1.content in
    let none = none_failed s.answers v0.device.failures v1.device.failures (s.played.blame honest device few) (omega (arith, sound)) in
    let is_played : IsPlayed books p.0 (answers_text s.items s.answers) = record {
      items = s.items;
      answers = s.answers;
      last = s.played.last;
      held = v1.content;
      short = p.2;
      spells = s.spells;
      in_turn = run;
      promise = subst H (room ∙ most) (s.played.promise stays);
      in_memory = only_memory s.answers (open_all_along MOST_ENTRIES false books s.played.last (asked_in s.items) s.answers run) none;
      written = refl;
    } in
    told_answers p.0 (answers_text s.items s.answers) p.1 is_played refl s.written

-- What is told of a script that was played, or was not, by a writer that held this before, once it was played, and at the end.
-- (What is so where nothing was asked is N.)
module _ {X : Type 0} (contents : X → Option (List ℕ)) (w0 w1 w2 : X) (given : Option (List ℕ)) (U : Type 0) (reads : Bool) (N : Type 0) (A : Status → Type 0) where
  -- why it was not is told in this answer
  abbrev pub MayTellWhy : Type 0
  MayTellWhy = (status : Status) (fault : InputFault) → MayGiveNone LONGEST_SCRIPT given U reads fault → IsFailureTold (failure_of fault) status (Appends (contents w0) (contents w2)) → N → A status

  untold : (status : Status) (failure : Failure) → w1 ≡ w0 → IsFailureTold failure status (Appends (contents w1) (contents w2)) → IsFailureTold failure status (Appends (contents w0) (contents w2))
  untold status failure unwritten told = subst (λ w. IsFailureTold failure status (Appends (contents w) (contents w2))) unwritten told

  told_status : (played : Result (Unit {0}) PlayFault) (status : Status) → MayTellWhy → OnOk played (w2 ≡ w1 → A exit.Done)
      → (played ≡ Err plays.ReadFailed → N × (w1 ≡ w0) × (reads ≡ true)) → (played ≡ Err plays.TooLong → N × (w1 ≡ w0) × IfSome given (λ input. LONGEST_SCRIPT < length input))
      → (played ≡ Err plays.Memory → N × (w1 ≡ w0) × U) → IsPlayTold played status (w2 ≡ w1) (Appends (contents w1) (contents w2)) → A status
  told_status (Ok done) status why ok unread long memory told = subst A (sym told.0) (ok told.1)
  told_status (Err plays.Memory) status why ok unread long memory told = let m = memory refl in why status Memory m.2 (untold status failure.Memory m.1 told) m.0
  told_status (Err plays.ReadFailed) status why ok unread long memory told = let m = unread refl in why status ReadFailed m.2 (untold status failure.Input m.1 told) m.0
  told_status (Err plays.TooLong) status why ok unread long memory told = let m = long refl in why status TooLong m.2 (untold status failure.Input m.1 told) m.0
  told_status (Err plays.WriteFailed) status why ok unread long memory told = absurd told

  pub told_played : {E : Type 0} (result : Result Status E) (played : Result (Unit {0}) PlayFault) → MayTellWhy → OnOk played (w2 ≡ w1 → A exit.Done)
      → (played ≡ Err plays.ReadFailed → N × (w1 ≡ w0) × (reads ≡ true)) → (played ≡ Err plays.TooLong → N × (w1 ≡ w0) × IfSome given (λ input. LONGEST_SCRIPT < length input))
      → (played ≡ Err plays.Memory → N × (w1 ≡ w0) × U) → IfOk result (λ status. IsPlayTold played status (w2 ≡ w1) (Appends (contents w1) (contents w2))) → IfOk result A
  told_played (Ok status) played why ok unread long memory told = told_status played status why ok unread long memory told
  told_played (Err e) played why ok unread long memory told = tt

-- once more where something follows only for a script that was played
pub where_played : {X : Type 0} (contents : X → Option (List ℕ)) (before w1 w2 : X) (P : Option (List ℕ) → Type 0) → w2 ≡ w1 → P (contents w1) → P (contents w2)
where_played contents before w1 w2 P same = subst (λ w. P (contents w)) (sym same)

pub ok_then : {A B : Type 0} (played : Result (Unit {0}) PlayFault) → OnOk played A → (A → B) → OnOk played B
ok_then (Ok done) a then = then a
ok_then (Err fault) a then = tt

-- from these books
pub told_from_books : (limit : ℕ) (books : Books) (given : Option (List ℕ)) (U : Type 0) (reads : Bool) (before after : Option (List ℕ)) (was is : Bool) (v0 v1 : View) → v0.room ≡ limit → v1.room ≡ v0.room → was ≡ false
    → (script : List ℕ) × IfSome given (λ input. input ≡ script) × (length script ≤ LONGEST_SCRIPT) × PlaysScript was books script before after is v0 v1
    → IsPlayAnswerFrom limit (IsLeft is v1) books given U reads exit.Done (Appends before after)
told_from_books limit books given U reads before after was is v0 v1 most room not_closed p =
    let s = p.3 in
    let P : ℕ → Type 0 = λ k. AnsweredInTurn k was books (asked_in s.items) s.answers is s.played.last in
    let Q : Bool → Type 0 = λ b. AnsweredInTurn limit b books (asked_in s.items) s.answers is s.played.last in
    let H : ℕ → Type 0 = λ k. Headline k s.played.last v1.content in
    let is_played : IsPlayedFrom limit (IsLeft is v1) books p.0 (answers_text s.items s.answers) = record {
      items = s.items;
      answers = s.answers;
      is_closed = is;
      last = s.played.last;
      short = p.2;
      spells = s.spells;
      in_turn = subst Q not_closed (subst P most s.played.in_turn);
      promise = λ stays. (v1.content, subst H (room ∙ most) (s.played.promise stays));
      left = record { closed = refl; holds = s.played.holds };
      written = refl;
    } in
    told_answers_from p.0 (answers_text s.items s.answers) p.1 is_played refl s.written

-- a desk of which nothing was asked
pub left_so : {R : Type 0} (view : R → View) (old new : DeskValue R) (books : Books) → new ≡ old → old.is_closed ≡ false → Holds old.is_closed (view old.register) books → IsLeft new.is_closed (view new.register) false books
left_so view old new books same stays holds =
    let P : Bool → Type 0 = λ b. Holds b (view old.register) books in
    subst (λ d. IsLeft d.is_closed (view d.register) false books) (sym same) (record { closed = stays; holds = subst P stays holds })

-- the first items of the script were played, from these books
in_front : (limit : ℕ) (books : Books) (given : Option (List ℕ)) (was is : Bool) (v0 v1 : View) → v0.room ≡ limit → was ≡ false
    → (script : List ℕ) × IfSome given (λ input. input ≡ script) × (length script ≤ LONGEST_SCRIPT) × PlaysFront was books script is v0 v1 → IsPlayedInFront limit (IsLeft is v1) books given
in_front limit books given was is v0 v1 most not_closed p =
    let s = p.3 in
    let P : ℕ → Type 0 = λ k. AnsweredInTurn k was books (asked_in s.front) s.answers is s.played.last in
    let Q : Bool → Type 0 = λ b. AnsweredInTurn limit b books (asked_in s.front) s.answers is s.played.last in
    record {
      script = p.0;
      came = p.1;
      short = p.2;
      front = s.front;
      behind = s.behind;
      spells = s.spells;
      answers = s.answers;
      is_closed = is;
      last = s.played.last;
      in_turn = subst Q not_closed (subst P most s.played.in_turn);
      left = record { closed = refl; holds = s.played.holds };
    }

-- what was played where the writer failed
pub in_part : {E : Type 0} (result : Result Status E) (played : Result (Unit {0}) PlayFault) (limit : ℕ) (books : Books) (given : Option (List ℕ)) (was is : Bool) (v0 v1 : View) → v0.room ≡ limit → was ≡ false → OnOk played (result ≡ Ok exit.Done)
    → (played ≡ Err plays.ReadFailed → IsLeft is v1 false books) → (played ≡ Err plays.TooLong → IsLeft is v1 false books) → (played ≡ Err plays.Memory → IsLeft is v1 false books)
    → (played ≡ Err plays.WriteFailed → (script : List ℕ) × IfSome given (λ input. input ≡ script) × (length script ≤ LONGEST_SCRIPT) × PlaysFront was books script is v0 v1)
    → OnErr result (IsPlayedInPart limit (IsLeft is v1) books given)
in_part (Ok status) played limit books given was is v0 v1 most not_closed done unread long memory stands = tt
in_part (Err e) (Ok told) limit books given was is v0 v1 most not_closed done unread long memory stands = absurd (cc)
in_part (Err e) (Err plays.Memory) limit books given was is v0 v1 most not_closed done unread long memory stands = inl (memory refl)
in_part (Err e) (Err plays.ReadFailed) limit books given was is v0 v1 most not_closed done unread long memory stands = inl (unread refl)
in_part (Err e) (Err plays.TooLong) limit books given was is v0 v1 most not_closed done unread long memory stands = inl (long refl)
in_part (Err e) (Err plays.WriteFailed) limit books given was is v0 v1 most not_closed done unread long memory stands = inr (in_front limit books given was is v0 v1 most not_closed (stands refl))

-- of what was left something else is said
module _ (limit : ℕ) (L M : Bool → Books → Type 0) (each : (is_closed : Bool) (last : Books) → L is_closed last → M is_closed last) (books : Books) (given : Option (List ℕ)) where
  said_of : (script text : List ℕ) → IsPlayedFrom limit L books script text → IsPlayedFrom limit M books script text
  said_of script text p = record {
    items = p.items;
    answers = p.answers;
    is_closed = p.is_closed;
    last = p.last;
    short = p.short;
    spells = p.spells;
    in_turn = p.in_turn;
    promise = p.promise;
    left = each p.is_closed p.last p.left;
    written = p.written;
  }

  pub told_of : (U : Type 0) (reads : Bool) (status : Status) (P : List ℕ → Type 0) → IsPlayAnswerFrom limit L books given U reads status P → IsPlayAnswerFrom limit M books given U reads status P
  told_of U reads status P (told_answers_from script text came played done written) = told_answers_from script text came (said_of script text played) done written
  told_of U reads status P (told_no_script_from fault may failure left) = told_no_script_from fault may failure (each false books left)

  part_of : IsPlayedInPart limit L books given → IsPlayedInPart limit M books given
  part_of (inl left) = inl (each false books left)
  part_of (inr p) = inr (record {
    script = p.script;
    came = p.came;
    short = p.short;
    front = p.front;
    behind = p.behind;
    spells = p.spells;
    answers = p.answers;
    is_closed = p.is_closed;
    last = p.last;
    in_turn = p.in_turn;
    left = each p.is_closed p.last p.left;
  })

  pub ok_told_of : {E : Type 0} (r : Result Status E) (U : Type 0) (reads : Bool) (P : List ℕ → Type 0) → IfOk r (λ status. IsPlayAnswerFrom limit L books given U reads status P) → IfOk r (λ status. IsPlayAnswerFrom limit M books given U reads status P)
  ok_told_of (Ok status) U reads P told = told_of U reads status P told
  ok_told_of (Err e) U reads P told = tt

  pub err_part_of : {E : Type 0} (r : Result Status E) → OnErr r (IsPlayedInPart limit L books given) → OnErr r (IsPlayedInPart limit M books given)
  err_part_of (Ok status) part = tt
  err_part_of (Err e) part = part_of part

-- a new register keeps the tables of no history, and so does what is equal to it
pub new_keeps : (made held : ListRegister) → held ≡ made → (view_of_lists made).content ≡ empty_content → KeepsFormed (view_of_lists held).room no_books (view_of_lists held).content
new_keeps made held same empty =
    let P : ListRegister → Type 0 = λ r. KeepsFormed (view_of_lists r).room no_books (view_of_lists r).content in
    subst P (sym same) (empty_formed _ _ empty)

-- and what keeps the tables of some books keeps them where it is held
pub held_keeps : (memory held : ListRegister) (books : Books) → held ≡ memory → (view_of_lists memory).room ≡ MOST_ENTRIES → KeptBy (view_of_lists memory) books → KeepsFormed (view_of_lists held).room books (view_of_lists held).content
held_keeps memory held books same room keeps =
    let P : ListRegister → Type 0 = λ r. KeepsFormed (view_of_lists r).room books (view_of_lists r).content in
    subst P (sym same) (subst (λ (k : ℕ). KeepsFormed k books (view_of_lists memory).content) (sym room) keeps)

pub limit_is : (made held : ListRegister) → held ≡ made → (view_of_lists made).room ≡ MOST_ENTRIES → (view_of_lists held).room ≡ MOST_ENTRIES
limit_is made held same limit = let P : ListRegister → Type 0 = λ r. (view_of_lists r).room ≡ MOST_ENTRIES in subst P (sym same) limit

-- the same over tables with a register in memory beside them
pub plays_on_both : {E : Type 0} (v0 v1 : View) (L M : Bool → Books → Type 0) (given : Option (List ℕ)) (U : Type 0) (reads : Bool) (r : Result Status E) (P : List ℕ → Type 0) → IsReadyFor MOST_ENTRIES v0 → v1.is_honest → PlaysFrom v0.room (AreHeld v0 v1) L given U reads r P
    → PassesOn L M → PlaysFrom MOST_ENTRIES (KeptBy v0) M given U reads r P
plays_on_both v0 v1 L M given U reads r P ready honest from on =
    let held : (books : Books) → KeptBy v0 books → AreHeld v0 v1 books = λ books keeps. (honest, subst (λ k. KeepsFormed k books v0.content) (sym ready.room) keeps) in
    record {
      told = λ books keeps. (let Q : ℕ → Type 0 = λ k. IfOk r (λ status. IsPlayAnswerFrom k L books given U reads status P) in
          ok_told_of MOST_ENTRIES L M on.each books given r U reads P (subst Q ready.room (from.told books (held books keeps))));
      stands = λ books keeps. (let Q : ℕ → Type 0 = λ k. OnErr r (IsPlayedInPart k L books given) in
          err_part_of MOST_ENTRIES L M on.each books given r (subst Q ready.room (from.stands books (held books keeps))));
    }

-- how a run over a file ended
module _ {E : Type 0} (K : Books → Type 0) (L M : Bool → Books → Type 0) (played result : Result Status E) (given : Option (List ℕ)) (U : Type 0) (reads : Bool) (before mid : Option (List ℕ))
    (from : PlaysFrom MOST_ENTRIES K L given U reads played (Appends before mid)) (on : PassesOn L M) where
  told_there : (books : Books) → K books → IfOk played (λ status. IsPlayAnswerFrom MOST_ENTRIES M books given U reads status (Appends before mid))
  told_there books keeps = ok_told_of MOST_ENTRIES L M on.each books given played U reads (Appends before mid) (from.told books keeps)

  ended_by : (has_closed : Bool) (after : Option (List ℕ)) (said status : Status) (books : Books) → IsPlayAnswerFrom MOST_ENTRIES M books given U reads said (Appends before mid) → EndsBy has_closed said status (after ≡ mid) (Appends mid after)
      → IsOpenPlayAnswer has_closed M books given U reads status (Appends before after)
  ended_by has_closed after said status books is (inl same) =
      let P : Status → Type 0 = λ s. IsOpenPlayAnswer has_closed M books given U reads s (Appends before after) in
      subst P (sym same.0) (told_from (subst (λ k. IsPlayAnswerFrom MOST_ENTRIES M books given U reads said (Appends before k)) (sym same.1) is) same.2)
  ended_by has_closed after said status books (told_answers_from script text came played done written) (inr unclosed) =
      told_unclosed script text came played unclosed.1 unclosed.2.0 (Appends-trans before mid after text (failure_line Storage ++ codes "\n") written unclosed.2.1)
  ended_by has_closed after said status books (told_no_script_from fault may failure left) (inr unclosed) = absurd (unclosed.0 failure.0)

  ended_so : (has_closed : Bool) (after : Option (List ℕ)) (told ended : Result Status E) (books : Books) → IfOk told (λ status. IsPlayAnswerFrom MOST_ENTRIES M books given U reads status (Appends before mid))
      → IfOk ended (λ status. IsOkAnd told (λ said. EndsBy has_closed said status (after ≡ mid) (Appends mid after))) → IfOk ended (λ status. IsOpenPlayAnswer has_closed M books given U reads status (Appends before after))
  ended_so has_closed after told (Err e) books is ends = tt
  ended_so has_closed after (Err e) (Ok status) books is ends = absurd ends
  ended_so has_closed after (Ok said) (Ok status) books is ends = ended_by has_closed after said status books is ends

  pub opened_played : (has_closed : Bool) (after : Option (List ℕ)) → Ends has_closed played result mid after → (books : Books) → K books
      → IfOk result (λ status. IsOpenPlayAnswer has_closed M books given U reads status (Appends before after))
  opened_played has_closed after ends books keeps = ended_so has_closed after played result books (told_there books keeps) ends.by

  whole_of : (status : Status) (books : Books) → IsPlayAnswerFrom MOST_ENTRIES M books given U reads status (Appends before mid) → IsPlayedAnyhow M books given
  whole_of status books (told_answers_from script text came played done written) = inr (script, text, came, played)
  whole_of status books (told_no_script_from fault may failure left) = inl (inl left)

  stands_so : (told ended : Result Status E) (books : Books) → IfOk told (λ status. IsPlayAnswerFrom MOST_ENTRIES M books given U reads status (Appends before mid)) → OnErr told (IsPlayedInPart MOST_ENTRIES M books given)
      → OnErr ended (IsPlayedAnyhow M books given)
  stands_so told (Ok status) books is part = tt
  stands_so (Ok said) (Err e) books is part = whole_of said books is
  stands_so (Err f) (Err e) books is part = inl part

  pub opened_stands : (books : Books) → K books → OnErr result (IsPlayedAnyhow M books given)
  opened_stands books keeps = stands_so played result books (told_there books keeps) (err_part_of MOST_ENTRIES L M on.each books given played (from.stands books keeps))

-- of what is left nothing is said
anyhow : (has_closed : Bool) (L : Bool → Books → Type 0) (books : Books) (given : Option (List ℕ)) (U : Type 0) (reads : Bool) (status : Status) (P : List ℕ → Type 0) → IsOpenPlayAnswer has_closed L books given U reads status P → IsOpenPlayAnswer has_closed IsLeftAnyhow books given U reads status P
anyhow has_closed L books given U reads status P (told_from told closed) = told_from (told_of MOST_ENTRIES L IsLeftAnyhow (λ is_closed last left. tt) books given U reads status P told) closed
anyhow has_closed L books given U reads status P (told_unclosed script text came played unclosed fault written) =
    told_unclosed script text came (said_of MOST_ENTRIES L IsLeftAnyhow (λ is_closed last left. tt) books given script text played) unclosed fault written

-- the file was opened
pub played_there : {E : Type 0} (r : Result Status E) (has_closed : Bool) (L : Bool → Books → Type 0) (view : View) (given : Option (List ℕ)) (U : Type 0) (reads : Bool) (P : List ℕ → Type 0) → (kept : (books : Books) × KeepsFormed MOST_ENTRIES books view.content)
    → IfOk r (λ status. IsOpenPlayAnswer has_closed L kept.0 given U reads status P) → IfOk r (λ status. IsFilePlayAnswer given U reads status P)
played_there (Ok status) has_closed L view given U reads P kept told = told_opened kept.0 (view.content, kept.1) has_closed (anyhow has_closed L kept.0 given U reads status P told)
played_there (Err e) has_closed L view given U reads P kept told = tt

-- the books that a register keeps which is ready
pub kept_books : (view : View) → IsReadyFor MOST_ENTRIES view → view.is_honest → (books : Books) × KeepsFormed MOST_ENTRIES books view.content
kept_books view ready honest =
    let found = ready.desk.books refl honest in
    (found.0, subst (λ k. KeepsFormed k found.0 view.content) ready.room found.1)
