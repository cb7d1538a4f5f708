-- What is done over the desk of a file.
use Rattle.std.proofs.Common.{◌≡◌, ℕ, Bool, false, List, Option, refl, sym, subst}
use Rattle.std.specs.Prelude.{Result, Ok, Err, IfOk, is_ok}
use Rattle.std.specs.Io.KnownBytes.{Appends}
use Rattle.sqlite_disk.specs.declared.Disk.{Ghosts}
use Rattle.sqlite_disk.specs.declared.Files.{Files}
use Rattle.desk_rules.specs.Books.{Books}
use Rattle.desk_rules.specs.declared.limits.TheConstants.{MOST_ENTRIES}
use Rattle.desk_register.specs.View.{View}
use Rattle.desk_book.specs.Answered.{AnsweredInTurn}
use Rattle.desk_book.specs.DeskValue.{DeskValue}
use Rattle.desk_engine.specs.Ready.{KeepsFormed}
use Rattle.desk_file.specs.Opened.{IsReadyFor}
use Rattle.desk.specs.DropAnswer as drops
use Rattle.desk.specs.Left.{AreLeft, IsLeft, LeavesSome, PassesOn}
use Rattle.desk.specs.OverFile.{AsksSome, IsAsked, IsDone, IsFileAnswer, IsOpenAnswer, LeavesFiles}
use Rattle.desk.specs.OverviewAnswer as shows
use Rattle.desk.specs.PlayAnswer.{AreHeld, KeptBy}
use Rattle.desk.specs.PlayAnswer as plays
use Rattle.desk.specs.ReportAnswer.{asked_for}
use Rattle.desk.specs.ReportAnswer as reports
use Rattle.desk.specs.ServeAnswer.{HoldsOn}
use Rattle.desk.specs.ServeAnswer as serves
use Rattle.desk.specs.Status.{Ends, IsUnopened}
use Rattle.desk.specs.TrialAnswer as tries
use Rattle.desk.specs.declared.over_file.Ask.{Ask}
use Rattle.desk.specs.declared.over_file.Ask.TheVariants.{Play, Serve, Take, Tell}
use Rattle.desk.specs.declared.over_file.Job.{Job}
use Rattle.desk.specs.declared.over_file.Job.TheVariants as job
use Rattle.desk.specs.declared.status.Status.{Status}
use Rattle.desk.proofs.DropLemmas.{ended_folder, left_taken}
use Rattle.desk.proofs.LeftLemmas.{some_left}
use Rattle.desk.proofs.OverviewLemmas.{ended_overview}
use Rattle.desk.proofs.PlayLemmas.{opened_played, opened_stands, played_there, plays_on_both}
use Rattle.desk.proofs.ReportLemmas.{opened_left, opened_reported, reports_on_both}
use Rattle.desk.proofs.ServeLemmas.{ended_served}
use Rattle.desk.proofs.TrialLemmas.{ended_trial}

-- what connections asked of a desk that was open is some requests
pub some_served : (books : Books) (was is : Bool) (v0 v1 : View) → was ≡ false → (v1.is_honest → HoldsOn was v0 is v1) → AreHeld v0 v1 books → LeavesSome v0.room books (IsLeft is v1)
some_served books was is v0 v1 not_closed keeps held =
    let l = keeps held.0 books (λ it. held.1) in
    let P : Bool → Type 0 = λ b. AnsweredInTurn v0.room b books l.requests l.answers is l.last in
    record { requests = l.requests; answers = l.answers; is_closed = is; last = l.last; in_turn = subst P not_closed l.in_turn; left = record { closed = refl; holds = l.holds } }

module _ {E : Type 0} (given : Option (List ℕ)) (U : Type 0) (reads : Bool) (r : Result Status E) (P : List ℕ → Type 0) where
  -- what is asked is this
  pub asked_as : (limit : ℕ) (K : Books → Type 0) (L : Bool → Books → Type 0) (ask other : Ask) → ask ≡ other → IsAsked other limit K L given U reads r P → IsAsked ask limit K L given U reads r P
  asked_as limit K L ask other is asked = subst (λ it. IsAsked it limit K L given U reads r P) (sym is) asked

  -- and what is done
  pub done_as : (K : Books → Type 0) (L : Bool → Books → Type 0) (job other : Job) → job ≡ other → IsDone other K L given U reads r P → IsDone job K L given U reads r P
  done_as K L job other is done = subst (λ it. IsDone it K L given U reads r P) (sym is) done

  -- the desk over a register was asked
  pub asked_over : {R : Type 0} (view : R → View) (register : R) (made now : DeskValue R) (L : Bool → Books → Type 0) (ask : Ask) → made.register ≡ register
      → IsAsked ask (view made.register).room (AreHeld (view made.register) (view now.register)) L given U reads r P → IsAsked ask (view register).room (AreHeld (view register) (view now.register)) L given U reads r P
  asked_over {R} view register made now L ask same asked =
      let Q : R → Type 0 = λ k. IsAsked ask (view k).room (AreHeld (view k) (view now.register)) L given U reads r P in
      subst Q same asked

  some_on_both : (v0 v1 : View) (L M : Bool → Books → Type 0) (T : Status → Type 0) → v0.room ≡ MOST_ENTRIES → v1.is_honest → AsksSome v0.room (AreHeld v0 v1) L T r → PassesOn L M → AsksSome MOST_ENTRIES (KeptBy v0) M T r
  some_on_both v0 v1 L M T most honest from on = record { told = from.told; left = λ books keeps. left_taken books v0 v1 L M most honest (from.left books) on keeps }

  -- the same over tables with a register in memory beside them
  pub asked_on_both : (ask : Ask) (v0 v1 : View) (L M : Bool → Books → Type 0) → IsReadyFor MOST_ENTRIES v0 → v1.is_honest → IsAsked ask v0.room (AreHeld v0 v1) L given U reads r P → PassesOn L M
      → IsAsked ask MOST_ENTRIES (KeptBy v0) M given U reads r P
  asked_on_both Play v0 v1 L M ready honest from on = plays_on_both v0 v1 L M given U reads r P ready honest from on
  asked_on_both (Serve port count) v0 v1 L M ready honest from on = (from.0, some_on_both v0 v1 L M (λ status. serves.IsServeAnswer port status P) ready.room honest from.1 on)
  asked_on_both (Take folders) v0 v1 L M ready honest from on = (from.0, some_on_both v0 v1 L M (λ status. drops.IsFolderEnd status P) ready.room honest from.1 on)
  asked_on_both (Tell owner account) v0 v1 L M ready honest from on = (from.0, reports_on_both v0 v1 L M (asked_for owner account.now) r P ready honest from.1 on)

  -- and nothing was read
  both : (A : Status → Type 0) → U → IfOk r A → IfOk r (λ status. U × A status)
  both A unread told = of r told
    where
      of : (q : Result Status E) → IfOk q A → IfOk q (λ status. U × A status)
      of (Ok status) is = (unread, is)
      of (Err e) is = tt

-- how it ended over a file
module _ {E : Type 0} (K : Books → Type 0) (L : Bool → Books → Type 0) (done result : Result Status E) (given : Option (List ℕ)) (U : Type 0) (reads : Bool) (before mid after : Option (List ℕ)) where
  pub opened_told : (it : Job) (has_closed : Bool) (M : Bool → Books → Type 0) → IsDone it K L given U reads done (Appends before mid) → PassesOn L M → Ends has_closed done result mid after
      → (books : Books) → K books → IfOk result (λ status. IsOpenAnswer it has_closed M books given U reads status (Appends before after))
  opened_told (job.Ask Play) has_closed M from on ends books keeps = opened_played K L M done result given U reads before mid from on has_closed after ends books keeps
  opened_told (job.Ask (Serve port count)) has_closed M from on ends books keeps =
      both given U reads result (Appends before after) (λ status. serves.IsOpenServeAnswer has_closed port status (Appends before after)) from.0 (ended_served has_closed port before mid after done result ends from.1.told)
  opened_told (job.Ask (Take folders)) has_closed M from on ends books keeps =
      both given U reads result (Appends before after) (λ status. drops.IsOpenDropAnswer has_closed status (Appends before after)) from.0 (ended_folder has_closed before mid after done result from.1.told ends.by)
  opened_told (job.Ask (Tell owner account)) has_closed M from on ends books keeps =
      both given U reads result (Appends before after) (λ status. reports.IsOpenReportAnswer has_closed books (asked_for owner account.now) status (Appends before after)) from.0
      (opened_reported has_closed K L done result (asked_for owner account.now) before mid after from.1 ends books keeps)
  opened_told (job.Show shown format) has_closed M from on ends books keeps =
      both given U reads result (Appends before after) (λ status. shows.IsOpenOverviewAnswer has_closed shown format books status (Appends before after)) from.0
      (ended_overview has_closed shown books before mid after format done result (from.1.told books keeps) ends.by)
  opened_told (job.Try trial) has_closed M from on ends books keeps = ended_trial has_closed trial books given U reads before mid after done result (from.told books keeps) ends.by

  -- and what it left there
  pub left_in_files : {C D F : Type 0} (g : Ghosts D) (it : Job) (mark : Option C) (closed : Result (Files D) F) → IsDone it K L given U reads done (Appends before mid) → PassesOn L (AreLeft g mark closed) → Ends (is_ok closed) done result mid after
      → (books : Books) → K books → LeavesFiles g it result mark closed books given
  left_in_files g (job.Ask Play) mark closed from on ends books keeps = opened_stands K L (AreLeft g mark closed) done result given U reads before mid from on books keeps
  left_in_files g (job.Ask (Serve port count)) mark closed from on ends books keeps = some_left MOST_ENTRIES books L (AreLeft g mark closed) refl on (from.1.left books keeps)
  left_in_files g (job.Ask (Take folders)) mark closed from on ends books keeps = some_left MOST_ENTRIES books L (AreLeft g mark closed) refl on (from.1.left books keeps)
  left_in_files g (job.Ask (Tell owner account)) mark closed from on ends books keeps =
      opened_left (is_ok closed) K L done result (asked_for owner account.now) before mid after from.1 (AreLeft g mark closed) on ends books keeps
  left_in_files g (job.Show shown format) mark closed from on ends books keeps = (on.each false books (from.1.left books keeps)).says refl
  left_in_files g (job.Try trial) mark closed from on ends books keeps = (on.each false books (from.left books keeps)).says refl

-- what is told where the file was opened, of the books that were kept there, and where it was not
module _ {E : Type 0} (given : Option (List ℕ)) (reads : Bool) (P : List ℕ → Type 0) where
  pub told_there : (U : Type 0) (it : Job) (r : Result Status E) (has_closed : Bool) (L : Bool → Books → Type 0) (view : View) (kept : (books : Books) × KeepsFormed MOST_ENTRIES books view.content)
      → IfOk r (λ status. IsOpenAnswer it has_closed L kept.0 given U reads status P) → IfOk r (λ status. IsFileAnswer it given U reads status P)
  told_there U it (Err e) has_closed L view kept told = tt
  told_there U (job.Ask Play) (Ok status) has_closed L view kept told = played_there {E = E} (Ok status) has_closed L view given U reads P kept told
  told_there U (job.Ask (Serve port count)) (Ok status) has_closed L view kept told = (told.0, serves.told_opened has_closed told.1)
  told_there U (job.Ask (Take folders)) (Ok status) has_closed L view kept told = (told.0, drops.told_opened has_closed told.1)
  told_there U (job.Ask (Tell owner account)) (Ok status) has_closed L view kept told = (told.0, reports.told_opened kept.0 (view.content, kept.1) has_closed told.1)
  told_there U (job.Show shown format) (Ok status) has_closed L view kept told = (told.0, shows.told_opened kept.0 (view.content, kept.1) has_closed told.1)
  told_there U (job.Try trial) (Ok status) has_closed L view kept told = tries.told_opened kept.0 (view.content, kept.1) has_closed told

  pub told_not : {X : Type 0} (reader : X) (it : Job) (r : Result Status E) → IfOk r (λ status. IsUnopened status P) → IfOk r (λ status. IsFileAnswer it given (reader ≡ reader) reads status P)
  told_not reader it (Err e) told = tt
  told_not reader (job.Ask Play) (Ok status) told = plays.told_unopened refl told
  told_not reader (job.Ask (Serve port count)) (Ok status) told = (refl, serves.told_unopened told)
  told_not reader (job.Ask (Take folders)) (Ok status) told = (refl, drops.told_unopened told)
  told_not reader (job.Ask (Tell owner account)) (Ok status) told = (refl, reports.told_unopened told)
  told_not reader (job.Show shown format) (Ok status) told = (refl, shows.told_unopened told)
  told_not reader (job.Try trial) (Ok status) told = tries.told_unopened refl told
