-- What is told of what stands.
use Rattle.std.proofs.Common.{◌≡◌, ◌<◌, ◌≤◌, ℕ, Bool, true, false, List, ◌++◌, length, Option, IfSome, inl, inr, refl, sym, ◌∙◌, subst, arith}
use Rattle.std.proofs.KnownBytes.{Appends-trans}
use Rattle.std.specs.Io.KnownBytes.{Appends}
use Rattle.std.specs.Prelude.{Result, Ok, Err, IfOk, IsOkAnd, codes}
use Rattle.desk_rules.specs.Books.{Books}
use Rattle.desk_rules.specs.Content.{Content}
use Rattle.desk_rules.specs.declared.limits.TheConstants.{MOST_ENTRIES}
use Rattle.desk_register.specs.View.{View}
use Rattle.desk_register.specs.declared.register.TheConstants.{MOST_FAILURES}
use Rattle.desk_engine.specs.Applied.{Keeps, no_books}
use Rattle.desk_register.specs.declared.fault.WalkFault.{WalkFault}
use Rattle.desk_register.specs.declared.fault.WalkFault.TheVariants as walks
use Rattle.desk_msg.specs.declared.writing.statement_row.SinkFault.TheVariants as sinks
use Rattle.desk_book.proofs.RunLemmas.{none_failed, open_all_along}
use Rattle.desk_book.specs.declared.limits.TheConstants.{LONGEST_SCRIPT}
use Rattle.desk_streams.specs.declared.fault.InputFault.TheVariants as inputs
use Rattle.desk_book.specs.declared.fault.PlayFault.{PlayFault}
use Rattle.desk_book.specs.declared.fault.PlayFault.TheVariants as plays
use Rattle.desk_book.specs.Answered.{AnsweredInTurn}
use Rattle.desk_book.specs.Held.{Holds}
use Rattle.desk_engine.specs.Ready.{IsReady, KeepsFormed}
use Rattle.desk_book.specs.Played.{PlaysScript, asked_in}
use Rattle.desk_book.specs.RowByRow.{WritesText}
use Rattle.desk_report.specs.declared.format.Format.{Format}
use Rattle.desk_report.specs.declared.format.Format.TheVariants.{Text, Json}
use Rattle.desk.specs.OverviewAnswer.{IsAfterScript, IsOpenOverviewAnswer, IsOverviewAnswer, IsOverviewEnd, IsOverviewFrom, IsShownText, MayPlayNone, failure_of_played, told_after, told_from, told_front, told_no_script, told_report, told_unclosed}
use Rattle.desk.specs.declared.answers.report.Shown.{Shown}
use Rattle.desk.specs.Status.{EndsBy, IsFailureTold, failure_line}
use Rattle.desk.specs.declared.status.Failure.{Failure}
use Rattle.desk.specs.declared.status.Failure.TheVariants.{Memory, Storage}
use Rattle.desk.specs.declared.status.Status.{Status}
use Rattle.desk.proofs.PlayLemmas.{only_memory}

-- what was written as JSON, and what is told behind it
module _ (before mid after : Option (List ℕ)) (shown : Shown) (books : Books) (content : Content) (keeps : Keeps MOST_ENTRIES books content) where
  told_object : (written : Result (Unit {0}) WalkFault) (status : Status) → WritesText (IsShownText books content shown) written before mid → IsOverviewEnd written Json status (Appends mid after)
      → IsOverviewFrom Json shown books status (Appends before after)
  told_object (Ok done) status w told =
      told_report w.text (record { content = content; keeps = keeps; is_shown = w.is_text }) told.0 (Appends-trans before mid after w.text (codes "\n") w.written told.1)
  told_object (Err (walks.Sink sinks.Write)) status w told = absurd told
  told_object (Err (walks.Sink sinks.Memory)) status w told =
      told_front w.text w.rest (record { content = content; keeps = keeps; is_shown = w.is_text }) Memory (inl refl) told.0 (Appends-trans before mid after w.text (codes "\n" ++ (failure_line Memory ++ codes "\n")) w.written told.1)
  told_object (Err walks.Memory) status w told =
      told_front w.text w.rest (record { content = content; keeps = keeps; is_shown = w.is_text }) Memory (inl refl) told.0 (Appends-trans before mid after w.text (codes "\n" ++ (failure_line Memory ++ codes "\n")) w.written told.1)
  told_object (Err walks.Storage) status w told =
      told_front w.text w.rest (record { content = content; keeps = keeps; is_shown = w.is_text }) Storage (inr refl) told.0 (Appends-trans before mid after w.text (codes "\n" ++ (failure_line Storage ++ codes "\n")) w.written told.1)

  told_lines : (written : Result (Unit {0}) WalkFault) (status : Status) → IsOverviewEnd written Text status (Appends mid after) → IsOverviewFrom Text shown books status (Appends before after)
  told_lines (Ok done) status told = inl told.0
  told_lines (Err (walks.Sink sinks.Write)) status told = absurd told
  told_lines (Err (walks.Sink sinks.Memory)) status told = inr told.0
  told_lines (Err walks.Memory) status told = inr told.0
  told_lines (Err walks.Storage) status told = inr told.0

  told_so : (format : Format) (written : Result (Unit {0}) WalkFault) (status : Status) → (format ≡ Json → WritesText (IsShownText books content shown) written before mid)
      → IsOverviewEnd written format status (Appends mid after) → IsOverviewFrom format shown books status (Appends before after)
  told_so Json written status w told = told_object written status (w refl) told
  told_so Text written status w told = told_lines written status told

  pub told_overview : {E : Type 0} (r : Result Status E) (format : Format) (written : Result (Unit {0}) WalkFault) → (format ≡ Json → WritesText (IsShownText books content shown) written before mid)
      → IfOk r (λ status. IsOverviewEnd written format status (Appends mid after)) → IfOk r (λ status. IsOverviewFrom format shown books status (Appends before after))
  told_overview (Ok status) format written w told = told_so format written status w told
  told_overview (Err e) format written w told = tt

-- a script that was played on a new desk in memory
pub after_script : (given before after : Option (List ℕ)) (was is : Bool) (v0 v1 : View) → v0.room ≡ MOST_ENTRIES → v1.room ≡ v0.room → was ≡ false → is ≡ false → v1.device.failures ≡ v0.device.failures → v1.device.failures < MOST_FAILURES → v1.is_honest → v1.device.is_honest
    → Holds was v0 no_books → IsReady is v1
    → ((books : Books) → v1.is_honest → Holds was v0 books → (script : List ℕ) × IfSome given (λ input. input ≡ script) × (length script ≤ LONGEST_SCRIPT) × PlaysScript was books script before after is v0 v1)
    → IsAfterScript given v1
after_script given before after was is v0 v1 most room not_closed stays sound few honest device holds ready played =
    let p = played no_books honest holds in
    let s = p.3 in
    let P : ℕ → Type 0 = λ k. AnsweredInTurn k was no_books (asked_in s.items) s.answers is s.played.last in
    let Q : Bool → Type 0 = λ b. AnsweredInTurn MOST_ENTRIES b no_books (asked_in s.items) s.answers is s.played.last in
    let R : Bool → Type 0 = λ b. AnsweredInTurn MOST_ENTRIES false no_books (asked_in s.items) s.answers b s.played.last in
    let run : AnsweredInTurn MOST_ENTRIES false no_books (asked_in s.items) s.answers false s.played.last = subst R stays (subst Q not_closed (subst P most s.played.in_turn)) in
    let none = none_failed s.answers v0.device.failures v1.device.failures (s.played.blame honest device few) (omega (arith, sound)) in
    record {
      script = p.0;
      books = s.played.last;
      came = p.1;
      plays = record {
        items = s.items;
        answers = s.answers;
        short = p.2;
        spells = s.spells;
        in_turn = run;
        in_memory = only_memory s.answers (open_all_along MOST_ENTRIES false no_books s.played.last (asked_in s.items) s.answers run) none;
      };
      room = room ∙ most;
      ready = subst (λ b. IsReady b v1) stays ready;
      keeps = subst (λ k. KeepsFormed k s.played.last v1.content) (room ∙ most) (s.played.holds stays);
    }

-- what stands after it
pub told_of_script : {E : Type 0} (r : Result Status E) (shown : Shown) (format : Format) (given : Option (List ℕ)) (U : Type 0) (may_fail : Bool) (P : List ℕ → Type 0) (view : View) → (a : IsAfterScript given view)
    → IfOk r (λ status. IsOverviewFrom format shown a.books status P) → IfOk r (λ status. IsOverviewAnswer shown format given U may_fail status P)
told_of_script (Ok status) shown format given U may_fail P view a told = told_after a.script a.books a.came a.plays told
told_of_script (Err e) shown format given U may_fail P view a told = tt

-- no script was played
pub told_none : {E : Type 0} (r : Result Status E) (failure : Failure) (shown : Shown) (format : Format) (given : Option (List ℕ)) (U : Type 0) (may_fail : Bool) (P : List ℕ → Type 0) → MayPlayNone given U may_fail failure
    → IfOk r (λ status. IsFailureTold failure status P) → IfOk r (λ status. IsOverviewAnswer shown format given U may_fail status P)
told_none (Ok status) failure shown format given U may_fail P may told = told_no_script may.0 may.1 (subst (λ f. IsFailureTold f status P) may.2 told)
told_none (Err e) failure shown format given U may_fail P may told = tt

-- how it ended over a file
module _ (has_closed : Bool) (shown : Shown) (books : Books) (before mid after : Option (List ℕ)) where
  ended_by : (format : Format) (said status : Status) → IsOverviewFrom format shown books said (Appends before mid) → EndsBy has_closed said status (after ≡ mid) (Appends mid after)
      → IsOpenOverviewAnswer has_closed shown format books status (Appends before after)
  ended_by format said status is (inl same) =
      let P : Status → Type 0 = λ s. IsOpenOverviewAnswer has_closed shown format books s (Appends before after) in
      subst P (sym same.0) (told_from (subst (λ k. IsOverviewFrom format shown books said (Appends before k)) (sym same.1) is) same.2)
  ended_by Text said status is (inr unclosed) = told_unclosed unclosed.1 unclosed.2.0 tt
  ended_by Json said status (told_report text stands done written) (inr unclosed) =
      told_unclosed unclosed.1 unclosed.2.0 (text, stands, Appends-trans before mid after (text ++ codes "\n") (failure_line Storage ++ codes "\n") written unclosed.2.1)
  ended_by Json said status (told_front front rest stands failure may fault written) (inr unclosed) = absurd (unclosed.0 fault)

  pub ended_overview : {E : Type 0} (format : Format) (told result : Result Status E) → IfOk told (λ status. IsOverviewFrom format shown books status (Appends before mid))
      → IfOk result (λ status. IsOkAnd told (λ said. EndsBy has_closed said status (after ≡ mid) (Appends mid after))) → IfOk result (λ status. IsOpenOverviewAnswer has_closed shown format books status (Appends before after))
  ended_overview format told (Err e) is ends = tt
  ended_overview format (Err e) (Ok status) is ends = absurd ends
  ended_overview format (Ok said) (Ok status) is ends = ended_by format said status is ends

-- why no script was played by a writer that does not fail
pub none_played : (given : Option (List ℕ)) (U : Type 0) (may_fail : Bool) (fault : PlayFault) (failure : Failure) → (fault ≡ plays.Memory → U) → (fault ≡ plays.ReadFailed → may_fail ≡ true)
    → (fault ≡ plays.TooLong → IfSome given (λ input. LONGEST_SCRIPT < length input)) → (fault ≡ plays.WriteFailed → ⊥) → failure ≡ failure_of_played fault → MayPlayNone given U may_fail failure
none_played given U may_fail plays.Memory failure unread failed long written is = (inputs.Memory, unread refl, is)
none_played given U may_fail plays.ReadFailed failure unread failed long written is = (inputs.ReadFailed, failed refl, is)
none_played given U may_fail plays.TooLong failure unread failed long written is = (inputs.TooLong, long refl, is)
none_played given U may_fail plays.WriteFailed failure unread failed long written is = absurd (written refl)
