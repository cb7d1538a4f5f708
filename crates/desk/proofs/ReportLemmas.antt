-- What is told of what a desk holds.
use Rattle.std.proofs.Common.{◌≡◌, ◌∙◌, ℕ, Bool, false, List, ◌++◌, Option, inl, inr, refl, sym, subst}
use Rattle.std.proofs.KnownBytes.{Appends-trans}
use Rattle.std.specs.Io.KnownBytes.{Appends}
use Rattle.std.specs.Prelude.{◌≢◌, Result, Ok, Err, IfOk, IsOkAnd, codes}
use Rattle.desk_register.specs.View.{View}
use Rattle.desk_rules.specs.Books.{Books}
use Rattle.desk_rules.specs.declared.limits.TheConstants.{MOST_ENTRIES}
use Rattle.desk_book.specs.Asked.{Asked}
use Rattle.desk_book.specs.DeskValue.{DeskValue}
use Rattle.desk_book.specs.Held.{Holds}
use Rattle.desk_engine.specs.Ready.{KeepsFormed}
use Rattle.desk_book.specs.WrittenTo.{WritesAsked, leaves_closed, reply_with}
use Rattle.desk_book.specs.declared.answers.head.Head.{Head}
use Rattle.desk_book.specs.declared.fault.ToFault.{ToFault}
use Rattle.desk_book.specs.declared.fault.ToFault.TheVariants as to
use Rattle.desk_file.specs.Opened.{IsReadyFor}
use Rattle.desk.specs.Left.{IsLeft, PassesOn}
use Rattle.desk.specs.PlayAnswer.{AreHeld, KeptBy}
use Rattle.desk.specs.ReportAnswer.{IsOpenReportAnswer, IsReportFrom, IsReportTold, LeavesBooks, ReportsFrom, told_answer, told_from, told_front, told_unclosed}
use Rattle.desk.specs.Status.{Ends, EndsBy, failure_line}
use Rattle.desk.specs.declared.status.Failure.TheVariants.{Closed, Memory, Storage}
use Rattle.desk.specs.declared.status.Status.{Status}
use Rattle.desk.specs.declared.status.Status.TheVariants.{Fault}

module _ (before mid after : Option (List ℕ)) (limit : ℕ) (books : Books) (asked : Asked) where
  told_status : (written : Result Head ToFault) (status : Status) → written ≢ Err to.Closed → WritesAsked limit books asked written before mid → IsReportTold written status (Appends mid after)
      → IsReportFrom limit books asked status (Appends before after)
  told_status (Ok head) status stays writes told = told_answer (reply_with head writes.text) writes.is_answer told.0 (Appends-trans before mid after writes.text (codes "\n") writes.written told.1)
  told_status (Err to.WriteFailed) status stays writes told = absurd told
  told_status (Err to.Memory) status stays writes told =
      told_front writes.text writes.front Memory (inl (inl refl)) told.0 (Appends-trans before mid after writes.text (codes "\n" ++ (failure_line Memory ++ codes "\n")) writes.written told.1)
  told_status (Err to.Storage) status stays writes told =
      told_front writes.text writes.front Storage (inl (inr refl)) told.0 (Appends-trans before mid after writes.text (codes "\n" ++ (failure_line Storage ++ codes "\n")) writes.written told.1)
  told_status (Err to.Closed) status stays writes told = absurd (stays refl)
  told_status (Err to.Lost) status stays writes told =
      told_front writes.text writes.front Closed (inr refl) told.0 (Appends-trans before mid after writes.text (codes "\n" ++ (failure_line Closed ++ codes "\n")) writes.written told.1)

  -- an answer was written, or a front of one, and what is told behind it
  pub told_written : {E : Type 0} (r : Result Status E) (written : Result Head ToFault) → written ≢ Err to.Closed → WritesAsked limit books asked written before mid → IfOk r (λ status. IsReportTold written status (Appends mid after))
      → IfOk r (λ status. IsReportFrom limit books asked status (Appends before after))
  told_written (Ok status) written stays writes told = told_status written status stays writes told
  told_written (Err e) written stays writes told = tt

-- what is told without a fault is an answer, behind which the desk is open
left_open : {R : Type 0} (view : R → View) (now : DeskValue R) (books : Books) (written : Result Head ToFault) (status : Status) (P : List ℕ → Type 0) → now.is_closed ≡ leaves_closed written → Holds now.is_closed (view now.register) books → IsReportTold written status P
    → status ≢ Fault → IsLeft now.is_closed (view now.register) false books
left_open view now books (Ok head) status P stays holds told none =
    let K : Bool → Type 0 = λ b. Holds b (view now.register) books in
    record { closed = stays; holds = subst K stays holds }
left_open view now books (Err to.WriteFailed) status P stays holds told none = absurd told
left_open view now books (Err to.Memory) status P stays holds told none = absurd (none told.0)
left_open view now books (Err to.Storage) status P stays holds told none = absurd (none told.0)
left_open view now books (Err to.Closed) status P stays holds told none = absurd (none told.0)
left_open view now books (Err to.Lost) status P stays holds told none = absurd (none told.0)

pub left_written : {R E : Type 0} (view : R → View) (now : DeskValue R) (books : Books) (r : Result Status E) (written : Result Head ToFault) (P : List ℕ → Type 0) → now.is_closed ≡ leaves_closed written → Holds now.is_closed (view now.register) books
    → IfOk r (λ status. IsReportTold written status P) → IfOk r (λ status. status ≢ Fault → IsLeft now.is_closed (view now.register) false books)
left_written view now books (Ok status) written P stays holds told = left_open view now books written status P stays holds told
left_written view now books (Err e) written P stays holds told = tt

-- the same over tables with a register in memory beside them
pub reports_on_both : {E : Type 0} (v0 v1 : View) (L M : Bool → Books → Type 0) (asked : Asked) (r : Result Status E) (P : List ℕ → Type 0) → IsReadyFor MOST_ENTRIES v0 → v1.is_honest → ReportsFrom v0.room (AreHeld v0 v1) L asked r P → PassesOn L M
    → ReportsFrom MOST_ENTRIES (KeptBy v0) M asked r P
reports_on_both {E} v0 v1 L M asked r P ready honest from on =
    let held : (books : Books) → KeptBy v0 books → AreHeld v0 v1 books = λ books keeps. (honest, subst (λ k. KeepsFormed k books v0.content) (sym ready.room) keeps) in
    record {
      told = λ books keeps. (let Q : ℕ → Type 0 = λ k. IfOk r (λ status. IsReportFrom k books asked status P) in subst Q ready.room (from.told books (held books keeps)));
      left = λ books keeps. (let l = from.left books (held books keeps) in (l.0, on.each l.0 books l.1));
      stays = λ books keeps. passed r books (from.stays books (held books keeps));
    }
  where
    passed : (q : Result Status E) (books : Books) → IfOk q (λ status. status ≢ Fault → L false books) → IfOk q (λ status. status ≢ Fault → M false books)
    passed (Ok status) books left = λ none. on.each false books (left none)
    passed (Err e) books left = tt

-- how it ended over a file
module _ {E : Type 0} (has_closed : Bool) (K : Books → Type 0) (L : Bool → Books → Type 0) (reported result : Result Status E) (asked : Asked) (before mid after : Option (List ℕ))
    (from : ReportsFrom MOST_ENTRIES K L asked reported (Appends before mid)) where
  ended_by : (said status : Status) (books : Books) → IsReportFrom MOST_ENTRIES books asked said (Appends before mid) → EndsBy has_closed said status (after ≡ mid) (Appends mid after)
      → IsOpenReportAnswer has_closed books asked status (Appends before after)
  ended_by said status books is (inl same) =
      let P : Status → Type 0 = λ s. IsOpenReportAnswer has_closed books asked s (Appends before after) in
      subst P (sym same.0) (told_from (subst (λ k. IsReportFrom MOST_ENTRIES books asked said (Appends before k)) (sym same.1) is) same.2)
  ended_by said status books (told_answer reply step number written) (inr unclosed) =
      told_unclosed reply step unclosed.1 unclosed.2.0 (Appends-trans before mid after (reply.text ++ codes "\n") (failure_line Storage ++ codes "\n") written unclosed.2.1)
  ended_by said status books (told_front front is_front failure may fault written) (inr unclosed) = absurd (unclosed.0 fault)

  ended_so : (told ended : Result Status E) (books : Books) → IfOk told (λ status. IsReportFrom MOST_ENTRIES books asked status (Appends before mid))
      → IfOk ended (λ status. IsOkAnd told (λ said. EndsBy has_closed said status (after ≡ mid) (Appends mid after))) → IfOk ended (λ status. IsOpenReportAnswer has_closed books asked status (Appends before after))
  ended_so told (Err e) books is ends = tt
  ended_so (Err e) (Ok status) books is ends = absurd ends
  ended_so (Ok said) (Ok status) books is ends = ended_by said status books is ends

  pub opened_reported : Ends has_closed reported result mid after → (books : Books) → K books
      → IfOk result (λ status. IsOpenReportAnswer has_closed books asked status (Appends before after))
  opened_reported ends books keeps = ended_so reported result books (from.told books keeps) ends.by

  leaves_so : (M : Bool → Books → Type 0) (told ended : Result Status E) (books : Books) → PassesOn L M → IfOk told (λ status. status ≢ Fault → L false books)
      → IfOk ended (λ status. IsOkAnd told (λ said. EndsBy has_closed said status (after ≡ mid) (Appends mid after))) → IfOk ended (λ status. status ≢ Fault → M false books)
  leaves_so M told (Err e) books on left ends = tt
  leaves_so M (Err f) (Ok status) books on left ends = absurd ends
  leaves_so M (Ok said) (Ok status) books on left (inl same) = λ none. on.each false books (left (λ is. none (same.0 ∙ is)))
  leaves_so M (Ok said) (Ok status) books on left (inr unclosed) = λ none. absurd (none unclosed.2.0)

  pub opened_left : (M : Bool → Books → Type 0) → PassesOn L M → Ends has_closed reported result mid after → (books : Books) → K books → LeavesBooks result M books
  opened_left M on ends books keeps = (let l = from.left books keeps in
      record { is_closed = l.0; left = on.each l.0 books l.1; stays = leaves_so M reported result books on (from.stays books keeps) ends.by })
