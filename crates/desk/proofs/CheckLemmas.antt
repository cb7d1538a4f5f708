-- A script that is played to memory, and what is told of it.
use Rattle.std.proofs.Common.{◌≡◌, ◌∙◌, ◌<◌, ◌≤◌, ℕ, Bool, true, List, [], ◌∷◌, ◌++◌, length, map, Option, Some, None, ap, sym, subst, refl}
use Rattle.std.specs.declared.alloc.Global.{Global}
use Rattle.std.specs.Prelude.{Vec, Result, Ok, Err, IfOk, IfSome}
use Rattle.std.specs.Result.{result_ok}
use Rattle.std.specs.Io.KnownBytes.{Appends}
use Rattle.desk_streams.specs.declared.fault.InputFault.{InputFault}
use Rattle.desk_streams.specs.declared.fault.InputFault.TheVariants.{Memory, ReadFailed, TooLong}
use Rattle.desk_book.specs.declared.limits.TheConstants.{LONGEST_SCRIPT}
use Rattle.desk_report.specs.declared.format.Format.{Format}
use Rattle.desk_rules.specs.Books.{Books}
use Rattle.desk.specs.CheckAnswer.{AreFound, IsCheckAnswer, IsFindingsAnswer, IsFoundTold, told_all, told_findings, told_memory, told_no_script, told_none, told_script}
use Rattle.desk.specs.Finding.{Refused, findings_in, found_of, refused_by}
use Rattle.desk.specs.declared.findings.finding.Explained.{Explained}
use Rattle.desk.specs.Input.{Came, MayGiveNone, failure_of}
use Rattle.desk.specs.PlayAnswer.{IsPlayAnswer, IsPlayed, told_answers}
use Rattle.desk.specs.PlayAnswer as plays
use Rattle.desk.specs.Status.{IsFailureTold}
use Rattle.desk.specs.Told.{Told, told_in}
use Rattle.desk.specs.declared.status.Failure.{Failure}
use Rattle.desk.specs.declared.status.Failure.TheVariants as failure
use Rattle.desk.specs.declared.status.Status.{Status}
use Rattle.desk.specs.declared.status.Status.TheVariants as exit

-- what was played from these books, where it is done
module _ (books : Books) where
  played_to_end : (given : Option (List ℕ)) (U : Type 0) (reads : Bool) (status : Status) (P : List ℕ → Type 0) → status ≡ exit.Done → IsPlayAnswer books given U reads status P → (script text : List ℕ) × Came given script × IsPlayed books script text × P text
  played_to_end given U reads status P done (told_answers script text came play is wrote) = (script, text, came, play, wrote)
  played_to_end given U reads status P done (plays.told_no_script fault may told) = absurd (let clash : exit.Done ≡ exit.Fault = sym done ∙ told.0 in cc)

  -- from a text in memory to a list in memory
  pub played : (script input start answers : List ℕ) (U : Type 0) (reads : Bool) (status : Status) → script ≡ input → start ≡ [] → status ≡ exit.Done → IsPlayAnswer books (Some input) U reads status (Appends (Some start) (Some answers)) → IsPlayed books script answers
  played script input start answers U reads status same none done is =
      let p = played_to_end (Some input) U reads status (Appends (Some start) (Some answers)) done is in
      let P : List ℕ → Type 0 = λ i. IsPlayed books i answers in
      let Q : List ℕ → Type 0 = λ t. IsPlayed books p.0 t in
      let came : input ≡ p.0 = p.2 in
      let wrote : answers ≡ start ++ p.1 = p.4 in
      let answers_are : p.1 ≡ answers = sym (wrote ∙ ap (λ s. s ++ p.1) none) in
      subst P (sym (same ∙ came)) (subst Q answers_are p.3)

  pub found : (script answers : List ℕ) (requests : ℕ) (findings : List Refused) → IsPlayed books script answers → requests ≡ length (told_in answers) → map (λ r. r.found) findings ≡ findings_in script (told_in answers) → AreFound books script requests findings
  found script answers requests findings play count are = record { answers = answers; played = play; count = count; found = are }

-- the findings of what is told of them
found_in_each : (xs : List Explained) → map (λ r. r.found) (map refused_by xs) ≡ map found_of xs
found_in_each [] = refl
found_in_each (x ∷ xs) = ap (λ rest. found_of x ∷ rest) (found_in_each xs)

-- what was read is what the reader had, and so it was told of that
pub script_told : {E : Type 0} (r : Result Status E) (books : Books) (format : Format) (given : Option (List ℕ)) (U : Type 0) (reads : Bool) (script : List ℕ) (P : List ℕ → Type 0) → IfSome given (λ input. script ≡ input) → IfOk r (λ status. IsFindingsAnswer books format script status P)
    → IfOk r (λ status. IsCheckAnswer books format given U reads status P)
script_told (Ok status) books format None U reads script P same told = told_script script tt told
script_told (Ok status) books format (Some input) U reads script P same told = told_script script (sym same) told
script_told (Err e) books format given U reads script P same told = told

-- why none could be read
why : {X : Type 0} (r : Result X InputFault) (fault : InputFault) (longest : ℕ) (given : Option (List ℕ)) (U : Type 0) (reads : Bool) → r ≡ Err fault → (r ≡ Err Memory → U) → (r ≡ Err ReadFailed → reads ≡ true) → (r ≡ Err TooLong → IfSome given (λ input. longest < length input))
    → MayGiveNone longest given U reads fault
why r Memory longest given U reads is memory unread long = memory is
why r ReadFailed longest given U reads is memory unread long = unread is
why r TooLong longest given U reads is memory unread long = long is

-- and it is told alone
pub told_why : {X E : Type 0} (read : Result X InputFault) (r : Result Status E) (fault : InputFault) (told : Failure) (books : Books) (format : Format) (given : Option (List ℕ)) (U : Type 0) (reads : Bool) (P : List ℕ → Type 0) → read ≡ Err fault → (read ≡ Err Memory → U) → (read ≡ Err ReadFailed → reads ≡ true)
    → (read ≡ Err TooLong → IfSome given (λ input. LONGEST_SCRIPT < length input)) → told ≡ failure_of fault → IfOk r (λ status. IsFailureTold told status P) → IfOk r (λ status. IsCheckAnswer books format given U reads status P)
told_why read (Ok status) fault told books format given U reads P is memory unread long same wrote =
    let Q : Failure → Type 0 = λ f. IsFailureTold f status P in
    told_no_script fault (why read fault LONGEST_SCRIPT given U reads is memory unread long) (subst Q same wrote)
told_why read (Err e) fault told books format given U reads P is memory unread long same wrote = wrote

known_ok : {X E : Type 0} (x : X) (r : Result X E) (P : X → Type 0) → Some x ≡ result_ok r → IfOk r P → P x
known_ok x (Ok y) P same is = let e : x ≡ y = cc in subst P (sym e) is
known_ok x (Err e) P same is = cc

-- as many requests as answers that were told
pub counted : {Y E : Type 0} (list : Y → List Told) (answers : List ℕ) (told : Y) (read : Result Y E) (n : ℕ) → n ≡ length (list told) → Some told ≡ result_ok read → IfOk read (λ y. list y ≡ told_in answers) → n ≡ length (told_in answers)
counted list answers told read n count taken is = count ∙ ap length (known_ok told read (λ y. list y ≡ told_in answers) taken is)

-- what is found by what was told is what is found by the answers
pub found_all : {Y E F : Type 0} (list : Y → List Told) (findings : List Explained) (script answers : List ℕ) (others : List Told) (told : Y) (read : Result Y E) (r : Result (Vec Explained Global) F) (v : Vec Explained Global) → v.items ≡ findings → others ≡ list told
    → Some told ≡ result_ok read → IfOk read (λ n. list n ≡ told_in answers) → Some v ≡ result_ok r → IfOk r (λ x. map found_of x.items ≡ findings_in script others) → map found_of findings ≡ findings_in script (told_in answers)
found_all list findings script answers others told read r v same_items same taken is given are =
    let told_are : others ≡ told_in answers = same ∙ known_ok told read (λ n. list n ≡ told_in answers) taken is in
    ap (map found_of) (sym same_items) ∙ known_ok v r (λ x. map found_of x.items ≡ findings_in script others) given are ∙ ap (findings_in script) told_are

-- what was found was told, or memory was wanting for it
told_so : (books : Books) (format : Format) (script answers : List ℕ) (requests : ℕ) (items : List Explained) (status : Status) (P : List ℕ → Type 0) → length script ≤ LONGEST_SCRIPT → IsPlayed books script answers → requests ≡ length (told_in answers)
    → map found_of items ≡ findings_in script (told_in answers) → IsFoundTold format requests (map refused_by items) status P → IsFindingsAnswer books format script status P
told_so books format script answers requests items status P short play count are (told_all is wrote) =
    told_findings requests (map refused_by items) (found books script answers requests (map refused_by items) play count (found_in_each items ∙ are)) is wrote
told_so books format script answers requests items status P short play count are (told_none told) = told_memory short told

pub told_of : {E : Type 0} (r : Result Status E) (books : Books) (format : Format) (script answers : List ℕ) (requests : ℕ) (items slice : List Explained) (P : List ℕ → Type 0) → slice ≡ items → length script ≤ LONGEST_SCRIPT → IsPlayed books script answers → requests ≡ length (told_in answers)
    → map found_of items ≡ findings_in script (told_in answers) → IfOk r (λ status. IsFoundTold format requests (map refused_by slice) status P) → IfOk r (λ status. IsFindingsAnswer books format script status P)
told_of (Ok status) books format script answers requests items slice P same short play count are told =
    let Q : List Explained → Type 0 = λ xs. IsFoundTold format requests (map refused_by xs) status P in
    told_so books format script answers requests items status P short play count are (subst Q same told)
told_of (Err e) books format script answers requests items slice P same short play count are told = tt

-- memory was wanting for what is found
pub none_told : {E : Type 0} (r : Result Status E) (books : Books) (format : Format) (script : List ℕ) (P : List ℕ → Type 0) → length script ≤ LONGEST_SCRIPT → IfOk r (λ status. IsFailureTold failure.Memory status P) → IfOk r (λ status. IsFindingsAnswer books format script status P)
none_told (Ok status) books format script P short told = told_memory short told
none_told (Err e) books format script P short told = tt

-- or for an object that says it
pub no_object : {E : Type 0} (r : Result Status E) (format : Format) (requests : ℕ) (findings : List Refused) (P : List ℕ → Type 0) → IfOk r (λ status. IsFailureTold failure.Memory status P) → IfOk r (λ status. IsFoundTold format requests findings status P)
no_object (Ok status) format requests findings P told = told_none told
no_object (Err e) format requests findings P told = tt
