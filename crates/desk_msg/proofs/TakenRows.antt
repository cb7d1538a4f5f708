-- What a statement has written once rows were taken, one after another, and once it is finished.
use Rattle.std.proofs.Common.{◌≡◌, ℕ, Bool, false, true, List, [], ◌∷◌, ◌++◌, ◌∙◌, refl, sym, subst, append_assoc, append-nil, Option}
use Rattle.std.specs.Io.KnownBytes.{Appends}
use Rattle.std.proofs.KnownBytes.{Appends-nil, Appends-trans}
use Rattle.desk_msg.specs.declared.writing.statement_row.StatementRow.{StatementRow}
use Rattle.desk_msg.specs.declared.writing.holdings.Heading.{Heading}
use Rattle.desk_msg.specs.declared.writing.holdings.HoldingsWriter.{HoldingsWriter}
use Rattle.desk_msg.specs.HoldingsText.{holdings}
use Rattle.desk_msg.specs.TookRows.{TookAll}
use Rattle.desk_msg.specs.HoldingsPieces.{added_by, rest_text, written_by, has_row, TakesRow, HasTaken}
use Rattle.desk_msg.proofs.HoldingsLemmas.{whole_written, one_more}

-- one row more, of any sink
pub TookAll-push : {S : Type 0} (took : S → StatementRow → S → Type 0) (before : S) (rows : List StatementRow) (between : S) (row : StatementRow) (after : S)
    → TookAll took before rows between → took between row after → TookAll took before (rows ++ row ∷ []) after
TookAll-push {S} took before [] between row after all step = let P : S → Type 0 = λ s. took s row after in (after, subst P all step, refl)
TookAll-push took before (first ∷ rows) between row after all step = (all.0, all.1, TookAll-push took all.0 rows between row after all.2 step)

has_row-more : (rows : List StatementRow) (row : StatementRow) → has_row (rows ++ row ∷ []) ≡ true
has_row-more [] row = refl
has_row-more (first ∷ rows) row = refl

-- without a row nothing is written yet
pub none_taken : {W : Type 0} (contents : W → Option (List ℕ)) (first : HoldingsWriter W) → first.is_begun ≡ false → HasTaken contents first [] first
none_taken contents first begun = record { same_writer = refl; same_heading = refl; is_begun = begun; written = Appends-nil (contents first.writer.now) }

-- one row more
pub one_taken : {W : Type 0} (contents : W → Option (List ℕ)) (first : HoldingsWriter W) (rows : List StatementRow) (last : HoldingsWriter W) (row : StatementRow) (next : HoldingsWriter W)
    → HasTaken contents first rows last → TakesRow contents last row next → HasTaken contents first (rows ++ row ∷ []) next
one_taken contents first rows last row next by step =
    let P : Heading → Type 0 = λ h. Appends (contents last.writer.now) (contents next.writer.now) (added_by h last.is_begun row) in
    let Q : Bool → Type 0 = λ b. Appends (contents last.writer.now) (contents next.writer.now) (added_by first.heading b row) in
    let R : List ℕ → Type 0 = λ text. Appends (contents first.writer.now) (contents next.writer.now) text in
    let added : Q (has_row rows) = subst Q by.is_begun (subst P by.same_heading step.written) in
    record {
      same_writer = step.same_writer ∙ by.same_writer;
      same_heading = step.same_heading ∙ by.same_heading;
      is_begun = step.is_begun ∙ sym (has_row-more rows row);
      written = subst R (one_more first.heading rows row)
          (Appends-trans (contents first.writer.now) (contents last.writer.now) (contents next.writer.now) (written_by first.heading rows) (added_by first.heading (has_row rows) row) by.written added);
    }

further_taken : {W : Type 0} (contents : W → Option (List ℕ)) (first : HoldingsWriter W) (rows : List StatementRow) (between : HoldingsWriter W) (more : List StatementRow) (last : HoldingsWriter W)
    → HasTaken contents first rows between → TookAll (TakesRow contents) between more last → HasTaken contents first (rows ++ more) last
further_taken {W} contents first rows between [] last by steps =
    let P : HoldingsWriter W → Type 0 = λ s. HasTaken contents first (rows ++ []) s in
    let Q : List StatementRow → Type 0 = λ rs. HasTaken contents first rs between in
    subst P (sym steps) (subst Q (sym (append-nil rows)) by)
further_taken contents first rows between (row ∷ more) last by steps =
    let Q : List StatementRow → Type 0 = λ rs. HasTaken contents first rs last in
    subst Q (append_assoc rows (row ∷ []) more)
    (further_taken contents first (rows ++ row ∷ []) steps.0 more last (one_taken contents first rows between row steps.0 by steps.1) steps.2)

-- rows that were taken one after another
pub all_taken : {W : Type 0} (contents : W → Option (List ℕ)) (first : HoldingsWriter W) (rows : List StatementRow) (last : HoldingsWriter W)
    → first.is_begun ≡ false → TookAll (TakesRow contents) first rows last → HasTaken contents first rows last
all_taken contents first rows last begun steps = further_taken contents first [] first rows last (none_taken contents first begun) steps

-- A statement that is finished is, behind what the writer held at first, the text of the rows that were taken.
pub statement_written : {W : Type 0} (contents : W → Option (List ℕ)) (first : HoldingsWriter W) (rows : List StatementRow) (last : HoldingsWriter W) (end : W)
    → HasTaken contents first rows last → Appends (contents last.writer.now) (contents end) (rest_text last.heading last.is_begun)
    → Appends (contents first.writer.now) (contents end) (holdings first.heading.entries first.heading.day first.heading.account rows)
statement_written contents first rows last end by finished =
    let P : Heading → Type 0 = λ h. Appends (contents last.writer.now) (contents end) (rest_text h last.is_begun) in
    let Q : Bool → Type 0 = λ b. Appends (contents last.writer.now) (contents end) (rest_text first.heading b) in
    let R : List ℕ → Type 0 = λ text. Appends (contents first.writer.now) (contents end) text in
    let rest : Q (has_row rows) = subst Q by.is_begun (subst P by.same_heading finished) in
    subst R (whole_written first.heading rows)
    (Appends-trans (contents first.writer.now) (contents last.writer.now) (contents end) (written_by first.heading rows) (rest_text first.heading (has_row rows)) by.written rest)

-- The same, where the rows were taken one after another of a statement of this heading, over what the writer held.
pub rows_written : {W : Type 0} (contents : W → Option (List ℕ)) (first : HoldingsWriter W) (rows : List StatementRow) (last : HoldingsWriter W) (held end : W) (entries : ℕ) (day account : List ℕ)
    → first.writer.now ≡ held → first.heading ≡ record { entries = entries; day = day; account = account } → first.is_begun ≡ false → TookAll (TakesRow contents) first rows last
    → Appends (contents last.writer.now) (contents end) (rest_text last.heading last.is_begun) → Appends (contents held) (contents end) (holdings entries day account rows)
rows_written {W} contents first rows last held end entries day account holds heading begun steps finished =
    let P : W → Type 0 = λ w. Appends (contents w) (contents end) (holdings entries day account rows) in
    let Q : Heading → Type 0 = λ h. Appends (contents first.writer.now) (contents end) (holdings h.entries h.day h.account rows) in
    subst P holds (subst Q heading (statement_written contents first rows last end (all_taken contents first rows last begun steps) finished))
