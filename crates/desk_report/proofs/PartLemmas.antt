-- What each part tells.
use Rattle.std.proofs.Common.{◌≡◌, ℕ, ◌+◌, ◌<◌, ◌≤◌, Bool, true, false, cond, List, [], ◌∷◌, ◌++◌, drop, filter, get_or, map, take, Option, None, refl, sym, ap, ◌∙◌, subst, append_assoc, append-nil}
use Rattle.std.specs.Prelude.{Result, Ok, Err}
use Rattle.std.specs.Result.{IsErrAnd}
use Rattle.std.proofs.lemmas.List.Elements.{filter-append, filter_more}
use Rattle.std.proofs.lemmas.List.{take-append-drop, take_all}
use Rattle.std.specs.Io.KnownBytes.{Appends}
use Rattle.serde_json.specs.Data.{Data, array, Members, no_members, member}
use Rattle.serde_json.specs.View.{items_of}
use Rattle.serde_json.specs.Written.{comma_if, compact_text}
use Rattle.desk_rules.specs.Books.{Books}
use Rattle.desk_rules.specs.Content.{Content}
use Rattle.desk_register.specs.View.{HasRead, IfTrusted, IsLater, View, IsRead}
use Rattle.desk_register.proofs.ReadingLemmas.{read_on}
use Rattle.desk_register.proofs.ReadLemmas.{read_none}
use Rattle.desk_book.proofs.TellingLemmas.{known_of}
use Rattle.desk_report.proofs.NumberedLemmas.{handed_on}
use Rattle.desk_engine.specs.Applied.{Keeps}
use Rattle.desk_engine.specs.Ready.{IsReady}
use Rattle.desk_book.specs.RowByRow.{WritesSome, WritesText, WritesWhole}
use Rattle.desk_book.specs.Sums.{sums_data}
use Rattle.desk_book.proofs.AnsweringLemmas.{sums_told}
use Rattle.desk_book.proofs.CashLemmas.{cash_goes_on, cash_none}
use Rattle.desk_book.proofs.ListedLemmas.{totals_exist}
use Rattle.desk_book.proofs.RowLemmas.{appended, appends_nothing, closed_by}
use Rattle.desk_report.specs.RowData.{account_data, cash_data, pending_data, unmatched_data}
use Rattle.desk_report.specs.Pending.{IsPendingText}
use Rattle.desk_report.proofs.PendingWalkLemmas.{nothing_listed, tells_pairs}
use Rattle.desk_report.specs.Unmatched.{IsUnmatchedText, unmatched_of}
use Rattle.desk_report.specs.Accounts.{IsAccountsText}
use Rattle.desk_report.specs.Cash.{IsCashText, cash_of}
use Rattle.desk_report.proofs.AccountLemmas.{accounts_exist, hold_registered}
use Rattle.desk_report.specs.Report.{AreMembers, IsPartOf, IsReportText, all_parts, is_asked, name_of_part}
use Rattle.desk_report.specs.declared.part.Parts.{Parts}
use Rattle.desk_report.specs.ReportWritten.{AreMembersText, AreRowsOf, IsMemberText, IsPartText, front_of, label_of}
use Rattle.desk_report.specs.declared.part.Part.{Part}
use Rattle.desk_report.specs.declared.part.Part.TheVariants.{Accounts, Cash, Pending, Sums, Unmatched}
use Rattle.desk_report.proofs.MemberLemmas.{Begun, begun_more, begun_nothing, closed_members}
use Rattle.desk_msg.specs.declared.writing.statement_row.SinkFault.TheVariants as sinks
use Rattle.desk_register.specs.declared.fault.WalkFault.{WalkFault}
use Rattle.desk_register.specs.declared.fault.WalkFault.TheVariants as walks

-- rows of which each part's text is
pub accounts_rows : (books : Books) (content : Content) (text : List ℕ) → IsAccountsText content text → AreRowsOf books content Accounts text
accounts_rows books content text is = (map account_data is.rows, (is.rows, is.are, refl), is.is)

pub cash_rows : (books : Books) (content : Content) (text : List ℕ) → IsCashText content text → AreRowsOf books content Cash text
cash_rows books content text is = (map cash_data (cash_of content), refl, is)

pub pending_rows : (books : Books) (content : Content) (text : List ℕ) → IsPendingText content text → AreRowsOf books content Pending text
pending_rows books content text is = (map pending_data is.rows, (is.rows, is.are, refl), is.is)

pub unmatched_rows : (books : Books) (content : Content) (text : List ℕ) → IsUnmatchedText content text → AreRowsOf books content Unmatched text
unmatched_rows books content text is = (map unmatched_data (unmatched_of content), refl, is)

-- between their brackets
pub in_brackets : (books : Books) (content : Content) (part : Part) (text : List ℕ) → AreRowsOf books content part text → IsPartText books content part (91 ∷ [] ++ (text ++ 93 ∷ []))
in_brackets books content part text are =
    (array (items_of are.0), are.1, ap (λ (l : List ℕ). 91 ∷ l) (ap (λ (l : List ℕ). l ++ 93 ∷ []) are.2 ∙ closed_by false are.0))

-- between their braces
pub in_braces : (books : Books) (content : Content) (parts : Parts) (text : List ℕ) → AreMembersText books content parts text → IsReportText books content parts (123 ∷ [] ++ (text ++ 125 ∷ []))
in_braces books content parts text are =
    record { members = are.0; are = are.1; is = ap (λ (l : List ℕ). 123 ∷ l) (ap (λ (l : List ℕ). l ++ 125 ∷ []) are.2 ∙ closed_members false are.0) }

-- behind its name
pub named : (books : Books) (content : Content) (part : Part) (is_later : Bool) (text : List ℕ) → IsPartText books content part text → IsMemberText books content part is_later ((comma_if is_later ++ label_of part) ++ text)
named books content part is_later text is =
    (is.0, is.1, append_assoc (comma_if is_later) (label_of part) text ∙ ap (λ (l : List ℕ). comma_if is_later ++ (label_of part ++ l)) is.2)

-- each part can be told
pub part_exists : (v : View) → IsReady false v → v.is_honest → (books : Books) → Keeps v.room books v.content → (part : Part) → (value : Data) × IsPartOf books v.content part value
part_exists v ready honest books keeps Accounts =
    let held = ready.books refl honest in
    let rows = accounts_exist v.content (hold_registered v.room held.0 v.content held.1) in
    (array (items_of (map account_data rows.0)), (rows.0, rows.1, refl))
part_exists v ready honest books keeps Cash = (array (items_of (map cash_data (cash_of v.content))), refl)
part_exists v ready honest books keeps Pending =
    let found = (nothing_listed v.content None (tells_pairs v ready honest)).is_text in
    (array (items_of (map pending_data found.rows)), (found.rows, found.are, refl))
part_exists v ready honest books keeps Sums =
    let cash = cash_goes_on v.room books v.content keeps 0 [] (cash_none v.content) in
    let totals = totals_exist v.room books v.content keeps in
    let told = sums_told v.room books v.content cash.0 totals.0 keeps cash.1 totals.1 in
    (sums_data told.cash told.securities, (told.cash, told.securities, told.are_cash, told.are, refl))
part_exists v ready honest books keeps Unmatched = (array (items_of (map unmatched_data (unmatched_of v.content))), refl)

-- and so can some of them
pub members_exist : (v : View) → IsReady false v → v.is_honest → (books : Books) → Keeps v.room books v.content → (parts : List Part) → (members : Members) × AreMembers books v.content parts members
members_exist v ready honest books keeps [] = (no_members, refl)
members_exist v ready honest books keeps (part ∷ parts) =
    let one = part_exists v ready honest books keeps part in
    let rest = members_exist v ready honest books keeps parts in
    (member (name_of_part part) one.0 rest.0, (one.0, one.1, rest.0, rest.1, refl))

-- members of these parts were written behind what stood there
pub record MembersWritten (books : Books) (content : Content) (done : List Part) (is_later : Bool) (before now : Option (List ℕ)) : Type 0 where
  pub text : List ℕ
  pub written : Appends before now text
  pub begun : Begun books content done is_later text

pub none_written : (books : Books) (content : Content) (before : Option (List ℕ)) → MembersWritten books content [] false before before
none_written books content before = record { text = []; written = appends_nothing before; begun = begun_nothing books content }

module _ (books : Books) (content : Content) (done : List Part) (is_later : Bool) (before between : Option (List ℕ)) (w : MembersWritten books content done is_later before between) where
  -- one more
  pub one_written : (part : Part) (now : Option (List ℕ)) → WritesWhole (IsMemberText books content part is_later) between now → MembersWritten books content (done ++ part ∷ []) true before now
  one_written part now one =
      let more = one.is_text in
      record {
        text = w.text ++ one.text;
        written = appended before between now w.text one.text w.written one.written;
        begun = subst (λ (l : List ℕ). Begun books content (done ++ part ∷ []) true (w.text ++ l)) (sym more.2) (begun_more books content done is_later w.text w.begun part more.0 more.1);
      }

  -- all that are asked for
  pub members_whole : (parts : Parts) → done ≡ filter (is_asked parts) all_parts → WritesWhole (AreMembersText books content parts) before between
  members_whole parts all =
      let on = w.begun.goes_on [] no_members refl in
      let are = subst (λ (ps : List Part). AreMembers books content ps on.0) (append-nil done ∙ all) on.1 in
      record { text = w.text; written = w.written; is_text = (on.0, are, sym (append-nil w.text) ∙ on.2) }

  -- A member broke off: the rest of it, and the members behind it, can be told.
  some_written : (parts : Parts) (part : Part) (left : List Part) (members : Members) → done ++ part ∷ left ≡ filter (is_asked parts) all_parts → AreMembers books content left members → (now : Option (List ℕ))
      → WritesSome (IsMemberText books content part is_later) between now → WritesSome (AreMembersText books content parts) before now
  some_written parts part left members all are now one =
      let more = one.is_text in
      let next = begun_more books content done is_later w.text w.begun part more.0 more.1 in
      let on = next.goes_on left members are in
      let every = subst (λ (ps : List Part). AreMembers books content ps on.0) (append_assoc done (part ∷ []) left ∙ all) on.1 in
      let rest = front_of true members in
      let same : (w.text ++ one.text) ++ (one.rest ++ rest) ≡ (w.text ++ (comma_if is_later ++ (label_of part ++ compact_text more.0))) ++ rest =
      append_assoc w.text one.text (one.rest ++ rest)
      ∙ ap (λ (l : List ℕ). w.text ++ l) (sym (append_assoc one.text one.rest rest) ∙ ap (λ (l : List ℕ). l ++ rest) more.2)
      ∙ sym (append_assoc w.text (comma_if is_later ++ (label_of part ++ compact_text more.0)) rest) in
      record {
        text = w.text ++ one.text;
        written = appended before between now w.text one.text w.written one.written;
        rest = one.rest ++ rest;
        is_text = (on.0, every, same ∙ on.2);
      }

  pub member_broke : (parts : Parts) (part : Part) (left : List Part) (more : Members) → done ++ part ∷ left ≡ filter (is_asked parts) all_parts → AreMembers books content left more → (now : Option (List ℕ)) (fault : WalkFault)
      → WritesText {X = Unit {0}} (IsMemberText books content part is_later) (Err fault) between now → WritesText {X = Unit {0}} (AreMembersText books content parts) (Err fault) before now
  member_broke parts part left more all are now (walks.Sink sinks.Write) one = tt
  member_broke parts part left more all are now (walks.Sink sinks.Memory) one = some_written parts part left more all are now one
  member_broke parts part left more all are now walks.Memory one = some_written parts part left more all are now one
  member_broke parts part left more all are now walks.Storage one = some_written parts part left more all are now one

-- The parts that are asked for of the first ones, and of one more.
pub asked_more : (parts : Parts) (index : ℕ) (part : Part) → index < 5 → get_or all_parts index Accounts ≡ part → is_asked parts part ≡ true → filter (is_asked parts) (take (index + 1) all_parts) ≡ filter (is_asked parts) (take index all_parts) ++ part ∷ []
asked_more parts index part within at asked =
    let one = filter_more (is_asked parts) all_parts index Accounts within in
    one ∙ ap (λ (ps : List Part). filter (is_asked parts) (take index all_parts) ++ filter (is_asked parts) ps) (ap (λ (p : Part). p ∷ []) at) ∙ ap (λ (b : Bool). filter (is_asked parts) (take index all_parts) ++ cond b (part ∷ []) []) asked

pub asked_no_more : (parts : Parts) (index : ℕ) (part : Part) → index < 5 → get_or all_parts index Accounts ≡ part → is_asked parts part ≡ false → filter (is_asked parts) (take (index + 1) all_parts) ≡ filter (is_asked parts) (take index all_parts)
asked_no_more parts index part within at not_asked =
    let one = filter_more (is_asked parts) all_parts index Accounts within in
    one ∙ ap (λ (ps : List Part). filter (is_asked parts) (take index all_parts) ++ filter (is_asked parts) ps) (ap (λ (p : Part). p ∷ []) at) ∙ ap (λ (b : Bool). filter (is_asked parts) (take index all_parts) ++ cond b (part ∷ []) []) not_asked
    ∙ append-nil (filter (is_asked parts) (take index all_parts))

pub asked_left : (parts : Parts) (index : ℕ) (part : Part) → index < 5 → get_or all_parts index Accounts ≡ part → is_asked parts part ≡ true
    → filter (is_asked parts) (take index all_parts) ++ part ∷ filter (is_asked parts) (drop (index + 1) all_parts) ≡ filter (is_asked parts) all_parts
asked_left parts index part within at asked =
    let p = is_asked parts in
    let first = take (index + 1) all_parts in
    let last = drop (index + 1) all_parts in
    sym (append_assoc (filter p (take index all_parts)) (part ∷ []) (filter p last)) ∙ ap (λ (ps : List Part). ps ++ filter p last) (sym (asked_more parts index part within at asked)) ∙ sym (filter-append p first last)
    ∙ ap (filter p) (take-append-drop (index + 1) all_parts)

-- The walk over the parts, after so many of them.
pub record Writing (parts : Parts) (v0 v : View) (index : ℕ) (is_later : Bool) (before now : Option (List ℕ)) : Type 0 where
  pub read : HasRead v0 v
  pub written : (books : Books) → v.is_honest → v0.is_sure → Keeps v0.room books v0.content → MembersWritten books v0.content (filter (is_asked parts) (take index all_parts)) is_later before now

pub writing_begins : (parts : Parts) (v0 : View) (before : Option (List ℕ)) → Writing parts v0 v0 0 false before before
writing_begins parts v0 before = record { read = read_none v0; written = λ books honest sure keeps. none_written books v0.content before }

module _ (parts : Parts) (v0 v : View) (index : ℕ) (is_later : Bool) (before between : Option (List ℕ)) (w : Writing parts v0 v index is_later before between) where
  module _ (part : Part) (within : index < 5) (at : get_or all_parts index Accounts ≡ part) where
    pub step_asked : is_asked parts part ≡ true → (v1 : View) (now : Option (List ℕ)) → IsRead {X = Unit {0}} (Ok tt) v v1
        → ((books : Books) → IfTrusted v v1 (Keeps v.room books v.content → WritesWhole (IsMemberText books v.content part is_later) between now)) → Writing parts v0 v1 (index + 1) true before now
    step_asked asked v1 now read writes = record {
      read = read_on v0 v w.read tt v1 read;
      written = λ books honest sure keeps.
          let done = filter (is_asked parts) (take index all_parts) in
          let so_far = w.written books (read.later.honest honest) sure keeps in
          let one = known_of v0 v v1 books (λ (z : Content). WritesWhole (IsMemberText books z part is_later) between now) w.read read.later (writes books) honest sure keeps in
          subst (λ (ps : List Part). MembersWritten books v0.content ps true before now) (sym (asked_more parts index part within at asked)) (one_written books v0.content done is_later before between so_far part now one);
    }

    pub step_unasked : is_asked parts part ≡ false → Writing parts v0 v (index + 1) is_later before between
    step_unasked not_asked = record {
      read = w.read;
      written = λ books honest sure keeps.
          subst (λ (ps : List Part). MembersWritten books v0.content ps is_later before between) (sym (asked_no_more parts index part within at not_asked)) (w.written books honest sure keeps);
    }

    pub step_broke : IsReady false v0 → is_asked parts part ≡ true → (v1 : View) (now : Option (List ℕ)) (fault : WalkFault) (r : Result (Unit {0}) WalkFault) → IsErrAnd r (λ broken. broken ≡ fault) → IsLater v v1
        → ((books : Books) → IfTrusted v v1 (Keeps v.room books v.content → WritesText {X = Unit {0}} (IsMemberText books v.content part is_later) (Err fault) between now)) → (books : Books) → v1.is_honest → v0.is_sure
        → Keeps v0.room books v0.content → WritesText (AreMembersText books v0.content parts) r before now
    step_broke ready asked v1 now fault r is later writes books honest sure keeps =
        let done = filter (is_asked parts) (take index all_parts) in
        let left = filter (is_asked parts) (drop (index + 1) all_parts) in
        let so_far = w.written books (later.honest honest) sure keeps in
        let one = known_of v0 v v1 books (λ (z : Content). WritesText {X = Unit {0}} (IsMemberText books z part is_later) (Err fault) between now) w.read later (writes books) honest sure keeps in
        let members = members_exist v0 ready (w.read.later.honest (later.honest honest)) books keeps left in
        handed_on (AreMembersText books v0.content parts) fault r before now is
        (member_broke books v0.content done is_later before between so_far parts part left members.0 (asked_left parts index part within at asked) members.1 now fault one)

  pub step_end : 5 ≤ index → (books : Books) → v.is_honest → v0.is_sure → Keeps v0.room books v0.content → WritesWhole (AreMembersText books v0.content parts) before between
  step_end enough books honest sure keeps =
      let done = filter (is_asked parts) (take index all_parts) in
      members_whole books v0.content done is_later before between (w.written books honest sure keeps) parts (ap (filter (is_asked parts)) (take_all index all_parts enough))
