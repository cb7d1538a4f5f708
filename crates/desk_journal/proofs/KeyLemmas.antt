-- The messages that the notices tell, one after another.
use Rattle.std.proofs.Common.{◌≡◌, ℕ, ◌+◌, ◌^◌, ◌<◌, ◌≤◌, List, [], ◌∷◌, ◌++◌, length, take, get_or, Option, Some, None, refl, sym, ◌∙◌, ap, subst, arith, length-take}
use Rattle.std.specs.Prelude.{slice_get, Result, Ok, Err, OnOk}
use Rattle.std.specs.BTreeMap.{BTreeMap}
use Rattle.std.proofs.lemmas.List.{take_all}
use Rattle.std.proofs.lemmas.Option.{slice_get-get_or, slice_get_within}
use Rattle.desk_rules.specs.declared.answers.reply.Notice.{Notice}
use Rattle.desk_rules.specs.declared.answers.reply.Sent.{Sent}
use Rattle.desk_rules.specs.declared.history.entry.Entry.{Entry}
use Rattle.desk_rules.specs.declared.history.entry.Instructed.{Instructed}
use Rattle.desk_rules.specs.declared.limits.TheConstants.{MOST_SENT}
use Rattle.desk_rules.specs.Books.{Books}
use Rattle.desk_rules.specs.Content.{Content, history_of}
use Rattle.desk_rules.specs.History.{instruction_at}
use Rattle.desk_rules.specs.Sent.{notices_of, sent_of, told}
use Rattle.desk_rules.specs.Tables.{AreTables}
use Rattle.desk_rules.proofs.HistoryLemmas.{slice_get-some}
use Rattle.desk_rules.proofs.OneContent.{one_books}
use Rattle.desk_rules.proofs.SentNumbers.{all_known, sent_length, sent_numbered}
use Rattle.desk_register.specs.View.{HasRead, View, IsRead}
use Rattle.desk_register.specs.declared.fault.WalkFault.{WalkFault}
use Rattle.desk_register.proofs.ReadLemmas.{kept_so}
use Rattle.desk_register.proofs.ReadingLemmas.{read_on}
use Rattle.desk_journal.specs.declared.rows.journal.MessageKey.{MessageKey}
use Rattle.desk_journal.specs.Counting.{AreCounted, AreKeyed, CountsMore, IsNoticeAt, bic_cmp}
use Rattle.desk_journal.specs.Messages.{keys_after, keys_of}
use Rattle.desk_journal.specs.Sending.{HoldNotices, HoldsBooks, HoldsInstruction, type_told}
use Rattle.desk_journal.proofs.CountingLemmas.{counted_more, keys_more, number_more, one_more}

-- the books of a content are one, so they sent no more than may be
pub few_sent : (content : Content) (books : Books) → HoldsBooks content → AreTables books content → length (sent_of books) < MOST_SENT
few_sent content books holds are =
    let same = one_books holds.books books holds.are.are are.are (sym holds.are.history ∙ are.history) in
    subst (λ (b : Books). length (sent_of b) < MOST_SENT) same holds.few

-- The addressee and the type of the message that tells a notice.

told_bic : (history : List Entry) (k about : ℕ) (run : Option ℕ) (i : Instructed) → (told history k about run i).bic ≡ i.sender
told_bic history k about None i = refl
told_bic history k about (Some run) i = refl

told_type : (history : List Entry) (k about : ℕ) (run : Option ℕ) (i : Instructed) → (told history k about run i).mt ≡ type_told run i.instruction.mt
told_type history k about None i = refl
told_type history k about (Some run) i = refl

some_same : {X : Type 0} (x y : X) → Some x ≡ Some y → x ≡ y
some_same x y e = cc

-- the message that tells the notice of a place
record TellsAt (books : Books) (place : ℕ) (run : Option ℕ) (i : Instructed) : Type 0 where
  message : Sent
  at : slice_get (sent_of books) place ≡ Some message
  bic : message.bic ≡ i.sender
  mt : message.mt ≡ type_told run i.instruction.mt

abbrev key : ℕ → List ℕ → ℕ → MessageKey
key mt bic number = record { mt = mt; bic = bic; number = number }

same_key : (a b : ℕ) (c d : List ℕ) (m n : ℕ) → a ≡ b → c ≡ d → m ≡ n → key a c m ≡ key b d n
same_key a b c d m n e f g = rw (e, f, g) refl

module _ (books : Books) (content : Content) (are : AreTables books content) (place : ℕ) (notice : Notice) (i : Instructed) (is_notice : IsNoticeAt books place notice) (about : instruction_at (history_of content) notice.about ≡ Some i) where
  tells_at : TellsAt books place notice.run i
  tells_at =
      let size = sent_length books.history 1 (notices_of books) (all_known books are.are) in
      let within = slice_get_within (notices_of books) place notice is_notice in
      let found = slice_get-some (sent_of books) place (omega (arith, size, within)) in
      let tells = sent_numbered books are.are place found.0 found.1 in
      let notices : tells.notice ≡ notice = some_same tells.notice notice (sym tells.is_notice ∙ is_notice) in
      let instructs : instruction_at books.history notice.about ≡ Some i = ap (λ h. instruction_at h notice.about) (sym are.history) ∙ about in
      let who : tells.instructed ≡ i = some_same tells.instructed i (sym tells.instructs ∙ ap (λ (n : Notice). instruction_at books.history n.about) notices ∙ instructs) in
      record {
        message = found.0;
        at = found.1;
        bic =
            ap (λ (m : Sent). m.bic) tells.is
            ∙ told_bic books.history (place + 1) tells.notice.about tells.notice.run tells.instructed
            ∙ ap (λ (z : Instructed). z.sender) who;
        mt =
            ap (λ (m : Sent). m.mt) tells.is
            ∙ told_type books.history (place + 1) tells.notice.about tells.notice.run tells.instructed
            ∙ ap (λ (n : Notice). type_told n.run tells.instructed.instruction.mt) notices
            ∙ ap (λ (z : Instructed). type_told notice.run z.instruction.mt) who;
      }

  module _ (holds : HoldsBooks content) (old new : BTreeMap (List ℕ) ℕ) (keys added : List MessageKey) (now : ℕ) (keyed : AreKeyed books place old keys) (more : CountsMore bic_cmp old i.sender now new) where
    -- with the message of one more notice, where it was added
    keyed_more : added ≡ keys ++ record { mt = type_told notice.run i.instruction.mt; bic = i.sender; number = now } ∷ [] → AreKeyed books (place + 1) new added
    keyed_more is =
        let tells = tells_at in
        let before = take place (sent_of books) in
        let longer = one_more (sent_of books) place tells.message tells.at in
        let all = few_sent content books holds are in
        let size = length-take place (sent_of books) in
        let more_to = subst (λ z. CountsMore bic_cmp old z now new) (sym tells.bic) more in
        let few : length before + 1 < 2 ^ 64 = omega (arith, all, size) in
        let number = number_more old new before tells.message now keyed.counted few more_to in
        record {
          counted = subst (λ z. AreCounted new z) (sym longer) (counted_more old new before tells.message now keyed.counted few more_to);
          listed =
              is
              ∙ ap (λ ks. ks ++ key (type_told notice.run i.instruction.mt) i.sender now ∷ []) keyed.listed
              ∙ ap (λ k. keys_after [] before ++ k ∷ []) (same_key _ _ _ _ _ _ (sym tells.mt) (sym tells.bic) number)
              ∙ sym (keys_more [] before tells.message)
              ∙ ap (keys_after []) (sym longer);
        }

    pub key_added : (result : Result (Unit {0}) WalkFault) → OnOk result (added ≡ keys ++ record { mt = type_told notice.run i.instruction.mt; bic = i.sender; number = now } ∷ []) → OnOk result (AreKeyed books (place + 1) new added)
    key_added (Ok u) is = keyed_more is
    key_added (Err fault) is = tt

-- The messages of the notices before an index are listed.
pub record Keying (v0 v : View) (index : ℕ) (notices : List Notice) (counts : BTreeMap (List ℕ) ℕ) (keys : List MessageKey) : Type 0 where
  pub read : HasRead v0 v
  pub keyed : (books : Books) → v.is_honest → v0.is_sure → AreTables books v0.content → notices ≡ notices_of books → AreKeyed books index counts keys

module _ (v0 v : View) (index : ℕ) (notices : List Notice) (counts : BTreeMap (List ℕ) ℕ) (keys : List MessageKey) (k : Keying v0 v index notices counts keys) where
  -- the notice at the index is about an instruction that is still held
  pub keying_known : (notice : Notice) → index < length notices → (v0.is_honest → v0.is_sure → HoldNotices v0.content notices) → v.is_honest → v.is_sure → HoldsInstruction v.content (get_or notices index notice).about
  keying_known notice within known honest sure =
      let sure0 = k.read.later.sure honest sure in
      let notice_at = get_or notices index notice in
      kept_so v0 v k.read (λ c. HoldsInstruction c notice_at.about) honest sure0 (known (k.read.later.honest honest) sure0 index notice_at (slice_get-get_or notices index notice within))

  pub keying_goes_on : (v1 : View) (notice : Notice) (counts1 : BTreeMap (List ℕ) ℕ) (keys1 : List MessageKey) → index < length notices → IsRead {X = Unit {0}} (Ok tt) v v1
      → ((books : Books) → v1.is_honest → v.is_sure → AreTables books v.content → (place : ℕ) → IsNoticeAt books place (get_or notices index notice) → AreKeyed books place counts keys → AreKeyed books (place + 1) counts1 keys1)
      → Keying v0 v1 (index + 1) notices counts1 keys1
  keying_goes_on v1 notice counts1 keys1 within read more = record {
    read = read_on v0 v k.read tt v1 read;
    keyed = λ books honest sure are is.
        let honest_now = read.later.honest honest in
        more books honest (k.read.ok.sure honest_now sure) (kept_so v0 v k.read (AreTables books) honest_now sure are) index
        (ap (λ ns. slice_get ns index) (sym is) ∙ slice_get-get_or notices index notice within) (k.keyed books honest_now sure are is);
  }

  -- where it is past all notices, all messages are listed
  pub keying_ends : length notices ≤ index → (books : Books) → v.is_honest → v0.is_sure → AreTables books v0.content → notices ≡ notices_of books → keys ≡ keys_of books
  keying_ends all books honest sure are is =
      let size = sent_length books.history 1 (notices_of books) (all_known books are.are) in
      let same = ap length is in
      (k.keyed books honest sure are is).listed ∙ ap (keys_after []) (take_all index (sent_of books) (omega (arith, size, same, all)))
