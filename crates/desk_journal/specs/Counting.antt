-- How the messages are counted by their addressees. Only private contracts and proofs speak of it.
use Rattle.std.specs.Prelude.{◌≡◌, ℕ, ◌+◌, ◌<◌, ◌^◌, if◌then◌else◌, List, [], take, count_by, bytes_eq, slice_get, Some, unwrap_or}
use Rattle.std.specs.BTreeMap.{BTreeMap, get}
use Rattle.std.specs.Cmp.Lexicographic.{slice_cmp}
use Rattle.std.specs.Ordering.{is_eq, nat_cmp}
use Rattle.std.specs.declared.cmp.Ordering.{Ordering}
use Rattle.desk_rules.specs.declared.answers.reply.Notice.{Notice}
use Rattle.desk_rules.specs.declared.answers.reply.Sent.{Sent}
use Rattle.desk_rules.specs.Books.{Books}
use Rattle.desk_rules.specs.Sent.{notices_of, sent_of}
use Rattle.desk_journal.specs.Messages.{keys_after}
use Rattle.desk_journal.specs.declared.rows.journal.MessageKey.{MessageKey}

-- a key was counted once more, and now so often
pub record CountsMore {K : Type 0} (cmp : K → K → Ordering) (old : BTreeMap K ℕ) (key : K) (now : ℕ) (new : BTreeMap K ℕ) : Type 0 where
  pub count : unwrap_or (get cmp old key) 0 + 1 < 2 ^ 64 → now ≡ unwrap_or (get cmp old key) 0 + 1
  pub each : (other : K) → get cmp new other ≡ (if is_eq (cmp key other) then Some now else get cmp old other)

-- the order of the bytes of BICs
abbrev pub bic_cmp : List ℕ → List ℕ → Ordering
bic_cmp = slice_cmp nat_cmp

-- of these messages so many were sent to each
pub record AreCounted (counts : BTreeMap (List ℕ) ℕ) (messages : List Sent) : Type 0 where
  pub each : (bic : List ℕ) → unwrap_or (get bic_cmp counts bic) 0 ≡ count_by (λ (m : Sent). bytes_eq m.bic bic) messages

-- the messages of the places below one are counted, and listed as their addressees ask for them
pub record AreKeyed (books : Books) (place : ℕ) (counts : BTreeMap (List ℕ) ℕ) (keys : List MessageKey) : Type 0 where
  pub counted : AreCounted counts (take place (sent_of books))
  pub listed : keys ≡ keys_after [] (take place (sent_of books))

-- the notice of a place
abbrev pub IsNoticeAt : Books → ℕ → Notice → Type 0
IsNoticeAt books place notice = slice_get (notices_of books) place ≡ Some notice
