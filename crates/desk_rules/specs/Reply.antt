-- What the desk answers to a command.
use Rattle.std.specs.Prelude.{◌≡◌, ℕ, ◌==◌, Bool, not, ◌&&◌, if◌then◌else◌, List, [], ◌∷◌, ◌++◌, take, length, codes, decimal, count_by, Option, Some, None}
use Rattle.std.specs.List.{list_any}
use Rattle.desk_msg.specs.declared.writing.status.Own.TheVariants.{Answer}
use Rattle.desk_msg.specs.declared.writing.status.Reason.TheVariants.{Future}
use Rattle.desk_msg.specs.declared.writing.status.Case.{Case}
use Rattle.desk_msg.specs.declared.writing.status.Case.TheVariants.{Unmatched, Matched, CancelDone, CancelWaits, NewRefused, CancelRefused}
use Rattle.desk_msg.specs.StatusText.{advice}
use Rattle.desk_rules.specs.declared.history.entry.Entry.{Entry}
use Rattle.desk_rules.specs.declared.history.entry.Entry.TheVariants.{Instruct, Cancel, Run}
use Rattle.desk_rules.specs.declared.history.pair.Pair.{Pair}
use Rattle.desk_rules.specs.declared.history.pair.Settled.{Settled}
use Rattle.desk_rules.specs.declared.answers.reply.Reply.{Reply}
use Rattle.desk_rules.specs.declared.answers.verdict.Verdict.{Verdict}
use Rattle.desk_rules.specs.declared.answers.verdict.Verdict.TheVariants.{Accept, Repeat, Refuse}
use Rattle.desk_rules.specs.History.{entry_at}
use Rattle.desk_rules.specs.Settlement.{is_due, settled_count}
use Rattle.desk_rules.specs.declared.history.standing.State.{State}
use Rattle.desk_rules.specs.declared.history.standing.State.TheVariants as states
use Rattle.desk_rules.specs.declared.answers.verdict.Refusal.TheVariants.{AlreadySettled}
use Rattle.desk_rules.specs.Books.{Books, AreBooks, is_paired}
use Rattle.desk_rules.specs.Refusals.{number_of_refusal, IsKnownRefusal}
use Rattle.desk_rules.specs.Standing.{state_of}
use Rattle.desk_rules.specs.Verdict.{AsksTheSame, named_by}

-- an answer that is no message, and one that is a status advice
abbrev pub untyped_reply : ℕ → List ℕ → Reply
untyped_reply status text = record { status = status; mt = None; text = text }

-- a refusal that is no message
abbrev pub refused_text : ℕ → List ℕ
refused_text number = codes "refused " ++ decimal number

abbrev pub advice_reply : ℕ → List ℕ → Reply
advice_reply status text = record { status = status; mt = Some 548; text = text }

abbrev pub same_pair : Pair → Pair → Bool
same_pair p q = p.earlier == q.earlier && p.later == q.later

-- the pair is among those settled
abbrev pub is_settled_pair : List Settled → Pair → Bool
is_settled_pair settled p = list_any (λ s. same_pair s.pair p) settled

-- how many pairs that were due in a run are not settled
abbrev pub waiting_count : Books → ℕ → ℕ
waiting_count books run = count_by (λ p. is_due books.history run p && not (is_settled_pair books.settled p)) books.pairs

abbrev pub accepted_text : ℕ → List ℕ
accepted_text n = codes "accepted " ++ decimal n

abbrev pub run_text : Books → ℕ → List ℕ
run_text books n = accepted_text n ++ codes " settled " ++ decimal (settled_count books.settled n) ++ codes " waiting " ++ decimal (waiting_count books n)

-- how an instruction stands right after it was accepted: no run has tried its pair
abbrev pub first_case : Books → ℕ → Case
first_case books n = if is_paired books n then Matched Future else Unmatched

-- How a cancellation stands: done once what it names is cancelled, refused once that is settled, else it waits for a
-- request of the other side.
abbrev pub case_by_state : State → Case
case_by_state states.Cancelled = CancelDone
case_by_state states.Settled = CancelRefused (number_of_refusal AlreadySettled)
case_by_state state = CancelWaits

abbrev pub cancellation_case : Books → Option ℕ → Case
cancellation_case books None = CancelWaits
cancellation_case books (Some n) = case_by_state (state_of books n)

-- The reply to the last entry of these books, when it was accepted.
abbrev pub reply_to : Books → Entry → Reply
reply_to books (Instruct sender i) =
    let n = length books.history in advice_reply 200 (advice (Answer n) i.mt i.reference (first_case books n))
reply_to books (Cancel sender order) =
    advice_reply 200 (advice (Answer (length books.history)) order.mt order.reference (cancellation_case books (named_by books.history sender order)))
reply_to books (Run reference day rule) = untyped_reply 200 (run_text books (length books.history))
reply_to books entry = untyped_reply 200 (accepted_text (length books.history))

-- The reply to an entry that is refused, by a desk of these books.
abbrev pub refused_reply : Books → Entry → ℕ → Reply
refused_reply books (Instruct sender i) number = advice_reply 422 (advice (Answer (length books.history)) i.mt i.reference (NewRefused number))
refused_reply books (Cancel sender order) number = advice_reply 422 (advice (Answer (length books.history)) order.mt order.reference (CancelRefused number))
refused_reply books entry number = untyped_reply 422 (refused_text number)

-- The first reply of the entry n, where there is one of this number: a function of the history up to it, and of nothing
-- later.
pub record IsFirstReply (history : List Entry) (n : ℕ) (reply : Reply) : Type 0 where
  pub is : (books : Books) (entry : Entry) → books.history ≡ take n history → AreBooks books → entry_at history n ≡ Some entry → reply ≡ reply_to books entry

-- The books of the history with an entry more.
pub record AreNext (books : Books) (entry : Entry) (after : Books) : Type 0 where
  pub history : after.history ≡ books.history ++ entry ∷ []
  pub are : AreBooks after

-- The reply to an entry by its verdict: that of the history with it, the first reply again, or the refusal.
abbrev pub IsReply : Books → Entry → Verdict → Books → Reply → Type 0
IsReply books entry Accept after reply = AreNext books entry after × (reply ≡ reply_to after entry)
IsReply books entry (Repeat n) after reply = AsksTheSame books.history n entry × IsFirstReply books.history n reply
IsReply books entry (Refuse refusal) after reply = reply ≡ refused_reply books entry (number_of_refusal refusal)

-- The reply refuses an entry with a number of the catalogue, and tells the number.
pub record TellsRefusal (books : Books) (entry : Entry) (reply : Reply) : Type 0 where
  pub number : ℕ
  pub known : IsKnownRefusal number
  pub is : reply ≡ refused_reply books entry number
