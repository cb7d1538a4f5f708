-- What an accepted history of well-formed entries is to a desk that writes it: no more entries than it has room for, each of its
-- instructions somewhere, and each reply and each message one that it can write.
use Rattle.std.proofs.Common.{◌≡◌, ◌≢◌, ◌≤◌, ◌<◌, ◌+◌, ◌^◌, ℕ, zero, suc, Bool, true, false, List, [], ◌∷◌, ◌++◌, length, map, Option, Some, None, slice_get, refl, sym, ap, subst, ◌∙◌, arith, add-one}
use Rattle.std.specs.Prelude.{if◌then◌else◌, take}
use Rattle.std.specs.List.{AllByRecursion}
use Rattle.std.proofs.lemmas.List.{length-map}
use Rattle.desk_codes.specs.Bic.{IsBic}
use Rattle.desk_msg.specs.declared.mt.Mt.{Mt}
use Rattle.desk_msg.specs.declared.mt.Mt.TheVariants.{Mt540, Mt541, Mt542, Mt543, Mt544, Mt545, Mt546, Mt547}
use Rattle.desk_msg.specs.ConfirmationText.{confirming_type}
use Rattle.desk_msg.specs.MessageType.{number_of_type}
use Rattle.desk_rules.specs.declared.answers.reply.Kept.{Kept}
use Rattle.desk_rules.specs.declared.answers.reply.Notice.{Notice}
use Rattle.desk_rules.specs.declared.answers.reply.Reply.{Reply}
use Rattle.desk_rules.specs.declared.answers.reply.Sent.{Sent}
use Rattle.desk_rules.specs.declared.history.entry.Entry.{Entry}
use Rattle.desk_rules.specs.declared.history.entry.Entry.TheVariants.{Participant, Account, Security, Issue, Redeem, PayIn, PayOut, Instruct, Cancel, Run}
use Rattle.desk_rules.specs.declared.history.entry.Instructed.{Instructed}
use Rattle.desk_rules.specs.declared.history.pair.Pair.{Pair}
use Rattle.desk_rules.specs.declared.history.standing.State.{State}
use Rattle.desk_rules.specs.declared.history.standing.State.TheVariants.{NoInstruction, Settled, Cancelled}
use Rattle.desk_rules.specs.declared.history.standing.Standing.{Standing}
use Rattle.desk_rules.specs.Books.{Books, is_settled}
use Rattle.desk_rules.specs.Content.{Content, history_of}
use Rattle.desk_rules.specs.History.{entry_at, instructed, instruction_at}
use Rattle.desk_rules.specs.Pairing.{pair_of}
use Rattle.desk_rules.specs.Reply.{reply_to}
use Rattle.desk_rules.specs.Sent.{notices_of, sent_from, sent_of, told, told_to}
use Rattle.desk_rules.specs.Standing.{instruction_state, is_called_off, open_state, standing_of}
use Rattle.desk_rules.specs.WellFormed.{AreWellFormed, IsWellFormed}
use Rattle.desk_rules.proofs.Existence.{books_exist}
use Rattle.desk_rules.proofs.HistoryLemmas.{some_before}
use Rattle.desk_rules.proofs.WellFormedLemmas.{formed_at}
use Rattle.desk_engine.specs.Applied.{Keeps}
use Rattle.desk_engine.proofs.AcceptingLemmas.{entries_within}
use Rattle.sql_entries.specs.Shown.{HasShortNumbers, HaveShortNumbers}
use Rattle.sql_rows.specs.Messages.{IsSendable}

-- ---- an instruction stands somewhere

open_somewhere : (books : Books) (o : Option Pair) → open_state books o ≢ NoInstruction
open_somewhere books None is = cc
open_somewhere books (Some p) is = cc

either_way : (b : Bool) (x y : State) → x ≢ NoInstruction → y ≢ NoInstruction → (if b then x else y) ≢ NoInstruction
either_way true x y p q = p
either_way false x y p q = q

settled_somewhere : Settled ≢ NoInstruction
settled_somewhere is = cc

cancelled_somewhere : Cancelled ≢ NoInstruction
cancelled_somewhere is = cc

somewhere : (books : Books) (n : ℕ) (o : Option Instructed) (i : Instructed) → o ≡ Some i → instruction_state books n o ≢ NoInstruction
somewhere books n None i is = absurd (cc)
somewhere books n (Some j) i is =
    either_way (is_settled books n) Settled _ settled_somewhere
    (either_way (is_called_off books.history n (pair_of books.pairs n)) Cancelled _ cancelled_somewhere (open_somewhere books (pair_of books.pairs n)))

-- ---- a reply has a status and a type

short_reply : (books : Books) (e : Entry) → HasShortNumbers (reply_to books e)
short_reply books (Participant reference bic) = record { status = omega arith; mt = tt }
short_reply books (Account reference bic account) = record { status = omega arith; mt = tt }
short_reply books (Security reference isin kind) = record { status = omega arith; mt = tt }
short_reply books (Issue movement) = record { status = omega arith; mt = tt }
short_reply books (Redeem movement) = record { status = omega arith; mt = tt }
short_reply books (PayIn payment) = record { status = omega arith; mt = tt }
short_reply books (PayOut payment) = record { status = omega arith; mt = tt }
short_reply books (Instruct sender i) = record { status = omega arith; mt = omega arith }
short_reply books (Cancel sender order) = record { status = omega arith; mt = omega arith }
short_reply books (Run reference day rule) = record { status = omega arith; mt = tt }

all_at : {X : Type 0} (P : X → Type 0) (xs : List X) → ((n : ℕ) (x : X) → slice_get xs n ≡ Some x → P x) → AllByRecursion P xs
all_at P [] each = tt
all_at P (x ∷ xs) each = (each zero x refl, all_at P xs (λ n y at. each (suc n) y at))

got_map : (register : List Kept) (n : ℕ) (k : Kept) → slice_get register n ≡ Some k → slice_get (map (λ (x : Kept). x.entry) register) n ≡ Some k.entry
got_map [] n k at = absurd (cc)
got_map (x ∷ xs) zero k at = let same : x ≡ k = cc in ap (λ (y : Kept). Some y.entry) same
got_map (x ∷ xs) (suc n) k at = got_map xs n k at

-- ---- a message goes to a participant

short_type : (mt : Mt) → number_of_type mt < 2 ^ 16
short_type Mt540 = omega arith
short_type Mt541 = omega arith
short_type Mt542 = omega arith
short_type Mt543 = omega arith
short_type Mt544 = omega arith
short_type Mt545 = omega arith
short_type Mt546 = omega arith
short_type Mt547 = omega arith

sender_by : (e : Entry) (i : Instructed) → instructed e ≡ Some i → IsWellFormed e → IsBic i.sender
sender_by (Participant reference bic) i is formed = absurd (cc)
sender_by (Account reference bic account) i is formed = absurd (cc)
sender_by (Security reference isin kind) i is formed = absurd (cc)
sender_by (Issue movement) i is formed = absurd (cc)
sender_by (Redeem movement) i is formed = absurd (cc)
sender_by (PayIn payment) i is formed = absurd (cc)
sender_by (PayOut payment) i is formed = absurd (cc)
sender_by (Instruct sender instruction) i is formed = subst (λ (x : Instructed). IsBic x.sender) (same (record { sender = sender; instruction = instruction }) i is) formed.0
  where
    same : (a b : Instructed) → Some a ≡ Some b → a ≡ b
    same a b is = cc
sender_by (Cancel sender order) i is formed = absurd (cc)
sender_by (Run reference day rule) i is formed = absurd (cc)

sender_at : (h : List Entry) (n : ℕ) (i : Instructed) → AreWellFormed h → instruction_at h n ≡ Some i → IsBic i.sender
sender_at h n i formed at =
    let found = some_before instructed (entry_at h n) i at in
    sender_by found.0 i found.2 (formed_at h n found.0 formed found.1)

told_sendable : (h : List Entry) (k about : ℕ) (run : Option ℕ) (i : Instructed) → IsBic i.sender → IsSendable (told h k about run i)
told_sendable h k about None i bic = record { bic = bic; mt = omega arith }
told_sendable h k about (Some run) i bic = record { bic = bic; mt = short_type (confirming_type i.instruction.mt) }

module _ (h : List Entry) (formed : AreWellFormed h) where
  one_sendable : (k : ℕ) (notice : Notice) (o : Option Instructed) → ((i : Instructed) → o ≡ Some i → IsBic i.sender) → (more : List Sent) → AllByRecursion IsSendable more → AllByRecursion IsSendable (told_to h k notice o ++ more)
  one_sendable k notice None bic more all = all
  one_sendable k notice (Some i) bic more all = (told_sendable h k notice.about notice.run i (bic i refl), all)

  all_sendable : (k : ℕ) (notices : List Notice) → AllByRecursion IsSendable (sent_from h k notices)
  all_sendable k [] = tt
  all_sendable k (notice ∷ notices) = one_sendable k notice (instruction_at h notice.about) (λ i at. sender_at h notice.about i formed at) (sent_from h (k + 1) notices) (all_sendable (k + 1) notices)

-- ---- of what a register keeps

module _ (limit : ℕ) (books : Books) (content : Content) (keeps : Keeps limit books content) (formed : AreWellFormed books.history) where
  h_is : history_of content ≡ books.history
  h_is = keeps.tables.history

  pub stands : (n : ℕ) (i : Instructed) → instruction_at (history_of content) n ≡ Some i → (content.standing n).state ≢ NoInstruction
  stands n i at none = somewhere books n (instruction_at books.history n) i (ap (λ h. instruction_at h n) (sym h_is) ∙ at) (sym (ap (λ (s : Standing). s.state) (keeps.tables.standings.each n)) ∙ none)

  pub all_formed : AreWellFormed (history_of content)
  all_formed = subst AreWellFormed (sym h_is) formed

  pub short : HaveShortNumbers content.register
  short = all_at (λ (kept : Kept). HasShortNumbers kept.reply) content.register (λ n kept at.
      let front = take (n + 1) books.history in
      let own = books_exist front in
      let before : Books = record { history = front; pairs = own.0; settled = own.1 } in
      let there : entry_at books.history (n + 1) ≡ Some kept.entry = (let it : entry_at (history_of content) (suc n) ≡ Some kept.entry = got_map content.register n kept at in ap (λ h. entry_at h (n + 1)) (sym h_is) ∙ subst (λ m. entry_at (history_of content) m ≡ Some kept.entry) (sym (add-one n)) it) in
      let is : kept.reply ≡ reply_to before kept.entry = (keeps.tables.replies.each n kept at).is before kept.entry refl (record { pairing = own.2.pairing; settlement = own.2.settlement }) there in
      subst HasShortNumbers (sym is) (short_reply before kept.entry))

  pub sendable : AllByRecursion IsSendable content.sent
  sendable = subst (AllByRecursion IsSendable) (sym keeps.tables.sent) (all_sendable books.history formed 1 (notices_of books))

  pub within : (most : ℕ) → limit ≤ most → length content.register ≤ most
  within most few =
      let all = entries_within limit books.history keeps.accepted in
      let size : length (history_of content) ≡ length content.register = length-map content.register (λ (k : Kept). k.entry) in
      let same : length (history_of content) ≡ length books.history = ap length h_is in
      omega (arith, all, size, same, few)
