-- The commands that an operation's members spell, all in order.
use Rattle.std.proofs.Common.{◌≡◌, ◌<◌, ◌≤◌, ℕ, suc, ◌+◌, List, [], ◌∷◌, length, take, drop, get_or, All, codes, Some, option_map, refl, sym, ap, ◌∙◌, subst}
use Rattle.std.proofs.Math.Seq.{split_at}
use Rattle.std.proofs.lemmas.List.{take_all, take_more}
use Rattle.std.proofs.lemmas.List.Elements.{All-head, All-push, All-tail}
use Rattle.serde_json.specs.Data.{Data}
use Rattle.serde_json.specs.Events.{members_len}
use Rattle.serde_json.specs.Find.{as_object}
use Rattle.desk_codes.specs.Currency.{letters_of}
use Rattle.desk_codes.specs.Reference.{IsReference}
use Rattle.desk_msg.specs.Profile.{code_of_kind}
use Rattle.desk_rules.specs.declared.history.entry.Entry.{Entry}
use Rattle.desk_rules.specs.declared.history.entry.Entry.TheVariants as entries
use Rattle.desk_rules.specs.declared.history.entry.Movement.{Movement}
use Rattle.desk_rules.specs.declared.history.entry.Payment.{Payment}
use Rattle.desk_rules.specs.declared.history.entry.RunRule.TheVariants.{Passes}
use Rattle.desk_rules.specs.WellFormed.{IsMovement}
use Rattle.desk_book.specs.Command.{IsCommand, movement_object, payment_object}
use Rattle.desk_book.specs.Forms.{SpellsBic}
use Rattle.desk_book.specs.Members.{IsOrderedObject, text_at}
use Rattle.desk_book.proofs.CommandLemmas.{participant_is, run_is, account_is, security_is, movement_is, payment_is}
use Rattle.desk_findings.specs.CommandFaults.{AreInOrder, HasMembers, IsFirstWrong, IsInOrder, IsMemberFault, members_of, word_of}
use Rattle.desk_findings.specs.declared.commands.fault.MemberFault.{MemberFault}
use Rattle.desk_findings.specs.declared.commands.member.Member.{Member}
use Rattle.desk_findings.specs.declared.commands.member.Member.TheVariants.{Text, Number}
use Rattle.desk_findings.specs.declared.commands.member.NumberMember.TheVariants.{Quantity, Amount}
use Rattle.desk_findings.specs.declared.commands.member.TextMember.TheVariants.{Reference, Party, Account, Security, Kind, Day, Currency}
use Rattle.desk_findings.specs.declared.commands.member.Operation.{Operation}
use Rattle.desk_findings.specs.declared.commands.member.Operation.TheVariants as ops

pub one_more : (d : Data) (ms : List Member) (i : ℕ) (m : Member) → i < length ms → AreInOrder d (take i ms) → IsInOrder d (get_or ms i m) → AreInOrder d (take (i + 1) ms)
one_more d ms i m lt are is =
    let P : List Member → Type 0 = λ xs. AreInOrder d xs in
    subst P (sym (take_more ms i m lt)) (record { each = All-push (IsInOrder d) (take i ms) (get_or ms i m) are.each is })

pub all_of : (d : Data) (ms : List Member) (i : ℕ) → length ms ≤ i → AreInOrder d (take i ms) → AreInOrder d ms
all_of d ms i long are = let P : List Member → Type 0 = λ xs. AreInOrder d xs in subst P (take_all i ms long) are

pub first_at : (d : Data) (ms : List Member) (i : ℕ) (m : Member) (fault : MemberFault) → i < length ms → AreInOrder d (take i ms) → IsMemberFault d (get_or ms i m) fault → IsFirstWrong d ms (get_or ms i m) fault
first_at d ms i m fault lt are is = record { before = take i ms; after = drop (suc i) ms; split = split_at ms i m lt; right = are; is = is }

nth_0 : (d : Data) (a : Member) (ms : List Member) → All (IsInOrder d) (a ∷ ms) → IsInOrder d a
nth_0 d a ms right = All-head (IsInOrder d) a ms right

nth_1 : (d : Data) (a b : Member) (ms : List Member) → All (IsInOrder d) (a ∷ b ∷ ms) → IsInOrder d b
nth_1 d a b ms right = nth_0 d b ms (All-tail (IsInOrder d) a (b ∷ ms) right)

nth_2 : (d : Data) (a b c : Member) (ms : List Member) → All (IsInOrder d) (a ∷ b ∷ c ∷ ms) → IsInOrder d c
nth_2 d a b c ms right = nth_1 d b c ms (All-tail (IsInOrder d) a (b ∷ c ∷ ms) right)

nth_3 : (d : Data) (a b c e : Member) (ms : List Member) → All (IsInOrder d) (a ∷ b ∷ c ∷ e ∷ ms) → IsInOrder d e
nth_3 d a b c e ms right = nth_2 d b c e ms (All-tail (IsInOrder d) a (b ∷ c ∷ e ∷ ms) right)

movement : (d : Data) (op : List ℕ) → IsOrderedObject d → HasMembers d 5 → text_at (codes "op") d ≡ Some op → All (IsInOrder d) (members_of ops.Issue)
    → (m : Movement) × IsMovement m × (d ≡ movement_object op m.reference m.account m.isin m.quantity)
movement d op ordered long has_op right =
    let reference = nth_0 d (Text Reference) (Text Account ∷ Text Security ∷ Number Quantity ∷ []) right in
    let account = nth_1 d (Text Reference) (Text Account) (Text Security ∷ Number Quantity ∷ []) right in
    let isin = nth_2 d (Text Reference) (Text Account) (Text Security) (Number Quantity ∷ []) right in
    let quantity = nth_3 d (Text Reference) (Text Account) (Text Security) (Number Quantity) [] right in (
      record { reference = reference.0; account = account.0; isin = isin.0; quantity = quantity.0; some = quantity.2; within = quantity.3 },
      record { reference = reference.2; account = account.2; isin = isin.2; some = quantity.2; within = quantity.3 },
      movement_is d op reference.0 account.0 isin.0 quantity.0 ordered long has_op reference.1 account.1 isin.1 quantity.1,
    )

payment : (d : Data) (op : List ℕ) → IsOrderedObject d → HasMembers d 5 → text_at (codes "op") d ≡ Some op → All (IsInOrder d) (members_of ops.PayIn)
    → (p : Payment) × (name : List ℕ) × SpellsBic name p.bic × IsReference p.reference × (d ≡ payment_object op p.reference name (letters_of p.ccy) p.amount)
payment d op ordered long has_op right =
    let reference = nth_0 d (Text Reference) (Text Party ∷ Text Currency ∷ Number Amount ∷ []) right in
    let party = nth_1 d (Text Reference) (Text Party) (Text Currency ∷ Number Amount ∷ []) right in
    let ccy = nth_2 d (Text Reference) (Text Party) (Text Currency) (Number Amount ∷ []) right in
    let amount = nth_3 d (Text Reference) (Text Party) (Text Currency) (Number Amount) [] right in
    let has_ccy = ccy.1 ∙ ap Some (sym ccy.2.1) in (
      record { reference = reference.0; bic = party.2.0; ccy = ccy.2.0; amount = amount.0; some = amount.2; within = amount.3 },
      party.0,
      party.2.1,
      reference.2,
      payment_is d op reference.0 party.0 (letters_of ccy.2.0) amount.0 ordered long has_op reference.1 party.1 has_ccy amount.1,
    )

-- a value of an operation, whose members are all in order and no others, spells a command
pub spelled : (d : Data) (operation : Operation) → IsOrderedObject d → HasMembers d (length (members_of operation) + 1) → text_at (codes "op") d ≡ Some (word_of operation) → AreInOrder d (members_of operation)
    → (entry : Entry) × IsCommand d entry
spelled d ops.Participant ordered long op are =
    let reference = nth_0 d (Text Reference) (Text Party ∷ []) are.each in
    let party = nth_1 d (Text Reference) (Text Party) [] are.each in
    (entries.Participant reference.0 party.2.0, (party.0, party.2.1, reference.2, participant_is d reference.0 party.0 ordered long op reference.1 party.1))
spelled d ops.Account ordered long op are =
    let reference = nth_0 d (Text Reference) (Text Party ∷ Text Account ∷ []) are.each in
    let party = nth_1 d (Text Reference) (Text Party) (Text Account ∷ []) are.each in
    let account = nth_2 d (Text Reference) (Text Party) (Text Account) [] are.each in (
      entries.Account reference.0 party.2.0 account.0,
      (party.0, party.2.1, reference.2, account.2, account_is d reference.0 party.0 account.0 ordered long op reference.1 party.1 account.1),
    )
spelled d ops.Security ordered long op are =
    let reference = nth_0 d (Text Reference) (Text Security ∷ Text Kind ∷ []) are.each in
    let isin = nth_1 d (Text Reference) (Text Security) (Text Kind ∷ []) are.each in
    let kind = nth_2 d (Text Reference) (Text Security) (Text Kind) [] are.each in
    let has_kind = kind.1 ∙ ap Some (sym kind.2.1) in
    (entries.Security reference.0 isin.0 kind.2.0, (reference.2, isin.2, security_is d reference.0 isin.0 (code_of_kind kind.2.0) ordered long op reference.1 isin.1 has_kind))
spelled d ops.Issue ordered long op are = let moved = movement d (codes "issue") ordered long op are.each in (entries.Issue moved.0, (moved.1, moved.2))
spelled d ops.Redeem ordered long op are = let moved = movement d (codes "redeem") ordered long op are.each in (entries.Redeem moved.0, (moved.1, moved.2))
spelled d ops.PayIn ordered long op are = let paid = payment d (codes "payin") ordered long op are.each in (entries.PayIn paid.0, (paid.1, paid.2, paid.3, paid.4))
spelled d ops.PayOut ordered long op are = let paid = payment d (codes "payout") ordered long op are.each in (entries.PayOut paid.0, (paid.1, paid.2, paid.3, paid.4))
spelled d ops.Run ordered long op are =
    let reference = nth_0 d (Text Reference) (Text Day ∷ []) are.each in
    let day = nth_1 d (Text Reference) (Text Day) [] are.each in
    (entries.Run reference.0 day.0 Passes, (reference.2, day.2, run_is d reference.0 day.0 ordered long op reference.1 day.1, refl))

-- how many members a value has, by the number that was counted

some_is : (a b : ℕ) → Some a ≡ Some b → a ≡ b
some_is a b same = cc

pub other_count : (d : Data) (ms needed : List Member) (count : ℕ) → Some count ≡ option_map members_len (as_object d) → ms ≡ needed → (count ≡ length ms + 1 → ⊥) → ¬ HasMembers d (length needed + 1)
other_count d ms needed count counted same other has = other (some_is count (length needed + 1) (counted ∙ has) ∙ ap (λ xs. length xs + 1) (sym same))

pub same_count : (d : Data) (ms needed : List Member) (count : ℕ) → Some count ≡ option_map members_len (as_object d) → ms ≡ needed → count ≡ length ms + 1 → HasMembers d (length needed + 1)
same_count d ms needed count counted same is = sym counted ∙ ap Some (is ∙ ap (λ xs. length xs + 1) same)

pub of_operation : (d : Data) (ms needed : List Member) → ms ≡ needed → AreInOrder d ms → AreInOrder d needed
of_operation d ms needed same are = let P : List Member → Type 0 = λ xs. AreInOrder d xs in subst P same are
