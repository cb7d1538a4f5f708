-- What a history of well formed entries says by number.
use Rattle.std.proofs.Common.{◌≡◌, ℕ, zero, suc, List, [], ◌∷◌, ◌++◌, drop, refl, sym, ◌∙◌, subst, slice_get, Some, inl, inr}
use Rattle.std.proofs.lemmas.Bool.{cases_Bool}
use Rattle.std.specs.Prelude.{codes, nat_eq, Ok}
use Rattle.std.specs.Cmp.Lexicographic.{pointwise}
use Rattle.desk_codes.specs.Bic.{IsBic, ReadsBic}
use Rattle.desk_codes.proofs.BicLemmas.{front_is_bic, head_office, own_branch, same_bytes, whole_is_bic}
use Rattle.desk_codes.specs.Day.{IsDay}
use Rattle.desk_msg.specs.declared.instruction.Instruction.{Instruction}
use Rattle.desk_msg.specs.declared.instruction.CancelOrder.{CancelOrder}
use Rattle.desk_msg.specs.declared.instruction.Message.TheVariants.{New, Cancel as Cancellation}
use Rattle.desk_msg.specs.declared.mt.Mt.{Mt}
use Rattle.desk_msg.specs.Reads.{ReadsFields}
use Rattle.desk_msg.specs.Refused.{ReadsText}
use Rattle.desk_rules.specs.declared.history.entry.Entry.{Entry}
use Rattle.desk_rules.specs.declared.history.entry.Entry.TheVariants.{Participant, Account, Security, Issue, Redeem, PayIn, PayOut, Instruct, Cancel, Run}
use Rattle.desk_rules.specs.declared.history.entry.RunRule.{RunRule}
use Rattle.desk_rules.specs.History.{Instructed, entry_at, instructed, instruction_at}
use Rattle.desk_rules.specs.WellFormed.{IsReadable, IsWellFormed, AreWellFormed}
use Rattle.desk_rules.proofs.Decided.{In, In-from_Contains, Contains-from_In, In-push_cases}
use Rattle.desk_rules.proofs.HistoryLemmas.{some_before}

-- a BIC as it is spelled is one
pub spelled_bic : (name bic : List ℕ) → ReadsBic name (Ok bic) → IsBic bic
spelled_bic name bic s = elim (cases_Bool (pointwise nat_eq (drop 8 name) (codes "XXX"))) [
  | inl head ↦ front_is_bic name bic s.1 s.2 (s.0 ∙ head_office name (drop 8 name) refl (sym head)) (same_bytes (drop 8 name) (codes "XXX") head)
  | inr own ↦ subst IsBic (sym (s.0 ∙ own_branch name (drop 8 name) refl (sym own))) (whole_is_bic name s.1 s.2 own)
]

-- what is read as an instruction is one that fields read as
pub readable : (mt : Mt) (text : List ℕ) (i : Instruction) → ReadsText mt text (Ok (New i)) → IsReadable i.mt (New i)
readable mt text i r =
    let type : i.mt ≡ mt = r.reads.0 in
    (r.fields, subst (λ (m : Mt). ReadsFields m r.fields (Ok (New i))) (sym type) r.reads)

pub readable_cancellation : (mt : Mt) (text : List ℕ) (order : CancelOrder) → ReadsText mt text (Ok (Cancellation order)) → IsReadable order.mt (Cancellation order)
readable_cancellation mt text order r =
    let type : order.mt ≡ mt = r.reads.0 in
    (r.fields, subst (λ (m : Mt). ReadsFields m r.fields (Ok (Cancellation order))) (sym type) r.reads)

pub got_In : {X : Type 0} (xs : List X) (n : ℕ) (x : X) → slice_get xs n ≡ Some x → In xs x
got_In [] n x e = absurd (cc)
got_In (y ∷ xs) zero x e = let same : y ≡ x = cc in inl same
got_In (y ∷ xs) (suc n) x e = inr (got_In xs n x e)

pub entry_In : (h : List Entry) (n : ℕ) (entry : Entry) → entry_at h n ≡ Some entry → In h entry
entry_In h zero entry e = absurd (cc)
entry_In h (suc n) entry e = got_In h n entry e

pub formed_at : (h : List Entry) (n : ℕ) (entry : Entry) → AreWellFormed h → entry_at h n ≡ Some entry → IsWellFormed entry
formed_at h n entry formed e = formed.each entry (Contains-from_In h entry (entry_In h n entry e))

instructs : (entry : Entry) (i : Instructed) → instructed entry ≡ Some i → IsWellFormed entry → IsReadable i.instruction.mt (New i.instruction)
instructs (Participant reference bic) i e formed = absurd (cc)
instructs (Account reference bic account) i e formed = absurd (cc)
instructs (Security reference isin kind) i e formed = absurd (cc)
instructs (Issue movement) i e formed = absurd (cc)
instructs (Redeem movement) i e formed = absurd (cc)
instructs (PayIn payment) i e formed = absurd (cc)
instructs (PayOut payment) i e formed = absurd (cc)
instructs (Instruct sender instruction) i e formed = subst (λ (x : Instructed). IsReadable x.instruction.mt (New x.instruction)) (some_instructed (record { sender = sender; instruction = instruction }) i e) formed.1
  where
    some_instructed : (a b : Instructed) → Some a ≡ Some b → a ≡ b
    some_instructed a b same = cc
instructs (Cancel sender order) i e formed = absurd (cc)
instructs (Run reference day rule) i e formed = absurd (cc)

-- the instruction of a number is one that fields read as, and a run's day is a day
pub readable_at : (h : List Entry) (n : ℕ) (i : Instructed) → AreWellFormed h → instruction_at h n ≡ Some i → IsReadable i.instruction.mt (New i.instruction)
readable_at h n i formed e =
    let found = some_before instructed (entry_at h n) i e in
    instructs found.0 i found.2 (formed_at h n found.0 formed found.1)

pub day_at : (h : List Entry) (n : ℕ) (reference day : List ℕ) (rule : RunRule) → AreWellFormed h → entry_at h n ≡ Some (Run reference day rule) → IsDay day
day_at h n reference day rule formed e = let is = formed_at h n (Run reference day rule) formed e in is.1

-- a history grows by well formed entries
pub formed_none : AreWellFormed []
formed_none = record { each = λ entry c. absurd (In-from_Contains [] entry c) }

pub formed_push : (h : List Entry) (entry : Entry) → AreWellFormed h → IsWellFormed entry → AreWellFormed (h ++ entry ∷ [])
formed_push h entry formed new = record {
  each = λ e c. elim (In-push_cases h entry e (In-from_Contains (h ++ entry ∷ []) e c)) [
    | inl i ↦ formed.each e (Contains-from_In h e i)
    | inr same ↦ subst IsWellFormed same new
  ];
}
