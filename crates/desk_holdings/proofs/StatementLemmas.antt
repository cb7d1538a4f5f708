-- The statement of an account: what the register answered, and what was written.
use Rattle.std.proofs.Common.{◌≡◌, ◌≢◌, ℕ, min, true, false, List, [], ◌∷◌, ◌++◌, length, Option, ap, refl, sym, ◌∙◌, subst, arith, append_assoc, append-nil}
use Rattle.std.specs.Prelude.{Result, Ok, Err}
use Rattle.std.specs.Result.{IsErrAnd}
use Rattle.std.specs.List.{flat_map}
use Rattle.std.specs.Io.KnownBytes.{Appends}
use Rattle.std.proofs.lemmas.List.Concat.{flat_map-append}
use Rattle.desk_msg.specs.declared.writing.statement_row.SinkFault.{SinkFault}
use Rattle.desk_msg.specs.declared.writing.statement_row.SinkFault.TheVariants as sink_faults
use Rattle.desk_msg.specs.declared.writing.statement_row.StatementRow.{StatementRow}
use Rattle.desk_msg.specs.declared.writing.holdings.Heading.{Heading}
use Rattle.desk_msg.specs.declared.writing.holdings.HoldingsWriter.{HoldingsWriter}
use Rattle.desk_msg.specs.HoldingsText.{holdings}
use Rattle.desk_msg.specs.HoldingsPieces.{front_text, rest_text, row_text, written_by, TakesRow}
use Rattle.desk_msg.proofs.HoldingsLemmas.{whole_written}
use Rattle.desk_msg.proofs.TakenRows.{all_taken}
use Rattle.desk_rules.specs.Content.{Content, history_of}
use Rattle.desk_rules.specs.Facts.{last_run}
use Rattle.desk_register.specs.declared.register.Fault.TheVariants as faults
use Rattle.desk_register.specs.declared.register.Stage.TheVariants.{Idle}
use Rattle.desk_register.specs.View.{HasRead, IfRead, IfTrusted, IsLater, IsRead, View}
use Rattle.desk_register.proofs.ViewLemmas.{idle_goes}
use Rattle.desk_holdings.specs.Holdings.{AreFirstHoldings, AreHoldings}
use Rattle.desk_holdings.specs.Statement.{IsFront, IsStatementDay, IsTold, Writes, WritesFront}
use Rattle.desk_holdings.specs.Taking.{Took, TookFirst, TookHoldings, TookUpTo}
use Rattle.desk_register.specs.declared.fault.WalkFault.{WalkFault}
use Rattle.desk_register.specs.declared.fault.WalkFault.TheVariants.{Sink, Memory, Storage}
use Rattle.desk_register.proofs.ReadLemmas.{held_so, read_more, read_one}

-- after the first two calls
pub read_two : {X Y : Type 0} (x : X) (y : Y) (v0 v1 v2 : View) → IsRead {X = X} (Ok x) v0 v1 → IsRead {X = Y} (Ok y) v1 v2 → HasRead v0 v2
read_two x y v0 v1 v2 first second = read_more y v0 v1 v2 (read_one x v0 v1 first) second

-- the first rows are written in a front of the statement of all
regrouped : (a b c d : List ℕ) → (a ++ b) ++ (c ++ d) ≡ (a ++ (b ++ c)) ++ d
regrouped a b c d = Prim.simp append_assoc

first_written : (h : Heading) (first more : List StatementRow) → (rest : List ℕ) × (written_by h first ++ rest ≡ holdings h.entries h.day h.account (first ++ more))
first_written h [] more = (holdings h.entries h.day h.account more, refl)
first_written h (row ∷ rows) more = (
  flat_map row_text more ++ rest_text h true,
  regrouped (front_text h) (flat_map row_text (row ∷ rows)) (flat_map row_text more) (rest_text h true)
      ∙ ap (λ v. (front_text h ++ v) ++ rest_text h true) (sym (flat_map-append row_text (row ∷ rows) more))
      ∙ whole_written h (row ∷ (rows ++ more)),
)

-- What is told of an account by what the register answered.
module _ (v0 v1 v2 : View) (count limit entries : ℕ) (day : List ℕ) where
  pub record HasAnswered : Type 0 where
    pub idle : v0.stage ≡ Idle
    pub first : IsRead {X = ℕ} (Ok count) v0 v1
    pub second : IsRead {X = List ℕ} (Ok day) v1 v2
    pub counted : IfRead v0 v1 (count ≡ length v0.content.register)
    pub room : limit ≡ v0.room
    pub least : entries ≡ min count limit
    pub dated : IfRead v1 v2 (IsStatementDay (last_run (history_of v1.content)) day)

  module _ (a : HasAnswered) where
    pub told_so : (account : List ℕ) (rows : List StatementRow) (v3 : View) → IsLater v2 v3 → IfTrusted v2 v3 (AreHoldings v2.content account rows) → IfTrusted v0 v3 (IsTold v0 account entries day rows)
    told_so account rows v3 later are honest sure =
        let one = read_one count v0 v1 a.first in
        let two = read_more day v0 v1 v2 one a.second in
        let honest2 = later.honest honest in
        let honest1 = a.second.later.honest honest2 in
        let sure1 = one.ok.sure honest1 sure in
        let is = a.counted honest1 sure (idle_goes v0.stage a.idle) in
        record {
          counted = λ within. (let room = a.room in let least = a.least in omega arith);
          dated = held_so v0 v1 one (λ c. IsStatementDay (last_run (history_of c)) day) honest1 sure (a.dated honest2 sure1 (idle_goes v1.stage (one.ok.stage ∙ a.idle)));
          held = held_so v0 v2 two (λ c. AreHoldings c account rows) honest2 sure (are honest (two.ok.sure honest2 sure));
        }

    -- the same of the first of the holdings
    front_so : (account : List ℕ) (rows : List StatementRow) (v3 : View) → IsLater v2 v3 → IfTrusted v2 v3 (AreFirstHoldings v2.content account rows) → (h : Heading) → h ≡ record { entries = entries; day = day; account = account }
        → IfTrusted v0 v3 (IsFront v0 account (written_by h rows))
    front_so account rows v3 later first h same honest sure =
        let two = read_two count day v0 v1 v2 a.first a.second in
        let honest2 = later.honest honest in
        let f = first honest (two.ok.sure honest2 sure) in
        let text = first_written h rows f.rest in
        record {
          entries = entries;
          day = day;
          rows = rows ++ f.rest;
          rest = text.0;
          told = told_so account (rows ++ f.rest) v3 later (λ really known. f.whole) honest sure;
          whole = text.1 ∙ ap (λ (z : Heading). holdings z.entries z.day z.account (rows ++ f.rest)) same;
        }

    -- what is written once the first of the holdings were taken
    pub front_written : {W : Type 0} (contents : W → Option (List ℕ)) (account : List ℕ) (v3 : View) (held : W) (before now : HoldingsWriter W) → IsLater v2 v3 → before.writer.now ≡ held
        → before.heading ≡ record { entries = entries; day = day; account = account } → before.is_begun ≡ false → TookFirst (TakesRow contents) account v2 v3 before now → WritesFront account v0 v3 (contents held) (contents now.writer.now)
    front_written {W} contents account v3 held before now later holds heading begun took =
        let by = all_taken contents before took.rows now begun took.taken in
        let P : W → Type 0 = λ w. Appends (contents w) (contents now.writer.now) (written_by before.heading took.rows) in
        record {
          text = written_by before.heading took.rows;
          written = subst P holds by.written;
          front = λ honest sure some. front_so account took.rows v3 later took.are before.heading heading honest sure;
        }

-- What was written where it broke off, by why.
module _ (account : List ℕ) (v0 v1 : View) (before : Option (List ℕ)) where
  so_written : (fault : WalkFault) (after : Option (List ℕ)) → (fault ≢ Sink sink_faults.Write → WritesFront account v0 v1 before after) → Writes {X = Unit {0}} account (Err fault) v0 v1 before after
  so_written (Sink sink_faults.Write) after front = tt
  so_written (Sink sink_faults.Memory) after front = front (λ is. (let clash : Sink sink_faults.Memory ≡ Sink sink_faults.Write = is in absurd (cc)))
  so_written Memory after front = front (λ is. (let clash : Memory ≡ Sink sink_faults.Write = is in absurd (cc)))
  so_written Storage after front = front (λ is. (let clash : Storage ≡ Sink sink_faults.Write = is in absurd (cc)))

  pub written_by_break : (fault : WalkFault) (r : Result (Unit {0}) WalkFault) (after : Option (List ℕ)) → IsErrAnd r (λ broken. broken ≡ fault) → (fault ≢ Sink sink_faults.Write → WritesFront account v0 v1 before after) → Writes account r v0 v1 before after
  written_by_break fault (Ok x) after is front = absurd is
  written_by_break fault (Err broken) after is front = subst (λ z. Writes {X = Unit {0}} account (Err z) v0 v1 before after) (sym is) (so_written fault after front)

-- the first of the holdings up to one are the first of them
fewer : (content : Content) (account : List ℕ) (rows : List StatementRow) (next : StatementRow) → AreFirstHoldings content account (rows ++ next ∷ []) → AreFirstHoldings content account rows
fewer content account rows next first =
    let P : List StatementRow → Type 0 = λ all. AreHoldings content account all in
    record { rest = next ∷ first.rest; whole = subst P (append_assoc rows (next ∷ []) first.rest) first.whole }

took_up_to : {S : Type 0} (took : S → StatementRow → S → Type 0) (account : List ℕ) (v0 v1 : View) (before after : S) → TookUpTo took account v0 v1 before after → TookFirst took account v0 v1 before after
took_up_to took account v0 v1 before after t = record {
  rows = t.rows;
  taken = t.taken;
  are = λ honest sure. fewer v0.content account t.rows t.next (t.are honest sure);
}

-- but where the sink failed to write, the first of the holdings were taken
pub took_unless : {S : Type 0} (took : S → StatementRow → S → Type 0) (account : List ℕ) (v0 v1 : View) (before after : S) (fault : WalkFault) → fault ≢ Sink sink_faults.Write
    → Took {X = Unit {0}} took account (Err fault) v0 v1 before after → TookFirst took account v0 v1 before after
took_unless took account v0 v1 before after (Sink sink_faults.Write) other t = absurd (other refl)
took_unless took account v0 v1 before after (Sink sink_faults.Memory) other t = took_up_to took account v0 v1 before after t
took_unless took account v0 v1 before after Memory other t = t
took_unless took account v0 v1 before after Storage other t = t

-- all of the holdings are the first of them
pub took_whole : {S : Type 0} (took : S → StatementRow → S → Type 0) (account : List ℕ) (v0 v1 : View) (before after : S) → TookHoldings took account v0 v1 before after → TookFirst took account v0 v1 before after
took_whole took account v0 v1 before after t = record {
  rows = t.rows;
  taken = t.taken;
  are = λ honest sure. record { rest = []; whole = subst (λ rows. AreHoldings v0.content account rows) (sym (append-nil t.rows)) (t.are honest sure) };
}

-- a sink that did not fail to write wanted memory
pub wanted_memory : (fault : SinkFault) → Sink fault ≢ Sink sink_faults.Write → fault ≡ sink_faults.Memory
wanted_memory sink_faults.Write other = absurd (other refl)
wanted_memory sink_faults.Memory other = refl
