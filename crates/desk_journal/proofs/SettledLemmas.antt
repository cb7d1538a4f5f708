-- The confirmations of settled instructions, as a register tells them.
use Rattle.std.proofs.Common.{◌≡◌, ℕ, zero, suc, ◌+◌, ◌-◌, ◌<◌, ◌^◌, inl, inr, false, if◌then◌else◌, List, length, map, refl, sym, ◌∙◌, ap, subst, arith, Option, Some, None}
use Rattle.std.specs.Prelude.{nat_lt, is_some, ◌&&◌, option_map, slice_get, slice_index_or, slice_set, Result, Ok, Err, IsErrAnd}
use Rattle.std.specs.List.{find}
use Rattle.std.proofs.lemmas.Bool.{cases_Bool}
use Rattle.std.proofs.lemmas.Option.{get_or_from_slice_get, slice_get-map}
use Rattle.desk_msg.specs.ConfirmationText.{confirmation}
use Rattle.desk_msg.specs.declared.instruction.Instruction.{Instruction}
use Rattle.desk_rules.specs.declared.answers.reply.Notice.{Notice}
use Rattle.desk_rules.specs.declared.answers.reply.Sent.{Sent}
use Rattle.desk_rules.specs.declared.history.entry.Instructed.{Instructed}
use Rattle.desk_rules.specs.declared.history.standing.Standing.{Standing}
use Rattle.desk_rules.specs.declared.history.standing.State.TheVariants.{Settled}
use Rattle.desk_rules.specs.declared.limits.TheConstants.{MOST_SENT}
use Rattle.desk_rules.specs.Books.{AreBooks, Books, is_settled}
use Rattle.desk_rules.specs.Content.{Content}
use Rattle.desk_rules.specs.History.{entry_at, instruction_at}
use Rattle.desk_rules.specs.Questions.{confirms_it}
use Rattle.desk_rules.specs.Sent.{date_in, notices_of, sent_of}
use Rattle.desk_rules.specs.Standing.{state_of}
use Rattle.desk_rules.specs.Tables.{AreTables}
use Rattle.desk_rules.proofs.OneContent.{one_books}
use Rattle.desk_register.specs.declared.register.Fault.{Fault}
use Rattle.desk_register.specs.declared.register.Stage.TheVariants.{Idle}
use Rattle.desk_register.specs.Looked.{confirmation_in}
use Rattle.desk_register.specs.View.{HasRead, IfRead, IsRead, View}
use Rattle.desk_register.proofs.ViewLemmas.{idle_goes}
use Rattle.desk_register.proofs.ReadLemmas.{held_so, kept_so, read_one}
use Rattle.desk_register.proofs.ReadingLemmas.{broke_off, read_on}
use Rattle.desk_journal.specs.Sending.{HoldsBooks, IsConfirmedAt, IsPlaceOf, blank, known_upto}
use Rattle.desk_journal.proofs.PlaceLemmas.{all_known_upto, confirmed_at, nothing_more, settled_in_is, settled_one, unsettled_other, unsettled_state}

-- a message that confirms an instruction, and tells this place
pub record TellsPlace (books : Books) (content : Content) (n : ℕ) : Type 0 where
  pub place : ℕ
  pub is_place : IsConfirmedAt books n place
  pub message : Sent
  pub is_message : confirmation_in content n ≡ Some message
  pub instruction : Instruction
  pub day : List ℕ
  pub text : message.text ≡ confirmation (place + 1) instruction day
  pub short : place + 1 < 10 ^ 15

some_sent : (a b : Sent) → Some a ≡ Some b → a ≡ b
some_sent a b e = cc

module _ (books : Books) (content : Content) (tables : AreTables books content) (n : ℕ) where
  -- the state that is read is that of the books
  pub state_read : (standing : Standing) → standing ≡ content.standing n → standing.state ≡ state_of books n
  state_read standing is = ap (λ (s : Standing). s.state) (is ∙ tables.standings.each n)

  unsettled_by : (o : Option Instructed) → instruction_at books.history n ≡ o → (state_of books n ≡ Settled → ⊥) → is_settled books n ≡ false
  unsettled_by None at other = unsettled_other books tables.are n at
  unsettled_by (Some i) at other = unsettled_state books tables.are n i at other

  -- where another state is read there is no place
  pub no_place : (standing : Standing) → standing ≡ content.standing n → (standing.state ≡ Settled → ⊥) → IsPlaceOf books n None
  no_place standing is other = unsettled_by (instruction_at books.history n) refl (λ e. other (state_read standing is ∙ e))

  -- a settled instruction has its place
  pub settled_place : HoldsBooks content → state_of books n ≡ Settled → TellsPlace books content n
  settled_place holds settled =
      let one = settled_one books tables.are n settled in
      let s = one.0 in
      let i = one.3.0 in
      let at = confirmed_at books tables.are n s i one.1 one.2 one.3.1 in
      let same : holds.books ≡ books = one_books holds.books books holds.are.are tables.are (sym holds.are.history ∙ tables.history) in
      let few : length (sent_of books) < MOST_SENT = subst (λ b. length (sent_of b) < MOST_SENT) same holds.few in
      let within = at.within in
      record {
        place = at.place;
        is_place = record { run = s.run; is_notice = at.is_notice; settled = settled_in_is books tables.are n s one.1 one.2; known = at.more };
        message = _;
        is_message = ap (find (confirms_it n)) tables.sent ∙ at.message;
        instruction = i.instruction;
        day = date_in (entry_at books.history s.run);
        text = refl;
        short = omega (arith, within, few);
      }

  -- and it is the one that the text of the message tells
  pub place_read : HoldsBooks content → (standing : Standing) → standing ≡ content.standing n → standing.state ≡ Settled → (message : Sent) → Some message ≡ confirmation_in content n → (text : List ℕ) → text ≡ message.text → (place : Option ℕ)
      → ((k : ℕ) (i : Instruction) (day : List ℕ) → text ≡ confirmation (k + 1) i day → k + 1 < 10 ^ 15 → place ≡ Some k) → IsPlaceOf books n place
  place_read holds standing is settled message found text of_message place tells =
      let t = settled_place holds (sym (state_read standing is) ∙ settled) in
      let same = some_sent message t.message (found ∙ t.is_message) in
      subst (IsPlaceOf books n) (sym (tells t.place t.instruction t.day (of_message ∙ ap (λ (m : Sent). m.text) same ∙ t.text) t.short)) t.is_place

  -- and its message
  pub has_message : HoldsBooks content → (standing : Standing) → standing ≡ content.standing n → standing.state ≡ Settled → None ≡ confirmation_in content n → ⊥
  has_message holds standing is settled none =
      let t = settled_place holds (sym (state_read standing is) ∙ settled) in
      let clash : None ≡ Some t.message = none ∙ t.is_message in
      absurd (cc)

-- the message that was read after the standing
pub message_read : (v0 v1 v2 : View) (standing : Standing) (message : Option Sent) (n : ℕ) → v0.stage ≡ Idle → IsRead {X = Standing} (Ok standing) v0 v1 → IsRead {X = Option Sent} (Ok message) v1 v2
    → IfRead v1 v2 (message ≡ confirmation_in v1.content n) → v2.is_honest → v0.is_sure → message ≡ confirmation_in v0.content n
message_read v0 v1 v2 standing message n idle first second value honest sure =
    let honest1 = second.later.honest honest in
    let read = read_one standing v0 v1 first in
    held_so v0 v1 read (λ content. message ≡ confirmation_in content n) honest1 sure (value honest (read.ok.sure honest1 sure) (idle_goes v1.stage (read.ok.stage ∙ idle)))

-- The notices, with one number more.

-- what is not known of a notice is not its run
kept_run : (n : ℕ) (notice : Notice) → (known_upto n notice).run ≡ notice.run
kept_run n notice = elim (cases_Bool (is_some notice.run && nat_lt n notice.about)) [
  | inl e ↦ ap (λ b. (if b then blank notice else notice).run) e
  | inr e ↦ ap (λ b. (if b then blank notice else notice).run) e
]

module _ (books : Books) where
  -- so many numbers are known
  abbrev known : ℕ → List Notice
  known n = map (known_upto n) (notices_of books)

  -- of what is not settled nothing is noted
  pub noted_none : AreBooks books → (n : ℕ) → is_settled books n ≡ false → map (known_upto (n - 1)) (notices_of books) ≡ map (known_upto n) (notices_of books)
  noted_none are zero e = refl
  noted_none are (suc k) e =
      let after : suc k ≡ k + 1 = omega arith in
      let before : suc k - 1 ≡ k = omega arith in
      ap known before ∙ sym (nothing_more books are k (subst (λ m. is_settled books m ≡ false) after e)) ∙ ap known (sym after)

  -- the number is noted at the place of the confirmation
  pub noted_one : (n place : ℕ) (items : List Notice) (was : Notice) → IsConfirmedAt books n place → items ≡ map (known_upto (n - 1)) (notices_of books) → was ≡ slice_index_or items place was
      → slice_set items place (record { about = n; run = was.run }) ≡ map (known_upto n) (notices_of books)
  noted_one n place items was is so here =
      let there : Notice = record { about = n; run = Some is.run } in
      let known_there : slice_get items place ≡ Some (known_upto (n - 1) there) =
      ap (λ l. slice_get l place) so ∙ slice_get-map (known_upto (n - 1)) (notices_of books) place ∙ ap (option_map (known_upto (n - 1))) is.is_notice in
      let run : was.run ≡ Some is.run = ap (λ (z : Notice). z.run) (here ∙ get_or_from_slice_get items place (known_upto (n - 1) there) was known_there) ∙ kept_run (n - 1) there in
      ap (λ r. slice_set items place (record { about = n; run = r })) run ∙ ap (λ l. slice_set l place there) so ∙ sym is.known

-- The walk over the numbers, after so many of them.
pub record Noting (v0 v : View) (n : ℕ) (start now : List Notice) : Type 0 where
  pub read : HasRead v0 v
  pub noted : (books : Books) → v.is_honest → v0.is_sure → AreTables books v0.content → start ≡ map blank (notices_of books) → now ≡ map (known_upto n) (notices_of books)

pub noting_goes_on : (v0 v v1 : View) (n : ℕ) (start now more : List Notice) → Noting v0 v n start now → IsRead {X = Unit {0}} (Ok tt) v v1
    → ((books : Books) → v1.is_honest → v.is_sure → AreTables books v.content → now ≡ map (known_upto (n + 1 - 1)) (notices_of books) → more ≡ map (known_upto (n + 1)) (notices_of books)) → Noting v0 v1 (n + 1) start more
noting_goes_on v0 v v1 n start now more so read noted = record {
  read = read_on v0 v so.read tt v1 read;
  noted = λ books honest sure tables is.
      let honest_now = read.later.honest honest in
      let before : n ≡ n + 1 - 1 = omega arith in
      noted books honest (so.read.ok.sure honest_now sure) (kept_so v0 v so.read (λ c. AreTables books c) honest_now sure tables)
      (so.noted books honest_now sure tables is ∙ ap (λ m. map (known_upto m) (notices_of books)) before);
}

pub noting_breaks : (v0 v v1 : View) (n : ℕ) (start now : List Notice) → Noting v0 v n start now → (fault : Fault) (r : Result (Unit {0}) Fault) → IsErrAnd r (λ broken. broken ≡ fault)
    → IsRead {X = Unit {0}} (Err fault) v v1 → IsRead {X = Unit {0}} r v0 v1
noting_breaks v0 v v1 n start now so fault (Ok x) is read = absurd is
noting_breaks v0 v v1 n start now so fault (Err broken) is read = subst (λ z. IsRead {X = Unit {0}} (Err z) v0 v1) (sym is) (broke_off v0 v so.read fault v1 read)

pub noting_ends : (v0 v : View) (n : ℕ) (start now : List Notice) → Noting v0 v n start now → (books : Books) → v.is_honest → v0.is_sure → AreTables books v0.content → start ≡ map blank (notices_of books)
    → n ≡ length books.history → now ≡ notices_of books
noting_ends v0 v n start now so books honest sure tables is all =
    so.noted books honest sure tables is ∙ ap (λ m. map (known_upto m) (notices_of books)) all ∙ all_known_upto books tables.are
