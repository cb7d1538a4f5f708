-- The walks over the currencies and over a register's securities, row by row.
use Rattle.std.proofs.Common.{◌≡◌, ◌≢◌, inl, inr, ℕ, ◌+◌, ◌≤◌, Bool, true, false, List, [], ◌∷◌, ◌++◌, map, length, Option, Some, None, is_some, refl, ap, sym, ◌∙◌, subst, arith, codes, append_assoc}
use Rattle.std.proofs.lemmas.List.{length-map}
use Rattle.std.specs.Prelude.{Result, Ok, Err}
use Rattle.std.specs.Result.{IsErrAnd}
use Rattle.std.specs.Io.KnownBytes.{Appends}
use Rattle.desk_codes.specs.declared.currency.Ccy.{Ccy}
use Rattle.desk_codes.specs.declared.currency.TheConstants.{CURRENCIES}
use Rattle.desk_codes.specs.Currency.{place_of}
use Rattle.desk_msg.specs.declared.writing.statement_row.SinkFault.TheVariants as sinks
use Rattle.desk_rules.specs.Books.{Books}
use Rattle.desk_rules.specs.Content.{Content, history_of}
use Rattle.desk_rules.specs.Facts.{kind_of}
use Rattle.desk_rules.specs.Reply.{untyped_reply}
use Rattle.desk_register.specs.declared.register.Fault.{Fault}
use Rattle.desk_register.specs.declared.register.Fault.TheVariants as faults
use Rattle.desk_register.specs.Looked.{IsSecurityAfter}
use Rattle.desk_register.specs.View.{HasRead, IsLater, IsRead, View}
use Rattle.desk_engine.specs.Applied.{Keeps}
use Rattle.desk_register.specs.declared.fault.WalkFault.{WalkFault}
use Rattle.desk_register.specs.declared.fault.WalkFault.TheVariants as walks
use Rattle.desk_register.specs.Ends.{broken_off}
use Rattle.desk_register.proofs.ReadLemmas.{held_so, kept_so, read_more, read_none}
use Rattle.desk_register.proofs.ReadingLemmas.{read_on}
use Rattle.desk_book.specs.Answered.{IsToldSums}
use Rattle.desk_book.specs.RowByRow.{IsCashText, IsSecuritiesText, WritesCurrency, WritesSecurity, WritesSome, WritesText, WritesTotal, WritesWhole, told_of_walk}
use Rattle.desk_book.specs.Sums.{cash_data, rows_text, security_data, sums_text}
use Rattle.desk_book.specs.declared.answers.total.CashTotal.{CashTotal}
use Rattle.desk_book.specs.Totals.{AreTotals}
use Rattle.desk_book.specs.WrittenTo.{Writes, WritesAnswer, WritesFront}
use Rattle.desk_book.specs.declared.answers.head.Head.{Head}
use Rattle.desk_book.specs.declared.answers.total.SecurityTotal.{SecurityTotal}
use Rattle.desk_book.proofs.AnsweringLemmas.{sums_told}
use Rattle.desk_book.proofs.CashLemmas.{CashGathered, cash_all, cash_goes_on, cash_none, cash_skips, cash_takes}
use Rattle.desk_book.proofs.ListedLemmas.{Gathered, gathers_none, gathers_one, gathered_all, gathered_enough, totals_exist, totals_go_on}
use Rattle.desk_book.proofs.RowLemmas.{Begun, appended, appends_nothing, begun_more, begun_nothing, begun_whole, sums_written}

-- The currencies.

-- the rows of the currencies of so many places
pub record CashWritten (content : Content) (turns : ℕ) (is_later : Bool) (before now : Option (List ℕ)) : Type 0 where
  pub rows : List CashTotal
  pub gathered : CashGathered content turns rows
  pub text : List ℕ
  pub written : Appends before now text
  pub begun : Begun cash_data rows is_later text

cash_whole : (content : Content) (turns : ℕ) (is_later : Bool) (before now : Option (List ℕ)) → length CURRENCIES ≤ turns → CashWritten content turns is_later before now → WritesWhole (IsCashText content) before now
cash_whole content turns is_later before now enough w = record {
  text = w.text;
  written = w.written;
  is_text = record { rows = w.rows; are = cash_all content turns w.rows enough w.gathered; is = begun_whole cash_data w.rows is_later w.text w.begun };
}

cash_front : (limit : ℕ) (books : Books) (content : Content) (turns : ℕ) (is_later : Bool) (before now : Option (List ℕ)) → Keeps limit books content → CashWritten content turns is_later before now
    → WritesSome (IsCashText content) before now
cash_front limit books content turns is_later before now keeps w =
    let more = cash_goes_on limit books content keeps turns w.rows w.gathered in
    record {
      text = w.text;
      written = w.written;
      rest = rows_text is_later (map cash_data more.0);
      is_text = record { rows = w.rows ++ more.0; are = more.1; is = w.begun.goes_on more.0 };
    }

-- the row of one currency more, or none of it
cash_more : (content : Content) (turns : ℕ) (was_later is_later : Bool) (before between now : Option (List ℕ)) (ccy : Ccy) → place_of ccy ≡ turns → CashWritten content turns was_later before between
    → WritesCurrency content ccy was_later (Ok is_later) between now → CashWritten content (turns + 1) is_later before now
cash_more content turns was_later is_later before between now ccy at w (inl new) =
    let c = new.0 in
    subst (λ z. CashWritten content (turns + 1) z before now) (sym new.1) (record {
      rows = w.rows ++ c.row ∷ [];
      gathered = cash_takes content turns w.rows w.gathered ccy at c.row c.is_total c.of_it;
      text = _;
      written = appended before between now w.text _ w.written c.written;
      begun = begun_more cash_data w.rows was_later w.text w.begun c.row;
    })
cash_more content turns was_later is_later before between now ccy at w (inr none) =
    let skipped : CashWritten content (turns + 1) was_later before between = record {
      rows = w.rows;
      gathered = cash_skips content turns w.rows w.gathered ccy at none.0;
      text = w.text;
      written = w.written;
      begun = w.begun;
    } in
    subst (λ z. CashWritten content (turns + 1) z before now) (sym none.1) (subst (λ z. CashWritten content (turns + 1) was_later before z) (sym none.2) skipped)

-- where it broke off in a currency, a front was written
currency_broke_off : (content known : Content) (ccy : Ccy) (was_later : Bool) (fault : WalkFault) (before between now : Option (List ℕ)) → WritesSome (IsCashText content) before between
    → WritesCurrency known ccy was_later (Err fault) between now → WritesText {X = Unit {0}} (IsCashText content) (Err fault) before now
currency_broke_off content known ccy was_later (walks.Sink sinks.Write) before between now front w = tt
currency_broke_off content known ccy was_later (walks.Sink sinks.Memory) before between now front w = subst (λ z. WritesSome (IsCashText content) before z) (sym w) front
currency_broke_off content known ccy was_later walks.Memory before between now front w = subst (λ z. WritesSome (IsCashText content) before z) (sym w) front
currency_broke_off content known ccy was_later walks.Storage before between now front w = subst (λ z. WritesSome (IsCashText content) before z) (sym w) front

-- a fault that is handed on
handed_on : (IsText : List ℕ → Type 0) (fault : WalkFault) (r : Result (Unit {0}) WalkFault) (before now : Option (List ℕ)) → IsErrAnd r (λ broken. broken ≡ fault)
    → WritesText {X = Unit {0}} IsText (Err fault) before now → WritesText IsText r before now
handed_on IsText fault (Ok x) before now is w = absurd is
handed_on IsText fault (Err broken) before now is w = subst (λ z. WritesText {X = Unit {0}} IsText (Err z) before now) (sym is) w

-- the register's, before which a front was written
pub register_failed : (IsText : List ℕ → Type 0) (fault : Fault) (r : Result (Unit {0}) WalkFault) (before now : Option (List ℕ)) → IsErrAnd r (λ broken. broken ≡ broken_off fault) → WritesSome IsText before now
    → WritesText IsText r before now
register_failed IsText faults.Memory r before now is front = handed_on IsText walks.Memory r before now is front
register_failed IsText faults.Storage r before now is front = handed_on IsText walks.Storage r before now is front

-- The loop over the currencies, after so many turns.
pub record Cashing (v0 v : View) (turns : ℕ) (is_later : Bool) (before now : Option (List ℕ)) : Type 0 where
  pub read : HasRead v0 v
  pub rows : v.is_honest → v0.is_sure → CashWritten v0.content turns is_later before now

pub cashing_begins : (v0 : View) (before : Option (List ℕ)) → Cashing v0 v0 0 false before before
cashing_begins v0 before = record {
  read = read_none v0;
  rows = λ honest sure. record { rows = []; gathered = cash_none v0.content; text = []; written = appends_nothing before; begun = begun_nothing cash_data };
}

module _ (v0 v : View) (turns : ℕ) (was_later : Bool) (before between : Option (List ℕ)) (s : Cashing v0 v turns was_later before between) where
  pub cashing_goes_on : (v1 : View) (is_later : Bool) (now : Option (List ℕ)) (ccy : Ccy) → place_of ccy ≡ turns → IsRead {X = Unit {0}} (Ok tt) v v1
      → (v1.is_honest → v.is_sure → WritesCurrency v.content ccy was_later (Ok is_later) between now) → Cashing v0 v1 (turns + 1) is_later before now
  cashing_goes_on v1 is_later now ccy at read writes = record {
    read = read_on v0 v s.read tt v1 read;
    rows = λ honest sure.
        let honest_now = read.later.honest honest in
        let more = held_so v0 v s.read (λ c. WritesCurrency c ccy was_later (Ok is_later) between now) honest_now sure (writes honest (s.read.ok.sure honest_now sure)) in
        cash_more v0.content turns was_later is_later before between now ccy at (s.rows honest_now sure) more;
  }

  pub cashing_breaks : (v1 : View) (now : Option (List ℕ)) (ccy : Ccy) (fault : WalkFault) (r : Result (Unit {0}) WalkFault) (books : Books) → IsErrAnd r (λ broken. broken ≡ fault) → IsLater v v1
      → (v1.is_honest → v.is_sure → WritesCurrency v.content ccy was_later (Err fault) between now) → v1.is_honest → v0.is_sure → Keeps v0.room books v0.content → WritesText (IsCashText v0.content) r before now
  cashing_breaks v1 now ccy fault r books is later writes honest sure keeps =
      let honest_now = later.honest honest in
      let front = cash_front v0.room books v0.content turns was_later before between keeps (s.rows honest_now sure) in
      handed_on (IsCashText v0.content) fault r before now is
      (currency_broke_off v0.content v.content ccy was_later fault before between now front (writes honest (s.read.ok.sure honest_now sure)))

  pub cashing_ends : length CURRENCIES ≤ turns → v.is_honest → v0.is_sure → WritesWhole (IsCashText v0.content) before between
  cashing_ends enough honest sure = cash_whole v0.content turns was_later before between enough (s.rows honest sure)

-- The securities.

-- the rows of the securities up to the last one
pub record Listed (content : Content) (last : Option (List ℕ)) (turns : ℕ) (before now : Option (List ℕ)) : Type 0 where
  pub rows : List SecurityTotal
  pub gathered : Gathered content last turns rows
  pub text : List ℕ
  pub written : Appends before now text
  pub begun : Begun security_data rows (is_some last) text

listed_whole : (content : Content) (last : Option (List ℕ)) (turns : ℕ) (before now : Option (List ℕ)) (l : Listed content last turns before now) → AreTotals content l.rows → WritesWhole (IsSecuritiesText content) before now
listed_whole content last turns before now l are = record {
  text = l.text;
  written = l.written;
  is_text = record { rows = l.rows; are = are; is = begun_whole security_data l.rows (is_some last) l.text l.begun };
}

listed_front : (limit : ℕ) (books : Books) (content : Content) (last : Option (List ℕ)) (turns : ℕ) (before now : Option (List ℕ)) → Keeps limit books content → Listed content last turns before now
    → WritesSome (IsSecuritiesText content) before now
listed_front limit books content last turns before now keeps l =
    let more = totals_go_on limit books content keeps last turns l.rows l.gathered in
    record {
      text = l.text;
      written = l.written;
      rest = rows_text (is_some last) (map security_data more.0);
      is_text = record { rows = l.rows ++ more.0; are = more.1; is = l.begun.goes_on more.0 };
    }

-- where it broke off in a security, a front was written
security_broke_off : (content known : Content) (isin : List ℕ) (is_later : Bool) (fault : WalkFault) (before between now : Option (List ℕ)) → WritesSome (IsSecuritiesText content) before between
    → WritesSecurity {X = Unit {0}} known isin is_later (Err fault) between now → WritesText {X = Unit {0}} (IsSecuritiesText content) (Err fault) before now
security_broke_off content known isin is_later (walks.Sink sinks.Write) before between now front w = tt
security_broke_off content known isin is_later (walks.Sink sinks.Memory) before between now front w = subst (λ z. WritesSome (IsSecuritiesText content) before z) (sym w) front
security_broke_off content known isin is_later walks.Memory before between now front w = subst (λ z. WritesSome (IsSecuritiesText content) before z) (sym w) front
security_broke_off content known isin is_later walks.Storage before between now front w = subst (λ z. WritesSome (IsSecuritiesText content) before z) (sym w) front

-- The loop over the securities, after so many turns.
pub record Listing (v0 v : View) (count : ℕ) (last : Option (List ℕ)) (turns : ℕ) (before now : Option (List ℕ)) : Type 0 where
  pub entries : v.is_honest → v0.is_sure → count ≡ length v0.content.register
  pub read : HasRead v0 v
  pub listed : v.is_honest → v0.is_sure → Listed v0.content last turns before now

-- nothing was written yet
pub listed_none : (content : Content) (before : Option (List ℕ)) → Listed content None 0 before before
listed_none content before = record { rows = []; gathered = gathers_none content; text = []; written = appends_nothing before; begun = begun_nothing security_data }

pub listing_begins : (v0 v : View) (count : ℕ) (before : Option (List ℕ)) → HasRead v0 v → (v.is_honest → v0.is_sure → count ≡ length v0.content.register) → Listing v0 v count None 0 before before
listing_begins v0 v count before read entries = record { entries = entries; read = read; listed = λ honest sure. listed_none v0.content before }

-- a front, of no row
pub nothing_listed : (v0 : View) (books : Books) (before : Option (List ℕ)) → Keeps v0.room books v0.content → WritesSome (IsSecuritiesText v0.content) before before
nothing_listed v0 books before keeps = listed_front v0.room books v0.content None 0 before before keeps (listed_none v0.content before)

module _ (v0 v : View) (count : ℕ) (last : Option (List ℕ)) (turns : ℕ) (before between : Option (List ℕ)) (s : Listing v0 v count last turns before between) where
  -- the next one
  module _ (v1 v2 : View) (isin : List ℕ) (first : IsRead {X = Option (List ℕ)} (Ok (Some isin)) v v1) (after : v1.is_honest → v.is_sure → IsSecurityAfter (history_of v.content) last (Some isin)) where
    is_next : v1.is_honest → v0.is_sure → IsSecurityAfter (history_of v0.content) last (Some isin)
    is_next honest sure =
        let honest_now = first.later.honest honest in
        held_so v0 v s.read (λ c. IsSecurityAfter (history_of c) last (Some isin)) honest_now sure (after honest (s.read.ok.sure honest_now sure))

    is_known : v1.is_honest → v0.is_sure → is_some (kind_of (history_of v1.content) isin) ≡ true
    is_known honest sure = kept_so v0 v1 (read_more (Some isin) v0 v v1 s.read first) (λ c. is_some (kind_of (history_of c) isin) ≡ true) honest sure (is_next honest sure).0.0

    pub listing_goes_on : (now : Option (List ℕ)) → IsRead {X = Unit {0}} (Ok tt) v1 v2
        → (v2.is_honest → v1.is_sure → is_some (kind_of (history_of v1.content) isin) ≡ true → WritesTotal v1.content isin (is_some last) between now) → Listing v0 v2 count (Some isin) (turns + 1) before now
    listing_goes_on now second writes =
        let read1 = read_more (Some isin) v0 v v1 s.read first in
        record {
          entries = λ honest sure. s.entries (first.later.honest (second.later.honest honest)) sure;
          read = read_on v0 v1 read1 tt v2 second;
          listed = λ honest sure.
              let honest1 = second.later.honest honest in
              let honest_now = first.later.honest honest1 in
              let next = is_next honest1 sure in
              let row = held_so v0 v1 read1 (λ c. WritesTotal c isin (is_some last) between now) honest1 sure (writes honest (read1.ok.sure honest1 sure) (is_known honest1 sure)) in
              let l = s.listed honest_now sure in
              record {
                rows = l.rows ++ row.row ∷ [];
                gathered = gathers_one v0.content last turns l.rows l.gathered isin row.row next row.of_it row.is_total;
                text = _;
                written = appended before between now l.text _ l.written row.written;
                begun = begun_more security_data l.rows (is_some last) l.text l.begun row.row;
              };
        }

    pub listing_breaks : (is_later : Bool) (now : Option (List ℕ)) (fault : WalkFault) (r : Result (Unit {0}) WalkFault) (books : Books) → IsErrAnd r (λ broken. broken ≡ fault) → IsLater v1 v2
        → (v2.is_honest → v1.is_sure → is_some (kind_of (history_of v1.content) isin) ≡ true → WritesSecurity {X = Unit {0}} v1.content isin is_later (Err fault) between now) → v2.is_honest → v0.is_sure
        → Keeps v0.room books v0.content → WritesText (IsSecuritiesText v0.content) r before now
    listing_breaks is_later now fault r books is later writes honest sure keeps =
        let honest1 = later.honest honest in
        let read1 = read_more (Some isin) v0 v v1 s.read first in
        let front = listed_front v0.room books v0.content last turns before between keeps (s.listed (first.later.honest honest1) sure) in
        handed_on (IsSecuritiesText v0.content) fault r before now is
        (security_broke_off v0.content v1.content isin is_later fault before between now front (writes honest (read1.ok.sure honest1 sure) (is_known honest1 sure)))

  pub listing_fails : (v1 : View) (books : Books) → IsLater v v1 → v1.is_honest → v0.is_sure → Keeps v0.room books v0.content → WritesSome (IsSecuritiesText v0.content) before between
  listing_fails v1 books later honest sure keeps = listed_front v0.room books v0.content last turns before between keeps (s.listed (later.honest honest) sure)

  pub listing_ends_none : (v1 : View) → IsLater v v1 → (v1.is_honest → v.is_sure → IsSecurityAfter (history_of v.content) last None) → v1.is_honest → v0.is_sure → WritesWhole (IsSecuritiesText v0.content) before between
  listing_ends_none v1 later after honest sure =
      let honest_now = later.honest honest in
      let none = held_so v0 v s.read (λ c. IsSecurityAfter (history_of c) last None) honest_now sure (after honest (s.read.ok.sure honest_now sure)) in
      let l = s.listed honest_now sure in
      listed_whole v0.content last turns before between l (gathered_all v0.content last turns l.rows l.gathered none)

  pub listing_ends_all : count ≤ turns → v.is_honest → v0.is_sure → WritesWhole (IsSecuritiesText v0.content) before between
  listing_ends_all enough honest sure =
      let is = s.entries honest sure in
      let len = length-map v0.content.register (λ kept. kept.entry) in
      let l = s.listed honest sure in
      listed_whole v0.content last turns before between l (gathered_enough v0.content last turns l.rows l.gathered (omega arith))

-- The sums, from their parts.

-- the reply of these totals
abbrev sums_reply : Books → List ℕ → Type 0
sums_reply books text = IsToldSums books (untyped_reply 200 text) books

module _ (limit : ℕ) (books : Books) (content : Content) (keeps : Keeps limit books content) where
  abbrev first_part : List ℕ
  first_part = codes "{\"cash\":["

  abbrev middle_part : List ℕ
  middle_part = codes "],\"securities\":["

  abbrev last_part : List ℕ
  last_part = codes "]}"

  whole_of : (cash securities : List ℕ) → IsCashText content cash → IsSecuritiesText content securities → sums_reply books (first_part ++ (cash ++ (middle_part ++ (securities ++ last_part))))
  whole_of cash securities c s =
      let same : first_part ++ (cash ++ (middle_part ++ (securities ++ last_part))) ≡ sums_text c.rows s.rows = rw (c.is, s.is) (sums_written c.rows s.rows) in
      subst (sums_reply books) (sym same) (sums_told limit books content c.rows s.rows keeps c.are s.are)

  -- some rows of the securities there are, if no others
  no_securities : IsSecuritiesText content (rows_text false (map security_data (totals_exist limit books content keeps).0))
  no_securities = let all = totals_exist limit books content keeps in record { rows = all.0; are = all.1; is = refl }

  pub sums_whole : (a b c d e f : Option (List ℕ)) → Appends a b first_part → WritesWhole (IsCashText content) b c → Appends c d middle_part → WritesWhole (IsSecuritiesText content) d e → Appends e f last_part
      → WritesAnswer (λ reply. IsToldSums books reply books) (record { status = 200; mt = None }) a f
  sums_whole a b c d e f one cash two securities three = record {
    text = first_part ++ (cash.text ++ (middle_part ++ (securities.text ++ last_part)));
    written = appended a b f first_part _ one (appended b c f cash.text _ cash.written (appended c d f middle_part _ two (appended d e f securities.text last_part securities.written three)));
    is_answer = whole_of cash.text securities.text cash.is_text securities.is_text;
  }

  cash_part : (a b c : Option (List ℕ)) → Appends a b first_part → WritesSome (IsCashText content) b c → WritesFront (λ reply. IsToldSums books reply books) a c
  cash_part a b c one cash =
      let securities = rows_text false (map security_data (totals_exist limit books content keeps).0) in
      let rest = middle_part ++ (securities ++ last_part) in
      let same : (first_part ++ cash.text) ++ (cash.rest ++ rest) ≡ first_part ++ ((cash.text ++ cash.rest) ++ rest) =
      append_assoc first_part cash.text (cash.rest ++ rest) ∙ ap (λ (l : List ℕ). first_part ++ l) (sym (append_assoc cash.text cash.rest rest)) in
      record {
        text = first_part ++ cash.text;
        written = appended a b c first_part cash.text one cash.written;
        front = λ some. (record { status = 200; mt = None }, cash.rest ++ rest, subst (sums_reply books) (sym same) (whole_of (cash.text ++ cash.rest) securities cash.is_text no_securities));
      }

  securities_part : (a b c d e : Option (List ℕ)) → Appends a b first_part → WritesWhole (IsCashText content) b c → Appends c d middle_part → WritesSome (IsSecuritiesText content) d e
      → WritesFront (λ reply. IsToldSums books reply books) a e
  securities_part a b c d e one cash two securities =
      let same : (first_part ++ (cash.text ++ (middle_part ++ securities.text))) ++ (securities.rest ++ last_part) ≡ first_part ++ (cash.text ++ (middle_part ++ ((securities.text ++ securities.rest) ++ last_part))) =
      Prim.simp append_assoc in
      record {
        text = first_part ++ (cash.text ++ (middle_part ++ securities.text));
        written = appended a b e first_part _ one (appended b c e cash.text _ cash.written (appended c d e middle_part securities.text two securities.written));
        front = λ some. (
          record { status = 200; mt = None },
          securities.rest ++ last_part,
          subst (sums_reply books) (sym same) (whole_of cash.text (securities.text ++ securities.rest) cash.is_text securities.is_text),
        );
      }

  -- where it broke off, by why
  broke_in : (IsText : List ℕ → Type 0) (fault : WalkFault) (a b c : Option (List ℕ)) → (WritesSome IsText b c → WritesFront (λ reply. IsToldSums books reply books) a c)
      → WritesText {X = Unit {0}} IsText (Err fault) b c → Writes (λ reply. IsToldSums books reply books) (told_of_walk (Err fault)) a c
  broke_in IsText (walks.Sink sinks.Write) a b c part w = tt
  broke_in IsText (walks.Sink sinks.Memory) a b c part w = part w
  broke_in IsText walks.Memory a b c part w = part w
  broke_in IsText walks.Storage a b c part w = part w

  handed_over : (fault : WalkFault) (r : Result Head WalkFault) (a c : Option (List ℕ)) → IsErrAnd r (λ broken. broken ≡ fault) → Writes (λ reply. IsToldSums books reply books) (told_of_walk (Err fault)) a c
      → Writes (λ reply. IsToldSums books reply books) (told_of_walk r) a c
  handed_over fault (Ok head) a c is w = absurd is
  handed_over fault (Err broken) a c is w = subst (λ z. Writes (λ reply. IsToldSums books reply books) (told_of_walk (Err z)) a c) (sym is) w

  pub broke_in_cash : (fault : WalkFault) (r : Result Head WalkFault) (a b c : Option (List ℕ)) → IsErrAnd r (λ broken. broken ≡ fault) → Appends a b first_part → WritesText {X = Unit {0}} (IsCashText content) (Err fault) b c
      → Writes (λ reply. IsToldSums books reply books) (told_of_walk r) a c
  broke_in_cash fault r a b c is one w = handed_over fault r a c is (broke_in (IsCashText content) fault a b c (cash_part a b c one) w)

  pub broke_in_securities : (fault : WalkFault) (r : Result Head WalkFault) (a b c d e : Option (List ℕ)) → IsErrAnd r (λ broken. broken ≡ fault) → Appends a b first_part → WritesWhole (IsCashText content) b c
      → Appends c d middle_part → WritesText {X = Unit {0}} (IsSecuritiesText content) (Err fault) d e → Writes (λ reply. IsToldSums books reply books) (told_of_walk r) a e
  broke_in_securities fault r a b c d e is one cash two w = handed_over fault r a e is (broke_in (IsSecuritiesText content) fault a d e (securities_part a b c d e one cash two) w)
