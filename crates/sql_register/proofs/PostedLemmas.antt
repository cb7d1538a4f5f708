-- What an entry posts: that it can be, and what the tables have become then.
use Rattle.std.proofs.Common.{◌≡◌, ℕ, ◌+◌, ◌-◌, ◌<◌, ◌^◌, None, Some, Ok, Err, Result, OnOk, subst, arith, lit<}
use Rattle.sqlite.specs.Effect.{Database}
use Rattle.sqlite.specs.declared.error.Error.{Error}
use Rattle.desk_register.specs.Changes.{CanAppend, appended}
use Rattle.desk_rules.specs.declared.answers.reply.Reply.{Reply}
use Rattle.desk_rules.specs.declared.history.entry.Entry.{Entry}
use Rattle.desk_rules.specs.declared.history.entry.Entry.TheVariants.{Participant, Account, Security, Issue, Redeem, PayIn, PayOut, Instruct, Cancel, Run}
use Rattle.desk_rules.specs.declared.history.entry.Sender.TheVariants.{Operator}
use Rattle.desk_rules.specs.declared.limits.TheConstants.{MOST_PAID, MOST_QUANTITY}
use Rattle.desk_rules.specs.History.{sender_of}
use Rattle.desk_rules.specs.WellFormed.{IsWellFormed}
use Rattle.sql_rows.specs.Amounts.{AreAmounts}
use Rattle.sql_rows.specs.Changes.{SetsAmount, had}
use Rattle.sql_rows.specs.declared.amounts.key.AmountKey.{AmountKey}
use Rattle.sql_rows.proofs.AmountLemmas.{same_amounts}
use Rattle.sql_tables.specs.Schema.{desk_schema}
use Rattle.sql_register.specs.Appending.{RowAdded}
use Rattle.sql_register.specs.Content.{content_in}
use Rattle.sql_register.specs.Holds.{Becomes, IsDesk}
use Rattle.sql_register.specs.Posting.{CanPost, Posts, posting_of}
use Rattle.sql_register.specs.declared.posting.Direction.{Direction}
use Rattle.sql_register.specs.declared.posting.Direction.TheVariants.{Credit, Debit}
use Rattle.sql_register.specs.declared.posting.Posting.{Posting}
use Rattle.sql_register.proofs.AppendedAmounts.{IsAlone}
use Rattle.sql_register.proofs.AppendedMoves.{issue_becomes, issue_fits, issue_fits_total, pay_in_becomes, pay_in_fits, pay_in_fits_total, pay_out_becomes, pay_out_enough, pay_out_enough_total, redeem_becomes, redeem_enough, redeem_enough_total}
use Rattle.sql_register.proofs.AppendedRow.{row_amounts}

-- ---- one amount

-- what is recorded under a key where it could be posted
abbrev pub Sets : Direction → Database → Database → AmountKey → ℕ → Type 0
Sets Credit old new key amount = SetsAmount old new key (had old key + amount)
Sets Debit old new key amount = SetsAmount old new key (had old key - amount)

pub sets : (way : Direction) (old new : Database) (key : AmountKey) (amount : ℕ) → CanPost way old key amount → Posts way old new key amount → Sets way old new key amount
sets Credit old new key amount can posts = posts can
sets Debit old new key amount can posts = posts.1

pub sets_kept : (way : Direction) (old new : Database) (key : AmountKey) (amount : ℕ) → Sets way old new key amount → AreAmounts new
sets_kept Credit old new key amount sets = sets.kept
sets_kept Debit old new key amount sets = sets.kept

pub credited : (old new : Database) (key : AmountKey) (amount : ℕ) (r : Result (Unit {0}) Error) → (had old key + amount < 2 ^ 63 → OnOk r (SetsAmount old new key (had old key + amount))) → OnOk r (Posts Credit old new key amount)
credited old new key amount (Ok tt) put = put
credited old new key amount (Err e) put = tt

-- ---- both of an entry

some_is : {x y : Posting} → Some x ≡ Some y → x ≡ y
some_is e = (cc)

pub posting_small : (e : Entry) (p : Posting) → posting_of e ≡ Some p → IsWellFormed e → p.amount < 2 ^ 63
posting_small (Participant reference bic) p is formed = absurd (cc)
posting_small (Account reference bic account) p is formed = absurd (cc)
posting_small (Security reference isin kind) p is formed = absurd (cc)
posting_small (Issue m) p is formed =
    let most : MOST_QUANTITY < 2 ^ 63 = lit< tt in
    let within = formed.within in
    subst (λ (q : Posting). q.amount < 2 ^ 63) (some_is is) (omega (arith, most, within))
posting_small (Redeem m) p is formed =
    let most : MOST_QUANTITY < 2 ^ 63 = lit< tt in
    let within = formed.within in
    subst (λ (q : Posting). q.amount < 2 ^ 63) (some_is is) (omega (arith, most, within))
posting_small (PayIn x) p is formed =
    let most : MOST_PAID < 2 ^ 63 = lit< tt in
    let within = formed.within in
    subst (λ (q : Posting). q.amount < 2 ^ 63) (some_is is) (omega (arith, most, within))
posting_small (PayOut x) p is formed =
    let most : MOST_PAID < 2 ^ 63 = lit< tt in
    let within = formed.within in
    subst (λ (q : Posting). q.amount < 2 ^ 63) (some_is is) (omega (arith, most, within))
posting_small (Instruct sender i) p is formed = absurd (cc)
posting_small (Cancel sender order) p is formed = absurd (cc)
posting_small (Run reference day rule) p is formed = absurd (cc)

-- an entry of the operator's that posts nothing
pub posts_nothing : (e : Entry) → sender_of e ≡ Operator → posting_of e ≡ None → IsAlone e
posts_nothing (Participant reference bic) from none = tt
posts_nothing (Account reference bic account) from none = tt
posts_nothing (Security reference isin kind) from none = tt
posts_nothing (Issue m) from none = absurd (cc)
posts_nothing (Redeem m) from none = absurd (cc)
posts_nothing (PayIn x) from none = absurd (cc)
posts_nothing (PayOut x) from none = absurd (cc)
posts_nothing (Instruct sender i) from none = absurd (cc)
posts_nothing (Cancel sender order) from none = absurd (cc)
posts_nothing (Run reference day rule) from none = tt

-- Behind the entry's row both amounts can be posted, and the tables say the entry then.
pub record IsPosted (old d1 : Database) (reply : Reply) (e : Entry) (p : Posting) : Type 0 where
  pub amounts : AreAmounts d1
  pub first : CanPost p.direction d1 p.balance p.amount
  pub second : (d2 : Database) → Sets p.direction d1 d2 p.balance p.amount → CanPost p.direction d2 p.total p.amount
  pub becomes : (d2 new : Database) → Sets p.direction d1 d2 p.balance p.amount → Sets p.direction d2 new p.total p.amount → new.schema ≡ desk_schema → Becomes new (appended e reply (content_in old))

module _ (old d1 : Database) (reply : Reply) (room : ℕ) (desk : IsDesk old) where
  pub posts_so : (e : Entry) (p : Posting) → posting_of e ≡ Some p → CanAppend room e reply (content_in old) → RowAdded old d1 (content_in old).register e reply → IsPosted old d1 reply e p
  posts_so (Participant reference bic) p is can added = absurd (cc)
  posts_so (Account reference bic account) p is can added = absurd (cc)
  posts_so (Security reference isin kind) p is can added = absurd (cc)
  posts_so (Issue m) p is can added =
      subst (IsPosted old d1 reply (Issue m)) (some_is is) (record {
        amounts = same_amounts old d1 (row_amounts old d1 (Issue m) reply added) desk.amounts;
        first = issue_fits old d1 m reply room desk can added;
        second = λ d2 a. issue_fits_total old d1 m reply room desk can added d2 a;
        becomes = λ d2 new a b schema. issue_becomes old d1 m reply room desk can added d2 a new b schema added.formed.isin.len;
      })
  posts_so (Redeem m) p is can added =
      subst (IsPosted old d1 reply (Redeem m)) (some_is is) (record {
        amounts = same_amounts old d1 (row_amounts old d1 (Redeem m) reply added) desk.amounts;
        first = (added.formed.some, redeem_enough old d1 m reply room desk can added);
        second = λ d2 a. (added.formed.some, redeem_enough_total old d1 m reply room desk can added d2 a);
        becomes = λ d2 new a b schema. redeem_becomes old d1 m reply room desk can added d2 a new b (redeem_enough_total old d1 m reply room desk can added d2 a) schema added.formed.isin.len;
      })
  posts_so (PayIn x) p is can added =
      subst (IsPosted old d1 reply (PayIn x)) (some_is is) (record {
        amounts = same_amounts old d1 (row_amounts old d1 (PayIn x) reply added) desk.amounts;
        first = pay_in_fits old d1 x reply room desk can added;
        second = λ d2 a. pay_in_fits_total old d1 x reply room desk can added d2 a;
        becomes = λ d2 new a b schema. pay_in_becomes old d1 x reply room desk can added d2 a new b schema;
      })
  posts_so (PayOut x) p is can added =
      subst (IsPosted old d1 reply (PayOut x)) (some_is is) (record {
        amounts = same_amounts old d1 (row_amounts old d1 (PayOut x) reply added) desk.amounts;
        first = (added.formed.some, pay_out_enough old d1 x reply room desk can added);
        second = λ d2 a. (added.formed.some, pay_out_enough_total old d1 x reply room desk can added d2 a);
        becomes = λ d2 new a b schema. pay_out_becomes old d1 x reply room desk can added d2 a new b schema;
      })
  posts_so (Instruct sender i) p is can added = absurd (cc)
  posts_so (Cancel sender order) p is can added = absurd (cc)
  posts_so (Run reference day rule) p is can added = absurd (cc)
