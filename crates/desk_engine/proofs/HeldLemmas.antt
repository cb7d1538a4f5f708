-- What all accounts hold and all participants have, and the content that holds nothing.
use Rattle.std.proofs.Common.{◌≡◌, ℕ, zero, suc, ◌+◌, ◌<◌, ◌≤◌, List, [], ◌∷◌, sum_by, refl, ap, arith}
use Rattle.std.proofs.lemmas.List.Sums.{sum_by-cons}
use Rattle.desk_codes.specs.declared.currency.Ccy.{Ccy}
use Rattle.desk_rules.specs.Balances.{cash_credits, cash_debits, credits, debits, issued, paid_in, paid_out, redeemed}
use Rattle.desk_rules.specs.Facts.{accounts_of, participants_of}
use Rattle.desk_rules.specs.Books.{Books}
use Rattle.desk_rules.specs.declared.limits.TheConstants.{MOST_PAID, MOST_QUANTITY}
use Rattle.desk_rules.proofs.Conservation.{cash_adds_up, securities_add_up}
use Rattle.desk_rules.proofs.Existence.{no_books as none_of}
use Rattle.desk_rules.proofs.HistoryLemmas.{entry_at-known, slice_get-known}
use Rattle.desk_engine.specs.Applied.{Keeps, no_books}
use Rattle.desk_rules.specs.Content.{Content}
use Rattle.desk_register.specs.Changes.{empty_content}
use Rattle.desk_rules.specs.Standing.{no_standing, standing_of}
use Rattle.desk_register.specs.Looked.{held_cash_of, held_of}
use Rattle.desk_engine.proofs.WithinLimits.{outstanding_within, paid_within}

sum_both : {X : Type 0} (f g h : X → ℕ) (xs : List X) → ((x : X) → f x + g x ≡ h x) → sum_by f xs + sum_by g xs ≡ sum_by h xs
sum_both f g h [] same = refl
sum_both f g h (x ∷ xs) same =
    let one = same x in
    let rest = sum_both f g h xs same in
    let a = sum_by-cons f x xs in
    let b = sum_by-cons g x xs in
    let c = sum_by-cons h x xs in
    omega arith

-- what all accounts hold is their credits less their debits
pub held_is : (limit : ℕ) (books : Books) (content : Content) (isin : List ℕ) → Keeps limit books content
    → held_of content isin + sum_by (λ a. debits books.history books.settled a isin) (accounts_of books.history) ≡ sum_by (λ a. credits books.history books.settled a isin) (accounts_of books.history)
held_is limit books content isin keeps =
    let h = books.history in
    let held = sum_both (λ a. content.position a isin) (λ a. debits h books.settled a isin) (λ a. credits h books.settled a isin) (accounts_of h) (λ a. keeps.tables.positions a isin) in
    let same : held_of content isin ≡ sum_by (λ a. content.position a isin) (accounts_of h) = ap (λ z. sum_by (λ a. content.position a isin) (accounts_of z)) keeps.tables.history in
    omega arith

pub held_adds_up : (limit : ℕ) (books : Books) (content : Content) (isin : List ℕ) → Keeps limit books content → redeemed books.history isin + held_of content isin ≡ issued books.history isin
held_adds_up limit books content isin keeps =
    let h = books.history in
    let are = keeps.tables.are in
    let all = securities_add_up limit h keeps.accepted books.pairs books.settled are.pairing are.settlement isin in
    let held = held_is limit books content isin keeps in
    omega arith

pub held_within : (limit : ℕ) (books : Books) (content : Content) (isin : List ℕ) → Keeps limit books content → held_of content isin ≤ MOST_QUANTITY
held_within limit books content isin keeps =
    let within = outstanding_within limit books.history keeps.accepted in
    let most = within.each isin in
    let all = held_adds_up limit books content isin keeps in
    omega arith

-- what all participants have is their credits less their debits, and so what was paid in less what was paid out
held_cash_is : (limit : ℕ) (books : Books) (content : Content) (ccy : Ccy) → Keeps limit books content
    → held_cash_of content ccy + sum_by (λ b. cash_debits books.history books.settled b ccy) (participants_of books.history) ≡ sum_by (λ b. cash_credits books.history books.settled b ccy) (participants_of books.history)
held_cash_is limit books content ccy keeps =
    let h = books.history in
    let held = sum_both (λ b. content.cash b ccy) (λ b. cash_debits h books.settled b ccy) (λ b. cash_credits h books.settled b ccy) (participants_of h) (λ b. keeps.tables.cash b ccy) in
    let same : held_cash_of content ccy ≡ sum_by (λ b. content.cash b ccy) (participants_of h) = ap (λ z. sum_by (λ b. content.cash b ccy) (participants_of z)) keeps.tables.history in
    omega arith

pub held_cash_adds_up : (limit : ℕ) (books : Books) (content : Content) (ccy : Ccy) → Keeps limit books content → paid_out books.history ccy + held_cash_of content ccy ≡ paid_in books.history ccy
held_cash_adds_up limit books content ccy keeps =
    let h = books.history in
    let are = keeps.tables.are in
    let all = cash_adds_up limit h keeps.accepted books.pairs books.settled are.pairing are.settlement ccy in
    let held = held_cash_is limit books content ccy keeps in
    omega arith

pub held_cash_within : (limit : ℕ) (books : Books) (content : Content) (ccy : Ccy) → Keeps limit books content → held_cash_of content ccy ≤ MOST_PAID
held_cash_within limit books content ccy keeps =
    let within = paid_within limit books.history keeps.accepted in
    let most = within.each ccy in
    let all = held_cash_adds_up limit books content ccy keeps in
    omega arith

-- the content that holds nothing keeps the tables of the history that has no entry
pub empty_keeps : (limit : ℕ) → Keeps limit no_books empty_content
empty_keeps limit = record {
  tables = record {
    history = refl;
    are = record { pairing = none_of.pairing; settlement = none_of.settlement };
    replies = record { each = λ n kept at. (let k : n < 0 = slice_get-known [] n kept at in absurd (omega arith)) };
    standings = record { each = stands };
    positions = λ account isin. refl;
    cash = λ bic ccy. refl;
    sent = refl;
  };
  accepted = record { each = λ n entry books at history are. (let k = entry_at-known [] n entry at in let a : 0 < n = k.0 in let b : n ≤ 0 = k.1 in absurd (omega arith)) };
}
  where
    stands : (k : ℕ) → no_standing ≡ standing_of no_books k
    stands zero = refl
    stands (suc zero) = refl
    stands (suc (suc n)) = refl
