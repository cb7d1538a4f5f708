-- What a column says, it says of one thing.
use Rattle.std.proofs.Common.{◌≡◌, ℕ, pos, List, [], ◌∷◌, ◌++◌, length, Option, None, Some, refl, sym, ap, arith, inl, inr}
use Rattle.std.specs.Prelude.{codes, drop, nat_eq, take, if◌then◌else◌}
use Rattle.std.specs.Cmp.Lexicographic.{pointwise}
use Rattle.std.proofs.lemmas.Bool.{cases_Bool}
use Rattle.sqlite.specs.declared.types.Value.{Value}
use Rattle.sqlite.specs.declared.types.Value.TheVariants.{Int, Text as Words}
use Rattle.desk_codes.specs.Bic.{IsBic, party_of}
use Rattle.desk_codes.specs.declared.currency.Ccy.{Ccy}
use Rattle.desk_codes.proofs.CurrencyLemmas.{known_by_letters, three_letters}
use Rattle.desk_codes.specs.Currency.{letters_of}
use Rattle.desk_msg.specs.declared.instruction.Cash.{Cash}
use Rattle.desk_msg.specs.declared.instruction.Kind.{Kind}
use Rattle.desk_msg.specs.declared.mt.Mt.{Mt}
use Rattle.desk_msg.specs.declared.mt.Mt.TheVariants.{Mt540, Mt541, Mt542, Mt543, Mt544, Mt545, Mt546, Mt547}
use Rattle.desk_msg.specs.MessageType.{number_of_type}
use Rattle.desk_msg.specs.Profile.{code_of_kind}
use Rattle.desk_msg.proofs.FormLemmas.{one_quantity_text}
use Rattle.desk_rules.proofs.SameContent.{cash_same}
use Rattle.desk_codes.proofs.BicLemmas.{same_bytes}
use Rattle.sql_tables.specs.CashColumns.{amount_of, currency_of}

pub words : (a b : List ℕ) → ◌≡◌ {A = Value} (Words a) (Words b) → a ≡ b
words a b e = cc

pub count : (a b : ℕ) → ◌≡◌ {A = Value} (Int (pos a)) (Int (pos b)) → a ≡ b
count a b e = cc

pub one_type : (a b : Mt) → number_of_type a ≡ number_of_type b → a ≡ b
one_type Mt540 Mt540 e = refl
one_type Mt541 Mt541 e = refl
one_type Mt542 Mt542 e = refl
one_type Mt543 Mt543 e = refl
one_type Mt544 Mt544 e = refl
one_type Mt545 Mt545 e = refl
one_type Mt546 Mt546 e = refl
one_type Mt547 Mt547 e = refl
one_type a b e = absurd (omega (arith, e))

pub one_kind : (a b : Kind) → code_of_kind a ≡ code_of_kind b → a ≡ b
one_kind a b e = (one_quantity_text a b [] [] (ap (λ (code : List ℕ). code ++ 47 ∷ []) e)).0

pub some_letters : (ccy : Ccy) → letters_of ccy ≡ [] → ⊥
some_letters ccy e = omega (arith, ap length e, three_letters ccy)

pub one_cash : (a b : Option Cash) → currency_of a ≡ currency_of b → amount_of a ≡ amount_of b → a ≡ b
one_cash None None currency amount = refl
one_cash None (Some cash) currency amount = absurd (some_letters cash.ccy (sym currency))
one_cash (Some cash) None currency amount = absurd (some_letters cash.ccy currency)
one_cash (Some a) (Some b) currency amount = ap Some (cash_same a b (known_by_letters a.ccy b.ccy currency) amount)

-- a BIC is its own party
pub own_party : (text : List ℕ) → IsBic text → party_of text ≡ text
own_party text bic = elim (cases_Bool (pointwise nat_eq (drop 8 text) (codes "XXX"))) [
  | inl same ↦ absurd (bic.branch (same_bytes (drop 8 text) (codes "XXX") same))
  | inr other ↦ ap (λ b. if b then take 8 text else text) other
]
