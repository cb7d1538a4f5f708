-- What the settings of an argument make of its rule, and how arguments and subcommands are added one after another.
use Rattle.std.proofs.Common.{◌≡◌, ◌||◌, ◌∙◌, ◌-◌, ◌<◌, ◌≤◌, ap, ap₂, sym, Bool, false, List, [], ◌∷◌, ℕ, length, get_or, take, drop, Option, None, refl, arith}
use Rattle.std.proofs.lemmas.List.{take_all}
use Rattle.std.specs.Borrow.{Bor}
use Rattle.clap.specs.Words.{App, Rule, rule_of, with_rule, with_subcommand}
use Rattle.clap.specs.declared.builder.arg.Arg.{Arg}
use Rattle.clap.specs.declared.builder.value_parser.ValueParser.{ValueParser}
use Rattle.desk_words.specs.declared.parser.Argument.{Argument}
use Rattle.desk_words.specs.declared.parser.Form.{Form}
use Rattle.desk_words.specs.declared.parser.Form.TheVariants.{Flag, Named, Place, Places}
use Rattle.desk_words.specs.declared.parser.Subcommand.{Subcommand}
use Rattle.desk_words.specs.Parser.{app_told, named_rule, rule_told, with_rules, with_subcommands}

-- with a text for help, and said to be needed or not
pub rule_needed : (named helped needed : Arg) (text : Option (Bor (List ℕ))) (is : Bool) (rule : Rule) → rule_of named ≡ rule → helped ≡ record named { help = text } → needed ≡ record helped { required = is }
    → rule_of needed ≡ record rule { required = is }
rule_needed named helped needed text is rule ruled help require = ap rule_of require ∙ ap (λ (a : Arg). record (rule_of a) { required = is }) help ∙ ap (λ (r : Rule). record r { required = is }) ruled

pub local_needed : (named helped needed : Arg) (text : Option (Bor (List ℕ))) (is : Bool) → named.global ≡ false → helped ≡ record named { help = text } → needed ≡ record helped { required = is } → needed.global ≡ false
local_needed named helped needed text is local help require = ap (λ (a : Arg). a.global) require ∙ ap (λ (a : Arg). a.global) help ∙ local

-- with what its values are read by
pub rule_parsed : (before after : Arg) (given parser : Option ValueParser) (rule : Rule) → after ≡ record before { value_parser = given } → given ≡ parser → rule_of before ≡ rule → rule_of after ≡ record rule { parser = parser }
rule_parsed before after given parser rule others same ruled = ap rule_of others ∙ ap₂ (λ (r : Rule) (p : Option ValueParser). record r { parser = p }) ruled same

-- where nothing is told of its values they are read as they are written
pub rule_unparsed : (form : Form) (name : List ℕ) (is : Bool) → record (named_rule form name) { required = is } ≡ record (named_rule form name) { required = is; parser = None }
rule_unparsed Place name is = refl
rule_unparsed Places name is = refl
rule_unparsed Named name is = refl
rule_unparsed Flag name is = refl

-- none is added

pub no_rules : (a : App) (arguments : List Argument) → length arguments < 1 → a ≡ with_rules a arguments
no_rules a [] none = refl
no_rules a (argument ∷ more) none = absurd (omega (arith, none))

pub no_subcommands : (a : App) (subcommands : List Subcommand) → length subcommands < 1 → a ≡ with_subcommands a subcommands
no_subcommands a [] none = refl
no_subcommands a (subcommand ∷ more) none = absurd (omega (arith, none))

-- or one more

pub first_and_others : {A : Type 0} (all : List A) (none : A) → 1 ≤ length all → all ≡ get_or all 0 none ∷ take (length all - 1) (drop 1 all)
first_and_others [] none some = absurd (omega (arith, some))
first_and_others (first ∷ others) none some = ap (λ rest. first ∷ rest) (sym (take_all (length (first ∷ others) - 1) others (omega arith)))

pub one_rule : (before after : App) (rule : Rule) (first : Argument) (others all : List Argument) → after ≡ with_rule before rule → rule ≡ rule_told first → all ≡ first ∷ others → with_rules after others ≡ with_rules before all
one_rule before after rule first others all added told are = ap (λ (a : App). with_rules a others) added ∙ ap (λ (r : Rule). with_rules (with_rule before r) others) told ∙ ap (with_rules before) (sym are)

pub one_subcommand : (before after : App) (first : Subcommand) (others all : List Subcommand) → after ≡ with_subcommand before (app_told first).top → all ≡ first ∷ others
    → with_subcommands after others ≡ with_subcommands before all
one_subcommand before after first others all added are = ap (λ (a : App). with_subcommands a others) added ∙ ap (with_subcommands before) (sym are)

-- and no argument of them is global
pub local_kept : (before after one : Bool) → after ≡ (before || one) → before ≡ false → one ≡ false → after ≡ false
local_kept before after one added is also = added ∙ ap₂ (λ (x y : Bool). x || y) is also
