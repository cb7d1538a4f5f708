-- What the parser of words is told of arguments and subcommands; texts of help tell it nothing.
use Rattle.std.specs.Prelude.{ℕ, ℤ, List, [], ◌∷◌, Option, Some, None}
use Rattle.clap.specs.Words.{App, Rule, new_app, new_rule, with_rule, with_subcommand}
use Rattle.clap.specs.declared.builder.action.ArgAction.TheVariants.{Append, SetTrue}
use Rattle.clap.specs.declared.builder.value_parser.ValueParser.{ValueParser}
use Rattle.clap.specs.declared.builder.value_parser.ValueParser.TheVariants.{Signed}
use Rattle.desk_words.specs.declared.parser.Argument.{Argument}
use Rattle.desk_words.specs.declared.parser.Form.{Form}
use Rattle.desk_words.specs.declared.parser.Form.TheVariants.{Place, Places, Named, Flag}
use Rattle.desk_words.specs.declared.parser.Subcommand.{Subcommand}

-- by the name of an argument and how it is given
abbrev pub named_rule : Form → List ℕ → Rule
named_rule Place name = record (new_rule name) { value_names = 1 }
named_rule Places name = record (new_rule name) { value_names = 1; action = Some Append }
named_rule Named name = record (new_rule name) { value_names = 1; long = Some name }
named_rule Flag name = record (new_rule name) { long = Some name; action = Some SetTrue }

-- what its values are read by
abbrev pub parser_told : Option (ℤ × ℤ) → Option ValueParser
parser_told None = None
parser_told (Some range) = Some (Signed range.0 range.1)

abbrev pub rule_told : Argument → Rule
rule_told a = record (named_rule a.form a.name.now) { required = a.is_needed; parser = parser_told a.range }

-- one argument behind another
abbrev pub with_rules : App → List Argument → App
with_rules app [] = app
with_rules app (argument ∷ more) = with_rules (with_rule app (rule_told argument)) more

abbrev pub app_told : Subcommand → App
app_told s = with_rules (new_app s.name.now) s.arguments.now

-- one subcommand behind another
abbrev pub with_subcommands : App → List Subcommand → App
with_subcommands app [] = app
with_subcommands app (subcommand ∷ more) = with_subcommands (with_subcommand app (app_told subcommand).top) more
