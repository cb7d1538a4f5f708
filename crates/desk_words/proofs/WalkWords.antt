-- How the walk of the parser of words goes from one word to the next, and what it comes to behind the last.
use Rattle.std.proofs.Common.{◌≡◌, ◌&&◌, ◌∙◌, ap, ap₂, sym, ℕ, Bool, true, false, List, [], ◌∷◌, Some, None, refl, subst}
use Rattle.std.specs.Prelude.{fold}
use Rattle.std.specs.List.{list_all}
use Rattle.clap.specs.Simple.{Shape, rows_at}
use Rattle.clap.specs.Takes.{default_passes, is_valid, level_passes, other_passes, settle_passes, step_passes, turn_passes, walk_passes}
use Rattle.clap.specs.Walk.{Held, Row, Rule, Step, Waiting, Walk, after_step, arg_by_id, arg_by_index, finished, idle, nothing_held, option, option_word, plain_word as as_value, subcommand_or_other, to_positional, value, walk_from, walked}
use Rattle.clap.specs.declared.builder.value_parser.Reading.{Reading}
use Rattle.clap.specs.declared.parser.matches.ValueSource.TheVariants.{CommandLine}
use Rattle.desk_words.proofs.PlainWords.{IsPlain}

-- where the walk stands between two words
abbrev pub at : Held → Waiting → ℕ → Walk
at held waiting position = record { held = held; waiting = waiting; position = position; is_trailing = false; stopped = None }

-- behind the name of an option whose value is the next word
abbrev pub behind_option : List Row → List ℕ → ℕ → Walk
behind_option rows name position = at (record { rows = rows; pending = Some (name, []); skip = 0 }) (option name) position

-- behind a value
abbrev pub behind_value : List Row → List ℕ → List ℕ → ℕ → Walk
behind_value rows name text position = at (record { rows = rows; pending = Some (name, text ∷ []); skip = 0 }) idle position

-- what was found for one value
abbrev pub value_row : Reading → List ℕ → List ℕ → Row
value_row reading name text = record { id = name; values = text ∷ []; count = None; source = Some CommandLine; reading = reading }

-- a word that begins with no hyphen is a value, of the option before it or of a place

met_plain : (rules : List Rule) (waiting : Waiting) (position : ℕ) (word : List ℕ) (h : Held) → IsPlain word → subcommand_or_other rules None waiting position word h ≡ as_value rules waiting word h
met_plain rules waiting position word h is = rw (is.dashes, is.long, is.short) refl

plain_passes : (s : Shape) (word : List ℕ) (h : Held) → IsPlain word → other_passes s None word h ≡ true
plain_passes s word h is = rw (is.dashes, is.long, is.short) refl

pub walks_value : (rules : List Rule) (h : Held) (id word : List ℕ) (position : ℕ) → IsPlain word
    → walked rules [] (at h (option id) position) word ≡ at (option_word (arg_by_id rules id) id word h).0 (option_word (arg_by_id rules id) id word h).1 position
unfolding walked
walks_value rules h id word position is = ap (λ (met : Held × Step). after_step rules word (at h (option id) position) met.0 met.1) (met_plain rules (option id) position word h is)

pub passes_value : (s : Shape) (h : Held) (id word : List ℕ) (position : ℕ) → IsPlain word → turn_passes s [] (at h (option id) position) word ≡ true
passes_value s h id word position is =
    ap₂ (λ (passes : Bool) (met : Held × Step). passes && step_passes s position met.0 met.1) (plain_passes s word h is) (met_plain s.rules (option id) position word h is)

pub walks_place : (rules : List Rule) (h : Held) (word : List ℕ) (position : ℕ) → IsPlain word
    → walked rules [] (at h idle position) word ≡ to_positional rules (arg_by_index rules position) word (at h idle position) h
unfolding walked
walks_place rules h word position is = ap (λ (met : Held × Step). after_step rules word (at h idle position) met.0 met.1) (met_plain rules idle position word h is)

pub passes_place : (s : Shape) (h : Held) (word : List ℕ) (position : ℕ) → IsPlain word → step_passes s position h value ≡ true → turn_passes s [] (at h idle position) word ≡ true
passes_place s h word position is fits =
    ap₂ (λ (passes : Bool) (met : Held × Step). passes && step_passes s position met.0 met.1) (plain_passes s word h is) (met_plain s.rules idle position word h is) ∙ fits

-- the walk passes, and ends so
pub record Walks (s : Shape) (w : Walk) (words : List (List ℕ)) (end : Walk) : Type 0 where
  pub walks : fold (walked s.rules []) w words ≡ end
  pub passes : walk_passes s [] w words ≡ true

pub stands : {s : Shape} {w : Walk} → Walks s w [] w
unfolding walk_passes
stands {s} {w} = record { walks = refl; passes = refl }

pub goes : {s : Shape} {w end : Walk} {word : List ℕ} {words : List (List ℕ)} (behind : Walk) → turn_passes s [] w word ≡ true → walked s.rules [] w word ≡ behind → Walks s behind words end → Walks s w (word ∷ words) end
unfolding walk_passes
goes {s} {w} {end} {word} {words} behind turn step others = record {
  walks = ap (λ (v : Walk). fold (walked s.rules []) v words) step ∙ others.walks;
  passes = ap₂ (λ (passes : Bool) (v : Walk). passes && walk_passes s [] v words) turn step ∙ others.passes;
}

abbrev pub ends_well : Shape → Walk → Bool
ends_well s w = settle_passes s.rules s.args_override_self w.held && (list_all default_passes s.rules && is_valid s (finished s.rules w.held) false)

pub level : (s : Shape) (words : List (List ℕ)) (end : Walk) → Walks s (walk_from nothing_held) words end → ends_well s end ≡ true → level_passes s [] nothing_held words false ≡ true
level s words end w ends = ap₂ (λ (passes : Bool) (v : Walk). passes && ends_well s v) w.passes w.walks ∙ ends

-- and what was found is what is there behind the last word
pub found_at : {words : List (List ℕ)} {end : Walk} (s : Shape) (P : List Row → Type 0) → Walks s (walk_from nothing_held) words end → P (finished s.rules end.held) → P (rows_at s words).1
found_at {words} {end} s P w found = subst (λ (v : Walk). P (finished s.rules v.held)) (sym w.walks) found
