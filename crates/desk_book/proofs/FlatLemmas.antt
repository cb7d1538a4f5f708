-- What a flat object reads as: its members, put in one after another.
use Rattle.std.proofs.Common.{◌≡◌, ◌≢◌, ℕ, zero, suc, ◌^◌, ◌<◌, ◌≤◌, ◌+◌, ◌-◌, ◌*◌, fold, ◌++◌, List, [], ◌∷◌, All, true, false, ◌==◌, ap₂, decimal, length, take, drop, max, Option, Some, None, is_some, Bor, ⊎_elim, option_map, option_and_then, get_or, refl, sym, ap, ◌∙◌, subst, append_assoc, append-nil, arith, IsUtf8}
use Rattle.std.proofs.lemmas.List.Elements.{All-head, All-tail, All-nil, All-cons, All-weaker, All-from_get_or}
use Rattle.std.proofs.lemmas.Bool.{eqb-true, ne_eqb, false≢true, or_cases}
use Rattle.std.proofs.lemmas.List.{take_more, drop_more, length-take, get_or-take, take_all, length-drop, length_push}
use Rattle.std.proofs.lemmas.List.{take-append-drop}
use Rattle.std.proofs.lemmas.Bool.Decides.{nat_tests}
use Rattle.std.proofs.lemmas.Fmt.{decimal-digits_value}
use Rattle.std.proofs.lemmas.Str.{IsUtf8-from_ascii}
use Rattle.std.proofs.lemmas.Str.Parse.{IsDigitsTest, numerals_by_fold}
use Rattle.std.proofs.Math.Nat.{pow-le-pow_right}
use Rattle.std.specs.Str.{IsAscii}
use Rattle.json.specs.Json as json
use Rattle.json.specs.Json.{if_last}
use Rattle.json.specs.Token.{Token, begin_object, end_object, key}
use Rattle.json.specs.Token as token
use Rattle.json.specs.Text.{content, plain}
use Rattle.json.specs.Word.{is_operator, is_space, ends_word}
use Rattle.json.specs.Lex as lexer
use Rattle.json.specs.Lex.{Lexeme, lex, between, string_token, operator_lexeme, punctuate, tokens, fresh, after_comma, after_value}
use Rattle.json.specs.Print.{escape}
use Rattle.json.specs.Tree.{depth, members_depth, json_tokens, members_tokens}
use Rattle.json.proofs.Printed.Numbers.{lex-number}
use Rattle.json.proofs.Printed.Strings.{content-escape, escape_byte_plain, lex-escape}
use Rattle.json.proofs.Printed.Trees.{value-json_tokens}
use Rattle.json.proofs.Printed.Decimals.{IsNumber-decimal}
use Rattle.serde_json.specs.Data.{Data, object, Members, no_members, put}
use Rattle.serde_json.specs.Events.{members_len}
use Rattle.serde_json.specs.Find.{get_member}
use Rattle.serde_json.specs.Read.{max_depth, of_json, of_members, read}
use Rattle.serde_json.proofs.Numbers.{number_of-decimal}
use Rattle.serde_json.proofs.Views.{get_member-put, get_member-put_other}
use Rattle.desk_book.specs.declared.requests.flat.Member.{Member}
use Rattle.desk_book.specs.declared.requests.flat.Scalar.{Scalar}
use Rattle.desk_book.specs.declared.requests.flat.Scalar.TheVariants.{Text, Whole}
use Rattle.desk_book.specs.Flat.{Fits, Passes, scalar_data, put_all, object_of, scalar_token, member_lexemes}
use Rattle.desk_book.specs.Runs.{IsPlainTo, is_special}
use Rattle.desk_codes.specs.Characters.{IsDigit}
use Rattle.desk_codes.specs.Number.{number_of}
use Rattle.desk_codes.proofs.NumberLemmas.{number_below}
use Rattle.desk_book.specs.Members.{IsOrderedByName}
use Rattle.desk_book.proofs.ExactLemmas.{ordered_put, len_put}

-- ---- the parts of a text

pub passes_both : (ls ms : List Lexeme) (a b c : List ℕ) → Passes ls a b → Passes ms b c → Passes (ls ++ ms) a c
passes_both ls ms a b c p q = record {
  lexed = p.lexed ∙ ap (λ l. ls ++ l) q.lexed ∙ sym (append_assoc ls ms (lex between c));
  ascii = λ h. p.ascii (q.ascii h);
}

ascii_on : (c : ℕ) (text : List ℕ) → c < 128 → IsAscii text → IsAscii (c ∷ text)
ascii_on c text small h zero = small
ascii_on c text small h (suc i) = h i

ascii_both : (front rest : List ℕ) → IsAscii front → IsAscii rest → IsAscii (front ++ rest)
ascii_both [] rest first h = h
ascii_both (c ∷ front) rest first h = ascii_on c (front ++ rest) (first 0) (ascii_both front rest (λ i. first (suc i)) h)

ascii_behind : (front rest : List ℕ) → All (λ c. c < 128) front → IsAscii rest → IsAscii (front ++ rest)
ascii_behind [] rest all h = h
ascii_behind (c ∷ front) rest all h = ascii_on c (front ++ rest) (All-head (λ c. c < 128) c front all) (ascii_behind front rest (All-tail (λ c. c < 128) c front all) h)

the_space : (c : ℕ) (text : List ℕ) (x : ℕ) → x < 128 → lex between (x ∷ text) ≡ lex between text → c ≡ x → Passes [] (c ∷ text) text
the_space c text x small same is = subst (λ y. Passes [] (y ∷ text) text) (sym is) (record { lexed = same; ascii = ascii_on x text small })

-- a byte of white space
space_passed : (c : ℕ) (text : List ℕ) → is_space c ≡ true → Passes [] (c ∷ text) text
unfolding lex
space_passed c text h =
    ⊎_elim (λ g. ⊎_elim (λ f. ⊎_elim (λ e. the_space c text 32 (omega arith) refl (eqb-true c 32 e)) (λ e. the_space c text 9 (omega arith) refl (eqb-true c 9 e)) (or_cases _ _ f))
    (λ e. the_space c text 10 (omega arith) refl (eqb-true c 10 e)) (or_cases _ _ g))
    (λ e. the_space c text 13 (omega arith) refl (eqb-true c 13 e)) (or_cases _ _ h)

pub space_at : (text : List ℕ) (i : ℕ) → i < length text → is_space (get_or text i 0) ≡ true → Passes [] (drop i text) (drop (i + 1) text)
space_at text i lt h = subst (λ l. Passes [] l (drop (i + 1) text)) (sym (drop_more text i 0 lt)) (space_passed (get_or text i 0) (drop (i + 1) text) h)

-- a mark of the grammar
mark_class : (c : ℕ) → is_operator c ≡ true → lexer.class c ≡ lexer.operator
mark_class c h = rw (ne_eqb c 34 (λ e. false≢true (ap is_operator (sym e) ∙ h)), ne_eqb c 92 (λ e. false≢true (ap is_operator (sym e) ∙ h)), h) refl

pub mark_passed : (c : ℕ) (text : List ℕ) → c < 128 → is_operator c ≡ true → Passes (operator_lexeme c ∷ []) (c ∷ text) text
unfolding lex
mark_passed c text small h = record {
  lexed = ap (λ k. lexer.lex_byte between k c text (λ m. lex m text)) (mark_class c h);
  ascii = ascii_on c text small;
}

-- a byte that stands for itself between quotes
abbrev pub StandsForItself : ℕ → Type 0
StandsForItself c = (32 ≤ c) × (c ≢ 34) × (c ≢ 92) × (c < 128)

plain_text : (text : List ℕ) → All StandsForItself text → escape text ≡ text
plain_text [] all = refl
plain_text (c ∷ text) all =
    let itself = All-head StandsForItself c text all in
    rw (escape_byte_plain c itself.1 itself.2 itself.0) (ap (λ (l : List ℕ). c ∷ l) (plain_text text (All-tail StandsForItself c text all)))

text_passed : (text rest : List ℕ) → All StandsForItself text → Passes (lexer.token (token.string text) ∷ []) (34 ∷ (text ++ 34 ∷ rest)) rest
unfolding lex
text_passed text rest all =
    let itself = plain_text text all in
    let small = All-weaker StandsForItself (λ c. c < 128) (λ c h. h.3) text all in
    record {
      lexed = ap₂ (λ o l. lexer.token (string_token o) ∷ l) (subst (λ (s : List ℕ). content plain (s ++ 34 ∷ rest) ≡ Some text) itself (content-escape text rest)) (subst (λ (s : List ℕ). lex lexer.in_string (s ++ 34 ∷ rest) ≡ lex between rest) itself (lex-escape text rest));
      ascii = λ h. ascii_on 34 (text ++ 34 ∷ rest) (omega arith) (ascii_behind text (34 ∷ rest) small (ascii_on 34 rest (omega arith) h));
    }

-- a byte that is not special stands for itself
pub itself : (c : ℕ) → is_special c ≡ false → StandsForItself c
itself c h = grind (arith, nat_tests, h)

-- the front of a text, up to a quote
pub quoted_to : (rest behind : List ℕ) (n : ℕ) → IsPlainTo rest n → n ≤ length rest → take (length rest - n) (drop n rest) ≡ 34 ∷ behind → Passes (lexer.token (token.string (take n rest)) ∷ []) (34 ∷ rest) behind
quoted_to rest behind n before within is =
    let all : All StandsForItself (take n rest) = All-from_get_or StandsForItself (take n rest) 0 (λ k h. subst StandsForItself (sym (get_or-take n rest k 0 (omega (arith, length-take n rest)))) (itself (get_or rest k 0) (before.plain k (omega (arith, length-take n rest))))) in
    let whole : take (length rest - n) (drop n rest) ≡ drop n rest = take_all (length rest - n) (drop n rest) (omega (arith, length-drop n rest)) in
    let split : rest ≡ take n rest ++ 34 ∷ behind = sym (take-append-drop n rest) ∙ ap (λ l. take n rest ++ l) (sym whole ∙ is) in
    subst (λ l. Passes (lexer.token (token.string (take n rest)) ∷ []) (34 ∷ l) behind) (sym split) (text_passed (take n rest) behind all)

-- eighteen digits fit
pub number_fits : (digits : List ℕ) → All IsDigit digits → length digits ≤ 18 → number_of digits < 2 ^ 64
number_fits digits all short =
    let below = number_below digits all in
    let most : 10 ^ length digits ≤ 10 ^ 18 = pow-le-pow_right (omega arith) short in
    omega (arith, below, most)

-- digits are what writes their number, where the first is no nought beside others
are_digits : IsDigitsTest (All IsDigit)
are_digits = record {
  empty = All-nil IsDigit;
  parts = λ c cs all. (All-head IsDigit c cs all, All-tail IsDigit c cs all);
  more = λ c cs is all. All-cons IsDigit c cs is all;
}

pub written_so : (digits : List ℕ) → All IsDigit digits → length digits ≤ 18 → 0 < length digits → (get_or digits 0 0 ≡ 48 → length digits ≡ 1) → decimal (number_of digits) ≡ digits
written_so digits all short some first =
    decimal-digits_value (numerals_by_fold (All IsDigit) are_digits (λ n ds. fold (λ m c. 10 * m + (c - 48)) n ds) (record { empty = λ n. refl; more = λ n c cs is. ap (λ m. fold (λ k d. 10 * k + (d - 48)) m cs) (omega arith) }))
    digits all some first (number_fits digits all short)

-- a number is written with digits, and no word goes on behind it
pub number_passed : (n : ℕ) (text digits rest : List ℕ) → n < 2 ^ 64 → ends_word rest ≡ true → IsAscii (decimal n) → text ≡ digits ++ rest → decimal n ≡ digits
    → Passes (lexer.token (token.number (decimal n)) ∷ []) text rest
number_passed n text digits rest fits ends small is same =
    subst (λ l. Passes (lexer.token (token.number (decimal n)) ∷ []) l rest) (sym (is ∙ ap (λ l. l ++ rest) (sym same)))
    (record { lexed = lex-number (decimal n) rest (IsNumber-decimal n fits) ends; ascii = ascii_both (decimal n) rest small })

-- a name, its colon and a value
pub member_passed : (m : Member) (text named colon_at value_at rest written : List ℕ) → Passes [] text named → Passes (lexer.token (token.string m.name.now) ∷ []) named colon_at
    → Passes (operator_lexeme 58 ∷ []) colon_at written → Passes [] written value_at → Passes (lexer.token (scalar_token m.value) ∷ []) value_at rest → Passes (member_lexemes m) text rest
member_passed m text named colon_at value_at rest written a b c d e = passes_both [] _ _ _ _ a (passes_both _ _ _ _ _ b (passes_both _ _ _ _ _ c (passes_both [] _ _ _ _ d e)))

-- ---- the members, as JSON

abbrev scalar_json : Scalar → json.Json
scalar_json (Text text) = json.string text.now
scalar_json (Whole n) = json.number (decimal n)

abbrev json_members : List Member → json.Members
json_members [] = json.no_members
json_members (m ∷ ms) = json.member m.name.now (scalar_json m.value) (json_members ms)

-- the numbers have at most 64 bits
abbrev AreFit : List Member → Type 0
AreFit [] = Unit {0}
AreFit (m ∷ ms) = Fits m.value × AreFit ms

fit_push : (ms : List Member) (m : Member) → AreFit ms → Fits m.value → AreFit (ms ++ m ∷ [])
fit_push [] m all fits = (fits, tt)
fit_push (n ∷ ms) m all fits = (all.0, fit_push ms m all.1 fits)

-- each member with a comma behind it
abbrev with_commas : List Member → List Lexeme
with_commas [] = []
with_commas (m ∷ ms) = member_lexemes m ++ lexer.comma ∷ with_commas ms

commas_push : (ms : List Member) (m : Member) → with_commas (ms ++ m ∷ []) ≡ with_commas ms ++ (member_lexemes m ++ lexer.comma ∷ [])
commas_push [] m = refl
commas_push (n ∷ ms) m = ap (λ l. member_lexemes n ++ lexer.comma ∷ l) (commas_push ms m)

one_more : (name : List ℕ) (v : Scalar) (ls : List Lexeme)
    → punctuate after_comma (lexer.token (token.string name) ∷ lexer.colon ∷ lexer.token (scalar_token v) ∷ lexer.comma ∷ ls) ≡ key name ∷ scalar_token v ∷ punctuate after_comma ls
unfolding punctuate
one_more name (Text text) ls = refl
one_more name (Whole n) ls = refl

the_last : (name : List ℕ) (v : Scalar)
    → punctuate after_comma (lexer.token (token.string name) ∷ lexer.colon ∷ lexer.token (scalar_token v) ∷ lexer.token end_object ∷ []) ≡ key name ∷ scalar_token v ∷ end_object ∷ []
unfolding punctuate
the_last name (Text text) = refl
the_last name (Whole n) = refl

same_first : (name : List ℕ) (ls : List Lexeme) → punctuate fresh (lexer.token (token.string name) ∷ lexer.colon ∷ ls) ≡ punctuate after_comma (lexer.token (token.string name) ∷ lexer.colon ∷ ls)
unfolding punctuate
same_first name ls = refl

of_scalar : (v : Scalar) → json_tokens (scalar_json v) ≡ scalar_token v ∷ []
of_scalar (Text text) = refl
of_scalar (Whole n) = refl

after_commas : (ms : List Member) (m : Member) → punctuate after_comma (with_commas ms ++ (member_lexemes m ++ lexer.token end_object ∷ [])) ≡ members_tokens (json_members (ms ++ m ∷ []))
after_commas [] m = the_last m.name.now m.value ∙ ap (λ l. key m.name.now ∷ (l ++ end_object ∷ [])) (sym (of_scalar m.value))
after_commas (n ∷ ms) m =
    one_more n.name.now n.value (with_commas ms ++ (member_lexemes m ++ lexer.token end_object ∷ []))
    ∙ ap (λ l. key n.name.now ∷ scalar_token n.value ∷ l) (after_commas ms m)
    ∙ ap (λ l. key n.name.now ∷ (l ++ members_tokens (json_members (ms ++ m ∷ [])))) (sym (of_scalar n.value))

first_too : (ms : List Member) (m : Member) → punctuate fresh (with_commas ms ++ (member_lexemes m ++ lexer.token end_object ∷ []))
    ≡ punctuate after_comma (with_commas ms ++ (member_lexemes m ++ lexer.token end_object ∷ []))
first_too [] m = same_first m.name.now _
first_too (n ∷ ms) m = same_first n.name.now _

opened : (ls : List Lexeme) → punctuate fresh (lexer.token begin_object ∷ ls) ≡ begin_object ∷ punctuate fresh ls
unfolding punctuate
opened ls = refl

scalar_shallow : (v : Scalar) (n : ℕ) → n ≤ 0 → max (depth (scalar_json v)) n ≤ 0
scalar_shallow (Text text) n h = omega arith
scalar_shallow (Whole m) n h = omega arith

shallow : (ms : List Member) → members_depth (json_members ms) ≤ 0
shallow [] = omega arith
shallow (m ∷ ms) = scalar_shallow m.value _ (shallow ms)

scalar_value : (v : Scalar) → Fits v → of_json (scalar_json v) ≡ Some (scalar_data v)
scalar_value (Text text) fits = refl
scalar_value (Whole n) fits = rw (number_of-decimal n fits) refl

members_value : (ms : List Member) (found : Members) → AreFit ms → of_members (json_members ms) found ≡ Some (put_all ms found)
members_value [] found fit = refl
members_value (m ∷ ms) found fit =
    ap (option_and_then (λ d. of_members (json_members ms) (put m.name.now d found))) (scalar_value m.value fit.0) ∙ members_value ms (put m.name.now (scalar_data m.value) found) fit.1

read_tokens : (j : json.Json) (text : List ℕ) → depth j ≤ max_depth → tokens text ≡ json_tokens j → read text ≡ of_json j
read_tokens j text low is =
    let back : tokens text ≡ json_tokens j ++ [] = is ∙ sym (append-nil (json_tokens j)) in
    ap (λ ts. option_and_then of_json (option_and_then (λ p. if_last p.0 p.1) (json.value max_depth ts))) back
    ∙ ap (λ o. option_and_then of_json (option_and_then (λ p. if_last p.0 p.1) o)) (value-json_tokens j max_depth [] low)

-- the bytes of these members read as the object that has them
flat_read : (bytes : List ℕ) (ms : List Member) (m : Member) → AreFit (ms ++ m ∷ [])
    → lex between bytes ≡ lexer.token begin_object ∷ (with_commas ms ++ (member_lexemes m ++ lexer.token end_object ∷ [])) → read bytes ≡ Some (object_of (ms ++ m ∷ []))
flat_read bytes ms m fit lexed =
    let all = ms ++ m ∷ [] in
    let are : tokens bytes ≡ json_tokens (json.object (json_members all)) =
    ap (punctuate fresh) lexed ∙ opened _ ∙ ap (λ l. begin_object ∷ l) (first_too ms m ∙ after_commas ms m) in
    read_tokens (json.object (json_members all)) bytes (omega (arith, shallow all)) are ∙ ap (option_map object) (members_value all no_members fit)

-- ---- what stands at a name

put_push : (ms : List Member) (m : Member) (found : Members) → put_all (ms ++ m ∷ []) found ≡ put m.name.now (scalar_data m.value) (put_all ms found)
put_push [] m found = refl
put_push (n ∷ ms) m found = put_push ms m (put n.name.now (scalar_data n.value) found)

module _ (ms : List Member) (index : ℕ) (d : Member) (some : 0 < index) (within : index ≤ length ms) where
  the_member : Member
  the_member = get_or ms (index - 1) d

  taken : put_all (take index ms) no_members ≡ put the_member.name.now (scalar_data the_member.value) (put_all (take (index - 1) ms) no_members)
  unfolding the_member
  taken =
      let next : index ≡ (index - 1) + 1 = omega arith in
      ap (λ i. put_all (take i ms) no_members) next ∙ ap (λ l. put_all l no_members) (take_more ms (index - 1) d (omega arith)) ∙ put_push (take (index - 1) ms) (get_or ms (index - 1) d) no_members

  pub stands_last : (name : List ℕ) → (get_or ms (index - 1) d).name.now ≡ name → get_member name (put_all (take index ms) no_members) ≡ Some (scalar_data (get_or ms (index - 1) d).value)
  unfolding the_member
  stands_last name is = ap (get_member name) taken ∙ subst (λ n. get_member n (put the_member.name.now (scalar_data the_member.value) (put_all (take (index - 1) ms) no_members)) ≡ Some (scalar_data the_member.value)) is (get_member-put the_member.name.now (scalar_data the_member.value) (put_all (take (index - 1) ms) no_members))

  pub stands_before : (name : List ℕ) → ((get_or ms (index - 1) d).name.now ≡ name → ⊥) → get_member name (put_all (take index ms) no_members) ≡ get_member name (put_all (take (index - 1) ms) no_members)
  unfolding the_member
  stands_before name other = ap (get_member name) taken ∙ get_member-put_other name the_member.name.now (scalar_data the_member.value) (put_all (take (index - 1) ms) no_members) (λ e. other (sym e))

nothing_there : (r : Option (Bor Scalar)) (found : Option Data) → option_map (λ v. scalar_data v.now) r ≡ found → is_some r ≡ false → found ≡ None
nothing_there None found is none = sym is
nothing_there (Some v) found is none = absurd (false≢true (sym none))

-- a member with a new name is one more
pub once_push : (ms : List Member) (m : Member) (r : Option (Bor Scalar)) → members_len (put_all ms no_members) ≡ length ms
    → option_map (λ v. scalar_data v.now) r ≡ get_member m.name.now (put_all ms no_members) → is_some r ≡ false → members_len (put_all (ms ++ m ∷ []) no_members) ≡ length (ms ++ m ∷ [])
once_push ms m r once is none =
    let more = len_put m.name.now (scalar_data m.value) (put_all ms no_members) (nothing_there r (get_member m.name.now (put_all ms no_members)) is none) in
    let count : suc (members_len (put_all ms no_members)) ≡ length (ms ++ m ∷ []) = omega (arith, once, length_push ms m) in
    ap members_len (put_push ms m no_members) ∙ more ∙ count

-- the names of all stand in order
pub all_ordered : (ms : List Member) (found : Members) → IsOrderedByName found → IsOrderedByName (put_all ms found)
all_ordered [] found ordered = ordered
all_ordered (m ∷ ms) found ordered = all_ordered ms (put m.name.now (scalar_data m.value) found) (ordered_put m.name.now (scalar_data m.value) found ordered)

-- ---- an object, from its first brace to its last

-- what a scan has read: the members so far, each with its comma
abbrev pub Begun : List Member → List ℕ → List ℕ → Type 0
Begun ms bytes rest = Passes (lexer.token begin_object ∷ with_commas ms) bytes rest × AreFit ms

pub begun_on : (ms : List Member) (m : Member) (bytes rest behind more : List ℕ) → Begun ms bytes rest → Passes (member_lexemes m) rest behind → Fits m.value
    → Passes (operator_lexeme 44 ∷ []) behind more → Begun (ms ++ m ∷ []) bytes more
begun_on ms m bytes rest behind more begun next fits comma = (
  subst (λ ls. Passes (lexer.token begin_object ∷ ls) bytes more) (sym (commas_push ms m)) (passes_both _ _ _ _ _ begun.0 (passes_both _ _ _ _ _ next comma)),
  fit_push ms m begun.1 fits,
)

pub empty_text : (text : List ℕ) → (length text == 0) ≡ true → text ≡ []
empty_text [] h = refl
empty_text (c ∷ text) h = let no : length (c ∷ text) ≡ 0 = eqb-true (length (c ∷ text)) 0 h in absurd (omega arith)

lex_nothing : lex between [] ≡ []
unfolding lex
lex_nothing = refl

-- the whole text, up to its end
pub record IsRead (bytes : List ℕ) (ms : List Member) : Type 0 where
  pub reads : read bytes ≡ Some (object_of ms)
  pub utf8 : IsUtf8 bytes

pub ended : (ms : List Member) (m : Member) (bytes rest behind end last : List ℕ) → Begun ms bytes rest → Passes (member_lexemes m) rest behind → Fits m.value
    → Passes (operator_lexeme 125 ∷ []) behind end → Passes [] end last → last ≡ [] → IsRead bytes (ms ++ m ∷ [])
ended ms m bytes rest behind end last begun next fits brace spaces nothing =
    let whole = passes_both _ _ _ _ _ begun.0 (passes_both _ _ _ _ _ next (passes_both _ [] _ _ _ brace spaces)) in
    let lexed = whole.lexed ∙ ap (λ l. (lexer.token begin_object ∷ with_commas ms ++ (member_lexemes m ++ lexer.token end_object ∷ [])) ++ lex between l) nothing ∙ ap (λ l. (lexer.token begin_object ∷ with_commas ms ++ (member_lexemes m ++ lexer.token end_object ∷ [])) ++ l) lex_nothing ∙ append-nil _ in
    record {
      reads = flat_read bytes ms m (fit_push ms m begun.1 fits) lexed;
      utf8 = IsUtf8-from_ascii bytes (whole.ascii (subst IsAscii (sym nothing) nothing_ascii));
    }
  where
    nothing_ascii : IsAscii []
    nothing_ascii i = omega arith
