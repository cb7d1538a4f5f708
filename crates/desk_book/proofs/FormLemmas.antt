-- The words of a line.
use Rattle.std.proofs.Common.{◌≡◌, ◌≢◌, ℕ, true, false, List, [], ◌∷◌, ◌++◌, All, codes, length, Option, Some, None, IfNone, Err, arith, refl, sym, ◌∙◌, ap, subst, ⊎_elim}
use Rattle.std.specs.Prelude.{nat_eq, take, drop}
use Rattle.std.specs.Cmp.Lexicographic.{pointwise}
use Rattle.std.proofs.lemmas.List.{append_cancel_left, take-append-drop}
use Rattle.std.proofs.Math.Seq.{take-append_seam}
use Rattle.std.proofs.lemmas.Bool.{false≢true}
use Rattle.std.proofs.lemmas.List.Elements.{All-head, All-tail, All-weaker}
use Rattle.desk_codes.specs.Characters.{IsCodeChar}
use Rattle.desk_codes.specs.Bic.{ReadsBic, party_of}
use Rattle.desk_codes.specs.declared.fault.CodeFault.{CodeFault}
use Rattle.desk_codes.specs.declared.fault.CodeFault.TheVariants.{Length, Prefix, Body, Check, Shape}
use Rattle.desk_codes.proofs.BicLemmas.{other_bytes, shape_codes, same_bytes}
use Rattle.desk_book.specs.declared.requests.question.InstructionType.{InstructionType}
use Rattle.desk_book.specs.declared.requests.question.Question.{Question}
use Rattle.desk_book.specs.declared.requests.question.Question.TheVariants.{Message, Operator, Status, Sent, Holdings, Sums}
use Rattle.desk_book.specs.Asked.{Asked}
use Rattle.desk_book.specs.Forms.{Asks, IsLineOf, NamesParty, SpellsBic, body_of}

abbrev pub NoSpace : List ℕ → Type 0
NoSpace text = All (λ c. c ≢ 32) text

-- a BIC has no space
pub bic_no_space : (bic party : List ℕ) → SpellsBic bic party → NoSpace bic
bic_no_space bic party n = All-weaker IsCodeChar (λ c. c ≢ 32) (λ c d e. ⊎_elim (λ h. omega arith) (λ h. omega arith) d) bic (shape_codes bic n.2)

-- a text splits at its first space in one way
pub same_split : (w v p q : List ℕ) → NoSpace w → NoSpace v → w ++ 32 ∷ p ≡ v ++ 32 ∷ q → (w ≡ v) × (p ≡ q)
same_split [] [] p q a b e = (refl, cc)
same_split [] (y ∷ v) p q a b e = absurd (All-head (λ c. c ≢ 32) y v b cc)
same_split (x ∷ w) [] p q a b e = absurd (All-head (λ c. c ≢ 32) x w a cc)
same_split (x ∷ w) (y ∷ v) p q a b e =
    let rest = same_split w v p q (All-tail (λ c. c ≢ 32) x w a) (All-tail (λ c. c ≢ 32) y v b) cc in
    let head : x ≡ y = cc in
    (rw (head, rest.0) refl, rest.1)

pub none_to_split : (text w p : List ℕ) → NoSpace text → text ≡ w ++ 32 ∷ p → ⊥
none_to_split [] [] p a e = cc
none_to_split [] (y ∷ w) p a e = cc
none_to_split (x ∷ text) [] p a e = All-head (λ c. c ≢ 32) x text a cc
none_to_split (x ∷ text) (y ∷ w) p a e = none_to_split text w p (All-tail (λ c. c ≢ 32) x text a) cc

-- what is no BIC names nobody
pub unread : (bic party : List ℕ) (fault : CodeFault) → ReadsBic bic (Err fault) → SpellsBic bic party → ⊥
unread bic party Length h n = h n.1
unread bic party Shape h n = h.1 n.2
unread bic party Prefix h n = h
unread bic party Body h n = h
unread bic party (Check digit) h n = h

pub even_none : {T : Type 0} {P : Type 0} (o : Option T) → P → IfNone o P
even_none None h = h
even_none (Some x) h = tt

-- a line that no body follows asks what its form says, or nothing
nothing_in : (said text : List ℕ) (question : Question) → (said ≡ codes "sums" → ⊥) → ((sender reference : List ℕ) → ¬ NamesParty (codes "status ") sender reference said)
    → ((receiver : List ℕ) (number : ℕ) → ¬ IsLineOf (Sent receiver number) [] said) → ((owner account : List ℕ) → ¬ NamesParty (codes "holdings ") owner account said)
    → IsLineOf question text said → body_of question text ≢ None
nothing_in said text (Message sender kind) other no_status no_sent no_holdings form behind = cc
nothing_in said text Operator other no_status no_sent no_holdings form behind = cc
nothing_in said text (Status sender) other no_status no_sent no_holdings form behind = no_status sender text form
nothing_in said text (Sent receiver number) other no_status no_sent no_holdings form behind = no_sent receiver number form
nothing_in said text (Holdings owner) other no_status no_sent no_holdings form behind = no_holdings owner text form
nothing_in said text Sums other no_status no_sent no_holdings form behind = other form

pub nothing_asked : (said : List ℕ) → (said ≡ codes "sums" → ⊥) → ((sender reference : List ℕ) → ¬ NamesParty (codes "status ") sender reference said)
    → ((receiver : List ℕ) (number : ℕ) → ¬ IsLineOf (Sent receiver number) [] said) → ((owner account : List ℕ) → ¬ NamesParty (codes "holdings ") owner account said)
    → (a : Asked) → ¬ Asks said None a
nothing_asked said other no_status no_sent no_holdings a h = nothing_in said a.text a.question other no_status no_sent no_holdings h.form h.behind

-- a line that posts a body asks what its form says, or nothing
posts_nothing : (said text body : List ℕ) (question : Question) → (said ≡ codes "op" → ⊥) → ((sender : List ℕ) (kind : InstructionType) → ¬ IsLineOf (Message sender kind) [] said)
    → IsLineOf question text said → body_of question text ≢ Some body
posts_nothing said text body (Message sender kind) op none form behind = none sender kind form
posts_nothing said text body Operator op none form behind = op form
posts_nothing said text body (Status sender) op none form behind = cc
posts_nothing said text body (Sent receiver number) op none form behind = cc
posts_nothing said text body (Holdings owner) op none form behind = cc
posts_nothing said text body Sums op none form behind = cc

pub nothing_posted : (said text : List ℕ) → (said ≡ codes "op" → ⊥) → ((sender : List ℕ) (kind : InstructionType) → ¬ IsLineOf (Message sender kind) [] said)
    → (a : Asked) → ¬ Asks said (Some text) a
nothing_posted said text op none a h = posts_nothing said a.text text a.question op none h.form h.behind

-- the rest of a line that begins with a word
pub stripped : (word said rest : List ℕ) → pointwise nat_eq (take (length word) said) word ≡ true → rest ≡ drop (length word) said → said ≡ word ++ rest
stripped word said rest begins is =
    let n = length word in
    sym (take-append-drop n said) ∙ ap (λ x. x ++ drop n said) (same_bytes (take n said) word begins) ∙ ap (λ x. word ++ x) (sym is)

-- what stands behind the word
behind_word : (word said rest party behind : List ℕ) → said ≡ word ++ rest → (named : NamesParty word party behind said) → rest ≡ named.0 ++ 32 ∷ behind
behind_word word said rest party behind begins named = append_cancel_left word rest (named.0 ++ 32 ∷ behind) (sym begins ∙ named.2)

-- A line that does not begin with a word, or whose rest has no BIC before its first space, names no party there.

pub no_word : (word said party behind : List ℕ) → pointwise nat_eq (take (length word) said) word ≡ false → ¬ NamesParty word party behind said
no_word word said party behind other named =
    let rest = named.0 ++ 32 ∷ behind in
    other_bytes (take (length word) said) word other (ap (take (length word)) named.2 ∙ take-append_seam word rest)

pub no_party : (word said rest party behind : List ℕ) → said ≡ word ++ rest → NoSpace rest → ¬ NamesParty word party behind said
no_party word said rest party behind begins none named = none_to_split rest named.0 behind none (behind_word word said rest party behind begins named)

pub other_party : (word said rest first further : List ℕ) → said ≡ word ++ rest → rest ≡ first ++ 32 ∷ further → NoSpace first → ((party : List ℕ) → ¬ SpellsBic first party)
    → (party behind : List ℕ) → ¬ NamesParty word party behind said
other_party word said rest first further begins split none bad party behind named =
    let words = same_split first named.0 further behind none (bic_no_space named.0 party named.1) (sym split ∙ behind_word word said rest party behind begins named) in
    let P : List ℕ → Type 0 = λ w. SpellsBic w party in
    bad party (subst P (sym words.0) named.1)

-- a line names one party behind a word, and one text behind that
pub one_party : (word said p a q b : List ℕ) → NamesParty word p a said → NamesParty word q b said → (p ≡ q) × (a ≡ b)
one_party word said p a q b first second =
    let both : first.0 ++ 32 ∷ a ≡ second.0 ++ 32 ∷ b = append_cancel_left word (first.0 ++ 32 ∷ a) (second.0 ++ 32 ∷ b) (sym first.2 ∙ second.2) in
    let words = same_split first.0 second.0 a b (bic_no_space first.0 p first.1) (bic_no_space second.0 q second.1) both in
    (first.1.0 ∙ ap party_of words.0 ∙ sym second.1.0, words.1)

pub is_not : (said word : List ℕ) → false ≡ pointwise nat_eq said word → pointwise nat_eq word word ≡ true → said ≡ word → ⊥
is_not said word other same is = false≢true (other ∙ ap (λ x. pointwise nat_eq x word) is ∙ same)
