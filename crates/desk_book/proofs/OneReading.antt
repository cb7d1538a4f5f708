-- A script's lines ask one list of items and no other.
use Rattle.std.proofs.Common.{◌≡◌, ℕ, suc, ◌+◌, ◌<◌, ◌≤◌, true, false, cond, not, eqb, List, [], ◌∷◌, ◌++◌, codes, length, Option, Some, None, arith, refl, sym, ◌∙◌, ap, subst, get_or, append_assoc, append-nil, length-append}
use Rattle.std.proofs.lemmas.Bool.{false≢true, eqb-true}
use Rattle.std.proofs.lemmas.List.Elements.{All-head, All-tail}
use Rattle.std.specs.List.{prefix_len}
use Rattle.desk_codes.specs.Number.{number_of}
use Rattle.desk_book.specs.declared.requests.question.InstructionType.{InstructionType}
use Rattle.desk_book.specs.declared.requests.question.InstructionType.TheVariants.{Mt540, Mt541, Mt542, Mt543}
use Rattle.desk_book.specs.declared.requests.question.Question.{Question}
use Rattle.desk_book.specs.declared.requests.question.Question.TheVariants.{Message, Operator, Status, Sent, Holdings, Sums}
use Rattle.desk_book.specs.Asked.{Asked, asked_with, has_text, mt_of}
use Rattle.desk_msg.specs.MessageType.{digits_of_type}
use Rattle.desk_book.specs.Forms.{Asks, IsLineOf, body_of}
use Rattle.desk_book.specs.Lines.{script_lines, said_by, is_skipped, has_body, is_stop}
use Rattle.desk_book.specs.Script.{Item, ask, bad_line, Asking, ended, skipped, bodiless, posted, cut, Means, Script, HasNoStop, posted_text, BeginsWith, SpellsOnly}
use Rattle.desk_book.proofs.FormLemmas.{one_party}

-- One request for a line.

kind_of : List ℕ → InstructionType
kind_of digits = let d = get_or digits 2 0 in cond (eqb d 48) Mt540 (cond (eqb d 49) Mt541 (cond (eqb d 50) Mt542 Mt543))

kind_back : (kind : InstructionType) → kind_of (digits_of_type (mt_of kind)) ≡ kind
unfolding kind_of
kind_back Mt540 = refl
kind_back Mt541 = refl
kind_back Mt542 = refl
kind_back Mt543 = refl

pub same_kind : (a b : InstructionType) → digits_of_type (mt_of a) ≡ digits_of_type (mt_of b) → a ≡ b
same_kind a b e = sym (kind_back a) ∙ ap kind_of e ∙ kind_back b

-- the second letter of a line: no two questions have the same
second_of : List ℕ → ℕ
second_of line = get_or line 1 0

second_in : Question → ℕ
second_in (Message sender kind) = 110
second_in Operator = 112
second_in (Status sender) = 116
second_in (Sent receiver number) = 101
second_in (Holdings owner) = 111
second_in Sums = 117

second_is : (question : Question) (text said : List ℕ) → IsLineOf question text said → second_of said ≡ second_in question
unfolding second_of second_in
second_is (Message sender kind) text said f = ap second_of f.2
second_is Operator text said f = ap second_of f
second_is (Status sender) text said f = ap second_of f.2
second_is (Sent receiver number) text said f = ap second_of f.2.2
second_is (Holdings owner) text said f = ap second_of f.2
second_is Sums text said f = ap second_of f

-- Of two requests of one line, their questions are one, and so are their texts.

abbrev AreOne : Question → List ℕ → Question → List ℕ → Type 0
AreOne p x q y = asked_with p x ≡ asked_with q y

both_are : (p q : Question) (x y : List ℕ) → p ≡ q → x ≡ y → AreOne p x q y
both_are p q x y same text = ap (λ r. asked_with r x) same ∙ ap (λ z. asked_with q z) text

same_message : (s t : List ℕ) (a b : InstructionType) (x y said : List ℕ) → x ≡ y → IsLineOf (Message s a) x said → IsLineOf (Message t b) y said → AreOne (Message s a) x (Message t b) y
same_message s t a b x y said text f g =
    let named = one_party (codes "in ") said s (digits_of_type (mt_of a)) t (digits_of_type (mt_of b)) f g in
    both_are (Message s a) (Message t b) x y (ap (λ z. Message z a) named.0 ∙ ap (Message t) (same_kind a b named.1)) text

same_sent : (s t : List ℕ) (n m : ℕ) (x y said : List ℕ) → x ≡ y → IsLineOf (Sent s n) x said → IsLineOf (Sent t m) y said → AreOne (Sent s n) x (Sent t m) y
same_sent s t n m x y said text f g =
    let named = one_party (codes "sent ") said s f.0 t g.0 f.2 g.2 in
    let number : n ≡ m = f.1.is ∙ ap number_of named.1 ∙ sym g.1.is in
    both_are (Sent s n) (Sent t m) x y (ap (λ z. Sent z n) named.0 ∙ ap (Sent t) number) text

one_text : {x y : List ℕ} → Some x ≡ Some y → x ≡ y
one_text e = cc

same_question : (p q : Question) (x y said : List ℕ) (body : Option (List ℕ)) → second_in p ≡ second_in q → IsLineOf p x said → IsLineOf q y said → body_of p x ≡ body → body_of q y ≡ body
    → (has_text p ≡ false → x ≡ []) → (has_text q ≡ false → y ≡ []) → AreOne p x q y
unfolding second_in
same_question (Message s a) (Message t b) x y said body e f g h k first second = same_message s t a b x y said (one_text (h ∙ sym k)) f g
same_question Operator Operator x y said body e f g h k first second = both_are Operator Operator x y refl (one_text (h ∙ sym k))
same_question (Status s) (Status t) x y said body e f g h k first second =
    let named = one_party (codes "status ") said s x t y f g in
    both_are (Status s) (Status t) x y (ap Status named.0) named.1
same_question (Sent s n) (Sent t m) x y said body e f g h k first second = same_sent s t n m x y said (first refl ∙ sym (second refl)) f g
same_question (Holdings s) (Holdings t) x y said body e f g h k first second =
    let named = one_party (codes "holdings ") said s x t y f g in
    both_are (Holdings s) (Holdings t) x y (ap Holdings named.0) named.1
same_question Sums Sums x y said body e f g h k first second = both_are Sums Sums x y refl (first refl ∙ sym (second refl))
same_question p q x y said body e f g h k first second = absurd (omega (arith, e))

one_request : (said : List ℕ) (body : Option (List ℕ)) (a b : Asked) → Asks said body a → Asks said body b → a ≡ b
one_request said body a b h k =
    let letters = sym (second_is a.question a.text said h.form) ∙ second_is b.question b.text said k.form in
    same_question a.question b.question a.text b.text said body letters h.form k.form h.behind k.behind h.empty k.empty

one_item : (said : List ℕ) (body : Option (List ℕ)) (x y : Item) → Means said body x → Means said body y → x ≡ y
one_item said body (ask a) (ask b) h k = ap ask (one_request said body a b h k)
one_item said body (ask a) bad_line h k = absurd (k a h)
one_item said body bad_line (ask b) h k = absurd (h b k)
one_item said body bad_line bad_line h k = refl

-- One body behind a line.

IsStop : List ℕ → Type 0
IsStop line = is_stop line ≡ true

same_body : (b c : List (List ℕ)) (s t : List ℕ) (xs ys : List (List ℕ)) → HasNoStop b → HasNoStop c → is_stop s ≡ true → is_stop t ≡ true → b ++ s ∷ xs ≡ c ++ t ∷ ys
    → (b ≡ c) × (xs ≡ ys)
same_body [] [] s t xs ys ob oc is it e = (refl, cc)
same_body [] (l ∷ c) s t xs ys ob oc is it e =
    let same : s ≡ l = cc in
    absurd (false≢true (sym (All-head (λ line. is_stop line ≡ false) l c oc) ∙ ap is_stop (sym same) ∙ is))
same_body (k ∷ b) [] s t xs ys ob oc is it e =
    let same : k ≡ t = cc in
    absurd (false≢true (sym (All-head (λ line. is_stop line ≡ false) k b ob) ∙ ap is_stop same ∙ it))
same_body (k ∷ b) (l ∷ c) s t xs ys ob oc is it e =
    let rest = same_body b c s t xs ys (All-tail (λ line. is_stop line ≡ false) k b ob) (All-tail (λ line. is_stop line ≡ false) l c oc) is it cc in
    let head : k ≡ l = cc in
    (rw (head, rest.0) refl, rest.1)

no_stop : (b c : List (List ℕ)) (t : List ℕ) (ys : List (List ℕ)) → HasNoStop b → is_stop t ≡ true → b ≡ c ++ t ∷ ys → ⊥
no_stop [] [] t ys ob it e = cc
no_stop [] (l ∷ c) t ys ob it e = cc
no_stop (k ∷ b) [] t ys ob it e =
    let same : k ≡ t = cc in
    false≢true (sym (All-head (λ line. is_stop line ≡ false) k b ob) ∙ ap is_stop same ∙ it)
no_stop (k ∷ b) (l ∷ c) t ys ob it e = no_stop b c t ys (All-tail (λ line. is_stop line ≡ false) k b ob) it cc

-- A line that asks nothing has no body.

no_word : (said : List ℕ) → is_skipped said ≡ true → has_body said ≡ true → ⊥
no_word [] h k = false≢true k
no_word (c ∷ said) h k =
    let n = prefix_len (λ x. not (eqb x 32)) said in
    let first : 1 + n ≡ suc n = omega arith in
    let here : has_body (35 ∷ said) ≡ true = subst (λ x. has_body (x ∷ said) ≡ true) (eqb-true c 35 h) k in
    false≢true (rw first at here)

-- One list of items.

pub one_list : {ls ks : List (List ℕ)} {xs ys : List Item} → Asking ls xs → Asking ks ys → ls ≡ ks → ys ≡ xs
one_list ended ended e = refl
one_list ended (skipped s h) e = cc
one_list ended (bodiless s b m h) e = cc
one_list ended (posted body stop b o s m h) e = cc
one_list ended (cut b o) e = cc
one_list (skipped {line = l} s h) ended e = cc
one_list (skipped {line = l} s h) (skipped {line = k} t g) e = one_list h g cc
one_list (skipped {line = l} s h) (bodiless {line = k} t b m g) e = let same : l ≡ k = cc in absurd (false≢true (sym t ∙ ap (λ x. is_skipped (said_by x)) (sym same) ∙ s))
one_list (skipped {line = l} s h) (posted {line = k} body stop b o t m g) e = let same : l ≡ k = cc in absurd (no_word (said_by l) s (ap (λ x. has_body (said_by x)) same ∙ b))
one_list (skipped {line = l} s h) (cut {line = k} b o) e = let same : l ≡ k = cc in absurd (no_word (said_by l) s (ap (λ x. has_body (said_by x)) same ∙ b))
one_list (bodiless {line = l} s b m h) ended e = cc
one_list (bodiless {line = l} s b m h) (skipped {line = k} t g) e = let same : l ≡ k = cc in absurd (false≢true (sym s ∙ ap (λ x. is_skipped (said_by x)) same ∙ t))
one_list (bodiless {line = l} {item = x} s b m h) (bodiless {line = k} {item = y} t c n g) e =
    let same : l ≡ k = cc in
    let rest = one_list h g cc in
    let item : y ≡ x = one_item (said_by l) None y x (subst (λ z. Means (said_by z) None y) (sym same) n) m in
    cc
one_list (bodiless {line = l} s b m h) (posted {line = k} body stop c o t n g) e = let same : l ≡ k = cc in absurd (false≢true (sym b ∙ ap (λ x. has_body (said_by x)) same ∙ c))
one_list (bodiless {line = l} s b m h) (cut {line = k} c o) e = let same : l ≡ k = cc in absurd (false≢true (sym b ∙ ap (λ x. has_body (said_by x)) same ∙ c))
one_list (posted {line = l} body stop b o s m h) ended e = cc
one_list (posted {line = l} body stop b o s m h) (skipped {line = k} t g) e = let same : l ≡ k = cc in absurd (no_word (said_by k) t (ap (λ x. has_body (said_by x)) (sym same) ∙ b))
one_list (posted {line = l} body stop b o s m h) (bodiless {line = k} t c n g) e = let same : l ≡ k = cc in absurd (false≢true (sym c ∙ ap (λ x. has_body (said_by x)) (sym same) ∙ b))
one_list (posted {line = l} body stop {lines = us} {item = x} b o s m h) (posted {line = k} other end {lines = vs} {item = y} c p t n g) e =
    let same : l ≡ k = cc in
    let parts = same_body body other stop end us vs o p s t cc in
    let rest = one_list h g parts.1 in
    let item : y ≡ x =
    one_item (said_by l) (Some (posted_text body)) y x
    (subst (λ z. Means (said_by l) (Some (posted_text z)) y) (sym parts.0) (subst (λ z. Means (said_by z) (Some (posted_text other)) y) (sym same) n)) m
    in cc
one_list (posted {line = l} body stop {lines = us} b o s m h) (cut {line = k} {body = other} c p) e = absurd (no_stop other body stop us p s cc)
one_list (cut {line = l} b o) ended e = cc
one_list (cut {line = l} b o) (skipped {line = k} t g) e = let same : l ≡ k = cc in absurd (no_word (said_by k) t (ap (λ x. has_body (said_by x)) (sym same) ∙ b))
one_list (cut {line = l} b o) (bodiless {line = k} t c n g) e = let same : l ≡ k = cc in absurd (false≢true (sym c ∙ ap (λ x. has_body (said_by x)) (sym same) ∙ b))
one_list (cut {line = l} {body = body} b o) (posted {line = k} other end {lines = vs} c p t n g) e = absurd (no_stop body other end vs o t cc)
one_list (cut {line = l} b o) (cut {line = k} c p) e = refl

-- The items of a script as far as the rest, and the rest's items behind them, are the script's.
pub record IsCountedTo (script rest : List ℕ) (count : ℕ) : Type 0 where
  pub before : List Item
  pub asks : (items : List Item) → Script rest items → Script script (before ++ items)
  pub counted : length before ≡ count
  pub short : count + length rest ≤ length script

pub count_none : (script : List ℕ) → IsCountedTo script script 0
count_none script = record { before = []; asks = λ items h. h; counted = refl; short = omega arith }

-- a script whose front asks these items asks the next one behind them
pub asks_more : (script rest after : List ℕ) (before : List Item) (item : Item) → ((items : List Item) → Script rest items → Script script (before ++ items))
    → BeginsWith (script_lines rest) item after → (items : List Item) → Script after items → Script script ((before ++ item ∷ []) ++ items)
asks_more script rest after before item asks begins items h =
    subst (λ x. Script script x) (sym (append_assoc before (item ∷ []) items)) (asks (item ∷ items) (begins.then items h))

pub count_more : (script rest after : List ℕ) (count : ℕ) (item : Item) → IsCountedTo script rest count → BeginsWith (script_lines rest) item after → length after < length rest
    → IsCountedTo script after (count + 1)
count_more script rest after count item so_far begins shorter = record {
  before = so_far.before ++ item ∷ [];
  asks = asks_more script rest after so_far.before item so_far.asks begins;
  counted = omega (arith, so_far.counted, length-append so_far.before (item ∷ []));
  short = omega (arith, so_far.short);
}

pub count_all : (script rest : List ℕ) (count : ℕ) → IsCountedTo script rest count → Asking (script_lines rest) [] → SpellsOnly script count
count_all script rest count so_far none =
    let all : Script script so_far.before = subst (λ x. Script script x) (append-nil so_far.before) (so_far.asks [] none) in
    record { items = so_far.before; spells = all; counted = so_far.counted; alone = λ others h. one_list all h refl }
