-- Fields read as one message, or have one fault.
use Rattle.std.proofs.Common.{◌≡◌, ◌≢◌, ◌<◌, ℕ, List, [], ◌∷◌, length, codes, sym, ◌∙◌, ap, subst, refl, inl, inr, arith, Ok, Err, get_or}
use Rattle.desk_text.specs.Fields.{Found}
use Rattle.desk_msg.specs.declared.mt.Mt.{Mt}
use Rattle.desk_msg.specs.declared.mt.Mt.TheVariants.{Mt540, Mt541, Mt542, Mt543, Mt544, Mt545, Mt546, Mt547}
use Rattle.desk_msg.specs.declared.reading.function.FunctionCode.{FunctionCode}
use Rattle.desk_msg.specs.declared.reading.function.FunctionCode.TheVariants.{Newm, Canc}
use Rattle.desk_msg.specs.declared.fault.Word.{Word}
use Rattle.desk_msg.specs.declared.fault.Word.TheVariants.{Field23G}
use Rattle.desk_msg.specs.declared.fault.MsgFault.{MsgFault}
use Rattle.desk_msg.specs.declared.fault.MsgFault.TheVariants.{Missing, Repeated, BadValue, Function}
use Rattle.desk_msg.specs.declared.instruction.Message.{Message}
use Rattle.desk_msg.specs.declared.instruction.Message.TheVariants.{New, Cancel}
use Rattle.desk_msg.specs.Profile.{Row, Said, Says, text_said, function_row, rows_of}
use Rattle.desk_msg.specs.Reads.{belonging, Gives, IsBad, Fails, FailsFirst, GiveAll, code_of_function, instruction_said, cancellation_said, ReadsFields}
use Rattle.desk_msg.proofs.SaidLaws.{one_said}

one_found : (f g : Found) (fs gs : List Found) → f ∷ fs ≡ g ∷ gs → f ≡ g
one_found f g fs gs e = cc

-- a row gives one thing
pub one_given : (fields : List Found) (row : Row) (x y : Said) → Gives fields row x → Gives fields row y → x ≡ y
one_given fields row x y a b =
    let P : Found → Type 0 = λ field. Says row field y in
    one_said row a.field x y a.says (subst P (one_found b.field a.field [] [] (sym b.only ∙ a.only)) b.says)

pub none_one : (fields : List Found) (row : Row) (field : Found) → belonging row fields ≡ [] → belonging row fields ≡ field ∷ [] → ⊥
none_one fields row field none one = let both : [] ≡ field ∷ [] = sym none ∙ one in cc

pub many_one : (fields : List Found) (row : Row) (field : Found) → 1 < length (belonging row fields) → belonging row fields ≡ field ∷ [] → ⊥
many_one fields row field many one = omega (arith, many, ap length one)

none_many : (fields : List Found) (row : Row) → belonging row fields ≡ [] → 1 < length (belonging row fields) → ⊥
none_many fields row none many = omega (arith, many, ap length none)

pub bad_gives : (fields : List Found) (row : Row) (x : Said) → IsBad fields row → Gives fields row x → ⊥
bad_gives fields row x bad gives =
    let P : Found → Type 0 = λ field. Says row field x in
    bad.none x (subst P (one_found gives.field bad.field [] [] (sym gives.only ∙ bad.only)) gives.says)

-- what a row gives, and that it fails, exclude each other, but for another function
pub fails_not_gives : (fields : List Found) (row : Row) (x : Said) (fault : MsgFault) → row.word ≢ Field23G → Fails fields row fault → Gives fields row x → ⊥
fails_not_gives fields row x (Missing word) plain fails gives = none_one fields row gives.field fails.1 gives.only
fails_not_gives fields row x (Repeated word) plain fails gives = many_one fields row gives.field fails.1 gives.only
fails_not_gives fields row x (BadValue word) plain fails gives = bad_gives fields row x fails.1 gives
fails_not_gives fields row x Function plain fails gives = plain fails.0

-- a row fails in one way
pub one_failure : (fields : List Found) (row : Row) (e f : MsgFault) → Fails fields row e → Fails fields row f → e ≡ f
one_failure fields row (Missing v) (Missing w) a b = ap Missing (a.0 ∙ sym b.0)
one_failure fields row (Missing v) (Repeated w) a b = absurd (none_many fields row a.1 b.1)
one_failure fields row (Missing v) (BadValue w) a b = absurd (none_one fields row b.1.field a.1 b.1.only)
one_failure fields row (Missing v) Function a b = absurd (none_one fields row b.1.gives.field a.1 b.1.gives.only)
one_failure fields row (Repeated v) (Missing w) a b = absurd (none_many fields row b.1 a.1)
one_failure fields row (Repeated v) (Repeated w) a b = ap Repeated (a.0 ∙ sym b.0)
one_failure fields row (Repeated v) (BadValue w) a b = absurd (many_one fields row b.1.field a.1 b.1.only)
one_failure fields row (Repeated v) Function a b = absurd (many_one fields row b.1.gives.field a.1 b.1.gives.only)
one_failure fields row (BadValue v) (Missing w) a b = absurd (none_one fields row a.1.field b.1 a.1.only)
one_failure fields row (BadValue v) (Repeated w) a b = absurd (many_one fields row a.1.field b.1 a.1.only)
one_failure fields row (BadValue v) (BadValue w) a b = ap BadValue (a.0 ∙ sym b.0)
one_failure fields row (BadValue v) Function a b = absurd (bad_gives fields row (text_said b.1.function) a.1 b.1.gives)
one_failure fields row Function (Missing w) a b = absurd (none_one fields row a.1.gives.field b.1 a.1.gives.only)
one_failure fields row Function (Repeated w) a b = absurd (many_one fields row a.1.gives.field b.1 a.1.gives.only)
one_failure fields row Function (BadValue w) a b = absurd (bad_gives fields row (text_said a.1.function) b.1 a.1.gives)
one_failure fields row Function Function a b = refl

-- none of the rows is that of the function
abbrev pub ArePlain : List Row → Type 0
ArePlain [] = Unit {0}
ArePlain (row ∷ rows) = (row.word ≢ Field23G) × ArePlain rows

-- the first failure of rows is one
pub one_first : (fields : List Found) (rows : List Row) (e f : MsgFault) → ArePlain rows → FailsFirst fields rows e → FailsFirst fields rows f → e ≡ f
one_first fields [] e f plain a b = absurd a
one_first fields (row ∷ rows) e f plain (inl x) (inl y) = one_failure fields row e f x y
one_first fields (row ∷ rows) e f plain (inl x) (inr y) = absurd (fails_not_gives fields row y.0.0 e plain.0 x y.0.1)
one_first fields (row ∷ rows) e f plain (inr x) (inl y) = absurd (fails_not_gives fields row x.0.0 f plain.0 y x.0.1)
one_first fields (row ∷ rows) e f plain (inr x) (inr y) = one_first fields rows e f plain.1 x.1 y.1

-- rows that all give something have no first failure
pub given_not_first : (fields : List Found) (rows : List Row) (part : Word → Said) (fault : MsgFault) → ArePlain rows → GiveAll fields rows part → FailsFirst fields rows fault → ⊥
given_not_first fields [] part fault plain given fails = fails
given_not_first fields (row ∷ rows) part fault plain given (inl x) = fails_not_gives fields row (part row.word) fault plain.0 x given.0
given_not_first fields (row ∷ rows) part fault plain given (inr x) = given_not_first fields rows part fault plain.1 given.1 x.1

plain_new : (mt : Mt) → ArePlain (rows_of mt Newm)
plain_new Mt540 = ((λ e. cc), ((λ e. cc), ((λ e. cc), ((λ e. cc), ((λ e. cc), ((λ e. cc), ((λ e. cc), ((λ e. cc), tt))))))))
plain_new Mt541 = ((λ e. cc), ((λ e. cc), ((λ e. cc), ((λ e. cc), ((λ e. cc), ((λ e. cc), ((λ e. cc), ((λ e. cc), ((λ e. cc), tt)))))))))
plain_new Mt542 = ((λ e. cc), ((λ e. cc), ((λ e. cc), ((λ e. cc), ((λ e. cc), ((λ e. cc), ((λ e. cc), ((λ e. cc), tt))))))))
plain_new Mt543 = ((λ e. cc), ((λ e. cc), ((λ e. cc), ((λ e. cc), ((λ e. cc), ((λ e. cc), ((λ e. cc), ((λ e. cc), ((λ e. cc), tt)))))))))
plain_new Mt544 = ((λ e. cc), ((λ e. cc), ((λ e. cc), ((λ e. cc), ((λ e. cc), ((λ e. cc), ((λ e. cc), ((λ e. cc), tt))))))))
plain_new Mt545 = ((λ e. cc), ((λ e. cc), ((λ e. cc), ((λ e. cc), ((λ e. cc), ((λ e. cc), ((λ e. cc), ((λ e. cc), ((λ e. cc), tt)))))))))
plain_new Mt546 = ((λ e. cc), ((λ e. cc), ((λ e. cc), ((λ e. cc), ((λ e. cc), ((λ e. cc), ((λ e. cc), ((λ e. cc), tt))))))))
plain_new Mt547 = ((λ e. cc), ((λ e. cc), ((λ e. cc), ((λ e. cc), ((λ e. cc), ((λ e. cc), ((λ e. cc), ((λ e. cc), ((λ e. cc), tt)))))))))

-- the rows behind the function are not the function's
pub plain_rows : (mt : Mt) (function : FunctionCode) → ArePlain (rows_of mt function)
plain_rows mt Newm = plain_new mt
plain_rows mt Canc = ((λ e. cc), ((λ e. cc), tt))

pub one_text_code : (x y : List ℕ) → text_said x ≡ text_said y → x ≡ y
one_text_code x y e = cc

other_codes : codes "NEWM" ≡ codes "CANC" → ⊥
other_codes e = let heads : 78 ≡ 67 = ap (λ text. get_or text 0 0) e in omega (arith, heads)

-- the function is one
pub one_function : (fields : List Found) (f g : FunctionCode) → Gives fields function_row (text_said (code_of_function f)) → Gives fields function_row (text_said (code_of_function g)) → f ≡ g
one_function fields Newm Newm a b = refl
one_function fields Canc Canc a b = refl
one_function fields Newm Canc a b = absurd (other_codes (one_text_code (codes "NEWM") (codes "CANC") (one_given fields function_row (text_said (codes "NEWM")) (text_said (codes "CANC")) a b)))
one_function fields Canc Newm a b = absurd (other_codes (one_text_code (codes "NEWM") (codes "CANC") (one_given fields function_row (text_said (codes "NEWM")) (text_said (codes "CANC")) b a)))

-- a row of the function that gives a used one doesn't fail
pub function_not_fails : (fields : List Found) (f : FunctionCode) (fault : MsgFault) → Gives fields function_row (text_said (code_of_function f)) → Fails fields function_row fault → ⊥
function_not_fails fields f (Missing word) gives fails = none_one fields function_row gives.field fails.1 gives.only
function_not_fails fields f (Repeated word) gives fails = many_one fields function_row gives.field fails.1 gives.only
function_not_fails fields f (BadValue word) gives fails = bad_gives fields function_row (text_said (code_of_function f)) fails.1 gives
function_not_fails fields Newm Function gives fails =
    fails.1.other.0 (sym (one_text_code (codes "NEWM") fails.1.function (one_given fields function_row (text_said (codes "NEWM")) (text_said fails.1.function) gives fails.1.gives)))
function_not_fails fields Canc Function gives fails =
    fails.1.other.1 (sym (one_text_code (codes "CANC") fails.1.function (one_given fields function_row (text_said (codes "CANC")) (text_said fails.1.function) gives fails.1.gives)))

-- the fault is one
pub one_fault : (mt : Mt) (fields : List Found) (e f : MsgFault) → ReadsFields mt fields (Err e) → ReadsFields mt fields (Err f) → e ≡ f
one_fault mt fields e f (inl x) (inl y) = one_failure fields function_row e f x y
one_fault mt fields e f (inl x) (inr y) = absurd (function_not_fails fields y.0 e y.1 x)
one_fault mt fields e f (inr x) (inl y) = absurd (function_not_fails fields x.0 f x.1 y)
one_fault mt fields e f (inr x) (inr y) =
    let P : FunctionCode → Type 0 = λ function. FailsFirst fields (rows_of mt function) f in
    one_first fields (rows_of mt x.0) e f (plain_rows mt x.0) x.2 (subst P (one_function fields y.0 x.0 y.1 x.1) y.2)

-- a message and a fault exclude each other
pub message_no_fault : (mt : Mt) (fields : List Found) (message : Message) (fault : MsgFault) → ReadsFields mt fields (Ok message) → ReadsFields mt fields (Err fault) → ⊥
message_no_fault mt fields (New i) fault reads (inl x) = function_not_fails fields Newm fault reads.1.0 x
message_no_fault mt fields (New i) fault reads (inr x) =
    let P : FunctionCode → Type 0 = λ function. FailsFirst fields (rows_of mt function) fault in
    given_not_first fields (rows_of mt Newm) (instruction_said i) fault (plain_rows mt Newm) reads.1.1 (subst P (one_function fields x.0 Newm x.1 reads.1.0) x.2)
message_no_fault mt fields (Cancel c) fault reads (inl x) = function_not_fails fields Canc fault reads.1.0 x
message_no_fault mt fields (Cancel c) fault reads (inr x) =
    let P : FunctionCode → Type 0 = λ function. FailsFirst fields (rows_of mt function) fault in
    given_not_first fields (rows_of mt Canc) (cancellation_said c) fault (plain_rows mt Canc) reads.1.1 (subst P (one_function fields x.0 Canc x.1 reads.1.0) x.2)
