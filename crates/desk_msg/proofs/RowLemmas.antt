-- What a row gives, from what its value says.
use Rattle.std.proofs.Common.{◌≡◌, ◌≢◌, ℕ, List, [], ◌∷◌, sym, ◌∙◌, ap, subst, refl, inl, inr, ◌⊎◌, Option, Some, None, Result, Bor, slice_get}
use Rattle.std.specs.Option.{ok_or}
use Rattle.desk_codes.specs.declared.currency.Ccy.{Ccy}
use Rattle.desk_text.specs.Fields.{Found}
use Rattle.desk_text.specs.Seen.{texts}
use Rattle.desk_msg.specs.declared.instruction.Kind.{Kind}
use Rattle.desk_msg.specs.declared.fault.MsgFault.{MsgFault}
use Rattle.desk_msg.specs.declared.fault.MsgFault.TheVariants.{BadValue}
use Rattle.desk_msg.specs.declared.reading.profile.Row.{Row as TableRow}
use Rattle.desk_msg.specs.Profile.{Row, Form, quantity_form, amount_form, Said, text_said, quantity_said, amount_said, unsaid, Says, SaysText, Bears, Behind, slashed, IsQuantityText, IsAmountText, IsSecurityText, function_form, security_form, function_row}
use Rattle.desk_msg.specs.Reads.{belonging, Gives, IsBad}
use Rattle.desk_msg.specs.Finding.{ReadsRow, row_seen}
use Rattle.desk_msg.specs.Named.{IsFound, code_itself}
use Rattle.desk_msg.proofs.ValueLemmas.{one_behind, one_head}

-- what the text of a value says is what its row says, where the row says just what P makes of the text behind a beginning
pub said_behind : {X Y : Type 0} (view : X → Y) (said : Y → Said) (P : List ℕ → Y → Type 0) (row : Row) (begins text : List ℕ) (field : Found) → ((y : Y) → Behind begins field (λ t. P t y) → Says row field (said y)) → ((z : Said) → Says row field z → (y : Y) × Behind begins field (λ t. P t y)) → Bears begins field text → (r : Option X) → IsFound view (P text) r → IsFound (λ x. said (view x)) (Says row field) r
said_behind view said P row begins text field into out bears (Some x) found = into (view x) (text, bears, found)
said_behind view said P row begins text field into out bears None found = λ z h.
    let says = out z h in
    let Q : List ℕ → Type 0 = λ t. P t says.0 in
    found says.0 (subst Q (one_behind begins field says.1.0 text says.1.1 bears) says.1.2)

-- what the one field of a row says, the row gives
pub row_value : {X : Type 0} (said : X → Said) (fields : List Found) (row : Row) (field : Found) → belonging row fields ≡ field ∷ [] → (r : Option X) (res : Result X MsgFault) → IsFound said (Says row field) r → res ≡ ok_or r (BadValue row.word) → ReadsRow fields row said res
row_value {X} said fields row field only (Some x) res found e =
    let R : Result X MsgFault → Type 0 = ReadsRow fields row said in subst R (sym e) (record { field = field; only = only; says = found })
row_value {X} said fields row field only None res found e =
    let R : Result X MsgFault → Type 0 = ReadsRow fields row said in subst R (sym e) (refl, record { field = field; only = only; none = found })

-- a row of another form than a quantity and an amount says a text
pub says_text : (row : Row) (field : Found) (z : Said) → row.form ≢ quantity_form → row.form ≢ amount_form → Says row field z → (y : List ℕ) × SaysText row.form row.begins field y
says_text row field (text_said text) q a h = (text, h)
says_text row field (quantity_said kind quantity) q a h = absurd (q h.0)
says_text row field (amount_said ccy amount) q a h = absurd (a h.0)
says_text row field unsaid q a h = absurd h

-- the same for a row that says texts
pub text_behind : (P : List ℕ → List ℕ → Type 0) (row : Row) (begins text : List ℕ) (field : Found) → row.form ≢ quantity_form → row.form ≢ amount_form → ((y : List ℕ) → Behind begins field (λ t. P t y) → SaysText row.form row.begins field y) → ((y : List ℕ) → SaysText row.form row.begins field y → Behind begins field (λ t. P t y)) → Bears begins field text → (r : Option (List ℕ)) → IsFound code_itself (P text) r → IsFound text_said (Says row field) r
text_behind P row begins text field q a into out bears r found =
    said_behind code_itself text_said P row begins text field into (λ z h. let said = says_text row field z q a h in (said.0, out said.0 said.1)) bears r found

-- of these forms no value says a text
pub no_text : (form : Form) (begins : List ℕ) (field : Found) (text : List ℕ) → (form ≡ quantity_form) ⊎ (form ≡ amount_form) → SaysText form begins field text → ⊥
no_text form begins field text (inl e) h = let P : Form → Type 0 = λ f. SaysText f begins field text in subst P e h
no_text form begins field text (inr e) h = let P : Form → Type 0 = λ f. SaysText f begins field text in subst P e h

-- the row of a quantity says a quantity
pub says_quantity : (row : Row) (field : Found) (z : Said) → row.form ≡ quantity_form → Says row field z → (y : Kind × ℕ) × Behind (slashed row.begins) field (λ t. IsQuantityText t y.0 y.1)
says_quantity row field (quantity_said kind quantity) q h = ((kind, quantity), h.1)
says_quantity row field (text_said text) q h = absurd (no_text row.form row.begins field text (inl q) h)
says_quantity row field (amount_said ccy amount) q h = let both : quantity_form ≡ amount_form = sym q ∙ h.0 in cc
says_quantity row field unsaid q h = absurd h

-- the row of an amount says an amount
pub says_amount : (row : Row) (field : Found) (z : Said) → row.form ≡ amount_form → Says row field z → (y : Ccy × ℕ) × Behind (slashed row.begins) field (λ t. IsAmountText t y.0 y.1)
says_amount row field (amount_said ccy amount) a h = ((ccy, amount), h.1)
says_amount row field (text_said text) a h = absurd (no_text row.form row.begins field text (inr a) h)
says_amount row field (quantity_said kind quantity) a h = let both : amount_form ≡ quantity_form = sym a ∙ h.0 in cc
says_amount row field unsaid a h = absurd h

first_line : (lines : List (Bor (List ℕ))) (line : Bor (List ℕ)) → Some line ≡ slice_get lines 0 → (more : List (List ℕ)) × (texts lines ≡ line.now ∷ more)
first_line [] line e = cc
first_line (top ∷ lines) line e = let same : line ≡ top = cc in (texts lines, ap (λ (l : Bor (List ℕ)). l.now ∷ texts lines) (sym same))

-- the security of a field is that of its first line
security_found : (begins : List ℕ) (field : Found) (lines : List (Bor (List ℕ))) (line : Bor (List ℕ)) (r : Option (List ℕ)) → field.values ≡ texts lines → Some line ≡ slice_get lines 0 → IsFound code_itself (IsSecurityText line.now) r → IsFound code_itself (SaysText security_form begins field) r
security_found begins field lines line (Some isin) are first found = let split = first_line lines line first in (line.now, split.0, are ∙ split.1, found)
security_found begins field lines line None are first found = λ y h.
    let split = first_line lines line first in
    let both : h.0 ∷ h.1 ≡ line.now ∷ split.0 = sym h.2 ∙ (are ∙ split.1) in
    let Q : List ℕ → Type 0 = λ t. IsSecurityText t y in
    found y (subst Q (one_head h.0 line.now h.1 split.0 both) h.3)

text_found : (row : Row) (field : Found) (r : Option (List ℕ)) → row.form ≢ quantity_form → row.form ≢ amount_form → IsFound code_itself (SaysText row.form row.begins field) r → IsFound text_said (Says row field) r
text_found row field (Some text) q a found = found
text_found row field None q a found = λ z h. let said = says_text row field z q a h in found said.0 said.1

pub security_said : (table : TableRow) (field : Found) (lines : List (Bor (List ℕ))) (line : Bor (List ℕ)) (r : Option (List ℕ)) → field.values ≡ texts lines → Some line ≡ slice_get lines 0 → IsFound code_itself (IsSecurityText line.now) r → IsFound text_said (Says (row_seen security_form table) field) r
security_said table field lines line r are first found =
    text_found (row_seen security_form table) field r (λ e. cc) (λ e. cc) (security_found table.begins.now field lines line r are first found)

-- a function that is found in the one field of its row
pub function_gives : (fields : List Found) (field : Found) (function text : List ℕ) → belonging function_row fields ≡ field ∷ [] → SaysText function_form [] field text → text ≡ function → Gives fields function_row (text_said function)
function_gives fields field function text only says same =
    let P : List ℕ → Type 0 = λ t. SaysText function_form [] field t in record { field = field; only = only; says = subst P same says }

pub function_bad : (fields : List Found) (field : Found) → belonging function_row fields ≡ field ∷ [] → ((y : List ℕ) → SaysText function_form [] field y → ⊥) → IsBad fields function_row
function_bad fields field only none = record { field = field; only = only; none = λ z h. let said = says_text function_row field z (λ e. cc) (λ e. cc) h in none said.0 said.1 }
