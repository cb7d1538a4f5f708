-- The abstract desk has one answer to a request.
use Rattle.std.proofs.Common.{◌≡◌, inl, inr, suc, ℕ, ◌+◌, ◌<◌, Bool, true, false, Option, None, List, [], ◌∷◌, length, take, AllPairs, get_or, refl, sym, ◌∙◌, ap, subst, arith}
use Rattle.std.specs.Prelude.{MatchBool, Some, sum_by, Ok}
use Rattle.std.proofs.lemmas.Cmp.{nat_list_cmp_total}
use Rattle.std.specs.Ordering.{ordering_reverse}
use Rattle.desk_rules.proofs.Decided.{In, Contains-from_In, In-from_Contains}
use Rattle.desk_rules.proofs.Existence.{books_exist}
use Rattle.desk_rules.proofs.OneVerdict.{one_verdict}
use Rattle.desk_rules.proofs.PairingLaws.{settlement_unique}
use Rattle.desk_rules.proofs.PairingLemmas.{one_pairing}
use Rattle.desk_rules.specs.declared.history.entry.Entry.{Entry}
use Rattle.desk_rules.specs.declared.history.pair.Pair.{Pair}
use Rattle.desk_rules.specs.declared.history.pair.Settled.{Settled}
use Rattle.desk_rules.specs.declared.answers.reply.Reply.{Reply}
use Rattle.desk_rules.specs.declared.answers.verdict.Verdict.{Verdict}
use Rattle.desk_rules.specs.declared.answers.verdict.Verdict.TheVariants.{Accept, Repeat, Refuse}
use Rattle.desk_codes.specs.declared.currency.Ccy.{Ccy}
use Rattle.desk_codes.proofs.CurrencyLemmas.{known_by_letters}
use Rattle.desk_codes.specs.Currency.{letters_of}
use Rattle.desk_rules.specs.Balances.{cash_credits, cash_debits, issued, paid_in, paid_out, redeemed, credits, debits}
use Rattle.desk_rules.specs.History.{entry_at}
use Rattle.desk_rules.specs.declared.answers.verdict.Refusal.TheVariants.{AccountNotSenders, SenderUnknown}
use Rattle.desk_rules.specs.Facts.{accounts_of, is_owner, is_participant, kind_of, last_run, owner_of, participants_of}
use Rattle.desk_rules.specs.Questions.{refused_question}
use Rattle.desk_rules.specs.Refusals.{number_of_refusal}
use Rattle.desk_msg.specs.declared.instruction.Kind.{Kind}
use Rattle.desk_msg.specs.declared.writing.statement_row.StatementRow.{StatementRow}
use Rattle.desk_msg.specs.HoldingsText.{holdings}
use Rattle.desk_holdings.proofs.OneDay.{one_day}
use Rattle.desk_rules.specs.Pairing.{IsPairing}
use Rattle.desk_rules.specs.Reply.{IsFirstReply, IsReply, untyped_reply, reply_to}
use Rattle.desk_rules.specs.Settlement.{IsSettlement}
use Rattle.desk_rules.specs.Books.{AreBooks, Books}
use Rattle.desk_register.specs.Looked.{IsLess}
use Rattle.desk_book.specs.Answered.{Grows, IsAnswer, IsDecided, IsToldSums, Step}
use Rattle.desk_book.specs.Totals.{AreRows, IsCashSum, IsPaidIn, IsRegistered, IsSum}
use Rattle.desk_book.specs.Asked.{Asked}
use Rattle.desk_book.specs.Statement.{HoldsSome, IsHolding, IsStatement, TellsHoldings, TellsOwner}
use Rattle.desk_book.specs.Sums.{sums_text}
use Rattle.desk_book.specs.declared.requests.task.Task.{Task}
use Rattle.desk_book.specs.declared.requests.task.Task.TheVariants.{Answer, Decide, Holdings, Sent, Status, Totals}
use Rattle.desk_book.specs.declared.answers.total.CashTotal.{CashTotal}
use Rattle.desk_book.specs.declared.answers.total.SecurityTotal.{SecurityTotal}
use Rattle.desk_book.proofs.AnsweringLemmas.{asked_there}
use Rattle.desk_book.proofs.OneTask.{one_task}

-- Books.

abbrev as_books : Books → Books
as_books b = b

same_parts : (a b : Books) → a.history ≡ b.history → a.pairs ≡ b.pairs → a.settled ≡ b.settled → a ≡ b
same_parts a b e f g =
    ap (λ (h : List Entry). as_books (record { history = h; pairs = a.pairs; settled = a.settled })) e
    ∙ ap (λ (ps : List Pair). as_books (record { history = b.history; pairs = ps; settled = a.settled })) f
    ∙ ap (λ (ss : List Settled). as_books (record { history = b.history; pairs = b.pairs; settled = ss })) g

one_books : (a b : Books) → a.history ≡ b.history → AreBooks a → AreBooks b → a ≡ b
one_books a b e x y =
    let P : List Entry → Type 0 = λ h. IsPairing h b.pairs in
    let pairs = one_pairing a.history a.pairs b.pairs x.pairing (subst P (sym e) y.pairing) in
    let Q : List Entry → Type 0 = λ h. IsSettlement h b.pairs b.settled in
    let R : List Pair → Type 0 = λ ps. IsSettlement a.history ps b.settled in
    same_parts a b e pairs (settlement_unique a.history a.pairs a.settled b.settled x.pairing x.settlement (subst R (sym pairs) (subst Q (sym e) y.settlement)))

-- Replies.

one_first : (history : List Entry) (n : ℕ) (entry : Entry) (r s : Reply) → entry_at history n ≡ Some entry → IsFirstReply history n r → IsFirstReply history n s → r ≡ s
one_first history n entry r s at x y =
    let all = books_exist (take n history) in
    let books : Books = record { history = take n history; pairs = all.0; settled = all.1 } in
    let are : AreBooks books = record { pairing = all.2.pairing; settlement = all.2.settlement } in
    x.is books entry refl are at ∙ sym (y.is books entry refl are at)

one_reply : (books : Books) (entry : Entry) (verdict : Verdict) (r s : Reply) (n m : Books) → Grows verdict books entry n → Grows verdict books entry m → IsReply books entry verdict n r
    → IsReply books entry verdict m s → (r ≡ s) × (n ≡ m)
one_reply books entry Accept r s n m g h x y =
    let same = one_books n m (g.history ∙ sym h.history) g.are h.are in
    (x.1 ∙ ap (λ b. reply_to b entry) same ∙ sym y.1, same)
one_reply books entry (Repeat k) r s n m g h x y = (let there = asked_there (entry_at books.history k) entry x.0 in one_first books.history k there.0 r s there.1 x.1 y.1, g ∙ sym h)
one_reply books entry (Refuse refusal) r s n m g h x y = (x ∙ sym y, g ∙ sym h)

one_decision : (limit : ℕ) (books : Books) (entry : Entry) (r s : Reply) (n m : Books) → IsDecided limit books entry r n → IsDecided limit books entry s m → (r ≡ s) × (n ≡ m)
one_decision limit books entry r s n m x y =
    let same = one_verdict limit books entry x.verdict y.verdict x.is_verdict y.is_verdict in
    let P : Verdict → Type 0 = λ v. Grows v books entry m in
    let Q : Verdict → Type 0 = λ v. IsReply books entry v m s in
    one_reply books entry x.verdict r s n m x.grows (subst P (sym same) y.grows) x.replied (subst Q (sym same) y.replied)

-- Rows.

not_itself : (a : List ℕ) → IsLess a a → ⊥
not_itself a less =
    let bad = sym less ∙ nat_list_cmp_total.antisymm a a ∙ ap ordering_reverse less in
    cc

module _ {Row : Type 0} (key_of : Row → List ℕ) where
  -- the rows, in order
  abbrev InOrder : List Row → Type 0
  InOrder [] = Unit {0}
  InOrder (t ∷ rows) = ((u : Row) → In rows u → IsLess (key_of t) (key_of u)) × InOrder rows

  in_order : (rows : List Row) → AllPairs (λ a b. IsLess (key_of a) (key_of b)) rows → InOrder rows
  in_order [] all = tt
  in_order (t ∷ rows) all = (
    λ u i.
        let c = Contains-from_In rows u i in
        let h : IsLess (key_of t) (key_of (get_or rows c.0 u)) = all 0 (suc c.0) u (omega arith) (let l : c.0 < length rows = c.1 in omega arith) in
        let P : Row → Type 0 = λ z. IsLess (key_of t) (key_of z) in
        subst P c.2 h,
    in_order rows (λ i j d i<j j<n. all (suc i) (suc j) d (omega arith) (omega arith)),
  )

  one_order_of : (xs ys : List Row) → InOrder xs → InOrder ys → ((t : Row) → In xs t → In ys t) → ((t : Row) → In ys t → In xs t) → xs ≡ ys
  one_order_of [] [] o p there back = refl
  one_order_of [] (y ∷ ys) o p there back = absurd (back y (inl refl))
  one_order_of (x ∷ xs) [] o p there back = absurd (there x (inl refl))
  one_order_of (x ∷ xs) (y ∷ ys) o p there back =
      let same : x ≡ y = heads (there x (inl refl)) (back y (inl refl)) in
      let rest : xs ≡ ys = one_order_of xs ys o.1 p.1 (λ t i. onward t i same) (λ t i. backward t i same) in
      rw (same, rest) refl where
        heads : In (y ∷ ys) x → In (x ∷ xs) y → x ≡ y
        heads (inl e) j = sym e
        heads (inr i) (inl e) = e
        heads (inr i) (inr j) = absurd (not_itself (key_of x) (nat_list_cmp_total.trans (key_of x) (key_of y) (key_of x) (o.0 y j) (p.0 x i)))

        skip_y : (t : Row) → In (y ∷ ys) t → IsLess (key_of x) (key_of t) → x ≡ y → In ys t
        skip_y t (inl e) less same =
            let P : Row → Type 0 = λ z. IsLess (key_of x) (key_of z) in
            absurd (not_itself (key_of x) (subst P (sym (same ∙ e)) less))
        skip_y t (inr i) less same = i

        skip_x : (t : Row) → In (x ∷ xs) t → IsLess (key_of y) (key_of t) → x ≡ y → In xs t
        skip_x t (inl e) less same =
            let P : Row → Type 0 = λ z. IsLess (key_of y) (key_of z) in
            absurd (not_itself (key_of y) (subst P (sym (sym same ∙ e)) less))
        skip_x t (inr i) less same = i

        onward : (t : Row) → In xs t → x ≡ y → In ys t
        onward t i same = skip_y t (there t (inr i)) (o.0 t i) same

        backward : (t : Row) → In ys t → x ≡ y → In xs t
        backward t i same = skip_x t (back t (inr i)) (p.0 t i) same

  -- Where a key has one row, the rows are one list.
  module _ (IsKey : List ℕ → Type 0) (IsRow : Row → Type 0) (keyed : (t : Row) → IsRow t → IsKey (key_of t)) (one : (a b : Row) → key_of a ≡ key_of b → IsRow a → IsRow b → a ≡ b) where
    also_there : (xs ys : List Row) → AreRows key_of IsKey IsRow xs → AreRows key_of IsKey IsRow ys → (t : Row) → In xs t → In ys t
    also_there xs ys x y t i =
        let s = x.each t (Contains-from_In xs t i) in
        let u = y.all (key_of t) (keyed t s) in
        let P : Row → Type 0 = λ z. In ys z in
        subst P (one u.0 t u.2 (y.each u.0 u.1) s) (In-from_Contains ys u.0 u.1)

    one_list : (xs ys : List Row) → AreRows key_of IsKey IsRow xs → AreRows key_of IsKey IsRow ys → xs ≡ ys
    one_list xs ys x y = one_order_of xs ys (in_order xs x.in_order) (in_order ys y.in_order) (also_there xs ys x y) (also_there ys xs y x)

-- Sums.

left_of : (a b c d : ℕ) → a + c ≡ d → b + c ≡ d → a ≡ b
left_of a b c d e f = omega arith

right_of : (a b c d : ℕ) → c + a ≡ d → c + b ≡ d → a ≡ b
right_of a b c d e f = omega arith

abbrev as_total : SecurityTotal → SecurityTotal
as_total t = t

same_total : (a b : SecurityTotal) → a.isin ≡ b.isin → a.held ≡ b.held → a.outstanding ≡ b.outstanding → a ≡ b
same_total a b e f g =
    ap (λ (i : List ℕ). as_total (record { isin = i; held = a.held; outstanding = a.outstanding })) e
    ∙ ap (λ (k : ℕ). as_total (record { isin = b.isin; held = k; outstanding = a.outstanding })) f
    ∙ ap (λ (k : ℕ). as_total (record { isin = b.isin; held = b.held; outstanding = k })) g

one_sum : (books : Books) (a b : SecurityTotal) → a.isin ≡ b.isin → IsSum books a → IsSum books b → a ≡ b
one_sum books a b e x y =
    let out : List ℕ → ℕ = λ i. sum_by (λ account. debits books.history books.settled account i) (accounts_of books.history) in
    let into : List ℕ → ℕ = λ i. sum_by (λ account. credits books.history books.settled account i) (accounts_of books.history) in
    let P : List ℕ → Type 0 = λ i. b.held + out i ≡ into i in
    let Q : List ℕ → Type 0 = λ i. redeemed books.history i + b.outstanding ≡ issued books.history i in
    same_total a b e (left_of a.held b.held (out a.isin) (into a.isin) x.held (subst P (sym e) y.held))
    (right_of a.outstanding b.outstanding (redeemed books.history a.isin) (issued books.history a.isin) x.outstanding (subst Q (sym e) y.outstanding))

abbrev as_cash : CashTotal → CashTotal
as_cash t = t

same_cash : (a b : CashTotal) → a.ccy ≡ b.ccy → a.held ≡ b.held → a.net ≡ b.net → a ≡ b
same_cash a b e f g =
    ap (λ (c : Ccy). as_cash (record { ccy = c; held = a.held; net = a.net })) e
    ∙ ap (λ (k : ℕ). as_cash (record { ccy = b.ccy; held = k; net = a.net })) f
    ∙ ap (λ (k : ℕ). as_cash (record { ccy = b.ccy; held = b.held; net = k })) g

one_cash_sum : (books : Books) (a b : CashTotal) → letters_of a.ccy ≡ letters_of b.ccy → IsCashSum books a → IsCashSum books b → a ≡ b
one_cash_sum books a b letters x y =
    let e : a.ccy ≡ b.ccy = known_by_letters a.ccy b.ccy letters in
    let out : Ccy → ℕ = λ c. sum_by (λ bic. cash_debits books.history books.settled bic c) (participants_of books.history) in
    let into : Ccy → ℕ = λ c. sum_by (λ bic. cash_credits books.history books.settled bic c) (participants_of books.history) in
    let P : Ccy → Type 0 = λ c. b.held + out c ≡ into c in
    let Q : Ccy → Type 0 = λ c. paid_out books.history c + b.net ≡ paid_in books.history c in
    same_cash a b e (left_of a.held b.held (out a.ccy) (into a.ccy) x.held (subst P (sym e) y.held))
    (right_of a.net b.net (paid_out books.history a.ccy) (paid_in books.history a.ccy) x.net (subst Q (sym e) y.net))

one_telling : (books : Books) (r s : Reply) (n m : Books) → IsToldSums books r n → IsToldSums books s m → (r ≡ s) × (n ≡ m)
one_telling books r s n m x y =
    let same_cash_list = one_list (λ t. letters_of t.ccy) (IsPaidIn books.history) (IsCashSum books) (λ t is. is.known) (one_cash_sum books) x.cash y.cash x.are_cash y.are_cash in
    let same = one_list (λ t. t.isin) (IsRegistered books.history) (IsSum books) (λ t is. is.known) (one_sum books) x.securities y.securities x.are y.are in (
      x.replied ∙ ap (λ totals. untyped_reply 200 (sums_text totals x.securities)) same_cash_list ∙ ap (λ totals. untyped_reply 200 (sums_text y.cash totals)) same ∙ sym y.replied,
      x.stays ∙ sym y.stays,
    )

-- Statements.

abbrev as_row : StatementRow → StatementRow
as_row row = row

same_row : (a b : StatementRow) → a.isin ≡ b.isin → a.kind ≡ b.kind → a.quantity ≡ b.quantity → a ≡ b
same_row a b e f g =
    ap (λ (i : List ℕ). as_row (record { isin = i; kind = a.kind; quantity = a.quantity })) e
    ∙ ap (λ (k : Kind). as_row (record { isin = b.isin; kind = k; quantity = a.quantity })) f
    ∙ ap (λ (q : ℕ). as_row (record { isin = b.isin; kind = b.kind; quantity = q })) g

kind_in : Kind → Option Kind → Kind
kind_in other None = other
kind_in other (Some kind) = kind

one_kind : (a b : Kind) (found : Option Kind) → found ≡ Some a → found ≡ Some b → a ≡ b
unfolding kind_in
one_kind a b found x y = ap (kind_in a) (sym x ∙ y)

one_holding : (books : Books) (account : List ℕ) (a b : StatementRow) → a.isin ≡ b.isin → IsHolding books account a → IsHolding books account b → a ≡ b
one_holding books account a b e x y =
    let out : List ℕ → ℕ = λ i. debits books.history books.settled account i in
    let into : List ℕ → ℕ = λ i. credits books.history books.settled account i in
    let P : List ℕ → Type 0 = λ i. b.quantity + out i ≡ into i in
    let Q : List ℕ → Type 0 = λ i. kind_of books.history i ≡ Some b.kind in
    same_row a b e (one_kind a.kind b.kind (kind_of books.history a.isin) x.kind (subst Q (sym e) y.kind))
    (left_of a.quantity b.quantity (out a.isin) (into a.isin) x.quantity (subst P (sym e) y.quantity))

holds_some : (books : Books) (account : List ℕ) (row : StatementRow) → IsHolding books account row → HoldsSome books account row.isin
holds_some books account row is = let some = is.some in let all = is.quantity in omega arith

abbrev statement_reply : Books → List ℕ → List ℕ → List StatementRow → Reply
statement_reply books account day rows = record { status = 200; mt = Some 535; text = holdings (length books.history) day account rows }

one_statement : (books : Books) (account : List ℕ) (r s : Reply) → IsStatement books account r → IsStatement books account s → r ≡ s
one_statement books account r s x y =
    let rows = one_list (λ t. t.isin) (HoldsSome books account) (IsHolding books account) (holds_some books account) (one_holding books account) x.rows y.rows x.are y.are in
    let day = one_day (last_run books.history) x.day y.day x.is_day y.is_day in
    x.replied ∙ ap (λ d. statement_reply books account d x.rows) day ∙ ap (λ rs. statement_reply books account y.day rs) rows ∙ sym y.replied

one_either : (b : Bool) (P : Reply → Type 0) (other r s : Reply) → ((r s : Reply) → P r → P s → r ≡ s) → MatchBool b (P r) (r ≡ other) → MatchBool b (P s) (s ≡ other) → r ≡ s
one_either true P other r s one x y = one r s x y
one_either false P other r s one x y = x ∙ sym y

one_owner : (books : Books) (owner : List ℕ) (account : Option (List ℕ)) (r s : Reply) → TellsOwner books owner account r → TellsOwner books owner account s → r ≡ s
one_owner books owner (Some account) r s x y =
    one_either (is_owner owner (owner_of books.history account)) (IsStatement books account) (refused_question (number_of_refusal AccountNotSenders)) r s (one_statement books account) x y
one_owner books owner None r s x y = x ∙ sym y

one_holdings : (books : Books) (owner : List ℕ) (account : Option (List ℕ)) (r s : Reply) → TellsHoldings books owner account r → TellsHoldings books owner account s → r ≡ s
one_holdings books owner account r s x y =
    one_either (is_participant books.history owner) (TellsOwner books owner account) (refused_question (number_of_refusal SenderUnknown)) r s (one_owner books owner account) x y

-- Answers.

one_to_task : (limit : ℕ) (books : Books) (task : Task) (r s : Reply) (n m : Books) → IsAnswer limit books task r n → IsAnswer limit books task s m → (r ≡ s) × (n ≡ m)
one_to_task limit books (Decide entry) r s n m x y = one_decision limit books entry r s n m x y
one_to_task limit books (Status bic reference) r s n m x y = (x.0 ∙ sym y.0, x.1 ∙ sym y.1)
one_to_task limit books (Sent bic number) r s n m x y = (x.0 ∙ sym y.0, x.1 ∙ sym y.1)
one_to_task limit books (Holdings owner account) r s n m x y = (one_holdings books owner account r s x.0 y.0, x.1 ∙ sym y.1)
one_to_task limit books Totals r s n m x y = one_telling books r s n m x y
one_to_task limit books (Answer given) r s n m x y = (x.0 ∙ sym y.0, x.1 ∙ sym y.1)

pub one_step : (limit : ℕ) (books n m : Books) (asked : Asked) (r s : Reply) → Step limit books asked (Ok r) n → Step limit books asked (Ok s) m → (r ≡ s) × (n ≡ m)
one_step limit books n m asked r s x y =
    let P : Task → Type 0 = λ task. IsAnswer limit books task s m in
    one_to_task limit books x.0 r s n m x.2 (subst P (sym (one_task asked x.0 y.0 x.1 y.1)) y.2)
