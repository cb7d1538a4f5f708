-- What a longer history sends begins with what its front sent.
use Rattle.std.proofs.Common.{◌≡◌, ℕ, zero, suc, ◌+◌, ◌<◌, ◌≤◌, Bool, true, false, if◌then◌else◌, List, [], ◌∷◌, ◌++◌, length, length-append, refl, sym, ◌∙◌, ap, subst, arith, append_assoc, append-nil, inl, inr, Option, Some, None}
use Rattle.std.specs.Prelude.{◌==◌}
use Rattle.std.specs.List.{range_with_len, flat_map}
use Rattle.std.proofs.lemmas.Bool.{cases_Bool, eqb-true}
use Rattle.std.proofs.lemmas.List.Concat.{flat_map-cons}
use Rattle.desk_msg.specs.MessageType.{number_of_type}
use Rattle.desk_msg.specs.ConfirmationText.{confirming_type, confirmation}
use Rattle.desk_rules.specs.declared.history.entry.Entry.{Entry}
use Rattle.desk_rules.specs.declared.history.pair.Pair.{Pair}
use Rattle.desk_rules.specs.declared.history.pair.Settled.{Settled}
use Rattle.desk_rules.specs.declared.answers.reply.Sent.{Sent}
use Rattle.desk_rules.specs.History.{Instructed, instruction_at}
use Rattle.desk_rules.specs.Balances.{is_delivered_by}
use Rattle.desk_rules.specs.Sent.{Notice, told_of_pair, told_of_settled, told_by, notices_of, date_in, told, told_to, sent_from, sent_of}
use Rattle.desk_rules.specs.Pairing.{IsPairing}
use Rattle.desk_rules.specs.Settlement.{IsSettlement}
use Rattle.desk_rules.specs.Books.{Books, AreBooks}
use Rattle.desk_rules.proofs.Decided.{In, Contains-from_In}
use Rattle.desk_rules.proofs.HistoryLemmas.{entry_at-front, instruction_at-front}
use Rattle.desk_rules.proofs.PairingLaws.{pairs_front, settled_front}
use Rattle.desk_rules.proofs.PairingLemmas.{decided_pairing}
use Rattle.desk_rules.proofs.SettlementLemmas.{decided_settlement}
use Rattle.desk_rules.proofs.FreshParts.{fresh_pairs, fresh_settled}

-- Lists of lists, joined.

pub flat-append : {X Y : Type 0} (f : X → List Y) (xs ys : List X) → flat_map f (xs ++ ys) ≡ flat_map f xs ++ flat_map f ys
flat-append f [] ys = refl
flat-append f (x ∷ xs) ys =
    flat_map-cons f x (xs ++ ys)
    ∙ ap (λ z. f x ++ z) (flat-append f xs ys)
    ∙ sym (append_assoc (f x) (flat_map f xs) (flat_map f ys))
    ∙ ap (λ z. z ++ flat_map f ys) (sym (flat_map-cons f x xs))

pub flat-none : {X Y : Type 0} (f : X → List Y) (xs : List X) → ((x : X) → In xs x → f x ≡ []) → flat_map f xs ≡ []
flat-none f [] none = refl
flat-none f (x ∷ xs) none = flat_map-cons f x xs ∙ ap (λ z. z ++ flat_map f xs) (none x (inl refl)) ∙ flat-none f xs (λ y i. none y (inr i))

flat-same : {X Y : Type 0} (f g : X → List Y) (xs : List X) → ((x : X) → In xs x → f x ≡ g x) → flat_map f xs ≡ flat_map g xs
flat-same f g [] same = refl
flat-same f g (x ∷ xs) same =
    flat_map-cons f x xs
    ∙ ap (λ z. z ++ flat_map f xs) (same x (inl refl))
    ∙ ap (λ z. g x ++ z) (flat-same f g xs (λ y i. same y (inr i)))
    ∙ sym (flat_map-cons g x xs)

pub range-append : (a m n : ℕ) → range_with_len a (m + n) ≡ range_with_len a m ++ range_with_len (a + m) n
range-append a zero n =
    let none : 0 + n ≡ n = omega arith in
    let at : a + 0 ≡ a = omega arith in
    ap (range_with_len a) none ∙ ap (λ k. range_with_len k n) (sym at)
range-append a (suc m) n =
    let e : suc m + n ≡ suc (m + n) = omega arith in
    ap (range_with_len a) e ∙ ap (λ z. a ∷ z) (range-append (a + 1) m n ∙ ap (λ k. range_with_len (a + 1) m ++ range_with_len k n) (omega arith))

range-below : (a n k : ℕ) → In (range_with_len a n) k → k < a + n
range-below a zero k i = absurd i
range-below a (suc n) k (inl e) = omega (arith, e)
range-below a (suc n) k (inr i) = let rest = range-below (a + 1) n k i in omega (arith, rest)

pub other_number : (a b : ℕ) → b < a → (a == b) ≡ false
other_number a b lt = elim (cases_Bool (a == b)) [ inl e ↦ let same = eqb-true a b e in absurd (omega (arith, same, lt)) | inr e ↦ e ]

pub if_not : {X : Type 0} (test : Bool) (x y : X) → test ≡ false → (if test then x else y) ≡ y
if_not test x y e = rw e refl

module _ (h g : List Entry) (ps more : List Pair) (ss late : List Settled) where
  abbrev pub front : Books
  front = record { history = h; pairs = ps; settled = ss }

  abbrev pub whole : Books
  whole = record { history = h ++ g; pairs = ps ++ more; settled = ss ++ late }

  -- what is in the whole alone is of the entries behind the front
  module _ (are : AreBooks front) (paired_behind : (p : Pair) → In more p → length h < p.later) (settled_behind : (s : Settled) → In late s → length h < s.run) where
    pairs_told : (n : ℕ) → n ≤ length h → flat_map (told_of_pair n) (ps ++ more) ≡ flat_map (told_of_pair n) ps
    pairs_told n le =
        flat-append (told_of_pair n) ps more
        ∙ ap (λ z. flat_map (told_of_pair n) ps ++ z) (flat-none (told_of_pair n) more (λ p i. let above = paired_behind p i in if_not (p.later == n) _ [] (other_number p.later n (omega (arith, above, le)))))
        ∙ append-nil (flat_map (told_of_pair n) ps)

    -- the sides of a pair of the front are the same
    pub record IsInside (p : Pair) : Type 0 where
      pub earlier : p.earlier ≤ length h
      pub later : p.later ≤ length h

    pub same_side : (p : Pair) → IsInside p → is_delivered_by (instruction_at (h ++ g) p.earlier) ≡ is_delivered_by (instruction_at h p.earlier)
    same_side p i = ap is_delivered_by (instruction_at-front h g p.earlier i.earlier)

    pub inside : (s : Settled) → In ss s → IsInside s.pair
    inside s i =
        let d = decided_settlement h ps ss are.settlement in
        let r = d.within s i in
        let run = r.run in
        let numbered = r.numbered in
        let settles = (d.exact s r).0 i in
        let mate = (are.pairing.exact s.pair).0 settles.paired in
        let earlier = mate.candidate.earlier in
        record { earlier = omega (arith, run, numbered, earlier); later = omega (arith, run, numbered) }

    settled_same : (n : ℕ) (s : Settled) → In ss s → told_of_settled (h ++ g) n s ≡ told_of_settled h n s
    settled_same n s i =
        ap (λ b. if s.run == n then record { about = (if b then s.pair.earlier else s.pair.later); run = Some n } ∷ record { about = (if b then s.pair.later else s.pair.earlier); run = Some n } ∷ [] else []) (same_side s.pair (inside s i))

    settled_told : (n : ℕ) → n ≤ length h → flat_map (told_of_settled (h ++ g) n) (ss ++ late) ≡ flat_map (told_of_settled h n) ss
    settled_told n le =
        flat-append (told_of_settled (h ++ g) n) ss late
        ∙ ap (λ z. flat_map (told_of_settled (h ++ g) n) ss ++ z) (flat-none (told_of_settled (h ++ g) n) late (λ t i. let above = settled_behind t i in if_not (t.run == n) _ [] (other_number t.run n (omega (arith, above, le)))))
        ∙ append-nil (flat_map (told_of_settled (h ++ g) n) ss)
        ∙ flat-same (told_of_settled (h ++ g) n) (told_of_settled h n) ss (λ s i. settled_same n s i)

    told_same : (n : ℕ) → n ≤ length h → told_by whole n ≡ told_by front n
    told_same n le = ap (λ z. z ++ flat_map (told_of_settled (h ++ g) n) (ss ++ late)) (pairs_told n le) ∙ ap (λ z. flat_map (told_of_pair n) ps ++ z) (settled_told n le)

    abbrev pub added : List Notice
    added = flat_map (told_by whole) (range_with_len (1 + length h) (length g))

    pub notices_grow : notices_of whole ≡ notices_of front ++ added
    notices_grow =
        ap (λ k. flat_map (told_by whole) (range_with_len 1 k)) (length-append h g)
        ∙ ap (flat_map (told_by whole)) (range-append 1 (length h) (length g))
        ∙ flat-append (told_by whole) (range_with_len 1 (length h)) (range_with_len (1 + length h) (length g))
        ∙ ap (λ z. z ++ added) (flat-same (told_by whole) (told_by front) (range_with_len 1 (length h)) (λ n i. let below = range-below 1 (length h) n i in told_same n (omega (arith, below))))

    -- the notices of the front speak of its entries

    abbrev RunInside : Option ℕ → Type 0
    RunInside None = Unit {0}
    RunInside (Some run) = run ≤ length h

    abbrev AreOfFront : List Notice → Type 0
    AreOfFront [] = Unit {0}
    AreOfFront (n ∷ ns) = (n.about ≤ length h) × RunInside n.run × AreOfFront ns

    front_joined : (a b : List Notice) → AreOfFront a → AreOfFront b → AreOfFront (a ++ b)
    front_joined [] b x y = y
    front_joined (n ∷ a) b x y = (x.0, x.1, front_joined a b x.2 y)

    front_flat : {X : Type 0} (f : X → List Notice) (xs : List X) → ((x : X) → In xs x → AreOfFront (f x)) → AreOfFront (flat_map f xs)
    front_flat f [] each = tt
    front_flat f (x ∷ xs) each = front_joined (f x) (flat_map f xs) (each x (inl refl)) (front_flat f xs (λ y i. each y (inr i)))

    front_if : (test : Bool) (ns : List Notice) → AreOfFront ns → AreOfFront (if test then ns else [])
    front_if true ns all = all
    front_if false ns all = tt

    one_of : (test : Bool) (a b : ℕ) → a ≤ length h → b ≤ length h → (if test then a else b) ≤ length h
    one_of true a b x y = x
    one_of false a b x y = y

    pub paired_inside : (p : Pair) → In ps p → IsInside p
    paired_inside p i =
        let later = (decided_pairing h ps are.pairing).within p i in
        let mate = (are.pairing.exact p).0 (Contains-from_In ps p i) in
        let earlier = mate.candidate.earlier in
        record { earlier = omega (arith, later, earlier); later = later }

    all_of_front : AreOfFront (notices_of front)
    all_of_front = front_flat (told_by front) (range_with_len 1 (length h)) (λ n i.
        let below = range-below 1 (length h) n i in
        let le : n ≤ length h = omega (arith, below) in
        front_joined (flat_map (told_of_pair n) ps) (flat_map (told_of_settled h n) ss)
        (front_flat (told_of_pair n) ps (λ p j. front_if (p.later == n) _ ((paired_inside p j).earlier, tt, tt)))
        (front_flat (told_of_settled h n) ss (λ s j.
        let side = inside s j in
        let test = is_delivered_by (instruction_at h s.pair.earlier) in
        front_if (s.run == n) _ (one_of test s.pair.earlier s.pair.later side.earlier side.later, le, (one_of test s.pair.later s.pair.earlier side.later side.earlier, le, tt)))))

    told_one : (k about : ℕ) (run : Option ℕ) (i : Instructed) → RunInside run → told (h ++ g) k about run i ≡ told h k about run i
    told_one k about None i le = refl
    told_one k about (Some run) i le = ap (λ day. record { bic = i.sender; mt = number_of_type (confirming_type i.instruction.mt); about = about; text = confirmation k i.instruction day }) (ap date_in (entry_at-front h g run le))

    told_any : (k : ℕ) (n : Notice) (o : Option Instructed) → RunInside n.run → told_to (h ++ g) k n o ≡ told_to h k n o
    told_any k n None le = refl
    told_any k n (Some i) le = ap (λ s. s ∷ []) (told_one k n.about n.run i le)

    sent_same : (k : ℕ) (ns : List Notice) → AreOfFront ns → sent_from (h ++ g) k ns ≡ sent_from h k ns
    sent_same k [] all = refl
    sent_same k (n ∷ ns) all =
        ap (λ o. told_to (h ++ g) k n o ++ sent_from (h ++ g) (k + 1) ns) (instruction_at-front h g n.about all.0)
        ∙ ap (λ z. z ++ sent_from (h ++ g) (k + 1) ns) (told_any k n (instruction_at h n.about) all.1)
        ∙ ap (λ z. told_to h k n (instruction_at h n.about) ++ z) (sent_same (k + 1) ns all.2)

    sent_joined : (k : ℕ) (ns ms : List Notice) → sent_from (h ++ g) k (ns ++ ms) ≡ sent_from (h ++ g) k ns ++ sent_from (h ++ g) (k + length ns) ms
    sent_joined k [] ms = let none : k + 0 ≡ k = omega arith in ap (λ n. sent_from (h ++ g) n ms) (sym none)
    sent_joined k (n ∷ ns) ms =
        let this = told_to (h ++ g) k n (instruction_at (h ++ g) n.about) in
        let next : k + 1 + length ns ≡ k + suc (length ns) = omega arith in
        ap (λ z. this ++ z) (sent_joined (k + 1) ns ms ∙ ap (λ m. sent_from (h ++ g) (k + 1) ns ++ sent_from (h ++ g) m ms) next)
        ∙ sym (append_assoc this (sent_from (h ++ g) (k + 1) ns) (sent_from (h ++ g) (k + length (n ∷ ns)) ms))

    -- what the whole sends is what the front sent, and then the messages of what is added
    pub sent_whole : sent_of whole ≡ sent_of front ++ sent_from (h ++ g) (1 + length (notices_of front)) added
    sent_whole =
        ap (sent_from (h ++ g) 1) notices_grow
        ∙ sent_joined 1 (notices_of front) added
        ∙ ap (λ z. z ++ sent_from (h ++ g) (1 + length (notices_of front)) added) (sent_same 1 (notices_of front) all_of_front)

unfoldable pub books_from : List Entry → List Pair → List Settled → Books
books_from h ps ss = record { history = h; pairs = ps; settled = ss }

pub same_books : (h g : List Entry) (ps qs : List Pair) (ss ts : List Settled) → h ≡ g → ps ≡ qs → ss ≡ ts → books_from h ps ss ≡ books_from g qs ts
same_books h g ps qs ss ts e f i = cc

pub sent_front : (front books : Books) (rest : List Entry) → AreBooks front → AreBooks books → books.history ≡ front.history ++ rest → (more : List Sent) × (sent_of books ≡ sent_of front ++ more)
unfolding books_from
sent_front front books rest are longer e =
    let pairing = subst (λ z. IsPairing z books.pairs) e longer.pairing in
    let settlement = subst (λ z. IsSettlement z books.pairs books.settled) e longer.settlement in
    let more = pairs_front front.history rest front.pairs books.pairs are.pairing pairing in
    let late = settled_front front.history rest front.pairs books.pairs front.settled books.settled are.pairing pairing are.settlement settlement in
    let same = same_books books.history (front.history ++ rest) books.pairs (front.pairs ++ more.0) books.settled (front.settled ++ late.0) e more.1 late.1 in
    let whole_are = subst AreBooks same longer in
    let paired_behind = fresh_pairs front.history rest front.pairs more.0 are.pairing whole_are.pairing in
    let settled_behind = fresh_settled front.history rest front.pairs more.0 front.settled late.0 are.pairing whole_are.pairing are.settlement whole_are.settlement in
    let sent = sent_whole front.history rest front.pairs more.0 front.settled late.0 are paired_behind settled_behind in
    (_, ap sent_of same ∙ sent)
