-- What was sent is told the same for good.
use Rattle.std.proofs.Common.{◌≡◌, ℕ, zero, suc, Bool, true, false, ◌||◌, List, ◌++◌, filter, bytes_eq, refl, sym, ◌∙◌, ap, arith, slice_get, if◌then◌else◌, Option, Some, None}
use Rattle.std.specs.Option.{option_or}
use Rattle.std.specs.List.{find}
use Rattle.std.proofs.lemmas.List.Folds.{list_any-append, find-append}
use Rattle.std.proofs.lemmas.List.Elements.{filter-append}
use Rattle.desk_rules.specs.declared.history.entry.Entry.{Entry}
use Rattle.desk_rules.specs.declared.answers.reply.Sent.{Sent}
use Rattle.desk_rules.specs.Sent.{sent_of}
use Rattle.desk_rules.specs.Books.{Books, AreBooks}
use Rattle.desk_rules.specs.Facts.{adds_participant, is_participant}
use Rattle.desk_rules.specs.Questions.{refused_question, sent_text_reply, confirms_it, confirmation_of, sent_to, sent_at, sent_reply}
use Rattle.desk_rules.proofs.HistoryLemmas.{slice_get-known, slice_get-front}
use Rattle.desk_rules.proofs.SentFronts.{sent_front}

found_first : {X : Type 0} (a b : Option X) (x : X) → a ≡ Some x → option_or a b ≡ Some x
found_first None b x e = absurd (cc)
found_first (Some y) b x e = e

still_true : (a b : Bool) → a ≡ true → (a || b) ≡ true
still_true true b e = refl
still_true false b e = absurd (cc)

-- the k-th of a list is the k-th of a longer one
at_front : (xs ys : List Sent) (k : ℕ) → (sent_text_reply (sent_at xs k)).status ≡ 200 → sent_at (xs ++ ys) k ≡ sent_at xs k
at_front xs ys zero e = refl
at_front xs ys (suc k) e = known (slice_get xs k) refl e
  where
    known : (o : Option Sent) → slice_get xs k ≡ o → (sent_text_reply o).status ≡ 200 → slice_get (xs ++ ys) k ≡ slice_get xs k
    known None is f = absurd (let no : 422 ≡ 200 = f in omega (arith, no))
    known (Some message) is f = slice_get-front xs ys k (slice_get-known xs k message is)

module _ (front books : Books) (rest : List Entry) (are : AreBooks front) (longer : AreBooks books) (e : books.history ≡ front.history ++ rest) where
  pub asked_again : (bic : List ℕ) (k : ℕ) → (sent_reply front bic k).status ≡ 200 → sent_reply books bic k ≡ sent_reply front bic k
  asked_again bic k answered = by_test (is_participant front.history bic) refl answered
    where
      more : (more : List Sent) × (sent_of books ≡ sent_of front ++ more)
      more = sent_front front books rest are longer e

      by_test : (test : Bool) → is_participant front.history bic ≡ test → (if test then sent_text_reply (sent_at (sent_to front bic) k) else refused_question 10).status ≡ 200
          → sent_reply books bic k ≡ (if is_participant front.history bic then sent_text_reply (sent_at (sent_to front bic) k) else refused_question 10)
      by_test false is f = absurd (let no : 422 ≡ 200 = f in omega (arith, no))
      by_test true is f =
          let now : is_participant books.history bic ≡ true = ap (λ h. is_participant h bic) e ∙ list_any-append (adds_participant bic) front.history rest ∙ still_true (is_participant front.history bic) (is_participant rest bic) is in
          let sent : sent_to books bic ≡ sent_to front bic ++ filter (λ message. bytes_eq message.bic bic) more.0 = ap (filter (λ message. bytes_eq message.bic bic)) more.1 ∙ filter-append (λ message. bytes_eq message.bic bic) (sent_of front) more.0 in
          let same : sent_at (sent_to books bic) k ≡ sent_at (sent_to front bic) k = ap (λ ms. sent_at ms k) sent ∙ at_front (sent_to front bic) (filter (λ message. bytes_eq message.bic bic) more.0) k f in
          ap (λ test. if test then sent_text_reply (sent_at (sent_to books bic) k) else refused_question 10) now
          ∙ ap sent_text_reply same
          ∙ sym (ap (λ test. if test then sent_text_reply (sent_at (sent_to front bic) k) else refused_question 10) is)

  pub confirmed_still : (n : ℕ) (message : Sent) → confirmation_of front n ≡ Some message → confirmation_of books n ≡ Some message
  confirmed_still n message is =
      let more = sent_front front books rest are longer e in
      ap (find (confirms_it n)) more.1 ∙ find-append (confirms_it n) (sent_of front) more.0 ∙ found_first (find (confirms_it n) (sent_of front)) (find (confirms_it n) more.0) message is
