-- Lists that can be kept, and how they grow.
use Rattle.std.proofs.Common.{◌≡◌, inl, inr, ℕ, ◌+◌, ◌<◌, Bool, List, [], ◌∷◌, ◌++◌, length, take, slice_get, Option, Some, None, refl, sym, ◌∙◌, ap, subst, arith, length-append}
use Rattle.std.specs.Prelude.{◌↔◌, IsTrue}
use Rattle.std.proofs.lemmas.Bool.{cases_lt}
use Rattle.std.proofs.lemmas.List.{length-map, map-append, take-append-le, take_all}
use Rattle.desk_rules.specs.declared.history.entry.Entry.{Entry}
use Rattle.desk_rules.specs.declared.answers.reply.Kept.{Kept}
use Rattle.desk_rules.specs.declared.answers.reply.Reply.{Reply}
use Rattle.desk_rules.specs.declared.answers.verdict.Verdict.TheVariants.{Accept}
use Rattle.desk_rules.specs.Books.{AreBooks, Books}
use Rattle.desk_rules.specs.Content.{Content}
use Rattle.desk_rules.specs.History.{entry_at}
use Rattle.desk_rules.specs.Reply.{IsFirstReply, reply_to}
use Rattle.desk_rules.specs.Tables.{AreTables}
use Rattle.desk_rules.specs.Verdict.{IsVerdict, WasAccepted}
use Rattle.desk_rules.specs.WellFormed.{AreWellFormed}
use Rattle.desk_rules.proofs.Accepted.{accepted_front}
use Rattle.desk_rules.proofs.HistoryLemmas.{before-all, entry_at-end, entry_at-front, slice_get-end, slice_get-front, slice_get-known}
use Rattle.desk_rules.proofs.OneContent.{one_books, one_content}
use Rattle.desk_register.specs.Changes.{empty_content}
use Rattle.desk_engine.specs.Applied.{Keeps, no_books}
use Rattle.desk_engine.proofs.KeptLemmas.{empty_kept}
use Rattle.desk_engine.proofs.SoundLemmas.{kept_is_sound}
use Rattle.desk_engine.specs.Sound.{IsSound}
use Rattle.desk_engine.specs.KeptHistory.{CanBeKept, HoldsKept, entries_of}
use Rattle.desk_engine.specs.Taken.{IsCompared, IsDecided, IsNext}

-- what holds nothing
pub holds_none : (limit : ℕ) (content : Content) → content ≡ empty_content → HoldsKept limit [] content
holds_none limit content empty = record { books = no_books; keeps = empty_kept limit content empty; register = ap (λ (c : Content). c.register) empty }

-- A first reply looks at the history up to its entry.

first_longer : (h g : List Entry) (n : ℕ) (reply : Reply) → n < length h → IsFirstReply h (n + 1) reply → IsFirstReply (h ++ g) (n + 1) reply
first_longer h g n reply lt first = record {
  is = λ books entry history are at.
      first.is books entry (history ∙ take-append-le (n + 1) h g (omega arith)) are (sym (entry_at-front h g (n + 1) (omega arith)) ∙ at);
}

first_shorter : (h g : List Entry) (n : ℕ) (reply : Reply) → n < length h → IsFirstReply (h ++ g) (n + 1) reply → IsFirstReply h (n + 1) reply
first_shorter h g n reply lt first = record {
  is = λ books entry history are at.
      first.is books entry (history ∙ sym (take-append-le (n + 1) h g (omega arith))) are (entry_at-front h g (n + 1) (omega arith) ∙ at);
}

abbrev FirstIn : ℕ → Reply → List Entry → Type 0
FirstIn n reply history = IsFirstReply history (n + 1) reply

entries-append : (xs ys : List Kept) → entries_of (xs ++ ys) ≡ entries_of xs ++ entries_of ys
entries-append xs ys = map-append (λ (k : Kept). k.entry) xs ys

length-entries : (xs : List Kept) → length (entries_of xs) ≡ length xs
length-entries xs = length-map xs (λ (k : Kept). k.entry)

-- a front of what can be kept can be kept
pub front : (limit : ℕ) (xs ys : List Kept) → CanBeKept limit (xs ++ ys) → CanBeKept limit xs
front limit xs ys can = record {
  accepted = accepted_front limit (entries_of xs) (entries_of ys) (subst (WasAccepted limit) (entries-append xs ys) can.accepted);
  replies = λ n k at.
      let lt = slice_get-known xs n k at in
      let size = length-entries xs in
      let there = subst (FirstIn n k.reply) (entries-append xs ys) (can.replies n k (slice_get-front xs ys n lt ∙ at)) in
      first_shorter (entries_of xs) (entries_of ys) n k.reply (omega arith) there;
}

entries_held : (limit : ℕ) (kept : List Kept) (content : Content) (held : HoldsKept limit kept content) → entries_of kept ≡ held.books.history
entries_held limit kept content held = ap entries_of (sym held.register) ∙ held.keeps.tables.history

-- what is held can be kept
pub can_held : (limit : ℕ) (kept : List Kept) (content : Content) → HoldsKept limit kept content → CanBeKept limit kept
can_held limit kept content held =
    let entries = entries_held limit kept content held in record {
      accepted = subst (WasAccepted limit) (sym entries) held.keeps.accepted;
      replies = λ n k at. subst (FirstIn n k.reply) (sym entries) (held.keeps.tables.replies.each n k (ap (λ r. slice_get r n) held.register ∙ at));
    }

-- what is held is sound
pub sound_held : (limit : ℕ) (kept : List Kept) (content : Content) (held : HoldsKept limit kept content) → AreWellFormed (entries_of kept) → IsSound held.books content
sound_held limit kept content held formed = kept_is_sound limit held.books content held.keeps (subst AreWellFormed (entries_held limit kept content held) formed)

-- a register that keeps the tables of a list's history holds the list, where the list can be kept
holds : (limit : ℕ) (after : Books) (kept : List Kept) (content : Content) → Keeps limit after content → entries_of kept ≡ after.history → CanBeKept limit kept → HoldsKept limit kept content
holds limit after kept content keeps entries can =
    let listed : Content = record content { register = kept } in
    let tables : AreTables after listed = record {
      history = entries;
      are = keeps.tables.are;
      replies = record { each = λ n k at. subst (FirstIn n k.reply) entries (can.replies n k at) };
      standings = record { each = λ n. keeps.tables.standings.each n };
      positions = keeps.tables.positions;
      cash = keeps.tables.cash;
      sent = keeps.tables.sent;
    } in
    record { books = after; keeps = keeps; register = (one_content after after content listed keeps.tables tables (keeps.tables.history ∙ sym entries)).same_register }

some_entry : (a b : Entry) → Some a ≡ Some b → a ≡ b
some_entry a b e = cc

some_kept : (a b : Kept) → Some a ≡ Some b → a ≡ b
some_kept a b e = cc

none_some : (r : Reply) → None ≡ Some r → ⊥
none_some r e = cc

-- One entry more.
module _ (limit : ℕ) (books : Books) (before : List Kept) (kept : Kept) (are : AreBooks books) (entries : entries_of before ≡ books.history) where
  entries_more : entries_of (before ++ kept ∷ []) ≡ books.history ++ kept.entry ∷ []
  entries_more = entries-append before (kept ∷ []) ∙ ap (λ h. h ++ kept.entry ∷ []) entries

  length_books : length books.history ≡ length before
  length_books = ap length (sym entries) ∙ length-entries before

  -- its verdict, where all can be kept
  verdict_of : CanBeKept limit (before ++ kept ∷ []) → IsVerdict limit books kept.entry Accept
  verdict_of can =
      let was = subst (WasAccepted limit) entries_more can.accepted in
      let n = length books.history + 1 in
      was.each n kept.entry books (entry_at-end books.history kept.entry n refl) (sym (before-all books.history (kept.entry ∷ []) n refl)) are

  module _ (after : Books) (longer : after.history ≡ books.history ++ kept.entry ∷ []) (are_after : AreBooks after) where
    all_taken : take (length before + 1) after.history ≡ after.history
    all_taken =
        let size = ap length longer ∙ length-append books.history (kept.entry ∷ []) in
        let same = length_books in
        take_all (length before + 1) after.history (omega arith)

    last_entry : entry_at after.history (length before + 1) ≡ Some kept.entry
    last_entry = (let same = length_books in ap (λ h. entry_at h (length before + 1)) longer ∙ entry_at-end books.history kept.entry (length before + 1) (omega arith))

    -- its reply
    reply_of : CanBeKept limit (before ++ kept ∷ []) → kept.reply ≡ reply_to after kept.entry
    reply_of can =
        let first : IsFirstReply after.history (length before + 1) kept.reply =
        subst (FirstIn (length before) kept.reply) (entries_more ∙ sym longer) (can.replies (length before) kept (slice_get-end before kept)) in
        first.is after kept.entry (sym all_taken) are_after last_entry

    -- it is the first reply of the last entry
    first_of : kept.reply ≡ reply_to after kept.entry → IsFirstReply after.history (length before + 1) kept.reply
    first_of replied = record {
      is = λ others entry history are_others at.
          let same : others ≡ after = one_books others after are_others are_after (history ∙ all_taken) in
          let here : kept.entry ≡ entry = some_entry kept.entry entry (sym last_entry ∙ at) in
          replied ∙ ap (λ e. reply_to after e) here ∙ ap (λ (b : Books). reply_to b entry) (sym same);
    }

    -- all can be kept
    can_more : CanBeKept limit before → WasAccepted limit after.history → kept.reply ≡ reply_to after kept.entry → CanBeKept limit (before ++ kept ∷ [])
    can_more can accepted replied =
        let all : entries_of (before ++ kept ∷ []) ≡ after.history = entries_more ∙ sym longer in record {
          accepted = subst (WasAccepted limit) (sym all) accepted;
          replies = λ n k at. subst (FirstIn n k.reply) (sym all) (elim (cases_lt n (length before)) [
            | inl lt ↦
                let size = length-entries before in
                let early = can.replies n k (sym (slice_get-front before (kept ∷ []) n lt) ∙ at) in
                let more = first_longer (entries_of before) (kept.entry ∷ []) n k.reply (omega arith) early in
                subst (FirstIn n k.reply) (ap (λ h. h ++ kept.entry ∷ []) entries ∙ sym longer) more
            | inr ge ↦
                let within = slice_get-known (before ++ kept ∷ []) n k at in
                let size = length-append before (kept ∷ []) in
                let is : n ≡ length before = omega arith in
                let same : kept ≡ k = some_kept kept k (sym (slice_get-end before kept) ∙ ap (λ i. slice_get (before ++ kept ∷ []) i) (sym is) ∙ at) in
                let P : ℕ → Type 0 = λ i. IsFirstReply after.history (i + 1) k.reply in
                let Q : Kept → Type 0 = λ x. IsFirstReply after.history (length before + 1) x.reply in
                subst P (sym is) (subst Q same (first_of replied))
          ]);
        }

-- the step, from what is held so far
pub next : (limit : ℕ) (before : List Kept) (kept : Kept) (taken : Bool) (old new : Content) (held : HoldsKept limit before old) → IsCompared limit held.books kept taken old new
    → IsNext limit before kept taken new
next limit before kept taken old new held compared = at compared.reply compared.decided compared.compared
  where
    books : Books
    books = held.books

    are : AreBooks held.books
    are = held.keeps.tables.are

    entries : entries_of before ≡ held.books.history
    entries = entries_held limit before old held

    at : (reply : Option Reply) → IsDecided limit held.books kept.entry reply old new → IsTrue taken ↔ (reply ≡ Some kept.reply) → IsNext limit before kept taken new
    at None out c = record {
      exact = (λ yes. absurd (none_some kept.reply (c.0 yes)), λ can. absurd (out.verdict (verdict_of limit held.books before kept are entries can)));
      held = λ yes. absurd (none_some kept.reply (c.0 yes));
    }
    at (Some reply) put c =
        let are_after = put.keeps.tables.are in
        let same : IsTrue taken → kept.reply ≡ reply_to put.after kept.entry = λ yes. some_reply kept.reply reply (c.0 yes) ∙ put.replied in
        let can : IsTrue taken → CanBeKept limit (before ++ kept ∷ []) = λ yes.
        can_more limit held.books before kept are entries put.after put.longer are_after (can_held limit before old held) put.keeps.accepted (same yes) in record {
          exact = (can, λ able. c.1 (ap Some (put.replied ∙ sym (reply_of limit held.books before kept are entries put.after put.longer are_after able))));
          held = λ yes. holds limit put.after (before ++ kept ∷ []) new put.keeps (entries_more limit held.books before kept are entries ∙ sym put.longer) (can yes);
        }
      where
        some_reply : (a b : Reply) → Some b ≡ Some a → a ≡ b
        some_reply a b e = cc
