-- A text that is added to what waits, piece by piece.
use Rattle.std.proofs.Common.{◌≡◌, ℕ, List, [], ◌++◌, refl, sym, ap, ◌∙◌, subst, append_assoc, append-nil}
use Rattle.std.specs.Prelude.{Option, Some, None, drop, take}
use Rattle.std.specs.Io.KnownBytes.{Appends, append_known}
use Rattle.std.proofs.KnownBytes.{Appends-nil, Appends-trans}
use Rattle.std.proofs.lemmas.List.{take-append-drop}

-- of a text this is left; what was added before it waits, or was written
pub record IsAddedTo (from : Option (List ℕ)) (waited : List ℕ) (to : Option (List ℕ)) (waits text rest : List ℕ) : Type 0 where
  pub added : List ℕ
  pub split : text ≡ added ++ rest
  pub holds : Appends (append_known from waited) (append_known to waits) added

pub none_added : (known : Option (List ℕ)) (waits text : List ℕ) → IsAddedTo known waits known waits text text
none_added known waits text = record { added = []; split = refl; holds = Appends-nil (append_known known waits) }

-- what waits, and more, was written
handed_on : (old new : Option (List ℕ)) (waits more : List ℕ) → Appends old new (waits ++ more) → Appends (append_known old waits) (append_known new []) more
handed_on None new waits more h = tt
handed_on (Some x) None waits more h = absurd h
handed_on (Some x) (Some y) waits more h = append-nil y ∙ h ∙ sym (append_assoc x waits more)

-- more waits
waits_too : (known : Option (List ℕ)) (waits more : List ℕ) → Appends (append_known known waits) (append_known known (waits ++ more)) more
waits_too None waits more = tt
waits_too (Some x) waits more = sym (append_assoc x waits more)

pub piece_added : (from : Option (List ℕ)) (waited : List ℕ) (old new : Option (List ℕ)) (waits text rest filled : List ℕ) (left : ℕ) → IsAddedTo from waited old waits text rest → filled ≡ waits ++ take left rest → Appends old new filled
    → IsAddedTo from waited new [] text (drop left rest)
piece_added from waited old new waits text rest filled left so_far is written =
    let P : List ℕ → Type 0 = λ bytes. Appends old new bytes in
    record {
      added = so_far.added ++ take left rest;
      split = so_far.split ∙ ap (λ z. so_far.added ++ z) (sym (take-append-drop left rest)) ∙ sym (append_assoc so_far.added (take left rest) (drop left rest));
      holds = Appends-trans (append_known from waited) (append_known old waits) (append_known new []) so_far.added (take left rest) so_far.holds (handed_on old new waits (take left rest) (subst P is written));
    }

pub rest_added : (from : Option (List ℕ)) (waited : List ℕ) (known : Option (List ℕ)) (waits text rest filled : List ℕ) → IsAddedTo from waited known waits text rest → filled ≡ waits ++ rest
    → Appends (append_known from waited) (append_known known filled) text
rest_added from waited known waits text rest filled so_far is =
    let P : List ℕ → Type 0 = λ bytes. Appends (append_known from waited) (append_known known bytes) text in
    let Q : List ℕ → Type 0 = λ bytes. Appends (append_known from waited) (append_known known (waits ++ rest)) bytes in
    subst P (sym is) (subst Q (sym so_far.split) (Appends-trans (append_known from waited) (append_known known waits) (append_known known (waits ++ rest)) so_far.added rest so_far.holds (waits_too known waits rest)))

-- nothing waits, and then what waits is written too
pub all_written : (from old new : Option (List ℕ)) (waits text : List ℕ) → Appends (append_known from []) (append_known old waits) text → Appends old new waits → Appends from new text
all_written None old new waits text added written = tt
all_written (Some x) None new waits text added written = absurd added
all_written (Some x) (Some y) None waits text added written = absurd written
all_written (Some x) (Some y) (Some z) waits text added written = written ∙ added ∙ ap (λ bytes. bytes ++ text) (append-nil x)
