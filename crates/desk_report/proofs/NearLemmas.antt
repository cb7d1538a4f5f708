-- An instruction is near to one exactly if it has the key that is looked for.
use Rattle.std.proofs.Common.{◌≡◌, Bool, true, false, refl}
use Rattle.std.specs.Prelude.{◌&&◌, not}
use Rattle.std.specs.Ordering.{bool_cmp, is_eq, nat_cmp, ordering_then}
use Rattle.std.specs.declared.cmp.Ordering.{Ordering}
use Rattle.std.specs.declared.cmp.Ordering.TheVariants.{Less, Equal, Greater}
use Rattle.std.specs.Cmp.Lexicographic.{slice_cmp}
use Rattle.std.proofs.lemmas.Map.Text.{is_eq-slice_cmp}
use Rattle.desk_msg.specs.MessageType.{is_delivery}
use Rattle.desk_rules.specs.declared.history.entry.Instructed.{Instructed}
use Rattle.desk_report.specs.NearKeys.{key_of, near_cmp, near_key}
use Rattle.desk_report.specs.Unmatched.{differ, is_near}

four_tied : (p q r s : Ordering) → is_eq (ordering_then p (ordering_then q (ordering_then r s))) ≡ (is_eq p && is_eq q && is_eq r && is_eq s)
four_tied Less q r s = refl
four_tied Equal Less r s = refl
four_tied Equal Equal Less s = refl
four_tied Equal Equal Equal s = refl
four_tied Equal Equal Greater s = refl
four_tied Equal Greater r s = refl
four_tied Greater q r s = refl

other_side : (a b : Bool) → is_eq (bool_cmp a (not b)) ≡ differ a b
other_side true true = refl
other_side true false = refl
other_side false true = refl
other_side false false = refl

pub near_by_key : (one other : Instructed) → is_eq (near_cmp (key_of other) (near_key one)) ≡ is_near one other
near_by_key one other =
    let a = one.instruction in
    let b = other.instruction in
    rw (
      four_tied (slice_cmp nat_cmp b.isin a.isin) (slice_cmp nat_cmp other.sender a.counterparty) (slice_cmp nat_cmp b.counterparty one.sender) (bool_cmp (is_delivery b.mt) (not (is_delivery a.mt))),
      is_eq-slice_cmp b.isin a.isin,
      is_eq-slice_cmp other.sender a.counterparty,
      is_eq-slice_cmp b.counterparty one.sender,
      other_side (is_delivery b.mt) (is_delivery a.mt),
    ) refl
