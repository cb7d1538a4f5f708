-- A short text in an array.
use Rattle.std.proofs.Common.{ℕ, ◌≤◌, List, ◌++◌, length, drop, replicate, arith, ap}
use Rattle.std.proofs.lemmas.Grind.{common_steps}
use Rattle.std.proofs.lemmas.List.{drop-replicate}
use Rattle.std.proofs.Math.Seq.{take-append_seam}
use Rattle.desk_codes.specs.ShortText.{IsPadded}

-- a text copied over the front of zeros is padded
pub stored : (n : ℕ) (text : List ℕ) → length text ≤ n → IsPadded n (text ++ drop (length text) (replicate n 0)) (length text)
stored n text h = record {
  fits = h;
  all = grind (arith, common_steps);
  zeros = rw take-append_seam (ap (λ z. text ++ z) (drop-replicate (length text) n 0));
}
