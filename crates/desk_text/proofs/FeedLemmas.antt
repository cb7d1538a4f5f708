-- Line feeds among the lanes of a load.
use Rattle.std.proofs.Common.{◌≡◌, ◌≢◌, ℕ, ◌+◌, ◌%◌, ◌^◌, ◌≤◌, eqb, cond, Bool, false, not, List, length, map, get_or, replicate, w8, w64, ap, ◌∙◌, arith}
use Rattle.std.proofs.lemmas.Bool.{eqb-true}
use Rattle.std.proofs.lemmas.Bool.Decides.{nat_tests}
use Rattle.std.proofs.lemmas.Simd.{length-chunk, bitmask_splat, first_set_mask_l, run_in_chunk_le, run_in_chunk_fails, run_in_chunk_stops}
use Rattle.std.specs.Int.{trailing_zeros}
use Rattle.std.specs.List.{prefix_len}
use lib.Lanes.{chunk, zip2, mask_l, top}
use Rattle.desk_text.specs.Scanning.{IsFeedRun}

other : (c : ℕ) → eqb c 10 ≡ false → c ≢ 10
other c e = grind (arith, nat_tests)

-- what a load's mask says of its line feeds
pub feed_run : (text : List ℕ) (at n r : ℕ) → at + n ≤ length text → n ≤ 64
    → r ≡ (let mask = mask_l (map (top 7) (zip2 (λ a b. cond (eqb a b) 255 0) (chunk at n text) (replicate n 10))) % 2 ^ 64 in cond (eqb mask 0) n (trailing_zeros w64 mask))
    → IsFeedRun text at n r
feed_run text at n r room few e =
    let v = chunk at n text in
    let p : ℕ → Bool = λ x. eqb x 10 in
    let long : length v ≡ n = length-chunk at n text room in
    let counted : r ≡ prefix_len (λ x. not (p x)) v =
    e ∙ ap (λ m. cond (eqb m 0) n (trailing_zeros w64 m)) (bitmask_splat w8 eqb v n 10 long few) ∙ first_set_mask_l p v n long few in
    record {
      within = run_in_chunk_le p text at n r 0 room counted;
      none = λ k from to. other (get_or text k 0) (run_in_chunk_fails p text at n r 0 room counted k from to);
      stops = λ short. eqb-true (get_or text (at + r) 0) 10 (run_in_chunk_stops p text at n r 0 room counted short);
    }
