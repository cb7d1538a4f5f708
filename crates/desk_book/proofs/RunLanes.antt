-- Runs of bytes, by the lanes of a load.
use Rattle.std.proofs.Common.{◌≡◌, ℕ, ◌+◌, ◌%◌, ◌^◌, ◌≤◌, eqb, cond, Bool, true, false, ⊎_elim, ◌<◌, List, length, map, get_or, replicate, Fits, w8, w64, ap, sym, ◌∙◌, arith}
use Rattle.std.proofs.lemmas.Bool.{agree_below, agree_below_at, cases_lt}
use Rattle.std.proofs.lemmas.Simd.{map-map, mask_l-mod, length-chunk, bitmask_splat, first_set_mask_l, run_in_chunk_le, run_in_chunk_fails, run_in_chunk_stops, zip2_of_maps}
use Rattle.std.proofs.lemmas.List.{length-map}
use Rattle.std.specs.Int.{trailing_zeros}
use lib.Lanes.{chunk, zip2, mask_l, top}
use Rattle.desk_book.specs.Runs.{IsRun}

-- the lowest bit of a mask, or the number of lanes
abbrev lowest : ℕ → ℕ → ℕ
lowest n mask = cond (eqb mask 0) n (trailing_zeros w64 mask)

-- a load that is compared with one byte
pub byte_run : (text : List ℕ) (at n b r : ℕ) → at + n ≤ length text → n ≤ 64
    → r ≡ lowest n (mask_l (map (top 7) (zip2 (λ a c. cond (eqb a c) 255 0) (chunk at n text) (replicate n b))) % 2 ^ 64)
    → IsRun (λ c. eqb c b) text at n r
byte_run text at n b r room few e =
    let v = chunk at n text in
    let p : ℕ → Bool = λ x. eqb x b in
    let long : length v ≡ n = length-chunk at n text room in
    let counted = e ∙ ap (lowest n) (bitmask_splat w8 eqb v n b long few) ∙ first_set_mask_l p v n long few in
    record {
      within = run_in_chunk_le p text at n r 0 room counted;
      none = run_in_chunk_fails p text at n r 0 room counted;
      stops = run_in_chunk_stops p text at n r 0 room counted;
    }

-- a load of which each lane was computed
pub lanes_run : (test : ℕ → Bool) (text : List ℕ) (at n r : ℕ) → at + n ≤ length text → n ≤ 64 → ((k : ℕ) → Fits w8 (get_or text k 0))
    → (f : ℕ → ℕ) (z : List ℕ) → z ≡ map f (chunk at n text) → agree_below (λ x. top 7 (f x)) test 256 ≡ true
    → r ≡ lowest n (mask_l (map (top 7) z) % 2 ^ 64) → IsRun test text at n r
lanes_run test text at n r room few fits f z lanes same e =
    let v = chunk at n text in
    let p : ℕ → Bool = λ x. top 7 (f x) in
    let long : length v ≡ n = length-chunk at n text room in
    let mask = ap (λ l. mask_l l % 2 ^ 64) (ap (map (top 7)) lanes ∙ map-map (top 7) f v) ∙ mask_l-mod (map p v) 64 (omega (arith, length-map v p, long)) in
    let counted = e ∙ ap (lowest n) mask ∙ first_set_mask_l p v n long few in
    let agree : (k : ℕ) → p (get_or text k 0) ≡ test (get_or text k 0) = λ k. agree_below_at p test 256 (get_or text k 0) same (fits k).fits in
    record {
      within = run_in_chunk_le p text at n r 0 room counted;
      none = λ k from to. sym (agree k) ∙ run_in_chunk_fails p text at n r 0 room counted k from to;
      stops = λ short. sym (agree (at + r)) ∙ run_in_chunk_stops p text at n r 0 room counted short;
    }

-- no byte before the first that passes does, where none before the load does
pub none_before : (test : ℕ → Bool) (text : List ℕ) (at n run : ℕ) → IsRun test text at n run → ((k : ℕ) → k < at → test (get_or text k 0) ≡ false)
    → (k : ℕ) → k < at + run → test (get_or text k 0) ≡ false
none_before test text at n run among before k lt = ⊎_elim (λ below. before k below) (λ from. among.none k from lt) (cases_lt k at)

-- an operation on two vectors that were computed lane by lane
pub joined : (h : ℕ → ℕ → ℕ) (f g : ℕ → ℕ) (v : List ℕ) {a b : List ℕ} → a ≡ map f v → b ≡ map g v → zip2 h a b ≡ map (λ x. h (f x) (g x)) v
joined h f g v p q = zip2_of_maps h f g v p q
