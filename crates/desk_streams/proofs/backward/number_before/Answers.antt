-- A number below 2 ^ 64 has 20 digits at most.
use Rattle.std.proofs.Common.{ℕ, ◌≤◌, ◌<◌, ◌^◌, decimal, length, arith}
use Rattle.std.proofs.lemmas.Fmt.{length-decimal-le}
use Rattle.desk_streams.proofs.backward.number_before.Goals as goal

few : (n : ℕ) → n < 2 ^ 64 → length (decimal n) ≤ 20
few n fits = length-decimal-le 20 n (omega arith) (omega arith) fits

pub write_digits-start-requires : goal.write_digits-start-requires
write_digits-start-requires c = let digits = few c.args.number c.ranges.number.fits in (omega arith, omega arith)

pub text_before-requires : goal.text_before-requires
text_before-requires c = let digits = few c.args.number c.ranges.number.fits in (omega arith, omega arith)

pub returns-clause-short : goal.returns-clause-short
returns-clause-short c = let digits = few c.args.number c.ranges.number.fits in omega arith
