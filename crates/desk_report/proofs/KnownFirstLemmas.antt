-- What is known before the rows are written: how many entries there are, and the numbers of the keys.
use Rattle.std.proofs.Common.{◌≡◌, ◌≢◌, ℕ, length, subst}
use Rattle.std.specs.Prelude.{Ok}
use Rattle.std.specs.BTreeMap.{BTreeMap}
use Rattle.desk_register.specs.declared.register.Stage.TheVariants.{Failed, Idle}
use Rattle.desk_register.specs.View.{HasRead, View, IsRead}
use Rattle.desk_register.proofs.ViewLemmas.{idle_goes}
use Rattle.desk_register.proofs.ReadLemmas.{kept_so, read_one}
use Rattle.desk_register.proofs.ReadingLemmas.{read_on}
use Rattle.desk_report.specs.declared.unmatched.near.NearKey.{NearKey}
use Rattle.desk_report.specs.FirstNumbers.{AreFirst}

pub entries_still : (count : ℕ) (v0 v1 v2 : View) → v0.stage ≡ Idle → IsRead {X = ℕ} (Ok count) v0 v1 → (v1.is_honest → v0.is_sure → v0.stage ≢ Failed → count ≡ length v0.content.register) → IsRead {X = Unit {0}} (Ok tt) v1 v2
    → v2.is_honest → v2.is_sure → count ≡ length v2.content.register
entries_still count v0 v1 v2 idle first counted second honest sure =
    let both = read_on v0 v1 (read_one count v0 v1 first) tt v2 second in
    let sure0 = both.later.sure honest sure in
    kept_so v0 v2 both (λ content. count ≡ length content.register) honest sure0 (counted (second.later.honest honest) sure0 (idle_goes v0.stage idle))

pub first_still : (count : ℕ) (numbers : BTreeMap NearKey ℕ) (v1 v2 : View) → IsRead {X = Unit {0}} (Ok tt) v1 v2 → (v2.is_honest → v1.is_sure → AreFirst numbers v1.content count)
    → v2.is_honest → v2.is_sure → AreFirst numbers v2.content count
first_still count numbers v1 v2 read first honest sure =
    let sure1 = read.later.sure honest sure in
    kept_so v1 v2 read (λ content. AreFirst numbers content count) honest sure1 (first honest sure1)

pub first_held : (count : ℕ) (numbers : BTreeMap NearKey ℕ) (v0 v : View) → HasRead v0 v → (v0.is_honest → v0.is_sure → count ≡ length v0.content.register) → (v0.is_honest → v0.is_sure → AreFirst numbers v0.content count)
    → v.is_honest → v.is_sure → AreFirst numbers v.content (length v.content.register)
first_held count numbers v0 v read entries first honest sure =
    let honest0 = read.later.honest honest in
    let sure0 = read.later.sure honest sure in
    kept_so v0 v read (λ content. AreFirst numbers content (length content.register)) honest sure0 (subst (λ n. AreFirst numbers v0.content n) (entries honest0 sure0) (first honest0 sure0))
