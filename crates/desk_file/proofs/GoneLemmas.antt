-- What a call says of the tables and of a register, said of them as they stood before calls that changed neither.
use Rattle.std.proofs.Common.{◌≡◌, ℕ, sym, ap, subst, ◌∙◌, arith}
use Rattle.sqlite.specs.Effect.{Database}
use Rattle.sqlite.specs.State.{State, HasCleanDisk}
use Rattle.desk_rules.specs.Content.{Content}
use Rattle.desk_register.specs.View.{HasRead, IfTrusted, IsLater, View}
use Rattle.desk_engine.specs.KeptHistory.{HoldsKept}
use Rattle.sql_tables.specs.Ends.{HasLooked, IfSound, IsSame}
use Rattle.sql_tables.specs.Ends.{IsLater as IsLaterState}
use Rattle.sql_tables.specs.Schema.{desk_schema}
use Rattle.sql_tables.specs.Forms.{AreAllFormed}
use Rattle.sql_tables.specs.Order.{AreInOrder}

-- rows that stand in order and have the form of their tables, beside an accepted history
pub record IsAccepted (db : Database) (limit : ℕ) (content : Content) : Type 0 where
  pub order : AreInOrder desk_schema db.trees
  pub formed : AreAllFormed db.trees
  pub held : HoldsKept limit content.register content

pub again : (d0 d1 : Database) (r0 r1 : ℕ) (c0 c1 : Content) → d1 ≡ d0 → r1 ≡ r0 → c1 ≡ c0 → IsAccepted d0 r0 c0 → IsAccepted d1 r1 c1
again d0 d1 r0 r1 c0 c1 d r c it = record {
  order = subst (λ (x : Database). AreInOrder desk_schema x.trees) (sym d) it.order;
  formed = subst (λ (x : Database). AreAllFormed x.trees) (sym d) it.formed;
  held = subst (λ (x : Content). HoldsKept r1 x.register x) (sym c) (subst (λ r. HoldsKept r c0.register c0) (sym r) it.held);
}

module _ (s0 s1 s2 : State) (v0 v1 v2 : View) (P : Database → Content → Type 0) where
  pub moved : HasLooked s0 s1 → HasRead v0 v1 → IsLaterState s1 s2 → IsLater v1 v2 → IfSound s1 s2 (IfTrusted v1 v2 (IsAccepted s1.now v1.room v1.content → P s1.now v1.content))
      → IfSound s0 s2 (IfTrusted v0 v2 (IsAccepted s0.now v0.room v0.content → P s0.now v0.content))
  moved looked read later consulted says = λ clean is_open has honest sure it.
      let clean1 : HasCleanDisk s1 = (let less = later.clean in omega (arith, clean, less)) in
      let same : IsSame s0 s1 = looked.ok clean1 is_open has in
      let has1 : s1.now.schema ≡ desk_schema = ap (λ (d : Database). d.schema) same.now ∙ has in
      let honest1 = consulted.honest honest in
      let content : v1.content ≡ v0.content = read.same honest1 sure in
      let there = says clean same.is_open has1 honest (read.ok.sure honest1 sure) (again s0.now s1.now v0.room v1.room v0.content v1.content same.now read.later.room content it) in
      subst (P s0.now) content (subst (λ (d : Database). P d v1.content) same.now there)
