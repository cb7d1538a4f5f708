-- What was found to be a desk's, once it was looked at.
use Rattle.std.proofs.Common.{◌≡◌, inr, ℕ, sym, ap, subst, ◌∙◌, IsTrue, Result}
use Rattle.sqlite.specs.Effect.{Database}
use Rattle.sqlite.specs.Schema.{Schema}
use Rattle.sqlite.specs.State.{State, HasCleanDisk}
use Rattle.sqlite.specs.declared.error.Error.{Error}
use Rattle.desk_rules.specs.Content.{Content}
use Rattle.desk_register.specs.declared.register.Stage.TheVariants.{Idle}
use Rattle.sql_tables.specs.Order.{AreInOrder}
use Rattle.sql_register.specs.Content.{content_in}
use Rattle.sql_register.specs.Holds.{Becomes, IsDesk}
use Rattle.sql_register.specs.Kept.{IsOpenDesk}
use Rattle.sql_tables.specs.Ends.{IsLookIn, IsSame}
use Rattle.sql_tables.specs.Making.{KeepsCommitted}
use Rattle.desk_file.specs.Audited.{IsAudited}
use Rattle.desk_file.specs.Opened.{Finds, KeepAudited, StandsOpen}
use Rattle.desk_file.specs.Spared.{Spares}

pub order_now : (s : State) → StandsOpen s → AreInOrder s.now.schema s.now.trees
order_now s open' = subst (λ (d : Database). AreInOrder d.schema d.trees) (sym open'.opens.clean) open'.order

module _ (s0 s1 : State) (open' : StandsOpen s0) (same : IsSame s0 s1) (limit : ℕ) (content : Content) (audited : IsAudited s0.now limit content) where
  committed_is : s1.committed ≡ s0.now
  committed_is = same.committed ∙ sym open'.opens.clean

  settled : s1.now ≡ s1.committed
  settled = same.now ∙ sym committed_is

  pub keeps : KeepAudited s1 limit content
  keeps = record {
    is_open = same.is_open;
    settled = settled;
    closed = same.mode ∙ open'.opens.autocommit;
    audited = subst (λ (d : Database). IsAudited d limit content) (sym same.now) audited;
  }

  pub finds : Finds s0.committed s1.committed content
  finds = inr (same.committed, subst (λ (d : Database). Becomes d content) open'.opens.clean audited.becomes)

  pub open_desk : IsOpenDesk s1 Idle
  open_desk = record {
    committed = subst IsDesk (sym committed_is) audited.becomes.desk;
    schema = ap (λ (d : Database). d.schema) same.now ∙ audited.becomes.desk.schema;
    now = λ goes. subst IsDesk (sym same.now) audited.becomes.desk;
    idle = λ is. settled;
    closed = λ is. same.mode ∙ open'.opens.autocommit;
    begun = λ is. absurd (cc);
    unmarked = λ is. absurd (cc);
    outside = λ out. same.marks ∙ open'.opens.unmarked;
  }

  pub same_content : content ≡ content_in s1.now
  same_content = sym (ap content_in same.now ∙ audited.becomes.content_is)

-- ---- what an audit leaves

pub audit_spares : {schema : Schema} {X : Type 0} (r : Result X Error) (a b : State) → IsLookIn schema r a b → (HasCleanDisk b → IsTrue a.is_open → KeepsCommitted a b) → Spares a b
audit_spares r a b look kept = record { later = look.later; opened = look.opened; kept = λ clean now. kept clean (look.opened clean now) now }
