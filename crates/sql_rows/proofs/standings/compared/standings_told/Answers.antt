use Rattle.std.proofs.Common.{◌≡◌, ◌≢◌, ℕ, ◌+◌, ◌<◌, ◌∙◌, Bool, IfOk, Result, Ok, Err, ap, subst, sym, refl, take, length, arith}
use Rattle.std.specs.Result.{IsErrAnd}
use Rattle.std.proofs.lemmas.Bool.{eqb-true, eq-eqb, ltb-true}
use Rattle.desk_rules.specs.Content.{Content}
use Rattle.desk_rules.specs.declared.history.standing.Standing.{Standing}
use Rattle.desk_register.specs.declared.register.Fault.{Fault}
use Rattle.desk_register.specs.View.{View, HasRead, IsRead}
use Rattle.desk_register.specs.declared.register.Stage.TheVariants.{Idle, Failed}
use Rattle.desk_register.proofs.ViewLemmas.{idle_goes}
use Rattle.desk_register.proofs.ReadLemmas.{read_err, read_more, read_none, read_ok, read_then}
use Rattle.sql_rows.specs.StandingsTold.{as_said, AreTold, IsTold}
use Rattle.sql_tables.specs.declared.versions.Version.{Version}
use Rattle.sql_rows.proofs.StandingRows.{told_all, told_none, told_row, next_row, none_left}
use Rattle.sql_rows.proofs.standings.compared.standings_told.Goals.{in-NoInstruction, in_default+in-Some+else-not-is_row}
use Rattle.sql_rows.proofs.standings.compared.standings_told.Goals as goal

-- what the register said of a number is what it said at first
asked : (v0 v1 : View) (n : ℕ) (s : Standing) → HasRead v0 v1 → v0.stage ≡ Idle → v1.is_honest → v0.is_sure → (v1.is_sure → v1.stage ≢ Failed → s ≡ v1.content.standing n) → s ≡ v0.content.standing n
asked v0 v1 n s read idle honest sure value = value (read.ok.sure honest sure) (idle_goes v1.stage (read.ok.stage ∙ idle)) ∙ ap (λ (x : Content). x.standing n) (read.same honest sure)

-- what a version of the file tells of each number
abbrev said_of : Version → Content → ℕ → Standing
said_of version content n = as_said version (content.standing n)

-- where the register gave no answer
no_answer : (fault : Fault) (r : Result Bool Fault) → IsErrAnd r (λ e. e ≡ fault) → (P : Bool → Type 0) → IfOk r P
no_answer fault (Ok x) is P = absurd is
no_answer fault (Err e) is P = tt

not_read : {X : Type 0} (fault : Fault) (r : Result Bool Fault) → IsErrAnd r (λ e. e ≡ fault) → (v0 v1 v2 : View) → HasRead v0 v1 → IsRead {X = X} (Err fault) v1 v2 → IsRead r v0 v2
not_read {X} fault (Ok x) is v0 v1 v2 read failed = absurd is
not_read {X} fault (Err e) is v0 v1 v2 read failed = subst (λ f. IsRead {X = Bool} (Err f) v0 v2) (sym is) (read_err {X = X} {Y = Bool} fault v0 v2 (read_then v0 v1 v2 read {X = X} (Err fault) failed))

pub loop-before-preserved : goal.loop-before-preserved
loop-before-preserved g c =
    let i = c.loop-before.invariant in
    let r = c.in_ok-standing.ensures in
    let v0 = g.R.Register.view c.args.register.now in
    let v1 = g.R.Register.view c.loop-before.register in
    let v2 = g.R.Register.view c.standing.new.self in
    let standing = said_of c.args.version v0.content in
    record {
      read = read_more c.in_ok-standing.standing v0 v1 v2 i.read r.read;
      within = elim c.match-standing.branch [
        | in-NoInstruction w ↦ (let at = w.at-is in let in_rows = i.within in omega arith)
        | in_default+in-Some+else-not-is_row w ↦ (let at = w.at-is in let low = ltb-true c.loop-before.at (length c.args.rows.now) (sym w.in-Some.ensures.lookup.0) in omega arith)
      ];
      told = λ honest sure.
          let honest1 = r.read.later.honest honest in
          let was = asked v0 v1 (c.loop-before.before + 1) c.in_ok-standing.standing i.read c.requires.stage honest1 sure (r.value honest) in
          let is : c.said_by-standing.result ≡ standing (c.loop-before.before + 1) = c.said_by-standing.ensures ∙ ap (as_said c.args.version) was in
          let so = i.told honest1 sure in
          elim c.match-standing.branch [
            | in-NoInstruction w ↦ (subst (λ n. AreTold standing (c.loop-before.before + 1) (take n c.args.rows.now)) (sym w.at-is) (told_none standing c.loop-before.before c.loop-before.at c.args.rows.now so c.said_by-standing.result is (c.if-not-is_told.ensures.0 refl) w.in-NoInstruction.is))
            | in_default+in-Some+else-not-is_row w ↦ (let low = ltb-true c.loop-before.at (length c.args.rows.now) (sym w.in-Some.ensures.lookup.0) in
                let row = w.if-not-is_row.ensures.0 refl in
                subst (λ n. AreTold standing (c.loop-before.before + 1) (take n c.args.rows.now)) (sym w.at-is)
                (told_row standing c.loop-before.before c.loop-before.at c.args.rows.now so c.said_by-standing.result is (c.if-not-is_told.ensures.0 refl) w.in-Some.row.now w.in_default.not-NoInstruction low (sym w.in-Some.ensures.lookup.1 ∙ row)))
          ];
    }

pub returns-then-not-is_row-clause-told : goal.returns-then-not-is_row-clause-told
returns-then-not-is_row-clause-told g c = λ honest sure.
    let i = c.loop-before.invariant in
    let r = c.in_ok-standing.ensures in
    let v0 = g.R.Register.view c.args.register.now in
    let honest1 = r.read.later.honest honest in
    let standing = c.said_by-standing.result in
    let is = c.said_by-standing.ensures ∙ ap (as_said c.args.version) (asked v0 (g.R.Register.view c.loop-before.register) (c.loop-before.before + 1) c.in_ok-standing.standing i.read c.requires.stage honest1 sure (r.value honest)) in (
      λ none. absurd (cc),
      λ all. (let next = next_row (said_of c.args.version v0.content) c.args.count c.args.rows.now all c.loop-before.before c.loop-before.at (omega arith) (i.told honest1 sure) i.within standing is c.in_default.not-NoInstruction in
          c.if-not-is_row.ensures.1 (c.in-Some.ensures.lookup.1 ∙ next.1 c.in-Some.row.now)),
    )

pub returns-in-None-clause-told : goal.returns-in-None-clause-told
returns-in-None-clause-told g c = λ honest sure.
    let i = c.loop-before.invariant in
    let r = c.in_ok-standing.ensures in
    let v0 = g.R.Register.view c.args.register.now in
    let honest1 = r.read.later.honest honest in
    let standing = c.said_by-standing.result in
    let is = c.said_by-standing.ensures ∙ ap (as_said c.args.version) (asked v0 (g.R.Register.view c.loop-before.register) (c.loop-before.before + 1) c.in_ok-standing.standing i.read c.requires.stage honest1 sure (r.value honest)) in (
      λ none. absurd (cc),
      λ all. (let next = next_row (said_of c.args.version v0.content) c.args.count c.args.rows.now all c.loop-before.before c.loop-before.at (omega arith) (i.told honest1 sure) i.within standing is c.in_default.not-NoInstruction in
          absurd (omega (arith, next.0, c.in-None.ensures.lookup.3))),
    )

pub returns-clause-told : goal.returns-clause-told
returns-clause-told g c = λ honest sure.
    let i = c.loop-before.invariant in
    let standing = said_of c.args.version (g.R.Register.view c.args.register.now).content in
    let at = c.loop-before.at in
    let rows = c.args.rows.now in
    let last : c.loop-before.before ≡ c.args.count = omega arith in (
      λ all. told_all standing c.loop-before.before c.args.count at rows (i.told honest sure) last (eqb-true at (length rows) all),
      λ all. eq-eqb at (length rows) (none_left standing c.args.count rows all at (subst (λ k. AreTold standing k (take at rows)) last (i.told honest sure)) i.within),
    )

pub loop-before-init : goal.loop-before-init
loop-before-init g c = record {
  read = read_none (g.R.Register.view c.args.register.now);
  within = omega arith;
  told = λ honest sure. record { shown = refl; each = λ k low. absurd (omega (arith, low)) };
}

pub returns-in_err-standing-clause-told : goal.returns-in_err-standing-clause-told
returns-in_err-standing-clause-told g c = λ honest sure. no_answer c.in_err-standing.field-0.0 c.from_residual.result c.from_residual.ensures.1 _

pub returns-in_err-standing-clause-read : goal.returns-in_err-standing-clause-read
returns-in_err-standing-clause-read g c = not_read c.in_err-standing.field-0.0 c.from_residual.result c.from_residual.ensures.1 (g.R.Register.view c.args.register.now) (g.R.Register.view c.loop-before.register) (g.R.Register.view c.standing.new.self) c.loop-before.invariant.read c.in_err-standing.ensures.read

pub returns-in_err-standing-clause-in_memory : goal.returns-in_err-standing-clause-in_memory
returns-in_err-standing-clause-in_memory g c = λ memory. absurd (let e = c.in_err-standing.ensures.in_memory memory in cc)

pub returns-then-not-is_told-clause-told : goal.returns-then-not-is_told-clause-told
returns-then-not-is_told-clause-told g c = λ honest sure.
    let i = c.loop-before.invariant in
    let r = c.in_ok-standing.ensures in
    let v0 = g.R.Register.view c.args.register.now in
    let honest1 = r.read.later.honest honest in
    let standing = c.said_by-standing.result in
    let is = c.said_by-standing.ensures ∙ ap (as_said c.args.version) (asked v0 (g.R.Register.view c.loop-before.register) (c.loop-before.before + 1) c.in_ok-standing.standing i.read c.requires.stage honest1 sure (r.value honest)) in
    let low : c.loop-before.before < c.args.count = omega arith in (
      λ none. absurd (cc),
      λ all. c.if-not-is_told.ensures.1 (subst (IsTold (c.loop-before.before + 1)) (sym is) (all.each c.loop-before.before low)),
    )

pub returns-then-not-is_told-clause-read : goal.returns-then-not-is_told-clause-read
returns-then-not-is_told-clause-read g c = read_ok _ _ (g.R.Register.view c.args.register.now) (g.R.Register.view c.standing.new.self) (read_more c.in_ok-standing.standing (g.R.Register.view c.args.register.now) (g.R.Register.view c.loop-before.register) (g.R.Register.view c.standing.new.self) c.loop-before.invariant.read c.in_ok-standing.ensures.read)

pub returns-then-not-is_row-clause-read : goal.returns-then-not-is_row-clause-read
returns-then-not-is_row-clause-read g c = read_ok _ _ (g.R.Register.view c.args.register.now) (g.R.Register.view c.standing.new.self) (read_more c.in_ok-standing.standing (g.R.Register.view c.args.register.now) (g.R.Register.view c.loop-before.register) (g.R.Register.view c.standing.new.self) c.loop-before.invariant.read c.in_ok-standing.ensures.read)

pub returns-in-None-clause-read : goal.returns-in-None-clause-read
returns-in-None-clause-read g c = read_ok _ _ (g.R.Register.view c.args.register.now) (g.R.Register.view c.standing.new.self) (read_more c.in_ok-standing.standing (g.R.Register.view c.args.register.now) (g.R.Register.view c.loop-before.register) (g.R.Register.view c.standing.new.self) c.loop-before.invariant.read c.in_ok-standing.ensures.read)

pub returns-clause-read : goal.returns-clause-read
returns-clause-read g c = read_ok _ _ (g.R.Register.view c.args.register.now) (g.R.Register.view c.loop-before.register) c.loop-before.invariant.read
