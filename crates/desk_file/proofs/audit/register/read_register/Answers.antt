use Rattle.std.proofs.Common.{◌≡◌, ◌↔◌, length, ◌≤◌, ◌+◌, ◌∙◌, ap, subst, sym, arith}
use Rattle.std.specs.List.{AllByRecursion}
use Rattle.sqlite.specs.Effect.{Database}
use Rattle.sqlite.specs.State.{HasCleanDisk}
use Rattle.sql_tables.specs.Ends.{IsSame}
use Rattle.sql_tables.specs.Schema.{register_table}
use Rattle.sql_tables.specs.Versions.{register_tree, schema_in}
use Rattle.sql_tables.specs.Forms.{HasForm}
use Rattle.sql_tables.proofs.LookLemmas.{look_more, look_none}
use Rattle.sql_rows.proofs.AmountWalkLemmas.{cause_failed}
use Rattle.desk_file.specs.declared.audit.register.Step.{Step}
use Rattle.sql_tables.specs.declared.compared.TheConstants.{MOST}
use Rattle.sql_tables.specs.ByNumber.{HasNoOther}
use Rattle.desk_file.specs.declared.audit.register.Reading.{Reading}
use Rattle.desk_file.specs.declared.audit.register.Reading.TheVariants.{Whole}
use Rattle.desk_file.specs.Reading.{HoldsFormed, HoldsRows, TakesRow}
use Rattle.desk_file.proofs.ReadingLemmas.{again, formed_again, is_read, more_held, none_formed, none_held}
use Rattle.desk_rules.specs.Content.{Content}
use Rattle.desk_file.proofs.FrontLemmas.{holds_first, holds_last, no_other, not_another, nothing_more, stepped, taken_on}
use Rattle.desk_file.proofs.HandedLemmas.{blame_fell, blame_none, blame_told, cause_told_then, done_none, later_more, later_none, look_fell, look_told_then, no_answer, not_done}
use Rattle.desk_file.proofs.RegisterTables.{register_formed}
use Rattle.desk_file.proofs.TakingLemmas.{done_then}
use Rattle.desk_file.proofs.audit.register.read_register.Goals as goal

pub loop-before-preserved : goal.loop-before-preserved
loop-before-preserved g c =
    let s0 = g.S.Session.state c.args.conn.now in
    let s1 = g.S.Session.state c.loop-before.conn in
    let s2 = g.S.Session.state c.read_entry.new.conn in
    let v0 = g.R.Register.view c.args.register.now in
    let v1 = g.R.Register.view c.loop-before.register in
    let v2 = g.R.Register.view c.read_entry.new.register in
    let i = c.loop-before.invariant in
    let e = c.in_ok-read_entry.ensures in
    record {
      look = look_more tt s0 s1 s2 i.look e.look;
      done = done_then v0 v1 v2 i.done e.later e.done;
      later = record {
        honest = λ honest. i.later.honest (e.later.honest honest);
        sure = λ honest sure. i.later.sure (e.later.honest honest) (e.later.sure honest sure);
        room = e.later.room ∙ i.later.room;
        device_honest = λ honest. i.later.device_honest (e.later.device_honest honest);
        failures = (let a = i.later.failures in let b = e.later.failures in omega arith);
      };
      holds = λ honest sure. formed_again v1.room v0.room v2.content i.later.room (e.holds honest (i.done.sure (e.later.honest honest) sure) c.in-Taken.is);
      rows = λ clean is_open has honest sure formed.
          let clean1 : HasCleanDisk s1 = (let less = e.look.later.clean in omega arith) in
          let same : IsSame s0 s1 = i.look.ok clean1 is_open has in
          let has1 : s1.now.schema ≡ schema_in c.args.version = ap (λ (d : Database). d.schema) same.now ∙ has in
          let honest1 = e.later.honest honest in
          let formed1 = subst (λ (d : Database). AllByRecursion (HasForm register_table) (d.trees (register_tree c.args.version))) (sym same.now) formed in
          let so_far = i.rows clean1 is_open has honest1 sure formed in
          let takes = e.takes clean same.is_open has1 honest (i.done.sure honest1 sure) formed1 (again v0.room v1.room v1.content (sym i.later.room) so_far.held) c.in-Taken.is in
          more_held c.args.version (s0.now.trees (register_tree c.args.version)) c.loop-before.before v0.room v1.room v1.content v2.content so_far
          (subst (λ (d : Database). TakesRow c.args.version (d.trees (register_tree c.args.version)) (c.loop-before.before + 1) v1.room v1.content v2.content) same.now takes) i.later.room;
      fronts = λ clean is_open has honest sure content read.
          let clean1 : HasCleanDisk s1 = (let less = e.look.later.clean in omega arith) in
          let same : IsSame s0 s1 = i.look.ok clean1 is_open has in
          let has1 : s1.now.schema ≡ schema_in c.args.version = ap (λ (d : Database). d.schema) same.now ∙ has in
          let honest1 = e.later.honest honest in
          taken_on c.args.version s0.now content c.loop-before.before v1.content.register c.in_ok-read_entry.field-0 v2.content.register
          (stepped c.args.version s0.now s1.now v0.room v1.room content c.loop-before.before v1.content v2.content c.in_ok-read_entry.field-0 same.now i.later.room read (i.fronts clean1 is_open has honest1 sure content read)
          (e.exact clean same.is_open has1 honest (i.done.sure honest1 sure)) (e.nothing clean same.is_open has1)) c.in-Taken.is;
    }

pub returns-in-Nothing-clause-entries : goal.returns-in-Nothing-clause-entries
returns-in-Nothing-clause-entries g c = λ clean is_open has honest sure order formed whole.
    let s0 = g.S.Session.state c.args.conn.now in
    let s1 = g.S.Session.state c.loop-before.conn in
    let s2 = g.S.Session.state c.read_entry.new.conn in
    let v0 = g.R.Register.view c.args.register.now in
    let v1 = g.R.Register.view c.loop-before.register in
    let v2 = g.R.Register.view c.read_entry.new.register in
    let count = c.loop-before.before in
    let i = c.loop-before.invariant in
    let e = c.in_ok-read_entry.ensures in
    let n = c.in_ok-end-in-Nothing.ensures in
    let end = c.in_ok-end-in-Nothing.end in
    let clean2 : HasCleanDisk s2 = (let less = (n.look c.args.version).later.clean in omega (arith, less, clean)) in
    let clean1 : HasCleanDisk s1 = (let less = e.look.later.clean in omega (arith, less, clean2)) in
    let one : IsSame s0 s1 = i.look.ok clean1 is_open has in
    let has1 : s1.now.schema ≡ schema_in c.args.version = ap (λ (d : Database). d.schema) one.now ∙ has in
    let two : IsSame s1 s2 = e.look.ok clean2 one.is_open has1 in
    let has2 : s2.now.schema ≡ schema_in c.args.version = ap (λ (d : Database). d.schema) two.now ∙ has1 in
    let honest1 = e.later.honest honest in
    let same : v2.content ≡ v1.content = e.same honest (i.done.sure honest1 sure) c.in-Nothing.is in
    let none = subst (λ (d : Database). end ≡ Whole → HasNoOther (d.trees (register_tree c.args.version)) count) (two.now ∙ one.now) (n.none c.args.version clean two.is_open has2).0 in
    let rows = subst (HoldsRows c.args.version (s0.now.trees (register_tree c.args.version)) count v0.room) (sym same) (i.rows clean1 is_open has honest1 sure (register_formed c.args.version s0.now.trees formed)) in
    is_read c.args.version s0.now count v0.room v2.content end none order formed rows (omega arith) whole

pub returns-clause-entries : goal.returns-clause-entries
returns-clause-entries g c = λ clean is_open has honest sure order formed whole.
    let s0 = g.S.Session.state c.args.conn.now in
    let s1 = g.S.Session.state c.loop-before.conn in
    let v0 = g.R.Register.view c.args.register.now in
    let v1 = g.R.Register.view c.loop-before.register in
    let count = c.loop-before.before in
    let i = c.loop-before.invariant in
    let n = c.in_ok-end.ensures in
    let end = c.in_ok-end.end in
    let clean1 : HasCleanDisk s1 = (let less = (n.look c.args.version).later.clean in omega (arith, less, clean)) in
    let one : IsSame s0 s1 = i.look.ok clean1 is_open has in
    let has1 : s1.now.schema ≡ schema_in c.args.version = ap (λ (d : Database). d.schema) one.now ∙ has in
    let all : MOST ≡ count = omega arith in
    let none = subst (λ (d : Database). end ≡ Whole → HasNoOther (d.trees (register_tree c.args.version)) count) one.now (subst (λ m. end ≡ Whole → HasNoOther (s1.now.trees (register_tree c.args.version)) m) all (n.none c.args.version clean one.is_open has1).0) in
    is_read c.args.version s0.now count v0.room v1.content end none order formed (i.rows clean1 is_open has honest sure (register_formed c.args.version s0.now.trees formed)) (omega arith) whole

pub returns-in_err-read_entry-clause-exact : goal.returns-in_err-read_entry-clause-exact
returns-in_err-read_entry-clause-exact g c clean is_open has honest sure content read = no_answer c.from_residual.result _ _ c.from_residual.ensures.1

pub returns-in-Another-clause-exact : goal.returns-in-Another-clause-exact
returns-in-Another-clause-exact g c = λ clean is_open has honest sure content read.
    let s0 = g.S.Session.state c.args.conn.now in
    let s1 = g.S.Session.state c.loop-before.conn in
    let v0 = g.R.Register.view c.args.register.now in
    let v1 = g.R.Register.view c.loop-before.register in
    let v2 = g.R.Register.view c.read_entry.new.register in
    let count = c.loop-before.before in
    let i = c.loop-before.invariant in
    let e = c.in_ok-read_entry.ensures in
    let clean1 : HasCleanDisk s1 = (let less = e.look.later.clean in omega (arith, less, clean)) in
    let same : IsSame s0 s1 = i.look.ok clean1 is_open has in
    let has1 : s1.now.schema ≡ schema_in c.args.version = ap (λ (d : Database). d.schema) same.now ∙ has in
    let honest1 = e.later.honest honest in
    absurd (not_another c.args.version s0.now content count v1.content.register c.in_ok-read_entry.field-0 v2.content.register
    (stepped c.args.version s0.now s1.now v0.room v1.room content count v1.content v2.content c.in_ok-read_entry.field-0 same.now i.later.room read (i.fronts clean1 is_open has honest1 sure content read)
    (e.exact clean same.is_open has1 honest (i.done.sure honest1 sure)) (e.nothing clean same.is_open has1)) c.in-Another.is)

pub returns-in_err-end-in-Nothing-clause-exact : goal.returns-in_err-end-in-Nothing-clause-exact
returns-in_err-end-in-Nothing-clause-exact g c clean is_open has honest sure content read = no_answer c.from_residual-in_err-end-in-Nothing.result _ _ c.from_residual-in_err-end-in-Nothing.ensures.1

pub returns-in-Nothing-clause-exact : goal.returns-in-Nothing-clause-exact
returns-in-Nothing-clause-exact g c = λ clean is_open has honest sure content read.
    let s0 = g.S.Session.state c.args.conn.now in
    let s1 = g.S.Session.state c.loop-before.conn in
    let s2 = g.S.Session.state c.read_entry.new.conn in
    let v0 = g.R.Register.view c.args.register.now in
    let v1 = g.R.Register.view c.loop-before.register in
    let v2 = g.R.Register.view c.read_entry.new.register in
    let count = c.loop-before.before in
    let i = c.loop-before.invariant in
    let e = c.in_ok-read_entry.ensures in
    let n = c.in_ok-end-in-Nothing.ensures in
    let end = c.in_ok-end-in-Nothing.end in
    let clean2 : HasCleanDisk s2 = (let less = (n.look c.args.version).later.clean in omega (arith, less, clean)) in
    let clean1 : HasCleanDisk s1 = (let less = e.look.later.clean in omega (arith, less, clean2)) in
    let one : IsSame s0 s1 = i.look.ok clean1 is_open has in
    let has1 : s1.now.schema ≡ schema_in c.args.version = ap (λ (d : Database). d.schema) one.now ∙ has in
    let two : IsSame s1 s2 = e.look.ok clean2 one.is_open has1 in
    let has2 : s2.now.schema ≡ schema_in c.args.version = ap (λ (d : Database). d.schema) two.now ∙ has1 in
    let honest1 = e.later.honest honest in
    let sure1 = i.done.sure honest1 sure in
    let same : v2.content ≡ v1.content = e.same honest sure1 c.in-Nothing.is in
    let told = subst (λ (d : Database). (end ≡ Whole) ↔ HasNoOther (d.trees (register_tree c.args.version)) count) (two.now ∙ one.now) (n.none c.args.version clean two.is_open has2) in
    let more = nothing_more c.args.version s0.now content count v1.content.register c.in_ok-read_entry.field-0 v2.content.register
    (stepped c.args.version s0.now s1.now v0.room v1.room content count v1.content v2.content c.in_ok-read_entry.field-0 one.now i.later.room read (i.fronts clean1 is_open has honest1 sure content read)
    (e.exact clean2 one.is_open has1 honest sure1) (e.nothing clean2 one.is_open has1)) c.in-Nothing.is in
    (told.1 more.1, ap (λ (x : Content). x.register) same ∙ more.0)

pub returns-in_err-end-clause-exact : goal.returns-in_err-end-clause-exact
returns-in_err-end-clause-exact g c clean is_open has honest sure content read = no_answer c.from_residual-in_err-end.result _ _ c.from_residual-in_err-end.ensures.1

pub returns-clause-exact : goal.returns-clause-exact
returns-clause-exact g c = λ clean is_open has honest sure content read.
    let s0 = g.S.Session.state c.args.conn.now in
    let s1 = g.S.Session.state c.loop-before.conn in
    let v1 = g.R.Register.view c.loop-before.register in
    let count = c.loop-before.before in
    let i = c.loop-before.invariant in
    let n = c.in_ok-end.ensures in
    let end = c.in_ok-end.end in
    let clean1 : HasCleanDisk s1 = (let less = (n.look c.args.version).later.clean in omega (arith, less, clean)) in
    let one : IsSame s0 s1 = i.look.ok clean1 is_open has in
    let has1 : s1.now.schema ≡ schema_in c.args.version = ap (λ (d : Database). d.schema) one.now ∙ has in
    let all : MOST ≡ count = omega arith in
    let told = subst (λ (d : Database). (end ≡ Whole) ↔ HasNoOther (d.trees (register_tree c.args.version)) MOST) one.now (n.none c.args.version clean one.is_open has1) in
    let holds = i.fronts clean1 is_open has honest sure content read in
    let few : length content.register ≤ count = (let below = read.entries.few in omega (arith, below, all)) in
    let whole = holds_last content.register count v1.content.register holds few in
    let size : length content.register ≡ MOST = ap length (sym whole) ∙ holds.size ∙ sym all in
    (told.1 (subst (HasNoOther (s0.now.trees (register_tree c.args.version))) size (no_other c.args.version s0.now content.register read.entries)), whole)

pub returns-in-Nothing-clause-holds : goal.returns-in-Nothing-clause-holds
returns-in-Nothing-clause-holds g c = λ honest sure whole.
    let v0 = g.R.Register.view c.args.register.now in
    let v1 = g.R.Register.view c.loop-before.register in
    let v2 = g.R.Register.view c.read_entry.new.register in
    let i = c.loop-before.invariant in
    let e = c.in_ok-read_entry.ensures in
    let honest1 = e.later.honest honest in
    let same : v2.content ≡ v1.content = e.same honest (i.done.sure honest1 sure) c.in-Nothing.is in
    subst (HoldsFormed v0.room) (sym same) (i.holds honest1 sure)

pub returns-in_err-read_entry-clause-cause : goal.returns-in_err-read_entry-clause-cause
returns-in_err-read_entry-clause-cause g c clean is_open has =
    let s0 = g.S.Session.state c.args.conn.now in
    let s1 = g.S.Session.state c.loop-before.conn in
    let s2 = g.S.Session.state c.read_entry.new.conn in
    let i = c.loop-before.invariant in
    let later = c.read_entry.ensures.look.later in
    let clean1 : HasCleanDisk s1 = (let less = later.clean in omega (arith, less, clean)) in
    let same : IsSame s0 s1 = i.look.ok clean1 is_open has in
    cause_failed Step c.in_err-read_entry.field-0.0 c.from_residual.result c.from_residual.ensures.1 s0 s1 s2 i.look.later later
    (c.in_err-read_entry.ensures.cause clean same.is_open (ap (λ (d : Database). d.schema) same.now ∙ has))

pub loop-before-init : goal.loop-before-init
loop-before-init g c =
    let s0 = g.S.Session.state c.args.conn.now in
    let v0 = g.R.Register.view c.args.register.now in
    record {
      look = look_none tt s0;
      done = done_none v0 c.requires.stage;
      later = later_none v0;
      holds = λ honest sure. none_formed v0.room v0.content (c.requires.empty honest sure);
      rows = λ clean is_open has honest sure formed. none_held c.args.version (s0.now.trees (register_tree c.args.version)) v0.room v0.content (c.requires.empty honest sure);
      fronts = λ clean is_open has honest sure content read. holds_first v0.room content.register v0.content (c.requires.empty honest sure);
    }

pub returns-in_err-read_entry-clause-entries : goal.returns-in_err-read_entry-clause-entries
returns-in_err-read_entry-clause-entries g c clean is_open has honest sure order formed = no_answer c.from_residual.result _ _ c.from_residual.ensures.1

pub returns-in_err-read_entry-clause-holds : goal.returns-in_err-read_entry-clause-holds
returns-in_err-read_entry-clause-holds g c honest sure = no_answer c.from_residual.result _ _ c.from_residual.ensures.1

pub returns-in_err-read_entry-clause-look : goal.returns-in_err-read_entry-clause-look
returns-in_err-read_entry-clause-look g c =
    let s0 = g.S.Session.state c.args.conn.now in
    let s1 = g.S.Session.state c.loop-before.conn in
    let s2 = g.S.Session.state c.read_entry.new.conn in
    look_fell Step c.in_err-read_entry.field-0.0 c.from_residual.result c.from_residual.ensures.1 s0 s1 s2 c.loop-before.invariant.look c.in_err-read_entry.ensures.look

pub returns-in_err-read_entry-clause-done : goal.returns-in_err-read_entry-clause-done
returns-in_err-read_entry-clause-done g c = not_done c.from_residual.result _ _ c.from_residual.ensures.1

pub returns-in_err-read_entry-clause-later : goal.returns-in_err-read_entry-clause-later
returns-in_err-read_entry-clause-later g c =
    let v0 = g.R.Register.view c.args.register.now in
    let v1 = g.R.Register.view c.loop-before.register in
    let v2 = g.R.Register.view c.read_entry.new.register in
    later_more v0 v1 v2 c.loop-before.invariant.later c.in_err-read_entry.ensures.later

pub returns-in_err-read_entry-clause-blame : goal.returns-in_err-read_entry-clause-blame
returns-in_err-read_entry-clause-blame g c kept =
    let v0 = g.R.Register.view c.args.register.now in
    let v1 = g.R.Register.view c.loop-before.register in
    let v2 = g.R.Register.view c.read_entry.new.register in
    let i = c.loop-before.invariant in
    blame_fell Step c.in_err-read_entry.field-0.0 c.from_residual.result c.from_residual.ensures.1 v0 v1 v2 i.done i.later c.in_err-read_entry.ensures.later (c.in_err-read_entry.ensures.blame kept)

pub returns-in-Another-clause-look : goal.returns-in-Another-clause-look
returns-in-Another-clause-look g c =
    let s0 = g.S.Session.state c.args.conn.now in
    let s1 = g.S.Session.state c.loop-before.conn in
    let s2 = g.S.Session.state c.read_entry.new.conn in
    look_more tt s0 s1 s2 c.loop-before.invariant.look c.in_ok-read_entry.ensures.look

pub returns-in-Another-clause-done : goal.returns-in-Another-clause-done
returns-in-Another-clause-done g c =
    let v0 = g.R.Register.view c.args.register.now in
    let v1 = g.R.Register.view c.loop-before.register in
    let v2 = g.R.Register.view c.read_entry.new.register in
    let i = c.loop-before.invariant in
    let e = c.in_ok-read_entry.ensures in
    done_then v0 v1 v2 i.done e.later e.done

pub returns-in-Another-clause-later : goal.returns-in-Another-clause-later
returns-in-Another-clause-later g c =
    let v0 = g.R.Register.view c.args.register.now in
    let v1 = g.R.Register.view c.loop-before.register in
    let v2 = g.R.Register.view c.read_entry.new.register in
    let i = c.loop-before.invariant in
    let e = c.in_ok-read_entry.ensures in
    later_more v0 v1 v2 i.later e.later

pub returns-in-Another-clause-blame : goal.returns-in-Another-clause-blame
returns-in-Another-clause-blame g c kept = blame_none tt _ _

pub returns-in_err-end-in-Nothing-clause-entries : goal.returns-in_err-end-in-Nothing-clause-entries
returns-in_err-end-in-Nothing-clause-entries g c clean is_open has honest sure order formed = no_answer c.from_residual-in_err-end-in-Nothing.result _ _ c.from_residual-in_err-end-in-Nothing.ensures.1

pub returns-in_err-end-in-Nothing-clause-holds : goal.returns-in_err-end-in-Nothing-clause-holds
returns-in_err-end-in-Nothing-clause-holds g c honest sure = no_answer c.from_residual-in_err-end-in-Nothing.result _ _ c.from_residual-in_err-end-in-Nothing.ensures.1

pub returns-in_err-end-in-Nothing-clause-look : goal.returns-in_err-end-in-Nothing-clause-look
returns-in_err-end-in-Nothing-clause-look g c =
    let s0 = g.S.Session.state c.args.conn.now in
    let s1 = g.S.Session.state c.loop-before.conn in
    let s2 = g.S.Session.state c.read_entry.new.conn in
    look_told_then c.in_err-end-in-Nothing.field-0.0 c.from_residual-in_err-end-in-Nothing.result c.from_residual-in_err-end-in-Nothing.ensures.1 Reading s0 s2 _ (look_more tt s0 s1 s2 c.loop-before.invariant.look c.in_ok-read_entry.ensures.look) (c.in_err-end-in-Nothing.ensures.look c.args.version)

pub returns-in_err-end-in-Nothing-clause-cause : goal.returns-in_err-end-in-Nothing-clause-cause
returns-in_err-end-in-Nothing-clause-cause g c clean is_open has =
    let s0 = g.S.Session.state c.args.conn.now in
    let s1 = g.S.Session.state c.loop-before.conn in
    let s2 = g.S.Session.state c.read_entry.new.conn in
    cause_told_then c.in_err-end-in-Nothing.field-0.0 c.from_residual-in_err-end-in-Nothing.result c.from_residual-in_err-end-in-Nothing.ensures.1 Reading s0 s2 _ (look_more tt s0 s1 s2 c.loop-before.invariant.look c.in_ok-read_entry.ensures.look) (c.in_err-end-in-Nothing.ensures.look c.args.version) (c.in_err-end-in-Nothing.ensures.cause c.args.version) clean is_open has

pub returns-in_err-end-in-Nothing-clause-done : goal.returns-in_err-end-in-Nothing-clause-done
returns-in_err-end-in-Nothing-clause-done g c = not_done c.from_residual-in_err-end-in-Nothing.result _ _ c.from_residual-in_err-end-in-Nothing.ensures.1

pub returns-in_err-end-in-Nothing-clause-later : goal.returns-in_err-end-in-Nothing-clause-later
returns-in_err-end-in-Nothing-clause-later g c =
    let v0 = g.R.Register.view c.args.register.now in
    let v1 = g.R.Register.view c.loop-before.register in
    let v2 = g.R.Register.view c.read_entry.new.register in
    let i = c.loop-before.invariant in
    let e = c.in_ok-read_entry.ensures in
    later_more v0 v1 v2 i.later e.later

pub returns-in_err-end-in-Nothing-clause-blame : goal.returns-in_err-end-in-Nothing-clause-blame
returns-in_err-end-in-Nothing-clause-blame g c kept = blame_told c.in_err-end-in-Nothing.field-0.0 c.from_residual-in_err-end-in-Nothing.result c.from_residual-in_err-end-in-Nothing.ensures.1 _ _

pub returns-in-Nothing-clause-look : goal.returns-in-Nothing-clause-look
returns-in-Nothing-clause-look g c =
    let s0 = g.S.Session.state c.args.conn.now in
    let s1 = g.S.Session.state c.loop-before.conn in
    let s2 = g.S.Session.state c.read_entry.new.conn in
    look_more c.in_ok-end-in-Nothing.end s0 s2 _ (look_more tt s0 s1 s2 c.loop-before.invariant.look c.in_ok-read_entry.ensures.look) (c.in_ok-end-in-Nothing.ensures.look c.args.version)

pub returns-in-Nothing-clause-done : goal.returns-in-Nothing-clause-done
returns-in-Nothing-clause-done g c =
    let v0 = g.R.Register.view c.args.register.now in
    let v1 = g.R.Register.view c.loop-before.register in
    let v2 = g.R.Register.view c.read_entry.new.register in
    let i = c.loop-before.invariant in
    let e = c.in_ok-read_entry.ensures in
    done_then v0 v1 v2 i.done e.later e.done

pub returns-in-Nothing-clause-later : goal.returns-in-Nothing-clause-later
returns-in-Nothing-clause-later g c =
    let v0 = g.R.Register.view c.args.register.now in
    let v1 = g.R.Register.view c.loop-before.register in
    let v2 = g.R.Register.view c.read_entry.new.register in
    let i = c.loop-before.invariant in
    let e = c.in_ok-read_entry.ensures in
    later_more v0 v1 v2 i.later e.later

pub returns-in-Nothing-clause-blame : goal.returns-in-Nothing-clause-blame
returns-in-Nothing-clause-blame g c kept = blame_none tt _ _

pub returns-in_err-end-clause-entries : goal.returns-in_err-end-clause-entries
returns-in_err-end-clause-entries g c clean is_open has honest sure order formed = no_answer c.from_residual-in_err-end.result _ _ c.from_residual-in_err-end.ensures.1

pub returns-in_err-end-clause-holds : goal.returns-in_err-end-clause-holds
returns-in_err-end-clause-holds g c honest sure = no_answer c.from_residual-in_err-end.result _ _ c.from_residual-in_err-end.ensures.1

pub returns-in_err-end-clause-look : goal.returns-in_err-end-clause-look
returns-in_err-end-clause-look g c =
    let s0 = g.S.Session.state c.args.conn.now in
    let s1 = g.S.Session.state c.loop-before.conn in
    look_told_then c.in_err-end.field-0.0 c.from_residual-in_err-end.result c.from_residual-in_err-end.ensures.1 Reading s0 s1 _ c.loop-before.invariant.look (c.in_err-end.ensures.look c.args.version)

pub returns-in_err-end-clause-cause : goal.returns-in_err-end-clause-cause
returns-in_err-end-clause-cause g c clean is_open has =
    let s0 = g.S.Session.state c.args.conn.now in
    let s1 = g.S.Session.state c.loop-before.conn in
    cause_told_then c.in_err-end.field-0.0 c.from_residual-in_err-end.result c.from_residual-in_err-end.ensures.1 Reading s0 s1 _ c.loop-before.invariant.look (c.in_err-end.ensures.look c.args.version) (c.in_err-end.ensures.cause c.args.version) clean is_open has

pub returns-in_err-end-clause-done : goal.returns-in_err-end-clause-done
returns-in_err-end-clause-done g c = not_done c.from_residual-in_err-end.result _ _ c.from_residual-in_err-end.ensures.1

pub returns-in_err-end-clause-blame : goal.returns-in_err-end-clause-blame
returns-in_err-end-clause-blame g c kept = blame_told c.in_err-end.field-0.0 c.from_residual-in_err-end.result c.from_residual-in_err-end.ensures.1 _ _

pub returns-clause-look : goal.returns-clause-look
returns-clause-look g c =
    let s0 = g.S.Session.state c.args.conn.now in
    let s1 = g.S.Session.state c.loop-before.conn in
    look_more c.in_ok-end.end s0 s1 _ c.loop-before.invariant.look (c.in_ok-end.ensures.look c.args.version)

pub returns-clause-blame : goal.returns-clause-blame
returns-clause-blame g c kept = blame_none tt _ _
