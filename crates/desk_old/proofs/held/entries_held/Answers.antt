use Rattle.std.proofs.Common.{◌≡◌, ◌≤◌, ◌++◌, ◌∷◌, [], ◌∙◌, ◌+◌, length, map, ap, rules, arith}
use Rattle.std.proofs.lemmas.List.{length-map}
use Rattle.desk_rules.specs.declared.answers.reply.Kept.{Kept}
use Rattle.desk_rules.specs.Content.{Content, history_of}
use Rattle.desk_rules.specs.History.{entry_at}
use Rattle.desk_register.proofs.ViewLemmas.{idle_goes}
use Rattle.desk_register.proofs.ReadLemmas.{read_more, read_ok}
use Rattle.desk_old.proofs.HeldLemmas.{no_more, one_more, take_whole}
use Rattle.desk_old.proofs.held.entries_held.Goals as goal

pub loop-before-init : goal.loop-before-init
loop-before-init g c =
    record {
      read = read_ok c.in_ok-count.count tt (g.R.Register.view c.args.register.now) (g.R.Register.view c.count.new.self) c.in_ok-count.ensures.read;
      counted = λ honest sure. c.in_ok-count.ensures.value honest sure (idle_goes (g.R.Register.view c.args.register.now).stage c.requires);
      list = λ honest sure. c.new-entries.ensures.items;
    }

pub loop-before-preserved : goal.loop-before-preserved
loop-before-preserved g c =
    let i = c.loop-before.invariant in
    let r = c.in_ok-entry.ensures in
    let v0 = g.R.Register.view c.args.register.now in
    let v1 = g.R.Register.view c.loop-before.register in
    let v2 = g.R.Register.view c.entry.new.self in
    let pushed : c.push.new.self.items ≡ c.loop-before.entries.items ++ c.in-Some.entry ∷ [] = search rules in
    record {
      read = read_more c.in_ok-entry.field-0 v0 v1 v2 i.read r.read;
      counted = λ honest sure. i.counted (r.read.later.honest honest) sure;
      list = λ honest sure.
          let honest1 = r.read.later.honest honest in
          let same = i.read.same honest1 sure in
          let at = r.value honest (i.read.ok.sure honest1 sure) (idle_goes v1.stage (i.read.ok.stage ∙ c.requires)) in
          pushed ∙ one_more (history_of v0.content) c.loop-before.entries.items c.loop-before.before c.in_ok-entry.field-0 c.in-Some.entry (i.list honest1 sure) (at ∙ ap (λ (x : Content). entry_at (history_of x) (c.loop-before.before + 1)) same) c.in-Some.is;
    }

pub returns-in-None-clause-fault : goal.returns-in-None-clause-fault
returns-in-None-clause-fault g c = λ kept honest sure.
    let i = c.loop-before.invariant in
    let r = c.in_ok-entry.ensures in
    let v0 = g.R.Register.view c.args.register.now in
    let v1 = g.R.Register.view c.loop-before.register in
    let honest1 = r.read.later.honest honest in
    let at = r.value honest (i.read.ok.sure honest1 sure) (idle_goes v1.stage (i.read.ok.stage ∙ c.requires)) ∙ ap (λ (x : Content). entry_at (history_of x) (c.loop-before.before + 1)) (i.read.same honest1 sure) in
    let none = no_more (history_of v0.content) c.loop-before.before c.in_ok-entry.field-0 at c.in-None.is in
    let size = length-map v0.content.register (λ (k : Kept). k.entry) in
    let counted = i.counted honest1 sure in
    absurd (omega (arith, none, size, counted))

pub returns-clause-all : goal.returns-clause-all
returns-clause-all g c = λ honest sure.
    let i = c.loop-before.invariant in
    let v0 = g.R.Register.view c.args.register.now in
    let size = length-map v0.content.register (λ (k : Kept). k.entry) in
    let counted = i.counted honest sure in
    i.list honest sure ∙ take_whole (history_of v0.content) c.loop-before.before (omega (arith, size, counted))
