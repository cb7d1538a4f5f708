use Rattle.std.proofs.Common.{sym, subst}
use Rattle.desk_rules.specs.declared.limits.TheConstants.{MOST_ENTRIES}
use Rattle.desk_engine.specs.Ready.{KeepsFormed}
use Rattle.desk.proofs.LeftLemmas.{clean_on}
use Rattle.desk.proofs.answers.report.show_on_both.Goals as goal

pub returns-clause-told : goal.returns-clause-told
returns-clause-told g c = λ books keeps. c.tell_overview-told.ensures.told books tt c.requires.room keeps

pub returns-clause-left : goal.returns-clause-left
returns-clause-left g c = λ books keeps.
    let told = c.tell_overview-told.ensures in
    c.connection_of.ensures.left told.stage books (subst (KeepsFormed MOST_ENTRIES books) (sym (told.same tt tt)) keeps)

pub returns-clause-clean : goal.returns-clause-clean
returns-clause-clean g c = clean_on g.S.Session.state c.args.both c.tell_overview-told.new.register c.connection_of.result c.tell_overview-told.ensures.later c.connection_of.ensures.connection
