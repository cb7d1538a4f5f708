-- The reply is that of the run, and its text tells the counts.
use Rattle.std.proofs.Common.{sym, ◌∙◌}
use Rattle.desk_register.proofs.ViewLemmas.{idle_goes}
use Rattle.desk_register.proofs.ReadLemmas.{read_one}
use Rattle.desk_register.proofs.ReadingLemmas.{gives_up}
use Rattle.desk_journal.proofs.NotingLemmas.{counts_found, counts_there}
use Rattle.desk_journal.proofs.runs.counts_of_run.Goals as goal

pub returns-in_default-run_counts-clause-read : goal.returns-in_default-run_counts-clause-read
returns-in_default-run_counts-clause-read g c =
    let r = c.in_ok-reply.ensures in
    let v0 = g.R.Register.view c.args.register.now in
    let v1 = g.R.Register.view c.reply.new.self in
    gives_up v0 v1 (read_one c.in_ok-reply.field-0 v0 v1 r.read) c.requires.stage (λ honest sure.
    let known = c.requires.known (r.read.later.honest honest) sure in
    let at = sym (r.value honest sure (idle_goes _ c.requires.stage)) ∙ c.in-Some.is in
    counts_there v0.content c.args.number known c.in-Some.reply at c.run_counts.result (λ n settled waiting is. c.run_counts.ensures n settled waiting (c.as_bytes.ensures ∙ is)) c.in_default-run_counts.is)

pub returns-clause-counts : goal.returns-clause-counts
returns-clause-counts g c = λ books honest sure are.
    let r = c.in_ok-reply.ensures in
    let v0 = g.R.Register.view c.args.register.now in
    let known = c.requires.known (r.read.later.honest honest) sure in
    let at = sym (r.value honest sure (idle_goes _ c.requires.stage)) ∙ c.in-Some.is in
    counts_found v0.content c.args.number known books are c.in-Some.reply at c.run_counts.result (λ n settled waiting is. c.run_counts.ensures n settled waiting (c.as_bytes.ensures ∙ is)) c.in-Some-run_counts.counts
    c.in-Some-run_counts.is
