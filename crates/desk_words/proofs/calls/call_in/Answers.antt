use Rattle.clap.specs.Words.{found_of, rows_of}
use Rattle.desk_words.proofs.WordsLemmas.{named_in, none_in, one_in, said_in, said_of_none}
use Rattle.desk_words.proofs.calls.call_in.Goals as goal

pub returns-in-Some-clause-asked : goal.returns-in-Some-clause-asked
returns-in-Some-clause-asked c = λ asked named.
    c.subcommand_call.ensures.asked asked (named_in c.args.matches.now asked c.in-Some.name.now (rows_of (found_of c.in-Some.inner.now)) c.in-Some.ensures.name c.in-Some.ensures.rows named)

pub returns-in-Some-clause-nothing : goal.returns-in-Some-clause-nothing
returns-in-Some-clause-nothing c = λ none. absurd (one_in c.args.matches.now c.in-Some.name.now c.in-Some.ensures.name none)

pub returns-in-None-clause-asked : goal.returns-in-None-clause-asked
returns-in-None-clause-asked c = λ asked named. let none = none_in c.args.matches.now c.in-None.ensures.name in absurd (rw none at named)

pub returns-in-Some-clause-said : goal.returns-in-Some-clause-said
returns-in-Some-clause-said c = said_in c.args.matches.now c.in-Some.name.now (rows_of (found_of c.in-Some.inner.now)) c.subcommand_call.result c.in-Some.ensures.name c.in-Some.ensures.rows c.subcommand_call.ensures.said

pub returns-in-None-clause-said : goal.returns-in-None-clause-said
returns-in-None-clause-said c = said_of_none c.args.matches.now c.in-None.ensures.name
