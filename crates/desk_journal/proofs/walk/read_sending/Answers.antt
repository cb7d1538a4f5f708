use Rattle.std.proofs.Common.{◌≡◌, ◌∙◌, ap, length, map, subst, sym}
use Rattle.std.specs.List.{range_with_len}
use Rattle.desk_rules.specs.Tables.{AreTables}
use Rattle.desk_register.proofs.ReadLemmas.{read_more, read_none, read_one}
use Rattle.desk_journal.specs.Messages.{sent_upto}
use Rattle.desk_journal.specs.Sending.{blank, told_upto}
use Rattle.desk_journal.proofs.KnownLemmas.{as_many, still_held}
use Rattle.desk_journal.proofs.SendingLemmas.{hold_notices}
use Rattle.desk_journal.proofs.StepLemmas.{register_broke, walk_broke}
use Rattle.desk_journal.proofs.walk.read_sending.Goals as goal

pub returns-in_err-note_entries-clause-read : goal.returns-in_err-note_entries-clause-read
returns-in_err-note_entries-clause-read g c =
    let v0 = g.R.Register.view c.args.register.now in
    walk_broke (Unit {0}) c.in_err-note_entries.field-0.0 c.from_residual.result v0 v0 (g.R.Register.view c.note_entries.new.register) c.from_residual.ensures.1 (read_none v0) c.in_err-note_entries.ensures.read

pub note_all_settled-requires-clause-known : goal.note_all_settled-requires-clause-known
note_all_settled-requires-clause-known g c =
    still_held tt (g.R.Register.view c.args.register.now) (g.R.Register.view c.note_entries.new.register) c.in_ok-note_entries.ensures.read c.requires.known

pub returns-in_err-note_all_settled-clause-read : goal.returns-in_err-note_all_settled-clause-read
returns-in_err-note_all_settled-clause-read g c =
    let v0 = g.R.Register.view c.args.register.now in
    let v1 = g.R.Register.view c.note_entries.new.register in
    register_broke c.in_err-note_all_settled.field-0.0 c.from_residual-in_err-note_all_settled.result v0 v1 (g.R.Register.view c.note_all_settled.new.register) c.from_residual-in_err-note_all_settled.ensures.1
    (read_one tt v0 v1 c.in_ok-note_entries.ensures.read) c.in_err-note_all_settled.ensures.read

pub add_keys-requires-clause-holds : goal.add_keys-requires-clause-holds
add_keys-requires-clause-holds g c =
    let v1 = g.R.Register.view c.note_entries.new.register in
    still_held tt v1 (g.R.Register.view c.note_all_settled.new.register) c.in_ok-note_all_settled.ensures.read
    (still_held tt (g.R.Register.view c.args.register.now) v1 c.in_ok-note_entries.ensures.read c.requires.known)

pub add_keys-requires-clause-known : goal.add_keys-requires-clause-known
add_keys-requires-clause-known g c = λ honest sure.
    let first = c.in_ok-note_entries.ensures in
    let second = c.in_ok-note_all_settled.ensures in
    let honest1 = second.read.later.honest honest in
    let sure1 = second.read.later.sure honest sure in
    let honest0 = first.read.later.honest honest1 in
    let sure0 = first.read.later.sure honest1 sure1 in
    let known = c.requires.known honest0 sure0 in
    let whole : c.args.count ≡ length known.books.history = c.requires.entries honest0 sure0 ∙ as_many known.books (g.R.Register.view c.args.register.now).content known.are in
    let are1 = subst (AreTables known.books) (sym (first.read.same honest1 sure0)) known.are in
    let are2 = subst (AreTables known.books) (sym (second.read.same honest sure1)) are1 in
    let noted = first.noted known.books honest1 sure0 known.are in
    let all = second.noted known.books honest sure1 are1 (noted.0 ∙ ap (λ k. map blank (told_upto known.books k)) whole) whole in
    hold_notices known.books (g.R.Register.view c.note_all_settled.new.register).content c.deref.result.now are2 (c.deref.ensures.value ∙ all)

pub returns-in_err-add_keys-clause-read : goal.returns-in_err-add_keys-clause-read
returns-in_err-add_keys-clause-read g c =
    let v0 = g.R.Register.view c.args.register.now in
    let v1 = g.R.Register.view c.note_entries.new.register in
    let v2 = g.R.Register.view c.note_all_settled.new.register in
    walk_broke (Unit {0}) c.in_err-add_keys.field-0.0 c.from_residual-in_err-add_keys.result v0 v2 (g.R.Register.view c.add_keys.new.register) c.from_residual-in_err-add_keys.ensures.1
    (read_more tt v0 v1 v2 (read_one tt v0 v1 c.in_ok-note_entries.ensures.read) c.in_ok-note_all_settled.ensures.read) c.in_err-add_keys.ensures.read

pub returns-clause-sending : goal.returns-clause-sending
returns-clause-sending g c = λ books honest sure are.
    let first = c.in_ok-note_entries.ensures in
    let second = c.in_ok-note_all_settled.ensures in
    let third = c.in_ok-add_keys.ensures in
    let honest2 = third.read.later.honest honest in
    let honest1 = second.read.later.honest honest2 in
    let honest0 = first.read.later.honest honest1 in
    let sure1 = first.read.ok.sure honest1 sure in
    let sure2 = second.read.ok.sure honest2 sure1 in
    let whole : c.args.count ≡ length books.history = c.requires.entries honest0 sure ∙ as_many books (g.R.Register.view c.args.register.now).content are in
    let are1 = subst (AreTables books) (sym (first.read.same honest1 sure)) are in
    let are2 = subst (AreTables books) (sym (second.read.same honest2 sure1)) are1 in
    let noted = first.noted books honest1 sure are in
    let all = second.noted books honest2 sure1 are1 (noted.0 ∙ ap (λ k. map blank (told_upto books k)) whole) whole in
    record {
      notices = all;
      ends = noted.1 ∙ ap (λ k. map (sent_upto books) (range_with_len 1 k)) whole;
      keys = third.keyed books honest sure2 are2 (c.deref.ensures.value ∙ all);
    }

pub returns-clause-read : goal.returns-clause-read
returns-clause-read g c =
    let v0 = g.R.Register.view c.args.register.now in
    let v1 = g.R.Register.view c.note_entries.new.register in
    let v2 = g.R.Register.view c.note_all_settled.new.register in
    read_more tt v0 v2 (g.R.Register.view c.add_keys.new.register) (read_more tt v0 v1 v2 (read_one tt v0 v1 c.in_ok-note_entries.ensures.read) c.in_ok-note_all_settled.ensures.read) c.in_ok-add_keys.ensures.read
