use Rattle.std.proofs.Common.{◌≡◌}
use Rattle.desk_rules.proofs.Readable.{formed_spelt}
use Rattle.sql_entries.proofs.ExactLemmas.{behind, both_told, says_its_reply, wide}
use Rattle.sql_entries.proofs.compared.kept_said.Goals as goal

pub returns-in_default-clause-exact : goal.returns-in_default-clause-exact
returns-in_default-clause-exact c number kept is formed short =
    absurd (let e = c.in_ok-entry.ensures.exact kept.entry (behind number kept) is (formed_spelt kept.entry formed) in let none = c.in_default.is in cc)

pub returns-clause-exact : goal.returns-clause-exact
returns-clause-exact c number kept is formed short =
    let row = c.args.row.now in
    let entry : c.in-Some.entry ≡ kept.entry =
    (let e = c.in_ok-entry.ensures.exact kept.entry (behind number kept) is (formed_spelt kept.entry formed) in let some = c.in-Some.is in cc) in
    let reply : c.in-Some-2.reply ≡ kept.reply =
    (let e = c.in_ok-reply.ensures.exact kept.reply (wide c.args.version row number kept is) (says_its_reply c.args.version row number kept is) short in let some = c.in-Some-2.is in cc) in
    both_told kept c.in-Some.entry c.in-Some-2.reply entry reply
