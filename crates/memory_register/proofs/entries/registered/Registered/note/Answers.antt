use Rattle.std.proofs.Common.{◌∙◌, rules}
use Rattle.memory_register.proofs.KeyIndexLemmas.{on_err, on_ok}
use Rattle.memory_register.proofs.RegisteredLemmas.{noted_account, noted_currency, noted_other, noted_participant, noted_run, noted_security, nothing_else}
use Rattle.memory_register.proofs.entries.registered.Registered.note.Goals as goal

pub returns-in-Participant-clause-noted : goal.returns-in-Participant-clause-noted
returns-in-Participant-clause-noted c history are is =
    let k = c.in-Participant in
    let noting = c.put_first in
    on_ok noting.result (noted_participant c.args.self.now history c.args.entry.now c.args.number is k.reference k.bic k.is noting.new.numbers are) noting.ensures.put

pub returns-in-Participant-clause-err : goal.returns-in-Participant-clause-err
returns-in-Participant-clause-err c history are =
    let noting = c.put_first in
    on_err noting.result (λ same. record { participants = λ q. same q ∙ are.participants q; accounts = are.accounts; securities = are.securities; currencies = are.currencies; runs = are.runs }) noting.ensures.err

pub returns-in-Account-clause-noted : goal.returns-in-Account-clause-noted
returns-in-Account-clause-noted c history are is =
    let k = c.in-Account in
    let noting = c.put_first-in-Account in
    on_ok noting.result (noted_account c.args.self.now history c.args.entry.now c.args.number is k.reference k.bic k.account k.is noting.new.numbers are) noting.ensures.put

pub returns-in-Account-clause-err : goal.returns-in-Account-clause-err
returns-in-Account-clause-err c history are =
    let noting = c.put_first-in-Account in
    on_err noting.result (λ same. record { participants = are.participants; accounts = λ q. same q ∙ are.accounts q; securities = are.securities; currencies = are.currencies; runs = are.runs }) noting.ensures.err

pub returns-in-Security-clause-noted : goal.returns-in-Security-clause-noted
returns-in-Security-clause-noted c history are is =
    let k = c.in-Security in
    let noting = c.put_first-in-Security in
    on_ok noting.result (noted_security c.args.self.now history c.args.entry.now c.args.number is k.reference k.isin k.kind k.is noting.new.numbers are) noting.ensures.put

pub returns-in-Security-clause-err : goal.returns-in-Security-clause-err
returns-in-Security-clause-err c history are =
    let noting = c.put_first-in-Security in
    on_err noting.result (λ same. record { participants = are.participants; accounts = are.accounts; securities = λ q. same q ∙ are.securities q; currencies = are.currencies; runs = are.runs }) noting.ensures.err

pub returns-in-PayIn-clause-noted : goal.returns-in-PayIn-clause-noted
returns-in-PayIn-clause-noted c history are is =
    let k = c.in-PayIn in
    let noting = c.put_first-in-PayIn in
    on_ok noting.result (noted_currency c.args.self.now history c.args.entry.now c.args.number is k.payment k.is noting.new.numbers are) noting.ensures.put

pub returns-in-PayIn-clause-err : goal.returns-in-PayIn-clause-err
returns-in-PayIn-clause-err c history are =
    let noting = c.put_first-in-PayIn in
    on_err noting.result (λ same. record { participants = are.participants; accounts = are.accounts; securities = are.securities; currencies = λ q. same q ∙ are.currencies q; runs = are.runs }) noting.ensures.err

pub returns-in_ok-reserve-in-Run-clause-noted : goal.returns-in_ok-reserve-in-Run-clause-noted
returns-in_ok-reserve-in-Run-clause-noted c history are is =
    let k = c.in-Run in
    noted_run c.args.self.now history c.args.entry.now c.args.number is k.reference k.day k.rule k.is c.push.new.self are (search rules)

pub returns-in_default-clause-noted : goal.returns-in_default-clause-noted
returns-in_default-clause-noted c history are is =
    let k = c.in_default in
    noted_other c.args.self.now history c.args.entry.now c.args.number is (nothing_else c.args.entry.now k.not-Participant k.not-Account k.not-Security k.not-PayIn k.not-Run) are
