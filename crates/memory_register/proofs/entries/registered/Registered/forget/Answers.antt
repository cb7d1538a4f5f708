use Rattle.memory_register.proofs.RegisteredLemmas.{forgot_account, forgot_currency, forgot_other, forgot_participant, forgot_run, forgot_security, nothing_else}
use Rattle.memory_register.proofs.entries.registered.Registered.forget.Goals as goal

pub returns-in-Participant : goal.returns-in-Participant
returns-in-Participant c history are is =
    let k = c.in-Participant in
    let taking = c.take_number in
    forgot_participant c.args.self.now history c.args.entry.now c.args.number is k.reference k.bic k.is taking.new.numbers are taking.ensures

pub returns-in-Account : goal.returns-in-Account
returns-in-Account c history are is =
    let k = c.in-Account in
    let taking = c.take_number-in-Account in
    forgot_account c.args.self.now history c.args.entry.now c.args.number is k.reference k.bic k.account k.is taking.new.numbers are taking.ensures

pub returns-in-Security : goal.returns-in-Security
returns-in-Security c history are is =
    let k = c.in-Security in
    let taking = c.take_number-in-Security in
    forgot_security c.args.self.now history c.args.entry.now c.args.number is k.reference k.isin k.kind k.is taking.new.numbers are taking.ensures

pub returns-in-PayIn : goal.returns-in-PayIn
returns-in-PayIn c history are is =
    let k = c.in-PayIn in
    let taking = c.take_number-in-PayIn in
    forgot_currency c.args.self.now history c.args.entry.now c.args.number is k.payment k.is taking.new.numbers are taking.ensures

pub returns-in-Run : goal.returns-in-Run
returns-in-Run c history are is =
    let k = c.in-Run in
    forgot_run c.args.self.now history c.args.entry.now c.args.number is k.reference k.day k.rule k.is c.drop_last.new.runs are c.drop_last.ensures

pub returns-in_default : goal.returns-in_default
returns-in_default c history are is =
    let k = c.in_default in
    forgot_other c.args.self.now history c.args.entry.now c.args.number is (nothing_else c.args.entry.now k.not-Participant k.not-Account k.not-Security k.not-PayIn k.not-Run) are
