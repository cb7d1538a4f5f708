use Rattle.desk_engine.proofs.ReplyLemmas.{cancel_reply, instruct_reply, run_told}
use Rattle.desk_engine.proofs.replies.reply_of.Goals as goal

pub returns-in-Instruct-clause-reply : goal.returns-in-Instruct-clause-reply
returns-in-Instruct-clause-reply c = λ books fared.
    instruct_reply c.message_reply.result books c.args.applied.now c.args.entry.now c.in-Instruct.sender c.in-Instruct.instruction c.first_case-about.result c.in-Instruct.is c.first_case-about.ensures c.message_reply.ensures fared

pub returns-in-Cancel-clause-reply : goal.returns-in-Cancel-clause-reply
returns-in-Cancel-clause-reply c = λ books fared.
    cancel_reply c.message_reply-in-Cancel.result books c.args.applied.now c.args.entry.now c.in-Cancel.sender c.in-Cancel.order c.cancellation_case-about.result c.in-Cancel.is c.cancellation_case-about.ensures.value c.message_reply-in-Cancel.ensures fared

pub returns-in-Run-clause-reply : goal.returns-in-Run-clause-reply
returns-in-Run-clause-reply c = λ books fared.
    run_told c.run_reply.result books c.args.applied.now c.args.entry.now c.in-Run.reference c.in-Run.day c.in-Run.rule c.in-Run.is c.run_reply.ensures fared
