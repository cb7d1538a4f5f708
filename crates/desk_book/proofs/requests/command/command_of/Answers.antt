-- What is refused is no command of this operation, so it is none.
use Rattle.std.proofs.Common.{Some, sym, ap, ◌∙◌}
use Rattle.desk_codes.proofs.BicLemmas.{same_bytes}
use Rattle.desk_book.proofs.CommandLemmas.{only_participant, only_account, only_security, only_issue, only_redeem, only_pay_in, only_pay_out, only_run, if_none}
use Rattle.desk_book.proofs.requests.command.command_of.Goals as goal

pub returns-then-eq-clause-refused : goal.returns-then-eq-clause-refused
returns-then-eq-clause-refused g c = if_none c.participant.result (λ none. only_participant _ (sym c.in_ok-op.ensures ∙ ap Some (same_bytes c.in_ok-op.op.now c.as_slice.result.now (sym c.eq.ensures ∙ c.if-eq.true) ∙ c.as_slice.ensures)) none) c.participant.ensures.refused

pub returns-then-eq-2-clause-refused : goal.returns-then-eq-2-clause-refused
returns-then-eq-2-clause-refused g c = if_none c.account.result (λ none. only_account _ (sym c.in_ok-op.ensures ∙ ap Some (same_bytes c.in_ok-op.op.now c.as_slice-2.result.now (sym c.eq-2.ensures ∙ c.if-eq-2.true) ∙ c.as_slice-2.ensures)) none) c.account.ensures.refused

pub returns-then-eq-3-clause-refused : goal.returns-then-eq-3-clause-refused
returns-then-eq-3-clause-refused g c = if_none c.security.result (λ none. only_security _ (sym c.in_ok-op.ensures ∙ ap Some (same_bytes c.in_ok-op.op.now c.as_slice-3.result.now (sym c.eq-3.ensures ∙ c.if-eq-3.true) ∙ c.as_slice-3.ensures)) none) c.security.ensures.refused

pub returns-then-eq-4-clause-refused : goal.returns-then-eq-4-clause-refused
returns-then-eq-4-clause-refused g c = if_none c.issue.result (λ none. only_issue _ (sym c.in_ok-op.ensures ∙ ap Some (same_bytes c.in_ok-op.op.now c.as_slice-4.result.now (sym c.eq-4.ensures ∙ c.if-eq-4.true) ∙ c.as_slice-4.ensures)) none) c.issue.ensures.refused

pub returns-then-eq-5-clause-refused : goal.returns-then-eq-5-clause-refused
returns-then-eq-5-clause-refused g c = if_none c.redeem.result (λ none. only_redeem _ (sym c.in_ok-op.ensures ∙ ap Some (same_bytes c.in_ok-op.op.now c.as_slice-5.result.now (sym c.eq-5.ensures ∙ c.if-eq-5.true) ∙ c.as_slice-5.ensures)) none) c.redeem.ensures.refused

pub returns-then-eq-6-clause-refused : goal.returns-then-eq-6-clause-refused
returns-then-eq-6-clause-refused g c = if_none c.pay_in.result (λ none. only_pay_in _ (sym c.in_ok-op.ensures ∙ ap Some (same_bytes c.in_ok-op.op.now c.as_slice-6.result.now (sym c.eq-6.ensures ∙ c.if-eq-6.true) ∙ c.as_slice-6.ensures)) none) c.pay_in.ensures.refused

pub returns-then-eq-7-clause-refused : goal.returns-then-eq-7-clause-refused
returns-then-eq-7-clause-refused g c = if_none c.pay_out.result (λ none. only_pay_out _ (sym c.in_ok-op.ensures ∙ ap Some (same_bytes c.in_ok-op.op.now c.as_slice-7.result.now (sym c.eq-7.ensures ∙ c.if-eq-7.true) ∙ c.as_slice-7.ensures)) none) c.pay_out.ensures.refused

pub returns-then-eq-8-clause-refused : goal.returns-then-eq-8-clause-refused
returns-then-eq-8-clause-refused g c = if_none c.run.result (λ none. only_run _ (sym c.in_ok-op.ensures ∙ ap Some (same_bytes c.in_ok-op.op.now c.as_slice-8.result.now (sym c.eq-8.ensures ∙ c.if-eq-8.true) ∙ c.as_slice-8.ensures)) none) c.run.ensures.refused
