use Rattle.sql_rows.proofs.amounts.compared.recorded.is_entry_recorded.Goals as goal

pub returns-in-Participant-clause-says : goal.returns-in-Participant-clause-says
returns-in-Participant-clause-says g c = rw c.in-Participant.is c.is_cash_recorded.ensures.says

pub returns-in-Participant-clause-exact : goal.returns-in-Participant-clause-exact
returns-in-Participant-clause-exact g c = λ clean is_open has honest sure all few. c.is_cash_recorded.ensures.exact clean is_open has honest sure all

pub returns-in-Account-clause-says : goal.returns-in-Account-clause-says
returns-in-Account-clause-says g c = rw c.in-Account.is c.are_holdings_recorded.ensures.says

pub returns-in-Issue-clause-says : goal.returns-in-Issue-clause-says
returns-in-Issue-clause-says g c = rw c.in-Issue.is c.is_outstanding_recorded.ensures.says

pub returns-in-Issue-clause-exact : goal.returns-in-Issue-clause-exact
returns-in-Issue-clause-exact g c = λ clean is_open has honest sure all few. c.is_outstanding_recorded.ensures.exact clean is_open has honest sure all

pub returns-in-Redeem-clause-says : goal.returns-in-Redeem-clause-says
returns-in-Redeem-clause-says g c = rw c.in-Redeem.is c.is_outstanding_recorded-in-Redeem.ensures.says

pub returns-in-Redeem-clause-exact : goal.returns-in-Redeem-clause-exact
returns-in-Redeem-clause-exact g c = λ clean is_open has honest sure all few. c.is_outstanding_recorded-in-Redeem.ensures.exact clean is_open has honest sure all
