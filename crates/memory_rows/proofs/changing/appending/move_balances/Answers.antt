use Rattle.memory_rows.proofs.changing.appending.move_balances.Goals as goal

pub returns-in-Issue-clause-moved : goal.returns-in-Issue-clause-moved
returns-in-Issue-clause-moved c = rw c.in-Issue.is (rw (c.keys_of_movement.ensures.position, c.keys_of_movement.ensures.total) at c.add_to_both.ensures.put)

pub returns-in-Redeem-clause-moved : goal.returns-in-Redeem-clause-moved
returns-in-Redeem-clause-moved c = rw c.in-Redeem.is (rw (c.keys_of_movement-in-Redeem.ensures.position, c.keys_of_movement-in-Redeem.ensures.total) at c.take_from_both.ensures.put)

pub returns-in-PayIn-clause-moved : goal.returns-in-PayIn-clause-moved
returns-in-PayIn-clause-moved c = rw c.in-PayIn.is (rw (c.keys_of_payment.ensures.cash, c.keys_of_payment.ensures.total) at c.add_to_both-in-PayIn.ensures.put)

pub returns-in-PayOut-clause-moved : goal.returns-in-PayOut-clause-moved
returns-in-PayOut-clause-moved c = rw c.in-PayOut.is (rw (c.keys_of_payment-in-PayOut.ensures.cash, c.keys_of_payment-in-PayOut.ensures.total) at c.take_from_both-in-PayOut.ensures.put)
