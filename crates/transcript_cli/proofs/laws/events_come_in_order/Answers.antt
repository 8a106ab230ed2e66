use Rattle.transcript_cli.proofs.Orders.{have_order, order_is}
use Rattle.transcript_cli.proofs.laws.events_come_in_order.Goals as goal

pub returns-clause-order : goal.returns-clause-order
returns-clause-order c = have_order

pub returns-clause-one : goal.returns-clause-one
returns-clause-one c = λ events sorted. order_is sorted events
