use Rattle.exchange_rules.proofs.OrdersByAnyRoute.{go-by-any, go-by-sets, told-as-orders}
use Rattle.exchange_rules.proofs.laws.orders.orders_go_where_they_may.Goals as goal

pub returns-clause-told : goal.returns-clause-told
returns-clause-told c = told-as-orders

pub returns-clause-any : goal.returns-clause-any
returns-clause-any c = go-by-any

pub returns-clause-set : goal.returns-clause-set
returns-clause-set c = go-by-sets
