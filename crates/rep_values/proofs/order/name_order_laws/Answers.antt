use Rattle.std.proofs.lemmas.Cmp.{nat_list_cmp_total}
use Rattle.std.proofs.lemmas.Map.Lookups.{exact_bytes}
use Rattle.rep_values.proofs.order.name_order_laws.Goals as goal

pub returns-clause-total : goal.returns-clause-total
returns-clause-total c = nat_list_cmp_total

pub returns-clause-exact : goal.returns-clause-exact
returns-clause-exact c = exact_bytes
