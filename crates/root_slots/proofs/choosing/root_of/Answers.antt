use Rattle.std.proofs.Common.{arith}
use Rattle.root_slots.proofs.Standing.{keeps_layout, of_bytes, root_means}
use Rattle.root_slots.proofs.choosing.root_of.Goals as goal

pub returns-clause-reads : goal.returns-clause-reads
returns-clause-reads c = root_means c.read_slots.result c.args.zeroth.now c.args.first.now (λ i. omega (arith, c.type_inv.zeroth i)) (λ i. omega (arith, c.type_inv.first i)) c.read_slots.ensures

pub returns-clause-bytes : goal.returns-clause-bytes
returns-clause-bytes c = of_bytes c.read_slots.result c.args.zeroth.now c.args.first.now c.read_slots.ensures

pub returns-clause-state : goal.returns-clause-state
returns-clause-state c = keeps_layout c.read_slots.result c.args.zeroth.now c.args.first.now (λ i. omega (arith, c.type_inv.zeroth i)) (λ i. omega (arith, c.type_inv.first i)) c.read_slots.ensures
