use Rattle.std.proofs.Common.{ap, Some, arith}
use Rattle.std.proofs.lemmas.Grind.{common_steps}
use Rattle.srch_base.proofs.Moving.{read_on}
use Rattle.srch_base.proofs.memory_link.MemoryLinkLink.read.Goals as goal

pub returns-clause-reads : goal.returns-clause-reads
returns-clause-reads c =
    rw (← c.self.view_is) (ap Some (read_on c.self.inside.input.items c.copy_from_slice.new.self _ c.self.inside.at c.within-count.result (grind (arith, common_steps)) (grind (arith, common_steps))))
