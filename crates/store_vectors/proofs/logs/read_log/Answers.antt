use Rattle.std.proofs.Common.{ℕ, Option, refl, sym, ◌∙◌, ap, subst}
use Rattle.gate_log.specs.Logs.{MayFollow, last_number}
use Rattle.store_vectors.proofs.logs.read_log.Goals as goal

-- the disk tells what it has, so what a log is read as is known
pub returns-clause-quiet : goal.returns-clause-quiet
returns-clause-quiet c = ((c.in_ok-log.ensures.found _ refl).stands.staged, (c.in_ok-log.ensures.found _ refl).quiet)

pub returns-clause-follows : goal.returns-clause-follows
returns-clause-follows c =
    subst (λ (o : Option ℕ). MayFollow o c.in_ok-number.number) (ap last_number c.deref.ensures.value ∙ sym (c.in_ok-log.ensures.found _ refl).stands.last) c.in_ok-number.ensures
