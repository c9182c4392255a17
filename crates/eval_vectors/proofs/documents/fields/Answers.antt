use Rattle.std.proofs.Common.{All, sym, subst}
use Rattle.eval_vectors.specs.steps.Reading.{IsShortField}
use Rattle.eval_vectors.proofs.HeldRows.{more_short}
use Rattle.eval_vectors.proofs.documents.fields.Goals as goal

pub texts-preserved : goal.texts-preserved
texts-preserved c = subst (All IsShortField) (sym c.in_ok-push.ensures.items) (more_short c.texts.fields.items c.in_ok-field.field-0 c.texts.invariant c.in_ok-field.ensures)
