use Rattle.std.proofs.Common.{inr, refl}
use Rattle.ql_select.proofs.Meaning.{after_fault}
use Rattle.ql_select.proofs.selecting.after_text.Goals as goal

pub returns-in-Ok : goal.returns-in-Ok
returns-in-Ok c = inr ((c.in-Ok._query, c.in-Ok.ensures), refl)

pub returns-in-Err : goal.returns-in-Err
returns-in-Err c = after_fault c.args.conf.now c.args.text.now c.args.refusal c.in-Err.sooner c.in-Err.ensures
