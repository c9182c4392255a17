use Rattle.std.proofs.Common.{refl}
use Rattle.run_laws.proofs.Sharing.{all_decided, all_free}
use Rattle.run_laws.proofs.laws.a_share_that_stays_has_no_fault.Goals as goal

pub returns : goal.returns
returns c = λ schema base old new events index follows same.
    all_decided schema base index old.tokens.worker old new events refl follows (all_free schema base index old new events follows same)
