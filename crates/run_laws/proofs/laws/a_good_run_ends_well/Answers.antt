use Rattle.run_laws.proofs.Ending.{run_well}
use Rattle.run_laws.proofs.laws.a_good_run_ends_well.Goals as goal

pub returns : goal.returns
returns g c = λ mode status old new runs asked good.
    run_well (λ text conf fault is faulty. c.a_text_is_one_configuration.ensures.either text conf fault is faulty) _ _ _ _ mode status old new runs asked good
