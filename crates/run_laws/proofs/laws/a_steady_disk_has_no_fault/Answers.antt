use Rattle.std.proofs.Common.{length}
use Rattle.run_laws.proofs.Serving.{served_decided}
use Rattle.run_laws.proofs.laws.a_steady_disk_has_no_fault.Goals as goal

pub returns : goal.returns
returns g c = λ schema base opened confs sessions old new ends served index end at steady place services stands.
    served_decided _ _ _ schema base confs (length old) sessions index _ (opened index) served.services served.left old new place services
    served.works (served.faults index end at) steady stands
