use Rattle.std.proofs.Common.{rules}
use Rattle.std.proofs.lemmas.Iterator.{YieldsList-from_slice, YieldsList-from_zip}
use Rattle.ql_refusals.proofs.FirstOf.{find_map_is_first_of}
use Rattle.ql_insert.specs.Insertions.{value_fault}
use Rattle.ql_insert.proofs.faults.values_fault.Goals as goal

pub returns : goal.returns
returns c =
    find_map_is_first_of (λ one. value_fault c.args.schema.now one.0 one.1) c.find_map.new.self _ _ c.find_map.ensures.ran c.find_map.ensures.runs
    (YieldsList-from_zip (YieldsList-from_slice c.args.targets.now cc) (YieldsList-from_slice c.args.row.now cc)) (λ x r q k. search rules)
