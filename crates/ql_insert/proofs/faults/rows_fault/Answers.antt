use Rattle.std.proofs.Common.{rules}
use Rattle.std.proofs.lemmas.Iterator.{YieldsList-from_slice}
use Rattle.ql_refusals.proofs.FirstOf.{find_map_is_first_of}
use Rattle.ql_insert.specs.Insertions.{row_fault}
use Rattle.ql_insert.proofs.faults.rows_fault.Goals as goal

pub returns : goal.returns
returns c =
    find_map_is_first_of (row_fault c.args.schema.now c.args.targets.now) _ _ _ c.find_map.ensures.ran c.find_map.ensures.runs (YieldsList-from_slice c.args.rows.now cc) (λ x r q k. search rules)
