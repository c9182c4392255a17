use Rattle.std.proofs.Common.{◌≡◌, ◌≤◌, take}
use Rattle.std.specs.List.{count_by}
use Rattle.ql_select.specs.Faults.{is_match}
use Rattle.ql_select.proofs.limits.count_matches.Given as goal

abbrev pub invariant-conds : goal.invariant-conds
invariant-conds l = (l.count ≤ l.cond-index) × (l.count ≡ count_by is_match (take l.cond-index l.conds))
