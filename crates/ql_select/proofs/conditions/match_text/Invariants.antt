use Rattle.std.proofs.Common.{◌≡◌, drop}
use Rattle.ql_select.specs.Parts.{match_text}
use Rattle.ql_select.proofs.conditions.match_text.Given as goal

abbrev pub invariant-conds : goal.invariant-conds
invariant-conds l = match_text l.conds ≡ match_text (drop l.cond-index l.conds)
