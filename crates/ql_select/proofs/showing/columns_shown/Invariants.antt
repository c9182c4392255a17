use Rattle.std.proofs.Common.{◌≡◌, ◌≤◌, ◌++◌, drop}
use Rattle.ql_select.specs.Columns.{columns_shown, shown_after}
use Rattle.ql_select.proofs.showing.columns_shown.Given as goal

abbrev pub invariant-items : goal.invariant-items
invariant-items l =
    (columns_shown l.schema l.by l.items ≡ l.shown.items ++ shown_after l.schema l.by l.before (drop l.place l.items))
    × (l.before ≤ l.place)
