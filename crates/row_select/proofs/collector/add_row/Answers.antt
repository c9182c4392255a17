use Rattle.std.proofs.Common.{◌≡◌, ◌∷◌, ◌++◌, [], sym, subst, rules}
use Rattle.row_select.specs.Collecting.{AreEnough}
use Rattle.row_select.proofs.Collected.{bordered, kept_first, kept_too, left_out}
use Rattle.row_select.proofs.collector.add_row.Goals as goal

-- the row is left out
pub returns-then-is_behind-clause-keeps : goal.returns-then-is_behind-clause-keeps
returns-then-is_behind-clause-keeps g c = λ offered enough.
    left_out c.args.order.now c.args.end offered c.args.rows.now.items (g.R.FoundRow.as_row c.args.row.now) enough (search rules)

-- the row is kept, and the rows are cut
pub returns-then-len-end-clause-bordered : goal.returns-then-len-end-clause-bordered
returns-then-len-end-clause-bordered g c = bordered c.args.order.now c.args.end c.push.new.self.items c.keep_first.new.rows.items c.keep_first.ensures

pub returns-then-len-end-clause-keeps : goal.returns-then-len-end-clause-keeps
returns-then-len-end-clause-keeps g c = λ offered enough.
    let pushed : c.push.new.self.items ≡ c.args.rows.now.items ++ (g.R.FoundRow.as_row c.args.row.now) ∷ [] = search rules in
    kept_first c.args.order.now c.args.end (offered ++ (g.R.FoundRow.as_row c.args.row.now) ∷ []) c.push.new.self.items c.keep_first.new.rows.items
    (subst (AreEnough c.args.order.now c.args.end (offered ++ (g.R.FoundRow.as_row c.args.row.now) ∷ [])) (sym pushed) (kept_too c.args.order.now c.args.end offered c.args.rows.now.items (g.R.FoundRow.as_row c.args.row.now) enough)) c.keep_first.ensures

-- the row is kept
pub returns-else-len-end-2-clause-keeps : goal.returns-else-len-end-2-clause-keeps
returns-else-len-end-2-clause-keeps g c = λ offered enough.
    let pushed : c.push.new.self.items ≡ c.args.rows.now.items ++ (g.R.FoundRow.as_row c.args.row.now) ∷ [] = search rules in
    subst (AreEnough c.args.order.now c.args.end (offered ++ (g.R.FoundRow.as_row c.args.row.now) ∷ [])) (sym pushed) (kept_too c.args.order.now c.args.end offered c.args.rows.now.items (g.R.FoundRow.as_row c.args.row.now) enough)
