use Rattle.std.proofs.Common.{◌≡◌, ◌<◌, ◌++◌, ◌∷◌, [], cond, get_or, length, rules}
use Rattle.doc_types.specs.declared.documents.DocRow.{DocRow}
use Rattle.doc_types.specs.Snapshots.{is_dead}
use Rattle.layer_joins.proofs.Behind.{row_more}
use Rattle.layer_joins.proofs.copying.push_rows.Goals as goal

pub loop-number-preserved : goal.loop-number-preserved
loop-number-preserved c =
    let layer = c.args.layer.now in
    let within : c.loop-number.number < length layer.rows = search rules in
    let grown : (row : DocRow) → row ≡ get_or layer.rows c.loop-number.number row → c.push_living.new.rows.items ≡ c.loop-number.rows.items ++ cond (is_dead layer c.loop-number.number) [] (row ∷ []) = search rules in
    row_more layer c.loop-number.number c.args.rows.now.items c.loop-number.rows.items c.push_living.new.rows.items within c.loop-number.invariant grown
