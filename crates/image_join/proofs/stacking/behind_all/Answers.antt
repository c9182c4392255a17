use Rattle.std.proofs.Common.{◌≡◌, ◌+◌, ◌≤◌, [], get_or, length, arith}
use Rattle.std.proofs.lemmas.Option.{slice_get-get_or}
use Rattle.doc_types.specs.Chunks.{rows_with}
use Rattle.image_join.specs.steps.Stacking.{behind}
use Rattle.image_join.proofs.Ahead.{behind_within}
use Rattle.image_join.proofs.stacking.behind_all.Goals as goal

pub returns-then-rows-eq1-clause-within : goal.returns-then-rows-eq1-clause-within
returns-then-rows-eq1-clause-within g c =
    let part = c.args.part.now in
    let w = get_or part.words c.args.word [] in
    let first : c.args.first ≡ part.first + behind 0 (rows_with w part.rows) = c.requires.first w (slice_get-get_or part.words c.args.word [] c.requires.word) c.if-rows-eq1.true in
    let low : behind 0 (rows_with w part.rows) ≤ length part.rows = behind_within w part.rows in
    omega (arith, first, low)
