use Rattle.chunk_image.proofs.AllRows.{rows_told}
use Rattle.chunk_image.proofs.rows.rows_are_told_by_answers.Goals as goal

pub returns : goal.returns
returns c = rows_told
