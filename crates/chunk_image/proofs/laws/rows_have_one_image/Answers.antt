use Rattle.chunk_image.proofs.OneList.{one_image_of}
use Rattle.chunk_image.proofs.laws.rows_have_one_image.Goals as goal

pub returns : goal.returns
returns c = one_image_of
