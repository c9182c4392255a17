use Rattle.chunk_image.proofs.OneImage.{one_image}
use Rattle.chunk_image.proofs.laws.an_image_is_of_one_list_of_rows.Goals as goal

pub returns : goal.returns
returns c = one_image
