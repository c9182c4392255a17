use Rattle.image_rows.proofs.Undamaged.{are_all_bytes, undamaged}
use Rattle.image_rows.proofs.laws.undamaged_bytes_are_an_image.Goals as goal

pub returns : goal.returns
returns c = λ schema bytes limits all good. undamaged schema bytes (are_all_bytes bytes all) limits good
