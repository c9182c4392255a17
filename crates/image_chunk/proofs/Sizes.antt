-- How long a chunk's image is.
use Rattle.std.proofs.Common.{◌≡◌, ◌∙◌, ℕ, List, length, ap}
use Rattle.std.proofs.Props.{props}
use Rattle.std.proofs.Math.Logic.{∥∥₁_elim}
use Rattle.image_join.specs.JoinedImages.{HasImageLength}
use Rattle.image_join.proofs.Lengths.{one_length}
use Rattle.image_chunk.specs.Images.{Image}
use Rattle.image_chunk.specs.steps.OneImage.{words_are}

pub sized : (bytes : List ℕ) (is : Image bytes) (n : ℕ) → n ≡ length bytes → HasImageLength is.0.0 n
sized bytes is n long = record {
  words = is.0.1;
  are = words_are bytes is;
  is = λ schema. ∥∥₁_elim is.1 (hlevel props) (λ x. long ∙ ap length x.is ∙ one_length x.schema schema is.0.0 is.0.1);
}
