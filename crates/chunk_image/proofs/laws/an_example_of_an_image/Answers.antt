use Rattle.std.proofs.Common.{refl}
use Rattle.posting_codec.specs.Numbers.{number}
use Rattle.posting_codec.specs.HitLists.{hit_list}
use Rattle.chunk_image.specs.Marks.{row_marks}
use Rattle.chunk_image.specs.ChunkImage.{word_postings}
use Rattle.chunk_image.proofs.laws.an_example_of_an_image.Goals as goal

pub returns : goal.returns
unfolding number hit_list row_marks word_postings
returns c = refl
