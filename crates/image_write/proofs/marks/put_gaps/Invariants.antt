use Rattle.std.proofs.Common.{◌≡◌, ◌++◌, drop}
use Rattle.std.specs.List.{flat_map}
use Rattle.posting_codec.specs.Numbers.{number}
use Rattle.chunk_image.specs.Marks.{gap_numbers}
use Rattle.image_write.proofs.Marked.{gaps_in}
use Rattle.image_write.proofs.marks.put_gaps.Given as goal

abbrev pub invariant-loop-token : goal.invariant-loop-token
invariant-loop-token l = l.out.items ++ flat_map number (gap_numbers l.before (gaps_in (drop l.token-index l.words))) ≡ l.fn.out.items ++ flat_map number (gap_numbers 0 (gaps_in l.words))
