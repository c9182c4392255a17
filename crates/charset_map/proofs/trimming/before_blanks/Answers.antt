use Rattle.std.proofs.Common.{arith}
use Rattle.std.proofs.lemmas.List.Sums.{suffix_len-le-length}
use Rattle.charset_map.specs.Characters.{is_blank}
use Rattle.charset_map.proofs.trimming.before_blanks.Goals as goal

pub overflow_sub-part : goal.overflow_sub-part
overflow_sub-part c = omega (arith, c.blanks_after.ensures, suffix_len-le-length is_blank c.args.part.now)
