use Rattle.std.proofs.Common.{arith}
use Rattle.std.proofs.lemmas.List.Sums.{suffix_len-le-length}
use Rattle.charset_map.specs.Characters.{is_blank}
use Rattle.conf_text.proofs.text.before_blanks.Goals as goal

pub overflow_sub-text : goal.overflow_sub-text
overflow_sub-text c = omega (arith, c.blanks_after.ensures, suffix_len-le-length is_blank c.args.text.now)
