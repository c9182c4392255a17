use Rattle.std.proofs.Common.{arith}
use Rattle.std.proofs.lemmas.List.Sums.{prefix_len-le-length}
use Rattle.charset_map.specs.Characters.{is_blank}
use Rattle.conf_text.proofs.text.after_blanks.Goals as goal

pub split_at-requires : goal.split_at-requires
split_at-requires c = omega (arith, c.blanks_before.ensures, prefix_len-le-length is_blank c.args.text.now)
