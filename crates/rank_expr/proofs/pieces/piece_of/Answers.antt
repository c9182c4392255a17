use Rattle.std.proofs.Common.{◌≡◌, true, ℕ, arith, take, subst, sym}
use Rattle.std.specs.Char.{is_ascii_digit}
use Rattle.std.specs.List.{list_all}
use Rattle.std.proofs.lemmas.List.Sums.{prefix_len-le-length}
use Rattle.rank_expr.specs.Pieces.{is_name_byte}
use Rattle.rank_expr.proofs.Fronts.{front_passes}
use Rattle.rank_expr.proofs.pieces.piece_of.Goals as goal

pub number_sign-requires : goal.number_sign-requires
number_sign-requires c = subst (λ (n : ℕ). list_all is_ascii_digit (take n c.args.text.now) ≡ true) (sym c.digits_len-digits.ensures) (front_passes is_ascii_digit c.args.text.now)

pub split_at-requires : goal.split_at-requires
split_at-requires c = omega (arith, c.name_len.ensures, prefix_len-le-length is_name_byte c.args.text.now)
