-- The marks of a text: its pieces, each with what is known of it by those before it, and its end.
use Rattle.std.specs.Prelude.{ℕ, zero, suc, ◌+◌, ◌-◌, Bool, true, false, nat_lt, List, [], ◌∷◌, if◌then◌else◌}
use Rattle.doc_types.specs.declared.schema.Schema.{Schema}
use Rattle.rank_expr.specs.declared.mark.Leaf.TheVariants as leaves
use Rattle.rank_expr.specs.declared.mark.Sign.{Sign}
use Rattle.rank_expr.specs.declared.mark.Sign.TheVariants as signs
use Rattle.rank_expr.specs.declared.mark.Single.TheVariants as singles
use Rattle.rank_expr.specs.declared.mark.Mark.{Mark}
use Rattle.rank_expr.specs.Pieces.{is_blank, piece_of}

-- behind these an operator may stand: they end an expression
abbrev pub is_due_after : Sign → Bool
is_due_after (signs.Leaf leaf) = false
is_due_after signs.Close = false
is_due_after _ = true

-- how many parentheses are open since that of a `sum`, its own counted; 0 where no `sum` is open
abbrev pub level_after : ℕ → Sign → ℕ
level_after zero (signs.Single singles.Sum) = 1
level_after zero _ = 0
level_after (suc level) signs.Open = level + 2
level_after (suc level) (signs.Single call) = level + 2
level_after (suc level) (signs.Double call) = level + 2
level_after (suc level) signs.Triple = level + 2
level_after (suc level) signs.Close = level
level_after (suc level) _ = level + 1

-- what a field gives stands inside of `sum`, and no other `sum` does
abbrev pub in_scope : Bool → Sign → Sign
in_scope false (signs.Leaf (leaves.Field factor)) = signs.Misplaced
in_scope true (signs.Single singles.Sum) = signs.Misplaced
in_scope inside sign = sign

abbrev pub mark_of : Bool → ℕ → ℕ → Sign → Mark
mark_of due level at sign = record { at = at; sign = in_scope (nat_lt 0 level) sign; due = due }

-- The marks of a text that begins at this place, of whose bytes the first ones belong to the piece before. Known is whether an
-- expression is due, and what is open.
unfoldable pub marks_from : Schema → Bool → ℕ → ℕ → ℕ → List ℕ → List Mark
marks_from schema due level at skip [] = record { at = at; sign = signs.End; due = due } ∷ []
marks_from schema due level at (suc skip) (b ∷ text) = marks_from schema due level (at + 1) skip text
marks_from schema due level at zero (b ∷ text) =
    if is_blank b then marks_from schema due level (at + 1) 0 text
    else (
    let piece = piece_of schema (b ∷ text) in
    mark_of due level at piece.sign ∷ marks_from schema (is_due_after piece.sign) (level_after level piece.sign) (at + 1) (piece.size - 1) text
    )

unfoldable pub marks_of : Schema → List ℕ → List Mark
marks_of schema text = marks_from schema true 0 0 0 text
