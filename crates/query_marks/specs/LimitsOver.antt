-- Which limits stand over a keyword: those of the last limit before it in its group, or else those that its group began with.
-- "Limits to fields and zones" of the chapter on extended queries.
use Rattle.std.specs.Prelude.{◌≡◌, ◌<◌, ℕ, zero, suc, List, [], ◌∷◌, ◌++◌, map, reverse, length, None}
use Rattle.query_pieces.specs.declared.piece.Form.{Form}
use Rattle.query_pieces.specs.declared.piece.Form.TheVariants as forms
use Rattle.query_pieces.specs.declared.piece.Piece.{Piece}
use Rattle.query_tree.specs.declared.key.Key.{Key}
use Rattle.query_marks.specs.declared.limits.Limits.{Limits}
use Rattle.query_marks.specs.declared.mark.Mark.{Mark}
use Rattle.query_marks.specs.declared.mark.Sign.{Sign}
use Rattle.query_marks.specs.declared.mark.Sign.TheVariants as signs
use Rattle.query_marks.specs.Limits.{field_limits, zone_limits}
use Rattle.query_marks.specs.Marks.{Setting, at_start, limit_of, mark_at, marks_of}

-- The limits that pieces leave, the last of them first. Groups that have ended are passed over, and so many of them are being
-- passed over; a group begins with the limits around it, a field limit replaces all, a zone limit the zones alone.
abbrev pub limits_after : Setting → List ℕ → List Form → ℕ → Limits
limits_after setting text [] ended = (at_start setting).here
limits_after setting text (forms.Close ∷ before) ended = limits_after setting text before (suc ended)
limits_after setting text (forms.Open ∷ before) (suc ended) = limits_after setting text before ended
limits_after setting text (forms.Open ∷ before) zero = limits_after setting text before zero
limits_after setting text (forms.Fields limit ∷ before) zero = field_limits setting.fields text limit
limits_after setting text (forms.Zones limit ∷ before) zero = zone_limits setting.zones limit (limits_after setting text before zero)
limits_after setting text (form ∷ before) ended = limits_after setting text before ended

-- where so many groups are open: each `)` closes one that is open, as in every query
abbrev pub CloseGroups : List Form → ℕ → Type 0
CloseGroups [] groups = Unit {0}
CloseGroups (forms.Open ∷ rest) groups = CloseGroups rest (suc groups)
CloseGroups (forms.Close ∷ rest) zero = ⊥
CloseGroups (forms.Close ∷ rest) (suc groups) = CloseGroups rest groups
CloseGroups (form ∷ rest) groups = CloseGroups rest groups

abbrev pub forms_of : List Piece → List Form
forms_of pieces = map (λ p. p.form) pieces

-- the limits over what follows these pieces
abbrev pub limits_over : Setting → List ℕ → List Piece → Limits
limits_over setting text before = limits_after setting text (reverse (forms_of before)) 0

-- the mark of a text's end
abbrev pub text_end : List ℕ → Mark
text_end text = mark_at (length text) None signs.End

-- The mark is that of a piece after these: with the piece the marks are one more.
pub record IsMarkAfter (setting : Setting) (text : List ℕ) (before : List Piece) (p : Piece) (mark : Mark) : Type 0 where
  pub marks : List Mark
  pub without : marks_of setting text before ≡ marks ++ text_end text ∷ []
  pub with : marks_of setting text (before ++ p ∷ []) ≡ marks ++ mark ∷ text_end text ∷ []

-- The mark is that of a piece of the text.
pub record IsMarkOfPiece (setting : Setting) (text : List ℕ) (pieces : List Piece) (mark : Mark) : Type 0 where
  pub before : List Piece
  pub piece : Piece
  pub rest : List Piece
  pub pieces_are : pieces ≡ before ++ piece ∷ rest
  pub mark_is : IsMarkAfter setting text before piece mark

-- the keywords of a mark
abbrev pub keys_of_sign : Sign → List Key
keys_of_sign (signs.Bare key) = key ∷ []
keys_of_sign (signs.Phrase keys) = keys
keys_of_sign (signs.Loose keys how) = keys
keys_of_sign sign = []

-- The keyword stands under these limits. From the 256th on, keywords have the query position 0 and stand for nobody.
abbrev pub IsUnder : Setting → List ℕ → Limits → Key → Type 0
IsUnder setting text limits key = 0 < key.query → key.limit ≡ limit_of setting.zones text limits
