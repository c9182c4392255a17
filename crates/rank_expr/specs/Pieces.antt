-- The pieces of an expression's text. Blanks separate them; a name with a `(` behind it, blanks aside, is a call.
use Rattle.std.specs.Prelude.{ℕ, ◌+◌, ◌^◌, Bool, ◌==◌, ◌||◌, nat_lt, List, [], ◌∷◌, Option, Some, None, if◌then◌else◌, length, take, drop, slice_index, codes}
use Rattle.std.specs.Char.{is_ascii_alphabetic, is_ascii_alphanumeric, is_ascii_digit}
use Rattle.std.specs.List.{position, prefix_len}
use Rattle.std.specs.Str.{str_eq_ignore_ascii_case, str_to_ascii_lowercase}
use Rattle.std.specs.Str.Parse.{digits_value}
use Rattle.doc_types.specs.declared.schema.Schema.{Schema}
use Rattle.name_table.specs.NamedValues.{value_named}
use Rattle.rank_expr.specs.declared.expr.DocFactor.TheVariants as document
use Rattle.rank_expr.specs.declared.expr.FieldFactor.TheVariants as field
use Rattle.rank_expr.specs.declared.expr.PairOp.TheVariants as ops
use Rattle.rank_expr.specs.declared.mark.Function.{Function}
use Rattle.rank_expr.specs.declared.mark.Function.TheVariants as functions
use Rattle.rank_expr.specs.declared.mark.Leaf.{Leaf}
use Rattle.rank_expr.specs.declared.mark.Leaf.TheVariants as leaves
use Rattle.rank_expr.specs.declared.mark.Sign.{Sign}
use Rattle.rank_expr.specs.declared.mark.Sign.TheVariants as signs
use Rattle.rank_expr.specs.declared.mark.Single.TheVariants as singles

-- a space, a tab, a carriage return or a line feed
abbrev pub is_blank : ℕ → Bool
is_blank b = (b == 32) || (b == 9) || (b == 13) || (b == 10)

-- a letter or `_`
abbrev pub is_letter : ℕ → Bool
is_letter b = is_ascii_alphabetic b || (b == 95)

-- a letter, a digit or `_`
abbrev pub is_name_byte : ℕ → Bool
is_name_byte b = is_ascii_alphanumeric b || (b == 95)

-- the factors, by the order of their names ..
unfoldable pub factor_words : List (List ℕ)
factor_words =
    codes "doc_word_count" ∷ codes "field_mask" ∷ codes "hit_count" ∷ codes "lcs" ∷ codes "max_lcs" ∷ codes "min_hit_pos" ∷ codes "user_weight"
    ∷ codes "word_count" ∷ []

unfoldable pub factor_leaves : List Leaf
factor_leaves =
    leaves.Document document.DocWordCount ∷ leaves.Document document.FieldMask ∷ leaves.Field field.HitCount ∷ leaves.Field field.Lcs
    ∷ leaves.Document document.MaxLcs ∷ leaves.Field field.MinHitPos ∷ leaves.Field field.UserWeight ∷ leaves.Field field.WordCount ∷ []

-- .. and the functions
unfoldable pub function_words : List (List ℕ)
function_words = codes "abs" ∷ codes "if" ∷ codes "max" ∷ codes "min" ∷ codes "sum" ∷ []

unfoldable pub function_values : List Function
function_values = functions.Abs ∷ functions.If ∷ functions.Max ∷ functions.Min ∷ functions.Sum ∷ []

-- what a call of a function stands for
abbrev pub function_sign : Function → Sign
function_sign functions.Abs = signs.Single singles.Abs
function_sign functions.If = signs.Triple
function_sign functions.Max = signs.Double ops.Max
function_sign functions.Min = signs.Double ops.Min
function_sign functions.Sum = signs.Single singles.Sum

-- a piece: what it stands for, and how many bytes it has
pub record Piece : Type 0 where
  pub sign : Sign
  pub size : ℕ

-- a number of at most 64 bits
abbrev pub number_sign : ℕ → Sign
number_sign value = if nat_lt value (2 ^ 64) then signs.Leaf (leaves.Number value) else signs.TooLarge

-- the attribute of the name, in either case
abbrev pub attr_named : Schema → List ℕ → Option ℕ
attr_named schema name = position (λ attr. str_eq_ignore_ascii_case attr.0 name) schema.attrs

abbrev pub leaf_sign : Option Leaf → Sign
leaf_sign None = signs.Unknown
leaf_sign (Some leaf) = signs.Leaf leaf

-- a factor hides the attribute of its name
abbrev pub leaf_or : Option Leaf → Option ℕ → Option Leaf
leaf_or (Some leaf) attr = Some leaf
leaf_or None (Some attr) = Some (leaves.Attr attr)
leaf_or None None = None

-- what a name stands for that is no call
unfoldable pub name_sign : Schema → List ℕ → Sign
name_sign schema name = leaf_sign (leaf_or (value_named factor_words factor_leaves (str_to_ascii_lowercase name)) (attr_named schema name))

abbrev pub called : Option Function → Sign
called None = signs.Unknown
called (Some function) = function_sign function

-- and a call of it
unfoldable pub call_sign : List ℕ → Sign
call_sign name = called (value_named function_words function_values (str_to_ascii_lowercase name))

-- a name, by its bytes and by what stands behind it
unfoldable pub name_piece : Schema → List ℕ → List ℕ → Piece
name_piece schema name behind =
    let blanks = prefix_len is_blank behind in
    if slice_index behind blanks == 40 then record { sign = call_sign name; size = length name + blanks + 1 }
    else record { sign = name_sign schema name; size = length name }

-- what a character stands for by itself
abbrev pub sign_of_one : ℕ → Sign
sign_of_one b =
    if b == 40 then signs.Open else
    if b == 41 then signs.Close else
    if b == 44 then signs.Comma else
    if b == 43 then signs.Plus else
    if b == 45 then signs.Minus else
    if b == 42 then signs.Star else
    if b == 60 then signs.Compare ops.Less else
    if b == 62 then signs.Compare ops.Greater else
    if b == 61 then signs.Compare ops.Equal else
    if (b == 47) || (b == 37) then signs.Division else
    signs.Other

-- and two of them: <= >= <>
abbrev pub sign_of_two : ℕ → ℕ → Option Sign
sign_of_two a b =
    if a == 60 then (if b == 61 then Some (signs.Compare ops.AtMost) else if b == 62 then Some (signs.Compare ops.NotEqual) else None)
    else if a == 62 then (if b == 61 then Some (signs.Compare ops.AtLeast) else None)
    else None

abbrev pub sign_piece : ℕ → Option Sign → Piece
sign_piece a (Some sign) = record { sign = sign; size = 2 }
sign_piece a None = record { sign = sign_of_one a; size = 1 }

-- the first piece of a text that begins with no blank and isn't empty
unfoldable pub piece_of : Schema → List ℕ → Piece
piece_of schema text =
    let a = slice_index text 0 in
    if is_ascii_digit a then (let digits = prefix_len is_ascii_digit text in record { sign = number_sign (digits_value 10 (take digits text)); size = digits })
    else if is_letter a then (let name = prefix_len is_name_byte text in name_piece schema (take name text) (drop name text))
    else sign_piece a (sign_of_two a (slice_index text 1))
