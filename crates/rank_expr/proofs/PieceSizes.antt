-- A piece has a byte at least, lies in its text, and isn't the end.
use Rattle.std.proofs.Common.{arith, ◌≡◌, ◌+◌, ◌<◌, ◌≤◌, ℕ, List, [], ◌∷◌, Bool, true, false, Option, Some, None, inl, inr, length, take, drop, refl, subst, length-drop}
use Rattle.std.specs.Prelude.{if◌then◌else◌, slice_index, nat_lt, ◌==◌, ◌||◌, ◌^◌}
use Rattle.std.specs.Char.{is_ascii_digit}
use Rattle.std.specs.Int.{is_in_range}
use Rattle.std.specs.List.{prefix_len}
use Rattle.std.specs.Str.{str_to_ascii_lowercase}
use Rattle.std.specs.Str.Parse.{digits_value}
use Rattle.std.proofs.lemmas.Bool.{eqb-true, cases_lt}
use Rattle.std.proofs.lemmas.List.{get_or_past, length-take-le}
use Rattle.std.proofs.lemmas.List.Sums.{prefix_len-le-length}
use Rattle.doc_types.specs.declared.schema.Schema.{Schema}
use Rattle.name_table.specs.NamedValues.{value_named}
use Rattle.rank_expr.specs.declared.mark.Function.{Function}
use Rattle.rank_expr.specs.declared.mark.Function.TheVariants as functions
use Rattle.rank_expr.specs.declared.mark.Leaf.{Leaf}
use Rattle.rank_expr.specs.declared.mark.Leaf.TheVariants as leaves
use Rattle.rank_expr.specs.declared.mark.Sign.{Sign}
use Rattle.rank_expr.specs.declared.mark.Sign.TheVariants as signs
use Rattle.rank_expr.specs.declared.mark.Single.TheVariants as singles
use Rattle.rank_expr.specs.Pieces.{is_blank, is_letter, is_name_byte, Piece, number_sign, leaf_or, leaf_sign, attr_named, factor_words, factor_leaves, function_words, function_values, name_sign, called, call_sign, name_piece, sign_of_one, sign_of_two, sign_piece, piece_of}
use Rattle.rank_expr.specs.Marks.{in_scope}
use Rattle.rank_expr.specs.steps.Classes.{is_end}

pub record IsSized (size : ℕ) (piece : Piece) : Type 0 where
  pub least : 1 ≤ piece.size
  pub most : piece.size ≤ size
  pub no_end : is_end piece.sign ≡ false

-- ---- what isn't the end

if_no_end : (b : Bool) (x y : Sign) → is_end x ≡ false → is_end y ≡ false → is_end (if b then x else y) ≡ false
if_no_end true x y h k = h
if_no_end false x y h k = k

leaf_no_end : (leaf : Option Leaf) → is_end (leaf_sign leaf) ≡ false
leaf_no_end None = refl
leaf_no_end (Some leaf) = refl

called_no_end : (function : Option Function) → is_end (called function) ≡ false
called_no_end None = refl
called_no_end (Some functions.Abs) = refl
called_no_end (Some functions.If) = refl
called_no_end (Some functions.Max) = refl
called_no_end (Some functions.Min) = refl
called_no_end (Some functions.Sum) = refl

name_no_end : (schema : Schema) (name : List ℕ) → is_end (name_sign schema name) ≡ false
unfolding name_sign
name_no_end schema name = leaf_no_end (leaf_or (value_named factor_words factor_leaves (str_to_ascii_lowercase name)) (attr_named schema name))

call_no_end : (name : List ℕ) → is_end (call_sign name) ≡ false
unfolding call_sign
call_no_end name = called_no_end (value_named function_words function_values (str_to_ascii_lowercase name))

one_no_end : (a : ℕ) → is_end (sign_of_one a) ≡ false
one_no_end a =
    if_no_end (a == 40) _ _ refl (if_no_end (a == 41) _ _ refl (if_no_end (a == 44) _ _ refl (if_no_end (a == 43) _ _ refl (if_no_end (a == 45) _ _ refl (if_no_end (a == 42) _ _ refl (if_no_end (a == 60) _ _ refl (if_no_end (a == 62) _ _ refl (if_no_end (a == 61) _ _ refl (if_no_end ((a == 47) || (a == 37)) _ _ refl refl)))))))))

pub scoped_no_end : (inside : Bool) (sign : Sign) → is_end sign ≡ false → is_end (in_scope inside sign) ≡ false
scoped_no_end false (signs.Leaf (leaves.Number n)) h = refl
scoped_no_end false (signs.Leaf (leaves.Field factor)) h = refl
scoped_no_end false (signs.Leaf (leaves.Document factor)) h = refl
scoped_no_end false (signs.Leaf (leaves.Attr attr)) h = refl
scoped_no_end true (signs.Leaf (leaves.Number n)) h = refl
scoped_no_end true (signs.Leaf (leaves.Field factor)) h = refl
scoped_no_end true (signs.Leaf (leaves.Document factor)) h = refl
scoped_no_end true (signs.Leaf (leaves.Attr attr)) h = refl
scoped_no_end false (signs.Single singles.Sum) h = refl
scoped_no_end false (signs.Single singles.Abs) h = refl
scoped_no_end true (signs.Single singles.Sum) h = refl
scoped_no_end true (signs.Single singles.Abs) h = refl
scoped_no_end false signs.TooLarge h = refl
scoped_no_end true signs.TooLarge h = refl
scoped_no_end false signs.Unknown h = refl
scoped_no_end true signs.Unknown h = refl
scoped_no_end false signs.Misplaced h = refl
scoped_no_end true signs.Misplaced h = refl
scoped_no_end false signs.Open h = refl
scoped_no_end true signs.Open h = refl
scoped_no_end false signs.Close h = refl
scoped_no_end true signs.Close h = refl
scoped_no_end false signs.Comma h = refl
scoped_no_end true signs.Comma h = refl
scoped_no_end false (signs.Double op) h = refl
scoped_no_end true (signs.Double op) h = refl
scoped_no_end false signs.Triple h = refl
scoped_no_end true signs.Triple h = refl
scoped_no_end false signs.Plus h = refl
scoped_no_end true signs.Plus h = refl
scoped_no_end false signs.Minus h = refl
scoped_no_end true signs.Minus h = refl
scoped_no_end false signs.Star h = refl
scoped_no_end true signs.Star h = refl
scoped_no_end false (signs.Compare op) h = refl
scoped_no_end true (signs.Compare op) h = refl
scoped_no_end false signs.Division h = refl
scoped_no_end true signs.Division h = refl
scoped_no_end false signs.Other h = refl
scoped_no_end true signs.Other h = refl
scoped_no_end false signs.End h = h
scoped_no_end true signs.End h = h

-- ---- sizes

some_pass : (p : ℕ → Bool) (a : ℕ) (text : List ℕ) → p a ≡ true → 1 ≤ prefix_len p (a ∷ text)
some_pass p a text e = rw e (omega arith)

number_sized : (a : ℕ) (text : List ℕ) → is_ascii_digit a ≡ true → IsSized (length (a ∷ text)) (record { sign = number_sign (digits_value 10 (take (prefix_len is_ascii_digit (a ∷ text)) (a ∷ text))); size = prefix_len is_ascii_digit (a ∷ text) })
number_sized a text e = record { least = some_pass is_ascii_digit a text e; most = prefix_len-le-length is_ascii_digit (a ∷ text); no_end = if_no_end (nat_lt (digits_value 10 (take (prefix_len is_ascii_digit (a ∷ text)) (a ∷ text))) (2 ^ 64)) _ _ refl refl }

letter_named : (d upper small u : Bool) → ((upper || small) || u) ≡ true → (((d || upper) || small) || u) ≡ true
letter_named true upper small u e = refl
letter_named false upper small u e = e

name_sized : (schema : Schema) (name behind : List ℕ) → 1 ≤ length name → IsSized (length name + length behind) (name_piece schema name behind)
unfolding name_piece
name_sized schema name behind some = by (slice_index behind (prefix_len is_blank behind) == 40) refl
  where
    by : (b : Bool) → (slice_index behind (prefix_len is_blank behind) == 40) ≡ b → IsSized (length name + length behind) (if b then record { sign = call_sign name; size = length name + prefix_len is_blank behind + 1 } else record { sign = name_sign schema name; size = length name })
    by false e = record { least = some; most = omega arith; no_end = name_no_end schema name }
    by true e =
        elim (cases_lt (prefix_len is_blank behind) (length behind)) [
          | inl below ↦ record { least = omega (arith, some); most = omega (arith, below); no_end = call_no_end name }
          | inr past ↦ absurd (omega (arith, eqb-true (slice_index behind (prefix_len is_blank behind)) 40 e, get_or_past behind (prefix_len is_blank behind) 0 past))
        ]

abbrev Fine : Option Sign → Type 0
Fine None = Unit {0}
Fine (Some sign) = is_end sign ≡ false

if_fine : (b : Bool) (x y : Option Sign) → Fine x → Fine y → Fine (if b then x else y)
if_fine true x y h k = h
if_fine false x y h k = k

two_fine : (a c : ℕ) → Fine (sign_of_two a c)
two_fine a c = if_fine (a == 60) _ _ (if_fine (c == 61) _ _ refl (if_fine (c == 62) _ _ refl tt)) (if_fine (a == 62) _ _ (if_fine (c == 61) _ _ refl tt) tt)

alone : (a : ℕ) (less greater : Bool) → IsSized 1 (sign_piece a (if less then None else if greater then None else None))
alone a true greater = record { least = omega arith; most = omega arith; no_end = one_no_end a }
alone a false true = record { least = omega arith; most = omega arith; no_end = one_no_end a }
alone a false false = record { least = omega arith; most = omega arith; no_end = one_no_end a }

paired : (a size : ℕ) → 2 ≤ size → (sign : Option Sign) → Fine sign → IsSized size (sign_piece a sign)
paired a size two None fine = record { least = omega arith; most = omega arith; no_end = one_no_end a }
paired a size two (Some sign) fine = record { least = omega arith; most = omega arith; no_end = fine }

sign_sized : (a : ℕ) (text : List ℕ) → IsSized (length (a ∷ text)) (sign_piece a (sign_of_two a (slice_index (a ∷ text) 1)))
sign_sized a [] = alone a (a == 60) (a == 62)
sign_sized a (c ∷ text) = paired a (length (a ∷ c ∷ text)) (omega arith) (sign_of_two a c) (two_fine a c)

named : (schema : Schema) (a n : ℕ) (text : List ℕ) → 1 ≤ n → n ≤ length (a ∷ text) → IsSized (length (a ∷ text)) (name_piece schema (take n (a ∷ text)) (drop n (a ∷ text)))
named schema a n text some fits =
    let front : length (take n (a ∷ text)) ≡ n = length-take-le n (a ∷ text) fits in
    let whole : length (take n (a ∷ text)) + length (drop n (a ∷ text)) ≡ length (a ∷ text) = omega (arith, front, length-drop n (a ∷ text)) in
    subst (λ k. IsSized k (name_piece schema (take n (a ∷ text)) (drop n (a ∷ text)))) whole (name_sized schema (take n (a ∷ text)) (drop n (a ∷ text)) (omega (arith, front, some)))

chosen : (schema : Schema) (a : ℕ) (text : List ℕ) (d l : Bool) → is_ascii_digit a ≡ d → is_letter a ≡ l
    → IsSized (length (a ∷ text)) (
    if d then record { sign = number_sign (digits_value 10 (take (prefix_len is_ascii_digit (a ∷ text)) (a ∷ text))); size = prefix_len is_ascii_digit (a ∷ text) }
    else if l then name_piece schema (take (prefix_len is_name_byte (a ∷ text)) (a ∷ text)) (drop (prefix_len is_name_byte (a ∷ text)) (a ∷ text))
    else sign_piece a (sign_of_two a (slice_index (a ∷ text) 1))
    )
chosen schema a text true l e f = number_sized a text e
chosen schema a text false true e f =
    named schema a (prefix_len is_name_byte (a ∷ text)) text (some_pass is_name_byte a text (letter_named (is_ascii_digit a) (is_in_range 65 90 a) (is_in_range 97 122 a) (a == 95) f)) (prefix_len-le-length is_name_byte (a ∷ text))
chosen schema a text false false e f = sign_sized a text

pub piece_sized : (schema : Schema) (text : List ℕ) → 0 < length text → IsSized (length text) (piece_of schema text)
unfolding piece_of
piece_sized schema [] some = absurd (omega (arith, some))
piece_sized schema (a ∷ text) some = chosen schema a text (is_ascii_digit a) (is_letter a) refl refl
