-- Operators, limits and quoted pieces.
use Rattle.std.specs.Prelude.{ℕ, ◌+◌, List, [], ◌∷◌, Bool, true, false, ◌==◌, ◌&&◌, ◌||◌, not, nat_lt, Option, Some, None, if◌then◌else◌, codes, length, slice_range}
use Rattle.std.specs.Option.{option_map}
use Rattle.query_pieces.specs.QueryBytes.{byte, byte_before, is_blank, is_bound, opens_not, begins_field, is_field_byte, begins_zone, is_zone_byte, spells, run_end, digits_end}
use Rattle.query_pieces.specs.declared.piece.Slice.{Slice}
use Rattle.query_pieces.specs.declared.piece.Number.{Number}
use Rattle.query_pieces.specs.declared.piece.Number.TheVariants as numbers
use Rattle.query_pieces.specs.declared.piece.Names.{Names}
use Rattle.query_pieces.specs.declared.piece.Names.TheVariants as names
use Rattle.query_pieces.specs.declared.piece.Form.{Form}
use Rattle.query_pieces.specs.declared.piece.Form.TheVariants as forms
use Rattle.query_pieces.specs.declared.piece.Piece.{Piece}

abbrev pub slice : ℕ → ℕ → Slice
slice from to = record { from = from; to = to }

abbrev pub piece : Form → ℕ → Piece
piece form to = record { form = form; to = to }

-- the piece, where the test holds
abbrev pub where_holds : Bool → Piece → Option Piece
where_holds test p = if test then Some p else None

-- NOT: `-` or `!` at the start, or after a blank, `(`, `|` or `"`, with a character after it that is no blank
abbrev pub not_at : List ℕ → ℕ → Option Piece
not_at text place = where_holds (opens_not (byte_before text place) && not (is_blank (byte text (place + 1)))) (piece forms.Not (place + 1))

-- `<<`
abbrev pub before_at : List ℕ → ℕ → Option Piece
before_at text place = where_holds (byte text (place + 1) == 60) (piece forms.Before (place + 2))

-- an operator written in letters, between bounds
abbrev pub lettered_at : List ℕ → ℕ → List ℕ → Form → Option Piece
lettered_at text place word form =
    where_holds (is_bound (byte_before text place) && spells text place word && is_bound (byte text (place + length word))) (piece form (place + length word))

-- `NEAR/` and digits, between bounds
abbrev pub near_at : List ℕ → ℕ → Option Piece
near_at text place =
    let to = digits_end text (place + 5) in
    where_holds (is_bound (byte_before text place) && spells text place (codes "NEAR/") && nat_lt (place + 5) to && is_bound (byte text to)) (piece (forms.Near (slice (place + 5) to)) to)

-- The bytes are names with one comma between two of them. At the start of a name the flag is true.
abbrev pub are_names : (ℕ → Bool) → Bool → List ℕ → Bool
are_names begins fresh [] = not fresh
are_names begins true (b ∷ bytes) = begins b && are_names begins false bytes
are_names begins false (b ∷ bytes) = if b == 44 then are_names begins true bytes else are_names begins false bytes

-- names, with the place after them
pub record NamesAt : Type 0 where
  pub names : Slice
  pub to : ℕ

-- a byte of a list of names
abbrev pub is_listed : (ℕ → Bool) → ℕ → Bool
is_listed further b = further b || (b == 44)

-- `(y,z)`: names between parentheses, the first of which stands at the place
abbrev pub list_at : (ℕ → Bool) → (ℕ → Bool) → List ℕ → ℕ → Option NamesAt
list_at begins further text place =
    let to = run_end (is_listed further) text (place + 1) in
    if (byte text to == 41) && are_names begins true (slice_range text (place + 1) to)
    then Some (record { names = slice (place + 1) to; to = to + 1 })
    else None

-- one name
abbrev pub name_at : (ℕ → Bool) → (ℕ → Bool) → List ℕ → ℕ → Option NamesAt
name_at begins further text place =
    if begins (byte text place)
    then Some (record { names = slice place (run_end further text place); to = run_end further text place })
    else None

-- one name, or a list of them
abbrev pub names_at : (ℕ → Bool) → (ℕ → Bool) → List ℕ → ℕ → Option NamesAt
names_at begins further text place = if byte text place == 40 then list_at begins further text place else name_at begins further text place

-- a field limit, with `[N]` where it follows directly
abbrev pub limit_with : List ℕ → Bool → Names → ℕ → Piece
limit_with text negated names to =
    let last = digits_end text (to + 1) in
    if (byte text to == 91) && nat_lt (to + 1) last && (byte text last == 93)
    then piece (forms.Fields (record { negated = negated; names = names; positions = Some (slice (to + 1) last) })) (last + 1)
    else piece (forms.Fields (record { negated = negated; names = names; positions = None })) to

abbrev pub limit_of : List ℕ → Bool → NamesAt → Piece
limit_of text negated found = limit_with text negated (names.Listed found.names) found.to

-- the names of a field limit, or `*`
abbrev pub fields_from : List ℕ → Bool → ℕ → Option Piece
fields_from text negated place =
    if byte text place == 42
    then Some (limit_with text negated names.All (place + 1))
    else option_map (limit_of text negated) (names_at begins_field is_field_byte text place)

-- a field limit, whose `@` stands at the place
abbrev pub fields_at : List ℕ → ℕ → Option Piece
fields_at text place = if byte text (place + 1) == 33 then fields_from text true (place + 2) else fields_from text false (place + 1)

abbrev pub zones_of : Bool → NamesAt → Piece
zones_of span found = piece (forms.Zones (record { span = span; names = found.names })) found.to

-- A zone limit. Directly after a letter of a word, or after `^`, there is none.
abbrev pub zones_at : List ℕ → Bool → ℕ → Option Piece
zones_at text inside place =
    if inside || (byte_before text place == 94) then None else
    if spells text place (codes "ZONE:") then option_map (zones_of false) (names_at begins_zone is_zone_byte text (place + 5)) else
    if spells text place (codes "ZONESPAN:") then option_map (zones_of true) (names_at begins_zone is_zone_byte text (place + 9)) else
    None

-- what a number of a quoted piece is, and the place after it
pub record NumberAt : Type 0 where
  pub number : Number
  pub to : ℕ

-- `~N`, `/k` or `/0.d`, directly after the quote
abbrev pub number_at : List ℕ → ℕ → NumberAt
number_at text place =
    let to = digits_end text (place + 1) in
    let last = digits_end text (place + 3) in
    if (byte text place == 126) && nat_lt (place + 1) to then record { number = numbers.Within (slice (place + 1) to); to = to } else
    if (byte text place == 47) && spells text (place + 1) (codes "0.") && nat_lt (place + 3) last then record { number = numbers.Share (slice (place + 3) last); to = last } else
    if (byte text place == 47) && nat_lt (place + 1) to then record { number = numbers.AtLeast (slice (place + 1) to); to = to } else
    record { number = numbers.Phrase; to = place }

-- a byte that isn't a quote
abbrev pub is_inside : ℕ → Bool
is_inside b = not (b == 34)

-- the next quote from a place on, or the text's end
abbrev pub quote_end : List ℕ → ℕ → ℕ
quote_end text place = run_end is_inside text place

-- a quoted piece, whose first quote stands at the place
abbrev pub quoted_at : List ℕ → ℕ → Piece
quoted_at text place =
    let last = quote_end text (place + 1) in
    if nat_lt last (length text)
    then (let found = number_at text (last + 1) in piece (forms.Quoted (record { inside = slice (place + 1) last; number = found.number })) found.to)
    else piece forms.Unclosed (length text)

-- `@@relaxed`, at the text's start alone
abbrev pub relaxed_at : List ℕ → ℕ → Bool
relaxed_at text place = (place == 0) && spells text 0 (codes "@@relaxed") && not (is_field_byte (byte text 9))

abbrev pub at_sign_at : List ℕ → ℕ → Option Piece
at_sign_at text place = if relaxed_at text place then Some (piece forms.Relaxed 9) else fields_at text place

-- What begins at a place besides words, by the byte there. The flag says that a letter of a word stands directly before it.
abbrev pub operator_by : List ℕ → Bool → ℕ → ℕ → Option Piece
operator_by text inside place b =
    if b == 34 then Some (quoted_at text place) else
    if b == 40 then Some (piece forms.Open (place + 1)) else
    if b == 41 then Some (piece forms.Close (place + 1)) else
    if b == 124 then Some (piece forms.Or (place + 1)) else
    if b == 60 then before_at text place else
    if (b == 45) || (b == 33) then not_at text place else
    if b == 64 then at_sign_at text place else
    if b == 90 then zones_at text inside place else
    if b == 77 then lettered_at text place (codes "MAYBE") forms.Maybe else
    if b == 83 then lettered_at text place (codes "SENTENCE") forms.Sentence else
    if b == 80 then lettered_at text place (codes "PARAGRAPH") forms.Paragraph else
    if b == 78 then near_at text place else
    None

unfoldable pub operator_at : List ℕ → Bool → ℕ → Option Piece
operator_at text inside place = operator_by text inside place (byte text place)
