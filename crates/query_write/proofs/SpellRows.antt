-- The text of written tokens has these pieces, one for each.
use Rattle.std.proofs.Common.{◌≡◌, ◌≢◌, ℕ, ◌+◌, Bool, true, false, eqb, List, [], ◌∷◌, ◌++◌, length, get_or, encode_utf8_all, All, refl, ap, ◌∙◌, arith, append_assoc, length-append}
use Rattle.std.specs.Prelude.{Option}
use Rattle.std.proofs.lemmas.Bool.{both_ways}
use Rattle.std.proofs.lemmas.Bool.Decides.{nat_tests}
use Rattle.std.proofs.lemmas.List.Elements.{All-head, All-tail}
use Rattle.doc_types.specs.declared.schema.Schema.{Schema}
use Rattle.query_pieces.specs.declared.piece.Piece.{Piece}
use Rattle.query_pieces.specs.QueryBytes.{byte_before, is_bound, is_blank, opens_not}
use Rattle.query_pieces.specs.Operators.{piece}
use Rattle.query_pieces.specs.Pieces.{Splits, ArePieces, ends_in_letter}
use Rattle.query_tree.specs.declared.key.Key.{Key}
use Rattle.query_write.specs.Spelling.{is_plain, spelled}
use Rattle.query_write.specs.Written.{WrittenToken, token_text, tokens_text}
use Rattle.query_write.specs.steps.Signs.{alphabet_by, ArePiecesOf, IsPlainWord, CanBeRead, follows, is_atom, is_closed, is_space, AreSpaced}
use Rattle.query_write.proofs.SpellPlaces.{IsRest, rest_whole, rest_to}
use Rattle.query_write.proofs.SpellLetters.{HasNone}
use Rattle.query_write.proofs.SpellWordPiece.{parts_word, first_byte, start_text, end_text, word_bytes}
use Rattle.query_write.proofs.SpellTokens.{Needs, Allows, Leaves, Reads, token_reads}

-- ---- what stands first in a token
pub space_first : (schema : Schema) (token : WrittenToken) (more : List ℕ) → is_space token ≡ true → get_or (token_text schema token ++ more) 0 32 ≡ 32
space_first schema WrittenToken.Space more is = refl
space_first schema _ more is = absurd (both_ways false refl is)

pub closed_first : (schema : Schema) (token : WrittenToken) (more : List ℕ) → is_closed token ≡ true → parts_word (get_or (token_text schema token ++ more) 0 32) ≡ true
closed_first schema WrittenToken.Space more is = refl
closed_first schema WrittenToken.Close more is = refl
closed_first schema _ more is = absurd (both_ways false refl is)

plain_no_blank : (b : ℕ) → is_plain b ≡ true → is_blank b ≡ false
plain_no_blank b plain = grind (arith, nat_tests)

word_first : (fold : ℕ → Option ℕ) (key : Key) (more : List ℕ) → IsPlainWord fold key.word → is_blank (get_or (start_text key.start ++ (spelled key.word ++ end_text key.end key.prefix) ++ more) 0 32) ≡ false
word_first fold key more plain = by key.start plain.chars plain.is plain.some
  where
    by : (start : Bool) (cs : List ℕ) → key.word ≡ encode_utf8_all cs → cs ≢ [] → is_blank (get_or (start_text start ++ (spelled key.word ++ end_text key.end key.prefix) ++ more) 0 32) ≡ false
    by true cs is some = refl
    by false [] is some = absurd (some refl)
    by false (c ∷ cs) is some =
        let bytes = word_bytes c cs in
        let word : key.word ≡ bytes.0 ∷ bytes.1 = is ∙ bytes.2 in
        ap (λ (w : List ℕ). is_blank (get_or (spelled w ++ end_text key.end key.prefix ++ more) 0 32)) word
        ∙ ap (λ (l : List ℕ). is_blank (get_or l 0 32)) (append_assoc (spelled (bytes.0 ∷ bytes.1)) (end_text key.end key.prefix) more)
        ∙ first_byte true bytes.0 bytes.1 (end_text key.end key.prefix ++ more) is_blank plain_no_blank refl

pub atom_first : (fold : ℕ → Option ℕ) (schema : Schema) (token : WrittenToken) (more : List ℕ) → CanBeRead fold schema token → is_atom token ≡ true → is_blank (get_or (token_text schema token ++ more) 0 32) ≡ false
atom_first fold schema WrittenToken.Open more can is = refl
atom_first fold schema (WrittenToken.Word key) more can is = word_first fold key more can.0
atom_first fold schema (WrittenToken.Quoted keys how) more can is = refl
atom_first fold schema _ more can is = absurd (both_ways false refl is)

-- ---- what a token asks, by those beside it
needs_space : (token : WrittenToken) (text : List ℕ) (inside : Bool) (place : ℕ) → is_space token ≡ true → Needs token text inside place
needs_space WrittenToken.Space text inside place is = tt
needs_space _ text inside place is = absurd (both_ways false refl is)

needs_closed : (token : WrittenToken) (text : List ℕ) (inside : Bool) (place : ℕ) → is_closed token ≡ true → Needs token text inside place
needs_closed WrittenToken.Space text inside place is = tt
needs_closed WrittenToken.Close text inside place is = tt
needs_closed _ text inside place is = absurd (both_ways false refl is)

pub needs_atom : (token : WrittenToken) (text : List ℕ) (inside : Bool) (place : ℕ) → is_atom token ≡ true → Needs token text inside place
needs_atom WrittenToken.Open text inside place is = tt
needs_atom (WrittenToken.Word key) text inside place is = tt
needs_atom (WrittenToken.Quoted keys how) text inside place is = tt
needs_atom _ text inside place is = absurd (both_ways false refl is)

-- after a space, or a `(`: no letter stands before, and this byte does, which bounds operators in letters and is no `^`
needs_after : (b : ℕ) (token : WrittenToken) (text : List ℕ) (inside : Bool) (place : ℕ) → opens_not b ≡ true → is_bound b ≡ true → eqb b 94 ≡ false → inside ≡ false → byte_before text place ≡ b → Needs token text inside place
needs_after b WrittenToken.Space text inside place opens bound other outside before = tt
needs_after b WrittenToken.Open text inside place opens bound other outside before = tt
needs_after b WrittenToken.Close text inside place opens bound other outside before = tt
needs_after b WrittenToken.Or text inside place opens bound other outside before = tt
needs_after b WrittenToken.Maybe text inside place opens bound other outside before = ap is_bound before ∙ bound
needs_after b WrittenToken.Before text inside place opens bound other outside before = tt
needs_after b (WrittenToken.Near n) text inside place opens bound other outside before = ap is_bound before ∙ bound
needs_after b WrittenToken.Sentence text inside place opens bound other outside before = ap is_bound before ∙ bound
needs_after b WrittenToken.Paragraph text inside place opens bound other outside before = ap is_bound before ∙ bound
needs_after b WrittenToken.Not text inside place opens bound other outside before = ap opens_not before ∙ opens
needs_after b (WrittenToken.Word key) text inside place opens bound other outside before = tt
needs_after b (WrittenToken.Quoted keys how) text inside place opens bound other outside before = tt
needs_after b (WrittenToken.Fields n positions) text inside place opens bound other outside before = tt
needs_after b (WrittenToken.Zones zones) text inside place opens bound other outside before = (outside, ap (λ (c : ℕ). eqb c 94) before ∙ other)
needs_after b (WrittenToken.Spans zones) text inside place opens bound other outside before = (outside, ap (λ (c : ℕ). eqb c 94) before ∙ other)

needs_next : (token next : WrittenToken) (text : List ℕ) (inside : Bool) (place : ℕ) → follows token next ≡ true → Leaves token text inside place → Needs next text inside place
needs_next WrittenToken.Space next text inside place is leaves = needs_after 32 next text inside place refl refl refl leaves.0 leaves.1
needs_next WrittenToken.Open next text inside place is leaves = needs_after 40 next text inside place refl refl refl leaves.0 leaves.1
needs_next WrittenToken.Close next text inside place is leaves = needs_closed next text inside place is
needs_next WrittenToken.Or next text inside place is leaves = needs_space next text inside place is
needs_next WrittenToken.Maybe next text inside place is leaves = needs_space next text inside place is
needs_next WrittenToken.Before next text inside place is leaves = needs_space next text inside place is
needs_next (WrittenToken.Near n) next text inside place is leaves = needs_space next text inside place is
needs_next WrittenToken.Sentence next text inside place is leaves = needs_space next text inside place is
needs_next WrittenToken.Paragraph next text inside place is leaves = needs_space next text inside place is
needs_next WrittenToken.Not next text inside place is leaves = needs_atom next text inside place is
needs_next (WrittenToken.Word key) next text inside place is leaves = needs_closed next text inside place is
needs_next (WrittenToken.Quoted keys how) next text inside place is leaves = needs_closed next text inside place is
needs_next (WrittenToken.Fields n positions) next text inside place is leaves = needs_space next text inside place is
needs_next (WrittenToken.Zones zones) next text inside place is leaves = needs_space next text inside place is
needs_next (WrittenToken.Spans zones) next text inside place is leaves = needs_space next text inside place is

-- the token isn't NOT, after which something has to stand
abbrev pub may_be_last : WrittenToken → Bool
may_be_last WrittenToken.Not = false
may_be_last _ = true

allows_end : (token : WrittenToken) → may_be_last token ≡ true → Allows token 32
allows_end WrittenToken.Space is = tt
allows_end WrittenToken.Open is = tt
allows_end WrittenToken.Close is = tt
allows_end WrittenToken.Or is = tt
allows_end WrittenToken.Maybe is = refl
allows_end WrittenToken.Before is = tt
allows_end (WrittenToken.Near n) is = refl
allows_end WrittenToken.Sentence is = refl
allows_end WrittenToken.Paragraph is = refl
allows_end WrittenToken.Not is = absurd (both_ways false refl is)
allows_end (WrittenToken.Word key) is = refl
allows_end (WrittenToken.Quoted keys how) is = refl
allows_end (WrittenToken.Fields n positions) is = refl
allows_end (WrittenToken.Zones zones) is = tt
allows_end (WrittenToken.Spans zones) is = tt

allows_next : (fold : ℕ → Option ℕ) (schema : Schema) (token next : WrittenToken) (more : List ℕ) → CanBeRead fold schema next → follows token next ≡ true → Allows token (get_or (token_text schema next ++ more) 0 32)
allows_next fold schema WrittenToken.Space next more can is = tt
allows_next fold schema WrittenToken.Open next more can is = tt
allows_next fold schema WrittenToken.Close next more can is = tt
allows_next fold schema WrittenToken.Or next more can is = tt
allows_next fold schema WrittenToken.Maybe next more can is = space_first schema next more is
allows_next fold schema WrittenToken.Before next more can is = tt
allows_next fold schema (WrittenToken.Near n) next more can is = space_first schema next more is
allows_next fold schema WrittenToken.Sentence next more can is = space_first schema next more is
allows_next fold schema WrittenToken.Paragraph next more can is = space_first schema next more is
allows_next fold schema WrittenToken.Not next more can is = atom_first fold schema next more can is
allows_next fold schema (WrittenToken.Word key) next more can is = closed_first schema next more is
allows_next fold schema (WrittenToken.Quoted keys how) next more can is = closed_first schema next more is
allows_next fold schema (WrittenToken.Fields n positions) next more can is = space_first schema next more is
allows_next fold schema (WrittenToken.Zones zones) next more can is = tt
allows_next fold schema (WrittenToken.Spans zones) next more can is = tt

-- ---- the row
-- the last of some tokens isn't NOT
abbrev pub ends_well : List WrittenToken → Bool
ends_well [] = true
ends_well (token ∷ []) = may_be_last token
ends_well (token ∷ next ∷ tokens) = ends_well (next ∷ tokens)

-- the first of some tokens, if there is one, is an atom
abbrev pub begins_well : List WrittenToken → Bool
begins_well [] = true
begins_well (token ∷ tokens) = is_atom token

-- what the first of some tokens asks of what stands before it
abbrev NeedsFirst : List WrittenToken → List ℕ → Bool → ℕ → Type 0
NeedsFirst [] text inside place = Unit {0}
NeedsFirst (token ∷ tokens) text inside place = Needs token text inside place

-- the rest of a text, which is all of it from the place on
record IsLeft (text : List ℕ) (place : ℕ) (rest : List ℕ) : Type 0 where
  at : IsRest text place rest
  size : length text ≡ place + length rest

row_reads : (fold : ℕ → Option ℕ) (schema : Schema) (text : List ℕ) (inside : Bool) (place : ℕ) (tokens : List WrittenToken) → HasNone fold → AreSpaced tokens → ends_well tokens ≡ true → All (CanBeRead fold schema) tokens → NeedsFirst tokens text inside place → IsLeft text place (tokens_text schema tokens) → (pieces : List Piece) × Splits (alphabet_by fold schema) text inside place pieces (length text) × ArePiecesOf fold schema text tokens pieces
row_reads fold schema text inside place [] none spaced ends can needs left = ([], omega (arith, left.size), tt)
row_reads fold schema text inside place (token ∷ tokens) none spaced ends can needs left =
    let first : CanBeRead fold schema token = All-head (CanBeRead fold schema) token tokens can in
    let others : All (CanBeRead fold schema) tokens = All-tail (CanBeRead fold schema) token tokens can in
    let one : Reads fold schema text inside place token = token_reads fold schema text inside place token (tokens_text schema tokens) none first needs (allowed tokens spaced ends others) left.at in
    let next : IsLeft text one.to (tokens_text schema tokens) = record {
      at = rest_to text place one.to (token_text schema token) (tokens_text schema tokens) one.ends left.at;
      size = omega (arith, left.size, one.ends, length-append (token_text schema token) (tokens_text schema tokens));
    } in
    let row = row_reads fold schema text (ends_in_letter one.form) one.to tokens none (spaced_rest tokens spaced) (ends_rest tokens ends) others (needed tokens (ends_in_letter one.form) one.to spaced one.leaves) next in
    (piece one.form one.to ∷ row.0, (omega (arith, left.size, one.ends, one.some, length-append (token_text schema token) (tokens_text schema tokens)), one.stands, row.1), (one.is, row.2))
  where
    allowed : (list : List WrittenToken) → AreSpaced (token ∷ list) → ends_well (token ∷ list) ≡ true → All (CanBeRead fold schema) list → Allows token (get_or (tokens_text schema list) 0 32)
    allowed [] spaced ends all = allows_end token ends
    allowed (next ∷ list) spaced ends all = allows_next fold schema token next (tokens_text schema list) (All-head (CanBeRead fold schema) next list all) spaced.0

    spaced_rest : (list : List WrittenToken) → AreSpaced (token ∷ list) → AreSpaced list
    spaced_rest [] spaced = tt
    spaced_rest (next ∷ list) spaced = spaced.1

    ends_rest : (list : List WrittenToken) → ends_well (token ∷ list) ≡ true → ends_well list ≡ true
    ends_rest [] ends = refl
    ends_rest (next ∷ list) ends = ends

    needed : (list : List WrittenToken) (flag : Bool) (to : ℕ) → AreSpaced (token ∷ list) → Leaves token text flag to → NeedsFirst list text flag to
    needed [] flag to spaced leaves = tt
    needed (next ∷ list) flag to spaced leaves = needs_next token next text flag to spaced.0 leaves

-- The pieces of the text of written tokens.
pub text_pieces : (fold : ℕ → Option ℕ) (schema : Schema) (tokens : List WrittenToken) → HasNone fold → AreSpaced tokens → begins_well tokens ≡ true → ends_well tokens ≡ true → All (CanBeRead fold schema) tokens → (pieces : List Piece) × ArePieces (alphabet_by fold schema) (tokens_text schema tokens) pieces × ArePiecesOf fold schema (tokens_text schema tokens) tokens pieces
text_pieces fold schema tokens none spaced begins ends can =
    row_reads fold schema (tokens_text schema tokens) false 0 tokens none spaced ends can (first tokens begins) (record { at = rest_whole (tokens_text schema tokens); size = omega arith })
  where
    first : (list : List WrittenToken) → begins_well list ≡ true → NeedsFirst list (tokens_text schema tokens) false 0
    first [] begins = tt
    first (token ∷ list) begins = needs_atom token (tokens_text schema tokens) false 0 begins
