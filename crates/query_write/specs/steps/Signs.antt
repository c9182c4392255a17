-- The tokens of a written query beside the pieces of its text: what the piece of a token is, and what tokens stand side by side.
use Rattle.std.specs.Prelude.{◌≡◌, ◌≢◌, ◌≤◌, ◌<◌, ◌^◌, ℕ, List, [], ◌∷◌, Bool, true, false, Option, Some, None, nat_lt, Contains, All, decimal, length, map, encode_utf8_all}
use Rattle.std.specs.List.{list_all}
use Rattle.std.specs.Str.{chars}
use Rattle.std.proofs.Math.Utf8.{scalar}
use Rattle.doc_types.specs.declared.tokens.TheConstants.{MAX_WORD_CHARS}
use Rattle.doc_types.specs.declared.schema.Schema.{Schema}
use Rattle.query_pieces.specs.declared.piece.Slice.{Slice}
use Rattle.query_pieces.specs.declared.piece.Number.{Number}
use Rattle.query_pieces.specs.declared.piece.Number.TheVariants as numbers
use Rattle.query_pieces.specs.declared.piece.Names.{Names}
use Rattle.query_pieces.specs.declared.piece.Names.TheVariants as names
use Rattle.query_pieces.specs.declared.piece.Spelling.{Spelling}
use Rattle.query_pieces.specs.declared.piece.Quotation.{Quotation}
use Rattle.query_pieces.specs.declared.piece.FieldLimit.{FieldLimit}
use Rattle.query_pieces.specs.declared.piece.ZoneLimit.{ZoneLimit}
use Rattle.query_pieces.specs.declared.piece.Form.{Form}
use Rattle.query_pieces.specs.declared.piece.Form.TheVariants as forms
use Rattle.query_pieces.specs.declared.piece.Piece.{Piece}
use Rattle.query_pieces.specs.QueryBytes.{begins_field, is_field_byte, begins_zone, is_zone_byte}
use Rattle.query_pieces.specs.Operators.{are_names, is_listed}
use Rattle.query_tree.specs.declared.key.Key.{Key}
use Rattle.query_tree.specs.declared.key.How.{How}
use Rattle.query_tree.specs.declared.key.How.TheVariants as hows
use Rattle.query_pieces.specs.Letters.{Alphabet}
use Rattle.query_marks.specs.Marks.{alphabet_in, setting_of}
use Rattle.query_marks.specs.QueryWords.{letters_in, words_in}
use Rattle.query_marks.specs.LimitNames.{bytes_of}
use Rattle.query_write.specs.Written.{WrittenToken, parted, padded, named, all_fields, name_of}

-- what texts are read by in an index, with this table
abbrev pub alphabet_by : (ℕ → Option ℕ) → Schema → Alphabet
alphabet_by fold schema = alphabet_in (setting_of fold schema)

-- ---- what the piece of a token is

-- the number of a quoted piece
abbrev pub IsHow : List ℕ → Number → How → Type 0
IsHow text numbers.Phrase how = how ≡ hows.Phrase
IsHow text (numbers.Within s) how = (n : ℕ) × (how ≡ hows.Within n) × (bytes_of text s ≡ decimal n)
IsHow text (numbers.AtLeast s) how = (n : ℕ) × (how ≡ hows.AtLeast n) × (bytes_of text s ≡ decimal n)
IsHow text (numbers.Share s) how = (digits places : ℕ) × (how ≡ hows.Share digits places) × (bytes_of text s ≡ padded places digits)

-- the names of a field limit; a list is of some fields
abbrev pub AreFields : List (List ℕ) → List ℕ → Bool → Names → ℕ → Type 0
AreFields fields text false names.All n = n ≡ all_fields fields
AreFields fields text true names.All n = n ≡ 0
AreFields fields text false (names.Listed s) n = (n ≢ 0) × (bytes_of text s ≡ parted 44 (named fields n))
AreFields fields text true (names.Listed s) n = ⊥

abbrev pub ArePositions : List ℕ → Option Slice → ℕ → Type 0
ArePositions text None n = n ≡ 65535
ArePositions text (Some s) n = bytes_of text s ≡ decimal n

abbrev pub IsZoneLimit : Schema → List ℕ → Bool → List ℕ → Form → Type 0
IsZoneLimit schema text span zones form =
    (limit : ZoneLimit) × (form ≡ forms.Zones limit) × (limit.span ≡ span) × (bytes_of text limit.names ≡ parted 44 (map (name_of schema.zones) zones))

-- the piece of a token
abbrev pub IsPieceOf : (ℕ → Option ℕ) → Schema → List ℕ → WrittenToken → Form → Type 0
IsPieceOf fold schema text WrittenToken.Space form = form ≡ forms.Separator
IsPieceOf fold schema text WrittenToken.Open form = form ≡ forms.Open
IsPieceOf fold schema text WrittenToken.Close form = form ≡ forms.Close
IsPieceOf fold schema text WrittenToken.Or form = form ≡ forms.Or
IsPieceOf fold schema text WrittenToken.Maybe form = form ≡ forms.Maybe
IsPieceOf fold schema text WrittenToken.Before form = form ≡ forms.Before
IsPieceOf fold schema text (WrittenToken.Near n) form = (s : Slice) × (form ≡ forms.Near s) × (bytes_of text s ≡ decimal n)
IsPieceOf fold schema text WrittenToken.Sentence form = form ≡ forms.Sentence
IsPieceOf fold schema text WrittenToken.Paragraph form = form ≡ forms.Paragraph
IsPieceOf fold schema text WrittenToken.Not form = form ≡ forms.Not
IsPieceOf fold schema text (WrittenToken.Word key) form =
    (w : Spelling) × (form ≡ forms.Word w) × (words_in fold (bytes_of text w.letters) ≡ key.word ∷ []) × (w.start ≡ key.start) × (w.end ≡ key.end) × (w.prefix ≡ key.prefix) × (length (letters_in fold (chars (bytes_of text w.letters))) ≡ length (chars key.word))
IsPieceOf fold schema text (WrittenToken.Quoted keys how) form =
    (q : Quotation) × (form ≡ forms.Quoted q) × (words_in fold (bytes_of text q.inside) ≡ map (λ key. key.word) keys) × IsHow text q.number how
IsPieceOf fold schema text (WrittenToken.Fields n positions) form =
    (limit : FieldLimit) × (form ≡ forms.Fields limit) × AreFields schema.fields text limit.negated limit.names n × ArePositions text limit.positions positions
IsPieceOf fold schema text (WrittenToken.Zones zones) form = IsZoneLimit schema text false zones form
IsPieceOf fold schema text (WrittenToken.Spans zones) form = IsZoneLimit schema text true zones form

-- the pieces of tokens, one for each
abbrev pub ArePiecesOf : (ℕ → Option ℕ) → Schema → List ℕ → List WrittenToken → List Piece → Type 0
ArePiecesOf fold schema text [] [] = Unit {0}
ArePiecesOf fold schema text [] (p ∷ pieces) = ⊥
ArePiecesOf fold schema text (token ∷ tokens) [] = ⊥
ArePiecesOf fold schema text (token ∷ tokens) (p ∷ pieces) = IsPieceOf fold schema text token p.form × ArePiecesOf fold schema text tokens pieces

-- ---- what a token needs, so that it can be read

-- The word of a text: characters that the table folds to themselves, as many as words are cut to at most.
pub record IsPlainWord (fold : ℕ → Option ℕ) (word : List ℕ) : Type 0 where
  pub chars : List ℕ
  pub is : word ≡ encode_utf8_all chars
  pub some : chars ≢ []
  pub short : length chars ≤ MAX_WORD_CHARS
  pub are_chars : (c : ℕ) → Contains chars c → scalar c ≡ true
  pub folded : (c : ℕ) → Contains chars c → fold c ≡ Some c

-- A prefix that the index takes: it has letters enough, and no end mark.
pub record IsPrefixOf (schema : Schema) (key : Key) : Type 0 where
  pub taken : nat_lt 0 schema.min_prefix ≡ true
  pub goes_on : key.end ≡ false
  pub enough : schema.min_prefix ≤ length (chars key.word)

-- a keyword that the index takes
abbrev pub IsKeyOf : Schema → Key → Type 0
IsKeyOf schema key = key.prefix ≡ true → IsPrefixOf schema key

-- a keyword of a quoted piece
abbrev pub IsPlainKey : (ℕ → Option ℕ) → Key → Type 0
IsPlainKey fold key = IsPlainWord fold key.word × (key.start ≡ false) × (key.end ≡ false) × (key.prefix ≡ false)

-- a number of digits
abbrev pub IsSmall : ℕ → Type 0
IsSmall n = n < 2 ^ 64

abbrev pub HasSmall : How → Type 0
HasSmall hows.Phrase = Unit {0}
HasSmall (hows.Within n) = IsSmall n
HasSmall (hows.AtLeast n) = IsSmall n
HasSmall (hows.Share digits places) = IsSmall digits

abbrev pub HaveNames : (ℕ → Bool) → (ℕ → Bool) → List (List ℕ) → Type 0
HaveNames begins further list = (are_names begins true (parted 44 list) ≡ true) × (list_all (is_listed further) (parted 44 list) ≡ true)

abbrev pub CanBeRead : (ℕ → Option ℕ) → Schema → WrittenToken → Type 0
CanBeRead fold schema (WrittenToken.Near n) = IsSmall n
CanBeRead fold schema (WrittenToken.Word key) = IsPlainWord fold key.word × IsKeyOf schema key
CanBeRead fold schema (WrittenToken.Quoted keys how) = All (IsPlainKey fold) keys × HasSmall how
CanBeRead fold schema (WrittenToken.Fields n positions) =
    ((n ≢ all_fields schema.fields) → (n ≢ 0) → HaveNames begins_field is_field_byte (named schema.fields n)) × IsSmall positions
CanBeRead fold schema (WrittenToken.Zones zones) = HaveNames begins_zone is_zone_byte (map (name_of schema.zones) zones)
CanBeRead fold schema (WrittenToken.Spans zones) = HaveNames begins_zone is_zone_byte (map (name_of schema.zones) zones)
CanBeRead fold schema _ = Unit {0}

-- ---- which tokens stand side by side

-- a token after which a space, `)` or the end stands
abbrev pub is_closed : WrittenToken → Bool
is_closed WrittenToken.Space = true
is_closed WrittenToken.Close = true
is_closed _ = false

abbrev pub is_space : WrittenToken → Bool
is_space WrittenToken.Space = true
is_space _ = false

-- what stands after `(`
abbrev pub is_within : WrittenToken → Bool
is_within WrittenToken.Space = true
is_within (WrittenToken.Fields n positions) = true
is_within (WrittenToken.Spans zones) = true
is_within _ = false

-- what stands after a space
abbrev pub is_spaced : WrittenToken → Bool
is_spaced WrittenToken.Space = false
is_spaced (WrittenToken.Fields n positions) = false
is_spaced (WrittenToken.Spans zones) = false
is_spaced _ = true

-- what stands after NOT
abbrev pub is_atom : WrittenToken → Bool
is_atom WrittenToken.Open = true
is_atom (WrittenToken.Word key) = true
is_atom (WrittenToken.Quoted keys how) = true
is_atom _ = false

-- a token stands after another
abbrev pub follows : WrittenToken → WrittenToken → Bool
follows WrittenToken.Space next = is_spaced next
follows WrittenToken.Open next = is_within next
follows WrittenToken.Close next = is_closed next
follows (WrittenToken.Word key) next = is_closed next
follows (WrittenToken.Quoted keys how) next = is_closed next
follows WrittenToken.Not next = is_atom next
follows _ next = is_space next

-- each stands after the one before it
abbrev pub AreSpaced : List WrittenToken → Type 0
AreSpaced [] = Unit {0}
AreSpaced (token ∷ []) = Unit {0}
AreSpaced (token ∷ next ∷ tokens) = (follows token next ≡ true) × AreSpaced (next ∷ tokens)
