-- Marks: what each piece of a text means by the pieces before it, and what is wrong with it by itself. A text with which
-- something is wrong has no query, and what no query has is cut short: keywords are counted up to the 256th, a number out of
-- range counts as 0, and the words of a piece with which the 256th is reached stand for nobody.
use Rattle.std.specs.Prelude.{ℕ, ◌+◌, List, [], ◌∷◌, ◌++◌, Bool, true, false, ◌==◌, ◌&&◌, nat_lt, nat_le, Option, Some, None, if◌then◌else◌, length}
use Rattle.std.specs.Option.{option_map}
use Rattle.std.specs.Str.{chars, str_to_ascii_lowercase}
use Rattle.doc_types.specs.declared.schema.Schema.{Schema}
use Rattle.query_pieces.specs.declared.piece.Slice.{Slice}
use Rattle.query_pieces.specs.declared.piece.Names.{Names}
use Rattle.query_pieces.specs.declared.piece.Names.TheVariants as names
use Rattle.query_pieces.specs.declared.piece.ZoneLimit.{ZoneLimit}
use Rattle.query_pieces.specs.declared.piece.Form.{Form}
use Rattle.query_pieces.specs.declared.piece.Form.TheVariants as forms
use Rattle.query_pieces.specs.declared.piece.Piece.{Piece}
use Rattle.query_tree.specs.declared.key.Key.{Key}
use Rattle.query_tree.specs.declared.key.Limit.{Limit}
use Rattle.query_tree.specs.declared.key.How.{How}
use Rattle.query_tree.specs.declared.key.How.TheVariants as hows
use Rattle.query_marks.specs.declared.fault.QueryKind.{QueryKind}
use Rattle.query_marks.specs.declared.fault.QueryKind.TheVariants as kinds
use Rattle.query_marks.specs.declared.fault.Wrong.{Wrong}
use Rattle.query_marks.specs.declared.limits.Limits.{Limits}
use Rattle.query_marks.specs.declared.mark.Mark.{Mark}
use Rattle.query_marks.specs.declared.mark.Sign.{Sign}
use Rattle.query_marks.specs.declared.mark.Sign.TheVariants as signs
use Rattle.query_marks.specs.declared.state.State.{State}
use Rattle.query_pieces.specs.Letters.{Alphabet}
use Rattle.query_marks.specs.QueryWords.{letters_in, words_in}
use Rattle.query_marks.specs.LimitNames.{bytes_of, first_unknown, has_long, numbers_of, number_of}
use Rattle.query_marks.specs.Hows.{how_of, is_out}
use Rattle.query_marks.specs.Limits.{mask, field_limits, zone_limits}

-- what a text is read by: the table, the names of the fields and of the zones, and the fewest letters of a prefix
pub record Setting : Type 0 where
  pub fold : ℕ → Option ℕ
  pub fields : List (List ℕ)
  pub zones : List (List ℕ)
  pub shortest : ℕ

abbrev pub setting_of : (ℕ → Option ℕ) → Schema → Setting
setting_of fold schema = record { fold = fold; fields = schema.fields; zones = schema.zones; shortest = schema.min_prefix }

-- what the pieces of a text are read by: words may be prefixes where those have a fewest number of letters
abbrev pub alphabet_in : Setting → Alphabet
alphabet_in setting = record { fold = setting.fold; stars = nat_lt 0 setting.shortest }

-- a fault without a name, and one with the name in small letters
abbrev pub nameless : QueryKind → Option Wrong
nameless kind = Some (record { kind = kind; name = [] })

abbrev pub naming : QueryKind → List ℕ → Option Wrong
naming kind name = Some (record { kind = kind; name = str_to_ascii_lowercase name })

-- the numbers of the zones whose names stand there
abbrev pub zone_numbers : List (List ℕ) → List ℕ → Option Slice → List ℕ
zone_numbers zones text None = []
zone_numbers zones text (Some s) = numbers_of zones (bytes_of text s)

-- the limit of a keyword that stands under the limits
abbrev pub limit_of : List (List ℕ) → List ℕ → Limits → Limit
limit_of zones text here = record { fields = here.fields; positions = here.positions; zones = zone_numbers zones text here.zones }

-- the keywords that words are, after so many
abbrev pub keys_after : ℕ → Limit → Bool → Bool → List (List ℕ) → List Key
keys_after n limit start end [] = []
keys_after n limit start end (word ∷ words) =
    record { query = n + 1; word = word; limit = limit; start = start; end = end; prefix = false } ∷ keys_after (n + 1) limit start end words

-- what stands for each keyword of a piece with which the 256th is reached
abbrev pub nobody : Key
nobody = record { query = 0; word = []; limit = record { fields = 0; positions = 0; zones = [] }; start = false; end = false; prefix = false }

-- none, one, or several
abbrev pub nobodies : ℕ → List Key
nobodies n = if n == 0 then [] else if n == 1 then nobody ∷ [] else nobody ∷ nobody ∷ []

abbrev pub keys_of : ℕ → Limit → Bool → Bool → List (List ℕ) → List Key
keys_of n limit start end words = if nat_le (n + length words) 255 then keys_after n limit start end words else nobodies (length words)

-- the 256th keyword is among so many after so many
abbrev pub passes_limit : ℕ → ℕ → Bool
passes_limit n more = nat_le n 255 && nat_lt 255 (n + more)

-- so many keywords more
abbrev pub counted : ℕ → ℕ → ℕ
counted n more = if nat_le (n + more) 255 then n + more else 256

-- the words of a slice
abbrev pub slice_words : Setting → List ℕ → Slice → List (List ℕ)
slice_words setting text s = words_in setting.fold (bytes_of text s)

-- the keyword, as a prefix or as a whole word
abbrev pub as_prefix : Bool → Key → Key
as_prefix prefix key = record { query = key.query; word = key.word; limit = key.limit; start = key.start; end = key.end; prefix = prefix }

-- the sign of a word
abbrev pub word_sign : Bool → List Key → Option Sign
word_sign prefix [] = None
word_sign prefix (key ∷ keys) = Some (signs.Bare (as_prefix prefix key))

-- the sign of a quoted piece without a number, if it has a word
abbrev pub phrase_sign : List Key → Option Sign
phrase_sign [] = None
phrase_sign (key ∷ []) = Some (signs.Bare key)
phrase_sign (key ∷ other ∷ keys) = Some (signs.Phrase (key ∷ other ∷ keys))

-- the sign of one with a number
abbrev pub loose_sign : List Key → How → Option Sign
loose_sign [] how = None
loose_sign (key ∷ keys) how = Some (signs.Loose (key ∷ keys) how)

abbrev pub quoted_sign : List Key → How → Option Sign
quoted_sign keys hows.Phrase = phrase_sign keys
quoted_sign keys (hows.Within n) = loose_sign keys (hows.Within n)
quoted_sign keys (hows.AtLeast n) = loose_sign keys (hows.AtLeast n)
quoted_sign keys (hows.Share digits places) = loose_sign keys (hows.Share digits places)

-- A zone limit may make a node where it is ZONESPAN and the index has zones.
abbrev pub zone_sign : List (List ℕ) → List ℕ → ZoneLimit → Sign
zone_sign [] text limit = signs.Limits
zone_sign (zone ∷ zones) text limit = if limit.span then signs.Spans (numbers_of (zone ∷ zones) (bytes_of text limit.names)) else signs.Limits

-- the sign of a piece, if it has one: it separates, or it is dropped, where it has none
abbrev pub sign_of : Setting → State → List ℕ → Form → Option Sign
sign_of setting state text (forms.Word w) = word_sign w.prefix (keys_of state.keywords (limit_of setting.zones text state.here) w.start w.end (slice_words setting text w.letters))
sign_of setting state text (forms.Quoted q) = quoted_sign (keys_of state.keywords (limit_of setting.zones text state.here) false false (slice_words setting text q.inside)) (how_of text q.number)
sign_of setting state text forms.Unclosed = Some signs.Unclosed
sign_of setting state text forms.Open = Some signs.Open
sign_of setting state text forms.Close = Some signs.Close
sign_of setting state text forms.Or = Some signs.Or
sign_of setting state text forms.Before = Some signs.Before
sign_of setting state text forms.Not = Some signs.Not
sign_of setting state text forms.Maybe = Some signs.Maybe
sign_of setting state text forms.Sentence = Some signs.Sentence
sign_of setting state text forms.Paragraph = Some signs.Paragraph
sign_of setting state text (forms.Near s) = Some (signs.Near (number_of (bytes_of text s)))
sign_of setting state text (forms.Fields limit) = Some signs.Limits
sign_of setting state text (forms.Zones limit) = Some (zone_sign setting.zones text limit)
sign_of setting state text forms.Relaxed = Some signs.Relaxed
sign_of setting state text forms.Separator = None

-- ZONESPAN before `<<` or NEAR of its group
abbrev pub wrong_span : State → Option Wrong
wrong_span state = if state.here.span then nameless kinds.ZoneSpanBeforeOperator else None

-- the number of `[N]`
abbrev pub wrong_positions : List ℕ → Option Slice → Option Wrong
wrong_positions text None = None
wrong_positions text (Some s) = if number_of (bytes_of text s) == 0 then nameless kinds.NumberOutOfRange else None

-- the first of an unknown name and what else may be wrong
abbrev pub unknown_or : QueryKind → Option (List ℕ) → Option Wrong → Option Wrong
unknown_or kind None other = other
unknown_or kind (Some name) other = naming kind name

-- an unknown name, a name that is too long, and then the number
abbrev pub wrong_fields : List (List ℕ) → Bool → List ℕ → Names → Option Slice → Option Wrong
wrong_fields fields relaxed text names.All positions = wrong_positions text positions
wrong_fields fields relaxed text (names.Listed s) positions =
    unknown_or kinds.UnknownField (if relaxed then None else first_unknown fields (bytes_of text s))
    (if has_long (bytes_of text s) then nameless kinds.NameTooLong else wrong_positions text positions)

-- Without zones in the index nothing is wrong with a zone limit.
abbrev pub wrong_zones : List (List ℕ) → List ℕ → Option Wrong
wrong_zones [] names = None
wrong_zones (zone ∷ zones) names =
    unknown_or kinds.UnknownZone (first_unknown (zone ∷ zones) names) (if has_long names then nameless kinds.NameTooLong else None)

-- what is wrong with so many keywords after so many
abbrev pub wrong_count : ℕ → ℕ → Option Wrong
wrong_count n more = if passes_limit n more then nameless kinds.TooManyKeywords else None

-- the letters of a slice, each as it is folded
abbrev pub slice_letters : Setting → List ℕ → Slice → List (Option ℕ)
slice_letters setting text s = letters_in setting.fold (chars (bytes_of text s))

-- a prefix has too few letters
abbrev pub is_short : ℕ → Bool → ℕ → Bool
is_short shortest prefix letters = prefix && nat_lt letters shortest

-- the number of a word's keyword, and then its letters
abbrev pub wrong_word : ℕ → Bool → Option Wrong
wrong_word n short = if passes_limit n 1 then nameless kinds.TooManyKeywords else (if short then nameless kinds.PrefixTooShort else None)

-- the number of a quoted piece, and then its keywords
abbrev pub wrong_quoted : ℕ → Bool → ℕ → Option Wrong
wrong_quoted n out more = if out then nameless kinds.NumberOutOfRange else wrong_count n more

-- the number of NEAR, and then ZONESPAN
abbrev pub wrong_near : State → ℕ → Option Wrong
wrong_near state number = if number == 0 then nameless kinds.NumberOutOfRange else wrong_span state

-- what is wrong with a piece by itself
abbrev pub wrong_of : Setting → State → List ℕ → Form → Option Wrong
wrong_of setting state text (forms.Word w) = wrong_word state.keywords (is_short setting.shortest w.prefix (length (slice_letters setting text w.letters)))
wrong_of setting state text (forms.Quoted q) = wrong_quoted state.keywords (is_out (how_of text q.number)) (length (slice_words setting text q.inside))
wrong_of setting state text forms.Before = wrong_span state
wrong_of setting state text (forms.Near s) = wrong_near state (number_of (bytes_of text s))
wrong_of setting state text (forms.Fields limit) = wrong_fields setting.fields state.relaxed text limit.names limit.positions
wrong_of setting state text (forms.Zones limit) = wrong_zones setting.zones (bytes_of text limit.names)
wrong_of setting state text _ = None

abbrev pub mark_at : ℕ → Option Wrong → Sign → Mark
mark_at at wrong sign = record { at = at; sign = sign; wrong = wrong }

-- the mark of a piece that stands at a place
abbrev pub mark_of : Setting → State → List ℕ → ℕ → Form → Option Mark
mark_of setting state text at form = option_map (mark_at at (wrong_of setting state text form)) (sign_of setting state text form)

-- the last of some limits
abbrev pub last_of : Limits → List Limits → Limits
last_of here [] = here
last_of here (outer ∷ around) = last_of outer around

abbrev pub but_last : List Limits → List Limits
but_last [] = []
but_last (outer ∷ []) = []
but_last (outer ∷ next ∷ around) = outer ∷ but_last (next ∷ around)

abbrev pub with_keywords : State → ℕ → State
with_keywords state more = record { keywords = counted state.keywords more; relaxed = state.relaxed; here = state.here; around = state.around }

abbrev pub with_limits : State → Limits → State
with_limits state here = record { keywords = state.keywords; relaxed = state.relaxed; here = here; around = state.around }

-- A group begins with the limits around it, and no ZONESPAN is in force in it.
abbrev pub opened : State → State
opened state = record {
  keywords = state.keywords;
  relaxed = state.relaxed;
  here = record { fields = state.here.fields; positions = state.here.positions; zones = state.here.zones; span = false };
  around = state.around ++ state.here ∷ [];
}

-- After a group the limits before it are in force again.
abbrev pub closed : State → State
closed state = record { keywords = state.keywords; relaxed = state.relaxed; here = last_of state.here state.around; around = but_last state.around }

-- what a piece leaves
abbrev pub after : Setting → State → List ℕ → Form → State
after setting state text (forms.Word w) = with_keywords state 1
after setting state text (forms.Quoted q) = with_keywords state (length (slice_words setting text q.inside))
after setting state text forms.Open = opened state
after setting state text forms.Close = closed state
after setting state text (forms.Fields limit) = with_limits state (field_limits setting.fields text limit)
after setting state text (forms.Zones limit) = with_limits state (zone_limits setting.zones limit state.here)
after setting state text forms.Relaxed = record { keywords = state.keywords; relaxed = true; here = state.here; around = state.around }
after setting state text _ = state

-- a mark before some others, if there is one
abbrev pub before_marks : Option Mark → List Mark → List Mark
before_marks None marks = marks
before_marks (Some mark) marks = mark ∷ marks

-- The marks of pieces, the first of which stands at the place, and of the text's end.
abbrev pub marks_from : Setting → List ℕ → State → ℕ → List Piece → List Mark
marks_from setting text state place [] = mark_at (length text) None signs.End ∷ []
marks_from setting text state place (p ∷ pieces) =
    before_marks (mark_of setting state text place p.form) (marks_from setting text (after setting state text p.form) p.to pieces)

-- before the first piece: all fields, all positions, no zones
abbrev pub at_start : Setting → State
at_start setting = record { keywords = 0; relaxed = false; here = record { fields = mask (λ field. true) setting.fields; positions = 65535; zones = None; span = false }; around = [] }

-- the marks of a text with these pieces
abbrev pub marks_of : Setting → List ℕ → List Piece → List Mark
marks_of setting text pieces = marks_from setting text (at_start setting) 0 pieces
