-- What a row of tokens is to the grammar, apart from any text: the keywords before a token, the limits in force there with
-- the zones by their numbers, the sign of each token, and when nothing is wrong with it.
use Rattle.std.specs.Prelude.{◌≡◌, ◌≢◌, ◌≤◌, ◌<◌, ◌^◌, ◌+◌, ℕ, List, [], ◌∷◌, Bool, true, false, ◌&&◌, Option, Some, None, All, length, map}
use Rattle.std.specs.List.{list_all}
use Rattle.doc_types.specs.declared.schema.Schema.{Schema}
use Rattle.query_pieces.specs.QueryBytes.{begins_zone, is_zone_byte}
use Rattle.query_tree.specs.declared.key.Key.{Key}
use Rattle.query_tree.specs.declared.key.Limit.{Limit}
use Rattle.query_tree.specs.declared.key.How.{How}
use Rattle.query_tree.specs.declared.key.How.TheVariants as hows
use Rattle.query_marks.specs.declared.mark.Sign.{Sign}
use Rattle.query_marks.specs.declared.mark.Sign.TheVariants as signs
use Rattle.query_marks.specs.Marks.{keys_after, quoted_sign}
use Rattle.query_write.specs.Written.{WrittenToken, all_fields, name_of}
use Rattle.query_write.specs.steps.Signs.{IsKeyOf}

-- limits in force; an empty list of zones is no limit
pub record Ambient : Type 0 where
  pub fields : ℕ
  pub positions : ℕ
  pub zones : List ℕ
  -- ZONESPAN is in force in the group
  pub span : Bool

-- what the tokens before one leave
pub record Standing : Type 0 where
  pub keywords : ℕ
  pub here : Ambient
  -- the limits of the groups around, the innermost first
  pub around : List Ambient

abbrev pub standing : ℕ → Ambient → List Ambient → Standing
standing keywords here around = record { keywords = keywords; here = here; around = around }

-- before the first token: all fields, all positions, no zones
abbrev pub start : List (List ℕ) → Standing
start names = standing 0 (record { fields = all_fields names; positions = 65535; zones = []; span = false }) []

-- ---- the signs of tokens

-- the limit of a keyword that stands there
abbrev pub ambient_limit : Ambient → Limit
ambient_limit here = record { fields = here.fields; positions = here.positions; zones = here.zones }

-- the keyword that a word is, after so many
abbrev pub key_after : ℕ → Limit → Key → Key
key_after n limit key = record { query = n + 1; word = key.word; limit = limit; start = key.start; end = key.end; prefix = key.prefix }

-- the words of keywords
abbrev pub words_of : List Key → List (List ℕ)
words_of keys = map (λ key. key.word) keys

-- the sign of a token, and none where it separates
abbrev pub token_sign : Standing → WrittenToken → Option Sign
token_sign s WrittenToken.Space = None
token_sign s WrittenToken.Open = Some signs.Open
token_sign s WrittenToken.Close = Some signs.Close
token_sign s WrittenToken.Or = Some signs.Or
token_sign s WrittenToken.Maybe = Some signs.Maybe
token_sign s WrittenToken.Before = Some signs.Before
token_sign s (WrittenToken.Near n) = Some (signs.Near n)
token_sign s WrittenToken.Sentence = Some signs.Sentence
token_sign s WrittenToken.Paragraph = Some signs.Paragraph
token_sign s WrittenToken.Not = Some signs.Not
token_sign s (WrittenToken.Word key) = Some (signs.Bare (key_after s.keywords (ambient_limit s.here) key))
token_sign s (WrittenToken.Quoted keys how) = quoted_sign (keys_after s.keywords (ambient_limit s.here) false false (words_of keys)) how
token_sign s (WrittenToken.Fields n positions) = Some signs.Limits
token_sign s (WrittenToken.Zones zones) = Some signs.Limits
token_sign s (WrittenToken.Spans zones) = Some (signs.Spans zones)

-- ---- what a token leaves

abbrev pub more_keywords : Standing → ℕ → Standing
more_keywords s more = standing (s.keywords + more) s.here s.around

abbrev pub with_ambient : Standing → Ambient → Standing
with_ambient s here = standing s.keywords here s.around

-- no ZONESPAN is in force in a group that begins
abbrev pub spanless : Ambient → Ambient
spanless here = record { fields = here.fields; positions = here.positions; zones = here.zones; span = false }

-- zones, or ZONESPAN, replace the zones
abbrev pub zoned : Ambient → List ℕ → Bool → Ambient
zoned here zones span = record { fields = here.fields; positions = here.positions; zones = zones; span = span }

-- A group that ends leaves the limits before it. Outside of groups nothing changes.
abbrev pub shut : ℕ → Ambient → List Ambient → Standing
shut keywords here [] = standing keywords here []
shut keywords here (outer ∷ around) = standing keywords outer around

abbrev pub token_after : Standing → WrittenToken → Standing
token_after s WrittenToken.Open = standing s.keywords (spanless s.here) (s.here ∷ s.around)
token_after s WrittenToken.Close = shut s.keywords s.here s.around
token_after s (WrittenToken.Word key) = more_keywords s 1
token_after s (WrittenToken.Quoted keys how) = more_keywords s (length keys)
token_after s (WrittenToken.Fields n positions) = with_ambient s (record { fields = n; positions = positions; zones = []; span = false })
token_after s (WrittenToken.Zones zones) = with_ambient s (zoned s.here zones false)
token_after s (WrittenToken.Spans zones) = with_ambient s (zoned s.here [] true)
token_after s _ = s

-- ---- nothing is wrong with a token

-- a number of 1 to 65,535
abbrev pub IsInRange : ℕ → Type 0
IsInRange n = (0 < n) × (n ≤ 65535)

-- the number of a quoted piece; a share is above 0 and below 1, with 1 to 4 decimals
abbrev pub IsRightHow : How → Type 0
IsRightHow hows.Phrase = Unit {0}
IsRightHow (hows.Within n) = IsInRange n
IsRightHow (hows.AtLeast n) = IsInRange n
IsRightHow (hows.Share digits places) = (0 < digits) × (0 < places) × (places ≤ 4) × (digits < 10 ^ places)

-- a zone's name that can be written in a limit
abbrev pub is_zone_name : List ℕ → Bool
is_zone_name [] = false
is_zone_name (first ∷ rest) = begins_zone first && list_all is_zone_byte rest

-- the number of a zone of the schema whose name can be written
abbrev pub IsRightZone : Schema → ℕ → Type 0
IsRightZone schema zone = (zone < length schema.zones) × (is_zone_name (name_of schema.zones zone) ≡ true)

abbrev pub AreRightZones : Schema → List ℕ → Type 0
AreRightZones schema zones = (zones ≢ []) × All (IsRightZone schema) zones

abbrev pub IsRight : Schema → Standing → WrittenToken → Type 0
IsRight schema s WrittenToken.Before = s.here.span ≡ false
IsRight schema s (WrittenToken.Near n) = IsInRange n × (s.here.span ≡ false)
IsRight schema s (WrittenToken.Word key) = (s.keywords + 1 ≤ 255) × IsKeyOf schema key
IsRight schema s (WrittenToken.Quoted keys how) = (keys ≢ []) × (s.keywords + length keys ≤ 255) × IsRightHow how
IsRight schema s (WrittenToken.Fields n positions) = (n ≤ all_fields schema.fields) × IsInRange positions
IsRight schema s (WrittenToken.Zones zones) = AreRightZones schema zones
IsRight schema s (WrittenToken.Spans zones) = AreRightZones schema zones
IsRight schema s _ = Unit {0}

-- ---- rows of tokens

-- a sign before some others, if there is one
abbrev pub before_signs : Option Sign → List Sign → List Sign
before_signs None rest = rest
before_signs (Some sign) rest = sign ∷ rest

abbrev pub signs_of : Standing → List WrittenToken → List Sign
signs_of s [] = []
signs_of s (token ∷ tokens) = before_signs (token_sign s token) (signs_of (token_after s token) tokens)

abbrev pub after_tokens : Standing → List WrittenToken → Standing
after_tokens s [] = s
after_tokens s (token ∷ tokens) = after_tokens (token_after s token) tokens

abbrev pub AreRight : Schema → Standing → List WrittenToken → Type 0
AreRight schema s [] = Unit {0}
AreRight schema s (token ∷ tokens) = IsRight schema s token × AreRight schema (token_after s token) tokens
