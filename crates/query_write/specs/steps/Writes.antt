-- What the writers of a query's parts append.
use Rattle.std.specs.Prelude.{◌≡◌, ℕ, List, [], ◌∷◌, ◌++◌, Bool, true, false, Option, Some, None, if◌then◌else◌, Result, Ok, Err}
use Rattle.std.specs.Borrow.{Bor}
use Rattle.std.specs.List.{flat_map}
use Rattle.srch_base.specs.declared.faults.NoMemory.{NoMemory}
use Rattle.doc_types.specs.declared.schema.Schema.{Schema}
use Rattle.query_tree.specs.declared.key.Limit.{Limit}
use Rattle.query_write.specs.declared.tokens.Token.{Token}
use Rattle.query_write.specs.declared.tokens.Token.TheVariants as tokens
use Rattle.query_write.specs.declared.written.Line.{Line as WriterLine}
use Rattle.query_write.specs.declared.written.Line.TheVariants as lines
use Rattle.query_write.specs.Written.{WrittenToken, Line, parted, limits, zone_tokens, tokens_text}

-- nothing of what stood before is lost
pub record Keeps (before after : List ℕ) : Type 0 where
  pub more : List ℕ
  pub is : after ≡ before ++ more

-- These bytes stand after what was there before; without memory, maybe a part of them.
abbrev pub Appended : List ℕ → List ℕ → Result (Unit {0}) NoMemory → List ℕ → Type 0
Appended bytes before (Ok done) after = after ≡ before ++ bytes
Appended bytes before (Err e) after = Keeps before after

-- what a token of the writer is
abbrev pub token_of : Token → WrittenToken
token_of tokens.Space = WrittenToken.Space
token_of tokens.Open = WrittenToken.Open
token_of tokens.Close = WrittenToken.Close
token_of tokens.Or = WrittenToken.Or
token_of tokens.Maybe = WrittenToken.Maybe
token_of tokens.Before = WrittenToken.Before
token_of (tokens.Near n) = WrittenToken.Near n
token_of tokens.Sentence = WrittenToken.Sentence
token_of tokens.Paragraph = WrittenToken.Paragraph
token_of tokens.Not = WrittenToken.Not
token_of (tokens.Word key) = WrittenToken.Word key.now
token_of (tokens.Quoted keys how) = WrittenToken.Quoted keys.now how
token_of (tokens.Fields fields positions) = WrittenToken.Fields fields positions
token_of (tokens.Zones zones) = WrittenToken.Zones zones.now
token_of (tokens.Spans zones) = WrittenToken.Spans zones.now

-- The tokens stand after what was there before; without memory, maybe a part of them.
abbrev pub Appends : Schema → List WrittenToken → List ℕ → Result (Unit {0}) NoMemory → List ℕ → Type 0
Appends schema tokens before result after = Appended (tokens_text schema tokens) before result after

-- what stands before a part, if it isn't the first
abbrev pub separator : Bool → ℕ → List ℕ
separator true byte = []
separator false byte = byte ∷ []

-- the rest of some parts: before the first of all no byte stands
abbrev pub parted_from : Bool → ℕ → List (List ℕ) → List ℕ
parted_from true byte parts = parted byte parts
parted_from false byte parts = flat_map (λ next. byte ∷ next) parts

-- the limit that a reference shows
abbrev pub read_limit : Bor Limit → Limit
read_limit limit = limit.now

-- a limit, where it limits
abbrev pub limit_over : List (List ℕ) → Option Limit → Option Limit
limit_over names None = None
limit_over names (Some limit) = if limits names limit then Some limit else None

-- A part of the bytes stands after what was there before, and the rest is still to be written.
pub record IsPart (before after whole rest : List ℕ) : Type 0 where
  pub more : List ℕ
  pub is : after ≡ before ++ more
  pub goes_on : more ++ rest ≡ whole

-- the line that a line of the writer is
abbrev pub line_as : WriterLine → Line
line_as lines.Single = Line.Single
line_as lines.Choice = Line.Choice
line_as lines.Order = Line.Order
line_as lines.Sentences = Line.Sentences
line_as lines.Paragraphs = Line.Paragraphs

-- the tokens of a limit, with the space after it
abbrev pub limit_tokens : Limit → List WrittenToken
limit_tokens limit = WrittenToken.Fields limit.fields limit.positions ∷ (zone_tokens limit.zones ++ WrittenToken.Space ∷ [])
