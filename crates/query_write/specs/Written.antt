-- The written form of a query: tokens, each with its bytes.
use Rattle.std.specs.Prelude.{ℕ, ◌-◌, ◌/◌, ◌%◌, List, [], ◌∷◌, ◌++◌, Bool, true, false, ◌==◌, ◌||◌, not, Option, Some, None, unwrap_or, if◌then◌else◌, codes, decimal, length, map, replicate, slice_get}
use Rattle.std.specs.List.{flat_map}
use Rattle.doc_types.specs.declared.schema.Schema.{Schema}
use Rattle.query_tree.specs.declared.key.Key.{Key}
use Rattle.query_tree.specs.declared.key.Limit.{Limit}
use Rattle.query_tree.specs.declared.key.How.{How}
use Rattle.query_tree.specs.declared.key.How.TheVariants as hows
use Rattle.query_marks.specs.Limits.{mask}
use Rattle.query_tree.specs.declared.query.Item.{Item}
use Rattle.query_tree.specs.declared.query.Node.{Node}
use Rattle.query_tree.specs.declared.query.Node.TheOpen.{Node-F, Item-F}
use Rattle.query_tree.specs.declared.query.Node.TheFolds.{fold-Node}
use Rattle.query_tree.specs.declared.query.Query.{Query}
use Rattle.query_write.specs.Spelling.{spelled}

-- What the written form is made of. A space stands only where one of these does.
pub data WrittenToken : Type 0 where
  Space : WrittenToken
  Open : WrittenToken
  Close : WrittenToken
  Or : WrittenToken
  Maybe : WrittenToken
  Before : WrittenToken
  Near : ℕ → WrittenToken
  Sentence : WrittenToken
  Paragraph : WrittenToken
  Not : WrittenToken
  Word : Key → WrittenToken
  Quoted : List Key → How → WrittenToken
  -- the fields, the first of the schema by the lowest bit, and the greatest position
  Fields : ℕ → ℕ → WrittenToken
  Zones : List ℕ → WrittenToken
  Spans : List ℕ → WrittenToken

-- ---- the bytes of words

-- a word with its marks
abbrev pub key_text : Key → List ℕ
key_text key = (if key.start then codes "^" else []) ++ (spelled key.word ++ ((if key.end then codes "$" else []) ++ (if key.prefix then codes "*" else [])))

-- ---- the bytes of quoted pieces, limits and operators

-- parts, with a byte between each and the next
abbrev pub parted : ℕ → List (List ℕ) → List ℕ
parted byte [] = []
parted byte (part ∷ parts) = part ++ flat_map (λ next. byte ∷ next) parts

-- a number with so many digits at least
abbrev pub padded : ℕ → ℕ → List ℕ
padded places number = replicate (places - length (decimal number)) 48 ++ decimal number

-- the number of a quoted piece
abbrev pub how_text : How → List ℕ
how_text hows.Phrase = []
how_text (hows.Within n) = 126 ∷ decimal n
how_text (hows.AtLeast n) = 47 ∷ decimal n
how_text (hows.Share digits places) = codes "/0." ++ padded places digits

abbrev pub quoted_text : List Key → How → List ℕ
quoted_text keys how = 34 ∷ (parted 32 (map key_text keys) ++ 34 ∷ how_text how)

-- the names of fields by their bits, in the order of the schema
abbrev pub named : List (List ℕ) → ℕ → List (List ℕ)
named [] fields = []
named (name ∷ names) fields = if fields % 2 == 1 then name ∷ named names (fields / 2) else named names (fields / 2)

-- names between parentheses
abbrev pub listed : List (List ℕ) → List ℕ
listed names = 40 ∷ (parted 44 names ++ 41 ∷ [])

abbrev pub all_fields : List (List ℕ) → ℕ
all_fields names = mask (λ name. true) names

abbrev pub fields_text : List (List ℕ) → ℕ → List ℕ
fields_text names fields =
    if fields == all_fields names then codes "*" else
    if fields == 0 then codes "!*" else
    listed (named names fields)

-- 65,535 is no limit
abbrev pub positions_text : ℕ → List ℕ
positions_text positions = if positions == 65535 then [] else 91 ∷ (decimal positions ++ 93 ∷ [])

-- the name of a number
abbrev pub name_of : List (List ℕ) → ℕ → List ℕ
name_of names number = unwrap_or (slice_get names number) []

abbrev pub zones_text : List (List ℕ) → List ℕ → List ℕ
zones_text names zones = listed (map (name_of names) zones)

abbrev pub token_text : Schema → WrittenToken → List ℕ
token_text schema Space = codes " "
token_text schema Open = codes "("
token_text schema Close = codes ")"
token_text schema Or = codes "|"
token_text schema Maybe = codes "MAYBE"
token_text schema Before = codes "<<"
token_text schema (Near n) = codes "NEAR/" ++ decimal n
token_text schema Sentence = codes "SENTENCE"
token_text schema Paragraph = codes "PARAGRAPH"
token_text schema Not = codes "-"
token_text schema (Word key) = key_text key
token_text schema (Quoted keys how) = quoted_text keys how
token_text schema (Fields fields positions) = 64 ∷ (fields_text schema.fields fields ++ positions_text positions)
token_text schema (Zones zones) = codes "ZONE:" ++ zones_text schema.zones zones
token_text schema (Spans zones) = codes "ZONESPAN:" ++ zones_text schema.zones zones

-- ---- the tokens of a tree

-- The line of the grammar by which a node is made of others: `|` and MAYBE, `<<` and NEAR, SENTENCE, PARAGRAPH, or none of these.
pub data Line : Type 0 where
  Single : Line
  Choice : Line
  Order : Line
  Sentences : Line
  Paragraphs : Line

abbrev pub is_choice : Line → Bool
is_choice Choice = true
is_choice _ = false

abbrev pub is_order : Line → Bool
is_order Order = true
is_order _ = false

abbrev pub is_single : Line → Bool
is_single Single = true
is_single _ = false

-- A node's tokens without the parentheses of its line and without the limit, which is that of its first keyword.
pub record Part : Type 0 where
  pub line : Line
  pub limit : Option Limit
  pub tokens : List WrittenToken

-- a node without a limit of its own
abbrev pub part : Line → List WrittenToken → Part
part line tokens = record { line = line; limit = None; tokens = tokens }

abbrev pub has_zones : List ℕ → Bool
has_zones [] = false
has_zones (zone ∷ zones) = true

-- fields, positions or zones are limited
abbrev pub limits : List (List ℕ) → Limit → Bool
limits names limit = not (limit.fields == all_fields names) || not (limit.positions == 65535) || has_zones limit.zones

abbrev pub zone_tokens : List ℕ → List WrittenToken
zone_tokens [] = []
zone_tokens (zone ∷ zones) = Space ∷ Zones (zone ∷ zones) ∷ []

-- tokens under a limit
abbrev pub under : List (List ℕ) → Option Limit → List WrittenToken → List WrittenToken
under names None tokens = tokens
under names (Some limit) tokens =
    if limits names limit
    then Open ∷ Fields limit.fields limit.positions ∷ (zone_tokens limit.zones ++ Space ∷ (tokens ++ Close ∷ []))
    else tokens

-- the parentheses of a line
abbrev pub enclosed : Line → List WrittenToken → List WrittenToken
enclosed line tokens = if is_single line then tokens else Open ∷ Space ∷ (tokens ++ Space ∷ Close ∷ [])

-- a node by itself
abbrev pub whole : List (List ℕ) → Part → List WrittenToken
whole names p = under names p.limit (enclosed p.line p.tokens)

-- the left of a join, which stands without its parentheses where it is of the same line
abbrev pub left : List (List ℕ) → (Line → Bool) → Part → List WrittenToken
left names same p = if same p.line then p.tokens else whole names p

-- two nodes with an operator between them
abbrev pub joined : List WrittenToken → WrittenToken → List WrittenToken → List WrittenToken
joined first operator second = first ++ Space ∷ operator ∷ Space ∷ second

-- the items of an AND, each with a space after it
abbrev pub and_tokens : List WrittenToken → List WrittenToken
and_tokens items = Open ∷ Space ∷ (items ++ Close ∷ [])

-- a node under ZONESPAN
abbrev pub span_tokens : List ℕ → List WrittenToken → List WrittenToken
span_tokens zones inner = Open ∷ Spans zones ∷ Space ∷ (inner ++ Close ∷ [])

-- the limit of the first of some keywords
abbrev pub first_limit : List Key → Option Limit
first_limit [] = None
first_limit (key ∷ keys) = Some key.limit

abbrev pub node_step : List (List ℕ) → Node-F Part (List WrittenToken) → Part
node_step names (Node-F.Word key) = record { line = Single; limit = Some key.limit; tokens = Word key ∷ [] }
node_step names (Node-F.Quoted keys how) = record { line = Single; limit = first_limit keys; tokens = Quoted keys how ∷ [] }
node_step names (Node-F.And items) = part Single (and_tokens (flat_map (λ item. item) items))
node_step names (Node-F.Or a b) = part Choice (joined (left names is_choice a) Or (whole names b))
node_step names (Node-F.Maybe a b) = part Choice (joined (left names is_choice a) Maybe (whole names b))
node_step names (Node-F.Before a b) = part Order (joined (left names is_order a) Before (whole names b))
node_step names (Node-F.Near n a b) = part Order (joined (left names is_order a) (Near n) (whole names b))
node_step names (Node-F.Sentence a b) = record { line = Sentences; limit = a.limit; tokens = joined a.tokens Sentence b.tokens }
node_step names (Node-F.Paragraph a b) = record { line = Paragraphs; limit = a.limit; tokens = joined a.tokens Paragraph b.tokens }
node_step names (Node-F.ZoneSpan zones a) = part Single (span_tokens zones (whole names a))

-- an item of an AND, with a space after it
abbrev pub item_step : List (List ℕ) → Item-F Part (List WrittenToken) → List WrittenToken
item_step names item = (if item.negated then Not ∷ [] else []) ++ (whole names item.node ++ Space ∷ [])

unfoldable pub part_of : List (List ℕ) → Node → Part
part_of names = fold-Node Part (List WrittenToken) (node_step names) (item_step names)

abbrev pub item_tokens : List (List ℕ) → Item → List WrittenToken
item_tokens names item = item_step names (record { negated = item.negated; node = part_of names item.node })

abbrev pub node_tokens : List (List ℕ) → Node → List WrittenToken
node_tokens names node = whole names (part_of names node)

-- a query without a keyword is the empty text
abbrev pub query_tokens : List (List ℕ) → Query → List WrittenToken
query_tokens names query = elim query.root [ None ↦ [] | Some node ↦ node_tokens names node ]

abbrev pub tokens_text : Schema → List WrittenToken → List ℕ
tokens_text schema tokens = flat_map (token_text schema) tokens

-- the written form
abbrev pub written : Schema → Query → List ℕ
written schema query = tokens_text schema (query_tokens schema.fields query)
