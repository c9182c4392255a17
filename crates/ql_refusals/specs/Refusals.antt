-- Refusals: the code and the text that a client is sent.
use Rattle.std.specs.Prelude.{ℕ, List, [], ◌∷◌, ◌++◌, ◌==◌, Bool, take, codes, if◌then◌else◌, Option, Some, None}
use Rattle.std.specs.Fmt.{decimal}
use Rattle.ql_lex.specs.declared.fault.LexFault.{LexFault}
use Rattle.ql_lex.specs.Faults.{fault_text as lex_text}
use Rattle.ql_grammar.specs.FaultTexts.{fault_text as parse_text}
use Rattle.ql_grammar.specs.declared.fault.ParseFault.{ParseFault}
use Rattle.query_grammar.specs.FaultTexts.{fault_text as query_text}
use Rattle.query_grammar.specs.declared.fault.QueryFault.{QueryFault}
use Rattle.rank_expr.specs.declared.fault.ExprFault.{ExprFault}
use Rattle.rank_expr.specs.declared.fault.ExprKind.{ExprKind}
use Rattle.rank_expr.specs.declared.fault.ExprKind.TheVariants as expr_kinds
use Rattle.commit_outcomes.specs.declared.outcome.Full.{Full}
use Rattle.commit_outcomes.specs.declared.outcome.FullKind.{FullKind}
use Rattle.commit_outcomes.specs.declared.outcome.FullKind.TheVariants.{Chunks, Documents, Images, Log, Numbers, Root}
use Rattle.commit_outcomes.specs.declared.strayed.Strayed.{Strayed}

-- why a statement is refused: a code of the protocol, and a text
pub record Refused : Type 0 where
  pub code : ℕ
  pub text : List ℕ

-- the SQL state of a code
abbrev pub state_of : ℕ → List ℕ
state_of code = if code == 1037 then codes "HY001" else (if code == 1105 then codes "HY000" else codes "42000")

-- a statement that is wrong, or can't be run
abbrev pub refused : List ℕ → Refused
refused text = record { code = 1064; text = text }

-- memory was refused
abbrev pub no_memory : Refused
no_memory = record { code = 1037; text = codes "out of memory" }

-- the first of two faults
abbrev pub first : Option Refused → Option Refused → Option Refused
first None later = later
first (Some fault) later = Some fault

-- the first fault that some of these have
abbrev pub first_of : {X : Type 0} → (X → Option Refused) → List X → Option Refused
first_of fault [] = None
first_of fault (x ∷ xs) = first (fault x) (first_of fault xs)

-- the fault of what has to hold
abbrev pub unless : Bool → Refused → Option Refused
unless holds refusal = if holds then None else Some refusal

-- a name as refusals show it: names have at most 64 bytes
abbrev pub shown : List ℕ → List ℕ
shown name = take 64 name

-- the text is no packet of statements
abbrev pub bad_token : LexFault → Refused
bad_token fault = refused (lex_text fault)

abbrev pub bad_syntax : ParseFault → Refused
bad_syntax fault = refused (parse_text fault)

-- names
abbrev pub unknown_index : List ℕ → Refused
unknown_index name = refused (codes "unknown index '" ++ shown name ++ codes "'")

abbrev pub unknown_column : List ℕ → Refused
unknown_column name = refused (codes "unknown column '" ++ shown name ++ codes "'")

abbrev pub unknown_option : List ℕ → Refused
unknown_option name = refused (codes "unknown option '" ++ shown name ++ codes "'")

abbrev pub ranker_not_offered : List ℕ → Refused
ranker_not_offered name = refused (codes "ranker '" ++ shown name ++ codes "' is not offered")

abbrev pub column_twice : List ℕ → Refused
column_twice name = refused (codes "column '" ++ shown name ++ codes "' twice")

-- kinds and ranges: a field where only an attribute or the id can stand, and the other way round
abbrev pub column_is_field : List ℕ → Refused
column_is_field name = refused (codes "column '" ++ shown name ++ codes "' is a field")

abbrev pub column_is_no_field : List ℕ → Refused
column_is_no_field name = refused (codes "column '" ++ shown name ++ codes "' is not a field")

abbrev pub wrong_kind : List ℕ → Refused
wrong_kind name = refused (codes "wrong kind of value for '" ++ shown name ++ codes "'")

abbrev pub value_out_of_range : List ℕ → Refused
value_out_of_range name = refused (codes "value out of range for '" ++ shown name ++ codes "'")

abbrev pub id_missing : Refused
id_missing = refused (codes "id is missing")

abbrev pub id_out_of_range : Refused
id_out_of_range = refused (codes "id out of range")

abbrev pub wrong_number : Refused
wrong_number = refused (codes "wrong number of values")

-- the parts of a SELECT, in the order in which they are looked at
abbrev pub second_match : Refused
second_match = refused (codes "second MATCH")

abbrev pub group_by_missing : Refused
group_by_missing = refused (codes "GROUP BY is missing")

abbrev pub too_many_columns : Refused
too_many_columns = refused (codes "too many columns")

abbrev pub too_many_sort_keys : Refused
too_many_sort_keys = refused (codes "too many sort keys")

abbrev pub too_many_facets : Refused
too_many_facets = refused (codes "too many facets")

abbrev pub max_matches_out_of_range : Refused
max_matches_out_of_range = refused (codes "max_matches out of range")

-- the page would begin after the last row that is kept
abbrev pub offset_not_below : ℕ → ℕ → Refused
offset_not_below offset max_matches = refused (codes "offset " ++ decimal offset ++ codes " is not below max_matches " ++ decimal max_matches)

-- the text of MATCH, with the name that isn't known as refusals show it
abbrev pub bad_query : QueryFault → Refused
bad_query fault = refused (query_text (record fault { name = shown fault.name }))

-- the prefixes of the query have too many words together
abbrev pub too_many_prefix_words : ℕ → Refused
too_many_prefix_words count = refused (codes "query: prefixes have " ++ decimal count ++ codes " words")

-- what is wrong with a ranking expression, with the name that isn't known or stands in the wrong scope
abbrev pub expr_text : ExprKind → List ℕ → List ℕ
expr_text expr_kinds.Long name = codes "too long"
expr_text expr_kinds.Syntax name = codes "syntax error"
expr_text expr_kinds.Division name = codes "division"
expr_text expr_kinds.Number name = codes "number too large"
expr_text expr_kinds.Factor name = codes "unknown factor '" ++ name ++ codes "'"
expr_text expr_kinds.Scope name = codes "'" ++ name ++ codes "' in the wrong scope"
expr_text expr_kinds.Nesting name = codes "nesting above 32"

-- the text of a ranker
abbrev pub bad_expr : ExprFault → Refused
bad_expr fault = refused (codes "expr: " ++ expr_text fault.kind (shown fault.name) ++ codes " at " ++ decimal fault.place)

-- a document that is found has no weight by it
abbrev pub rank_out_of_range : ℕ → Refused
rank_out_of_range id = refused (codes "rank out of range at id " ++ decimal id)

-- the transaction
abbrev pub too_many_positions : List ℕ → Refused
too_many_positions name = refused (codes "field '" ++ shown name ++ codes "' above 65535 positions")

abbrev pub other_index : Refused
other_index = refused (codes "transaction is on another index")

abbrev pub transaction_open : Refused
transaction_open = refused (codes "transaction is open")

abbrev pub too_many_operations : Refused
too_many_operations = refused (codes "transaction above 10000 operations")

abbrev pub transaction_too_large : Refused
transaction_too_large = refused (codes "transaction above 8388608 bytes")

-- the store
abbrev pub duplicate_id : ℕ → Refused
duplicate_id id = refused (codes "duplicate id " ++ decimal id)

-- what an index is full of
abbrev pub full_text : FullKind → List ℕ
full_text Log = codes "log"
full_text Documents = codes "documents"
full_text Chunks = codes "chunks"
full_text Images = codes "images"
full_text Numbers = codes "numbers"
full_text Root = codes "root"

abbrev pub index_full : Full → Refused
index_full full = refused (full_text full.what ++ codes " full at " ++ decimal full.at ++ codes " needs " ++ decimal full.need)

-- the numbers that contradict each other: how far a worker has seen the history and how far it goes, how many commits the worker made
-- and how many of its commits the index has
abbrev pub strayed : Strayed → Refused
strayed numbers = refused (codes "history at " ++ decimal numbers.seen ++ codes " of " ++ decimal numbers.place ++ codes ", commits " ++ decimal numbers.made ++ codes " of " ++ decimal numbers.kept)

-- another job ended before this one: the index has a greater shape now
abbrev pub overtaken : ℕ → Refused
overtaken shape = refused (codes "overtaken by shape " ++ decimal shape)

-- the disk failed, and nothing of the commit or job takes effect
abbrev pub disk_failed : Refused
disk_failed = record { code = 1105; text = codes "disk fault: nothing was changed" }

-- the disk failed, and the commit takes effect later or never
abbrev pub disk_in_doubt : Refused
disk_in_doubt = record { code = 1105; text = codes "disk fault: commit in doubt" }

-- memory was refused, and the commit, which is on the disk, takes effect later
abbrev pub memory_in_doubt : Refused
memory_in_doubt = record { code = 1037; text = codes "out of memory: commit in doubt" }

-- memory was refused, and the job, which is on the disk, takes effect later; it changes no document
abbrev pub job_in_doubt : Refused
job_in_doubt = record { code = 1037; text = codes "out of memory: job in doubt" }
