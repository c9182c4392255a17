-- How the first files of an index are made.
use Rattle.std.specs.Prelude.{◌⊎◌, [], Some, None}
use Rattle.chunk_store.specs.Images.{Image, contents}
use Rattle.doc_bytes.specs.SchemaText.{schema_text}
use Rattle.doc_types.specs.declared.schema.Schema.{Schema}
use Rattle.gate_log.specs.Logs.{IsLogOf, Stands as LogStands, quiet_log}
use Rattle.root_slots.specs.Roots.{Stands as RootStands, next, replaced}
use Rattle.root_slots.specs.Slots.{IsRoot, slots_of}
use Rattle.root_slots.specs.declared.root.Root.{Root}
use Rattle.root_slots.specs.declared.state.RootState.{RootState}

-- the first state: no chunk, no older log, and the newer one in file 2
abbrev pub first_state : Schema → RootState
first_state schema = record { schema_text = schema_text schema; through = 0; next_file = 3; older = 0; newer = 2; chunks = [] }

-- The first log and the first root were written.
pub record Begins (root : Root) (state : RootState) (d x : Image) : Type 0 where
  pub root_is : RootStands root None None (slots_of d) → RootStands (replaced root) (Some (next root state)) None (slots_of x)
  pub log_is : LogStands (quiet_log 2 0 None) [] None (x 2)

-- No slot is open yet, or the first root is there with its log.
abbrev pub MayBegin : Root → RootState → Image → Image → Type 0
MayBegin root state d x = RootStands root None None (slots_of d) → IsRoot None (slots_of x) ⊎ (IsRoot (Some (next root state)) (slots_of x) × IsLogOf [] (contents (x 2)))
