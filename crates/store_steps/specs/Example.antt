-- An example: the files of an index with the field `title` and one document, 7 with the text `hello world`, which the first commit
-- put.
use Rattle.std.specs.Prelude.{ℕ, zero, suc, List, [], ◌∷◌, Some, None, codes}
use Rattle.doc_types.specs.declared.documents.Doc.{Doc}
use Rattle.doc_types.specs.Commits.{Put}
use Rattle.chunk_image.specs.Example.{title}
use Rattle.chunk_store.specs.Images.{Image}
use Rattle.root_slots.specs.Slots.{Slot}
use Rattle.root_slots.specs.declared.state.RootState.{RootState}
use Rattle.store_steps.specs.Batches.{Batch}
use Rattle.store_steps.specs.Directory.{Directory}

abbrev pub example_doc : Doc
example_doc = record { id = 7; fields = title ∷ []; values = [] }

abbrev pub example_batch : Batch
example_batch = record { number = 1; changes = Put example_doc ∷ [] }

-- no chunk, no older log, and the newer log in file 2
abbrev pub example_state : RootState
example_state = record { schema_text = codes "field title\n"; through = 0; next_file = 3; older = 0; newer = 2; chunks = [] }

abbrev pub example_slot : Slot
example_slot = record { number = 1; state = example_state }

abbrev pub example_directory : Directory
example_directory = record { state = example_state; chunks = []; older = []; newer = example_batch ∷ [] }

-- what stands behind the length of the record: its number, its payload, and the closed gate
abbrev pub behind_length : List ℕ
behind_length =
    1 ∷ 0 ∷ 0 ∷ 0 ∷ 0 ∷ 0 ∷ 0 ∷ 0
    ∷ 1 ∷ 0 ∷ 0 ∷ 0 ∷ 1 ∷ 7 ∷ 0 ∷ 0 ∷ 0 ∷ 0 ∷ 0 ∷ 0 ∷ 0
    ∷ 2 ∷ 0 ∷ 0 ∷ 0 ∷ 0 ∷ 5 ∷ 104 ∷ 101 ∷ 108 ∷ 108 ∷ 111 ∷ 0 ∷ 5 ∷ 119 ∷ 111 ∷ 114 ∷ 108 ∷ 100
    ∷ 0 ∷ 0 ∷ 0 ∷ 0
    ∷ 0 ∷ []

-- the log: an open gate, the length of the payload, and this
abbrev pub example_log : List ℕ
example_log = 1 ∷ 35 ∷ 0 ∷ 0 ∷ 0 ∷ behind_length

-- the log with another length
abbrev pub damaged_log : List ℕ
damaged_log = 1 ∷ 255 ∷ 0 ∷ 0 ∷ 0 ∷ behind_length

-- slot 0: an open gate, its number, the length of the state, and the state
abbrev pub example_root : List ℕ
example_root =
    1 ∷ 1 ∷ 0 ∷ 0 ∷ 0 ∷ 0 ∷ 0 ∷ 0 ∷ 0 ∷ 36 ∷ 0 ∷ 0 ∷ 0
    ∷ 12 ∷ 0 ∷ 102 ∷ 105 ∷ 101 ∷ 108 ∷ 100 ∷ 32 ∷ 116 ∷ 105 ∷ 116 ∷ 108 ∷ 101 ∷ 10
    ∷ 0 ∷ 0 ∷ 0 ∷ 0 ∷ 0 ∷ 0 ∷ 0 ∷ 0 ∷ 3 ∷ 0 ∷ 0 ∷ 0 ∷ 0 ∷ 0 ∷ 0 ∷ 0 ∷ 2 ∷ 0 ∷ 0 ∷ 0
    ∷ 0 ∷ 0 ∷ []

-- files 0 and 2 with these bytes, and no others
abbrev pub files_of : List ℕ → List ℕ → Image
files_of root log zero = Some root
files_of root log (suc zero) = None
files_of root log (suc (suc zero)) = Some log
files_of root log (suc (suc (suc file))) = None
