-- What moved over a link in some calls, and what its meters said before and after them.
use Rattle.std.specs.Prelude.{◌≡◌, ◌≢◌, ℕ, ◌≤◌, List, [], ◌++◌, Bool}
use Rattle.srch_base.specs.Told.{then_bytes}
use Rattle.srch_base.specs.declared.link.Link.{Ghosts as LinkWords}

-- what is counted of a link, and whether its input has ended
pub record Meters : Type 0 where
  pub read_faults : ℕ
  pub write_faults : ℕ
  pub input_ended : Bool

-- a link's meters
abbrev pub meters_of : {L : Type 0} → LinkWords L → L → Meters
meters_of words link = record { read_faults = words.read_faults link; write_faults = words.write_faults link; input_ended = words.input_ended link }

-- Some bytes were read and written over a link, which records them where it records bytes; the link's meters before and after, and these bytes, have P.
pub record Moves {L : Type 0} (words : LinkWords L) (old new : L) (P : Meters → Meters → List ℕ → List ℕ → Type 0) : Type 0 where
  pub read : List ℕ
  pub written : List ℕ
  pub tells_read : words.read_bytes new ≡ then_bytes (words.read_bytes old) read
  pub tells_written : words.written_bytes new ≡ then_bytes (words.written_bytes old) written
  pub reads_later : words.read_faults old ≤ words.read_faults new
  pub writes_later : words.write_faults old ≤ words.write_faults new
  pub holds : P (meters_of words old) (meters_of words new) read written

-- a prefix of the bytes that isn't all of them
abbrev pub IsCut : List ℕ → List ℕ → Type 0
IsCut front bytes = (missing : List ℕ) × (missing ≢ []) × (bytes ≡ front ++ missing)
