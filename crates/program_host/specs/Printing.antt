-- What is printed on the two standard streams, where a host records it.
use Rattle.std.specs.Prelude.{◌≡◌, ◌⊎◌, ℕ, ◌<◌, ◌≤◌, List, [], Option, Result, Ok, Err, length}
use Rattle.std.specs.Io.{StartsWith}
use Rattle.srch_base.specs.Counts.{Rose}
use Rattle.srch_base.specs.Told.{then_bytes}
use Rattle.program_host.specs.declared.host.Stream.{Stream}
use Rattle.program_host.specs.declared.host.Stream.TheVariants.{Out, Err as Errors}

-- the bytes of a print that a stream gets: all of its own, none of the other's
abbrev pub bytes_on : Stream → List ℕ → Stream → List ℕ
bytes_on Out bytes Out = bytes
bytes_on Errors bytes Errors = bytes
bytes_on to bytes stream = []

-- These bytes were printed to a stream, and nothing to the other.
pub record Prints (to : Stream) (bytes : List ℕ) (old new : Stream → Option (List ℕ)) : Type 0 where
  pub out : new Out ≡ then_bytes (old Out) (bytes_on to bytes Out)
  pub errors : new Errors ≡ then_bytes (old Errors) (bytes_on to bytes Errors)

-- The line was printed, or a prefix of it where printing failed.
abbrev pub PrintsLine : {T E : Type 0} → Result T E → Stream → List ℕ → (Stream → Option (List ℕ)) → (Stream → Option (List ℕ)) → Type 0
PrintsLine (Ok x) to line old new = Prints to line old new
PrintsLine (Err e) to line old new = (front : List ℕ) × StartsWith line front × Prints to front old new

-- the stream that isn't this one
abbrev pub other : Stream → Stream
other Out = Errors
other Errors = Out

-- of two numbers the one of this stream
abbrev pub of_stream : Stream → ℕ → ℕ → ℕ
of_stream Out out errors = out
of_stream Errors out errors = errors

-- How often printing to each stream has failed: the count of its own stream rose where a print failed, and no other moved.
abbrev pub CountsPrint : {T E : Type 0} → Result T E → Stream → (Stream → ℕ) → (Stream → ℕ) → Type 0
CountsPrint (Ok x) to before now = (now to ≡ before to) × (now (other to) ≡ before (other to))
CountsPrint (Err e) to before now = (before to ≤ now to) × Rose (before to) (now to) × (now (other to) ≡ before (other to))

-- What was printed is the line, and no print failed; or there is a line, a prefix of it was printed, and the count of failed prints rose.
abbrev pub IsLinePrinted : List ℕ → List ℕ → ℕ → ℕ → Type 0
IsLinePrinted line front before now = ((front ≡ line) × (now ≡ before)) ⊎ ((0 < length line) × StartsWith line front × Rose before now)

-- The line was printed to the errors and no print to them failed, or a prefix of it and the count of failed prints to them rose. Nothing was printed to the output.
abbrev pub Reports : List ℕ → (Stream → Option (List ℕ)) → (Stream → Option (List ℕ)) → ℕ → ℕ → Type 0
Reports line old new before now = (front : List ℕ) × IsLinePrinted line front before now × Prints Errors front old new

-- The line went to the errors and no print to them failed, or a prefix of it and the count of failed prints to them rose.
abbrev pub IsReported : List ℕ → Option (List ℕ) → Option (List ℕ) → ℕ → ℕ → Type 0
IsReported line old new before now = (front : List ℕ) × IsLinePrinted line front before now × (new ≡ then_bytes old front)
