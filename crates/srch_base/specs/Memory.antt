-- Links and doors over memory: what they hold, and what each call makes of it.
use Rattle.std.specs.Prelude.{◌+◌, ◌-◌, ◌==◌, ◌||◌, ◌&&◌, ℕ, List, [], ◌∷◌, ◌++◌, Bool, true, false, Option, Some, None, Result, Ok, Err, length, take, filter, min, nat_lt, if◌then◌else◌}
use Rattle.std.specs.List.{list_any}
use Rattle.srch_base.specs.Counts.{last_count}
use Rattle.srch_base.specs.declared.faults.Failed.{Failed}

-- A link over memory.
pub record Memory : Type 0 where
  -- all that it gives, and how much of that was read
  pub input : List ℕ
  pub at : ℕ
  -- the lengths of the pieces that the next reads give, none of them 0; what follows them is given whole
  pub pieces : List ℕ
  -- the numbers of the calls that fail, the first call being 1, and the number of calls so far
  pub failing : List ℕ
  pub calls : ℕ
  -- all that was written
  pub written : List ℕ
  pub ended : Bool
  pub read_faults : ℕ
  pub write_faults : ℕ

-- the link over these before its first call
abbrev pub memory_over : List ℕ → List ℕ → List ℕ → Memory
memory_over input cuts failing =
    record {
      input = input;
      at = 0;
      pieces = filter (nat_lt 0) cuts;
      failing = failing;
      calls = 0;
      written = [];
      ended = false;
      read_faults = 0;
      write_faults = 0;
    }

-- what such a link records: everything
abbrev pub memory_read : Memory → Option (List ℕ)
memory_read m = Some (take m.at m.input)

abbrev pub memory_written : Memory → Option (List ℕ)
memory_written m = Some m.written

-- one more, up to where a count stands still
abbrev pub one_more : ℕ → ℕ
one_more n = min (n + 1) last_count

-- the next call is one of those that fail
abbrev pub fails_next : Memory → Bool
fails_next m = list_any (λ number. number == m.calls + 1) m.failing

-- how much of this many bytes lies in the next piece
abbrev pub within_piece : List ℕ → ℕ → ℕ
within_piece [] size = size
within_piece (piece ∷ pieces) size = min size piece

-- the pieces after this many bytes of the next one
abbrev pub pieces_after : List ℕ → ℕ → List ℕ
pieces_after [] count = []
pieces_after (piece ∷ pieces) count = if piece == count then pieces else (piece - count) ∷ pieces

-- how many bytes the next read moves into this much room
abbrev pub next_size : Memory → ℕ → ℕ
next_size m room = within_piece m.pieces (min (length m.input - m.at) room)

-- the link after a read into this much room that failed, or moved so many bytes
abbrev pub after_read : Memory → ℕ → Result ℕ Failed → Memory
after_read m room (Err e) = record m { calls = one_more m.calls; read_faults = one_more m.read_faults }
after_read m room (Ok count) =
    record m {
      calls = one_more m.calls;
      at = m.at + count;
      pieces = pieces_after m.pieces count;
      ended = m.ended || ((count == 0) && nat_lt 0 room);
    }

-- the link after a write of these bytes that failed, or took all of them
abbrev pub after_write : Memory → List ℕ → Result ℕ Failed → Memory
after_write m bytes (Err e) = record m { calls = one_more m.calls; write_faults = one_more m.write_faults }
after_write m bytes (Ok count) = record m { calls = one_more m.calls; written = m.written ++ bytes }

-- A door over a list of links.
pub record Lines : Type 0 where
  -- all lines that it gives, and how many of them were given
  pub lines : List Memory
  pub at : ℕ
  pub returned : List Memory
  pub ended : Bool
  pub faults : ℕ

-- the door over these lines before its first call
abbrev pub door_over : List Memory → Lines
door_over lines = record { lines = lines; at = 0; returned = []; ended = false; faults = 0 }

-- the lines that such a door gave
abbrev pub lines_given : Lines → List Memory
lines_given d = take d.at d.lines

-- the door after a call of `next` that answered this
abbrev pub after_next : Lines → Result (Option Memory) Failed → Lines
after_next d (Ok None) = record d { ended = true }
after_next d (Ok (Some line)) = record d { at = d.at + 1 }
after_next d (Err e) = record d { faults = one_more d.faults }
