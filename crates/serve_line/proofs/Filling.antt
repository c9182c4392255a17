-- How reading until a packet is whole goes on or ends.
use Rattle.std.proofs.Common.{◌≡◌, ℕ, List, [], ◌++◌, Err, refl, sym}
use Rattle.srch_base.specs.Moves.{Meters}
use Rattle.serve_line.specs.Machines.{Machine}
use Rattle.serve_line.specs.Line.{Phase, Listens, expected, Stops, Ends}
use Rattle.serve_line.specs.steps.Serving.{Fills, GoesOn}
use Rattle.serve_line.specs.declared.line.LinkEnd.{LinkEnd}
use Rattle.serve_line.specs.declared.line.LinkEnd.TheVariants.{Quit, End, Truncated, BadHandshake, TooLarge, OutOfOrder, ReadFault, WriteFault, Worn, NoMemory}

module _ {S E : Type 0} (machine : Machine S E) (before now : Meters) (phase : Phase S) (listens : Listens phase) (held read kept : List ℕ) where
  -- the connection ends with nothing answered
  pub ends_here : (end : LinkEnd) (written : List ℕ) → Stops machine before now end (record { phase = phase; rest = held ++ read; last = written; events = [] })
      → Ends machine before now end phase held read written []
  ends_here end written stops = record {
    turns = [];
    at = record { phase = phase; rest = held ++ read; last = written; events = [] };
    run = refl;
    stops = stops;
    is_read = refl;
    is_written = refl;
    happened = refl;
  }

  -- Reading ended the connection.
  pub filled : (end : LinkEnd) (written : List ℕ) → Fills {T = Unit {0}} (Err end) (expected phase) held kept before now read written
      → Ends machine before now end phase held read written []
  filled End written fills = ends_here End written (listens, fills.2, fills.1, (fills.0, refl))
  filled Truncated written fills = ends_here Truncated written (listens, fills.3, fills.1, fills.2, (fills.0, refl))
  filled ReadFault written fills = ends_here ReadFault written (listens, fills.2, fills.1, (fills.0, refl))
  filled NoMemory written fills = ends_here NoMemory written (listens, fills.0, (fills.1, refl))
  filled Quit written fills = absurd fills
  filled (BadHandshake place) written fills = absurd fills
  filled (TooLarge size) written fills = absurd fills
  filled (OutOfOrder seq) written fills = absurd fills
  filled WriteFault written fills = absurd fills
  filled Worn written fills = absurd fills

  -- A packet was read, or something to refuse.
  pub only_read : (written : List ℕ) → written ≡ [] → kept ≡ held ++ read → GoesOn machine phase held read written [] phase kept
  only_read written none same = record { turns = []; run = refl; is_read = sym same; is_written = none; happened = refl }
