-- An engine may be shared by threads, since its keeper may go from one to another.
use denote.RattleType.{RattleType}
use denote.Param.Send.{IsSend, IsSync, sendable, struct_send}
use denote.Struct.Declared.{shape}
use Rattle.std.proofs.Crossing.{crosses, frees, send as heap_send, sync as heap_sync}
use Rattle.std.specs.contracts.alloc.Global as heap
use Rattle.std.specs.contracts.impls.GlobalAllocator.TheImpl.{ghosts}
use Rattle.left_right.specs.contracts.writer.Writer as writer
use Rattle.left_right.proofs.writer.Writer.TheSendSync as writers
use Rattle.doc_types.proofs.snapshot.Snapshot.TheSendSync as snapshots
use Rattle.image_chunk.proofs.image_chunk.ImageChunk.TheSendSync as chunks
use Rattle.image_chunk.specs.contracts.image_chunk.ImageChunk as chunk
use Rattle.image_chunk.specs.contracts.image_chunk.ImageChunkChunk.TheImpl as chunk_words
use Rattle.chunk_store.specs.declared.disk.Disk.{Ghosts as DiskWords}
use Rattle.step_book.specs.declared.naming.Naming.{Ghosts as Names}
use Rattle.step_book.specs.contracts.made.Made as made
use Rattle.step_book.proofs.front.Front.TheSendSync as fronts
use Rattle.step_book.proofs.front.Turn.TheSendSync as turns
use Rattle.step_book.proofs.line.Book.TheSendSync as books
use Rattle.step_tokens.specs.contracts.rule.Idle as idle
use Rattle.step_tokens.specs.contracts.rule.Rises as rises
use Rattle.step_tokens.specs.contracts.rule.RisesProtocolShownIdle.TheImpl as rules
use Rattle.step_tokens.specs.contracts.shown.Shown as shown
use Rattle.step_tokens.specs.contracts.shown.ShownAbsorb.TheImpl as takes
use Rattle.step_tokens.proofs.shown.Shown.TheSendSync as showns
use Rattle.step_line.specs.contracts.line.Line as line
use Rattle.step_line.specs.contracts.line.Line.TheInside as line_inside
use Rattle.step_line.specs.contracts.pending.Pending as pending
use Rattle.step_line.specs.contracts.pending.Waiting as waiting
use Rattle.step_line.proofs.tally.Tally.TheSendSync as tallies
use Rattle.store_keep.specs.contracts.keeper.Keeper as keeper
use Rattle.snap_share.specs.contracts.engine.Engine as engine
use Rattle.snap_share.specs.contracts.held.Held as held

ruleset parts = (books.the_send, books.the_field_send, fronts.the_send, turns.the_send, snapshots.the_send, snapshots.the_sync, chunks.the_send, chunks.the_sync)

made_send : IsSend (made.the_row chunk.the_row chunk_words.ghosts)
made_send = search (sendable, crosses) depth 20

module _ (N : RattleType) (g : Names N.Denot) where
  -- the writing end: `search` finds no ghost members of an allocator in a row
  writing_send : IsSend (writer.the_field shown.the_row shown.the_row idle.the_row (rises.the_row N) heap.the_row shown.the_row takes.ghosts (rules.ghosts N g rules.no_dict) ghosts).row
  writing_send =
      writers.the_field_send shown.the_row shown.the_row idle.the_row (rises.the_row N) heap.the_row shown.the_row takes.ghosts (rules.ghosts N g rules.no_dict) ghosts showns.the_send showns.the_send heap_send showns.the_sync heap_sync frees

  module _ (s : IsSend N) (y : IsSync N) where
    pending_send : IsSend (pending.the_row N g)
    pending_send = search (sendable, crosses, parts, made_send) depth 20

    waiting_send : IsSend (waiting.the_row N g)
    waiting_send = let p = pending_send in search (sendable, crosses, parts) depth 20

    line_inside_send : IsSend (line_inside.the_field N g).row
    line_inside_send = let w = waiting_send in struct_send (shape (line_inside.the_type N g)) (
      writing_send,
      (
        search (sendable, crosses, parts) depth 20,
        (
          search (sendable, crosses, parts) depth 20,
          (
            search (sendable, crosses, parts) depth 20,
            (
              search (sendable, crosses, parts) depth 20,
              (
                search (sendable, crosses, parts) depth 20,
                (search (sendable, crosses, parts) depth 20, tt),
              ),
            ),
          ),
        ),
      ),
    )

    line_send : IsSend (line.the_row N g)
    line_send = let v = line_inside_send in search (sendable, crosses) depth 20

    module _ (D : RattleType) (d : IsSend D) (w : DiskWords D.Denot) where
      keeper_send : IsSend (keeper.the_field D N g).row
      keeper_send = let v = line_send in search (sendable, crosses, tallies.the_send) depth 60 fits 40000

      held_send : IsSend (held.the_row D N w g)
      held_send = let v = keeper_send in search (sendable, crosses) depth 20

      pub engine_sync : IsSync (engine.the_row D N w g)
      engine_sync = let v = held_send in search (sendable, crosses) depth 20

      pub engine_field_sync : IsSync (engine.the_field D N w g).row
      engine_field_sync = let v = held_send in search (sendable, crosses) depth 20
