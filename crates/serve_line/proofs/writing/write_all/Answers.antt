use Rattle.srch_base.specs.declared.faults.Failed.{Failed}
use Rattle.std.proofs.Common.{◌≡◌, ℕ, ◌+◌, ◌-◌, ◌<◌, ◌≤◌, List, [], length, take, drop, refl, sym, subst, arith, length-drop, length-take, Err}
use Rattle.std.proofs.lemmas.List.{append-nil}
use Rattle.srch_base.specs.steps.Counting.{Rose-earlier}
use Rattle.srch_base.specs.Moves.{IsCut}
use Rattle.srch_base.specs.steps.Writing.{WritesAll}
use Rattle.srch_base.specs.steps.Moving.{cut_at, take_next, stuck, Moves-more}
use Rattle.serve_line.proofs.writing.write_all.Goals as goal

pub pieces-preserved : goal.pieces-preserved
pieces-preserved g c =
    let h = c.in-Ok.ensures in
    let K = g.K.Link in
    let within : c.pieces.done ≤ length c.args.bytes.now = omega (arith, c.pieces-test.true) in (
      omega (arith, h.count, length-drop c.pieces.done c.args.bytes.now),
      Moves-more K c.args.link.now c.pieces.link c.write.new.self c.args.bytes.now
          (take c.pieces.done c.args.bytes.now) (take c.in-Ok.count (take (length c.args.bytes.now - c.pieces.done) (drop c.pieces.done c.args.bytes.now)))
          (λ before now read written. (read ≡ []) × (written ≡ take (c.pieces.done + c.in-Ok.count) c.args.bytes.now))
          c.pieces.invariant.1 h.writes h.reads h.cause.later h.read_count
          (λ later. (refl, take_next c.args.bytes.now c.pieces.done c.in-Ok.count within)),
    )

pub returns-in-Ok-eq0 : goal.returns-in-Ok-eq0
returns-in-Ok-eq0 g c =
    let h = c.in-Ok-eq0.ensures in
    let K = g.K.Link in
    let front = take c.pieces.done c.args.bytes.now in
    let piece = take (length c.args.bytes.now - c.pieces.done) (drop c.pieces.done c.args.bytes.now) in
    let some : 0 < length piece = simp (length-take, length-drop) (omega (arith, c.pieces-test.true)) in
    Moves-more K c.args.link.now c.pieces.link c.write.new.self c.args.bytes.now front (take c.in-Ok-eq0.field-0 piece)
    (WritesAll {T = Unit {0}} {E = Failed} (Err (record {})) c.args.bytes.now)
    c.pieces.invariant.1 h.writes h.reads h.cause.later h.read_count
    (λ later. (
      refl,
      rw c.in-Ok-eq0.field-0-test (subst (λ (w : List ℕ). IsCut w c.args.bytes.now) (sym (append-nil front)) (cut_at c.args.bytes.now c.pieces.done c.pieces-test.true)),
      Rose-earlier _ _ _ later (stuck c.in-Ok-eq0.field-0 (length piece) _ c.in-Ok-eq0.field-0-test some h.stuck),
    ))

pub returns-in-Err : goal.returns-in-Err
returns-in-Err g c =
    let h = c.in-Err.ensures in
    let K = g.K.Link in
    let front = take c.pieces.done c.args.bytes.now in
    Moves-more K c.args.link.now c.pieces.link c.write.new.self c.args.bytes.now front []
    (WritesAll {T = Unit {0}} (Err c.in-Err.failed) c.args.bytes.now)
    c.pieces.invariant.1 h.writes h.reads h.cause.later h.read_count
    (λ later. (
      refl,
      subst (λ (w : List ℕ). IsCut w c.args.bytes.now) (sym (append-nil front)) (cut_at c.args.bytes.now c.pieces.done c.pieces-test.true),
      Rose-earlier _ _ _ later (h.cause.failed refl),
    ))
