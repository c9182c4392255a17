use Rattle.std.proofs.Common.{List, [], Ok, Err, refl, inl}
use Rattle.srch_base.specs.Moves.{meters_of}
use Rattle.srch_base.specs.steps.Moving.{Moves-then, Moves-weaker}
use Rattle.serve_line.specs.Machines.{FollowAll}
use Rattle.serve_line.specs.Line.{Opened, Greeted, Ends}
use Rattle.serve_line.specs.steps.Serving.{Goes, SaysNoRoom}
use Rattle.serve_line.specs.declared.line.LinkEnd.TheVariants.{NoMemory}
use Rattle.serve_line.proofs.Turning.{goes_then}
use Rattle.serve_line.proofs.Filling.{filled}
use Rattle.serve_line.proofs.line.serve.Goals as goal

pub returns-in-Err : goal.returns-in-Err
returns-in-Err g c =
    let K = g.K.Link in
    let A = g.A.Answerer in
    let start = c.args.answerer.now in
    Moves-weaker K c.args.link.now c.greet.new.link
    (λ before now read written. Goes {T = Unit {0}} A.machine before now (Err c.in-Err.end) (Opened c.args.connection start) [] read written [] (Greeted start) [])
    (λ before now read written. (events : List A.Event) × Ends A.machine before now c.in-Err.end (Opened c.args.connection start) [] read written events × FollowAll A.follows c.args.store.now events c.args.store.now)
    c.in-Err.ensures
    (λ r w p. ([], p, refl))

pub returns-in-Ok-new : goal.returns-in-Ok-new
returns-in-Ok-new g c =
    let K = g.K.Link in
    let A = g.A.Answerer in
    let m = meters_of K in
    let start = c.args.answerer.now in
    Moves-then K c.args.link.now c.greet.new.link c.converse.new.link
    (λ before now read written. Goes {T = Unit {0}} A.machine before now (Ok c.in-Ok.field-0) (Opened c.args.connection start) [] read written [] (Greeted start) [])
    (λ before now read written. (events : List A.Event) × Ends A.machine before now c.converse.result (Greeted start) [] read written events × FollowAll A.follows c.args.store.now events c.converse.new.store)
    (λ before now read written. (events : List A.Event) × Ends A.machine before now c.converse.result (Opened c.args.connection start) [] read written events × FollowAll A.follows c.args.store.now events c.converse.new.store)
    c.in-Ok.ensures
    (rw c.in-Ok-new.ensures.0 at c.converse.ensures)
    (λ r w r' w' a b d e p q. (
      q.0,
      goes_then A.machine (m c.args.link.now) (m c.greet.new.link) (m c.converse.new.link) (Err c.converse.result) (Opened c.args.connection start) (Greeted start) (Greeted start) [] r w [] r' w' [] [] q.0
          (record { reads = a; writes = b }) p q.1,
      q.2,
    ))

pub returns-in-Err-new : goal.returns-in-Err-new
returns-in-Err-new g c =
    let K = g.K.Link in
    let A = g.A.Answerer in
    let m = meters_of K in
    let start = c.args.answerer.now in
    Moves-then K c.args.link.now c.greet.new.link c.out_of_memory.new.link
    (λ before now read written. Goes {T = Unit {0}} A.machine before now (Ok c.in-Ok.field-0) (Opened c.args.connection start) [] read written [] (Greeted start) [])
    (SaysNoRoom 2)
    (λ before now read written. (events : List A.Event) × Ends A.machine before now c.out_of_memory.result (Opened c.args.connection start) [] read written events × FollowAll A.follows c.args.store.now events c.args.store.now)
    c.in-Ok.ensures c.out_of_memory.ensures.moves
    (λ r w r' w' a b d e p q. (
      [],
      rw (q.0, c.out_of_memory.ensures.end) (goes_then A.machine (m c.args.link.now) (m c.greet.new.link) (m c.out_of_memory.new.link) (Err NoMemory) (Opened c.args.connection start) (Greeted start) (Greeted start) [] r w [] [] w' [] [] []
          (record { reads = a; writes = b }) p
          (filled A.machine (m c.greet.new.link) (m c.out_of_memory.new.link) (Greeted start) tt [] [] [] NoMemory w' (inl refl, q.1))),
      refl,
    ))
