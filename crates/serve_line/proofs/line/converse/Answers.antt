use Rattle.std.proofs.Common.{ℕ, suc, ◌<◌, List, [], ◌++◌, Ok, Err, refl, arith, add-one, ◌+◌}
use Rattle.srch_base.specs.Moves.{meters_of}
use Rattle.srch_base.specs.steps.Moving.{Moves-then, Moves-weaker}
use Rattle.serve_line.specs.Machines.{FollowAll}
use Rattle.serve_line.specs.Line.{Greeted, Talking, Ends, most_commands}
use Rattle.serve_line.specs.steps.Serving.{Goes, GoesOn}
use Rattle.serve_line.specs.declared.line.LinkEnd.TheVariants.{Worn}
use Rattle.serve_line.proofs.Turning.{goes_then, worn, FollowAll-append}
use Rattle.serve_line.proofs.line.converse.Goals as goal

pub returns-in-Err : goal.returns-in-Err
returns-in-Err g c =
    let K = g.K.Link in
    let A = g.A.Answerer in
    let held = c.args.room.now.framer.held in
    let start = c.args.answerer.now in
    Moves-weaker K c.args.link.now c.shake.new.link
    (λ before now read written. Goes {T = Unit {0}} A.machine before now (Err c.in-Err.end) (Greeted start) held read written [] (Talking start 0) c.shake.new.room.framer.held)
    (λ before now read written. (events : List A.Event) × Ends A.machine before now (c.in-Err.end) (Greeted start) held read written events
    × FollowAll A.follows c.args.store.now events c.args.store.now)
    c.in-Err.ensures.moves
    (λ r w p. ([], p, refl))

pub commands-init : goal.commands-init
commands-init g c =
    let K = g.K.Link in
    let A = g.A.Answerer in
    let held = c.args.room.now.framer.held in
    let start = c.args.answerer.now in
    record {
      good = c.in-Ok.ensures.good;
      fits = c.requires.fits;
      talked = Moves-weaker K c.args.link.now c.shake.new.link
          (λ before now read written. Goes {T = Unit {0}} A.machine before now (Ok c.in-Ok.field-0) (Greeted start) held read written [] (Talking start 0) c.shake.new.room.framer.held)
          (λ before now read written. (events : List A.Event) × GoesOn A.machine (Greeted start) held read written events (Talking start 0) c.shake.new.room.framer.held
          × FollowAll A.follows c.args.store.now events c.args.store.now)
          c.in-Ok.ensures.moves
          (λ r w p. ([], p, refl));
    }

pub turn-requires : goal.turn-requires
turn-requires g c = record { good = c.commands.invariant.good; fits = c.commands.invariant.fits }

pub returns-in-Err-turn : goal.returns-in-Err-turn
returns-in-Err-turn g c =
    let K = g.K.Link in
    let A = g.A.Answerer in
    let m = meters_of K in
    let held = c.args.room.now.framer.held in
    let start = c.args.answerer.now in
    let old = c.commands.answerer in
    let new = c.turn.new.answerer in
    Moves-then K c.args.link.now c.commands.link c.turn.new.link
    (λ before now read written. (events : List A.Event) × GoesOn A.machine (Greeted start) held read written events (Talking old c.commands.counter) c.commands.room.framer.held
    × FollowAll A.follows c.args.store.now events c.commands.store)
    (λ before now read written. (events : List A.Event)
    × ((answered : ℕ) → answered < most_commands → Goes {T = Unit {0}} A.machine before now (Err c.in-Err-turn.end) (Talking old answered) c.commands.room.framer.held read written events (Talking new (suc answered)) c.turn.new.room.framer.held)
    × FollowAll A.follows c.commands.store events c.turn.new.store)
    (λ before now read written. (events : List A.Event) × Ends A.machine before now (c.in-Err-turn.end) (Greeted start) held read written events
    × FollowAll A.follows c.args.store.now events c.turn.new.store)
    c.commands.invariant.talked c.in-Err-turn.ensures.moves
    (λ r w r' w' a b d e p q. (
      p.0 ++ q.0,
      goes_then A.machine (m c.args.link.now) (m c.commands.link) (m c.turn.new.link) (Err c.in-Err-turn.end) (Greeted start) (Talking old c.commands.counter) (Talking new (suc c.commands.counter)) held r w c.commands.room.framer.held r' w' c.turn.new.room.framer.held p.0 q.0
          (record { reads = a; writes = b }) p.1 (q.1 c.commands.counter (omega arith)),
      FollowAll-append A.follows p.0 q.0 c.args.store.now c.commands.store c.turn.new.store p.2 q.2,
    ))

pub commands-preserved : goal.commands-preserved
commands-preserved g c =
    let K = g.K.Link in
    let A = g.A.Answerer in
    let m = meters_of K in
    let held = c.args.room.now.framer.held in
    let start = c.args.answerer.now in
    let old = c.commands.answerer in
    let new = c.turn.new.answerer in
    record {
      good = c.in-Ok-turn.ensures.good;
      fits = c.in-Ok-turn.ensures.fits;
      talked = Moves-then K c.args.link.now c.commands.link c.turn.new.link
          (λ before now read written. (events : List A.Event) × GoesOn A.machine (Greeted start) held read written events (Talking old c.commands.counter) c.commands.room.framer.held
          × FollowAll A.follows c.args.store.now events c.commands.store)
          (λ before now read written. (events : List A.Event)
          × ((answered : ℕ) → answered < most_commands → Goes {T = Unit {0}} A.machine before now (Ok c.in-Ok-turn.field-0) (Talking old answered) c.commands.room.framer.held read written events (Talking new (suc answered)) c.turn.new.room.framer.held)
          × FollowAll A.follows c.commands.store events c.turn.new.store)
          (λ before now read written. (events : List A.Event) × GoesOn A.machine (Greeted start) held read written events (Talking new (c.commands.counter + 1)) c.turn.new.room.framer.held
          × FollowAll A.follows c.args.store.now events c.turn.new.store)
          c.commands.invariant.talked c.in-Ok-turn.ensures.moves
          (λ r w r' w' a b d e p q. (
            p.0 ++ q.0,
            rw add-one (goes_then A.machine (m c.args.link.now) (m c.commands.link) (m c.turn.new.link) (Ok c.in-Ok-turn.field-0) (Greeted start) (Talking old c.commands.counter) (Talking new (suc c.commands.counter)) held r w c.commands.room.framer.held r' w' c.turn.new.room.framer.held p.0 q.0
                (record { reads = a; writes = b }) p.1 (q.1 c.commands.counter (omega arith))),
            FollowAll-append A.follows p.0 q.0 c.args.store.now c.commands.store c.turn.new.store p.2 q.2,
          ));
    }

pub returns : goal.returns
returns g c =
    let K = g.K.Link in
    let A = g.A.Answerer in
    let m = meters_of K in
    let held = c.args.room.now.framer.held in
    let start = c.args.answerer.now in
    Moves-weaker K c.args.link.now c.commands.link
    (λ before now read written. (events : List A.Event) × GoesOn A.machine (Greeted start) held read written events (Talking c.commands.answerer c.commands.counter) c.commands.room.framer.held
    × FollowAll A.follows c.args.store.now events c.commands.store)
    (λ before now read written. (events : List A.Event) × Ends A.machine before now Worn (Greeted start) held read written events
    × FollowAll A.follows c.args.store.now events c.commands.store)
    c.commands.invariant.talked
    (λ r w p. (
      p.0,
      worn A.machine (m c.args.link.now) (m c.commands.link) c.commands.answerer (Greeted start) c.commands.counter held r w c.commands.room.framer.held p.0 (omega arith) p.1,
      p.2,
    ))
