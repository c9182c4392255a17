use Rattle.std.proofs.Common.{◌≡◌, List, None}
use Rattle.srch_base.specs.Moves.{Moves}
use Rattle.serve_line.specs.Machines.{FollowAll}
use Rattle.serve_line.specs.Line.{Greeted, Talking}
use Rattle.serve_line.specs.steps.Serving.{GoesOn}
use Rattle.serve_line.proofs.line.converse.Given as goal

-- the response and so many commands were answered
abbrev pub invariant-commands : goal.invariant-commands
invariant-commands g l =
    let K = g.K.Link in
    record {
      good : l.room.framer.refused ≡ None;
      fits : g.A.Answerer.fits l.answerer l.store;
      talked : Moves K l.fn.link l.link (λ before now read written. (events : List g.A.Answerer.Event)
          × GoesOn g.A.Answerer.machine (Greeted l.fn.answerer) l.fn.room.framer.held read written events (Talking l.answerer l.counter) l.room.framer.held
          × FollowAll g.A.Answerer.follows l.fn.store events l.store);
    }
