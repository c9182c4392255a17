use Rattle.std.proofs.Common.{◌<◌, ℕ, suc, List, [], Ok, Err, refl}
use Rattle.srch_base.specs.Moves.{meters_of}
use Rattle.srch_base.specs.steps.Moving.{Moves-then, Moves-weaker}
use Rattle.serve_line.specs.Machines.{FollowAll}
use Rattle.serve_line.specs.Line.{Talking, Ends, most_commands}
use Rattle.serve_line.specs.steps.Serving.{Goes, Fills, RefusesWith, Sends}
use Rattle.serve_line.specs.declared.line.LinkEnd.TheVariants.{Quit, TooLarge, OutOfOrder}
use Rattle.serve_line.proofs.Filling.{filled, only_read}
use Rattle.serve_line.proofs.Turning.{turned, refused_then, quit_then, command_turn, commands}
use Rattle.serve_line.proofs.line.turn.Goals as goal

pub returns-in-Err-clause-moves : goal.returns-in-Err-clause-moves
returns-in-Err-clause-moves g c =
    let K = g.K.Link in
    let m = meters_of K in
    let held = c.args.room.now.framer.held in
    let old = c.args.answerer.now in
    Moves-weaker K c.args.link.now c.fill.new.link
    (Fills {T = Unit {0}} (Err c.in-Err.end) 0 held c.fill.new.framer.held)
    (λ before now read written. (events : List g.A.Answerer.Event)
    × ((answered : ℕ) → answered < most_commands → Ends g.A.Answerer.machine before now c.in-Err.end (Talking old answered) held read written events)
    × FollowAll g.A.Answerer.follows c.args.store.now events c.args.store.now)
    c.in-Err.ensures.moves
    (λ r w p. ([], (λ answered few. filled g.A.Answerer.machine (m c.args.link.now) (m c.fill.new.link) (Talking old answered) few held r c.fill.new.framer.held c.in-Err.end w p), refl))

pub returns-in-Reply-clause-moves : goal.returns-in-Reply-clause-moves
returns-in-Reply-clause-moves g c =
    let K = g.K.Link in
    let m = meters_of K in
    let held = c.args.room.now.framer.held in
    let old = c.args.answerer.now in
    let new = c.take_command.new.answerer in
    let t = c.in-Reply.ensures.takes in
    let s = t.4 in
    Moves-then K c.args.link.now c.fill.new.link c.send.new.link
    (Fills {T = Unit {0}} (Ok c.in-Ok.field-0) 0 held c.fill.new.framer.held)
    (Sends c.send.result c.bytes.result.now)
    (λ before now read written. (events : List g.A.Answerer.Event)
    × ((answered : ℕ) → answered < most_commands → Goes g.A.Answerer.machine before now c.send.result (Talking old answered) held read written events (Talking new (suc answered)) c.take_command.new.framer.held)
    × FollowAll g.A.Answerer.follows c.args.store.now events c.take_command.new.store)
    c.in-Ok.ensures.moves c.send.ensures
    (λ r w r' w' a b d e p q. (
      s.0,
      (λ answered few. turned g.A.Answerer.machine (m c.args.link.now) (m c.fill.new.link) (m c.send.new.link) c.send.result (Talking old answered) (Talking new (suc answered))
          (command_turn g.A.Answerer.Event t.0 c.take_command.new.replies.bytes s.0) held r w c.fill.new.framer.held c.take_command.new.framer.held r' w' c.bytes.result.now
          (record { reads = a; writes = b })
          (only_read g.A.Answerer.machine (m c.args.link.now) (m c.fill.new.link) (Talking old answered) few held r c.fill.new.framer.held w p.0 p.1)
          (commands g.A.Answerer.machine old new answered few t.0 c.take_command.new.replies.bytes s.0 t.1.0 t.3 s.1) t.1.1 c.bytes.ensures q),
      s.2,
    ))

pub returns-in-Quit-clause-moves : goal.returns-in-Quit-clause-moves
returns-in-Quit-clause-moves g c =
    let K = g.K.Link in
    let m = meters_of K in
    let held = c.args.room.now.framer.held in
    let old = c.args.answerer.now in
    let t = c.in-Quit.ensures.takes in
    Moves-weaker K c.args.link.now c.fill.new.link
    (Fills {T = Unit {0}} (Ok c.in-Ok.field-0) 0 held c.fill.new.framer.held)
    (λ before now read written. (events : List g.A.Answerer.Event)
    × ((answered : ℕ) → answered < most_commands → Ends g.A.Answerer.machine before now Quit (Talking old answered) held read written events)
    × FollowAll g.A.Answerer.follows c.args.store.now events c.take_command.new.store)
    c.in-Ok.ensures.moves
    (λ r w p. (
      [],
      (λ answered few. quit_then g.A.Answerer.machine (m c.args.link.now) (m c.fill.new.link) old answered held r w c.fill.new.framer.held c.take_command.new.framer.held t.0 few
          (only_read g.A.Answerer.machine (m c.args.link.now) (m c.fill.new.link) (Talking old answered) few held r c.fill.new.framer.held w p.0 p.1) t.1 t.2),
      t.3,
    ))

pub returns-in-TooLarge-clause-moves : goal.returns-in-TooLarge-clause-moves
returns-in-TooLarge-clause-moves g c =
    let K = g.K.Link in
    let m = meters_of K in
    let held = c.args.room.now.framer.held in
    let old = c.args.answerer.now in
    let t = c.in-TooLarge.ensures.takes in
    Moves-then K c.args.link.now c.fill.new.link c.refuse.new.link
    (Fills {T = Unit {0}} (Ok c.in-Ok.field-0) 0 held c.fill.new.framer.held)
    (RefusesWith c.refuse.result c.too_large.result (TooLarge c.in-TooLarge.length))
    (λ before now read written. (events : List g.A.Answerer.Event)
    × ((answered : ℕ) → answered < most_commands → Ends g.A.Answerer.machine before now c.refuse.result (Talking old answered) held read written events)
    × FollowAll g.A.Answerer.follows c.args.store.now events c.take_command.new.store)
    c.in-Ok.ensures.moves c.refuse.ensures
    (λ r w r' w' a b d e p q. (
      [],
      (λ answered few. refused_then g.A.Answerer.machine (m c.args.link.now) (m c.fill.new.link) (m c.refuse.new.link) c.refuse.result (TooLarge c.in-TooLarge.length) (Talking old answered) held r w c.fill.new.framer.held c.too_large.result r' w'
          (record { reads = a; writes = b })
          (only_read g.A.Answerer.machine (m c.args.link.now) (m c.fill.new.link) (Talking old answered) few held r c.fill.new.framer.held w p.0 p.1)
          (c.in-TooLarge.seq, t.0, few, c.too_large.ensures) q),
      t.1,
    ))

pub returns-in-OutOfOrder-clause-moves : goal.returns-in-OutOfOrder-clause-moves
returns-in-OutOfOrder-clause-moves g c =
    let K = g.K.Link in
    let m = meters_of K in
    let held = c.args.room.now.framer.held in
    let old = c.args.answerer.now in
    let t = c.in-OutOfOrder.ensures.takes in
    Moves-then K c.args.link.now c.fill.new.link c.refuse-in-OutOfOrder.new.link
    (Fills {T = Unit {0}} (Ok c.in-Ok.field-0) 0 held c.fill.new.framer.held)
    (RefusesWith c.refuse-in-OutOfOrder.result c.out_of_order.result (OutOfOrder c.in-OutOfOrder.seq))
    (λ before now read written. (events : List g.A.Answerer.Event)
    × ((answered : ℕ) → answered < most_commands → Ends g.A.Answerer.machine before now c.refuse-in-OutOfOrder.result (Talking old answered) held read written events)
    × FollowAll g.A.Answerer.follows c.args.store.now events c.take_command.new.store)
    c.in-Ok.ensures.moves c.refuse-in-OutOfOrder.ensures
    (λ r w r' w' a b d e p q. (
      [],
      (λ answered few. refused_then g.A.Answerer.machine (m c.args.link.now) (m c.fill.new.link) (m c.refuse-in-OutOfOrder.new.link) c.refuse-in-OutOfOrder.result (OutOfOrder c.in-OutOfOrder.seq) (Talking old answered) held r w c.fill.new.framer.held c.out_of_order.result r' w'
          (record { reads = a; writes = b })
          (only_read g.A.Answerer.machine (m c.args.link.now) (m c.fill.new.link) (Talking old answered) few held r c.fill.new.framer.held w p.0 p.1)
          (t.0, few, c.out_of_order.ensures) q),
      t.1,
    ))
