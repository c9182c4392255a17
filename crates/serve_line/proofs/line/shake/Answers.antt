use Rattle.std.proofs.Common.{[], Ok, Err, refl, ap, ◌∙◌}
use Rattle.srch_base.specs.Moves.{meters_of}
use Rattle.srch_base.specs.steps.Moving.{Moves-then, Moves-weaker}
use Rattle.mysql_wire.specs.Replies.{ok_packet}
use Rattle.serve_line.specs.Line.{Greeted, Talking, Ends}
use Rattle.serve_line.specs.steps.Serving.{Goes, Fills, RefusesWith, Sends}
use Rattle.serve_line.specs.declared.line.LinkEnd.TheVariants.{BadHandshake, TooLarge, OutOfOrder}
use Rattle.serve_line.proofs.Filling.{filled, only_read}
use Rattle.serve_line.proofs.Turning.{turned, refused_then, response_turn, responds}
use Rattle.serve_line.proofs.line.shake.Goals as goal

pub returns-in-Err-clause-moves : goal.returns-in-Err-clause-moves
returns-in-Err-clause-moves g c =
    let K = g.K.Link in
    let m = meters_of K in
    let held = c.args.room.now.framer.held in
    Moves-weaker K c.args.link.now c.fill.new.link
    (Fills {T = Unit {0}} (Err c.in-Err.end) 1 held c.fill.new.framer.held)
    (λ before now read written. Ends g.A.Answerer.machine before now c.in-Err.end (Greeted c.args.answerer.now) held read written [])
    c.in-Err.ensures.moves
    (λ r w p. filled g.A.Answerer.machine (m c.args.link.now) (m c.fill.new.link) (Greeted c.args.answerer.now) tt held r c.fill.new.framer.held c.in-Err.end w p)

pub returns-in-Accepted-clause-moves : goal.returns-in-Accepted-clause-moves
returns-in-Accepted-clause-moves g c =
    let K = g.K.Link in
    let m = meters_of K in
    let held = c.args.room.now.framer.held in
    let start = c.args.answerer.now in
    let t = c.in-Accepted.ensures in
    Moves-then K c.args.link.now c.fill.new.link c.send.new.link
    (Fills {T = Unit {0}} (Ok c.in-Ok.field-0) 1 held c.fill.new.framer.held)
    (Sends c.send.result c.bytes.result.now)
    (λ before now read written. Goes g.A.Answerer.machine before now c.send.result (Greeted start) held read written [] (Talking start 0) c.take_response.new.framer.held)
    c.in-Ok.ensures.moves c.send.ensures
    (λ r w r' w' a b d e p q.
    turned g.A.Answerer.machine (m c.args.link.now) (m c.fill.new.link) (m c.send.new.link) c.send.result (Greeted start) (Talking start 0)
    (response_turn g.A.Answerer.Event (g.A.Answerer.machine.status start) t.0) held r w c.fill.new.framer.held c.take_response.new.framer.held r' w' c.bytes.result.now
    (record { reads = a; writes = b })
    (only_read g.A.Answerer.machine (m c.args.link.now) (m c.fill.new.link) (Greeted start) tt held r c.fill.new.framer.held w p.0 p.1)
    (responds g.A.Answerer.machine start t.0 t.1 t.2.0 t.4) t.2.1 (c.bytes.ensures.value ∙ c.ok_packet.ensures ∙ ap (ok_packet 2 0) c.status.ensures) q)

pub returns-in-Bad-clause-moves : goal.returns-in-Bad-clause-moves
returns-in-Bad-clause-moves g c =
    let K = g.K.Link in
    let m = meters_of K in
    let held = c.args.room.now.framer.held in
    let start = c.args.answerer.now in
    let t = c.in-Bad.ensures in
    Moves-then K c.args.link.now c.fill.new.link c.refuse.new.link
    (Fills {T = Unit {0}} (Ok c.in-Ok.field-0) 1 held c.fill.new.framer.held)
    (RefusesWith c.refuse.result c.bad_handshake.result (BadHandshake c.in-Bad.place))
    (λ before now read written. Ends g.A.Answerer.machine before now c.refuse.result (Greeted start) held read written [])
    c.in-Ok.ensures.moves c.refuse.ensures
    (λ r w r' w' a b d e p q.
    refused_then g.A.Answerer.machine (m c.args.link.now) (m c.fill.new.link) (m c.refuse.new.link) c.refuse.result (BadHandshake c.in-Bad.place) (Greeted start) held r w c.fill.new.framer.held c.bad_handshake.result r' w'
    (record { reads = a; writes = b })
    (only_read g.A.Answerer.machine (m c.args.link.now) (m c.fill.new.link) (Greeted start) tt held r c.fill.new.framer.held w p.0 p.1)
    (t.0, c.take_response.new.framer.held, start, refl, t.1, t.2, c.bad_handshake.ensures) q)

pub returns-in-TooLarge-clause-moves : goal.returns-in-TooLarge-clause-moves
returns-in-TooLarge-clause-moves g c =
    let K = g.K.Link in
    let m = meters_of K in
    let held = c.args.room.now.framer.held in
    let start = c.args.answerer.now in
    let t = c.in-TooLarge.ensures in
    Moves-then K c.args.link.now c.fill.new.link c.refuse-in-TooLarge.new.link
    (Fills {T = Unit {0}} (Ok c.in-Ok.field-0) 1 held c.fill.new.framer.held)
    (RefusesWith c.refuse-in-TooLarge.result c.too_large.result (TooLarge c.in-TooLarge.length))
    (λ before now read written. Ends g.A.Answerer.machine before now c.refuse-in-TooLarge.result (Greeted start) held read written [])
    c.in-Ok.ensures.moves c.refuse-in-TooLarge.ensures
    (λ r w r' w' a b d e p q.
    refused_then g.A.Answerer.machine (m c.args.link.now) (m c.fill.new.link) (m c.refuse-in-TooLarge.new.link) c.refuse-in-TooLarge.result (TooLarge c.in-TooLarge.length) (Greeted start) held r w c.fill.new.framer.held c.too_large.result r' w'
    (record { reads = a; writes = b })
    (only_read g.A.Answerer.machine (m c.args.link.now) (m c.fill.new.link) (Greeted start) tt held r c.fill.new.framer.held w p.0 p.1)
    (c.in-TooLarge.seq, t, tt, c.too_large.ensures) q)

pub returns-in-OutOfOrder-clause-moves : goal.returns-in-OutOfOrder-clause-moves
returns-in-OutOfOrder-clause-moves g c =
    let K = g.K.Link in
    let m = meters_of K in
    let held = c.args.room.now.framer.held in
    let start = c.args.answerer.now in
    let t = c.in-OutOfOrder.ensures in
    Moves-then K c.args.link.now c.fill.new.link c.refuse-in-OutOfOrder.new.link
    (Fills {T = Unit {0}} (Ok c.in-Ok.field-0) 1 held c.fill.new.framer.held)
    (RefusesWith c.refuse-in-OutOfOrder.result c.out_of_order.result (OutOfOrder c.in-OutOfOrder.seq))
    (λ before now read written. Ends g.A.Answerer.machine before now c.refuse-in-OutOfOrder.result (Greeted start) held read written [])
    c.in-Ok.ensures.moves c.refuse-in-OutOfOrder.ensures
    (λ r w r' w' a b d e p q.
    refused_then g.A.Answerer.machine (m c.args.link.now) (m c.fill.new.link) (m c.refuse-in-OutOfOrder.new.link) c.refuse-in-OutOfOrder.result (OutOfOrder c.in-OutOfOrder.seq) (Greeted start) held r w c.fill.new.framer.held c.out_of_order.result r' w'
    (record { reads = a; writes = b })
    (only_read g.A.Answerer.machine (m c.args.link.now) (m c.fill.new.link) (Greeted start) tt held r c.fill.new.framer.held w p.0 p.1)
    (t, tt, c.out_of_order.ensures) q)
