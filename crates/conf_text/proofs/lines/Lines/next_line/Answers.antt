use Rattle.std.proofs.lemmas.Bool.{not-false, not-true}
use Rattle.conf_text.proofs.Joins.{joined_next, joined_end}
use Rattle.conf_text.proofs.lines.Lines.next_line.Goals as goal

pub returns-then-not-part : goal.returns-then-not-part
returns-then-not-part c = joined_end c.args.self.now c.parts.self c.args.self.now.number c.parts.buffer.items c.parts.utf8 c.read_part.new.self c.read_part.new.buffer.items c.in_ok-part.part c.parts.invariant c.in_ok-part.ensures (not-true _ c.if-not-part.true)

pub parts-preserved : goal.parts-preserved
parts-preserved c = joined_next c.args.self.now c.parts.self c.args.self.now.number c.parts.buffer.items c.parts.utf8 c.read_part.new.self c.read_part.new.buffer.items c.in_ok-part.part c.parts.invariant c.in_ok-part.ensures (not-false _ c.if-not-part.false)
