use Rattle.std.proofs.lemmas.Bool.{not-false}
use Rattle.std.proofs.Common.{subst}
use Rattle.std.specs.Prelude.{Option}
use Rattle.conf_text.specs.declared.lines.LineHead.{LineHead}
use Rattle.conf_text.specs.steps.LineReader.{ReadsLine}
use Rattle.conf_text.proofs.LineRuns.{texts_all, texts_more}
use Rattle.conf_text.proofs.reading.first_bad_line.Goals as goal

pub returns-in-None : goal.returns-in-None
returns-in-None c = texts_all c.args.text.now c.lines.lines c.lines.invariant (subst (λ (o : Option LineHead). ReadsLine c.lines.lines c.next_line.new.self c.next_line.new.buffer.items o) c.in-None.is c.in_ok-next_line.ensures)

pub lines-preserved : goal.lines-preserved
lines-preserved c =
    texts_more c.args.text.now c.lines.lines c.next_line.new.self c.next_line.new.buffer.items c.in-Some.head c.lines.invariant
    (subst (λ (o : Option LineHead). ReadsLine c.lines.lines c.next_line.new.self c.next_line.new.buffer.items o) c.in-Some.is c.in_ok-next_line.ensures)
    (not-false _ c.if-not-head.false)
