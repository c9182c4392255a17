use Rattle.std.proofs.Common.{◌≡◌, ◌≤◌, ◌∙◌, ℕ, List, Err, ap, arith, length, subst, sym}
use Rattle.std.specs.Prelude.{Option, Some}
use Rattle.srch_base.specs.declared.faults.Or.{Or}
use Rattle.srch_base.specs.declared.faults.Or.TheVariants.{Fault}
use Rattle.conf_text.specs.declared.fault.ConfFault.{ConfFault}
use Rattle.conf_text.specs.declared.fault.ConfKind.{ConfKind}
use Rattle.conf_text.specs.declared.lines.LineHead.{LineHead}
use Rattle.conf_text.specs.declared.lines.Lines.{Lines}
use Rattle.conf_text.specs.Confs.{shapes_back}
use Rattle.conf_text.specs.Lines.{content_of, lines_of}
use Rattle.conf_text.specs.steps.LineReader.{IsLineRead, ReadsIndexes, ReadsLine}
use Rattle.conf_text.specs.Sections.{entries_in, indexes_in, spot_at}
use Rattle.conf_text.specs.declared.reading.LinePlace.{LinePlace as CodePlace}
use Rattle.conf_text.specs.Shapes.{Shape, shape_of}
use Rattle.conf_text.specs.steps.SeenShapes.{seen, value_length}
use Rattle.conf_text.specs.steps.Taking.{TakesLine, place_of}
use Rattle.conf_text.proofs.LineRuns.{LinesRead, lines_all, lines_fault, lines_more, lines_none, shape_read}
use Rattle.conf_text.proofs.Sizes.{content_size, shape_size}
use Rattle.conf_text.proofs.reading.take_lines.Goals as goal

-- a line is as the reader of lines gives it
line_read : (old new : Lines) (buffer : List ℕ) (read : Option LineHead) (head : LineHead) → read ≡ Some head → ReadsLine old new buffer read → IsLineRead old new buffer head
line_read old new buffer read head is line = subst (λ (o : Option LineHead). ReadsLine old new buffer o) is line

-- no line is longer than its text
line_size : (text : List ℕ) (old new : Lines) (buffer said : List ℕ) (head : LineHead) (line : Shape) → IsLineRead old new buffer head → length old.rest.now ≤ length text → said ≡ content_of buffer → line ≡ shape_of said → value_length line ≤ length text
line_size text old new buffer said head line read within is shaped =
    subst (λ (l : Shape). value_length l ≤ length text) (sym shaped) (omega (arith, shape_size said, content_size buffer, ap length is, read.size, within))

pub lines-init : goal.lines-init
lines-init c =
    subst (λ (p : CodePlace). LinesRead c.args.text.now c.of-lines.result c.args.indexes.now.items p) (sym c.requires.outside)
    (lines_none c.args.text.now c.of-lines.result c.args.indexes.now.items c.requires.short c.of-lines.ensures.rest c.of-lines.ensures.number c.requires.none)

pub returns-in-None : goal.returns-in-None
returns-in-None c =
    lines_all c.args.text.now c.lines.lines c.lines.indexes.items c.lines.place c.lines.invariant
    (subst (λ (o : Option LineHead). ReadsLine c.lines.lines c.next_line.new.self c.next_line.new.buffer.items o) c.in-None.is c.in_ok-next_line.ensures)

pub take_line-requires : goal.take_line-requires
take_line-requires c =
    let read = line_read c.lines.lines c.next_line.new.self c.next_line.new.buffer.items c.in_ok-next_line.field-0 c.in-Some.head c.in-Some.is c.in_ok-next_line.ensures in
    let said : c.content.result.now ≡ content_of c.next_line.new.buffer.items = c.content.ensures ∙ ap content_of c.as_slice.ensures.value in
    omega (arith, c.requires.short, line_size c.args.text.now c.lines.lines c.next_line.new.self c.next_line.new.buffer.items c.content.result.now c.in-Some.head (seen c.shape_of-line.result) read c.lines.invariant.size said c.shape_of-line.ensures)

pub lines-preserved : goal.lines-preserved
lines-preserved c =
    let read = line_read c.lines.lines c.next_line.new.self c.next_line.new.buffer.items c.in_ok-next_line.field-0 c.in-Some.head c.in-Some.is c.in_ok-next_line.ensures in
    let said : c.content.result.now ≡ content_of c.next_line.new.buffer.items = c.content.ensures ∙ ap content_of c.as_slice.ensures.value in
    let shaped = shape_read c.lines.lines c.next_line.new.self c.next_line.new.buffer.items c.in-Some.head (seen c.shape_of-line.result) c.content.result.now read said c.shape_of-line.ensures in
    let before : List Shape = shapes_back c.lines.invariant.before in
    lines_more c.args.text.now c.lines.lines c.next_line.new.self c.next_line.new.buffer.items c.in-Some.head c.lines.indexes.items c.take_line.new.indexes.items c.lines.place c.take_line.new.place (seen c.shape_of-line.result) c.is_empty.result c.lines.invariant read shaped c.is_empty.ensures
    (c.in-Ok.ensures (indexes_in before) (entries_in before) c.lines.invariant.indexes_are c.lines.invariant.leads.has)

pub returns-in-Err-Fault : goal.returns-in-Err-Fault
returns-in-Err-Fault c =
    let read = line_read c.lines.lines c.next_line.new.self c.next_line.new.buffer.items c.in_ok-next_line.field-0 c.in-Some.head c.in-Some.is c.in_ok-next_line.ensures in
    let said : c.content.result.now ≡ content_of c.next_line.new.buffer.items = c.content.ensures ∙ ap content_of c.as_slice.ensures.value in
    let shaped = shape_read c.lines.lines c.next_line.new.self c.next_line.new.buffer.items c.in-Some.head (seen c.shape_of-line.result) c.content.result.now read said c.shape_of-line.ensures in
    let before : List Shape = shapes_back c.lines.invariant.before in
    let taken = c.in-Err-Fault.ensures (indexes_in before) (entries_in before) c.lines.invariant.indexes_are c.lines.invariant.leads.has in
    let fault = subst (λ (e : Or ConfKind). TakesLine (spot_at (indexes_in before) (entries_in before) (place_of c.lines.place)) (seen c.shape_of-line.result) c.is_empty.result c.take_line.new.indexes.items (Err e)) c.in-Err-Fault.field-0-is taken in
    let made : c.fault_at.result ≡ Fault (record { line = c.in-Some.head.number; kind = c.in-Err-Fault.kind }) = c.fault_at.ensures ∙ ap (λ (k : ConfKind). Fault (record { line = c.in-Some.head.number; kind = k })) (c.in-Err-Fault.kind-is) in
    subst (λ (e : Or ConfFault). ReadsIndexes (lines_of c.args.text.now) (Err e)) (sym made)
    (lines_fault c.args.text.now c.lines.lines c.next_line.new.self c.next_line.new.buffer.items c.in-Some.head c.lines.indexes.items c.lines.place (seen c.shape_of-line.result) c.is_empty.result c.in-Err-Fault.kind c.lines.invariant read shaped c.is_empty.ensures fault)
