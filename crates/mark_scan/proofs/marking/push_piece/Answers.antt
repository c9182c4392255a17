use Rattle.std.proofs.Common.{◌+◌, length, refl, sym, subst}
use Rattle.charset_map.specs.Spans.{folded}
use Rattle.mark_scan.specs.declared.marking.Reader.{Reader}
use Rattle.mark_scan.specs.declared.piece.Piece.{Piece}
use Rattle.mark_scan.specs.Marks.{run_before}
use Rattle.mark_scan.specs.steps.Scanning.{AddsTextPart, part_of}
use Rattle.mark_scan.proofs.marking.push_piece.Goals as goal

pub returns-in_ok-before-in-Plain-clause-adds : goal.returns-in_ok-before-in-Plain-clause-adds
returns-in_ok-before-in-Plain-clause-adds c = λ parts are.
    let fold = folded c.args.charset.now in
    let rules = c.args.rules.now in
    let next : Reader = record { place = c.args.reader.place + length c.in-Plain.text.now; before = c.in_ok-before-in-Plain.before } in
    let pushed = c.in_ok-before-in-Plain.ensures parts are in
    subst (λ (p : Piece). AddsTextPart fold rules c.args.reader c.args.list.now.items (part_of p) parts next c.push_plain.new.list.items) (sym c.in-Plain.is)
    (record {
      place = refl;
      marks = λ before keeps. (pushed (run_before rules.zones before) keeps).0;
      keeps = λ before keeps. (pushed (run_before rules.zones before) keeps).1;
    })
