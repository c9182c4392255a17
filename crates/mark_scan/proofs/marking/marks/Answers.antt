use Rattle.std.proofs.Common.{ℕ, List, [], ◌∷◌, ◌++◌, Bool, length, ap, subst, arith}
use Rattle.charset_map.specs.Spans.{folded}
use Rattle.mark_scan.specs.declared.mark.Mark.{Mark}
use Rattle.mark_scan.specs.Marks.{PartsBy, marks_after}
use Rattle.mark_scan.specs.steps.Scanning.{part_of}
use Rattle.mark_scan.proofs.FirstPieces.{no_parts}
use Rattle.mark_scan.proofs.MarkSteps.{marked_next, marked_end}
use Rattle.mark_scan.proofs.marking.marks.Goals as goal

pub pieces-init : goal.pieces-init
pieces-init c =
    let fold = folded c.args.charset.now in
    let rules = c.args.rules.now in
    record {
      readable = c.whole-rest.ensures.readable;
      size = omega (arith, ap length c.whole-rest.ensures.text);
      marked = λ left are. record {
        before = [];
        keeps = λ sp. c.start.ensures fold;
        parts = left;
        are = subst (λ (s : List ℕ). PartsBy rules.strip s left) c.whole-rest.ensures.text (subst (λ (b : Bool). PartsBy b c.whole-rest.result.text.now left) c.whole-rest.ensures.strip are);
        marks = ap (λ (l : List Mark). l ++ marks_after fold rules 0 [] left) c.new-list.ensures.items;
      };
    }

pub returns-in-None : goal.returns-in-None
returns-in-None c =
    marked_end (folded c.args.charset.now) c.args.rules.now c.args.text.now c.pieces.reader c.pieces.list.items
    (c.pieces.invariant.marked [] (no_parts c.pieces.rest c.in-None.ensures))

pub pieces-preserved : goal.pieces-preserved
pieces-preserved c = record {
  readable = c.in-Some.ensures.readable;
  size = omega (arith, c.pieces.invariant.size, c.in-Some.ensures.size, c.in_ok-reader-in-Some.ensures.place);
  marked = λ left are.
      marked_next (folded c.args.charset.now) c.args.rules.now c.args.text.now c.pieces.reader c.in_ok-reader-in-Some.reader (part_of c.in-Some.piece) left c.pieces.list.items c.push_piece.new.list.items
      (c.pieces.invariant.marked (part_of c.in-Some.piece ∷ left) (c.in-Some.ensures.joins left are))
      (c.in_ok-reader-in-Some.ensures.adds left are);
}
