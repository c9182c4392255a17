use Rattle.std.proofs.Common.{◌≡◌, Option, ◌+◌, sym, ℕ, List, length, take, ◌∷◌, [], ◌++◌, subst, ap, ◌∙◌, arith}
use Rattle.std.proofs.lemmas.List.{take_more}
use Rattle.std.proofs.Math.Seq.{take-length}
use Rattle.query_marks.specs.declared.mark.Mark.{Mark}
use Rattle.query_read.specs.steps.Levels.{at_start, earlier, Refuses, IsLeast}
use Rattle.query_read.proofs.ScanSteps.{least_next, scanned_next}
use Rattle.query_read.proofs.levels.only_not.Goals as goal

pub loop-mark-init : goal.loop-mark-init
loop-mark-init c = record { scan = c.new-scan.ensures; found = λ place is. is }

pub loop-mark-preserved : goal.loop-mark-preserved
loop-mark-preserved c =
    let m : Mark = c.mark-item.result in
    let marks : List Mark = c.args.marks.now in
    let i = c.loop-mark.mark-index in
    let more : take (i + 1) marks ≡ take i marks ++ m ∷ [] = take_more marks i m c.loop-mark-test.true ∙ ap (λ (n : Mark). take i marks ++ n ∷ []) (sym c.mark-item.is) in
    record {
      scan = scanned_next (take i marks) (take (i + 1) marks) m c.loop-mark.scan c.pass.new.self more c.loop-mark.invariant.scan c.in_ok-pass.ensures;
      found = least_next (take i marks) (take (i + 1) marks) m c.loop-mark.scan c.loop-mark.found c.earlier-found.result more c.loop-mark.invariant.scan (c.earlier-found.ensures ∙ ap (λ (o : Option ℕ). earlier c.loop-mark.found o) c.refused.ensures) c.loop-mark.invariant.found;
    }

pub returns : goal.returns
returns c =
    let marks : List Mark = c.args.marks.now in
    let end : c.loop-mark.mark-index ≡ length marks = omega (arith, c.loop-mark-test.false, c.loop-mark.auto.mark-index-end) in
    let all : take c.loop-mark.mark-index marks ≡ marks = ap (λ (i : ℕ). take i marks) end ∙ take-length marks in
    subst (λ (l : List Mark). IsLeast (Refuses at_start l) c.loop-mark.found) all c.loop-mark.invariant.found
