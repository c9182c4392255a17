use Rattle.std.proofs.Common.{◌≡◌, ℕ, List, [], ◌∷◌, ◌++◌, Vec, Global, false, true, arith, rules, sym, ap, ◌∙◌}
use Rattle.std.proofs.lemmas.List.{append-nil}
use Rattle.doc_types.specs.declared.documents.DocRow.{DocRow}
use Rattle.op_eval.specs.steps.Wanted.{lives}
use Rattle.op_eval.proofs.RowNumbers.{all_before}
use Rattle.op_eval.proofs.Searches.{next_living}
use Rattle.op_eval.proofs.calls.living.Goals as goal
use Rattle.op_eval.proofs.calls.living.Goals.{then-not-is_dead+in_ok-push, else-not-is_dead}

pub loop-row-preserved : goal.loop-row-preserved
loop-row-preserved g c = elim c.if-not-is_dead.branch [
  | then-not-is_dead+in_ok-push w ↦
      let lives : c.is_dead.result ≡ false = search rules in
      let pushed : w.push.new.self.items ≡ c.loop-row.found.items ++ c.loop-row.row ∷ [] = search rules in
      ap (λ (found : Vec ℕ Global). found.items) w.found-is
      ∙ pushed
      ∙ ap (λ (numbers : List ℕ). numbers ++ c.loop-row.row ∷ []) c.loop-row.invariant
      ∙ sym (next_living (g.C.Chunk.content c.args.chunk.now) c.args.dead.now c.loop-row.row false (omega arith) (sym lives ∙ c.is_dead.ensures))
  | else-not-is_dead w ↦
      let gone : c.is_dead.result ≡ true = search rules in
      ap (λ (found : Vec ℕ Global). found.items) w.found-is
      ∙ c.loop-row.invariant
      ∙ sym (append-nil _)
      ∙ sym (next_living (g.C.Chunk.content c.args.chunk.now) c.args.dead.now c.loop-row.row true (omega arith) (sym gone ∙ c.is_dead.ensures))
]

pub returns : goal.returns
returns g c =
    c.loop-row.invariant ∙ all_before (λ (e : ℕ × DocRow). lives c.args.dead.now e.0) (g.C.Chunk.content c.args.chunk.now) c.loop-row.row (omega arith)
