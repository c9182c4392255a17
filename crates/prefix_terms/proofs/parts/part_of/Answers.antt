use Rattle.std.proofs.Common.{◌≡◌, ◌<◌, ℕ, List, AllPairs, rules, subst, sym, ap, ◌∙◌}
use Rattle.std.specs.Arc.{arc_value}
use Rattle.doc_types.specs.Snapshots.{LayerValue}
use Rattle.prefix_terms.specs.steps.Parts.{IsRunWith}
use Rattle.prefix_terms.proofs.Runs.{run_is_part}
use Rattle.prefix_terms.proofs.parts.part_of.Goals as goal

pub invariant_of-result : goal.invariant_of-result
invariant_of-result g c =
    let chunk = arc_value c.in_ok-try_clone.field-0 in
    let same : c.deref-chunk.result.now ≡ chunk = c.deref-chunk.ensures ∙ sym c.in_ok-try_clone.ensures in
    let run = subst (λ (chunk : g.row.C.Denot). IsRunWith c.args.beginning.now (g.C.Chunk.content chunk) (g.C.Chunk.words_of chunk) c.run_of-first.result.0 c.run_of-first.result.1) same c.run_of-first.ensures in
    record {
      dictionary = g.met.C.Chunk.all_words chunk;
      within = run.within;
      few = run.few;
      ascend = subst (λ (dead : List ℕ). AllPairs (λ row later. row < later) dead) (search rules) c.layer.invariant.ascend;
    }

pub returns : goal.returns
returns g c =
    let chunk = arc_value c.in_ok-try_clone.field-0 in
    let same : c.deref-chunk.result.now ≡ chunk = c.deref-chunk.ensures ∙ sym c.in_ok-try_clone.ensures in
    let run = subst (λ (chunk : g.row.C.Denot). IsRunWith c.args.beginning.now (g.C.Chunk.content chunk) (g.C.Chunk.words_of chunk) c.run_of-first.result.0 c.run_of-first.result.1) same c.run_of-first.ensures in
    run_is_part c.args.beginning.now (g.C.Chunk.content chunk) (g.C.Chunk.words_of chunk) c.run_of-first.result.0 c.run_of-first.result.1 c.args.layer.now (arc_value c.in_ok-try_clone-2.field-0) run
    (ap (λ (chunk : g.row.C.Denot). g.C.Chunk.content chunk) c.in_ok-try_clone.ensures ∙ ap (λ (layer : LayerValue). layer.rows) c.layer.view_is)
    (c.in_ok-try_clone-2.ensures ∙ ap (λ (layer : LayerValue). layer.dead) c.layer.view_is)
