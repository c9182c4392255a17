use Rattle.std.proofs.Common.{◌≡◌, ◌<◌, ℕ, List, ◌++◌, true, All, sym, ◌∙◌, ap, subst}
use Rattle.std.specs.Arc.{arc_value}
use Rattle.image_chunk.specs.contracts.image_chunk.ImageChunkChunk.TheImpl as words
use Rattle.chunk_files.proofs.Scanned.{none_newer}
use Rattle.chunk_files.proofs.file.layer_over.Goals as goal

pub returns-in_ok-new-in-None-2 : goal.returns-in_ok-new-in-None-2
returns-in_ok-new-in-None-2 c =
    let chunk = c.in_ok-new-in-None.ensures.ok in
    let dead : arc_value c.in_ok-new-in-None-2.field-0 ≡ c.args.entry.now.dead =
    c.in_ok-new-in-None-2.ensures.ok ∙ c.new-in-None.ensures ∙ c.in_ok-extend_from_slice-in-None.ensures.items ∙ ap (λ (front : List ℕ). front ++ c.as_slice-in-None.result.now) c.new-dead.ensures.items ∙ c.as_slice-in-None.ensures in
    let gone : All (λ row. row < c.rows.result) c.args.entry.now.dead = subst (All (λ row. row < c.rows.result)) c.as_slice.ensures c.if-not-are_rows.ensures in (
      λ i. record { rows = words.ghosts.content (chunk i); disk = true; dead = dead i },
      subst (λ (n : ℕ). All (λ row. row < n) c.args.entry.now.dead) c.rows.ensures gone,
      none_newer c.args.through c.args.image.image.0.0 (sym c.newer_row.ensures ∙ c.in-None.is),
    )
