-- Entries that are kept.
use Rattle.std.proofs.Common.{◌≡◌, List, [], ◌∷◌, ◌++◌, refl, sym, ap, ◌∙◌, append-nil, length, arith}
use Rattle.std.specs.List.{filter}
use Rattle.doc_types.specs.Snapshots.{LayerValue}
use Rattle.root_slots.specs.declared.state.ChunkEntry.{ChunkEntry}
use Rattle.job_states.specs.States.{with_dead}

pub none_kept : (entries : List ChunkEntry) → with_dead entries [] ≡ []
none_kept [] = refl
none_kept (entry ∷ entries) = refl

empty : (layers : List LayerValue) → length layers ≡ 0 → layers ≡ []
empty [] is = refl
empty (layer ∷ layers) is = absurd (omega (arith, is))

pub nothing_more : (out entries : List ChunkEntry) (layers : List LayerValue) → length layers ≡ 0 → out ≡ out ++ with_dead entries (filter (λ layer. layer.disk) layers)
nothing_more out entries layers is =
    sym (ap (λ (ls : List LayerValue). out ++ with_dead entries (filter (λ layer. layer.disk) ls)) (empty layers is) ∙ ap (λ (es : List ChunkEntry). out ++ es) (none_kept entries) ∙ append-nil out)
