-- What stays on the disk, one layer after the other.
use Rattle.std.proofs.Common.{◌≡◌, ◌+◌, ◌<◌, ◌≤◌, ◌++◌, ◌∷◌, [], ℕ, List, Bool, true, cond, length, get_or, take, length-append, refl, sym, ap, subst, arith}
use Rattle.std.specs.List.{filter}
use Rattle.std.proofs.lemmas.List.{take_all}
use Rattle.std.proofs.lemmas.List.Elements.{filter_agree}
use Rattle.doc_types.specs.Snapshots.{LayerValue, SnapshotValue}
use Rattle.image_join.specs.JoinedImages.{HasImageLength}
use Rattle.reshape.proofs.Taking.{filter_more}
use Rattle.reshape_laws.specs.Rebasing.{staying}
use Rattle.step_history.specs.declared.job.Job.{Job}
use Rattle.step_history.specs.declared.job.Job.TheVariants.{Flush, Optimize}
use Rattle.job_chunks.specs.Limits.{HaveBytes}
use Rattle.job_chunks.specs.declared.limits.Staying.{Staying}
use Rattle.job_chunks.specs.steps.Making.{AreStaying, stays}

more_bytes : (layers : List LayerValue) (layer : LayerValue) (n own : ℕ) → HaveBytes layers n → HasImageLength layer.rows own → HaveBytes (layers ++ layer ∷ []) (n + own)
more_bytes [] layer n own have has = (own, 0, has, refl, omega (arith, have))
more_bytes (l ∷ ls) layer n own have has =
    (have.0, have.1 + own, have.2, more_bytes ls layer have.1 own have.3 has, omega (arith, have.4))

-- a layer that stays
pub one_more : (job : Job) (layer : LayerValue) (layers : List LayerValue) (s after : Staying) (own : ℕ) → stays job layer ≡ true → HasImageLength layer.rows own → after.chunks ≡ s.chunks + 1 → after.bytes ≡ s.bytes + own
    → AreStaying layers s → AreStaying (layers ++ filter (stays job) (layer ∷ [])) after
one_more job layer layers s after own stay has chunks bytes was =
    let one : filter (stays job) (layer ∷ []) ≡ layer ∷ [] = ap (λ (b : Bool). cond b (layer ∷ []) []) stay in
    subst (λ (ls : List LayerValue). AreStaying (layers ++ ls) after) (sym one)
    (record {
      chunks = omega (arith, chunks, was.chunks, length-append layers (layer ∷ []));
      bytes = subst (HaveBytes (layers ++ layer ∷ [])) (sym bytes) (more_bytes layers layer s.bytes own was.bytes has);
    })

-- the layers up to the next one
pub next_stays : (job : Job) (layers : List LayerValue) (i : ℕ) (layer : LayerValue) (after : Staying) → i < length layers → layer ≡ get_or layers i layer → AreStaying (filter (stays job) (take i layers) ++ filter (stays job) (layer ∷ [])) after
    → AreStaying (filter (stays job) (take (i + 1) layers)) after
next_stays job layers i layer after low is more =
    let whole : filter (stays job) (take i layers) ++ filter (stays job) (layer ∷ []) ≡ filter (stays job) (take (i + 1) layers) =
    filter_more (stays job) layers i layer (filter (stays job) (take i layers)) (filter (stays job) (take i layers) ++ filter (stays job) (layer ∷ [])) low is refl refl in
    subst (λ (ls : List LayerValue). AreStaying ls after) whole more

pub all_stay : (job : Job) (layers : List LayerValue) (i : ℕ) (s : Staying) → length layers ≤ i → AreStaying (filter (stays job) (take i layers)) s → AreStaying (filter (stays job) layers) s
all_stay job layers i s past all = subst (λ (ls : List LayerValue). AreStaying (filter (stays job) ls) s) (take_all i layers past) all

none_stay : (layers : List LayerValue) → filter (stays Optimize) layers ≡ []
none_stay [] = refl
none_stay (layer ∷ layers) = none_stay layers

-- these are the layers that the job leaves
pub staying_is : (job : Job) (from : SnapshotValue) → filter (stays job) from.layers ≡ staying job from
staying_is Flush from = filter_agree (stays Flush) (λ layer. layer.disk) (λ layer. refl) from.layers
staying_is Optimize from = none_stay from.layers
