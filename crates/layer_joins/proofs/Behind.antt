-- Layers behind a place, and rows at one.
use Rattle.std.proofs.Common.{◌≡◌, All, ℕ, zero, suc, ◌+◌, ◌-◌, ◌<◌, ◌≤◌, List, [], ◌∷◌, ◌++◌, false, cond, length, get_or, take, drop, refl, sym, ap, subst, ◌∙◌, arith, append_assoc}
use Rattle.std.proofs.lemmas.List.{drop-drop, drop_more}
use Rattle.std.proofs.lemmas.List.Elements.{All-cons, All-drop, All-nil}
use Rattle.std.proofs.Math.ListN.{drop_of_length-le}
use Rattle.doc_types.specs.declared.documents.DocRow.{DocRow}
use Rattle.doc_types.specs.Snapshots.{LayerValue, is_dead}
use Rattle.layer_joins.specs.steps.Layering.{AreInMemory}
use Rattle.layer_joins.proofs.Livings.{living_more, living_of}

-- no layer stands behind the last one
pub none_behind : (layers : List LayerValue) → AreInMemory (length layers) layers
none_behind layers = subst (λ ls. All (λ (layer : LayerValue). layer.disk ≡ false) ls) (sym (drop_of_length-le layers {i = length layers} (omega arith))) (All-nil (λ (layer : LayerValue). layer.disk ≡ false))

-- one more in memory
pub one_behind : (layers : List LayerValue) (first : ℕ) (layer : LayerValue) → first < length layers → (get_or layers first layer).disk ≡ false → AreInMemory (first + 1) layers → AreInMemory first layers
one_behind layers first layer h here rest =
    subst (λ ls. All (λ (layer : LayerValue). layer.disk ≡ false) ls) (sym (drop_more layers first layer h)) (All-cons (λ (layer : LayerValue). layer.disk ≡ false) (get_or layers first layer) (drop (first + 1) layers) here rest)

-- where those from a place on are in memory, so are those from a later one on
pub later_behind : (layers : List LayerValue) (first start : ℕ) → AreInMemory first layers → first ≤ start → AreInMemory start layers
later_behind layers first start all le =
    let sum : first + (start - first) ≡ start = omega (arith, le) in
    subst (λ (n : ℕ). AreInMemory n layers) sum
    (subst (All (λ (layer : LayerValue). layer.disk ≡ false)) (drop-drop (start - first) first layers) (All-drop (λ (layer : LayerValue). layer.disk ≡ false) (start - first) (drop first layers) all))

same_at : {X : Type 0} (xs : List X) (i : ℕ) (x d : X) → i < length xs → get_or xs i d ≡ get_or xs i x
same_at [] i x d h = absurd (omega (arith, h))
same_at (y ∷ ys) zero x d h = refl
same_at (y ∷ ys) (suc i) x d h = same_at ys i x d (omega (arith, h))

blank : DocRow
blank = record { doc = record { id = 0; fields = []; values = [] }; born = 0 }

-- one more row was appended, unless it is dead
pub row_more : (layer : LayerValue) (number : ℕ) (before old new : List DocRow) → number < length layer.rows → old ≡ before ++ living_of layer.dead (take number layer.rows) → ((row : DocRow) → row ≡ get_or layer.rows number row → new ≡ old ++ cond (is_dead layer number) [] (row ∷ []))
    → new ≡ before ++ living_of layer.dead (take (number + 1) layer.rows)
row_more layer number before old new within was grown =
    let row : DocRow = get_or layer.rows number blank in
    let at : row ≡ get_or layer.rows number row = same_at layer.rows number row blank within in
    grown row at
    ∙ ap (λ (rows : List DocRow). rows ++ cond (is_dead layer number) [] (row ∷ [])) was
    ∙ append_assoc before (living_of layer.dead (take number layer.rows)) (cond (is_dead layer number) [] (row ∷ []))
    ∙ ap (λ (rows : List DocRow). before ++ rows) (sym (living_more layer.dead layer.rows number row within at))
