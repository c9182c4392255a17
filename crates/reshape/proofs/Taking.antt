-- What a job takes.
use Rattle.std.proofs.Common.{◌≡◌, ℕ, suc, ◌+◌, ◌<◌, ◌≤◌, List, [], ◌∷◌, ◌++◌, Bool, true, false, not, cond, length, get_or, map, take, refl, sym, ap, ◌∙◌, arith, append_assoc, append-nil, ◌||◌}
use Rattle.std.specs.List.{filter, flat_map, Contains}
use Rattle.std.proofs.lemmas.Grind.{flat_map-append}
use Rattle.std.proofs.lemmas.List.{map-append, take_more}
use Rattle.std.proofs.lemmas.List.Elements.{All-contains, All-contains_itself, All-weaker, Contains-append_right, filter-append, filter_agree}
use Rattle.std.proofs.lemmas.List.Sorted.{Contains-permutation, IsPermutation-sym}
use Rattle.doc_types.specs.declared.documents.DocRow.{DocRow}
use Rattle.doc_types.specs.Documents.{IsDocOf}
use Rattle.doc_types.specs.Snapshots.{LayerValue, SnapshotValue, all_living}
use Rattle.layer_joins.specs.Joins.{AreOfOne}
use Rattle.step_history.specs.declared.job.Job.{Job}
use Rattle.step_history.specs.declared.job.Job.TheVariants.{Flush, Optimize}
use Rattle.step_history.specs.Places.{disk_layers, ram_layers}
use Rattle.reshape_laws.specs.Rebasing.{is_old, less, lives, taken, taken_layers}
use Rattle.reshape_laws.proofs.Layers.{parts}
use Rattle.reshape.specs.steps.Moving.{takes, young_layers}

pub filter_more : {X : Type 0} (p : X → Bool) (xs : List X) (k : ℕ) (x : X) (old new : List X) → k < length xs → x ≡ get_or xs k x → old ≡ filter p (take k xs) → new ≡ old ++ filter p (x ∷ []) → new ≡ filter p (take (k + 1) xs)
filter_more p xs k x old new low at was is =
    is ∙ ap (λ ys. ys ++ filter p (x ∷ [])) was ∙ sym (filter-append p (take k xs) (x ∷ [])) ∙ ap (filter p) (sym (take_more xs k x low ∙ ap (λ y. take k xs ++ y ∷ []) (sym at)))

pub filter_short : {X : Type 0} (p : X → Bool) (xs : List X) → length (filter p xs) ≤ length xs
filter_short p [] = omega arith
filter_short {X} p (x ∷ xs) =
    let rest = filter_short p xs in
    elim (p x) as (λ (b : Bool). length (cond b (x ∷ filter p xs) (filter p xs)) ≤ suc (length xs)) [ true ↦ omega (arith, rest) | false ↦ omega (arith, rest) ]

-- the rows in memory are of the schema too
pub of_memory : (s : SnapshotValue) → AreOfOne (all_living s.layers) → AreOfOne (all_living (ram_layers s))
of_memory s of = record {
  schema = of.schema;
  limits = of.limits;
  docs = All-weaker (Contains (all_living (ram_layers s))) (λ (row : DocRow). IsDocOf of.schema row.doc) (λ row has.
      All-contains (λ (row : DocRow). IsDocOf of.schema row.doc) (all_living s.layers) row of.docs
      (Contains-permutation (all_living (disk_layers s) ++ all_living (ram_layers s)) (all_living s.layers) row (IsPermutation-sym (all_living s.layers) (all_living (disk_layers s) ++ all_living (ram_layers s)) (parts s.layers))
      (Contains-append_right (all_living (disk_layers s)) (all_living (ram_layers s)) row has))) (all_living (ram_layers s)) (All-contains_itself (all_living (ram_layers s)));
}

-- the layers that a job takes are those that it is said to take
none_left_out : (layers : List LayerValue) → filter (takes Optimize) layers ≡ layers
none_left_out [] = refl
none_left_out (layer ∷ layers) = elim layer.disk as (λ (b : Bool). cond (not b || true) (layer ∷ filter (takes Optimize) layers) (filter (takes Optimize) layers) ≡ layer ∷ layers) [ true ↦ ap (λ ls. layer ∷ ls) (none_left_out layers) | false ↦ ap (λ ls. layer ∷ ls) (none_left_out layers) ]

or_false : (b : Bool) → (b || false) ≡ b
or_false true = refl
or_false false = refl

pub taken_is : (job : Job) (s : SnapshotValue) → filter (takes job) s.layers ≡ taken_layers job s
taken_is Flush s = filter_agree (takes Flush) (λ layer. not layer.disk) (λ layer. or_false (not layer.disk)) s.layers
taken_is Optimize s = none_left_out s.layers

-- they are no more
pub taken_short : (job : Job) (s : SnapshotValue) → length (taken_layers job s) ≤ length s.layers
taken_short Flush s = filter_short (λ (layer : LayerValue). not layer.disk) s.layers
taken_short Optimize s = omega arith

pub taken_of : (job : Job) (s : SnapshotValue) → AreOfOne (all_living s.layers) → AreOfOne (taken job s)
taken_of Flush s of = of_memory s of
taken_of Optimize s of = of

-- pieces one behind the other, and one more
pub pieces_more : {X Y : Type 0} (f : X → List Y) (xs : List X) (k : ℕ) (x : X) (start old new : List Y) → k < length xs → x ≡ get_or xs k x → old ≡ start ++ flat_map f (take k xs) → new ≡ old ++ f x → new ≡ start ++ flat_map f (take (k + 1) xs)
pieces_more f xs k x start old new low at was is =
    is ∙ ap (λ ys. ys ++ f x) was ∙ append_assoc start (flat_map f (take k xs)) (f x) ∙ ap (λ ys. start ++ ys) (ap (λ ys. flat_map f (take k xs) ++ ys) (sym (append-nil (f x))) ∙ sym (flat_map-append f (take k xs) (x ∷ [])) ∙ ap (flat_map f) (sym (take_more xs k x low ∙ ap (λ y. take k xs ++ y ∷ []) (sym at))))

young_append : (front : ℕ) (xs ys : List LayerValue) → young_layers front (xs ++ ys) ≡ young_layers front xs ++ young_layers front ys
young_append front xs ys =
    ap (λ ls. filter lives (map (less (is_old front)) ls)) (filter-append (λ (layer : LayerValue). not layer.disk) xs ys)
    ∙ ap (filter lives) (map-append (less (is_old front)) (filter (λ layer. not layer.disk) xs) (filter (λ layer. not layer.disk) ys))
    ∙ filter-append lives (map (less (is_old front)) (filter (λ layer. not layer.disk) xs)) (map (less (is_old front)) (filter (λ layer. not layer.disk) ys))

-- the young layers of one layer more
pub young_more : (front : ℕ) (xs : List LayerValue) (k : ℕ) (x : LayerValue) (start old new : List LayerValue) → k < length xs → x ≡ get_or xs k x → old ≡ start ++ young_layers front (take k xs) → new ≡ old ++ young_layers front (x ∷ []) → new ≡ start ++ young_layers front (take (k + 1) xs)
young_more front xs k x start old new low at was is =
    is ∙ ap (λ ys. ys ++ young_layers front (x ∷ [])) was ∙ append_assoc start (young_layers front (take k xs)) (young_layers front (x ∷ []))
    ∙ ap (λ ys. start ++ ys) (sym (young_append front (take k xs) (x ∷ [])) ∙ ap (young_layers front) (sym (take_more xs k x low ∙ ap (λ y. take k xs ++ y ∷ []) (sym at))))
