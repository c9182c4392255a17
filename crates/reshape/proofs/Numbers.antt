-- Lists of dead rows.
use Rattle.std.proofs.Common.{◌≡◌, ℕ, suc, ◌+◌, ◌<◌, ◌≤◌, ◌^◌, List, [], ◌∷◌, ◌++◌, Bool, true, false, ◌||◌, not, cond, Option, Some, None, map, length, take, get_or, slice_get, refl, sym, ap, subst, ◌∙◌, arith, append_assoc, All, AllPairs, ⊎_elim}
use Rattle.std.specs.List.{filter, enumerate_from}
use Rattle.std.proofs.lemmas.List.{map-append, take_all, take_more}
use Rattle.std.proofs.lemmas.List.Elements.{All-append, All-cons, All-filter, All-map, All-nil, All-weaker, filter-append, filter_agree}
use Rattle.std.proofs.lemmas.List.FromFn.{get_or-enumerate_from, length-enumerate_from}
use Rattle.std.proofs.lemmas.List.Kept.{AllPairs-cons}
use Rattle.std.proofs.lemmas.List.Sorted.{length_permutation}
use Rattle.std.proofs.Math.Nat.{eq-or-lt_of_le}
use Rattle.std.proofs.lemmas.Option.{get_or_from_slice_get, slice_get_within}
use Rattle.doc_types.specs.declared.documents.DocRow.{DocRow}
use Rattle.doc_types.specs.Snapshots.{AreLayers, IsLayer, LayerValue, SnapshotValue, all_living, is_dead}
use Rattle.step_history.specs.declared.job.Job.{Job}
use Rattle.step_history.specs.declared.job.Job.TheVariants.{Flush, Optimize}
use Rattle.layer_joins.specs.Joins.{AreApart}
use Rattle.reshape_laws.specs.Rebasing.{HasMoved, has_id, is_old, layer_with, less, lives, moved, new_layers, rebased, staying}
use Rattle.reshape_laws.proofs.Rebased.{apart_then, same_rows}
use Rattle.reshape.specs.Builds.{IsNew, new_rows}
use Rattle.reshape.specs.steps.Moving.{has_moving, numbers, young_layers}
use Rattle.reshape.proofs.Moved.{has_moving_is}

-- what a test lets through of the first rows
abbrev pub part : (ℕ × DocRow → ℕ) → (ℕ × DocRow → Bool) → List DocRow → ℕ → List ℕ
part f t rows k = map f (filter t (take k (enumerate_from 0 rows)))

one_number : (f : ℕ × DocRow → ℕ) (t : ℕ × DocRow → Bool) (e : ℕ × DocRow) → map f (filter t (e ∷ [])) ≡ cond (t e) (f e ∷ []) []
one_number f t e = elim (t e) as (λ (b : Bool). map f (cond b (e ∷ []) []) ≡ cond b (f e ∷ []) []) [ true ↦ refl | false ↦ refl ]

part_next : (f : ℕ × DocRow → ℕ) (t : ℕ × DocRow → Bool) (rows : List DocRow) (k : ℕ) (x : DocRow) → k < length rows → slice_get rows k ≡ Some x → part f t rows k ++ cond (t (k, x)) (f (k, x) ∷ []) [] ≡ part f t rows (k + 1)
part_next f t rows k x low at =
    let es = enumerate_from 0 rows in
    let here : get_or es k (k, x) ≡ (k, x) = get_or-enumerate_from 0 rows k (k, x) low ∙ ap (λ (m : ℕ). (m, get_or rows k x)) (omega arith) ∙ ap (λ (r : DocRow). (k, r)) (get_or_from_slice_get rows k x x at) in
    let low' : k < length es = omega (arith, low, length-enumerate_from 0 rows) in
    ap (λ (l : List ℕ). part f t rows k ++ l) (sym (one_number f t (k, x)))
    ∙ sym (map-append f (filter t (take k es)) (filter t ((k, x) ∷ [])))
    ∙ ap (map f) (sym (filter-append t (take k es) ((k, x) ∷ [])))
    ∙ ap (λ (l : List (ℕ × DocRow)). map f (filter t l)) (sym (take_more es k (k, x) low' ∙ ap (λ (e : ℕ × DocRow). take k es ++ e ∷ []) here))

-- one row more
pub part_more : (f : ℕ × DocRow → ℕ) (t : ℕ × DocRow → Bool) (rows : List DocRow) (k : ℕ) (x : DocRow) (b : Bool) (n : ℕ) (start old new : List ℕ) → k < length rows → slice_get rows k ≡ Some x → b ≡ t (k, x) → n ≡ f (k, x) → old ≡ start ++ part f t rows k → new ≡ old ++ cond b (n ∷ []) [] → new ≡ start ++ part f t rows (k + 1)
part_more f t rows k x b n start old new low at test value was is =
    is ∙ ap (λ (c : Bool). old ++ cond c (n ∷ []) []) test ∙ ap (λ (m : ℕ). old ++ cond (t (k, x)) (m ∷ []) []) value
    ∙ ap (λ (l : List ℕ). l ++ cond (t (k, x)) (f (k, x) ∷ []) []) was
    ∙ append_assoc start (part f t rows k) (cond (t (k, x)) (f (k, x) ∷ []) [])
    ∙ ap (λ (l : List ℕ). start ++ l) (part_next f t rows k x low at)

pub number_more : (t : ℕ × DocRow → Bool) (rows : List DocRow) (k : ℕ) (x : DocRow) (b : Bool) (old new : List ℕ) → k < length rows → slice_get rows k ≡ Some x → b ≡ t (k, x) → old ≡ part (λ e. e.0) t rows k → new ≡ old ++ cond b (k ∷ []) [] → new ≡ part (λ e. e.0) t rows (k + 1)
number_more t rows k x b old new low at test was is = part_more (λ e. e.0) t rows k x b k [] old new low at test refl was is

pub part_all : (f : ℕ × DocRow → ℕ) (t : ℕ × DocRow → Bool) (rows : List DocRow) (k : ℕ) → length rows ≤ k → part f t rows k ≡ map f (filter t (enumerate_from 0 rows))
part_all f t rows k past = ap (λ (l : List (ℕ × DocRow)). map f (filter t l)) (take_all k (enumerate_from 0 rows) (omega (arith, past, length-enumerate_from 0 rows)))

pub number_all : (t : ℕ × DocRow → Bool) (rows : List DocRow) (k : ℕ) (found : List ℕ) → length rows ≤ k → found ≡ part (λ e. e.0) t rows k → found ≡ numbers t rows
number_all t rows k found past is = is ∙ part_all (λ e. e.0) t rows k past

abbrev pub blank : DocRow
blank = record { doc = record { id = 0; fields = []; values = [] }; born = 0 }

-- ---- they ascend

abbrev Up : List ℕ → Type 0
Up xs = AllPairs (λ x later. x < later) xs

from_first : (q : ℕ × DocRow → Bool) (n k : ℕ) (xs : List DocRow) → k < n → All (λ m. k < m) (map (λ (e : ℕ × DocRow). e.0) (filter q (enumerate_from n xs)))
from_first q n k [] h = All-nil (λ m. k < m)
from_first q n k (x ∷ xs) h =
    elim (q (n, x)) as (λ (b : Bool). All (λ m. k < m) (map (λ (e : ℕ × DocRow). e.0) (cond b ((n, x) ∷ filter q (enumerate_from (n + 1) xs)) (filter q (enumerate_from (n + 1) xs))))) [
      | true ↦ All-cons (λ m. k < m) n (map (λ (e : ℕ × DocRow). e.0) (filter q (enumerate_from (n + 1) xs))) h (from_first q (n + 1) k xs (omega (arith, h)))
      | false ↦ from_first q (n + 1) k xs (omega (arith, h))
    ]

numbers_up : (q : ℕ × DocRow → Bool) (n : ℕ) (xs : List DocRow) → Up (map (λ (e : ℕ × DocRow). e.0) (filter q (enumerate_from n xs)))
numbers_up q n [] = λ i j d l h. absurd (omega (arith, h))
numbers_up q n (x ∷ xs) =
    elim (q (n, x)) as (λ (b : Bool). Up (map (λ (e : ℕ × DocRow). e.0) (cond b ((n, x) ∷ filter q (enumerate_from (n + 1) xs)) (filter q (enumerate_from (n + 1) xs))))) [
      | true ↦ AllPairs-cons (λ x later. x < later) n (map (λ (e : ℕ × DocRow). e.0) (filter q (enumerate_from (n + 1) xs))) (from_first q (n + 1) n xs (omega arith)) (numbers_up q (n + 1) xs)
      | false ↦ numbers_up q (n + 1) xs
    ]

numbers_within : (q : ℕ × DocRow → Bool) (n : ℕ) (xs : List DocRow) → All (λ m. m < n + length xs) (map (λ (e : ℕ × DocRow). e.0) (filter q (enumerate_from n xs)))
numbers_within q n [] = All-nil (λ m. m < n + 0)
numbers_within q n (x ∷ xs) =
    let more : All (λ m. m < n + suc (length xs)) (map (λ (e : ℕ × DocRow). e.0) (filter q (enumerate_from (n + 1) xs))) =
    All-weaker (λ m. m < (n + 1) + length xs) (λ m. m < n + suc (length xs)) (λ m h. omega (arith, h)) (map (λ (e : ℕ × DocRow). e.0) (filter q (enumerate_from (n + 1) xs))) (numbers_within q (n + 1) xs) in
    elim (q (n, x)) as (λ (b : Bool). All (λ m. m < n + suc (length xs)) (map (λ (e : ℕ × DocRow). e.0) (cond b ((n, x) ∷ filter q (enumerate_from (n + 1) xs)) (filter q (enumerate_from (n + 1) xs))))) [
      | true ↦ All-cons (λ m. m < n + suc (length xs)) n (map (λ (e : ℕ × DocRow). e.0) (filter q (enumerate_from (n + 1) xs))) (omega arith) more
      | false ↦ more
    ]

pub layer_is : (q : ℕ × DocRow → Bool) (layer : LayerValue) → IsLayer layer → IsLayer (record layer { dead = numbers q layer.rows })
layer_is q layer is = record { content = is.content; ascend = numbers_up q 0 layer.rows; rows = All-weaker (λ m. m < 0 + length layer.rows) (λ m. m < length layer.rows) (λ m h. omega (arith, h)) (numbers q layer.rows) (numbers_within q 0 layer.rows) }

-- ---- the new layer

pub agree : (p q : ℕ × DocRow → Bool) → ((e : ℕ × DocRow) → p e ≡ q e) → (rows : List DocRow) → numbers p rows ≡ numbers q rows
agree p q same rows = ap (map (λ (e : ℕ × DocRow). e.0)) (filter_agree p q same (enumerate_from 0 rows))

some_layer : (rows live : List DocRow) → 0 < length rows → new_layers rows live ≡ layer_with rows live ∷ []
some_layer [] live some = absurd (omega (arith, some))
some_layer (row ∷ rows) live some = refl

pub new_is : (job : Job) (front : ℕ) (s : SnapshotValue) (layer : LayerValue) → IsNew (Some layer) → record layer { dead = numbers (λ e. not (has_moving job front s.layers e.1.doc.id)) layer.rows } ∷ [] ≡ new_layers layer.rows (moved job front s)
new_is job front s layer new =
    let tests : numbers (λ e. not (has_moving job front s.layers e.1.doc.id)) layer.rows ≡ numbers (λ e. not (has_id (moved job front s) e.1.doc.id)) layer.rows =
    agree (λ e. not (has_moving job front s.layers e.1.doc.id)) (λ e. not (has_id (moved job front s) e.1.doc.id)) (λ e. ap not (has_moving_is job front s e.1.doc.id)) layer.rows in
    ap (λ (dead : List ℕ). record { rows = layer.rows; disk = layer.disk; dead = dead } ∷ []) tests
    ∙ ap (λ (disk : Bool). record { rows = layer.rows; disk = disk; dead = numbers (λ e. not (has_id (moved job front s) e.1.doc.id)) layer.rows } ∷ []) new.0
    ∙ sym (some_layer layer.rows (moved job front s) new.2)

-- ---- all layers

all_staying : (job : Job) (s : SnapshotValue) → All IsLayer s.layers → All IsLayer (staying job s)
all_staying Flush s are = All-filter (λ (layer : LayerValue). layer.disk) IsLayer s.layers are
all_staying Optimize s are = All-nil IsLayer

all_new : (new : Option LayerValue) (live : List DocRow) → IsNew new → All IsLayer (new_layers (new_rows new) live)
all_new None live is = All-nil IsLayer
all_new (Some layer) live is =
    let whole : IsLayer (record { rows = layer.rows; disk = true; dead = [] }) = record { content = is.3.content; ascend = λ i j d l h. absurd (omega (arith, h)); rows = λ k d h. absurd (omega (arith, h)) } in
    subst (All IsLayer) (sym (some_layer layer.rows live is.2)) (All-cons IsLayer (layer_with layer.rows live) [] (layer_is (λ e. is_dead (record { rows = layer.rows; disk = true; dead = [] }) e.0 || not (has_id live e.1.doc.id)) (record { rows = layer.rows; disk = true; dead = [] }) whole) (All-nil IsLayer))

all_young : (front : ℕ) (s : SnapshotValue) → All IsLayer s.layers → All IsLayer (young_layers front s.layers)
all_young front s are =
    let memory = All-filter (λ (layer : LayerValue). not layer.disk) IsLayer s.layers are in
    All-filter lives IsLayer (map (less (is_old front)) (filter (λ layer. not layer.disk) s.layers))
    (All-map IsLayer (less (is_old front)) (filter (λ layer. not layer.disk) s.layers) (All-weaker IsLayer (λ layer. IsLayer (less (is_old front) layer)) (λ layer is. layer_is (λ e. is_dead layer e.0 || is_old front e.1) layer is) (filter (λ layer. not layer.disk) s.layers) memory))

new_apart : (new : Option LayerValue) → IsNew new → AreApart (new_rows new)
new_apart None is = λ i j d l h. absurd (omega (arith, h))
new_apart (Some layer) is = λ i j d l h e. (let lt = is.3.content.of.ids i j d l h in absurd (omega (arith, lt, e)))

pub rebased_sound : (job : Job) (front : ℕ) (new : Option LayerValue) (now : SnapshotValue) → AreLayers now.layers → IsNew new → HasMoved job front (new_rows new) now → length (rebased job front (new_rows new) now).layers < 2 ^ 16 → AreLayers (rebased job front (new_rows new) now).layers
rebased_sound job front new now are is has few = record {
  each = All-append IsLayer (staying job now ++ new_layers (new_rows new) (moved job front now)) (young_layers front now.layers)
      (All-append IsLayer (staying job now) (new_layers (new_rows new) (moved job front now)) (all_staying job now are.each) (all_new new (moved job front now) is)) (all_young front now are.each);
  distinct = apart_then job front (new_rows new) now are.distinct (new_apart new is) has;
  few_layers = few;
  few_rows = omega (arith, are.few_rows, length_permutation (all_living now.layers) (all_living (rebased job front (new_rows new) now).layers) (same_rows job front (new_rows new) now are.distinct (new_apart new is) has));
}

-- rows of a layer ascend by their ids
pub ids_ascend : (layer : LayerValue) → IsLayer layer → (k later : ℕ) (x y : DocRow) → k ≤ later → slice_get layer.rows k ≡ Some x → slice_get layer.rows later ≡ Some y → x.doc.id ≤ y.doc.id
ids_ascend layer is k later x y le at there =
    let low : later < length layer.rows = slice_get_within layer.rows later y there in
    let here : get_or layer.rows k y ≡ x = get_or_from_slice_get layer.rows k x y at in
    let then' : get_or layer.rows later y ≡ y = get_or_from_slice_get layer.rows later y y there in
    ⊎_elim
    (λ (same : k ≡ later). (let one : x ≡ y = sym here ∙ ap (λ (n : ℕ). get_or layer.rows n y) same ∙ then' in omega (arith, ap (λ (r : DocRow). r.doc.id) one)))
    (λ (lt : k < later). (let up : (get_or layer.rows k y).doc.id < (get_or layer.rows later y).doc.id = is.content.of.ids k later y lt low in omega (arith, up, ap (λ (r : DocRow). r.doc.id) here, ap (λ (r : DocRow). r.doc.id) then')))
    (eq-or-lt_of_le le)
