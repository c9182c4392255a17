-- In layers of which one alone has rows no id lives twice.
use Rattle.std.proofs.Common.{◌≡◌, ◌≢◌, ℕ, ◌+◌, ◌<◌, suc, List, [], ◌∷◌, ◌++◌, Bool, not, map, length, refl, sym, ap, subst, ◌∙◌, append-nil, arith, All, AllPairs}
use Rattle.std.specs.List.{filter, enumerate_from}
use Rattle.std.proofs.lemmas.List.Elements.{All-nil, All-cons}
use Rattle.std.proofs.lemmas.List.Kept.{AllPairs-cons, AllPairs-filter}
use Rattle.doc_types.specs.declared.documents.DocRow.{DocRow}
use Rattle.doc_types.specs.Chunks.{IsContent}
use Rattle.doc_types.specs.Snapshots.{LayerValue, IsLayer, AreLayers, all_living, living, is_dead}
use Rattle.doc_types.proofs.Living.{all_rows}
use Rattle.doc_types.proofs.Numbers.{All-tail}

below_all : (id n : ℕ) (rows : List DocRow) → All (λ row. id < row.doc.id) rows → All (λ (e : ℕ × DocRow). id < e.1.doc.id) (enumerate_from n rows)
below_all id n [] all = All-nil (λ (e : ℕ × DocRow). id < e.1.doc.id)
below_all id n (row ∷ rows) all =
    All-cons (λ (e : ℕ × DocRow). id < e.1.doc.id) (n, row) (enumerate_from (n + 1) rows) (all 0 row (omega arith))
    (below_all id (n + 1) rows (All-tail (λ (row : DocRow). id < row.doc.id) row rows all))

numbered : (n : ℕ) (rows : List DocRow) → AllPairs (λ row later. row.doc.id < later.doc.id) rows → AllPairs (λ (a : ℕ × DocRow) (b : ℕ × DocRow). a.1.doc.id < b.1.doc.id) (enumerate_from n rows)
numbered n [] up = λ i j d l h. absurd (omega (arith, h))
numbered n (row ∷ rows) up =
    AllPairs-cons (λ (a : ℕ × DocRow) (b : ℕ × DocRow). a.1.doc.id < b.1.doc.id) (n, row) (enumerate_from (n + 1) rows)
    (below_all row.doc.id (n + 1) rows (λ k d h. up 0 (suc k) d (omega arith) (omega (arith, h))))
    (numbered (n + 1) rows (λ i j d l h. up (suc i) (suc j) d (omega (arith, l)) (omega (arith, h))))

unlike_all : (id : ℕ) (es : List (ℕ × DocRow)) → All (λ (e : ℕ × DocRow). id < e.1.doc.id) es → All (λ (row : DocRow). id ≢ row.doc.id) (map (λ (e : ℕ × DocRow). e.1) es)
unlike_all id [] all = All-nil (λ (row : DocRow). id ≢ row.doc.id)
unlike_all id (e ∷ es) all =
    let here : id < e.1.doc.id = all 0 e (omega arith) in
    All-cons (λ (row : DocRow). id ≢ row.doc.id) e.1 (map (λ (e : ℕ × DocRow). e.1) es) (λ same. omega (arith, here, same))
    (unlike_all id es (All-tail (λ (e : ℕ × DocRow). id < e.1.doc.id) e es all))

apart : (es : List (ℕ × DocRow)) → AllPairs (λ (a : ℕ × DocRow) (b : ℕ × DocRow). a.1.doc.id < b.1.doc.id) es → AllPairs (λ (row : DocRow) (other : DocRow). row.doc.id ≢ other.doc.id) (map (λ (e : ℕ × DocRow). e.1) es)
apart [] up = λ i j d l h. absurd (omega (arith, h))
apart (e ∷ es) up =
    AllPairs-cons (λ (row : DocRow) (other : DocRow). row.doc.id ≢ other.doc.id) e.1 (map (λ (e : ℕ × DocRow). e.1) es)
    (unlike_all e.1.doc.id es (λ k d h. up 0 (suc k) d (omega arith) (omega (arith, h))))
    (apart es (λ i j d l h. up (suc i) (suc j) d (omega (arith, l)) (omega (arith, h))))

-- no id lives twice in a layer
pub alone : (layer : LayerValue) → IsLayer layer → AllPairs (λ (row : DocRow) (other : DocRow). row.doc.id ≢ other.doc.id) (living layer)
alone layer is =
    apart (filter (λ (e : ℕ × DocRow). not (is_dead layer e.0)) (enumerate_from 0 layer.rows))
    (AllPairs-filter (λ (a : ℕ × DocRow) (b : ℕ × DocRow). a.1.doc.id < b.1.doc.id) (λ (e : ℕ × DocRow). not (is_dead layer e.0)) (enumerate_from 0 layer.rows) (numbered 0 layer.rows is.content.of.ids))

nobody : (layer : LayerValue) → layer.rows ≡ [] → living layer ≡ []
nobody layer e = ap (λ rows. map (λ (e : ℕ × DocRow). e.1) (filter (λ (e : ℕ × DocRow). not (is_dead layer e.0)) (enumerate_from 0 rows))) e

-- a layer, and one without rows
pub two_layers : (layer none : LayerValue) → IsLayer layer → IsLayer none → none.rows ≡ [] → AreLayers (layer ∷ none ∷ [])
two_layers layer none is is_none empty =
    let all : all_living (layer ∷ none ∷ []) ≡ living layer = ap (λ rows. living layer ++ (rows ++ [])) (nobody none empty) ∙ append-nil (living layer) in
    let long : length (living layer) + length layer.dead ≡ length layer.rows = all_rows layer is in
    record {
      each = All-cons IsLayer layer (none ∷ []) is (All-cons IsLayer none [] is_none (All-nil IsLayer));
      distinct = subst (λ rows. AllPairs (λ (row : DocRow) (other : DocRow). row.doc.id ≢ other.doc.id) rows) (sym all) (alone layer is);
      few_layers = omega arith;
      few_rows = omega (arith, ap length all, long, is.content.small.few_rows);
    }

none_rises : AllPairs (λ (a : ℕ) (b : ℕ). a < b) []
none_rises i j d l h = absurd (omega (arith, h))

-- no row is dead
pub none_dead : (n : ℕ) → AllPairs (λ (a : ℕ) (b : ℕ). a < b) [] × All (λ (row : ℕ). row < n) []
none_dead n = (none_rises, All-nil (λ (row : ℕ). row < n))

-- three of ten are
pub three_dead : AllPairs (λ (a : ℕ) (b : ℕ). a < b) (0 ∷ 4 ∷ 9 ∷ []) × All (λ (row : ℕ). row < 10) (0 ∷ 4 ∷ 9 ∷ [])
three_dead = (
  AllPairs-cons (λ (a : ℕ) (b : ℕ). a < b) 0 (4 ∷ 9 ∷ [])
      (All-cons (λ (b : ℕ). 0 < b) 4 (9 ∷ []) (omega arith) (All-cons (λ (b : ℕ). 0 < b) 9 [] (omega arith) (All-nil (λ (b : ℕ). 0 < b))))
      (AllPairs-cons (λ (a : ℕ) (b : ℕ). a < b) 4 (9 ∷ [])
      (All-cons (λ (b : ℕ). 4 < b) 9 [] (omega arith) (All-nil (λ (b : ℕ). 4 < b)))
      (AllPairs-cons (λ (a : ℕ) (b : ℕ). a < b) 9 [] (All-nil (λ (b : ℕ). 9 < b)) none_rises)),
  All-cons (λ (row : ℕ). row < 10) 0 (4 ∷ 9 ∷ []) (omega arith)
      (All-cons (λ (row : ℕ). row < 10) 4 (9 ∷ []) (omega arith)
      (All-cons (λ (row : ℕ). row < 10) 9 [] (omega arith) (All-nil (λ (row : ℕ). row < 10)))),
)

-- a layer of so many rows
pub layer_is : (rows : List DocRow) (disk : Bool) (dead listed : List ℕ) (n : ℕ) → IsContent rows → length rows ≡ n → dead ≡ listed → AllPairs (λ (a : ℕ) (b : ℕ). a < b) listed → All (λ (row : ℕ). row < n) listed → IsLayer (record { rows = rows; disk = disk; dead = dead })
layer_is rows disk dead listed n content long e ascend below = record {
  content = content;
  ascend = subst (AllPairs (λ (a : ℕ) (b : ℕ). a < b)) (sym e) ascend;
  rows = subst (All (λ (row : ℕ). row < length rows)) (sym e) (subst (λ m. All (λ (row : ℕ). row < m) listed) (sym long) below);
}

-- one without rows has none
pub without_rows : (rows : List DocRow) → length rows ≡ 0 → rows ≡ []
without_rows [] e = refl
without_rows (row ∷ rows) e = absurd (omega (arith, e))
