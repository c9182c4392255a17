-- What is known of the words of a row, keyword by keyword, and of the keywords of a node's parts.
use Rattle.std.proofs.Common.{arith, ◌≡◌, ◌≤◌, ◌<◌, ◌+◌, refl, sym, ap, ◌∙◌, subst, ℕ, zero, suc, Bool, true, false, cond, List, [], ◌∷◌, ◌++◌, length, length-append, get_or, take, zero-add, Some, slice_get, inl, inr}
use Rattle.std.specs.Prelude.{count_by}
use Rattle.std.specs.List.{list_all, range_with_len}
use Rattle.std.specs.Option.{option_map_or}
use Rattle.std.proofs.lemmas.Bool.{cases_Bool, and_cases, true≢false}
use Rattle.std.proofs.lemmas.Grind.{flat_map-append}
use Rattle.std.proofs.lemmas.List.{take_more}
use Rattle.std.proofs.lemmas.List.Sums.{sum_by-cons}
use Rattle.doc_types.specs.declared.documents.DocRow.{DocRow}
use Rattle.doc_types.specs.Chunks.{has_word}
use Rattle.query_tree.specs.declared.key.Key.{Key}
use Rattle.query_tree.specs.declared.query.Item.{Item}
use Rattle.query_tree.specs.TreeKeys.{node_keys}
use Rattle.word_rows.specs.Keywords.{Spans}
use Rattle.op_eval.specs.steps.Verdicts.{stands_in}
use Rattle.op_eval.specs.steps.Evaluating.{items_keys}
use Rattle.op_eval.proofs.AbsentWords.{HasAbsent}
use Rattle.op_eval.proofs.Standing.{places_absent}
use Rattle.op_eval.specs.Finding.{is_some}
use Rattle.op_eval.specs.steps.Planned.{AreKnown, has_key}

-- ---- the keywords of items

-- one item more
pub keys_more : (items : List Item) (at : ℕ) (d : Item) → at < length items → length (items_keys (take (at + 1) items)) ≡ length (items_keys (take at items)) + length (node_keys (get_or items at d).node)
keys_more items at d within =
    let split : items_keys (take (at + 1) items) ≡ items_keys (take at items) ++ (node_keys (get_or items at d).node ++ []) =
    ap items_keys (take_more items at d within) ∙ flat_map-append (λ (item : Item). node_keys item.node) (take at items) (get_or items at d ∷ []) in
    omega (arith, ap length split, length-append (items_keys (take at items)) (node_keys (get_or items at d).node ++ []), length-append (node_keys (get_or items at d).node) [])

pub keys_within : (items : List Item) (at : ℕ) (d : Item) → at < length items → length (items_keys (take at items)) + length (node_keys (get_or items at d).node) ≤ length (items_keys items)
keys_within [] at d within = absurd (omega (arith, within))
keys_within (item ∷ items) zero d within = omega (arith, length-append (node_keys item.node) (items_keys items))
keys_within (item ∷ items) (suc at) d within =
    omega (arith, keys_within items at d (omega arith), length-append (node_keys item.node) (items_keys items), length-append (node_keys item.node) (items_keys (take at items)))

-- ---- what is known of their words

module _ (has : ℕ → Bool) (row : DocRow) where
  pub known_left : (n : ℕ) (ks ls : List Key) → AreKnown has row n (ks ++ ls) → AreKnown has row n ks
  known_left n [] ls known = tt
  known_left n (k ∷ ks) ls known = (known.0, known_left (n + 1) ks ls known.1)

  pub known_right : (n m : ℕ) (ks ls : List Key) → m ≡ n + length ks → AreKnown has row n (ks ++ ls) → AreKnown has row m ls
  known_right n m [] ls e known = let same : n ≡ m = omega (arith, e) in subst (λ (i : ℕ). AreKnown has row i ls) same known
  known_right n m (k ∷ ks) ls e known = known_right (n + 1) m ks ls (omega (arith, e)) known.1

  pub known_item : (n m : ℕ) (items : List Item) (at : ℕ) (d : Item) → at < length items → m ≡ n + length (items_keys (take at items)) → AreKnown has row n (items_keys items) → AreKnown has row m (node_keys (get_or items at d).node)
  known_item n m [] at d within e known = absurd (omega (arith, within))
  known_item n m (item ∷ items) zero d within e known = let same : n ≡ m = omega (arith, e) in subst (λ (i : ℕ). AreKnown has row i (node_keys item.node)) same (known_left n (node_keys item.node) (items_keys items) known)
  known_item n m (item ∷ items) (suc at) d within e known =
      known_item (n + length (node_keys item.node)) m items at d (omega arith) (omega (arith, e, length-append (node_keys item.node) (items_keys (take at items))))
      (known_right n (n + length (node_keys item.node)) (node_keys item.node) (items_keys items) refl known)

  -- one of them is denied
  pub absent_from : (n : ℕ) (keys : List Key) → AreKnown has row n keys → list_all has (range_with_len n (length keys)) ≡ false → HasAbsent row keys
  absent_from n [] known e = absurd (true≢false e)
  absent_from n (key ∷ keys) known e = elim (and_cases (has n) (list_all has (range_with_len (n + 1) (length keys))) e) [
    | inl here ↦ inl (known.0 here)
    | inr later ↦ inr (absent_from (n + 1) keys known.1 later)
  ]

  count_one : (t u : Bool) → (u ≡ false → t ≡ false) → cond t 1 0 ≤ cond u 1 0
  count_one t true denied = elim (cases_Bool t) [
    | inl e ↦ omega (arith, ap {B = ℕ} (λ b. cond b 1 0) e)
    | inr e ↦ omega (arith, ap {B = ℕ} (λ b. cond b 1 0) e)
  ]
  count_one t false denied = omega (arith, ap {B = ℕ} (λ b. cond b 1 0) (denied refl))

  -- no more of them stand somewhere than aren't denied
  pub count_known : (spans : Spans) (n : ℕ) (keys : List Key) → AreKnown has row n keys → count_by (stands_in row spans) keys ≤ count_by has (range_with_len n (length keys))
  count_known spans n [] known = omega arith
  count_known spans n (key ∷ keys) known =
      omega (
        arith,
        count_one (stands_in row spans key) (has n) (λ e. ap is_some (places_absent row key spans (known.0 e))),
        count_known spans (n + 1) keys known.1,
        sum_by-cons (λ k. cond (stands_in row spans k) 1 0) key keys,
        sum_by-cons (λ i. cond (has i) 1 0) n (range_with_len (n + 1) (length keys)),
      )

  -- by the place of each
  pub known_by : (n : ℕ) (keys : List Key) → ((k : ℕ) (key : Key) → slice_get keys k ≡ Some key → has (n + k) ≡ false → has_word key.word row ≡ false) → AreKnown has row n keys
  known_by n [] denied = tt
  known_by n (key ∷ keys) denied = (
    (λ e. let here : n + 0 ≡ n = omega arith in denied 0 key refl (ap has here ∙ e)),
    known_by (n + 1) keys (λ k other at e. let later : n + suc k ≡ n + 1 + k = omega arith in denied (suc k) other at (ap has later ∙ e)),
  )

pub known_own : (row : DocRow) (keys : List Key) → AreKnown (has_key row keys) row 0 keys
known_own row keys = known_by (has_key row keys) row 0 keys (λ k key at e. ap (λ o. option_map_or (λ (key : Key). has_word key.word row) o false) (sym at) ∙ ap (has_key row keys) (sym (zero-add k)) ∙ e)
