-- Parts of a text from one place up to another.
use Rattle.std.proofs.Common.{◌≡◌, ℕ, ◌+◌, ◌-◌, ◌<◌, ◌≤◌, List, [], ◌∷◌, ◌++◌, length, get_or, take, drop, slice_range, refl, sym, ap, ◌∙◌, arith, length-drop, length-take, get_or-drop, get_or-take, take-append-drop, ⊎_elim}
use Rattle.std.proofs.lemmas.List.{get_or_past, drop-drop, take-take, drop-take, take_more, drop_more, same_lists}
use Rattle.std.proofs.lemmas.Bool.{cases_lt}

pub slice_length : (text : List ℕ) (from to : ℕ) → to ≤ length text → length (slice_range text from to) ≡ to - from
slice_length text from to within = simp (length-take, length-drop) (omega arith)

pub slice_byte : (text : List ℕ) (from to k : ℕ) → from + k < to → get_or (slice_range text from to) k 0 ≡ get_or text (from + k) 0
slice_byte text from to k below = let lt : k < to - from = omega arith in rw (get_or-take, get_or-drop) refl

-- a byte that isn't 0 stands in the text
pub byte_within : (text : List ℕ) (k : ℕ) → 0 < get_or text k 0 → k < length text
byte_within text k some = ⊎_elim (λ within. within) (λ past. absurd (omega (arith, get_or_past text k 0 past))) (cases_lt k (length text))

-- a part of a part
pub slice_slice : (text : List ℕ) (from to a b : ℕ) → to ≤ length text → from + b ≤ to → a ≤ b → slice_range (slice_range text from to) a b ≡ slice_range text (from + a) (from + b)
slice_slice text from to a b within inside ordered =
    same_lists _ _ (
    omega (arith, slice_length (slice_range text from to) a b (omega (arith, slice_length text from to within)), slice_length text (from + a) (from + b) (omega arith))
    ) (λ k d below.
    let small : k < b - a = omega (arith, slice_length (slice_range text from to) a b (omega (arith, slice_length text from to within))) in
    let l1 : k < b - a = small in
    let l2 : a + k < to - from = omega arith in
    let l3 : k < from + b - (from + a) = omega arith in
    let e : from + (a + k) ≡ from + a + k = omega arith in
    get_or-take (b - a) (drop a (slice_range text from to)) k d l1
    ∙ get_or-drop a (slice_range text from to) k d
    ∙ get_or-take (to - from) (drop from text) (a + k) d l2
    ∙ get_or-drop from text (a + k) d
    ∙ ap (λ n. get_or text n d) e
    ∙ sym (get_or-drop (from + a) text k d)
    ∙ sym (get_or-take (from + b - (from + a)) (drop (from + a) text) k d l3)
    )

-- one byte more
pub slice_more : (text : List ℕ) (from to : ℕ) → from ≤ to → to < length text → slice_range text from (to + 1) ≡ slice_range text from to ++ get_or text to 0 ∷ []
slice_more text from to ordered within =
    let size : to + 1 - from ≡ (to - from) + 1 = omega arith in
    let below : to - from < length (drop from text) = omega (arith, length-drop from text) in
    let e : from + (to - from) ≡ to = omega arith in
    ap (λ n. take n (drop from text)) size
    ∙ take_more (drop from text) (to - from) 0 below
    ∙ ap (λ (b : ℕ). take (to - from) (drop from text) ++ b ∷ []) (get_or-drop from text (to - from) 0 ∙ ap (λ n. get_or text n 0) e)

pub slice_none : (text : List ℕ) (from : ℕ) → slice_range text from from ≡ []
slice_none text from = let e : from - from ≡ 0 = omega arith in ap (λ n. take n (drop from text)) e

-- what follows a front of a part
pub slice_drop : (text : List ℕ) (from to n : ℕ) → to ≤ length text → from + n ≤ to → drop n (slice_range text from to) ≡ slice_range text (from + n) to
slice_drop text from to n within inside =
    let size : to - from ≡ n + (to - (from + n)) = omega arith in
    ap (λ m. drop n (take m (drop from text))) size
    ∙ drop-take n (to - (from + n)) (drop from text)
    ∙ ap (λ (l : List ℕ). take (to - (from + n)) l) (drop-drop n from text)

-- the first byte of a part, where it isn't 0
pub slice_first : (text : List ℕ) (from to : ℕ) → 0 < get_or (slice_range text from to) 0 0 → (from < to) × (get_or (slice_range text from to) 0 0 ≡ get_or text from 0)
slice_first text from to some =
    let full : 0 < length (slice_range text from to) = byte_within (slice_range text from to) 0 some in
    let ordered : from < to = omega (arith, length-take (to - from) (drop from text)) in
    let place : from + 0 < to = omega arith in
    let e : from + 0 ≡ from = omega arith in
    (ordered, slice_byte text from to 0 place ∙ ap (λ n. get_or text n 0) e)

-- a byte of a part, where it isn't 0
pub slice_at : (text : List ℕ) (from to k : ℕ) → 0 < get_or (slice_range text from to) k 0 → (from + k < to) × (get_or (slice_range text from to) k 0 ≡ get_or text (from + k) 0)
slice_at text from to k some =
    let full : k < length (slice_range text from to) = byte_within (slice_range text from to) k some in
    let ordered : from + k < to = omega (arith, length-take (to - from) (drop from text)) in
    (ordered, slice_byte text from to k ordered)

-- a part is what stands before a place, the byte there, and what stands after it
pub slice_split : (text : List ℕ) (from at to : ℕ) → from ≤ at → at < to → to ≤ length text → slice_range text from to ≡ slice_range text from at ++ get_or text at 0 ∷ slice_range text (at + 1) to
slice_split text from at to ordered before within =
    let e : from + (at - from) ≡ at = omega arith in
    let size : length (slice_range text from to) ≡ to - from = slice_length text from to within in
    let here : at - from < length (slice_range text from to) = omega arith in
    let place : from + (at - from) < to = omega arith in
    let shorter : at - from ≤ to - from = omega arith in
    let next : from + (at - from + 1) ≡ at + 1 = omega arith in
    sym (take-append-drop (at - from) (slice_range text from to))
    ∙ ap (λ (l : List ℕ). l ++ drop (at - from) (slice_range text from to)) (take-take (at - from) (to - from) (drop from text) shorter)
    ∙ ap (λ (l : List ℕ). slice_range text from at ++ l) (drop_more (slice_range text from to) (at - from) 0 here)
    ∙ ap (λ (b : ℕ). slice_range text from at ++ b ∷ drop (at - from + 1) (slice_range text from to)) (slice_byte text from to (at - from) place ∙ ap (λ k. get_or text k 0) e)
    ∙ ap (λ (l : List ℕ). slice_range text from at ++ get_or text at 0 ∷ l) (slice_drop text from to (at - from + 1) within (omega arith) ∙ ap (λ k. slice_range text k to) next)
