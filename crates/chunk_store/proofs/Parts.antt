-- A write into a list of a front, one element and a back: behind the element, or over it; whole, or cut short.
use Rattle.std.proofs.Common.{◌≡◌, ℕ, ◌+◌, ◌≤◌, List, [], ◌∷◌, ◌++◌, length, get_or, take, drop, min, sym, ◌∙◌, ap, arith, append_assoc, length-append, take-append-drop}
use Rattle.std.proofs.lemmas.List.{take_at, drop_at, drop_more}
use Rattle.chunk_store.specs.Images.{over}
use Rattle.chunk_store.specs.CrashModel.{Torn}

module _ (front : List ℕ) (a : ℕ) (back : List ℕ) (n : ℕ) (size : length front ≡ n) where
  abbrev whole : List ℕ
  whole = front ++ a ∷ back

  long : n + 1 ≤ length whole
  long = omega (arith, length-append front (a ∷ back), size)

  split : whole ≡ (front ++ a ∷ []) ++ back
  split = sym (append_assoc front (a ∷ []) back)

  head_size : length (front ++ a ∷ []) ≡ n + 1
  head_size = omega (arith, length-append front (a ∷ []), size)

  head : take (n + 1) whole ≡ front ++ a ∷ []
  head = ap (λ (l : List ℕ). take (n + 1) l) split ∙ take_at (front ++ a ∷ []) back (n + 1) head_size

  tail : drop (n + 1) whole ≡ back
  tail = ap (λ (l : List ℕ). drop (n + 1) l) split ∙ drop_at (front ++ a ∷ []) back (n + 1) head_size

  -- a write behind the element that is cut short leaves it and its front
  pub torn_behind : (k : ℕ) (x : List ℕ) → Torn (n + 1) k whole x → x ≡ front ++ a ∷ drop (n + 1) x
  torn_behind k x torn =
      let at : min (n + 1) (length whole) ≡ n + 1 = omega (arith, long) in
      let kept : take (n + 1) x ≡ front ++ a ∷ [] = ap (λ (m : ℕ). take m x) (sym at) ∙ torn.before ∙ head in
      sym (take-append-drop (n + 1) x) ∙ ap (λ (l : List ℕ). l ++ drop (n + 1) x) kept ∙ append_assoc front (a ∷ []) (drop (n + 1) x)

  pub over_behind : (bytes : List ℕ) → over (n + 1) bytes whole ≡ front ++ a ∷ (bytes ++ drop (n + 1 + length bytes) whole)
  over_behind bytes = ap (λ (l : List ℕ). l ++ bytes ++ drop (n + 1 + length bytes) whole) head
      ∙ ap (λ (l : List ℕ). l ++ drop (n + 1 + length bytes) whole) (append_assoc front (a ∷ []) bytes)
      ∙ append_assoc front (a ∷ bytes) (drop (n + 1 + length bytes) whole)

  -- one over the element that is cut short leaves some element in its place
  pub torn_over : (x : List ℕ) → Torn n 1 whole x → x ≡ front ++ get_or x n 0 ∷ back
  torn_over x torn =
      let at : min n (length whole) ≡ n = omega (arith, long) in
      let kept : take n x ≡ front = ap (λ (m : ℕ). take m x) (sym at) ∙ torn.before ∙ take_at front (a ∷ back) n size in
      let rest : drop n x ≡ get_or x n 0 ∷ back = drop_more x n 0 (omega (arith, long, torn.no_shorter)) ∙ ap (λ (l : List ℕ). get_or x n 0 ∷ l) (torn.after ∙ tail) in
      sym (take-append-drop n x) ∙ ap (λ (l : List ℕ). l ++ drop n x) kept ∙ ap (λ (l : List ℕ). front ++ l) rest

  pub over_it : (b : ℕ) → over n (b ∷ []) whole ≡ front ++ b ∷ back
  over_it b = ap (λ (l : List ℕ). l ++ b ∷ [] ++ drop (n + 1) whole) (take_at front (a ∷ back) n size)
      ∙ ap (λ (l : List ℕ). front ++ b ∷ [] ++ l) tail ∙ append_assoc front (b ∷ []) back
