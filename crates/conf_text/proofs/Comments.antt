-- What stands before a comment.
use Rattle.std.proofs.Common.{◌≡◌, ℕ, ◌+◌, ◌<◌, true, false, cond, List, [], ◌∷◌, ◌++◌, length, take, take_all, drop, drop-cons, add-one, get_or, append_assoc, append-nil, refl, sym, ◌∙◌, ap, arith}
use Rattle.std.proofs.lemmas.List.{drop_all, take_more}
use Rattle.conf_text.specs.Lines.{begins_comment, uncommented, uncommented_after}

-- what was looked at has no comment, and the last byte of it is given
pub record Looked (line : List ℕ) (place before : ℕ) : Type 0 where
  pub is : uncommented line ≡ take place line ++ uncommented_after before (drop place line)

pub looked_none : (line : List ℕ) → Looked line 0 32
looked_none line = record { is = refl }

at_byte : (line : List ℕ) (place before : ℕ) → place < length line → uncommented_after before (drop place line) ≡ cond (begins_comment before (get_or line place 0)) [] (get_or line place 0 ∷ uncommented_after (get_or line place 0) (drop (place + 1) line))
at_byte line place before below = ap (uncommented_after before) (drop-cons line place 0 below) ∙ ap (λ n. cond (begins_comment before (get_or line place 0)) [] (get_or line place 0 ∷ uncommented_after (get_or line place 0) (drop n line))) (sym (add-one place))

pub looked_here : (line : List ℕ) (place before : ℕ) → place < length line → begins_comment before (get_or line place 0) ≡ true → Looked line place before → take place line ≡ uncommented line
looked_here line place before below here looked =
    let b : ℕ = get_or line place 0 in
    let none : uncommented_after before (drop place line) ≡ [] = at_byte line place before below ∙ ap (λ t. cond t [] (b ∷ uncommented_after b (drop (place + 1) line))) here in
    sym (append-nil (take place line)) ∙ ap (λ rest. take place line ++ rest) (sym none) ∙ sym looked.is

pub looked_more : (line : List ℕ) (place before : ℕ) → place < length line → begins_comment before (get_or line place 0) ≡ false → Looked line place before → Looked line (place + 1) (get_or line place 0)
looked_more line place before below other looked =
    let b : ℕ = get_or line place 0 in
    let rest : List ℕ = uncommented_after b (drop (place + 1) line) in
    let one : uncommented_after before (drop place line) ≡ b ∷ rest = at_byte line place before below ∙ ap (λ t. cond t [] (b ∷ rest)) other in
    let front : take (place + 1) line ≡ take place line ++ b ∷ [] = take_more line place 0 below in
    record { is = looked.is ∙ ap (λ r. take place line ++ r) one ∙ sym (append_assoc (take place line) (b ∷ []) rest) ∙ ap (λ f. f ++ rest) (sym front) }

pub looked_all : (line : List ℕ) (place before : ℕ) → place ≡ length line → Looked line place before → line ≡ uncommented line
looked_all line place before end looked =
    let whole : take place line ≡ line = take_all place line (omega arith) in
    let none : drop place line ≡ [] = drop_all place line (omega arith) in
    sym whole ∙ sym (append-nil (take place line)) ∙ ap (λ r. take place line ++ uncommented_after before r) (sym none) ∙ sym looked.is
