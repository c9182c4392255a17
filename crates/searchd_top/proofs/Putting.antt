-- The line of an index, put together from its pieces.
use Rattle.std.proofs.Common.{◌≡◌, ℕ, List, [], ◌∷◌, ◌++◌, ap, sym, ◌∙◌, append_assoc}
use Rattle.std.specs.Prelude.{codes, decimal}
use Rattle.searchd_top.specs.Checks.{Holdings, check_line}

pieces : (old a b c d e f g h : List ℕ) → (((((((old ++ a) ++ b) ++ c) ++ d) ++ e) ++ f) ++ g) ++ h ≡ old ++ (((((((a ++ b) ++ c) ++ d) ++ e) ++ f) ++ g) ++ h)
pieces old a b c d e f g h =
    let two = append_assoc old a b in
    let three = ap (λ (list : List ℕ). list ++ c) two ∙ append_assoc old (a ++ b) c in
    let four = ap (λ (list : List ℕ). list ++ d) three ∙ append_assoc old ((a ++ b) ++ c) d in
    let five = ap (λ (list : List ℕ). list ++ e) four ∙ append_assoc old (((a ++ b) ++ c) ++ d) e in
    let six = ap (λ (list : List ℕ). list ++ f) five ∙ append_assoc old ((((a ++ b) ++ c) ++ d) ++ e) f in
    let seven = ap (λ (list : List ℕ). list ++ g) six ∙ append_assoc old (((((a ++ b) ++ c) ++ d) ++ e) ++ f) g in
    ap (λ (list : List ℕ). list ++ h) seven ∙ append_assoc old ((((((a ++ b) ++ c) ++ d) ++ e) ++ f) ++ g) h

pub line_put : (name : List ℕ) (has : Holdings) (old s1 s2 s3 s4 s5 s6 s7 s8 : List ℕ) → s1 ≡ old ++ name → s2 ≡ s1 ++ codes ": " → s3 ≡ s2 ++ decimal has.documents → s4 ≡ s3 ++ codes " documents, "
    → s5 ≡ s4 ++ decimal has.chunks → s6 ≡ s5 ++ codes " disk chunks, " → s7 ≡ s6 ++ decimal has.records → s8 ≡ s7 ++ (codes " log records" ++ 10 ∷ []) → s8 ≡ old ++ check_line name has
line_put name has old s1 s2 s3 s4 s5 s6 s7 s8 e1 e2 e3 e4 e5 e6 e7 e8 =
    let f2 = e2 ∙ ap (λ (list : List ℕ). list ++ codes ": ") e1 in
    let f3 = e3 ∙ ap (λ (list : List ℕ). list ++ decimal has.documents) f2 in
    let f4 = e4 ∙ ap (λ (list : List ℕ). list ++ codes " documents, ") f3 in
    let f5 = e5 ∙ ap (λ (list : List ℕ). list ++ decimal has.chunks) f4 in
    let f6 = e6 ∙ ap (λ (list : List ℕ). list ++ codes " disk chunks, ") f5 in
    let f7 = e7 ∙ ap (λ (list : List ℕ). list ++ decimal has.records) f6 in
    let f8 = e8 ∙ ap (λ (list : List ℕ). list ++ (codes " log records" ++ 10 ∷ [])) f7 in
    f8 ∙ pieces old name (codes ": ") (decimal has.documents) (codes " documents, ") (decimal has.chunks) (codes " disk chunks, ") (decimal has.records) (codes " log records" ++ 10 ∷ [])
    ∙ ap (λ (list : List ℕ). old ++ list)
    (sym (append_assoc ((((((name ++ codes ": ") ++ decimal has.documents) ++ codes " documents, ") ++ decimal has.chunks) ++ codes " disk chunks, ") ++ decimal has.records) (codes " log records") (10 ∷ [])))
