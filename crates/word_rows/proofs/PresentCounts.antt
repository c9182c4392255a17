-- How many of a row's terms are present, which bounds the lists that are opened.
use Rattle.std.proofs.Common.{◌≡◌, ℕ, ◌+◌, ◌<◌, ◌≤◌, cond, List, [], ◌∷◌, length, get_or, take, refl, sym, ap, ◌∙◌}
use Rattle.std.specs.List.{count_by}
use Rattle.std.proofs.lemmas.List.{take_more}
use Rattle.std.proofs.lemmas.List.Sums.{sum_by-cons, sum_by_push, sum_by-take-le}
use Rattle.doc_types.specs.declared.documents.DocRow.{DocRow}
use Rattle.doc_types.specs.Chunks.{has_word}
use Rattle.query_tree.specs.declared.key.Key.{Key}
use Rattle.occ_lists.specs.declared.term.Term.{Term}
use Rattle.word_rows.specs.Keywords.{present_in}
use Rattle.word_rows.specs.Terms.{AreSeenIn}

-- as many as there are keywords whose word the row has
pub present_count : (row : DocRow) (keys : List Key) (terms : List Term) → AreSeenIn row keys terms → count_by (λ term. term.present) terms ≡ present_in row keys
present_count row [] [] seen = refl
present_count row [] (term ∷ terms) seen = absurd seen
present_count row (key ∷ keys) [] seen = absurd seen
present_count row (key ∷ keys) (term ∷ terms) seen =
    sum_by-cons (λ (t : Term). cond t.present 1 0) term terms
    ∙ (ap (λ b. cond b 1 0 + count_by (λ (t : Term). t.present) terms) seen.0.present
    ∙ (ap (λ n. cond (has_word key.word row) 1 0 + n) (present_count row keys terms seen.1)
    ∙ sym (sum_by-cons (λ (k : Key). cond (has_word k.word row) 1 0) key keys)))

-- one term more
pub present_more : (terms : List Term) (at : ℕ) (d : Term) → at < length terms → count_by (λ term. term.present) (take (at + 1) terms) ≡ count_by (λ term. term.present) (take at terms) + cond (get_or terms at d).present 1 0
present_more terms at d within =
    ap (count_by (λ (t : Term). t.present)) (take_more terms at d within)
    ∙ sum_by_push (λ (t : Term). cond t.present 1 0) (take at terms) (get_or terms at d)

-- no part of the terms has more than all
pub present_within : (terms : List Term) (n : ℕ) → count_by (λ term. term.present) (take n terms) ≤ count_by (λ term. term.present) terms
present_within terms n = sum_by-take-le (λ (t : Term). cond t.present 1 0) terms n
