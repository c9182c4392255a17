-- The greatest of what the hits of a field give, one hit more at a time.
use Rattle.std.proofs.Common.{◌≡◌, ◌≢◌, ℕ, ◌+◌, ◌<◌, max, cond, ◌&&◌, ◌==◌, List, [], ◌∷◌, ◌++◌, map, length, get_or, take, ap, sym, ◌∙◌}
use Rattle.std.specs.List.{filter, count_by}
use Rattle.std.proofs.lemmas.Bool.{eq-eqb, ne_eqb}
use Rattle.std.proofs.lemmas.List.{map-append, append-nil}
use Rattle.std.proofs.lemmas.List.Elements.{filter_more}
use Rattle.std.proofs.lemmas.List.Sums.{length-filter}
use Rattle.doc_types.specs.declared.hits.Hit.{Hit}
use Rattle.rankers.specs.Weight.{greatest, in_field, same_offset}
use Rattle.rankers.proofs.Counting.{count_by-filter}
use Rattle.rankers.proofs.Greatest.{greatest_push}

-- the hits of a field at the offset of one, counted in two ways
pub counted : (field : ℕ) (hits : List Hit) (hit : Hit) → length (filter (λ other. (other.field == field) && same_offset hit other) hits) ≡ count_by (same_offset hit) (in_field field hits)
counted field hits hit =
    length-filter (λ (other : Hit). (other.field == field) && same_offset hit other) hits
    ∙ sym (count_by-filter (same_offset hit) (λ (other : Hit). other.field == field) hits)

module _ (f : Hit → ℕ) (field : ℕ) (hits : List Hit) (i : ℕ) (d : Hit) (inside : i < length hits) where
  pub greatest_more : (get_or hits i d).field ≡ field → greatest (map f (in_field field (take (i + 1) hits))) ≡ max (greatest (map f (in_field field (take i hits)))) (f (get_or hits i d))
  greatest_more own =
      ap (λ hs. greatest (map f hs))
      (filter_more (λ (hit : Hit). hit.field == field) hits i d inside
      ∙ ap (λ b. in_field field (take i hits) ++ cond b (get_or hits i d ∷ []) []) (eq-eqb (get_or hits i d).field field own))
      ∙ ap greatest (map-append f (in_field field (take i hits)) (get_or hits i d ∷ []))
      ∙ greatest_push (map f (in_field field (take i hits))) (f (get_or hits i d))

  pub greatest_same : (get_or hits i d).field ≢ field → greatest (map f (in_field field (take (i + 1) hits))) ≡ greatest (map f (in_field field (take i hits)))
  greatest_same other =
      ap (λ hs. greatest (map f hs))
      (filter_more (λ (hit : Hit). hit.field == field) hits i d inside
      ∙ ap (λ b. in_field field (take i hits) ++ cond b (get_or hits i d ∷ []) []) (ne_eqb (get_or hits i d).field field other)
      ∙ append-nil (in_field field (take i hits)))
