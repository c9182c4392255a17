-- Hits at one offset: `lcs` is the greatest count over all offsets, however an offset is told.
use Rattle.std.proofs.Common.{◌≡◌, ◌≤◌, Bool, true, inl, inr, List, sym, ◌∙◌, subst, arith}
use Rattle.std.specs.List.{count_by, list_any, All}
use Rattle.std.proofs.lemmas.Bool.{cases_Bool}
use Rattle.std.proofs.lemmas.List.Folds.{Any-from_list_any}
use Rattle.doc_types.specs.declared.hits.Hit.{Hit}
use Rattle.rankers.specs.Weight.{same_offset, lcs}
use Rattle.rankers.proofs.Counting.{count_by_agree, count_by_none}
use Rattle.rankers.proofs.Greatest.{le_greatest, greatest_met}

module _ (Offset : Type 0) (at : Offset → Hit → Bool) (alike : (offset : Offset) (hit : Hit) → at offset hit ≡ true → (other : Hit) → at offset other ≡ same_offset hit other) where
  -- no offset has more hits
  pub bounded : (hits : List Hit) (offset : Offset) → count_by (at offset) hits ≤ lcs hits
  bounded hits offset =
      elim (cases_Bool (list_any (at offset) hits)) [
        | inl some ↦
            (let found = Any-from_list_any (at offset) hits some in
            let counts = count_by_agree (at offset) (same_offset found.1) hits (alike offset found.1 found.4) in
            let most =
            subst (λ (hit : Hit). count_by (same_offset hit) hits ≤ lcs hits) found.3 (le_greatest (λ hit. count_by (same_offset hit) hits) hits found.0 found.1 found.2) in
            omega arith)
        | inr none ↦ (let zero = count_by_none (at offset) hits none in omega arith)
      ]

  -- one offset has as many
  pub met : (hits : List Hit) → Offset → All (λ hit. (offset : Offset) × (at offset hit ≡ true)) hits → (offset : Offset) × (count_by (at offset) hits ≡ lcs hits)
  met hits start each =
      elim (greatest_met (λ hit. (offset : Offset) × (at offset hit ≡ true)) (λ hit. count_by (same_offset hit) hits) hits each) [
        | inl none ↦ (start, (let most = bounded hits start in omega arith))
        | inr found ↦
            (found.1.0, count_by_agree (at found.1.0) (same_offset found.0) hits (alike found.1.0 found.0 found.1.1) ∙ sym found.2)
      ]
