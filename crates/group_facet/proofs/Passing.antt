-- A row in the place of another one that has the same in a facet's column.
use Rattle.std.proofs.Common.{◌≡◌, ◌∙◌, ◌+◌, ℤ, List, [], ◌∷◌, ◌++◌, Some, cond, length, ap, sym}
use Rattle.std.specs.List.{count_by}
use Rattle.std.specs.Ordering.{int_eq}
use Rattle.std.proofs.lemmas.List.{map-append}
use Rattle.std.proofs.lemmas.List.Elements.{All-weaker}
use Rattle.std.proofs.lemmas.List.Sums.{length-filter, sum_by_push}
use Rattle.row_select.specs.Columns.{column_value}
use Rattle.row_select.specs.declared.row.Row.{Row}
use Rattle.group_facet.specs.Distinct.{first_seen}
use Rattle.group_facet.specs.Folds.{column_values}
use Rattle.group_facet.specs.GatheringFacets.{GathersFacet}
use Rattle.group_facet.specs.Groups.{part}
use Rattle.group_facet.specs.declared.facet_counts.FacetCounts.{FacetCounts}
use Rattle.group_facet.specs.declared.facets.Facet.{Facet}

module _ (facet : Facet) (offered : List Row) (its row : Row) (same : column_value facet.column its ≡ column_value facet.column row) where
  values : column_values facet.column (offered ++ row ∷ []) ≡ column_values facet.column (offered ++ its ∷ [])
  values =
      map-append (column_value facet.column) offered (row ∷ []) ∙ ap (λ value. column_values facet.column offered ++ value ∷ []) (sym same)
      ∙ sym (map-append (column_value facet.column) offered (its ∷ []))

  counted : (key : ℤ) → length (part (Some facet.column) key (offered ++ row ∷ [])) ≡ length (part (Some facet.column) key (offered ++ its ∷ []))
  counted key =
      length-filter (λ (each : Row). int_eq key (column_value facet.column each)) (offered ++ row ∷ [])
      ∙ sum_by_push (λ (each : Row). cond (int_eq key (column_value facet.column each)) 1 0) offered row
      ∙ ap (λ value. count_by (λ (each : Row). int_eq key (column_value facet.column each)) offered + cond (int_eq key value) 1 0) (sym same)
      ∙ sym (sum_by_push (λ (each : Row). cond (int_eq key (column_value facet.column each)) 1 0) offered its)
      ∙ sym (length-filter (λ (each : Row). int_eq key (column_value facet.column each)) (offered ++ its ∷ []))

  -- the counts are the same
  pub gathered : (here : FacetCounts) → GathersFacet facet (offered ++ row ∷ []) here → GathersFacet facet (offered ++ its ∷ []) here
  gathered here so = record {
    asked = so.asked;
    keys = so.keys ∙ ap first_seen values;
    counts = All-weaker (λ entry. entry.1 ≡ length (part (Some facet.column) entry.0 (offered ++ row ∷ []))) (λ entry. entry.1 ≡ length (part (Some facet.column) entry.0 (offered ++ its ∷ [])))
        (λ entry is. is ∙ counted entry.0) here.counts.entries so.counts;
  }
