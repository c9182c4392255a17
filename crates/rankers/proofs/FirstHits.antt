-- The least position among the hits of a field, gone through with those of other fields; and hits that are ranked are within the limits.
use Rattle.std.proofs.Common.{arith, ◌≡◌, ◌≤◌, ℕ, List, [], ◌∷◌, Bool, true, false, Option, None, refl, sym, subst, ap, ◌∙◌}
use Rattle.std.specs.Prelude.{fold, unwrap_or, ◌==◌, All}
use Rattle.doc_types.specs.declared.hits.Hit.{Hit}
use Rattle.doc_types.specs.declared.hits.Hits.{Hits}
use Rattle.rankers.specs.Factors.{earlier, min_hit_pos}
use Rattle.rankers.specs.Weight.{in_field, IsRanked, AreRanked}
use Rattle.rankers.specs.steps.FieldValue.{with_hit, IsWithin, AreWithin}

one_more : (field : ℕ) (least : Option ℕ) (hit : Hit) (hits : List Hit) (b : Bool) → (hit.field == field) ≡ b
    → ((least : Option ℕ) → fold (with_hit field) least hits ≡ fold (λ least hit. earlier least hit.position) least (in_field field hits))
    → fold (with_hit field) least (hit ∷ hits) ≡ fold (λ least hit. earlier least hit.position) least (in_field field (hit ∷ hits))
one_more field least hit hits true e rest = rw e (rest (earlier least hit.position))
one_more field least hit hits false e rest = rw e (rest least)

over_others : (field : ℕ) (least : Option ℕ) (hits : List Hit) → fold (with_hit field) least hits ≡ fold (λ least hit. earlier least hit.position) least (in_field field hits)
over_others field least [] = refl
over_others field least (hit ∷ hits) = one_more field least hit hits (hit.field == field) refl (λ next. over_others field next hits)

pub first_is : (field : ℕ) (least : Option ℕ) (hits : List Hit) → least ≡ fold (with_hit field) None hits → unwrap_or least 0 ≡ min_hit_pos (in_field field hits)
first_is field least hits e = ap (λ o. unwrap_or o 0) (e ∙ over_others field None hits)

each_within : (keywords fields : ℕ) (hits : List Hit) → keywords ≤ 255 → All (IsRanked keywords fields) hits → All IsWithin hits
each_within keywords fields hits small each = λ k d inside. let h = each k d inside in record { from_one = h.from_one; query = omega (arith, h.query, small); position = h.position }

pub ranked_within : (hits : Hits) (list : List Hit) (weights : List ℕ) → list ≡ hits.list → AreRanked hits weights → AreWithin list
ranked_within hits list weights e h = subst AreWithin (sym e) (record { each = each_within hits.keywords _ hits.list h.keywords h.each_hit; apart = h.apart })
