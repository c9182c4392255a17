-- What keywords by themselves find: one keyword more, and none that stands.
use Rattle.std.proofs.Common.{◌≡◌, ℕ, ◌+◌, false, cond, List, [], ◌∷◌, ◌++◌, map, refl, sym, ◌∙◌, ap, subst, arith}
use Rattle.std.specs.Prelude.{nat_lt}
use Rattle.std.specs.List.{flat_map}
use Rattle.std.proofs.lemmas.List.{flat_map_more}
use Rattle.occ_lists.specs.declared.occ.Occ.{Occ}
use Rattle.occ_lists.specs.declared.term.Term.{Term}
use Rattle.occ_lists.specs.Places.{at_place}
use Rattle.occ_lists.proofs.Counts.{count_cons}
use Rattle.word_rows.specs.Keywords.{Spans}
use Rattle.op_eval.specs.declared.finding.Finding.{Finding}
use Rattle.op_eval.specs.Finding.{is_some}
use Rattle.op_eval.specs.steps.Evaluating.{Appends, Finds}
use Rattle.op_eval.specs.steps.Worded.{how_many, term_hits, term_places, worded}
use Rattle.op_eval.proofs.Appending.{appends_none}

map_both : {Y Z : Type 0} (f : Y → Z) (ys zs : List Y) → map f (ys ++ zs) ≡ map f ys ++ map f zs
map_both f [] zs = refl
map_both f (y ∷ ys) zs = ap (λ ws. f y ∷ ws) (map_both f ys zs)

spread_out : {X Y Z : Type 0} (f : Y → Z) (g : X → List Y) (xs : List X) → map f (flat_map g xs) ≡ flat_map (λ x. map f (g x)) xs
spread_out f g [] = refl
spread_out f g (x ∷ xs) = map_both f (g x) (flat_map g xs) ∙ ap (λ ys. map f (g x) ++ ys) (spread_out f g xs)

pub places_more : (places : Term → List (ℕ × ℕ)) (start : List Occ) (terms : List Term) (term : Term) → (start ++ map at_place (flat_map places terms)) ++ map at_place (places term) ≡ start ++ map at_place (flat_map places (terms ++ term ∷ []))
places_more places start terms term =
    ap (λ (list : List Occ). (start ++ list) ++ map at_place (places term)) (spread_out at_place places terms)
    ∙ flat_map_more (λ (t : Term). map at_place (places t)) start terms term
    ∙ ap (λ (list : List Occ). start ++ list) (sym (spread_out at_place places (terms ++ term ∷ [])))

-- ---- where none stands

places_none : (places : List (ℕ × ℕ)) (n : ℕ) → cond (is_some places) 1 0 + n ≡ 0 → (places ≡ []) × (n ≡ 0)
places_none [] n none = (refl, omega (arith, none))
places_none (p ∷ places) n none = absurd (omega (arith, none))

module _ (spans : Spans) where
  first_none : (term : Term) (terms : List Term) → how_many spans (term ∷ terms) ≡ 0 → (term_places spans term ≡ []) × (how_many spans terms ≡ 0)
  first_none term terms none =
      places_none (term_places spans term) (how_many spans terms) (sym (count_cons (λ (t : Term). is_some (term_places spans t)) term terms) ∙ none)

  no_places : (terms : List Term) → how_many spans terms ≡ 0 → flat_map (term_places spans) terms ≡ []
  no_places [] none = refl
  no_places (term ∷ terms) none =
      let both = first_none term terms none in
      ap (λ (places : List (ℕ × ℕ)). places ++ flat_map (term_places spans) terms) both.0 ∙ no_places terms both.1

  no_hits : (terms : List Term) → how_many spans terms ≡ 0 → flat_map (term_hits spans) terms ≡ []
  no_hits [] none = refl
  no_hits (term ∷ terms) none =
      let both = first_none term terms none in
      ap (λ (places : List (ℕ × ℕ)). map (λ (p : ℕ × ℕ). record { query = term.query; word = term.word; field = p.0; position = p.1 }) places ++ flat_map (term_hits spans) terms) both.0 ∙ no_hits terms both.1

  pub worded_none : {short : Type 0} (terms : List Term) (old : Finding) → how_many spans terms ≡ 0 → Finds short (worded spans terms) old old false
  worded_none terms old none = record {
    matches = sym (ap (nat_lt 0) none);
    occurrences = subst (Appends old.occs.items old.occs.items) (sym (ap (map at_place) (no_places terms none))) (appends_none old.occs.items);
    hits = λ is. subst (Appends old.hits.items old.hits.items) (sym (no_hits terms none)) (appends_none old.hits.items);
  }
