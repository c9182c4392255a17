-- Where an AND, or what a ZONESPAN stands over, has negated items alone, the mark of its first item is NOT.
use Rattle.std.proofs.Common.{◌≡◌, ℕ, List, [], ◌∷◌, ◌++◌, Bool, true, false, not, Option, Some, None, inl, inr, refl, sym, ◌∙◌, ap, subst, append_assoc}
use Rattle.std.specs.Prelude.{◌≢◌, ◌||◌, Contains}
use Rattle.std.proofs.lemmas.List.Elements.{Contains-append_cases}
use Rattle.std.proofs.lemmas.List.Folds.{list_any-append}
use Rattle.token_grammar.specs.Values.{AreInRow}
use Rattle.token_grammar.proofs.Bools.{or_first}
use Rattle.query_marks.specs.declared.mark.Mark.{Mark}
use Rattle.query_marks.specs.declared.mark.Sign.TheVariants as signs
use Rattle.query_tree.specs.declared.query.Item.{Item}
use Rattle.query_tree.specs.declared.query.Node.{Node}
use Rattle.query_grammar.specs.Grammar.{Section, IsItem, IsLimit, IsSection, IsAnd, items_of, all_items, has_item}
use Rattle.query_grammar.specs.QueryFaults.{IsAnyLimit, FirstItem}
use Rattle.query_grammar.proofs.MarkPlaces.{none_contained, first_contained, contained_later, contained_cases}

-- Limits.
abbrev AreLimits : List Mark → Type 0
AreLimits marks = (m : Mark) → Contains marks m → IsAnyLimit m.sign

limit_marks : (limit : Option (List ℕ)) (u : List Mark) → IsLimit limit u → AreLimits u
limit_marks None u (t, e, s) m has = elim (contained_cases t [] m (subst (λ w. Contains w m) e has)) [
  | inl same ↦ inl (ap (λ (x : Mark). x.sign) (sym same) ∙ s)
  | inr never ↦ absurd (none_contained m never)
]
limit_marks (Some zones) u (t, e, s) m has = elim (contained_cases t [] m (subst (λ w. Contains w m) e has)) [
  | inl same ↦ inr (zones, ap (λ (x : Mark). x.sign) (sym same) ∙ s)
  | inr never ↦ absurd (none_contained m never)
]

limits_marks : (limits : List (Option (List ℕ))) (u : List Mark) → AreInRow IsLimit limits u → AreLimits u
limits_marks [] u none m has = absurd (none_contained m (subst (λ w. Contains w m) none has))
limits_marks (limit ∷ limits) u (a, b, e, first, rest) m has = elim (Contains-append_cases a b m (subst (λ w. Contains w m) e has)) [
  | inl here ↦ limit_marks limit a first m here
  | inr later ↦ limits_marks limits b rest m later
]

-- the first mark that is no limit is one
one_first : (a b : List Mark) (x y : Mark) (v w : List Mark) → a ++ x ∷ v ≡ b ++ y ∷ w → AreLimits a → AreLimits b → (IsAnyLimit x.sign → ⊥) → (IsAnyLimit y.sign → ⊥) → x ≡ y
one_first [] [] x y v w e in_a in_b not_x not_y = cc
one_first [] (z ∷ b) x y v w e in_a in_b not_x not_y =
    let same : z ≡ x = cc in
    absurd (not_x (subst (λ (m : Mark). IsAnyLimit m.sign) same (in_b z (first_contained z b))))
one_first (z ∷ a) [] x y v w e in_a in_b not_x not_y =
    let same : z ≡ y = cc in
    absurd (not_y (subst (λ (m : Mark). IsAnyLimit m.sign) same (in_a z (first_contained z a))))
one_first (z ∷ a) (z' ∷ b) x y v w e in_a in_b not_x not_y =
    let rest : a ++ x ∷ v ≡ b ++ y ∷ w = cc in
    one_first a b x y v w rest (λ m has. in_a m (contained_later z a m has)) (λ m has. in_b m (contained_later z' b m has)) not_x not_y

-- Items that are all negated.
negated : (b c : Bool) → (not b || c) ≡ false → b ≡ true
negated true c e = refl
negated false c e = cc

-- A part begins with NOT.
record BeginsNot (u : List Mark) : Type 0 where
  first : Mark
  rest : List Mark
  is : u ≡ first ∷ rest
  is_not : first.sign ≡ signs.Not

begins_longer : (u v w : List Mark) → w ≡ u ++ v → BeginsNot u → BeginsNot w
begins_longer u v w e h = record { first = h.first; rest = h.rest ++ v; is = e ∙ ap (λ x. x ++ v) h.is; is_not = h.is_not }

module _ (IsGroup : Node → List Mark → Type 0) where
  item_begins : (item : Item) (u : List Mark) → IsItem IsGroup item u → item.negated ≡ true → BeginsNot u
  item_begins item u (inl (e, (a, b, f, (m, g, s), h))) is = record { first = m; rest = b; is = f ∙ ap (λ w. w ++ b) g; is_not = s }
  item_begins item u (inr (e, h)) is = cc

  items_begin : (items : List Item) (u : List Mark) → items ≢ [] → AreInRow (IsItem IsGroup) items u → has_item items ≡ false → BeginsNot u
  items_begin [] u some h none = absurd (some refl)
  items_begin (item ∷ items) u some (a, b, e, first, rest) none = begins_longer a b u e (item_begins item a first (negated item.negated (has_item items) none))

  -- so do the marks of a section after its limits
  pub section_first : (is_first : Bool) (section : Section) (u v w : List Mark) (place : ℕ) → IsSection IsGroup is_first section u → has_item section.items ≡ false → w ≡ u ++ v → (first : FirstItem w place) → first.item.sign ≡ signs.Not
  section_first is_first section u v w place (list, _, span, some, (a, b, e, limits, items)) none is first =
      let h : BeginsNot b = items_begin section.items b some items none in
      let whole : w ≡ a ++ h.first ∷ (h.rest ++ v) = is ∙ ap (λ x. x ++ v) (e ∙ ap (λ x. a ++ x) h.is) ∙ append_assoc a (h.first ∷ h.rest) v in
      let same : first.item ≡ h.first = one_first first.limiting a first.item h.first first.rest (h.rest ++ v) (sym first.is ∙ whole) first.are (limits_marks list a limits) first.no_limit (not_limit h.first h.is_not) in
      ap (λ (m : Mark). m.sign) same ∙ h.is_not
    where
      not_limit : (m : Mark) → m.sign ≡ signs.Not → IsAnyLimit m.sign → ⊥
      not_limit m is (inl limit) = cc
      not_limit m is (inr (zones, spans)) = cc

  open_section : (span : Option (List ℕ)) (items more : List Item) → has_item (items_of span items ++ more) ≡ false → has_item items ≡ false
  open_section None items more none = or_first (has_item items) (has_item more) (sym (list_any-append (λ (item : Item). not item.negated) items more) ∙ none)
  open_section (Some zones) items more none = cc

  pub and_first : (sections : List Section) (u : List Mark) (place : ℕ) → IsAnd IsGroup sections u → has_item (all_items sections) ≡ false → (first : FirstItem u place) → first.item.sign ≡ signs.Not
  and_first [] u place h none first = absurd h
  and_first (section ∷ sections) u place (a, b, e, h, rest) none first =
      section_first true section a b u place h (open_section section.span section.items (all_items sections) none) e first
