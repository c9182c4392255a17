-- Lists of zones, name by name.
use Rattle.std.proofs.Common.{◌≡◌, ℕ, ◌+◌, ◌<◌, Bool, true, false, cond, refl, eqb, List, [], ◌∷◌, ◌++◌, append_assoc, length, take, take_all, drop, map, sym, ◌∙◌, ap, subst, arith, inl, inr}
use Rattle.std.specs.Prelude.{◌&&◌, ◌||◌, not}
use Rattle.std.specs.BTreeSet.{BTreeSet, contains}
use Rattle.std.specs.Cmp.Lexicographic.{slice_cmp}
use Rattle.std.specs.Ordering.{is_eq, nat_cmp}
use Rattle.std.specs.Str.{bytes_eq}
use Rattle.std.specs.List.{list_all, list_any}
use Rattle.std.proofs.lemmas.Bool.{true≢false, cases_lt, and_cases, and_parts, not-false, not-true}
use Rattle.std.proofs.lemmas.List.Folds.{list_all-append, list_any-append}
use Rattle.std.proofs.lemmas.Map.Text.{is_eq-slice_cmp}
use Rattle.std.proofs.lemmas.List.Splits.{slice_split_first, slice_split_none}
use Rattle.std.proofs.lemmas.List.Sums.{fails_before_first}
use Rattle.conf_text.specs.Faults.{is_among}
use Rattle.conf_text.specs.Lines.{trimmed}
use Rattle.conf_text.specs.steps.Settings.{HasNames}
use Rattle.conf_text.specs.Shapes.{small}
use Rattle.conf_text.specs.Values.{AreZoneNames, is_tag_name, zones_in}
use Rattle.doc_types.specs.Schemas.{AreDistinct}
use Rattle.conf_text.proofs.Among.{distinct_more, not_distinct}
use Rattle.conf_text.proofs.Parts.{place, place_within}

-- the name that a part of a list is
abbrev pub zone : List ℕ → List ℕ
zone part = small (trimmed part)

-- the zones that were read, and those that are left
pub record ZonesRead (value rest : List ℕ) (zones : List (List ℕ)) : Type 0 where
  pub are : zones_in value ≡ zones ++ zones_in rest
  pub form : list_all is_tag_name zones ≡ true
  pub distinct : AreDistinct zones

pub zones_none : (value : List ℕ) (zones : List (List ℕ)) → zones ≡ [] → ZonesRead value value zones
zones_none value zones empty = record {
  are = ap (λ zs. zs ++ zones_in value) (sym empty);
  form = ap (list_all is_tag_name) empty;
  distinct = subst AreDistinct (sym empty) (λ i j d order below. absurd (omega arith));
}

last_zone : (rest : List ℕ) → place 44 rest ≡ length rest → zones_in rest ≡ zone (take (place 44 rest) rest) ∷ []
last_zone rest end =
    let whole : take (place 44 rest) rest ≡ rest = take_all (place 44 rest) rest (omega (arith, end)) in
    ap (map zone) (slice_split_none (λ b. eqb b 44) rest (λ k d below. fails_before_first (λ b. eqb b 44) rest k d (omega (arith, end))))
    ∙ ap (λ part. zone part ∷ []) (sym whole)

next_zone : (rest : List ℕ) → place 44 rest < length rest → zones_in rest ≡ zone (take (place 44 rest) rest) ∷ zones_in (drop (place 44 rest + 1) rest)
next_zone rest within = ap (map zone) (slice_split_first (λ b. eqb b 44) rest 0 within)

-- the first of the zones that are left
first_zone : (rest : List ℕ) → (more : List (List ℕ)) × (zones_in rest ≡ zone (take (place 44 rest) rest) ∷ more)
first_zone rest = elim (cases_lt (place 44 rest) (length rest)) [
  | inl within ↦ (zones_in (drop (place 44 rest + 1) rest), next_zone rest within)
  | inr end ↦ ([], last_zone rest (omega (arith, end, place_within 44 rest)))
]

form_more : (zones : List (List ℕ)) (name : List ℕ) → list_all is_tag_name zones ≡ true → is_tag_name name ≡ true → list_all is_tag_name (zones ++ name ∷ []) ≡ true
form_more zones name form is = list_all-append is_tag_name zones (name ∷ []) ∙ ap (λ b. b && (is_tag_name name && true)) form ∙ ap (λ b. b && true) is

-- a name that is new, where it stands
pub zones_more : (value rest : List ℕ) (zones : List (List ℕ)) (name : List ℕ) → ZonesRead value rest zones → place 44 rest < length rest → name ≡ zone (take (place 44 rest) rest) → (is_tag_name name && not (is_among name zones)) ≡ true → ZonesRead value (drop (place 44 rest + 1) rest) (zones ++ name ∷ [])
zones_more value rest zones name read within is new = record {
  are = read.are ∙ ap (λ zs. zones ++ zs) (next_zone rest within) ∙ ap (λ n. zones ++ n ∷ zones_in (drop (place 44 rest + 1) rest)) (sym is) ∙ sym (append_assoc zones (name ∷ []) (zones_in (drop (place 44 rest + 1) rest)));
  form = form_more zones name read.form (and_parts _ _ new).0;
  distinct = distinct_more zones name read.distinct (not-true _ (and_parts _ _ new).1);
}

pub zones_end : (value rest : List ℕ) (zones : List (List ℕ)) (name : List ℕ) → ZonesRead value rest zones → place 44 rest ≡ length rest → name ≡ zone (take (place 44 rest) rest) → (is_tag_name name && not (is_among name zones)) ≡ true → AreZoneNames (zones_in value) × (zones ++ name ∷ [] ≡ zones_in value)
zones_end value rest zones name read end is new =
    let are : zones_in value ≡ zones ++ name ∷ [] = read.are ∙ ap (λ zs. zones ++ zs) (last_zone rest end) ∙ ap (λ n. zones ++ n ∷ []) (sym is) in
    let names : AreZoneNames (zones ++ name ∷ []) = record {
      form = form_more zones name read.form (and_parts _ _ new).0;
      distinct = distinct_more zones name read.distinct (not-true _ (and_parts _ _ new).1);
    } in
    (subst AreZoneNames (sym are) names, sym are)

pub zones_bad : (value rest : List ℕ) (zones : List (List ℕ)) (name : List ℕ) → ZonesRead value rest zones → name ≡ zone (take (place 44 rest) rest) → (is_tag_name name && not (is_among name zones)) ≡ false → ¬ (AreZoneNames (zones_in value))
zones_bad value rest zones name read is old names =
    let first = first_zone rest in
    let are : zones_in value ≡ zones ++ name ∷ first.0 = read.are ∙ ap (λ zs. zones ++ zs) first.1 ∙ ap (λ n. zones ++ n ∷ first.0) (sym is) in
    elim (and_cases (is_tag_name name) (not (is_among name zones)) old) [
      | inl other ↦ (let form : (list_all is_tag_name zones && (is_tag_name name && list_all is_tag_name first.0)) ≡ true = sym (list_all-append is_tag_name zones (name ∷ first.0)) ∙ ap (list_all is_tag_name) (sym are) ∙ names.form in
          true≢false (sym ((and_parts (is_tag_name name) (list_all is_tag_name first.0) ((and_parts (list_all is_tag_name zones) _ form).1)).0) ∙ other))
      | inr twice ↦ not_distinct zones first.0 name (not-false _ twice) (subst AreDistinct are names.distinct)
    ]

-- a set without names, and one with one more
pub names_none : (set : BTreeSet (List ℕ)) → set.keys ≡ [] → HasNames set []
names_none set empty name = ap (list_any (λ k. is_eq (slice_cmp nat_cmp name k))) empty

one_more : (b x : Bool) → cond b true x ≡ (x || (b || false))
one_more true true = refl
one_more true false = refl
one_more false true = refl
one_more false false = refl

names_more : (old new : BTreeSet (List ℕ)) (zones : List (List ℕ)) (name : List ℕ) → HasNames old zones → ((q : List ℕ) → contains (slice_cmp nat_cmp) new q ≡ cond (is_eq (slice_cmp nat_cmp name q)) true (contains (slice_cmp nat_cmp) old q)) → HasNames new (zones ++ name ∷ [])
names_more old new zones name has more q =
    more q
    ∙ ap (λ b. cond b true (contains (slice_cmp nat_cmp) old q)) (is_eq-slice_cmp name q)
    ∙ ap (cond (bytes_eq name q) true) (has q)
    ∙ one_more (bytes_eq name q) (is_among q zones)
    ∙ sym (list_any-append (λ other. bytes_eq other q) zones (name ∷ []))

-- a tag's name that was taken into the set
pub zone_taken : (old new : BTreeSet (List ℕ)) (zones : List (List ℕ)) (name : List ℕ) (answer : Bool) → HasNames old zones → is_tag_name name ≡ true → answer ≡ not (contains (slice_cmp nat_cmp) old name) → ((q : List ℕ) → contains (slice_cmp nat_cmp) new q ≡ cond (is_eq (slice_cmp nat_cmp name q)) true (contains (slice_cmp nat_cmp) old q)) → (answer ≡ (is_tag_name name && not (is_among name zones))) × (answer ≡ true → HasNames new (zones ++ name ∷ []))
zone_taken old new zones name answer has tag is more =
    (is ∙ ap not (has name) ∙ ap (λ b. b && not (is_among name zones)) (sym tag), λ _. names_more old new zones name has more)
