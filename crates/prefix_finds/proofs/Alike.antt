-- Findings that are the same, through the operators.
use Rattle.std.proofs.Common.{◌≡◌, ℕ, List, [], ◌∷◌, ◌++◌, Bool, true, false, cond, ◌&&◌, ◌||◌, not, map, refl, sym, ap, ◌∙◌}
use Rattle.std.specs.List.{filter, flat_map, list_all, list_any}
use Rattle.doc_types.specs.declared.hits.Hit.{Hit}
use Rattle.occ_lists.specs.declared.occ.Occ.{Occ}
use Rattle.occ_lists.specs.Joined.{before, crosses, ends_before, hull, is_near, near, same_field, together}
use Rattle.occ_lists.specs.OccLists.{SameMembers}
use Rattle.occ_lists.specs.Places.{holds, occ}
use Rattle.occ_lists.proofs.Members.{same_append, same_filter, same_is, same_pairs, same_refl, same_sym, same_trans}
use Rattle.op_eval.specs.Finding.{Found, Part, all_of, any_of, either, is_inside, is_some, joined, made, nothing, passes, perhaps}
use Rattle.op_eval.proofs.Appending.{inside_alike, is_some_any}
use Rattle.prefix_finds.specs.Same.{IsSame}

pub alike_itself : (found : Found) → IsSame found found
alike_itself found = record { matches = refl; occurrences = same_refl found.occurrences; hits = same_refl found.hits }

pub alike_is : (found other : Found) → found ≡ other → IsSame found other
alike_is found other is = record { matches = ap (λ (f : Found). f.matches) is; occurrences = same_is found.occurrences other.occurrences (ap (λ (f : Found). f.occurrences) is); hits = same_is found.hits other.hits (ap (λ (f : Found). f.hits) is) }

pub alike_back : (found other : Found) → IsSame found other → IsSame other found
alike_back found other same = record { matches = sym same.matches; occurrences = same_sym found.occurrences other.occurrences same.occurrences; hits = same_sym found.hits other.hits same.hits }

pub alike_through : (a b c : Found) → IsSame a b → IsSame b c → IsSame a c
alike_through a b c one two = record {
  matches = one.matches ∙ two.matches;
  occurrences = same_trans a.occurrences b.occurrences c.occurrences one.occurrences two.occurrences;
  hits = same_trans a.hits b.hits c.hits one.hits two.hits;
}

made_alike : (occs other : List Occ) (hits more : List Hit) → SameMembers occs other → SameMembers hits more → IsSame (made occs hits) (made other more)
made_alike occs other hits more same hit = record {
  matches = is_some_any occs ∙ same (λ o. true) ∙ sym (is_some_any other);
  occurrences = same;
  hits = same_trans (filter (is_inside occs) hits) (filter (is_inside other) hits) (filter (is_inside other) more)
      (same_is (filter (is_inside occs) hits) (filter (is_inside other) hits) (inside_alike occs other (λ place. same (λ o. holds o place)) hits))
      (same_filter (is_inside other) hits more hit);
}

-- an operator that makes the same of the same
abbrev pub Keeps : (List Occ → List Occ → List Occ) → Type 0
Keeps join = (xs xs' ys ys' : List Occ) → SameMembers xs xs' → SameMembers ys ys' → SameMembers (join xs ys) (join xs' ys')

pub before_keeps : Keeps before
before_keeps xs xs' ys ys' first second = same_pairs (λ x y. same_field x y && ends_before x y) (λ x y. occ x.field x.first y.last) xs xs' ys ys' first second

pub near_keeps : (n : ℕ) → Keeps (near n)
near_keeps n xs xs' ys ys' first second = same_pairs (λ x y. same_field x y && (is_near n x y || is_near n y x)) hull xs xs' ys ys' first second

pub together_keeps : (ends : List (ℕ × ℕ)) → Keeps (together ends)
together_keeps ends xs xs' ys ys' first second = same_pairs (λ x y. same_field x y && not (crosses ends (hull x y))) hull xs xs' ys ys' first second

pub joined_alike : (join : List Occ → List Occ → List Occ) (a b c d : Found) → Keeps join → IsSame a c → IsSame b d → IsSame (joined join a b) (joined join c d)
joined_alike join a b c d keeps one two =
    made_alike (join a.occurrences b.occurrences) (join c.occurrences d.occurrences) (a.hits ++ b.hits) (c.hits ++ d.hits)
    (keeps a.occurrences c.occurrences b.occurrences d.occurrences one.occurrences two.occurrences)
    (same_append a.hits c.hits b.hits d.hits one.hits two.hits)

pub either_alike : (a b c d : Found) → IsSame a c → IsSame b d → IsSame (either a b) (either c d)
either_alike a b c d one two = record {
  matches = ap (λ m. m || b.matches) one.matches ∙ ap (λ m. c.matches || m) two.matches;
  occurrences = same_append a.occurrences c.occurrences b.occurrences d.occurrences one.occurrences two.occurrences;
  hits = same_append a.hits c.hits b.hits d.hits one.hits two.hits;
}

-- a choice by tests that are equal
chosen_alike : (test other : Bool) (found more : Found) → test ≡ other → IsSame found more → IsSame (cond test found nothing) (cond other more nothing)
chosen_alike true true found more is same = same
chosen_alike false false found more is same = alike_itself nothing
chosen_alike true false found more is same = absurd cc
chosen_alike false true found more is same = absurd cc

pub perhaps_alike : (a b c d : Found) → IsSame a c → IsSame b d → IsSame (perhaps a b) (perhaps c d)
perhaps_alike a b c d one two = chosen_alike a.matches c.matches (either a b) (either c d) one.matches (either_alike a b c d one two)

-- ---- several

-- the items of two ANDs find the same, one by one
abbrev pub AreAlike : List Part → List Part → Type 0
AreAlike [] [] = Unit {0}
AreAlike (part ∷ parts) (other ∷ others) = (part.negated ≡ other.negated) × IsSame part.found other.found × AreAlike parts others
AreAlike _ _ = ⊥

passed_alike : (part other : Part) → part.negated ≡ other.negated → IsSame part.found other.found → passes part ≡ passes other
passed_alike part other is same = ap (λ n. cond n (not part.found.matches) part.found.matches) is ∙ ap (λ m. cond other.negated (not m) m) same.matches

all_alike : (parts others : List Part) → AreAlike parts others → list_all passes parts ≡ list_all passes others
all_alike [] [] are = refl
all_alike [] (o ∷ os) are = absurd are
all_alike (p ∷ ps) [] are = absurd are
all_alike (p ∷ ps) (o ∷ os) are = ap (λ b. b && list_all passes ps) (passed_alike p o are.0 are.1) ∙ ap (λ b. passes o && b) (all_alike ps os are.2)

-- those of the items that aren't negated
kept_alike : {X : Type 0} (of : Found → List X) (negated other : Bool) (found more : Found) (xs ys : List X) → negated ≡ other → SameMembers (of found) (of more) → SameMembers xs ys → SameMembers (cond (not negated) (of found ++ xs) xs) (cond (not other) (of more ++ ys) ys)
kept_alike of true true found more xs ys is same rest = rest
kept_alike of false false found more xs ys is same rest = same_append (of found) (of more) xs ys same rest
kept_alike of true false found more xs ys is same rest = absurd cc
kept_alike of false true found more xs ys is same rest = absurd cc

flat_cond : {X : Type 0} (of : Part → List X) (b : Bool) (part : Part) (parts : List Part) → flat_map of (cond b (part ∷ parts) parts) ≡ cond b (of part ++ flat_map of parts) (flat_map of parts)
flat_cond of true part parts = refl
flat_cond of false part parts = refl

lists_alike : {X : Type 0} (of : Found → List X) → ((a b : Found) → IsSame a b → SameMembers (of a) (of b)) → (parts others : List Part) → AreAlike parts others
    → SameMembers (flat_map (λ (part : Part). of part.found) (filter (λ (part : Part). not part.negated) parts)) (flat_map (λ (part : Part). of part.found) (filter (λ (part : Part). not part.negated) others))
lists_alike of keeps [] [] are = same_refl []
lists_alike of keeps [] (o ∷ os) are = absurd are
lists_alike of keeps (p ∷ ps) [] are = absurd are
lists_alike {X} of keeps (p ∷ ps) (o ∷ os) are =
    let own : Part → List X = λ (part : Part). of part.found in
    let left : Part → Bool = λ (part : Part). not part.negated in
    let one = flat_cond own (not p.negated) p (filter left ps) in
    let two = flat_cond own (not o.negated) o (filter left os) in
    let both = kept_alike of p.negated o.negated p.found o.found (flat_map own (filter left ps)) (flat_map own (filter left os)) are.0 (keeps p.found o.found are.1) (lists_alike of keeps ps os are.2) in
    λ test. ap (list_any test) one ∙ both test ∙ ap (list_any test) (sym two)

pub and_alike : (parts others : List Part) → AreAlike parts others → IsSame (all_of parts) (all_of others)
and_alike parts others are = chosen_alike (list_all passes parts) (list_all passes others) _ _ (all_alike parts others are) (record {
  matches = refl;
  occurrences = lists_alike (λ (f : Found). f.occurrences) (λ a b same. same.occurrences) parts others are;
  hits = lists_alike (λ (f : Found). f.hits) (λ a b same. same.hits) parts others are;
})

-- what some of these find, each alike
pub any_alike : {X : Type 0} (find other : X → Found) → ((x : X) → IsSame (find x) (other x)) → (xs : List X) → IsSame (any_of (map find xs)) (any_of (map other xs))
any_alike find other each [] = alike_itself (any_of [])
any_alike find other each (x ∷ xs) = either_alike (find x) (any_of (map find xs)) (other x) (any_of (map other xs)) (each x) (any_alike find other each xs)
