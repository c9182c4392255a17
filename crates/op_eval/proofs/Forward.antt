-- Occurrences that don't end before they begin: those at places, runs, windows, and what operators make of such ones.
use Rattle.std.proofs.Common.{◌≡◌, ℕ, ◌<◌, ◌≤◌, Bool, true, false, cond, List, [], ◌∷◌, length, get_or, map, refl, sym, ◌∙◌, subst, arith}
use Rattle.std.specs.Prelude.{◌+◌, ◌&&◌, ◌||◌, not, nat_le, All}
use Rattle.std.specs.List.{filter, flat_map, list_all}
use Rattle.std.proofs.lemmas.Bool.{and_parts, and_from, ltb-true, leb-true, le-leb}
use Rattle.std.proofs.lemmas.List.Elements.{All-nil, All-cons, All-head, All-tail, All-append, All-map, All-filter, filter_passes}
use Rattle.query_tree.specs.declared.key.How.{How}
use Rattle.query_tree.specs.declared.key.How.TheVariants as hows
use Rattle.occ_lists.specs.declared.occ.Occ.{Occ}
use Rattle.occ_lists.specs.declared.term.Term.{Term}
use Rattle.occ_lists.specs.Places.{at_place, occ}
use Rattle.occ_lists.specs.Joined.{pairs, before, is_near, hull, same_field, ends_before, crosses}
use Rattle.occ_lists.specs.OccLists.{SameMembers}
use Rattle.occ_lists.specs.Runs.{runs, follow}
use Rattle.occ_lists.specs.Windows.{Listed, windows, holds_all, all_places, may_reach}
use Rattle.occ_lists.specs.Sound.{IsForward}
use Rattle.occ_lists.specs.Terms.{listed_in}
use Rattle.occ_lists.proofs.Members.{same_all}
use Rattle.word_rows.proofs.Lists.{all_flat_map}
use Rattle.op_eval.specs.declared.joining.Join.{Join}
use Rattle.op_eval.specs.declared.joining.Join.TheVariants as joins
use Rattle.word_rows.specs.declared.marks.RowMarks.{RowMarks}
use Rattle.op_eval.specs.declared.finding.Finding.{Finding}
use Rattle.word_rows.specs.Keywords.{Spans}
use Rattle.op_eval.specs.Finding.{Found, is_enough, nothing}
use Rattle.op_eval.specs.steps.Worded.{at_each, how_many, quoted_by, term_places}
use Rattle.op_eval.specs.steps.Evaluating.{Finds, join_by}

-- ---- by a test
abbrev is_forward : Occ → Bool
is_forward o = nat_le o.first o.last

passed : (xs : List Occ) → All IsForward xs → list_all is_forward xs ≡ true
passed [] all = refl
passed (x ∷ xs) all = and_from (is_forward x) (list_all is_forward xs) (le-leb x.first x.last (All-head IsForward x xs all)) (passed xs (All-tail IsForward x xs all))

from_passed : (xs : List Occ) → list_all is_forward xs ≡ true → All IsForward xs
from_passed [] all = All-nil IsForward
from_passed (x ∷ xs) all =
    let both = and_parts (is_forward x) (list_all is_forward xs) all in
    All-cons IsForward x xs (leb-true x.first x.last both.0) (from_passed xs both.1)

pub forward_same : (xs ys : List Occ) → SameMembers xs ys → All IsForward ys → All IsForward xs
forward_same xs ys same all = from_passed xs (same_all is_forward xs ys same ∙ passed ys all)

-- ---- lists that are made of others
-- what is made of elements that pass
all_made : {X Y : Type 0} (P : Y → Type 0) (q : X → Bool) (f : X → Y) (xs : List X) → ((x : X) → q x ≡ true → P (f x)) → All P (map f (filter q xs))
all_made P q f xs each = All-map P f (filter q xs) (λ k d h. each (get_or (filter q xs) k d) (filter_passes q xs k d h))

all_pairs : (goes : Occ → Occ → Bool) (make : Occ → Occ → Occ) → ((x y : Occ) → IsForward x → IsForward y → goes x y ≡ true → IsForward (make x y)) → (xs ys : List Occ) → All IsForward xs → All IsForward ys → All IsForward (pairs goes make xs ys)
all_pairs goes make each [] ys left right = All-nil IsForward
all_pairs goes make each (x ∷ xs) ys left right =
    All-append IsForward (map (make x) (filter (goes x) ys)) (pairs goes make xs ys)
    (All-map IsForward (make x) (filter (goes x) ys) (λ k d h.
    each x (get_or (filter (goes x) ys) k d) (All-head IsForward x xs left) (All-filter (goes x) IsForward ys right k d h) (filter_passes (goes x) ys k d h)))
    (all_pairs goes make each xs ys (All-tail IsForward x xs left) right)

-- ---- keywords
pub forward_places : (places : List (ℕ × ℕ)) → All IsForward (map at_place places)
forward_places places = All-map IsForward at_place places (λ k d h. omega arith)

pub forward_runs : (lists : List (List (ℕ × ℕ))) → All IsForward (runs lists)
forward_runs [] = All-nil IsForward
forward_runs (first ∷ rest) = all_made IsForward (λ p. follow p rest) (λ p. occ p.0 p.1 (p.1 + length rest)) first (λ p h. omega arith)

reached : (n : ℕ) (listed : List Listed) (from to : ℕ × ℕ) → may_reach n listed from to ≡ true → from.1 ≤ to.1
reached n listed from to reaches = leb-true from.1 to.1 (and_parts _ _ (and_parts _ _ reaches).1).0

pub forward_windows : (n : ℕ) (listed : List Listed) → All IsForward (windows n listed)
forward_windows n listed =
    All-filter (holds_all listed) IsForward
    (flat_map (λ from. map (λ to. occ from.0 from.1 to.1) (filter (may_reach n listed from) (all_places listed))) (all_places listed))
    (all_flat_map IsForward (λ from. map (λ to. occ from.0 from.1 to.1) (filter (may_reach n listed from) (all_places listed))) (all_places listed) (λ k d h. reach (get_or (all_places listed) k d)))
  where
    reach : (from : ℕ × ℕ) → All IsForward (map (λ to. occ from.0 from.1 to.1) (filter (may_reach n listed from) (all_places listed)))
    reach from =
        all_made IsForward (may_reach n listed from) (λ to. occ from.0 from.1 to.1) (all_places listed) (λ to reaches. reached n listed from to reaches)

-- ---- operators
forward_hull : (x y : Occ) → IsForward x → IsForward y → IsForward (hull x y)
forward_hull x y left right = omega arith

pub forward_joined : (marks : RowMarks) (join : Join) (xs ys : List Occ) → All IsForward xs → All IsForward ys → All IsForward (join_by marks join xs ys)
forward_joined marks joins.Before xs ys left right =
    all_pairs (λ x y. same_field x y && ends_before x y) (λ x y. occ x.field x.first y.last)
    (λ x y a b h. let between : x.last < y.first = ltb-true x.last y.first (and_parts (same_field x y) (ends_before x y) h).1 in omega (arith, a, b)) xs ys left right
forward_joined marks (joins.Near n) xs ys left right = all_pairs (λ x y. same_field x y && (is_near n x y || is_near n y x)) hull (λ x y a b h. forward_hull x y a b) xs ys left right
forward_joined marks joins.Sentence xs ys left right =
    all_pairs (λ x y. same_field x y && not (crosses marks.sentences.items (hull x y))) hull (λ x y a b h. forward_hull x y a b) xs ys left right
forward_joined marks joins.Paragraph xs ys left right =
    all_pairs (λ x y. same_field x y && not (crosses marks.paragraphs.items (hull x y))) hull (λ x y a b h. forward_hull x y a b) xs ys left right

-- ---- what is appended
pub finds_forward : {short : Type 0} (found : Found) (old new : Finding) (told : Bool) → All IsForward old.occs.items → All IsForward found.occurrences → Finds short found old new told → All IsForward new.occs.items
finds_forward found old new told before all f =
    subst (λ (list : List Occ). All IsForward list) (sym f.occurrences.is)
    (All-append IsForward old.occs.items f.occurrences.added before (forward_same f.occurrences.added found.occurrences f.occurrences.same all))

forward_if : (enough : Bool) (spans : Spans) (terms : List Term) → All IsForward (cond enough (at_each spans terms true) nothing).occurrences
forward_if true spans terms = forward_places (flat_map (term_places spans) terms)
forward_if false spans terms = All-nil IsForward

pub forward_quoted : (spans : Spans) (terms : List Term) (how : How) → All IsForward (quoted_by spans terms how).occurrences
forward_quoted spans terms hows.Phrase = forward_runs (map (term_places spans) terms)
forward_quoted spans terms (hows.Within n) = forward_windows n (listed_in spans terms)
forward_quoted spans terms (hows.AtLeast n) = forward_if (is_enough (hows.AtLeast n) (length terms) (how_many spans terms)) spans terms
forward_quoted spans terms (hows.Share digits places) = forward_if (is_enough (hows.Share digits places) (length terms) (how_many spans terms)) spans terms
