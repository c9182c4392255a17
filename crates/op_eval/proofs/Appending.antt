-- What is appended by several calls, and what nodes find that are made of others.
use Rattle.std.proofs.Common.{◌≡◌, ℕ, Bool, true, false, cond, List, [], ◌∷◌, ◌++◌, length, take, refl, sym, ◌∙◌, ap, subst, append_assoc, append-nil, inl, inr, arith}
use Rattle.std.specs.Prelude.{◌&&◌, ◌||◌, ◌==◌, not}
use Rattle.std.specs.List.{filter, flat_map, list_all, list_any}
use Rattle.std.proofs.lemmas.Bool.{cases_Bool, cond-true, cond-false, and_from, ne_eqb, true≢false}
use Rattle.std.proofs.lemmas.List.{take_at}
use Rattle.std.proofs.lemmas.List.Concat.{flat_map-append}
use Rattle.std.proofs.lemmas.List.Elements.{filter_agree}
use Rattle.std.proofs.lemmas.List.Folds.{list_all-append, list_any-append}
use Rattle.doc_types.specs.declared.hits.Hit.{Hit}
use Rattle.occ_lists.specs.declared.occ.Occ.{Occ}
use Rattle.occ_lists.specs.Places.{holds}
use Rattle.occ_lists.specs.Joined.{before, is_near, hull, same_field, ends_before, crosses}
use Rattle.occ_lists.specs.OccLists.{SameMembers}
use Rattle.occ_lists.specs.Terms.{CoverAlike}
use Rattle.occ_lists.proofs.Members.{same_refl, same_is, same_trans, same_append, same_filter, same_pairs, same_empty}
use Rattle.op_eval.specs.declared.finding.Finding.{Finding}
use Rattle.op_eval.specs.declared.joining.Join.{Join}
use Rattle.op_eval.specs.declared.joining.Join.TheVariants as joins
use Rattle.word_rows.specs.declared.marks.RowMarks.{RowMarks}
use Rattle.op_eval.specs.Finding.{Found, Part, nothing, is_some, is_inside, made, joined, either, perhaps, passes, all_of, any_of}
use Rattle.op_eval.specs.steps.Evaluating.{Appends, Finds, Holds, join_by, part_occs, part_hits, part_finds}

-- ---- lists

module _ {X : Type 0} where
  pub appends_is : (old new found : List X) → new ≡ old ++ found → Appends old new found
  appends_is old new found is = record { added = found; is = is; same = same_refl found }

  pub appends_none : (old : List X) → Appends old old []
  appends_none old = appends_is old old [] (sym (append-nil old))

  pub appends_same : (old new found other : List X) → Appends old new found → SameMembers found other → Appends old new other
  appends_same old new found other a same = record { added = a.added; is = a.is; same = same_trans a.added found other a.same same }

  pub appends_then : (old mid new found other : List X) → Appends old mid found → Appends mid new other → Appends old new (found ++ other)
  appends_then old mid new found other a b = record {
    added = a.added ++ b.added;
    is = b.is ∙ ap (λ xs. xs ++ b.added) a.is ∙ append_assoc old a.added b.added;
    same = same_append a.added found b.added other a.same b.same;
  }

  -- to an empty list
  pub appends_fresh : (old new found : List X) → old ≡ [] → Appends old new found → SameMembers new found
  appends_fresh old new found none a = same_trans new a.added found (same_is new a.added (a.is ∙ ap (λ xs. xs ++ a.added) none)) a.same

  -- what was appended goes
  pub appends_cut : (old new found : List X) → Appends old new found → take (length old) new ≡ old
  appends_cut old new found a = ap (take (length old)) a.is ∙ take_at old a.added (length old) refl

  pub is_some_any : (xs : List X) → is_some xs ≡ list_any (λ (x : X). true) xs
  is_some_any [] = refl
  is_some_any (x ∷ xs) = refl

-- ---- what is made of occurrences

-- the same places are held
abbrev pub HoldAlike : List Occ → List Occ → Type 0
HoldAlike occs other = (place : ℕ × ℕ) → list_any (λ o. holds o place) occs ≡ list_any (λ o. holds o place) other

pub inside_alike : (occs other : List Occ) → HoldAlike occs other → (hits : List Hit) → filter (is_inside occs) hits ≡ filter (is_inside other) hits
inside_alike occs other alike hits = filter_agree (is_inside occs) (is_inside other) (λ hit. alike (hit.field, hit.position)) hits

-- by occurrences that are those, and by others that hold the same places and are none where those are none
pub made_found : {short : Type 0} (occs added cover : List Occ) (hits : List Hit) (old new : Finding) (told : Bool) → SameMembers added occs → HoldAlike cover occs → list_any (λ o. true) cover ≡ list_any (λ o. true) occs
    → told ≡ is_some cover → new.occs.items ≡ old.occs.items ++ added → (short → new.hits.items ≡ old.hits.items ++ filter (is_inside cover) hits) → Finds short (made occs hits) old new told
made_found occs added cover hits old new told same alike some is put_occs put_hits = record {
  matches = is ∙ is_some_any cover ∙ some ∙ sym (is_some_any occs);
  occurrences = record { added = added; is = put_occs; same = same };
  hits = λ short. appends_is old.hits.items new.hits.items (filter (is_inside occs) hits) (put_hits short ∙ ap (λ list. old.hits.items ++ list) (inside_alike cover occs alike hits));
}

-- others that were put into an empty list
pub cover_alike : (old new occs : List Occ) → old ≡ [] → CoverAlike old new occs → HoldAlike new occs × (list_any (λ (o : Occ). true) new ≡ list_any (λ (o : Occ). true) occs)
cover_alike old new occs none c =
    let is : new ≡ c.added = c.is ∙ ap (λ list. list ++ c.added) none in
    (λ place. ap (list_any (λ (o : Occ). holds o place)) is ∙ c.holds place, ap (list_any (λ (o : Occ). true)) is ∙ c.some)

-- a list by its length
pub not_empty : {X : Type 0} (empty : Bool) (n : ℕ) (xs : List X) → n ≡ length xs → empty ≡ (n == 0) → not empty ≡ is_some xs
not_empty empty n [] long is = ap not (is ∙ ap (λ m. m == 0) long)
not_empty empty n (x ∷ xs) long is = ap not (is ∙ ap (λ m. m == 0) long ∙ ne_eqb (length (x ∷ xs)) 0 (λ e. absurd (omega (arith, e))))

nothing_inside : (hits : List Hit) → filter (is_inside []) hits ≡ []
nothing_inside [] = refl
nothing_inside (hit ∷ hits) = nothing_inside hits

-- of no occurrences
pub made_none : {short : Type 0} (occs : List Occ) (hits : List Hit) (old : Finding) → occs ≡ [] → Finds short (made occs hits) old old false
made_none {short} occs hits old none =
    subst (λ (list : List Occ). Finds short (made list hits) old old false) (sym none) (record {
      matches = refl;
      occurrences = appends_none old.occs.items;
      hits = λ is. subst (Appends old.hits.items old.hits.items) (sym (nothing_inside hits)) (appends_none old.hits.items);
    })

-- a list with these members, by its length
pub empty_same : {X : Type 0} (n : ℕ) (xs ys : List X) → n ≡ length xs → (n == 0) ≡ true → SameMembers xs ys → ys ≡ []
empty_same n [] ys long is same = same_empty [] ys same refl
empty_same n (x ∷ xs) ys long is same = absurd (true≢false (sym is ∙ ap (λ m. m == 0) long ∙ ne_eqb (length (x ∷ xs)) 0 (λ e. absurd (omega (arith, e)))))

pub made_same : {short : Type 0} (occs other : List Occ) (hits more : List Hit) (old new : Finding) (told : Bool) → SameMembers occs other → (short → SameMembers hits more) → Finds (Unit {0}) (made occs hits) old new told → Finds short (made other more) old new told
made_same occs other hits more old new told same hit f = record {
  matches = f.matches ∙ is_some_any occs ∙ same (λ o. true) ∙ sym (is_some_any other);
  occurrences = appends_same old.occs.items new.occs.items occs other f.occurrences same;
  hits = λ short. appends_same old.hits.items new.hits.items (filter (is_inside occs) hits) (filter (is_inside other) more) (f.hits tt)
      (same_trans (filter (is_inside occs) hits) (filter (is_inside other) hits) (filter (is_inside other) more)
      (same_is (filter (is_inside occs) hits) (filter (is_inside other) hits) (inside_alike occs other (λ place. same (λ o. holds o place)) hits))
      (same_filter (is_inside other) hits more (hit short)));
}

pub join_same : (marks : RowMarks) (join : Join) (xs xs' ys ys' : List Occ) → SameMembers xs xs' → SameMembers ys ys' → SameMembers (join_by marks join xs ys) (join_by marks join xs' ys')
join_same marks joins.Before xs xs' ys ys' first second = same_pairs (λ x y. same_field x y && ends_before x y) (λ x y. record { field = x.field; first = x.first; last = y.last }) xs xs' ys ys' first second
join_same marks (joins.Near n) xs xs' ys ys' first second = same_pairs (λ x y. same_field x y && (is_near n x y || is_near n y x)) hull xs xs' ys ys' first second
join_same marks joins.Sentence xs xs' ys ys' first second = same_pairs (λ x y. same_field x y && not (crosses marks.sentences.items (hull x y))) hull xs xs' ys ys' first second
join_same marks joins.Paragraph xs xs' ys ys' first second = same_pairs (λ x y. same_field x y && not (crosses marks.paragraphs.items (hull x y))) hull xs xs' ys ys' first second

-- by lists that hold what two nodes find
pub finds_joined : {short : Type 0} (marks : RowMarks) (join : Join) (first second : Finding) (a b : Found) (old new : Finding) (told : Bool)
    → Finds (Unit {0}) (made (join_by marks join first.occs.items second.occs.items) (first.hits.items ++ second.hits.items)) old new told → Holds short a first → Holds short b second → Finds short (joined (join_by marks join) a b) old new told
finds_joined marks join first second a b old new told f left right =
    made_same (join_by marks join first.occs.items second.occs.items) (join_by marks join a.occurrences b.occurrences) (first.hits.items ++ second.hits.items) (a.hits ++ b.hits) old new told
    (join_same marks join first.occs.items a.occurrences second.occs.items b.occurrences left.occurrences right.occurrences)
    (λ short. same_append first.hits.items a.hits second.hits.items b.hits (left.hits short) (right.hits short))
    f

-- ---- what is found

pub finds_is : {short : Type 0} (found other : Found) (old new : Finding) (told : Bool) → found ≡ other → Finds short found old new told → Finds short other old new told
finds_is {short} found other old new told is f = subst (λ (g : Found). Finds short g old new told) is f

-- under another premise
pub finds_when : {short other : Type 0} (found : Found) (old new : Finding) (told : Bool) → (other → short) → Finds short found old new told → Finds other found old new told
finds_when found old new told so f = record { matches = f.matches; occurrences = f.occurrences; hits = λ is. f.hits (so is) }

-- what is found where a test passes, or nothing
pub chosen : (b : Bool) (found : Found) → found.matches ≡ true → (cond b found nothing).matches ≡ b
chosen true found is = is
chosen false found is = refl

module _ {short : Type 0} (a b : Found) (old mid new : Finding) (first second : Bool) where
  pub finds_either : Finds short a old mid first → Finds short b mid new second → Finds short (either a b) old new (first || second)
  finds_either f g = record {
    matches = ap (λ t. t || second) f.matches ∙ ap (λ t. a.matches || t) g.matches;
    occurrences = appends_then old.occs.items mid.occs.items new.occs.items a.occurrences b.occurrences f.occurrences g.occurrences;
    hits = λ is. appends_then old.hits.items mid.hits.items new.hits.items a.hits b.hits (f.hits is) (g.hits is);
  }

  pub finds_perhaps : Finds short a old mid first → first ≡ true → Finds short b mid new second → Finds short (perhaps a b) old new first
  finds_perhaps f is_true g =
      let both : Finds short (either a b) old new (first || second) = finds_either f g in
      finds_is (either a b) (perhaps a b) old new first (sym (cond-true a.matches (either a b) nothing (sym f.matches ∙ is_true))) (record {
        matches = is_true ∙ sym (ap (λ t. t || second) is_true) ∙ both.matches;
        occurrences = both.occurrences;
        hits = both.hits;
      })

-- where the first doesn't match, and so finds nothing
pub finds_hardly : {short : Type 0} (a b : Found) (old new : Finding) (told : Bool) → (a.matches ≡ false → a ≡ nothing) → Finds short a old new told → told ≡ false → Finds short (perhaps a b) old new told
finds_hardly a b old new told sound f is_false =
    let none : a.matches ≡ false = sym f.matches ∙ is_false in
    finds_is a (perhaps a b) old new told (sound none ∙ sym (cond-false a.matches (either a b) nothing none)) f

-- ---- some of these

pub finds_none : {short : Type 0} (old : Finding) → Finds short (any_of []) old old false
finds_none old = record { matches = refl; occurrences = appends_none old.occs.items; hits = λ is. appends_none old.hits.items }

-- some of these, or of those
pub finds_both : {short : Type 0} (founds more : List Found) (old mid new : Finding) (some told : Bool) → Finds short (any_of founds) old mid some → Finds short (any_of more) mid new told → Finds short (any_of (founds ++ more)) old new (some || told)
finds_both founds more old mid new some told before next =
    finds_is (either (any_of founds) (any_of more)) (any_of (founds ++ more)) old new (some || told)
    (ap (λ (b : Bool). record { matches = b; occurrences = (any_of founds).occurrences ++ (any_of more).occurrences; hits = (any_of founds).hits ++ (any_of more).hits }) (sym (list_any-append (λ (g : Found). g.matches) founds more))
    ∙ ap (λ (occs : List Occ). record { matches = (any_of (founds ++ more)).matches; occurrences = occs; hits = (any_of founds).hits ++ (any_of more).hits }) (sym (flat_map-append (λ (g : Found). g.occurrences) founds more))
    ∙ ap (λ (hits : List Hit). record { matches = (any_of (founds ++ more)).matches; occurrences = (any_of (founds ++ more)).occurrences; hits = hits }) (sym (flat_map-append (λ (g : Found). g.hits) founds more)))
    (finds_either (any_of founds) (any_of more) old mid new some told before next)

-- ---- items of an AND

-- these parts pass, and what they add was appended
pub record Passed (short : Type 0) (parts : List Part) (old new : Finding) : Type 0 where
  pub all : list_all passes parts ≡ true
  pub occurrences : Appends old.occs.items new.occs.items (flat_map part_occs parts)
  pub hits : short → Appends old.hits.items new.hits.items (flat_map part_hits parts)

pub passed_none : {short : Type 0} (old : Finding) → Passed short [] old old
passed_none old = record { all = refl; occurrences = appends_none old.occs.items; hits = λ is. appends_none old.hits.items }

one_more : {X Y : Type 0} (f : X → List Y) (xs : List X) (x : X) → flat_map f xs ++ f x ≡ flat_map f (xs ++ x ∷ [])
one_more f xs x = sym (flat_map-append f xs (x ∷ []) ∙ ap (λ ys. flat_map f xs ++ ys) (append-nil (f x)))

module _ {short : Type 0} (parts : List Part) (part : Part) (old mid new : Finding) (told : Bool) where
  then_occs : Passed short parts old mid → Finds short (part_finds part) mid new told → Appends old.occs.items new.occs.items (flat_map part_occs (parts ++ part ∷ []))
  then_occs p f = subst (λ (xs : List Occ). Appends old.occs.items new.occs.items xs) (one_more part_occs parts part)
      (appends_then old.occs.items mid.occs.items new.occs.items (flat_map part_occs parts) (part_occs part) p.occurrences f.occurrences)

  then_hits : Passed short parts old mid → Finds short (part_finds part) mid new told → short → Appends old.hits.items new.hits.items (flat_map part_hits (parts ++ part ∷ []))
  then_hits p f is = subst (λ (xs : List Hit). Appends old.hits.items new.hits.items xs) (one_more part_hits parts part)
      (appends_then old.hits.items mid.hits.items new.hits.items (flat_map part_hits parts) (part_hits part) (p.hits is) (f.hits is))

  pub passed_more : Passed short parts old mid → Finds short (part_finds part) mid new told → told ≡ true → Passed short (parts ++ part ∷ []) old new
  passed_more p f is_true = record {
    all = list_all-append passes parts (part ∷ []) ∙ and_from (list_all passes parts) (passes part && true) p.all (and_from (passes part) true (sym f.matches ∙ is_true) refl);
    occurrences = then_occs p f;
    hits = then_hits p f;
  }

kept_occs : (parts : List Part) → flat_map part_occs parts ≡ flat_map (λ (part : Part). part.found.occurrences) (filter (λ (part : Part). not part.negated) parts)
kept_occs [] = refl
kept_occs (part ∷ parts) = elim (cases_Bool part.negated) [
  | inl is_true ↦
      ap (λ t. cond t [] part.found.occurrences ++ flat_map part_occs parts) is_true
      ∙ kept_occs parts
      ∙ ap (λ t. flat_map (λ (p : Part). p.found.occurrences) (cond (not t) (part ∷ filter (λ (p : Part). not p.negated) parts) (filter (λ (p : Part). not p.negated) parts))) (sym is_true)
  | inr is_false ↦
      ap (λ t. cond t [] part.found.occurrences ++ flat_map part_occs parts) is_false
      ∙ ap (λ xs. part.found.occurrences ++ xs) (kept_occs parts)
      ∙ ap (λ t. flat_map (λ (p : Part). p.found.occurrences) (cond (not t) (part ∷ filter (λ (p : Part). not p.negated) parts) (filter (λ (p : Part). not p.negated) parts))) (sym is_false)
]

kept_hits : (parts : List Part) → flat_map part_hits parts ≡ flat_map (λ (part : Part). part.found.hits) (filter (λ (part : Part). not part.negated) parts)
kept_hits [] = refl
kept_hits (part ∷ parts) = elim (cases_Bool part.negated) [
  | inl is_true ↦
      ap (λ t. cond t [] part.found.hits ++ flat_map part_hits parts) is_true
      ∙ kept_hits parts
      ∙ ap (λ t. flat_map (λ (p : Part). p.found.hits) (cond (not t) (part ∷ filter (λ (p : Part). not p.negated) parts) (filter (λ (p : Part). not p.negated) parts))) (sym is_true)
  | inr is_false ↦
      ap (λ t. cond t [] part.found.hits ++ flat_map part_hits parts) is_false
      ∙ ap (λ xs. part.found.hits ++ xs) (kept_hits parts)
      ∙ ap (λ t. flat_map (λ (p : Part). p.found.hits) (cond (not t) (part ∷ filter (λ (p : Part). not p.negated) parts) (filter (λ (p : Part). not p.negated) parts))) (sym is_false)
]

-- what all of them find
abbrev together_found : List Part → Found
together_found parts = record {
  matches = true;
  occurrences = flat_map (λ (part : Part). part.found.occurrences) (filter (λ (part : Part). not part.negated) parts);
  hits = flat_map (λ (part : Part). part.found.hits) (filter (λ (part : Part). not part.negated) parts);
}

pub passed_all : {short : Type 0} (parts : List Part) (old new : Finding) → Passed short parts old new → Finds short (all_of parts) old new true
passed_all parts old new p = finds_is (together_found parts) (all_of parts) old new true (sym (cond-true (list_all passes parts) (together_found parts) nothing p.all)) (record {
  matches = refl;
  occurrences = subst (λ (xs : List Occ). Appends old.occs.items new.occs.items xs) (kept_occs parts) p.occurrences;
  hits = λ is. subst (λ (xs : List Hit). Appends old.hits.items new.hits.items xs) (kept_hits parts) (p.hits is);
})

-- one that doesn't pass, after others that do: what was appended goes
pub passed_fails : {short : Type 0} (parts rest : List Part) (part : Part) (old mid new cut : Finding) (told : Bool) → Passed short parts old mid → Finds short (part_finds part) mid new told → told ≡ false
    → cut.occs.items ≡ take (length old.occs.items) new.occs.items → cut.hits.items ≡ take (length old.hits.items) new.hits.items → Finds short (all_of (parts ++ part ∷ rest)) old cut false
passed_fails parts rest part old mid new cut told p f is_false occs hits =
    let fails : list_all passes (parts ++ part ∷ rest) ≡ false =
    list_all-append passes parts (part ∷ rest) ∙ ap (λ t. t && (passes part && list_all passes rest)) p.all ∙ ap (λ t. t && list_all passes rest) (sym f.matches ∙ is_false) in
    finds_is nothing (all_of (parts ++ part ∷ rest)) old cut false (sym (cond-false (list_all passes (parts ++ part ∷ rest)) (together_found (parts ++ part ∷ rest)) nothing fails)) (record {
      matches = refl;
      occurrences = appends_is old.occs.items cut.occs.items [] (occs ∙ appends_cut old.occs.items new.occs.items (flat_map part_occs (parts ++ part ∷ [])) (then_occs parts part old mid new told p f) ∙ sym (append-nil old.occs.items));
      hits = λ is. appends_is old.hits.items cut.hits.items [] (hits ∙ appends_cut old.hits.items new.hits.items (flat_map part_hits (parts ++ part ∷ [])) (then_hits parts part old mid new told p f is) ∙ sym (append-nil old.hits.items));
    })
