-- The windows that are made from place to place are those of the proximity, and the widest of them hold what they hold.
use Rattle.std.proofs.Common.{◌≡◌, ℕ, ◌+◌, ◌-◌, suc, ◌≤◌, Bool, true, false, ◌&&◌, ◌||◌, ◌==◌, List, [], ◌∷◌, ◌++◌, length, drop, get_or, refl, sym, ap, ◌∙◌, arith, All, AllPairs, IsTrue, nat_le, nat_lt, ◌<◌, take}
use Rattle.std.specs.List.{filter, flat_map, list_any}
use Rattle.std.proofs.lemmas.Bool.Decides.{nat_tests}
use Rattle.std.proofs.lemmas.Bool.{and_parts, false≢true}
use Rattle.std.proofs.lemmas.List.Elements.{filter_passes}
use Rattle.std.proofs.lemmas.List.Kept.{AllPairs-filter}
use Rattle.std.proofs.lemmas.List.{flat_map_more, take_all, take_more}
use Rattle.occ_lists.specs.declared.occ.Occ.{Occ}
use Rattle.occ_lists.specs.declared.windows.Proximity.{Proximity}
use Rattle.occ_lists.specs.OccLists.{SameMembers}
use Rattle.occ_lists.specs.Places.{ArePlaces, holds, is_before, occ}
use Rattle.occ_lists.specs.Windows.{Listed, all_places, holds_all, may_reach, windows}
use Rattle.occ_lists.specs.steps.Ends.{IsProximity, IsSorted, ends_at, last_of, made, to_each, widest}
use Rattle.occ_lists.specs.Terms.{CoverAlike}
use Rattle.occ_lists.specs.steps.Wanted.{holds_words}
use Rattle.occ_lists.proofs.Members.{any_alike, any_filter, any_flat_map, any_map, same_append, same_refl}

-- one place more to begin at
pub made_more : (part : ℕ × ℕ → List Occ) (items places : List (ℕ × ℕ)) (i : ℕ) (d : ℕ × ℕ) (start before after : List Occ) → items ≡ places → i < length items → before ≡ start ++ flat_map part (take i places) → after ≡ before ++ part (get_or items i d) → after ≡ start ++ flat_map part (take (i + 1) places)
made_more part items places i d start before after same within so_far grown =
    let taken : take i places ++ get_or items i d ∷ [] ≡ take (i + 1) places = ap (λ ps. take i ps ++ get_or items i d ∷ []) (sym same) ∙ sym (take_more items i d within) ∙ ap (take (i + 1)) same in
    grown
    ∙ ap (λ xs. xs ++ part (get_or items i d)) so_far
    ∙ flat_map_more part start (take i places) (get_or items i d)
    ∙ ap (λ xs. start ++ flat_map part xs) taken

-- at the end of the loop
pub made_all : (part : ℕ × ℕ → List Occ) (items places : List (ℕ × ℕ)) (i : ℕ) (start after : List Occ) → items ≡ places → length items ≤ i → after ≡ start ++ flat_map part (take i places) → after ≡ start ++ flat_map part places
made_all part items places i start after same past so_far = so_far ∙ ap (λ xs. start ++ flat_map part xs) (take_all i places (omega (arith, ap length same)))

any_made : (p : Occ → Bool) (ends : ℕ × ℕ → ℕ × ℕ → Bool) (xs : List (ℕ × ℕ)) → list_any p (flat_map (λ from. to_each from (filter (ends from) xs)) xs) ≡ list_any (λ from. list_any (λ to. ends from to && p (occ from.0 from.1 to.1)) xs) xs
any_made p ends xs =
    any_flat_map p (λ from. to_each from (filter (ends from) xs)) xs
    ∙ any_alike (λ from. list_any p (to_each from (filter (ends from) xs))) (λ from. list_any (λ to. ends from to && p (occ from.0 from.1 to.1)) xs)
    (λ from. any_map p (λ to. occ from.0 from.1 to.1) (filter (ends from) xs) ∙ any_filter (λ to. p (occ from.0 from.1 to.1)) (ends from) xs) xs

and_again : (a b c : Bool) → ((a && b) && c) ≡ (a && (b && c))
and_again true b c = refl
and_again false b c = refl

one_less : (n : ℕ) → suc (suc n) - 1 ≡ suc (suc n - 1)
one_less n = omega arith

first_settles : (a b c : Bool) → (a ≡ true → b ≡ true) → (a || (b || c)) ≡ (b || c)
first_settles true true c e = refl
first_settles true false c e = absurd (false≢true (e refl))
first_settles false b c e = refl

-- where a test that an element passes is passed by all later ones, the last one tells
last_tells : {X : Type 0} (p : X → Bool) (xs : List X) → AllPairs (λ x y. p x ≡ true → p y ≡ true) xs → list_any p (last_of xs) ≡ list_any p xs
last_tells p [] up = refl
last_tells p (x ∷ []) up = refl
last_tells p (x ∷ y ∷ ys) up =
    ap (λ n. list_any p (drop n (x ∷ y ∷ ys))) (one_less (length ys))
    ∙ last_tells p (y ∷ ys) (λ i j d lt h. up (suc i) (suc j) d (omega arith) (omega arith))
    ∙ sym (first_settles (p x) (p y) (list_any p ys) (up 0 1 x (omega arith) (omega arith)))

in_order : (f x0 x1 y0 y1 : ℕ) → (nat_lt x0 y0 || ((x0 == y0) && nat_lt x1 y1)) ≡ true → (f == x0) ≡ true → (f == y0) ≡ true → x1 ≤ y1
in_order f x0 x1 y0 y1 before here there = grind (arith, nat_tests)

reaches : (field first last further p0 p1 : ℕ) → last ≤ further → ((field == p0) && (nat_le first p1 && nat_le p1 last)) ≡ true → ((field == p0) && (nat_le first p1 && nat_le p1 further)) ≡ true
reaches field first last further p0 p1 longer here = grind (arith, nat_tests)

module _ (n : ℕ) (listed : List Listed) (proximity : Proximity) (is : IsProximity n listed proximity) where
  ends_alike : (p : Occ → Bool) (from to : ℕ × ℕ) → (ends_at proximity from to && p (occ from.0 from.1 to.1)) ≡ (may_reach n listed from to && (holds_all listed (occ from.0 from.1 to.1) && p (occ from.0 from.1 to.1)))
  ends_alike p from to =
      let o : Occ = occ from.0 from.1 to.1 in
      ap (λ size. (((from.0 == to.0) && (nat_le from.1 to.1 && nat_lt (to.1 + 1 - from.1) size)) && holds_words proximity.words.items o) && p o) is.size
      ∙ ap (λ b. (may_reach n listed from to && b) && p o) (is.words o)
      ∙ and_again (may_reach n listed from to) (holds_all listed o) (p o)

  pub made_same : SameMembers (made proximity) (windows n listed)
  made_same p =
      let all : List (ℕ × ℕ) = proximity.all.items in
      let places : List (ℕ × ℕ) = all_places listed in
      let f : ℕ × ℕ → ℕ × ℕ → Bool = λ from to. ends_at proximity from to && p (occ from.0 from.1 to.1) in
      let g : ℕ × ℕ → ℕ × ℕ → Bool = λ from to. may_reach n listed from to && (holds_all listed (occ from.0 from.1 to.1) && p (occ from.0 from.1 to.1)) in
      any_made p (ends_at proximity) all
      ∙ is.all (λ from. list_any (f from) all)
      ∙ any_alike (λ from. list_any (f from) all) (λ from. list_any (g from) places) (λ from. is.all (f from) ∙ any_alike (f from) (g from) (ends_alike p from) places) places
      ∙ sym (any_filter p (holds_all listed) (flat_map (λ from. to_each from (filter (may_reach n listed from) places)) places) ∙ any_made (λ o. holds_all listed o && p o) (may_reach n listed) places)

  pub windows_made : (old new : List Occ) → new ≡ old ++ made proximity → SameMembers new (old ++ windows n listed)
  windows_made old new is_made = λ p. ap (list_any p) is_made ∙ same_append old old (made proximity) (windows n listed) (same_refl old) made_same p

  module _ (sorted : IsSorted proximity) where
    later : (from x y : ℕ × ℕ) → is_before x y ≡ true → ends_at proximity from x ≡ true → ends_at proximity from y ≡ true → x.1 ≤ y.1
    later from x y before here there =
        let fields = (and_parts (from.0 == x.0) _ (and_parts ((from.0 == x.0) && (nat_le from.1 x.1 && nat_lt (x.1 + 1 - from.1) proximity.size)) _ here).0).0 in
        let others = (and_parts (from.0 == y.0) _ (and_parts ((from.0 == y.0) && (nat_le from.1 y.1 && nat_lt (y.1 + 1 - from.1) proximity.size)) _ there).0).0 in
        in_order from.0 x.0 x.1 y.0 y.1 before fields others

    -- a test that an occurrence passes which reaches further than one that does
    pub widest_same : (p : Occ → Bool) → ((field first last further : ℕ) → last ≤ further → p (occ field first last) ≡ true → p (occ field first further) ≡ true) → list_any p (widest proximity) ≡ list_any p (windows n listed)
    widest_same p further =
        let all : List (ℕ × ℕ) = proximity.all.items in
        any_flat_map p (λ from. to_each from (last_of (filter (ends_at proximity from) all))) all
        ∙ any_alike (λ from. list_any p (to_each from (last_of (filter (ends_at proximity from) all)))) (λ from. list_any p (to_each from (filter (ends_at proximity from) all)))
        (λ from.
        let ends : List (ℕ × ℕ) = filter (ends_at proximity from) all in
        let up : ArePlaces ends = AllPairs-filter (λ x y. IsTrue (is_before x y)) (ends_at proximity from) all sorted.ascend in
        let each : All (λ to. ends_at proximity from to ≡ true) ends = filter_passes (ends_at proximity from) all in
        any_map p (λ to. occ from.0 from.1 to.1) (last_of ends)
        ∙ last_tells (λ to. p (occ from.0 from.1 to.1)) ends (λ i j d lt h.
        further from.0 from.1 (get_or ends i d).1 (get_or ends j d).1 (later from (get_or ends i d) (get_or ends j d) (up i j d lt h) (each i d (omega arith)) (each j d h)))
        ∙ sym (any_map p (λ to. occ from.0 from.1 to.1) ends)) all
        ∙ sym (any_flat_map p (λ from. to_each from (filter (ends_at proximity from) all)) all)
        ∙ made_same p

    pub widest_made : (old new : List Occ) → new ≡ old ++ widest proximity → CoverAlike old new (windows n listed)
    widest_made old new is_made = record {
      added = widest proximity;
      is = is_made;
      holds = λ place. widest_same (λ o. holds o place) (λ field first last further longer here. reaches field first last further place.0 place.1 longer here);
      some = widest_same (λ o. true) (λ field first last further longer here. here);
    }
