-- A map of aliases, item by item.
use Rattle.std.proofs.Common.{◌≡◌, ℕ, ◌+◌, ◌<◌, Bool, true, false, cond, refl, List, [], ◌∷◌, ◌++◌, length, get_or, take, Option, Some, None, sym, subst, ◌∙◌, ap, arith}
use Rattle.std.specs.Prelude.{is_some}
use Rattle.std.specs.Borrow.{Bor}
use Rattle.std.specs.BTreeMap.{BTreeMap, get}
use Rattle.std.specs.Cmp.Lexicographic.{slice_cmp}
use Rattle.std.specs.List.{position_from}
use Rattle.std.specs.Option.{option_or}
use Rattle.std.specs.Ordering.{is_eq, nat_cmp}
use Rattle.std.specs.declared.cmp.Ordering.{Ordering}
use Rattle.std.specs.Str.{bytes_eq}
use Rattle.std.proofs.lemmas.Bool.{false≢true}
use Rattle.std.proofs.lemmas.List.{length-take, take_more}
use Rattle.std.proofs.lemmas.Map.Text.{is_eq-slice_cmp}
use Rattle.std.proofs.lemmas.Slice.Eq.{bytes_eq-Decides}
use Rattle.ql_tree.specs.declared.select.SelectItem.{SelectItem}
use Rattle.ql_select.specs.Names.{alias_of, aliased, is_name}
use Rattle.ql_select.specs.steps.Aliases.{HasAliases, place_in}

-- ---- a name is put

-- a name that is there stays as it is, and so do all others
kept_by : (o : Option ℕ) (place : ℕ) (same : Bool) → (same ≡ true → is_some o ≡ true) → o ≡ option_or o (cond same (Some place) None)
kept_by None place true there = absurd (false≢true (there refl))
kept_by None place false there = refl
kept_by (Some other) place same there = refl

pub put_kept : (map : BTreeMap (Bor (List ℕ)) ℕ) (alias : List ℕ) (place : ℕ) → is_some (place_in map alias) ≡ true → (name : List ℕ) → place_in map name ≡ option_or (place_in map name) (cond (bytes_eq alias name) (Some place) None)
put_kept map alias place there name =
    kept_by (place_in map name) place (bytes_eq alias name)
    (λ same. subst (λ (n : List ℕ). is_some (place_in map n) ≡ true) ((bytes_eq-Decides alias name).0 same) there)

-- a name that isn't there gets its place
new_by : (o : Option ℕ) (place : ℕ) (same : Bool) → (same ≡ true → is_some o ≡ false) → cond same (Some place) o ≡ option_or o (cond same (Some place) None)
new_by None place true never = refl
new_by None place false never = refl
new_by (Some other) place true never = absurd (false≢true (sym (never refl)))
new_by (Some other) place false never = refl

-- a query for a name, as the map's clauses have it
abbrev by_bytes : Bor (List ℕ) → Bor (List ℕ) → Ordering
by_bytes alias other = slice_cmp nat_cmp alias.now other.now

pub put_more : (old new : BTreeMap (Bor (List ℕ)) ℕ) (alias : Bor (List ℕ)) (place : ℕ) → is_some (place_in old alias.now) ≡ false → ((query : Bor (List ℕ)) → get by_bytes new query ≡ cond (is_eq (by_bytes alias query)) (Some place) (get by_bytes old query)) → (name : List ℕ) → place_in new name ≡ option_or (place_in old name) (cond (bytes_eq alias.now name) (Some place) None)
put_more old new alias place none more name =
    more (record { ref_ptr = (0, 0); now = name })
    ∙ ap (λ b. cond b (Some place) (place_in old name)) (is_eq-slice_cmp alias.now name)
    ∙ new_by (place_in old name) place (bytes_eq alias.now name)
    (λ same. subst (λ (n : List ℕ). is_some (place_in old n) ≡ false) ((bytes_eq-Decides alias.now name).0 same) none)

-- ---- one item more

position_step : (here : Bool) (n : ℕ) (rest found other : Option ℕ) → rest ≡ option_or found other → cond here (Some n) rest ≡ option_or (cond here (Some n) found) other
position_step true n rest found other e = refl
position_step false n rest found other e = e

position_more : {X : Type 0} (test : X → Bool) (n : ℕ) (xs : List X) (x : X) → position_from test n (xs ++ x ∷ []) ≡ option_or (position_from test n xs) (cond (test x) (Some (n + length xs)) None)
position_more test n [] x =
    let same : n ≡ n + 0 = omega arith in
    ap (λ k. cond (test x) (Some k) None) same
position_more test n (y ∷ ys) x =
    let same : n + 1 + length ys ≡ n + length (y ∷ ys) = omega arith in
    position_step (test y) n _ (position_from test (n + 1) ys) _
    (position_more test (n + 1) ys x ∙ ap (λ k. option_or (position_from test (n + 1) ys) (cond (test x) (Some k) None)) same)

list_more : (rows : Bool) (list : List SelectItem) (i : ℕ) (item : SelectItem) (name : List ℕ) → i < length list → item ≡ get_or list i item → aliased rows (take (i + 1) list) name ≡ option_or (aliased rows (take i list) name) (cond (is_name name (alias_of rows item)) (Some i) None)
list_more rows list i item name below is =
    let count : 0 + length (take i list) ≡ i = omega (arith, length-take i list) in
    ap (λ (l : List SelectItem). aliased rows l name) (take_more list i item below ∙ ap (λ (x : SelectItem). take i list ++ x ∷ []) (sym is))
    ∙ position_more (λ (one : SelectItem). is_name name (alias_of rows one)) 0 (take i list) item
    ∙ ap (λ k. option_or (aliased rows (take i list) name) (cond (is_name name (alias_of rows item)) (Some k) None)) count

or_none : (o : Option ℕ) → o ≡ option_or o None
or_none None = refl
or_none (Some place) = refl

pub aliases_kept : (rows : Bool) (map : BTreeMap (Bor (List ℕ)) ℕ) (list : List SelectItem) (i : ℕ) (item : SelectItem) → i < length list → item ≡ get_or list i item → alias_of rows item ≡ None → HasAliases rows map (take i list) → HasAliases rows map (take (i + 1) list)
aliases_kept rows map list i item below is none has name =
    has name ∙ or_none (aliased rows (take i list) name)
    ∙ ap (λ (a : Option (List ℕ)). option_or (aliased rows (take i list) name) (cond (is_name name a) (Some i) None)) (sym none)
    ∙ sym (list_more rows list i item name below is)

pub aliases_more : (rows : Bool) (old new : BTreeMap (Bor (List ℕ)) ℕ) (list : List SelectItem) (i : ℕ) (item : SelectItem) (alias : List ℕ) → i < length list → item ≡ get_or list i item → alias_of rows item ≡ Some alias → HasAliases rows old (take i list) → ((name : List ℕ) → place_in new name ≡ option_or (place_in old name) (cond (bytes_eq alias name) (Some i) None)) → HasAliases rows new (take (i + 1) list)
aliases_more rows old new list i item alias below is some has more name =
    more name
    ∙ ap (λ o. option_or o (cond (bytes_eq alias name) (Some i) None)) (has name)
    ∙ ap (λ (a : Option (List ℕ)). option_or (aliased rows (take i list) name) (cond (is_name name a) (Some i) None)) (sym some)
    ∙ sym (list_more rows list i item name below is)
