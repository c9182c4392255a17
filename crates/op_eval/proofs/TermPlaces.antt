-- What keywords find by their terms is what they find in the row whose terms these are.
use Rattle.std.proofs.Common.{◌≡◌, ℕ, ◌+◌, ◌<◌, ◌^◌, suc, Bool, true, cond, List, [], ◌∷◌, ◌++◌, length, map, refl, sym, ◌∙◌, ap, subst, append-nil, ◌⊎◌, inl, inr}
use Rattle.std.specs.Prelude.{nat_lt}
use Rattle.std.specs.List.{AllZip, filter, flat_map, fold, count_by}
use Rattle.std.proofs.lemmas.List.Elements.{All-cons, All-nil}
use Rattle.doc_types.specs.declared.documents.DocRow.{DocRow}
use Rattle.doc_types.specs.declared.hits.Hit.{Hit}
use Rattle.query_tree.specs.declared.key.Key.{Key}
use Rattle.query_tree.specs.declared.key.How.{How}
use Rattle.query_tree.specs.declared.key.How.TheVariants as hows
use Rattle.query_tree.specs.declared.query.Node.{Node}
use Rattle.query_tree.specs.declared.query.Node.TheVariants as nodes
use Rattle.query_tree.specs.TreeKeys.{node_keys}
use Rattle.query_tree.proofs.NodeKeys.{keys_word, keys_quoted}
use Rattle.occ_lists.specs.declared.occ.Occ.{Occ}
use Rattle.occ_lists.specs.declared.term.Term.{Term}
use Rattle.occ_lists.specs.Places.{at_place, within_all}
use Rattle.occ_lists.specs.Runs.{runs}
use Rattle.occ_lists.specs.Windows.{Listed, windows}
use Rattle.occ_lists.specs.Terms.{listed_in}
use Rattle.word_rows.specs.Keywords.{places_within, Spans}
use Rattle.op_eval.specs.Finding.{Found, nothing, is_some, is_enough, keyword, hits_at, made, quoted, quorum, node_finds}
use Rattle.word_rows.specs.Terms.{IsTermOf, AreTermsOf, AreShort, IsShort}
use Rattle.op_eval.specs.steps.Worded.{term_places, term_hits, how_many, at_each, worded, quoted_by}
use Rattle.op_eval.proofs.Appending.{chosen}
use Rattle.op_eval.proofs.Nodes.{finds_word, finds_quoted}

-- ---- lists beside each other

module _ {A B : Type 0} (R : A → B → Type 0) where
  zip_map : {C : Type 0} (f : A → C) (g : B → C) → ((a : A) (b : B) → R a b → g b ≡ f a) → (xs : List A) (ys : List B) → AllZip R xs ys → map g ys ≡ map f xs
  zip_map f g alike [] [] z = refl
  zip_map f g alike [] (y ∷ ys) z = absurd z
  zip_map f g alike (x ∷ xs) [] z = absurd z
  zip_map f g alike (x ∷ xs) (y ∷ ys) z = ap (λ c. c ∷ map g ys) (alike x y z.0) ∙ ap (λ cs. f x ∷ cs) (zip_map f g alike xs ys z.1)

  zip_flat_map : {C : Type 0} (f : A → List C) (g : B → List C) → ((a : A) (b : B) → R a b → g b ≡ f a) → (xs : List A) (ys : List B) → AllZip R xs ys → flat_map g ys ≡ flat_map f xs
  zip_flat_map f g alike [] [] z = refl
  zip_flat_map f g alike [] (y ∷ ys) z = absurd z
  zip_flat_map f g alike (x ∷ xs) [] z = absurd z
  zip_flat_map f g alike (x ∷ xs) (y ∷ ys) z = ap (λ cs. cs ++ flat_map g ys) (alike x y z.0) ∙ ap (λ cs. f x ++ cs) (zip_flat_map f g alike xs ys z.1)

  zip_count : (p : A → Bool) (q : B → Bool) → ((a : A) (b : B) → R a b → q b ≡ p a) → (n : ℕ) (xs : List A) (ys : List B) → AllZip R xs ys → fold (λ m y. m + cond (q y) 1 0) n ys ≡ fold (λ m x. m + cond (p x) 1 0) n xs
  zip_count p q alike n [] [] z = refl
  zip_count p q alike n [] (y ∷ ys) z = absurd z
  zip_count p q alike n (x ∷ xs) [] z = absurd z
  zip_count p q alike n (x ∷ xs) (y ∷ ys) z =
      ap (λ t. fold (λ m b. m + cond (q b) 1 0) (n + cond t 1 0) ys) (alike x y z.0) ∙ zip_count p q alike (n + cond (p x) 1 0) xs ys z.1

  zip_long : (xs : List A) (ys : List B) → AllZip R xs ys → length ys ≡ length xs
  zip_long [] [] z = refl
  zip_long [] (y ∷ ys) z = absurd z
  zip_long (x ∷ xs) [] z = absurd z
  zip_long (x ∷ xs) (y ∷ ys) z = ap suc (zip_long xs ys z.1)

-- ---- numbers of words

pub terms_short : (row : DocRow) (number : List ℕ → ℕ) (keys : List Key) (terms : List Term) → AreTermsOf row number keys terms → IsShort number → AreShort terms
terms_short row number [] [] z short = All-nil (λ (term : Term). term.word < 2 ^ 16)
terms_short row number [] (term ∷ terms) z short = absurd z
terms_short row number (key ∷ keys) [] z short = absurd z
terms_short row number (key ∷ keys) (term ∷ terms) z short =
    All-cons (λ (t : Term). t.word < 2 ^ 16) term terms (subst (λ (n : ℕ). n < 2 ^ 16) (sym z.0.word) (short key.word)) (terms_short row number keys terms z.1 short)

-- ---- quorums

pub quorum_told : (spans : Spans) (terms : List Term) (how : How) → ((n : ℕ) × (how ≡ hows.AtLeast n)) ⊎ ((digits : ℕ) × (places : ℕ) × (how ≡ hows.Share digits places))
    → (quoted_by spans terms how).matches ≡ is_enough how (length terms) (how_many spans terms)
quorum_told spans terms how (inl (n, is)) = subst (λ (h : How). (quoted_by spans terms h).matches ≡ is_enough h (length terms) (how_many spans terms)) (sym is) (chosen _ _ refl)
quorum_told spans terms how (inr (digits, places, is)) =
    subst (λ (h : How). (quoted_by spans terms h).matches ≡ is_enough h (length terms) (how_many spans terms)) (sym is) (chosen _ _ refl)

-- ---- keywords

abbrev listed : ℕ → List (ℕ × ℕ) → Listed
listed word places = record { word = word; places = places }

module _ (row : DocRow) (number : List ℕ → ℕ) (spans : Spans) where
  places_is : (key : Key) (term : Term) → IsTermOf row number key term → term_places spans term ≡ places_within row spans key
  places_is key term t = ap (filter (within_all spans)) t.places

  hits_is : (key : Key) (term : Term) → IsTermOf row number key term → term_hits spans term ≡ hits_at number key (places_within row spans key)
  hits_is key term t =
      ap (λ (places : List (ℕ × ℕ)). map (λ (p : ℕ × ℕ). record { query = term.query; word = term.word; field = p.0; position = p.1 }) places) (places_is key term t)
      ∙ ap (λ (n : ℕ). map (λ (p : ℕ × ℕ). record { query = n; word = term.word; field = p.0; position = p.1 }) (places_within row spans key)) t.query
      ∙ ap (λ (n : ℕ). map (λ (p : ℕ × ℕ). record { query = key.query; word = n; field = p.0; position = p.1 }) (places_within row spans key)) t.word

  listed_is : (key : Key) (term : Term) → IsTermOf row number key term → listed term.word (term_places spans term) ≡ listed (number key.word) (places_within row spans key)
  listed_is key term t = ap (listed term.word) (places_is key term t) ∙ ap (λ (n : ℕ). listed n (places_within row spans key)) t.word

  module _ (keys : List Key) (terms : List Term) (z : AreTermsOf row number keys terms) where
    lists_are : map (term_places spans) terms ≡ map (places_within row spans) keys
    lists_are = zip_map (IsTermOf row number) (places_within row spans) (term_places spans) places_is keys terms z

    places_are : flat_map (term_places spans) terms ≡ flat_map (places_within row spans) keys
    places_are = zip_flat_map (IsTermOf row number) (places_within row spans) (term_places spans) places_is keys terms z

    hits_are : flat_map (term_hits spans) terms ≡ flat_map (λ (key : Key). hits_at number key (places_within row spans key)) keys
    hits_are = zip_flat_map (IsTermOf row number) (λ (key : Key). hits_at number key (places_within row spans key)) (term_hits spans) hits_is keys terms z

    listed_are : listed_in spans terms ≡ map (λ (key : Key). record { word = number key.word; places = places_within row spans key }) keys
    listed_are = zip_map (IsTermOf row number) (λ (key : Key). record { word = number key.word; places = places_within row spans key })
        (λ (term : Term). record { word = term.word; places = term_places spans term }) listed_is keys terms z

    many_are : how_many spans terms ≡ count_by (λ (key : Key). is_some (places_within row spans key)) keys
    many_are = zip_count (IsTermOf row number) (λ (key : Key). is_some (places_within row spans key)) (λ (term : Term). is_some (term_places spans term))
        (λ key term t. ap is_some (places_is key term t)) 0 keys terms z

    made_are : (occs other : List Occ) → occs ≡ other → made occs (flat_map (term_hits spans) terms) ≡ made other (flat_map (λ (key : Key). hits_at number key (places_within row spans key)) keys)
    made_are occs other is = ap (λ (list : List Occ). made list (flat_map (term_hits spans) terms)) is ∙ ap (made other) hits_are

    each_are : (matches : Bool) → at_each spans terms matches ≡ record { matches = matches; occurrences = map at_place (flat_map (places_within row spans) keys); hits = flat_map (λ (key : Key). hits_at number key (places_within row spans key)) keys }
    each_are matches =
        ap (λ (places : List (ℕ × ℕ)). record { matches = matches; occurrences = map at_place places; hits = flat_map (term_hits spans) terms }) places_are
        ∙ ap (λ (hits : List Hit). record { matches = matches; occurrences = map at_place (flat_map (places_within row spans) keys); hits = hits }) hits_are

    quorum_is : (how : How) → cond (is_enough how (length terms) (how_many spans terms)) (at_each spans terms true) nothing
        ≡ quorum (places_within row spans) keys how (flat_map (λ (key : Key). hits_at number key (places_within row spans key)) keys)
    quorum_is how =
        ap (λ (n : ℕ). cond (is_enough how n (how_many spans terms)) (at_each spans terms true) nothing) (zip_long (IsTermOf row number) keys terms z)
        ∙ ap (λ (n : ℕ). cond (is_enough how (length keys) n) (at_each spans terms true) nothing) many_are
        ∙ ap (λ (f : Found). cond (is_enough how (length keys) (count_by (λ (key : Key). is_some (places_within row spans key)) keys)) f nothing) (each_are true)

    quoted_is : (how : How) → quoted_by spans terms how ≡ quoted number (places_within row spans) keys how (flat_map (λ (key : Key). hits_at number key (places_within row spans key)) keys)
    quoted_is hows.Phrase = made_are (runs (map (term_places spans) terms)) (runs (map (places_within row spans) keys)) (ap runs lists_are)
    quoted_is (hows.Within n) = made_are (windows n (listed_in spans terms)) (windows n (map (λ (key : Key). record { word = number key.word; places = places_within row spans key }) keys)) (ap (windows n) listed_are)
    quoted_is (hows.AtLeast n) = quorum_is (hows.AtLeast n)
    quoted_is (hows.Share digits decimals) = quorum_is (hows.Share digits decimals)

  one_word : (places : List (ℕ × ℕ)) → nat_lt 0 (count_by (λ (p : List (ℕ × ℕ)). is_some p) (places ∷ [])) ≡ is_some places
  one_word [] = refl
  one_word (p ∷ places) = refl

  worded_is : (key : Key) (terms : List Term) → AreTermsOf row number (key ∷ []) terms → worded spans terms ≡ keyword number key (places_within row spans key)
  worded_is key [] z = absurd z
  worded_is key (term ∷ other ∷ terms) z = absurd z.1
  worded_is key (term ∷ []) z =
      ap (λ (places : List (ℕ × ℕ)). record { matches = nat_lt 0 (how_many spans (term ∷ [])); occurrences = map at_place places; hits = flat_map (term_hits spans) (term ∷ []) }) (append-nil (term_places spans term) ∙ places_is key term z.0)
      ∙ ap (λ (hits : List Hit). record { matches = nat_lt 0 (how_many spans (term ∷ [])); occurrences = map at_place (places_within row spans key); hits = hits }) (append-nil (term_hits spans term) ∙ hits_is key term z.0)
      ∙ ap (λ (matches : Bool). record { matches = matches; occurrences = map at_place (places_within row spans key); hits = hits_at number key (places_within row spans key) }) (one_word (term_places spans term) ∙ ap is_some (places_is key term z.0))

  -- ---- nodes

  pub node_worded : (node : Node) (key : Key) (terms : List Term) → node ≡ nodes.Word key → AreTermsOf row number (node_keys node) terms → worded spans terms ≡ node_finds row number node spans
  node_worded node key terms is z =
      worded_is key terms (subst (λ (keys : List Key). AreTermsOf row number keys terms) (ap node_keys is ∙ keys_word key) z)
      ∙ sym (ap (λ (n : Node). node_finds row number n spans) is ∙ finds_word row number key spans)

  pub node_quoted : (node : Node) (keys : List Key) (how : How) (terms : List Term) → node ≡ nodes.Quoted keys how → AreTermsOf row number (node_keys node) terms → quoted_by spans terms how ≡ node_finds row number node spans
  node_quoted node keys how terms is z =
      quoted_is keys terms (subst (λ (other : List Key). AreTermsOf row number other terms) (ap node_keys is ∙ keys_quoted keys how) z) how
      ∙ sym (ap (λ (n : Node). node_finds row number n spans) is ∙ finds_quoted row number keys how spans)
