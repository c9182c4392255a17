-- The lists of all prefixes, one keyword more at a time.
use Rattle.std.proofs.Common.{◌≡◌, ℕ, ◌+◌, ◌-◌, ◌<◌, ◌≤◌, List, [], ◌∷◌, ◌++◌, Bool, true, false, cond, Result, Ok, Err, length, take, get_or, refl, sym, ap, subst, ◌∙◌, arith}
use Rattle.std.specs.List.{AllZip}
use Rattle.std.proofs.lemmas.List.{take_all, take_more, append-nil}
use Rattle.std.proofs.lemmas.List.Elements.{filter-append}
use Rattle.std.proofs.lemmas.List.Sums.{sum_by-append}
use Rattle.srch_base.specs.declared.faults.Or.{Or}
use Rattle.srch_base.specs.declared.faults.Or.TheVariants as causes
use Rattle.doc_types.specs.declared.documents.DocRow.{DocRow}
use Rattle.doc_types.specs.Snapshots.{SnapshotValue, all_living}
use Rattle.query_tree.specs.declared.key.Key.{Key}
use Rattle.query_tree.specs.declared.query.Query.{Query}
use Rattle.query_tree.specs.TreeKeys.{query_keys}
use Rattle.prefix_terms.specs.Prefixes.{AreExpanded, AreWordsWith, Expands, IsListOf, Lists, prefixes, words_together}
use Rattle.prefix_terms.specs.steps.Keeping.{AreFound, AreListed, Tells}
use Rattle.prefix_terms.specs.declared.expansion.TheConstants.{MAX_PREFIX_WORDS}
use Rattle.prefix_terms.specs.declared.expansion.Expansion.{Expansion}
use Rattle.prefix_terms.specs.declared.expansion.TooMany.{TooMany}

pub zip_append : {X Y : Type 0} (R : X → Y → Type 0) (xs others : List X) (ys more : List Y) → AllZip R xs ys → AllZip R others more → AllZip R (xs ++ others) (ys ++ more)
zip_append R [] others [] more one two = two
zip_append R [] others (y ∷ ys) more one two = absurd one
zip_append R (x ∷ xs) others [] more one two = absurd one
zip_append R (x ∷ xs) others (y ∷ ys) more one two = (one.0, zip_append R xs others ys more one.1 two)

pub zip_more : {X Y : Type 0} (R : X → Y → Type 0) (xs : List X) (ys : List Y) (i : ℕ) (x : X) (y : Y) → i < length xs → x ≡ get_or xs i x → AllZip R (take i xs) ys → R x y → AllZip R (take (i + 1) xs) (ys ++ y ∷ [])
zip_more {X = X} R xs ys i x y low is was own =
    subst (λ (l : List X). AllZip R l (ys ++ y ∷ [])) (sym (take_more xs i x low ∙ ap (λ (r : X). take i xs ++ r ∷ []) (sym is))) (zip_append R (take i xs) (x ∷ []) ys (y ∷ []) was (own, tt))

-- the lists of more keywords
pub expanded_more : (docs : List DocRow) (keys more : List Key) (lists others : Lists) → AreExpanded docs keys lists → AreExpanded docs more others → AreExpanded docs (keys ++ more) (lists ++ others)
expanded_more docs keys more lists others one two =
    subst (λ (all : List Key). AllZip (IsListOf docs) all (lists ++ others)) (sym (filter-append (λ (key : Key). key.prefix) keys more)) (zip_append (IsListOf docs) (prefixes keys) (prefixes more) lists others one two)

-- a keyword that is a prefix, and one that is none
pub expanded_one : (docs : List DocRow) (key : Key) (words : List (List ℕ)) → key.prefix ≡ true → AreWordsWith docs key.word words → AreExpanded docs (key ∷ []) ((key.query, words) ∷ [])
expanded_one docs key words is own = subst (λ (all : List Key). AllZip (IsListOf docs) all ((key.query, words) ∷ [])) (sym (by_test key.prefix is)) (record { query = refl; words = own }, tt)
  where
    by_test : (b : Bool) → b ≡ true → cond b (key ∷ []) [] ≡ key ∷ []
    by_test true e = refl
    by_test false e = absurd cc

pub expanded_none : (docs : List DocRow) (key : Key) → key.prefix ≡ false → AreExpanded docs (key ∷ []) []
expanded_none docs key is = subst (λ (all : List Key). AllZip (IsListOf docs) all []) (sym (by_test key.prefix is)) tt
  where
    by_test : (b : Bool) → b ≡ false → cond b (key ∷ []) [] ≡ []
    by_test false e = refl
    by_test true e = absurd cc

-- one list more, of which as many words are kept as there is room for
pub listed_more : (lists kept new : Lists) (count query room found after : ℕ) (words some : List (List ℕ)) → AreListed lists kept count → AreFound room words some found → room ≡ MAX_PREFIX_WORDS - count → new ≡ kept ++ (query, some) ∷ [] → after ≡ count + found → AreListed (lists ++ (query, words) ∷ []) new after
listed_more lists kept new count query room found after words some was is left put sum = record {
  counted = let all = sum_by-append (λ (list : ℕ × List (List ℕ)). length list.1) lists ((query, words) ∷ []) in omega (arith, all, sum, was.counted, is.counted);
  whole = λ low.
      let whole : kept ≡ lists = was.whole (omega (arith, low, sum)) in
      let fits : length words ≤ room = omega (arith, low, sum, left, is.counted) in
      let same : some ≡ words = is.first ∙ take_all room words fits in
      put ∙ ap (λ (l : Lists). l ++ (query, some) ∷ []) whole ∙ ap (λ (ws : List (List ℕ)). lists ++ (query, ws) ∷ []) same;
}

pub listed_same : (lists kept : Lists) (count : ℕ) → AreListed lists kept count → AreListed (lists ++ []) kept count
listed_same lists kept count was = subst (λ (l : Lists). AreListed l kept count) (sym (append-nil lists)) was

-- what is told of the lists
pub expands : (snapshot : SnapshotValue) (query : Query) (lists kept : Lists) (count : ℕ) (result : Result Expansion (Or TooMany)) → AreExpanded (all_living snapshot.layers) (query_keys query) lists → AreListed lists kept count → Tells kept count result → Expands snapshot query result
expands snapshot query lists kept count (Ok expansion) are listed told =
    let same : expansion.keys ≡ lists = told.1 ∙ listed.whole told.0 in
    (subst (AreExpanded (all_living snapshot.layers) (query_keys query)) (sym same) are, let size = ap (λ (l : Lists). words_together l) same in omega (arith, size, told.0, listed.counted))
expands snapshot query lists kept count (Err causes.NoMemory) are listed told = tt
expands snapshot query lists kept count (Err (causes.Fault many)) are listed told = (lists, are, told.0 ∙ listed.counted, omega (arith, told.0, told.1))
