-- The list of a prefix, by its query position.
use Rattle.std.proofs.Common.{◌≡◌, ◌≢◌, ℕ, zero, suc, ◌<◌, List, [], ◌∷◌, Bool, true, false, cond, ◌==◌, length, get_or, refl, sym, ap, subst, ◌∙◌, arith, All, AllPairs, Contains}
use Rattle.std.specs.List.{AllZip, filter}
use Rattle.std.proofs.lemmas.Bool.{eq-eqb, ne_eqb}
use Rattle.std.proofs.lemmas.List.Elements.{All-cons, All-nil, All-tail}
use Rattle.doc_types.specs.declared.documents.DocRow.{DocRow}
use Rattle.query_tree.specs.declared.key.Key.{Key}
use Rattle.prefix_terms.specs.Prefixes.{AreExpanded, AreWordsWith, IsListOf, Lists, list_of, prefixes}
use Rattle.prefix_terms.proofs.Rewritten.{list_here, list_there}

-- where it is a prefix, its words are in the list of its query position
abbrev pub HasWords : List DocRow → Lists → Key → Type 0
HasWords docs lists key = key.prefix ≡ true → AreWordsWith docs key.word (list_of key.query lists)

-- the lists of prefixes without one that has another query position
later : (docs : List DocRow) (first : Key) (query : ℕ) (words : List (List ℕ)) (lists : Lists) (keys : List Key) → query ≡ first.query → All (λ later. first.query ≢ later.query) keys → All (HasWords docs lists) keys → All (HasWords docs ((query, words) ∷ lists)) keys
later docs first query words lists keys is apart all k d low prefix =
    let own : Key = get_or keys k d in
    let other : (query == own.query) ≡ false = ne_eqb query own.query (λ same. apart k d low (sym is ∙ same)) in
    subst (AreWordsWith docs own.word) (sym (list_there own.query (query, words) lists other)) (all k d low prefix)

pub each_listed : (docs : List DocRow) (keys : List Key) (lists : Lists) → AllPairs (λ key later. key.query ≢ later.query) keys → AreExpanded docs keys lists → All (HasWords docs lists) keys
each_listed docs [] lists apart are = All-nil (HasWords docs lists)
each_listed docs (key ∷ keys) lists apart are = by_test (λ ls own. each_listed docs keys ls rest_apart own) key.prefix refl lists are
  where
    rest_apart : AllPairs (λ key later. key.query ≢ later.query) keys
    rest_apart i j d low high = apart (suc i) (suc j) d (omega (arith, low)) (omega (arith, high))

    first_apart : All (λ later. key.query ≢ later.query) keys
    first_apart k d low = apart zero (suc k) d (omega arith) (omega (arith, low))

    by_test : ((ls : Lists) → AreExpanded docs keys ls → All (HasWords docs ls) keys) → (b : Bool) → key.prefix ≡ b → (ls : Lists) → AllZip (IsListOf docs) (cond key.prefix (key ∷ prefixes keys) (prefixes keys)) ls → All (HasWords docs ls) (key ∷ keys)
    by_test rest false e ls zip =
        let own = subst (λ (b : Bool). AllZip (IsListOf docs) (cond b (key ∷ prefixes keys) (prefixes keys)) ls) e zip in
        All-cons (HasWords docs ls) key keys (λ prefix. absurd cc) (rest ls own)
    by_test rest true e [] zip = absurd (subst (λ (b : Bool). AllZip (IsListOf docs) (cond b (key ∷ prefixes keys) (prefixes keys)) []) e zip)
    by_test rest true e (list ∷ ls) zip =
        let own = subst (λ (b : Bool). AllZip (IsListOf docs) (cond b (key ∷ prefixes keys) (prefixes keys)) (list ∷ ls)) e zip in
        let here : list_of key.query (list ∷ ls) ≡ list.1 = list_here key.query list ls (eq-eqb list.0 key.query own.0.query) in
        All-cons (HasWords docs (list ∷ ls)) key keys
        (λ prefix. subst (AreWordsWith docs key.word) (sym here) own.0.words)
        (later docs key list.0 list.1 ls keys own.0.query first_apart (rest ls own.1))
