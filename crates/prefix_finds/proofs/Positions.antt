-- A query that is asked in the place of another one has query positions: its keywords are those of the other, and for a prefix one for
-- each of its words.
use Rattle.std.proofs.Common.{◌≡◌, ◌≢◌, ℕ, zero, suc, ◌+◌, ◌<◌, ◌≤◌, ◌^◌, List, [], ◌∷◌, ◌++◌, Bool, true, false, cond, ◌==◌, Option, Some, None, length, map, get_or, refl, sym, ap, ap₂, subst, ◌∙◌, arith, All, AllPairs, length-append}
use Rattle.std.specs.List.{AllZip, flat_map, range_with_len, sum_by}
use Rattle.std.proofs.lemmas.Bool.{eq-eqb, ne_eqb}
use Rattle.std.proofs.lemmas.List.{get_or-append-add, get_or-map, get_or_append_left, get_or_default, length-map}
use Rattle.std.proofs.lemmas.List.Elements.{All-append, All-cons, All-head, All-map, All-nil}
use Rattle.std.proofs.lemmas.List.FromFn.{get_or-range_with_len}
use Rattle.std.proofs.lemmas.List.Sums.{sum_by-append, sum_by-cons}
use Rattle.doc_types.specs.declared.documents.DocRow.{DocRow}
use Rattle.query_tree.specs.declared.key.Key.{Key}
use Rattle.query_tree.specs.declared.query.Item.{Item}
use Rattle.query_tree.specs.declared.query.Node.{Node}
use Rattle.query_tree.specs.declared.query.Query.{Query}
use Rattle.query_tree.specs.TreeKeys.{node_keys, query_keys}
use Rattle.query_tree.proofs.NodeKeys.{keys_and, keys_before, keys_maybe, keys_near, keys_or, keys_paragraph, keys_quoted, keys_sentence, keys_span, keys_word}
use Rattle.op_eval.specs.Numbered.{HasPositions, IsNumbered}
use Rattle.prefix_terms.specs.declared.expansion.TheConstants.{MAX_PREFIX_WORDS}
use Rattle.prefix_terms.specs.Prefixes.{AreExpanded, AreRewritten, IsChoice, IsListOf, IsQueryFor, IsRewritten, IsRootRewritten, Lists, asked, list_of, more_items, no_items, of_and, of_before, of_halves, of_maybe, of_near, of_one, of_or, of_paragraph, of_prefix, of_quoted, of_sentence, of_span, of_word, prefixes, whole, with_word, words_together}
use Rattle.prefix_terms.proofs.Rewritten.{list_here, list_there}

-- ---- how many keywords may be asked in the place of one

abbrev words_of : Lists → Key → ℕ
words_of lists key = cond key.prefix (length (list_of key.query lists)) 0

abbrev room : Lists → Key → ℕ
room lists key = 1 + words_of lists key

rooms_least : (lists : Lists) (keys : List Key) → length keys ≤ sum_by (room lists) keys
rooms_least lists [] = omega arith
rooms_least lists (key ∷ keys) = let one = sum_by-cons (room lists) key keys in let rest = rooms_least lists keys in omega (arith, one, rest)

-- ---- what holds of them

-- the query position is one of so many
abbrev Lies : ℕ → Key → Type 0
Lies count key = (1 ≤ key.query) × (key.query ≤ count)

-- these keywords are asked in the place of the others
record AreAskedFor (lists : Lists) (count : ℕ) (keys others : List Key) : Type 0 where
  least : length keys ≤ length others
  most : length others ≤ sum_by (room lists) keys
  lie : All (Lies count) keys → All (Lies count) others

module _ (lists : Lists) (count : ℕ) where
  abbrev Asked : List Key → List Key → Type 0
  Asked keys others = AreAskedFor lists count keys others

  all_left : (xs ys : List Key) → All (Lies count) (xs ++ ys) → All (Lies count) xs
  all_left xs ys all k d low =
      let within : k < length (xs ++ ys) = let size = length-append xs ys in omega (arith, size, low) in
      subst (Lies count) (get_or_append_left xs ys d k low) (all k d within)

  all_right : (xs ys : List Key) → All (Lies count) (xs ++ ys) → All (Lies count) ys
  all_right xs ys all k d low =
      let within : length xs + k < length (xs ++ ys) = let size = length-append xs ys in omega (arith, size, low) in
      subst (Lies count) (get_or-append-add xs ys k d) (all (length xs + k) d within)

  joined : (xs ys zs ws : List Key) → Asked xs zs → Asked ys ws → Asked (xs ++ ys) (zs ++ ws)
  joined xs ys zs ws one two =
      let before = length-append xs ys in
      let after = length-append zs ws in
      let sums = sum_by-append (room lists) xs ys in record {
        least = let a = one.least in let b = two.least in omega (arith, before, after, a, b);
        most = let a = one.most in let b = two.most in omega (arith, after, sums, a, b);
        lie = λ all. All-append (Lies count) zs ws (one.lie (all_left xs ys all)) (two.lie (all_right xs ys all));
      }

  of_key : (key : Key) → Asked (key ∷ []) (key ∷ [])
  of_key key = record { least = omega arith; most = rooms_least lists (key ∷ []); lie = λ all. all }

  of_words : (key : Key) → key.prefix ≡ true → Asked (key ∷ []) (map (with_word key) (asked (list_of key.query lists)))
  of_words key is =
      let words = list_of key.query lists in
      let many = length-map (asked words) (with_word key) in
      let own : sum_by (room lists) (key ∷ []) ≡ 1 + length words = sum_by-cons (room lists) key [] ∙ ap (λ (b : Bool). 1 + cond b (length words) 0 + 0) is ∙ plus_zero (length words) in record {
        least = let some = some_asked words in omega (arith, many, some);
        most = let few = few_asked words in omega (arith, many, few, own);
        lie = λ all. All-map (Lies count) (with_word key) (asked words) (λ k d low. All-head (Lies count) key [] all);
      }
    where
      plus_zero : (n : ℕ) → 1 + n + 0 ≡ 1 + n
      plus_zero n = omega arith

      some_asked : (words : List (List ℕ)) → 1 ≤ length (asked words)
      some_asked [] = omega arith
      some_asked (word ∷ words) = omega arith

      few_asked : (words : List (List ℕ)) → length (asked words) ≤ 1 + length words
      few_asked [] = omega arith
      few_asked (word ∷ words) = omega arith

  of_whole : (keys : List Key) → Asked keys (map whole keys)
  of_whole keys =
      let many = length-map keys whole in record {
        least = omega (arith, many);
        most = let own = rooms_least lists keys in omega (arith, many, own);
        lie = λ all. All-map (Lies count) whole keys all;
      }

  choice_keys : {keys : List Key} {node : Node} → IsChoice keys node → node_keys node ≡ keys
  choice_keys (of_one key) = keys_word key
  choice_keys (of_halves first second a b low high one two) = keys_or a b ∙ ap₂ ◌++◌ (choice_keys one) (choice_keys two)

  -- ---- trees

  at_nodes : (node other : Node) (keys others : List Key) → node_keys node ≡ keys → node_keys other ≡ others → Asked keys others → Asked (node_keys node) (node_keys other)
  at_nodes node other keys others one two are = subst (λ ks. Asked ks (node_keys other)) (sym one) (subst (Asked keys) (sym two) are)

  mutual
    node_asked : {node other : Node} → IsRewritten lists node other → Asked (node_keys node) (node_keys other)
    node_asked (of_word key plain) = at_nodes _ _ _ _ (keys_word key) (keys_word key) (of_key key)
    node_asked (of_prefix key choice is chosen) = at_nodes _ choice _ _ (keys_word key) (choice_keys chosen) (of_words key is)
    node_asked (of_quoted keys how) = at_nodes _ _ _ _ (keys_quoted keys how) (keys_quoted (map whole keys) how) (of_whole keys)
    node_asked (of_and items others are) = at_nodes _ _ _ _ (keys_and items) (keys_and others) (items_asked are)
    node_asked (of_or a b c d one two) = at_nodes _ _ _ _ (keys_or a b) (keys_or c d) (joined (node_keys a) (node_keys b) (node_keys c) (node_keys d) (node_asked one) (node_asked two))
    node_asked (of_maybe a b c d one two) = at_nodes _ _ _ _ (keys_maybe a b) (keys_maybe c d) (joined (node_keys a) (node_keys b) (node_keys c) (node_keys d) (node_asked one) (node_asked two))
    node_asked (of_before a b c d one two) = at_nodes _ _ _ _ (keys_before a b) (keys_before c d) (joined (node_keys a) (node_keys b) (node_keys c) (node_keys d) (node_asked one) (node_asked two))
    node_asked (of_near n a b c d one two) = at_nodes _ _ _ _ (keys_near n a b) (keys_near n c d) (joined (node_keys a) (node_keys b) (node_keys c) (node_keys d) (node_asked one) (node_asked two))
    node_asked (of_sentence a b c d one two) = at_nodes _ _ _ _ (keys_sentence a b) (keys_sentence c d) (joined (node_keys a) (node_keys b) (node_keys c) (node_keys d) (node_asked one) (node_asked two))
    node_asked (of_paragraph a b c d one two) = at_nodes _ _ _ _ (keys_paragraph a b) (keys_paragraph c d) (joined (node_keys a) (node_keys b) (node_keys c) (node_keys d) (node_asked one) (node_asked two))
    node_asked (of_span zones a c one) = at_nodes _ _ _ _ (keys_span zones a) (keys_span zones c) (node_asked one)

    items_asked : {items others : List Item} → AreRewritten lists items others → Asked (flat_map (λ (item : Item). node_keys item.node) items) (flat_map (λ (item : Item). node_keys item.node) others)
    items_asked no_items = of_whole []
    items_asked (more_items item other items others same one rest) =
        joined (node_keys item.node) (flat_map (λ (item : Item). node_keys item.node) items) (node_keys other.node) (flat_map (λ (item : Item). node_keys item.node) others) (node_asked one) (items_asked rest)

  abbrev keys_of_root : Option Node → List Key
  keys_of_root root = elim root [ None ↦ [] | Some node ↦ node_keys node ]

  root_asked : (root other : Option Node) → IsRootRewritten lists root other → Asked (keys_of_root root) (keys_of_root other)
  root_asked None None is = of_whole []
  root_asked (Some node) (Some other) is = node_asked is
  root_asked None (Some other) is = absurd is
  root_asked (Some node) None is = absurd is

-- ---- how many words there are for all of them

-- the list of a keyword with another query position gives none
later_words : (first : Key) (list : ℕ × List (List ℕ)) (lists : Lists) (keys : List Key) → list.0 ≡ first.query → All (λ later. first.query ≢ later.query) keys
    → sum_by (room (list ∷ lists)) keys ≡ sum_by (room lists) keys
later_words first list lists [] is apart = refl
later_words first list lists (key ∷ keys) is apart =
    let other : (list.0 == key.query) ≡ false = ne_eqb list.0 key.query (λ same. All-head (λ (later : Key). first.query ≢ later.query) key keys apart (sym is ∙ same)) in
    let rest = later_words first list lists keys is (λ k d low. apart (suc k) d (omega (arith, low))) in
    sum_by-cons (room (list ∷ lists)) key keys
    ∙ ap₂ ◌+◌ (ap (λ (own : List (List ℕ)). 1 + cond key.prefix (length own) 0) (list_there key.query list lists other)) rest
    ∙ sym (sum_by-cons (room lists) key keys)

rooms_are : (docs : List DocRow) (keys : List Key) (lists : Lists) → AllPairs (λ key later. key.query ≢ later.query) keys → AreExpanded docs keys lists → sum_by (room lists) keys ≡ length keys + words_together lists
rooms_are docs [] [] apart are = refl
rooms_are docs [] (list ∷ lists) apart are = absurd are
rooms_are docs (key ∷ keys) lists apart are = by_test (λ ls own. rooms_are docs keys ls rest_apart own) key.prefix refl lists are
  where
    rest_apart : AllPairs (λ key later. key.query ≢ later.query) keys
    rest_apart i j d low high = apart (suc i) (suc j) d (omega (arith, low)) (omega (arith, high))

    first_apart : All (λ later. key.query ≢ later.query) keys
    first_apart k d low = apart zero (suc k) d (omega arith) (omega (arith, low))

    by_test : ((ls : Lists) → AreExpanded docs keys ls → sum_by (room ls) keys ≡ length keys + words_together ls) → (b : Bool) → key.prefix ≡ b → (ls : Lists) → AllZip (IsListOf docs) (cond key.prefix (key ∷ prefixes keys) (prefixes keys)) ls → sum_by (room ls) (key ∷ keys) ≡ length (key ∷ keys) + words_together ls
    by_test of_rest false e ls zip =
        let own = subst (λ (b : Bool). AllZip (IsListOf docs) (cond b (key ∷ prefixes keys) (prefixes keys)) ls) e zip in
        let cons = sum_by-cons (room ls) key keys in
        let here : room ls key ≡ 1 = ap (λ (b : Bool). 1 + cond b (length (list_of key.query ls)) 0) e in
        let rest = of_rest ls own in
        omega (arith, cons, here, rest)
    by_test of_rest true e [] zip = absurd (subst (λ (b : Bool). AllZip (IsListOf docs) (cond b (key ∷ prefixes keys) (prefixes keys)) []) e zip)
    by_test of_rest true e (list ∷ ls) zip =
        let own = subst (λ (b : Bool). AllZip (IsListOf docs) (cond b (key ∷ prefixes keys) (prefixes keys)) (list ∷ ls)) e zip in
        let cons = sum_by-cons (room (list ∷ ls)) key keys in
        let mine : list_of key.query (list ∷ ls) ≡ list.1 = list_here key.query list ls (eq-eqb list.0 key.query own.0.query) in
        let here : room (list ∷ ls) key ≡ 1 + length list.1 = ap₂ (λ (b : Bool) (words : List (List ℕ)). 1 + cond b (length words) 0) e mine in
        let same = later_words key list ls keys own.0.query first_apart in
        let rest = of_rest ls own.1 in
        let words : words_together (list ∷ ls) ≡ length list.1 + words_together ls = sum_by-cons (λ (l : ℕ × List (List ℕ)). length l.1) list ls in
        omega (arith, cons, here, same, rest, words)

-- ---- a query that was read

at_number : (keys : List Key) (k : ℕ) (d : Key) → map (λ (key : Key). key.query) keys ≡ range_with_len 1 (length keys) → k < length keys → (get_or keys k d).query ≡ 1 + k
at_number keys k d numbers within =
    sym (get_or-map (λ (key : Key). key.query) keys k d 0 within) ∙ ap (λ list. get_or list k 0) numbers ∙ get_or-range_with_len 1 (length keys) k 0 within

-- no two of its keywords have one query position
pub are_apart : (query : Query) → IsNumbered query → AllPairs (λ key later. key.query ≢ later.query) (query_keys query)
are_apart query numbered i j d low high same =
    let one = at_number (query_keys query) i d numbered.numbers (omega (arith, low, high)) in
    let two = at_number (query_keys query) j d numbered.numbers high in
    omega (arith, one, two, same, low)

-- what is asked in its place has query positions
pub positions_kept : (docs : List DocRow) (query other : Query) (lists : Lists) → IsNumbered query → AreExpanded docs (query_keys query) lists → words_together lists ≤ MAX_PREFIX_WORDS → IsQueryFor query lists other → HasPositions other
positions_kept docs query other lists numbered are few is =
    let asked = root_asked lists query.keywords query.root other.root is.root in
    let rooms = rooms_are docs (query_keys query) lists (are_apart query numbered) are in
    let count = is.keywords in
    let own = numbered.count in
    let short = numbered.few in record {
      few = omega (arith, count, own, short);
      short = let most = asked.most in omega (arith, most, rooms, few, short);
      count = let least = asked.least in omega (arith, count, own, least);
      within = subst (λ n. All (Lies n) (query_keys other)) (sym count) (asked.lie lies);
    }
  where
    lies : All (Lies query.keywords) (query_keys query)
    lies k d low =
        let number = at_number (query_keys query) k d numbered.numbers low in
        let own = numbered.count in
        (omega (arith, number), omega (arith, number, low, own))
