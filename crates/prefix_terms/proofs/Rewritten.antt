-- A node without prefixes, by its kinds.
use Rattle.std.proofs.Common.{◌≡◌, ℕ, ◌+◌, ◌-◌, ◌/◌, ◌<◌, ◌≤◌, ◌==◌, List, [], ◌∷◌, ◌++◌, true, false, length, map, take, drop, get_or, refl, sym, ap, subst, ◌∙◌, arith}
use Rattle.std.proofs.lemmas.List.{length-drop, length-map, length-take-le, map-append, take-append-drop, take_more}
use Rattle.query_tree.specs.declared.key.Key.{Key}
use Rattle.query_tree.specs.declared.key.How.{How}
use Rattle.query_tree.specs.declared.query.Item.{Item}
use Rattle.query_tree.specs.declared.query.Node.{Node}
use Rattle.query_tree.specs.declared.query.Node.TheVariants as nodes
use Rattle.prefix_terms.specs.Prefixes.{AreRewritten, IsChoice, IsRewritten, Lists, asked, list_of, more_items, no_items, of_before, of_and, of_halves, of_maybe, of_near, of_one, of_or, of_paragraph, of_prefix, of_quoted, of_sentence, of_span, of_word, whole, with_word}

-- ---- a keyword

pub as_word : (lists : Lists) (key copy : Key) → key.prefix ≡ false → copy ≡ key → IsRewritten lists (nodes.Word key) (nodes.Word copy)
as_word lists key copy is same = subst (λ (own : Key). IsRewritten lists (nodes.Word key) (nodes.Word own)) (sym same) (of_word key is)

-- a prefix without words
pub as_empty : (lists : Lists) (key : Key) (made : Node) → key.prefix ≡ true → list_of key.query lists ≡ [] → made ≡ nodes.Word (with_word key []) → IsRewritten lists (nodes.Word key) made
as_empty lists key made is none same =
    of_prefix key made is
    (subst (IsChoice (map (with_word key) (asked (list_of key.query lists)))) (sym same) (subst (λ (words : List (List ℕ)). IsChoice (map (with_word key) (asked words)) (nodes.Word (with_word key []))) (sym none) (of_one (with_word key []))))

-- a prefix with some
pub as_choice : (lists : Lists) (key : Key) (words : List (List ℕ)) (made : Node) → key.prefix ≡ true → words ≡ list_of key.query lists → 0 < length words → IsChoice (map (with_word key) words) made → IsRewritten lists (nodes.Word key) made
as_choice lists key words made is same some choice =
    of_prefix key made is (subst (λ (own : List (List ℕ)). IsChoice (map (with_word key) (asked own)) made) same (subst (λ (own : List (List ℕ)). IsChoice (map (with_word key) own) made) (sym (all_asked words some)) choice))
  where
    all_asked : (own : List (List ℕ)) → 0 < length own → asked own ≡ own
    all_asked [] low = absurd (omega (arith, low))
    all_asked (word ∷ own) low = refl

-- one word
pub choice_one : (key : Key) (words : List (List ℕ)) (word : List ℕ) (made : Node) → length words ≡ 1 → word ≡ get_or words 0 word → made ≡ nodes.Word (with_word key word) → IsChoice (map (with_word key) words) made
choice_one key [] word made long is same = absurd (omega (arith, long))
choice_one key (w ∷ []) word made long is same = subst (IsChoice (with_word key w ∷ [])) (sym same) (subst (λ (own : List ℕ). IsChoice (with_word key w ∷ []) (nodes.Word (with_word key own))) (sym is) (of_one (with_word key w)))
choice_one key (w ∷ v ∷ words) word made long is same = absurd (omega (arith, long))

-- words in two halves
pub choice_halves : (key : Key) (words first second : List (List ℕ)) (half : ℕ) (a b : Node) → first ≡ take half words → second ≡ drop half words → half ≡ length words - length words / 2 → IsChoice (map (with_word key) first) a → IsChoice (map (with_word key) second) b → IsChoice (map (with_word key) words) (nodes.Or a b)
choice_halves key words first second half a b front back middle one two =
    let f = with_word key in
    let low : half ≤ length words = omega (arith, middle) in
    let whole : first ++ second ≡ words = ap (λ (l : List (List ℕ)). l ++ second) front ∙ ap (λ (l : List (List ℕ)). take half words ++ l) back ∙ take-append-drop half words in
    let long : length first ≡ half = ap length front ∙ length-take-le half words low in
    let rest : length second ≡ length words - half = ap length back ∙ length-drop half words in
    let one_long : length (map f first) ≡ length first = length-map first f in
    let two_long : length (map f second) ≡ length second = length-map second f in
    let whole_map : map f first ++ map f second ≡ map f words = sym (map-append f first second) ∙ ap (map f) whole in
    subst (λ (keys : List Key). IsChoice keys (nodes.Or a b)) whole_map
    (of_halves (map f first) (map f second) a b (omega (arith, long, rest, one_long, two_long, middle)) (omega (arith, long, rest, one_long, two_long, middle)) one two)

-- ---- the list of a prefix

pub list_here : (query : ℕ) (list : ℕ × List (List ℕ)) (lists : Lists) → (list.0 == query) ≡ true → list_of query (list ∷ lists) ≡ list.1
list_here query list lists e = rw (e, list_of) refl

pub list_there : (query : ℕ) (list : ℕ × List (List ℕ)) (lists : Lists) → (list.0 == query) ≡ false → list_of query (list ∷ lists) ≡ list_of query lists
list_there query list lists e = rw (e, list_of) refl

-- ---- the other kinds

pub as_quoted : (lists : Lists) (node : Node) (keys copies : List Key) (how : How) → node ≡ nodes.Quoted keys how → copies ≡ map whole keys → IsRewritten lists node (nodes.Quoted copies how)
as_quoted lists node keys copies how is same =
    subst (λ (n : Node). IsRewritten lists n (nodes.Quoted copies how)) (sym is) (subst (λ (own : List Key). IsRewritten lists (nodes.Quoted keys how) (nodes.Quoted own how)) (sym same) (of_quoted keys how))

pub as_and : (lists : Lists) (node : Node) (items others : List Item) → node ≡ nodes.And items → AreRewritten lists items others → IsRewritten lists node (nodes.And others)
as_and lists node items others is are = subst (λ (n : Node). IsRewritten lists n (nodes.And others)) (sym is) (of_and items others are)

pub as_or : (lists : Lists) (node : Node) (a b c d : Node) → node ≡ nodes.Or a b → IsRewritten lists a c → IsRewritten lists b d → IsRewritten lists node (nodes.Or c d)
as_or lists node a b c d is one two = subst (λ (own : Node). IsRewritten lists own (nodes.Or c d)) (sym is) (of_or a b c d one two)

pub as_maybe : (lists : Lists) (node : Node) (a b c d : Node) → node ≡ nodes.Maybe a b → IsRewritten lists a c → IsRewritten lists b d → IsRewritten lists node (nodes.Maybe c d)
as_maybe lists node a b c d is one two = subst (λ (own : Node). IsRewritten lists own (nodes.Maybe c d)) (sym is) (of_maybe a b c d one two)

pub as_before : (lists : Lists) (node : Node) (a b c d : Node) → node ≡ nodes.Before a b → IsRewritten lists a c → IsRewritten lists b d → IsRewritten lists node (nodes.Before c d)
as_before lists node a b c d is one two = subst (λ (own : Node). IsRewritten lists own (nodes.Before c d)) (sym is) (of_before a b c d one two)

pub as_near : (lists : Lists) (node : Node) (n : ℕ) (a b c d : Node) → node ≡ nodes.Near n a b → IsRewritten lists a c → IsRewritten lists b d → IsRewritten lists node (nodes.Near n c d)
as_near lists node n a b c d is one two = subst (λ (own : Node). IsRewritten lists own (nodes.Near n c d)) (sym is) (of_near n a b c d one two)

pub as_sentence : (lists : Lists) (node : Node) (a b c d : Node) → node ≡ nodes.Sentence a b → IsRewritten lists a c → IsRewritten lists b d → IsRewritten lists node (nodes.Sentence c d)
as_sentence lists node a b c d is one two = subst (λ (own : Node). IsRewritten lists own (nodes.Sentence c d)) (sym is) (of_sentence a b c d one two)

pub as_paragraph : (lists : Lists) (node : Node) (a b c d : Node) → node ≡ nodes.Paragraph a b → IsRewritten lists a c → IsRewritten lists b d → IsRewritten lists node (nodes.Paragraph c d)
as_paragraph lists node a b c d is one two = subst (λ (own : Node). IsRewritten lists own (nodes.Paragraph c d)) (sym is) (of_paragraph a b c d one two)

pub as_span : (lists : Lists) (node : Node) (zones copies : List ℕ) (a c : Node) → node ≡ nodes.ZoneSpan zones a → copies ≡ zones → IsRewritten lists a c → IsRewritten lists node (nodes.ZoneSpan copies c)
as_span lists node zones copies a c is same one =
    subst (λ (own : Node). IsRewritten lists own (nodes.ZoneSpan copies c)) (sym is) (subst (λ (own : List ℕ). IsRewritten lists (nodes.ZoneSpan zones a) (nodes.ZoneSpan own c)) (sym same) (of_span zones a c one))

-- ---- items, one more

rewritten_append : (lists : Lists) {xs ys : List Item} (zs ws : List Item) → AreRewritten lists xs ys → AreRewritten lists zs ws → AreRewritten lists (xs ++ zs) (ys ++ ws)
rewritten_append lists zs ws no_items two = two
rewritten_append lists zs ws (more_items item other items others same one rest) two = more_items item other (items ++ zs) (others ++ ws) same one (rewritten_append lists zs ws rest two)

pub items_more : (lists : Lists) (items made : List Item) (i : ℕ) (item other : Item) → i < length items → item ≡ get_or items i item → other.negated ≡ item.negated → IsRewritten lists item.node other.node → AreRewritten lists (take i items) made → AreRewritten lists (take (i + 1) items) (made ++ other ∷ [])
items_more lists items made i item other low is same one was =
    subst (λ (own : List Item). AreRewritten lists own (made ++ other ∷ [])) (sym (take_more items i item low ∙ ap (λ (r : Item). take i items ++ r ∷ []) (sym is)))
    (rewritten_append lists (item ∷ []) (other ∷ []) was (more_items item other [] [] same one no_items))

pub items_none : (lists : Lists) (items made : List Item) → made ≡ [] → AreRewritten lists (take 0 items) made
items_none lists items made none = subst (AreRewritten lists (take 0 items)) (sym none) no_items
