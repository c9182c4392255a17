-- The words of keywords, each once, in the order of first use; and the number of a word among them.
use Rattle.std.proofs.Common.{◌≡◌, ℕ, ◌+◌, ◌<◌, ◌^◌, Bool, true, false, cond, List, [], ◌∷◌, ◌++◌, length, map, take, get_or, Bor, Some, None, suc, ◌≤◌, refl, sym, ap, ◌∙◌, append-nil, arith}
use Rattle.std.specs.Prelude.{◌&&◌, ◌||◌, not, nat_lt, unwrap_or}
use Rattle.std.specs.List.{filter, list_any, position, position_or_len}
use Rattle.std.specs.Str.{bytes_eq}
use Rattle.std.proofs.lemmas.Bool.{and_right, cond_both, ltb-true, false_from_ne_true}
use Rattle.std.proofs.lemmas.List.{map_more, map_push, length-map}
use Rattle.std.proofs.lemmas.List.Elements.{filter-append}
use Rattle.std.proofs.lemmas.Slice.Eq.{bytes_eq-Decides}
use Rattle.occ_lists.proofs.Members.{any_alike, any_filter, any_map}
use Rattle.query_tree.specs.declared.key.Key.{Key}
use Rattle.word_rows.specs.Keywords.{first_uses}
use Rattle.word_rows.specs.steps.Cursors.{with_word}
use Rattle.word_rows.specs.Slots.{number_among}
use Rattle.word_rows.specs.Terms.{IsShort}

eq_self : (w : List ℕ) → bytes_eq w w ≡ true
eq_self w = (bytes_eq-Decides w w).1 refl

is_other : (x w : List ℕ) → bytes_eq x w ≡ false → bytes_eq w x ≡ false
is_other x w differ = false_from_ne_true (bytes_eq w x) (λ same. let e : x ≡ w = sym ((bytes_eq-Decides w x).0 same) in let t : bytes_eq x w ≡ true = (bytes_eq-Decides x w).1 e in cc)

abbrev others : List ℕ → List ℕ → Bool
others x other = not (bytes_eq other x)

abbrev is : List ℕ → List ℕ → Bool
is w other = bytes_eq other w

still_at : (x w : List ℕ) → bytes_eq x w ≡ false → (o : List ℕ) (b : Bool) → bytes_eq o w ≡ b → (others x o && is w o) ≡ is w o
still_at x w differ o true e =
    let same : o ≡ w = (bytes_eq-Decides o w).0 e in
    let apart : bytes_eq o x ≡ false = ap (λ v. bytes_eq v x) same ∙ is_other x w differ in
    rw (apart, e) refl
still_at x w differ o false e = rw e (and_right (others x o) false refl)

-- another word stays
still_among : (x w : List ℕ) → bytes_eq x w ≡ false → (ws : List (List ℕ)) → list_any (is w) (filter (others x) ws) ≡ list_any (is w) ws
still_among x w differ ws =
    any_filter (is w) (others x) ws
    ∙ any_alike (λ o. others x o && is w o) (is w) (λ o. still_at x w differ o (bytes_eq o w) refl) ws

left_out : (x w : List ℕ) → bytes_eq x w ≡ true → (ws : List (List ℕ)) → filter (others x) (ws ++ w ∷ []) ≡ filter (others x) ws
left_out x w same ws =
    let e : bytes_eq w x ≡ true = (bytes_eq-Decides w x).1 (sym ((bytes_eq-Decides x w).0 same)) in
    let none : filter (others x) (w ∷ []) ≡ [] = rw e refl in
    filter-append (others x) ws (w ∷ []) ∙ ap (λ zs. filter (others x) ws ++ zs) none ∙ append-nil (filter (others x) ws)

kept : (x w : List ℕ) → bytes_eq x w ≡ false → (ws : List (List ℕ)) → filter (others x) (ws ++ w ∷ []) ≡ filter (others x) ws ++ w ∷ []
kept x w differ ws =
    let one : filter (others x) (w ∷ []) ≡ w ∷ [] = rw (is_other x w differ) refl in
    filter-append (others x) ws (w ∷ []) ∙ ap (λ zs. filter (others x) ws ++ zs) one

abbrev added : Bool → List (List ℕ) → List ℕ → List (List ℕ)
added b ws w = cond b ws (ws ++ w ∷ [])

one_more : (x w : List ℕ) (b : Bool) → bytes_eq x w ≡ b → (ws : List (List ℕ)) (a : Bool) → list_any (is w) ws ≡ a → x ∷ filter (others x) (added a ws w) ≡ added (b || list_any (is w) (filter (others x) ws)) (x ∷ filter (others x) ws) w
one_more x w true e ws true among = refl
one_more x w true e ws false among = ap (λ zs. x ∷ zs) (left_out x w e ws)
one_more x w false e ws true among = rw (still_among x w e ws, among) refl
one_more x w false e ws false among = rw (still_among x w e ws, among) (ap (λ zs. x ∷ zs) (kept x w e ws))

first_uses_push : (ws : List (List ℕ)) (w : List ℕ) → first_uses (ws ++ w ∷ []) ≡ with_word (first_uses ws) w
first_uses_push [] w = refl
first_uses_push (x ∷ ws) w =
    ap (λ zs. x ∷ filter (others x) zs) (first_uses_push ws w)
    ∙ one_more x w (bytes_eq x w) refl (first_uses ws) (list_any (is w) (first_uses ws)) refl

-- one keyword more
pub first_uses_more : {X Y : Type 0} (f : X → Y) (word : Y → List ℕ) (xs : List X) (i : ℕ) (x : X) (before after : List (List ℕ)) → i < length xs → x ≡ get_or xs i x → before ≡ first_uses (map word (map f (take i xs))) → after ≡ with_word before (word (f x)) → after ≡ first_uses (map word (map f (take (i + 1) xs)))
first_uses_more f word xs i x before after within at so more =
    let longer : map word (map f (take (i + 1) xs)) ≡ map word (map f (take i xs)) ++ word (f x) ∷ [] =
    ap (map word) (map_more f xs i x within) ∙ map_push word (map f (take i xs)) (f (get_or xs i x)) ∙ ap (λ y. map word (map f (take i xs)) ++ word (f y) ∷ []) (sym at) in
    more ∙ ap (λ ws. with_word ws (word (f x))) so ∙ sym (first_uses_push (map word (map f (take i xs))) (word (f x))) ∙ ap first_uses (sym longer)

abbrev nows : List (Bor (List ℕ)) → List (List ℕ)
nows words = map (λ word. word.now) words

told : (words : List (Bor (List ℕ))) (word : List ℕ) (r : Bool) → r ≡ list_any (λ seen. bytes_eq seen.now word) words → list_any (is word) (nows words) ≡ r
told words word r e = any_map (is word) (λ (seen : Bor (List ℕ)). seen.now) words ∙ sym e

pub word_added : (words slice after : List (Bor (List ℕ))) (word : Bor (List ℕ)) (r : Bool) → slice ≡ words → r ≡ list_any (λ seen. bytes_eq seen.now word.now) slice → r ≡ false → after ≡ words ++ word ∷ [] → nows after ≡ with_word (nows words) word.now
word_added words slice after word r same e fails more =
    let t : list_any (is word.now) (nows words) ≡ false = ap (λ ws. list_any (is word.now) (nows ws)) (sym same) ∙ told slice word.now r e ∙ fails in
    rw (more, t) (map_push (λ (w : Bor (List ℕ)). w.now) words word)

pub word_there : (words slice : List (Bor (List ℕ))) (word : Bor (List ℕ)) (r : Bool) → slice ≡ words → r ≡ list_any (λ seen. bytes_eq seen.now word.now) slice → r ≡ true → nows words ≡ with_word (nows words) word.now
word_there words slice word r same e passes =
    let t : list_any (is word.now) (nows words) ≡ true = ap (λ ws. list_any (is word.now) (nows ws)) (sym same) ∙ told slice word.now r e ∙ passes in
    rw t refl

-- ---- how many there are, and the number of one
not_more : (p : List ℕ → Bool) (ws : List (List ℕ)) → length (filter p ws) ≤ length ws
not_more p [] = omega arith
not_more p (w ∷ ws) = elim (p w) as (λ b. length (cond b (w ∷ filter p ws) (filter p ws)) ≤ suc (length ws)) [
  | true ↦ (let rest : length (filter p ws) ≤ length ws = not_more p ws in omega (arith, rest))
  | false ↦ (let rest : length (filter p ws) ≤ length ws = not_more p ws in omega (arith, rest))
]

short : (ws : List (List ℕ)) → length (first_uses ws) ≤ length ws
short [] = omega arith
short (w ∷ ws) =
    let here : length (filter (others w) (first_uses ws)) ≤ length (first_uses ws) = not_more (others w) (first_uses ws) in
    let rest : length (first_uses ws) ≤ length ws = short ws in
    omega (arith, here, rest)

place-map : {X Y : Type 0} (p : Y → Bool) (f : X → Y) (xs : List X) → position_or_len p (map f xs) ≡ position_or_len (λ x. p (f x)) xs
place-map p f [] = refl
place-map p f (x ∷ xs) = ap (λ n. cond (not (p (f x))) (1 + n) 0) (place-map p f xs)

position-map : {X Y : Type 0} (p : Y → Bool) (f : X → Y) (xs : List X) → position p (map f xs) ≡ position (λ x. p (f x)) xs
position-map p f xs = rw (place-map p f xs, length-map xs f) refl

pub number_is : (keys : List Key) (words : List (Bor (List ℕ))) (word : List ℕ) → nows words ≡ first_uses (map (λ key. key.word) keys) → unwrap_or (position (λ seen. bytes_eq word seen.now) words) 0 ≡ number_among keys word
number_is keys words word so =
    ap (λ o. unwrap_or o 0) (sym (position-map (bytes_eq word) (λ (w : Bor (List ℕ)). w.now) words))
    ∙ ap (λ ws. unwrap_or (position (bytes_eq word) ws) 0) so

within_bound : (n m : ℕ) → unwrap_or (cond (nat_lt n m) (Some n) None) 0 ≤ m
within_bound n m = cond_both (nat_lt n m) (Some n) None (λ o. unwrap_or o 0 ≤ m) (λ e. omega (arith, ltb-true n m e)) (λ e. omega arith)

number_within : {X : Type 0} (p : X → Bool) (xs : List X) → unwrap_or (position p xs) 0 ≤ length xs
number_within p xs = within_bound (position_or_len p xs) (length xs)

-- of few keywords the numbers are short
pub number_short : (keys : List Key) → length keys < 2 ^ 16 → IsShort (number_among keys)
number_short keys few word =
    let words = map (λ (key : Key). key.word) keys in
    omega (arith, few, number_within (bytes_eq word) (first_uses words), short words, length-map keys (λ (key : Key). key.word))
