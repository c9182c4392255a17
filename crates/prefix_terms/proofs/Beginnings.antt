-- Words that begin so stand one behind the other.
use Rattle.std.proofs.Common.{◌≡◌, ℕ, List, [], ◌∷◌, ◌++◌, Bool, true, false, ◌&&◌, length, drop, refl, sym, ap, subst, ◌∙◌, ⊎_elim}
use Rattle.std.specs.Cmp.Lexicographic.{slice_cmp}
use Rattle.std.specs.Ordering.{is_lt, nat_cmp, ordering_then}
use Rattle.std.specs.declared.cmp.Ordering.{Ordering}
use Rattle.std.specs.declared.cmp.Ordering.TheVariants.{Equal, Greater, Less}
use Rattle.std.proofs.lemmas.Bool.{and_parts, both_ways, cases_Bool, or_cases, or_left, or_right}
use Rattle.std.proofs.lemmas.Bool.Decides.{Decides-eqb}
use Rattle.std.proofs.lemmas.Cmp.{nat_cmp_total, ranked, tied_itself}
use Rattle.std.proofs.lemmas.Slice.Eq.{starts_is}
use Rattle.query_tree.specs.Taking.{begins_so}
use Rattle.prefix_terms.specs.steps.Parts.{less, stands_before}
use Rattle.prefix_terms.proofs.Order.{less_than}

-- a word that begins so is the beginning and more
whole : (beginning word : List ℕ) → begins_so word beginning ≡ true → word ≡ beginning ++ drop (length beginning) word
whole beginning word e = (starts_is Decides-eqb word beginning (begins_so word beginning) refl).0 e

begun : (beginning word rest : List ℕ) → word ≡ beginning ++ rest → begins_so word beginning ≡ true
begun beginning word rest e = (starts_is Decides-eqb word beginning (begins_so word beginning) refl).1 rest e

same_head : (x : ℕ) (o : Ordering) → is_lt (ordering_then (nat_cmp x x) o) ≡ is_lt o
same_head x o = ap (λ (first : Ordering). is_lt (ordering_then first o)) (tied_itself nat_cmp_total x)

not_before : (beginning rest : List ℕ) → less (beginning ++ rest) beginning ≡ false
not_before [] [] = refl
not_before [] (y ∷ rest) = refl
not_before (x ∷ beginning) rest = same_head x (slice_cmp nat_cmp (beginning ++ rest) beginning) ∙ not_before beginning rest

-- it doesn't stand before the beginning
pub begins_behind : (beginning word : List ℕ) → begins_so word beginning ≡ true → less word beginning ≡ false
begins_behind beginning word e = ap (λ (w : List ℕ). less w beginning) (whole beginning word e) ∙ not_before beginning (drop (length beginning) word)

-- a word between the beginning and one that begins so
amid : (beginning rest word : List ℕ) → less word (beginning ++ rest) ≡ true → less word beginning ≡ false → (more : List ℕ) × (word ≡ beginning ++ more)
amid [] rest word before behind = (word, refl)
amid (x ∷ beginning) rest [] before behind = absurd cc
amid (x ∷ beginning) rest (y ∷ word) before behind = by_heads (amid beginning rest word) (nat_cmp y x) refl
  where
    by_heads : (less word (beginning ++ rest) ≡ true → less word beginning ≡ false → (more : List ℕ) × (word ≡ beginning ++ more)) → (o : Ordering) → nat_cmp y x ≡ o → (more : List ℕ) × ((y ∷ word) ≡ (x ∷ beginning) ++ more)
    by_heads go Less e = absurd (both_ways (less (y ∷ word) (x ∷ beginning)) behind (ap (λ (o : Ordering). is_lt (ordering_then o (slice_cmp nat_cmp word beginning))) e))
    by_heads go Equal e =
        let same : y ≡ x = ranked y x Equal (sym e) in
        let low : less word (beginning ++ rest) ≡ true = sym (ap (λ (o : Ordering). is_lt (ordering_then o (slice_cmp nat_cmp word (beginning ++ rest)))) e) ∙ before in
        let high : less word beginning ≡ false = sym (ap (λ (o : Ordering). is_lt (ordering_then o (slice_cmp nat_cmp word beginning))) e) ∙ behind in
        let its = go low high in
        (its.0, ap (λ n. n ∷ word) same ∙ ap (λ (w : List ℕ). x ∷ w) its.1)
    by_heads go Greater e = absurd (both_ways (less (y ∷ word) (x ∷ (beginning ++ rest))) (ap (λ (o : Ordering). is_lt (ordering_then o (slice_cmp nat_cmp word (beginning ++ rest)))) e) before)

-- begins so too
pub begins_amid : (beginning word own : List ℕ) → begins_so word beginning ≡ true → less own word ≡ true → less own beginning ≡ false → begins_so own beginning ≡ true
begins_amid beginning word own begins before behind =
    let its = amid beginning (drop (length beginning) word) own (subst (λ (w : List ℕ). less own w ≡ true) (whole beginning word begins) before) behind in
    begun beginning own its.0 its.1

-- what stands before a word that counts counts too
pub counts_down : (beginning : List ℕ) (with : Bool) (word own : List ℕ) → stands_before beginning with word ≡ true → less own word ≡ true → stands_before beginning with own ≡ true
counts_down beginning with word own counts before =
    ⊎_elim
    (λ low. or_left (less own beginning) (with && begins_so own beginning) (less_than own word beginning before low))
    (λ begins.
    let both = and_parts with (begins_so word beginning) begins in
    ⊎_elim
    (λ low. or_left (less own beginning) (with && begins_so own beginning) low)
    (λ high. or_right (less own beginning) (with && begins_so own beginning) (ap (λ (b : Bool). b && begins_so own beginning) both.0 ∙ begins_amid beginning word own both.1 before high))
    (cases_Bool (less own beginning)))
    (or_cases (less word beginning) (with && begins_so word beginning) counts)
