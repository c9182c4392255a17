-- The parts are gone over, one part more at a time.
use Rattle.std.proofs.Common.{◌≡◌, ℕ, ◌+◌, ◌<◌, ◌≤◌, List, [], ◌∷◌, ◌++◌, None, Some, length, get_or, set, take, sym, ap, subst, ◌∙◌, arith, append_assoc, append-nil, ◌⊎◌, ⊎_elim}
use Rattle.std.specs.List.{flat_map}
use Rattle.std.proofs.lemmas.List.{get_or-set_other, get_or-append-add, get_or-set_same, get_or_append_left, get_or_default, take_more}
use Rattle.std.proofs.lemmas.List.Concat.{flat_map-append}
use Rattle.image_join.specs.steps.Entries.{Entry, entries_in}
use Rattle.image_join.specs.declared.nexts.Next.{Next}
use Rattle.image_join.specs.steps.Merging.{StandsAt, blank_next, next_at}
use Rattle.image_join.specs.steps.Parts.{PartValue, blank_part, part_at}

equal_or_below : (a b : ℕ) → a < b + 1 → (a ≡ b) ⊎ (a < b)
equal_or_below a b low = grind arith

-- the parts up to here
pub nexts_more : (word : List ℕ) (parts : List PartValue) (nexts : List Next) (i : ℕ) (next : Next) → i < length nexts → StandsAt (Some word) (part_at parts i) next → ((k : ℕ) → k < i → StandsAt (Some word) (part_at parts k) (next_at nexts k))
    → (k : ℕ) → k < i + 1 → StandsAt (Some word) (part_at parts k) (next_at (set nexts i next) k)
nexts_more word parts nexts i next within own was k low =
    ⊎_elim
    (λ same.
    let here : next_at (set nexts i next) k ≡ next = ap (next_at (set nexts i next)) same ∙ get_or-set_same nexts i next blank_next within in
    subst (StandsAt (Some word) (part_at parts k)) (sym here) (subst (λ m. StandsAt (Some word) (part_at parts m) next) (sym same) own))
    (λ below.
    let here : next_at (set nexts i next) k ≡ next_at nexts k = get_or-set_other nexts i k next blank_next (λ same. omega (arith, same, below)) in
    subst (StandsAt (Some word) (part_at parts k)) (sym here) (was k below))
    (equal_or_below k i low)

-- those behind stand as they did
pub later_more : (nexts initial : List Next) (i : ℕ) (next : Next) → ((k : ℕ) → i ≤ k → next_at nexts k ≡ next_at initial k) → (k : ℕ) → i + 1 ≤ k → next_at (set nexts i next) k ≡ next_at initial k
later_more nexts initial i next was k low = get_or-set_other nexts i k next blank_next (λ same. omega (arith, same, low)) ∙ was k (omega (arith, low))

-- before the first word
pub first_more : (parts : List PartValue) (nexts after : List Next) (i : ℕ) (next : Next) (part : PartValue) → i < length parts → part ≡ get_or parts i part → length nexts ≡ i → StandsAt None part next → after ≡ nexts ++ next ∷ []
    → ((k : ℕ) → k < i → StandsAt None (part_at parts k) (next_at nexts k)) → (k : ℕ) → k < i + 1 → StandsAt None (part_at parts k) (next_at after k)
first_more parts nexts after i next part within is long own put was k low =
    ⊎_elim
    (λ same.
    let at : k ≡ length nexts + 0 = omega (arith, same, long) in
    let here : next_at after k ≡ next = ap (λ (l : List Next). next_at l k) put ∙ ap (next_at (nexts ++ next ∷ [])) at ∙ get_or-append-add nexts (next ∷ []) 0 blank_next in
    let of : part ≡ part_at parts k = is ∙ get_or_default parts i part blank_part within ∙ ap (part_at parts) (sym same) in
    subst (StandsAt None (part_at parts k)) (sym here) (subst (λ p. StandsAt None p next) of own))
    (λ below.
    let here : next_at after k ≡ next_at nexts k = ap (λ (l : List Next). next_at l k) put ∙ get_or_append_left nexts (next ∷ []) blank_next k (omega (arith, below, long)) in
    subst (StandsAt None (part_at parts k)) (sym here) (was k below))
    (equal_or_below k i low)

-- the entries up to here
pub entries_more : (word numbers : List ℕ) (parts : List PartValue) (i : ℕ) (part : PartValue) (start now after : List Entry) → i < length parts → part ≡ get_or parts i part
    → now ≡ start ++ flat_map (entries_in word numbers) (take i parts) → after ≡ now ++ entries_in word numbers part → after ≡ start ++ flat_map (entries_in word numbers) (take (i + 1) parts)
entries_more word numbers parts i part start now after low is was put =
    let own = entries_in word numbers part in
    let of : PartValue → List Entry = entries_in word numbers in
    put ∙ ap (λ l. l ++ own) was ∙ append_assoc start (flat_map of (take i parts)) own
    ∙ ap (λ l. start ++ l) (ap (λ l. flat_map of (take i parts) ++ l) (sym (append-nil own)) ∙ sym (flat_map-append of (take i parts) (part ∷ [])) ∙ ap (flat_map of) (sym (take_more parts i part low ∙ ap (λ (p : PartValue). take i parts ++ p ∷ []) (sym is))))
