-- A row made of its parts has the places of each word that its list says.
use Rattle.std.proofs.Common.{◌≡◌, ℕ, ◌+◌, ◌*◌, ◌<◌, ◌≤◌, Bool, true, false, cond, eqb, List, [], ◌∷◌, ◌||◌, length, refl, ◌∙◌, arith}
use Rattle.std.specs.List.{AllByRecursion, AllZip}
use Rattle.std.specs.Str.{bytes_eq}
use Rattle.std.proofs.lemmas.Bool.{eqb-true}
use Rattle.doc_types.specs.declared.tokens.Gap.{Gap}
use Rattle.doc_types.specs.Chunks.{hits_of}
use Rattle.posting_codec.specs.HitLists.{Ascend}
use Rattle.chunk_damage.specs.WordLists.{Entry}
use Rattle.chunk_damage.specs.RowMarks.{FieldMarks, RowMarks, is_taken}
use Rattle.chunk_damage.specs.Cover.{has_key, hits_in, owners}
use Rattle.image_rows.specs.steps.Between.{AreLaid}
use Rattle.image_rows.specs.steps.Owned.{AllIn, AreOwned, IsOwned, all_places, word_at}
use Rattle.image_rows.specs.steps.Contents.{RowColumns, row_made}
use Rattle.image_rows.specs.steps.ContentsOf.{AllDiffer, IsGoodRow}
use Rattle.image_rows.proofs.Filters.{filter_in}
use Rattle.image_rows.proofs.Rowing.{AreOf, hits_made, one_free, owned, places_ascend, well_placed}

-- ---- pairs of words and lists

abbrev Words : Type 0
Words = List (List ℕ)

abbrev Lists : Type 0
Lists = List (List Entry)

spread_zip : {I : Type 0} (Q : I → List ℕ → List Entry → Type 0) (ws : Words) (ls : Lists) → length ws ≡ length ls → ((i : I) → AllZip (Q i) ws ls)
    → AllZip (λ w l. (i : I) → Q i w l) ws ls
spread_zip Q [] [] long all = tt
spread_zip Q [] (l ∷ ls) long all = absurd (omega (arith, long))
spread_zip Q (w ∷ ws) [] long all = absurd (omega (arith, long))
spread_zip Q (w ∷ ws) (l ∷ ls) long all = ((λ i. (all i).0), spread_zip Q ws ls (omega (arith, long)) (λ i. (all i).1))

pub map_zip : (P Q : List ℕ → List Entry → Type 0) (ws : Words) (ls : Lists) → ((w : List ℕ) (l : List Entry) → P w l → Q w l) → AllZip P ws ls → AllZip Q ws ls
map_zip P Q [] [] f all = tt
map_zip P Q [] (l ∷ ls) f all = absurd all
map_zip P Q (w ∷ ws) [] f all = absurd all
map_zip P Q (w ∷ ws) (l ∷ ls) f all = (f w l all.0, map_zip P Q ws ls f all.1)

pub both_zip : (P Q : List ℕ → List Entry → Type 0) (ws : Words) (ls : Lists) → AllZip P ws ls → AllZip Q ws ls → AllZip (λ w l. P w l × Q w l) ws ls
both_zip P Q [] [] p q = tt
both_zip P Q [] (l ∷ ls) p q = absurd p
both_zip P Q (w ∷ ws) [] p q = absurd p
both_zip P Q (w ∷ ws) (l ∷ ls) p q = ((p.0, q.0), both_zip P Q ws ls p.1 q.1)

pub of_lists : (P : List Entry → Type 0) (ws : Words) (ls : Lists) → length ws ≡ length ls → AllByRecursion P ls → AllZip (λ w l. P l) ws ls
of_lists P [] [] long all = tt
of_lists P [] (l ∷ ls) long all = absurd (omega (arith, long))
of_lists P (w ∷ ws) [] long all = absurd (omega (arith, long))
of_lists P (w ∷ ws) (l ∷ ls) long all = (all.0, of_lists P ws ls (omega (arith, long)) all.1)

no_owner : (row k : ℕ) (ls : Lists) → owners ls row k ≡ 0 → AllByRecursion (λ l. has_key (hits_in row l) k ≡ false) ls
no_owner row k [] e = tt
no_owner row k (l ∷ ls) e = (none (has_key (hits_in row l) k) (owners ls row k) e, no_owner row k ls (omega (arith, e)))
  where
    none : (b : Bool) (others : ℕ) → cond b 1 0 + others ≡ 0 → b ≡ false
    none true others e = absurd (omega (arith, e))
    none false others e = refl

none_taken : (b : Bool) (owned : ℕ) → cond b 1 0 + owned ≡ 1 → b ≡ true → owned ≡ 0
none_taken true owned e t = omega (arith, e)
none_taken false owned e t = absurd cc

taken_within : (low high p : ℕ) (gs : List (ℕ × Gap)) → AreLaid low high gs → is_taken gs p ≡ true → (low ≤ p) × (p < high)
taken_within low high p [] fit e = absurd cc
taken_within low high p (g ∷ gs) fit e = by (taken_within (g.0 + 2) high p gs fit.3) (eqb g.0 p) refl e
  where
    by : (is_taken gs p ≡ true → (g.0 + 2 ≤ p) × (p < high)) → (b : Bool) → eqb g.0 p ≡ b → (b || is_taken gs p) ≡ true → (low ≤ p) × (p < high)
    by later true is e = let same : g.0 ≡ p = eqb-true g.0 p is in (omega (arith, same, fit.0), omega (arith, same, fit.1))
    by later false is e = let its = later e in (omega (arith, its.0, fit.0), its.1)

-- the positions of a field that boundaries leave, and those that they take
abbrev FreeAt : FieldMarks → Type 0
FreeAt m = (p : ℕ) × (1 ≤ p) × (p ≤ m.last) × (is_taken m.gaps p ≡ false)

abbrev TakenAt : FieldMarks → Type 0
TakenAt m = (p : ℕ) × (is_taken m.gaps p ≡ true)

-- the list has a hit where the word stands, and none where a boundary does
abbrev AreFree : (ℕ → List ℕ) → ℕ → ℕ → FieldMarks → List ℕ → List Entry → Type 0
AreFree word row n m w l = (i : FreeAt m) → bytes_eq (word (n * 65536 + i.0)) w ≡ has_key (hits_in row l) (n * 65536 + i.0)

abbrev AreTaken : ℕ → ℕ → FieldMarks → List ℕ → List Entry → Type 0
AreTaken row n m w l = (i : TakenAt m) → has_key (hits_in row l) (n * 65536 + i.0) ≡ false

free_places : (words : Words) (lists : Lists) (row n : ℕ) (m : FieldMarks) → length words ≡ length lists → AllDiffer words → IsOwned lists row n m
    → AllZip (AreFree (word_at words lists row) row n m) words lists
free_places words lists row n m long apart own =
    spread_zip {I = FreeAt m} (λ i w l. bytes_eq (word_at words lists row (n * 65536 + i.0)) w ≡ has_key (hits_in row l) (n * 65536 + i.0)) words lists long
    (λ i. owned row (n * 65536 + i.0) words lists long apart (one_free (is_taken m.gaps i.0) (owners lists row (n * 65536 + i.0)) (own.each i.0 i.1 i.2) i.3))

taken_places : (words : Words) (lists : Lists) (row n : ℕ) (m : FieldMarks) → length words ≡ length lists → IsOwned lists row n m → AllZip (AreTaken row n m) words lists
taken_places words lists row n m long own =
    spread_zip {I = TakenAt m} (λ i w l. has_key (hits_in row l) (n * 65536 + i.0) ≡ false) words lists long
    (λ i. let inside = taken_within 2 m.last i.0 m.gaps own.placed.between i.1 in
    let one = own.each i.0 (omega (arith, inside.0)) (omega (arith, inside.1)) in
    of_lists (λ l. has_key (hits_in row l) (n * 65536 + i.0) ≡ false) words lists long
    (no_owner row (n * 65536 + i.0) lists (none_taken (is_taken m.gaps i.0) (owners lists row (n * 65536 + i.0)) one i.1)))

-- each word has its places in fields that are covered
each_of : (words : Words) (lists : Lists) (row n : ℕ) (ms : List FieldMarks) → length words ≡ length lists → AllDiffer words → AreOwned lists row n ms
    → AllZip (λ w l. AreOf (word_at words lists row) w (hits_in row l) n ms) words lists
each_of words lists row n [] long apart cover = of_lists (λ l. Unit {0}) words lists long (all_tt lists)
  where
    all_tt : (ls : Lists) → AllByRecursion (λ (l : List Entry). Unit {0}) ls
    all_tt [] = tt
    all_tt (l ∷ ls) = (tt, all_tt ls)
each_of words lists row n (m ∷ ms) long apart cover =
    let word : ℕ → List ℕ = word_at words lists row in
    let rest = each_of words lists row (n + 1) ms long apart cover.1 in
    let here = both_zip (AreFree word row n m) (AreTaken row n m) words lists (free_places words lists row n m long apart cover.0) (taken_places words lists row n m long cover.0) in
    let all = both_zip (λ w l. AreFree word row n m w l × AreTaken row n m w l) (λ w l. AreOf word w (hits_in row l) (n + 1) ms) words lists here rest in
    map_zip _ (λ w l. AreOf word w (hits_in row l) n (m ∷ ms)) words lists
    (λ w l its. ((λ p low up f. its.0.0 (p, low, up, f)), (λ p t. its.0.1 (p, t)), cover.0.placed, its.1)) all

-- so the row has the places of each word that its list says
pub row_hits : (fields : ℕ) (words : Words) (lists : Lists) (n : ℕ) (columns : RowColumns) (m : RowMarks) → fields ≤ 32 → length words ≡ length lists → AllDiffer words
    → IsGoodRow fields words lists n m → AllZip (λ w l. hits_of w (row_made words lists n columns m) ≡ hits_in n l) words lists
row_hits fields words lists n columns m few long apart good =
    let all_positions : List (ℕ × ℕ) = all_places 0 m.fields in
    let ascend = places_ascend 0 m.fields (omega (arith, good.many, few)) (well_placed lists n 0 m.fields good.covered) in
    let of = each_of words lists n 0 m.fields long apart good.covered in
    let within = of_lists (λ l. AllIn all_positions (hits_in n l)) words lists long good.within in
    let up = of_lists (λ l. Ascend 0 (hits_in n l)) words lists long good.ascend in
    let inside = both_zip (λ w l. AllIn all_positions (hits_in n l)) (λ w l. Ascend 0 (hits_in n l)) words lists within up in
    let all = both_zip (λ w l. AreOf (word_at words lists n) w (hits_in n l) 0 m.fields) (λ w l. AllIn all_positions (hits_in n l) × Ascend 0 (hits_in n l)) words lists of inside in
    map_zip _ (λ w l. hits_of w (row_made words lists n columns m) ≡ hits_in n l) words lists
    (λ w l its. hits_made (word_at words lists n) w (hits_in n l) 0 m.fields m.spans its.0 ∙ filter_in 0 0 all_positions (hits_in n l) ascend its.1.1 its.1.0) all
