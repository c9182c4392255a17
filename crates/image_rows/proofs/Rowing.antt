-- What a row made of marks and of words at positions answers.
use Rattle.std.proofs.Common.{◌≡◌, ℕ, zero, suc, ◌+◌, ◌*◌, ◌<◌, ◌≤◌, Bool, true, false, cond, List, [], ◌∷◌, ◌++◌, length, map, refl, sym, ap, ◌∙◌, arith}
use Rattle.std.specs.List.{AllByRecursion, AllZip, filter}
use Rattle.std.specs.Str.{bytes_eq}
use Rattle.std.proofs.lemmas.List.Elements.{filter-append}
use Rattle.std.proofs.lemmas.Slice.Eq.{bytes_eq-Decides}
use Rattle.doc_types.specs.declared.tokens.Gap.{Gap}
use Rattle.doc_types.specs.declared.tokens.Gap.TheVariants as kinds
use Rattle.doc_types.specs.Chunks.{positions_of}
use Rattle.doc_types.proofs.FieldParts.{parts}
use Rattle.doc_bytes.specs.Reading.{FieldSpan, later_spans, with_spans}
use Rattle.posting_codec.specs.HitLists.{key, Ascend}
use Rattle.chunk_damage.specs.WordLists.{Entry}
use Rattle.chunk_damage.specs.RowMarks.{FieldMarks, is_taken}
use Rattle.chunk_damage.specs.Cover.{has_key, hits_in, owners}
use Rattle.image_rows.specs.steps.Between.{AreLaid, from_on, words_between}
use Rattle.image_rows.specs.steps.Owned.{AreOwned, AreWellPlaced, all_places, row_words, word_at}
use Rattle.image_rows.specs.steps.ContentsOf.{AllDiffer, Differs}
use Rattle.image_rows.proofs.Fields.{places_between}

abbrev one : Bool → ℕ
one b = cond b 1 0

one_false : (b : Bool) → one b ≡ 0 → b ≡ false
one_false true e = absurd (omega (arith, e))
one_false false e = refl

-- ---- words at positions

-- a word has those positions at which it stands
abbrev pub Owns : List (List ℕ) → List (List Entry) → ℕ → ℕ → List ℕ → Type 0
Owns words lists row k at = AllZip (λ word list. bytes_eq at word ≡ has_key (hits_in row list) k) words lists

none_own : (row k : ℕ) (at : List ℕ) (words : List (List ℕ)) (lists : List (List Entry)) → length words ≡ length lists → Differs at words → owners lists row k ≡ 0
    → Owns words lists row k at
none_own row k at [] [] long apart none = tt
none_own row k at [] (l ∷ ls) long apart none = absurd (omega (arith, long))
none_own row k at (w ∷ ws) [] long apart none = absurd (omega (arith, long))
none_own row k at (w ∷ ws) (l ∷ ls) long apart none =
    (apart.0.0 ∙ sym (one_false (has_key (hits_in row l) k) (omega (arith, none))), none_own row k at ws ls (omega (arith, long)) apart.1 (omega (arith, none)))

-- what holds of each word holds of the one at a position that has one
pub of_word : (P : List ℕ → Type 0) (row k : ℕ) (words : List (List ℕ)) (lists : List (List Entry)) → length words ≡ length lists → AllByRecursion P words
    → 1 ≤ owners lists row k → P (word_at words lists row k)
of_word P row k [] [] long all some = absurd (omega (arith, some))
of_word P row k [] (l ∷ ls) long all some = absurd (omega (arith, long))
of_word P row k (w ∷ ws) [] long all some = absurd (omega (arith, long))
of_word P row k (w ∷ ws) (l ∷ ls) long all some = by (λ its. of_word P row k ws ls (omega (arith, long)) all.1 its) (has_key (hits_in row l) k) some
  where
    by : (1 ≤ owners ls row k → P (word_at ws ls row k)) → (b : Bool) → 1 ≤ one b + owners ls row k → P (cond b w (word_at ws ls row k))
    by later true some = all.0
    by later false some = later (omega (arith, some))

own_same : (w : List ℕ) → bytes_eq w w ≡ true
own_same w = (bytes_eq-Decides w w).1 refl

pub owned : (row k : ℕ) (words : List (List ℕ)) (lists : List (List Entry)) → length words ≡ length lists → AllDiffer words → owners lists row k ≡ 1
    → Owns words lists row k (word_at words lists row k)
owned row k [] [] long apart some = absurd (omega (arith, some))
owned row k [] (l ∷ ls) long apart some = absurd (omega (arith, long))
owned row k (w ∷ ws) [] long apart some = absurd (omega (arith, long))
owned row k (w ∷ ws) (l ∷ ls) long apart some = by (λ its. owned row k ws ls (omega (arith, long)) apart.1 its) (has_key (hits_in row l) k) refl some
  where
    by : (owners ls row k ≡ 1 → Owns ws ls row k (word_at ws ls row k)) → (b : Bool) → has_key (hits_in row l) k ≡ b → one b + owners ls row k ≡ 1
        → (bytes_eq (cond b w (word_at ws ls row k)) w ≡ has_key (hits_in row l) k) × Owns ws ls row k (cond b w (word_at ws ls row k))
    by later true is e = (own_same w ∙ sym is, none_own row k w ws ls (omega (arith, long)) apart.0 (omega (arith, e)))
    by later false is e = (
      of_word (λ v. bytes_eq v w ≡ false) row k ws ls (omega (arith, long)) (turned ws apart.0) (omega (arith, e)) ∙ sym is,
      later (omega (arith, e)),
    ) where
      turned : (vs : List (List ℕ)) → Differs w vs → AllByRecursion (λ v. bytes_eq v w ≡ false) vs
      turned [] d = tt
      turned (v ∷ vs) d = (d.0.1, turned vs d.1)

-- ---- the hits of a word in the row

-- the hits are those of the word at each position of these fields
abbrev pub AreOf : (ℕ → List ℕ) → List ℕ → List (ℕ × ℕ) → ℕ → List FieldMarks → Type 0
AreOf word w hits n [] = Unit {0}
AreOf word w hits n (m ∷ ms) =
    ((p : ℕ) → 1 ≤ p → p ≤ m.last → is_taken m.gaps p ≡ false → bytes_eq (word (n * 65536 + p)) w ≡ has_key hits (n * 65536 + p)) × ((p : ℕ) → is_taken m.gaps p ≡ true → has_key hits (n * 65536 + p) ≡ false) × AreWellPlaced m × AreOf word w hits (n + 1) ms

filter-map : (n : ℕ) (hits : List (ℕ × ℕ)) (ps : List ℕ)
    → map (λ p. (n, p)) (filter (λ p. has_key hits (n * 65536 + p)) ps) ≡ filter (λ (a : ℕ × ℕ). has_key hits (key a)) (map (λ p. (n, p)) ps)
filter-map n hits [] = refl
filter-map n hits (p ∷ ps) = by (has_key hits (n * 65536 + p)) (filter-map n hits ps)
  where
    by : (b : Bool) → map (λ p. (n, p)) (filter (λ p. has_key hits (n * 65536 + p)) ps) ≡ filter (λ (a : ℕ × ℕ). has_key hits (key a)) (map (λ p. (n, p)) ps)
        → map (λ p. (n, p)) (cond b (p ∷ filter (λ p. has_key hits (n * 65536 + p)) ps) (filter (λ p. has_key hits (n * 65536 + p)) ps)) ≡ cond b ((n, p) ∷ filter (λ (a : ℕ × ℕ). has_key hits (key a)) (map (λ p. (n, p)) ps)) (filter (λ (a : ℕ × ℕ). has_key hits (key a)) (map (λ p. (n, p)) ps))
    by true e = ap (λ l. (n, p) ∷ l) e
    by false e = e

pub lower : (high : ℕ) (gs : List (ℕ × Gap)) → AreLaid 2 high gs → AreLaid 1 high gs
lower high [] fit = tt
lower high (g ∷ gs) fit = (omega (arith, fit.0), fit.1, fit.2, fit.3)

pub hits_made : (word : ℕ → List ℕ) (w : List ℕ) (hits : List (ℕ × ℕ)) (n : ℕ) (ms : List FieldMarks) (spans : List FieldSpan) → AreOf word w hits n ms
    → parts n (positions_of w) (with_spans n (row_words word n ms) spans) ≡ filter (λ (a : ℕ × ℕ). has_key hits (key a)) (all_places n ms)
hits_made word w hits n [] spans are = refl
hits_made word w hits n (m ∷ ms) spans are =
    let field = places_between (λ p. word (n * 65536 + p)) w (λ p. has_key hits (n * 65536 + p)) m.last 1 m.last kinds.None m.gaps (omega arith) (lower m.last m.gaps are.2.between)
    (λ p low up free. are.0 p low (omega (arith, up)) free) are.1 in
    let here : map (λ p. (n, p)) (positions_of w (record { words = words_between (λ p. word (n * 65536 + p)) m.last 1 kinds.None m.gaps; spans = [] })) ≡ filter (λ (a : ℕ × ℕ). has_key hits (key a)) (map (λ p. (n, p)) (from_on m.last 1)) =
    ap (map (λ p. (n, p))) field ∙ filter-map n hits (from_on m.last 1) in
    let rest = hits_made word w hits (n + 1) ms (later_spans n spans) are.3 in
    ap (λ l. l ++ parts (n + 1) (positions_of w) (with_spans (n + 1) (row_words word (n + 1) ms) (later_spans n spans))) here
    ∙ ap (λ l. filter (λ (a : ℕ × ℕ). has_key hits (key a)) (map (λ p. (n, p)) (from_on m.last 1)) ++ l) rest
    ∙ sym (filter-append (λ (a : ℕ × ℕ). has_key hits (key a)) (map (λ p. (n, p)) (from_on m.last 1)) (all_places (n + 1) ms))

-- ---- all positions

sooner : (before low : ℕ) (hs : List (ℕ × ℕ)) → Ascend before hs → low ≤ before → Ascend low hs
sooner before low [] ascend le = tt
sooner before low (h ∷ hs) ascend le = (ascend.0, omega (arith, ascend.1, le), ascend.2)

field_ascend : (n c p before : ℕ) (rest : List (ℕ × ℕ)) → n < 32 → 1 ≤ p → p + c ≤ 65536 → before < n * 65536 + p → Ascend ((n + 1) * 65536) rest
    → Ascend before (map (λ p. (n, p)) (from_on c p) ++ rest)
field_ascend n zero p before rest few from up low ascend = sooner ((n + 1) * 65536) before rest ascend (omega (arith, low, up))
field_ascend n (suc c) p before rest few from up low ascend =
    (record { field = few; from_one = from; within = omega (arith, up) }, low, field_ascend n c (p + 1) (n * 65536 + p) rest few (omega arith) (omega (arith, up)) (omega arith) ascend)

pub places_ascend : (n : ℕ) (ms : List FieldMarks) → n + length ms ≤ 32 → AllByRecursion AreWellPlaced ms → Ascend (n * 65536) (all_places n ms)
places_ascend n [] few are = tt
places_ascend n (m ∷ ms) few are = field_ascend n m.last 1 (n * 65536) (all_places (n + 1) ms) (omega (arith, few)) (omega arith) (omega (arith, are.0.short)) (omega arith) (places_ascend (n + 1) ms (omega (arith, few)) are.1)

pub well_placed : (lists : List (List Entry)) (row n : ℕ) (ms : List FieldMarks) → AreOwned lists row n ms → AllByRecursion AreWellPlaced ms
well_placed lists row n [] own = tt
well_placed lists row n (m ∷ ms) own = (own.0.placed, well_placed lists row (n + 1) ms own.1)

-- where no boundary stands, one word does
pub one_free : (taken : Bool) (own : ℕ) → cond taken 1 0 + own ≡ 1 → taken ≡ false → own ≡ 1
one_free true own e free = absurd cc
one_free false own e free = omega (arith, e)
