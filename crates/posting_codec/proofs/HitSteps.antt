-- Hit lists one hit at a time, and why no spelling begins another.
use Rattle.std.proofs.Common.{◌≡◌, ℕ, ◌+◌, ◌-◌, ◌<◌, ◌≤◌, ◌^◌, List, [], ◌∷◌, ◌++◌, length, drop, refl, sym, ap, subst, ◌∙◌, arith, append_assoc, append-nil, length-append}
use Rattle.std.proofs.Math.Seq.{drop-append_seam}
use Rattle.std.proofs.lemmas.List.{drop-drop}
use Rattle.posting_codec.specs.HitLists.{IsHit, key, Ascend, AreHits, differences, hit_list}
use Rattle.posting_codec.specs.Numbers.{number}
use Rattle.posting_codec.proofs.Spellings.{one_number}

-- the key of the last hit, or this one where there is none
abbrev pub last_key : ℕ → List (ℕ × ℕ) → ℕ
last_key before [] = before
last_key before (hit ∷ hits) = last_key (key hit) hits

-- keys are below 2 ^ 21
pub key_small : (hit : ℕ × ℕ) → IsHit hit → key hit < 2 ^ 21
key_small hit is = omega (arith, is.field, is.within)

-- so there are fewer hits than that
pub few : (before : ℕ) (hits : List (ℕ × ℕ)) → before < 2 ^ 21 → Ascend before hits → before + length hits < 2 ^ 21
few before [] low ascend = omega (arith, low)
few before (hit ∷ hits) low ascend =
    let rest : key hit + length hits < 2 ^ 21 = few (key hit) hits (key_small hit ascend.0) ascend.2 in
    omega (arith, rest, ascend.1)

-- one hit more
pub Ascend_more : (before : ℕ) (hits : List (ℕ × ℕ)) (hit : ℕ × ℕ) → Ascend before hits → IsHit hit → last_key before hits < key hit → Ascend before (hits ++ hit ∷ [])
Ascend_more before [] hit ascend is behind = (is, behind, tt)
Ascend_more before (h ∷ hits) hit ascend is behind = (ascend.0, ascend.1, Ascend_more (key h) hits hit ascend.2 is behind)

pub last_more : (before : ℕ) (hits : List (ℕ × ℕ)) (hit : ℕ × ℕ) → last_key before (hits ++ hit ∷ []) ≡ key hit
last_more before [] hit = refl
last_more before (h ∷ hits) hit = last_more (key h) hits hit

pub differences_more : (before : ℕ) (hits : List (ℕ × ℕ)) (hit : ℕ × ℕ) → differences before (hits ++ hit ∷ []) ≡ differences before hits ++ number (key hit - last_key before hits)
differences_more before [] hit = append-nil (number (key hit - before))
differences_more before (h ∷ hits) hit =
    ap (λ l. number (key h - before) ++ l) (differences_more (key h) hits hit) ∙ sym (append_assoc (number (key h - before)) (differences (key h) hits) (number (key hit - last_key (key h) hits)))

-- a hit is told by its key
pub one_key : (hit other : ℕ × ℕ) → IsHit hit → IsHit other → key hit ≡ key other → hit ≡ other
one_key hit other is its e =
    let field : hit.0 ≡ other.0 = omega (arith, e, is.within, its.within) in
    let position : hit.1 ≡ other.1 = omega (arith, e, field) in
    λ i. (field i, position i)

-- what the differences of some hits begin with are those of the hits that they begin with
pub front : (before : ℕ) (hits all : List (ℕ × ℕ)) (x y : List ℕ) → Ascend before hits → Ascend before all → length hits ≤ length all → differences before hits ++ x ≡ differences before all ++ y
    → (later : List (ℕ × ℕ)) × (all ≡ hits ++ later) × (x ≡ differences (last_key before hits) later ++ y) × Ascend (last_key before hits) later
front before [] all x y ah aa long e = (all, refl, e, aa)
front before (h ∷ hits) [] x y ah aa long e = absurd (omega (arith, long))
front before (h ∷ hits) (a ∷ all) x y ah aa long e =
    let f : number (key h - before) ++ (differences (key h) hits ++ x) ≡ number (key a - before) ++ (differences (key a) all ++ y) =
    sym (append_assoc (number (key h - before)) (differences (key h) hits) x) ∙ e ∙ append_assoc (number (key a - before)) (differences (key a) all) y in
    let its = one_number (key h - before) (key a - before) (differences (key h) hits ++ x) (differences (key a) all ++ y) f in
    let keys : key h ≡ key a = omega (arith, its.0, ah.1, aa.1) in
    let same : h ≡ a = one_key h a ah.0 aa.0 keys in
    let rest : differences (key h) hits ++ x ≡ differences (key h) all ++ y = its.1 ∙ ap (λ k. differences k all ++ y) (sym keys) in
    let behind : Ascend (key h) all = subst (λ k. Ascend k all) (sym keys) aa.2 in
    let more = front (key h) hits all x y ah.2 behind (omega (arith, long)) rest in
    (more.0, (let tail : all ≡ hits ++ more.0 = more.1 in cc), more.2, more.3)

none_later : (xs ys zs : List (ℕ × ℕ)) → zs ≡ xs ++ ys → length zs ≡ length xs → (ys ≡ []) × (zs ≡ xs)
none_later xs [] zs e l = (refl, e ∙ append-nil xs)
none_later xs (y ∷ ys) zs e l = absurd (omega (arith, l, ap length e, length-append xs (y ∷ ys)))

-- so as many hits with the same differences are the same
pub one_differences : (hits other : List (ℕ × ℕ)) (x y : List ℕ) → Ascend 0 hits → Ascend 0 other → length hits ≡ length other → differences 0 hits ++ x ≡ differences 0 other ++ y → (hits ≡ other) × (x ≡ y)
one_differences hits other x y ah ao l e =
    let its = front 0 hits other x y ah ao (omega (arith, l)) e in
    let none = none_later hits its.0 other its.1 (sym l) in
    (sym none.1, its.2 ∙ ap (λ later. differences (last_key 0 hits) later ++ y) none.0)

-- no spelling of a hit list begins another
pub one_hit_list : (hits other : List (ℕ × ℕ)) (x y : List ℕ) → AreHits hits → AreHits other → hit_list hits ++ x ≡ hit_list other ++ y → (hits ≡ other) × (x ≡ y)
unfolding hit_list
one_hit_list hits other x y ah ao e =
    let f : number (length hits) ++ (differences 0 hits ++ x) ≡ number (length other) ++ (differences 0 other ++ y) =
    sym (append_assoc (number (length hits)) (differences 0 hits) x) ∙ e ∙ append_assoc (number (length other)) (differences 0 other) y in
    let its = one_number (length hits) (length other) (differences 0 hits ++ x) (differences 0 other ++ y) f in
    one_differences hits other x y ah.ascend ao.ascend its.0 its.1

-- what lies behind a piece that stands at a place
pub behind : (bytes piece rest : List ℕ) (at end : ℕ) → drop at bytes ≡ piece ++ rest → end ≡ at + length piece → drop end bytes ≡ rest
behind bytes piece rest at end here ends =
    ap (λ n. drop n bytes) ends ∙ sym (drop-drop (length piece) at bytes) ∙ ap (drop (length piece)) here ∙ drop-append_seam piece rest
