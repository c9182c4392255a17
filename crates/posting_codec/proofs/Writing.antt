-- A hit list while it is written.
use Rattle.std.proofs.Common.{◌≡◌, ℕ, suc, ◌+◌, ◌-◌, ◌/◌, ◌%◌, List, [], ◌∷◌, ◌++◌, length, drop, take, get_or, refl, sym, ap, subst, ◌∙◌, append_assoc, append-nil, add-one, arith, length-append, ◌<◌, ◌≤◌, ◌^◌}
use Rattle.std.proofs.Math.Seq.{drop-cons, drop-length}
use Rattle.std.proofs.lemmas.List.{take_at}
use Rattle.posting_codec.specs.HitLists.{IsHit, key, Ascend, AreHits, differences, hit_list}
use Rattle.posting_codec.specs.Numbers.{number}
use Rattle.posting_codec.proofs.Entries.{list_short}
use Rattle.posting_codec.proofs.Spellings.{long, short}

-- what was appended to the list at the start, and the differences of the hits from this one on, are the spelling
pub record Written (hits : List (ℕ × ℕ)) (start out : List ℕ) (i last : ℕ) : Type 0 where
  pub ascend : Ascend last (drop i hits)
  pub bytes : List ℕ
  pub grown : out ≡ start ++ bytes
  pub all : bytes ++ differences last (drop i hits) ≡ hit_list hits

pub written_none : (hits : List (ℕ × ℕ)) (start out : List ℕ) → AreHits hits → out ≡ start ++ number (length hits) → Written hits start out 0 0
unfolding hit_list
written_none hits start out are e = record { ascend = are.ascend; bytes = number (length hits); grown = e; all = refl }

-- the hit at a place is one, and behind those before
pub hit_here : (hits : List (ℕ × ℕ)) (start out : List ℕ) (i last : ℕ) (hit : ℕ × ℕ) → Written hits start out i last → i < length hits → hit ≡ get_or hits i hit → IsHit hit × (last < key hit) × Ascend (key hit) (drop (i + 1) hits)
hit_here hits start out i last hit w h e =
    let here : drop i hits ≡ hit ∷ drop (i + 1) hits = rw (add-one i) (drop-cons hits i hit h ∙ ap (λ x. x ∷ drop (suc i) hits) (sym e)) in
    let its : Ascend last (hit ∷ drop (i + 1) hits) = subst (Ascend last) here w.ascend in
    (its.0, its.1, its.2)

pub written_more : (hits : List (ℕ × ℕ)) (start out after : List ℕ) (i last next : ℕ) (hit : ℕ × ℕ) → Written hits start out i last → i < length hits → hit ≡ get_or hits i hit → next ≡ key hit → after ≡ out ++ number (next - last) → Written hits start after (i + 1) next
written_more hits start out after i last next hit w h e k a =
    let here : drop i hits ≡ hit ∷ drop (i + 1) hits = rw (add-one i) (drop-cons hits i hit h ∙ ap (λ x. x ∷ drop (suc i) hits) (sym e)) in
    let piece = number (key hit - last) in
    subst (Written hits start after (i + 1)) (sym k) (record {
      ascend = (hit_here hits start out i last hit w h e).2;
      bytes = w.bytes ++ piece;
      grown = a ∙ ap (λ n. out ++ number (n - last)) k ∙ ap (λ l. l ++ piece) w.grown ∙ append_assoc start w.bytes piece;
      all = append_assoc w.bytes piece (differences (key hit) (drop (i + 1) hits)) ∙ ap (λ l. w.bytes ++ differences last l) (sym here) ∙ w.all;
    })

pub written_all : (hits : List (ℕ × ℕ)) (start out : List ℕ) (i last : ℕ) → Written hits start out i last → i ≡ length hits → out ≡ start ++ hit_list hits
written_all hits start out i last w e =
    let none : drop i hits ≡ [] = ap (λ n. drop n hits) e ∙ drop-length hits in
    let all : w.bytes ≡ hit_list hits = sym (append-nil w.bytes) ∙ ap (λ l. w.bytes ++ differences last l) (sym none) ∙ w.all in
    w.grown ∙ ap (λ l. start ++ l) all

pub written_front : (hits : List (ℕ × ℕ)) (start out : List ℕ) (i last : ℕ) → Written hits start out i last → take (length start) out ≡ start
written_front hits start out i last w = rw w.grown (take_at start w.bytes (length start) refl)

-- numbers of one, two and three bytes
small : (n : ℕ) → n < 128 → number n ≡ n ∷ []
unfolding number
small n less = short 4 n less

two : (n : ℕ) → 128 ≤ n → n < 16384 → number n ≡ (128 + n % 128) ∷ n / 128 ∷ []
unfolding number
two n low less = long 3 n low ∙ ap (λ (l : List ℕ). (128 + n % 128) ∷ l) (short 3 (n / 128) (omega (arith, less)))

three : (n : ℕ) → 16384 ≤ n → n < 2 ^ 21 → number n ≡ (128 + n % 128) ∷ (128 + n / 128 % 128) ∷ n / 128 / 128 ∷ []
unfolding number
three n low less =
    long 3 n (omega (arith, low))
    ∙ ap (λ (l : List ℕ). (128 + n % 128) ∷ l) (long 2 (n / 128) (omega (arith, low)) ∙ ap (λ (l : List ℕ). (128 + n / 128 % 128) ∷ l) (short 2 (n / 128 / 128) (omega (arith, less))))

-- the length and the spelling of a list of one hit, whose key is spelled by these bytes
only_spelled : (hit : ℕ × ℕ) (bytes : List ℕ) (n : ℕ) → number (key hit) ≡ bytes → length bytes ≡ n → n < 127 → (n + 1) ∷ 1 ∷ bytes ≡ number (length (hit_list (hit ∷ []))) ++ hit_list (hit ∷ [])
unfolding hit_list
only_spelled hit bytes n is count less =
    let list : number 1 ++ (number (key hit - 0) ++ []) ≡ 1 ∷ bytes =
    ap (λ (l : List ℕ). l ++ (number (key hit - 0) ++ [])) (small 1 (omega arith)) ∙ ap (λ (n : ℕ). 1 ∷ (number n ++ [])) (omega arith) ∙ ap (λ (l : List ℕ). 1 ∷ l) (append-nil (number (key hit)) ∙ is) in
    let more : length (1 ∷ bytes) ≡ n + 1 = omega (arith, count) in
    let size : number (length (1 ∷ bytes)) ≡ (n + 1) ∷ [] = ap number more ∙ small (n + 1) (omega (arith, less)) in
    sym (ap (λ (l : List ℕ). number (length l) ++ l) list ∙ ap (λ (l : List ℕ). l ++ (1 ∷ bytes)) size)

pub near_spelled : (hit : ℕ × ℕ) (k a : ℕ) → k ≡ key hit → k < 128 → a ≡ k % 128 → 2 ∷ 1 ∷ a ∷ [] ≡ number (length (hit_list (hit ∷ []))) ++ hit_list (hit ∷ [])
near_spelled hit k a is less low =
    only_spelled hit (a ∷ []) 1 (ap number (sym is) ∙ small k less ∙ ap (λ (n : ℕ). n ∷ []) (omega (arith, less, low))) refl (omega arith)

pub middle_spelled : (hit : ℕ × ℕ) (k a b : ℕ) → k ≡ key hit → 128 ≤ k → k < 16384 → a ≡ k % 128 → b ≡ k / 128 % 128 → 3 ∷ 1 ∷ (128 + a) ∷ b ∷ [] ≡ number (length (hit_list (hit ∷ []))) ++ hit_list (hit ∷ [])
middle_spelled hit k a b is more less low high =
    only_spelled hit ((128 + a) ∷ b ∷ []) 2
    (ap number (sym is) ∙ two k more less ∙ ap (λ (n : ℕ). (128 + n) ∷ k / 128 ∷ []) (sym low) ∙ ap (λ (n : ℕ). (128 + a) ∷ n ∷ []) (omega (arith, less, high))) refl (omega arith)

pub far_spelled : (hit : ℕ × ℕ) (k a b c : ℕ) → k ≡ key hit → 16384 ≤ k → k < 2 ^ 21 → a ≡ k % 128 → b ≡ k / 128 % 128 → c ≡ k / 16384 → 4 ∷ 1 ∷ (128 + a) ∷ (128 + b) ∷ c ∷ [] ≡ number (length (hit_list (hit ∷ []))) ++ hit_list (hit ∷ [])
far_spelled hit k a b c is more less low high top =
    only_spelled hit ((128 + a) ∷ (128 + b) ∷ c ∷ []) 3
    (ap number (sym is) ∙ three k more less ∙ ap (λ (n : ℕ). (128 + n) ∷ (128 + k / 128 % 128) ∷ k / 128 / 128 ∷ []) (sym low)
    ∙ ap (λ (n : ℕ). (128 + a) ∷ (128 + n) ∷ k / 128 / 128 ∷ []) (sym high) ∙ ap (λ (n : ℕ). (128 + a) ∷ (128 + b) ∷ n ∷ []) (omega (arith, top))) refl (omega arith)

-- so many bytes were counted, and the differences of the hits from this one on are the rest of the spelling
pub record Counted (hits : List (ℕ × ℕ)) (i last counted : ℕ) : Type 0 where
  pub ascend : Ascend last (drop i hits)
  pub all : counted + length (differences last (drop i hits)) ≡ length (hit_list hits)
  pub short : length (hit_list hits) < 2 ^ 24

pub counted_none : (hits : List (ℕ × ℕ)) (n : ℕ) → AreHits hits → n ≡ length (number (length hits)) → Counted hits 0 0 n
unfolding hit_list
counted_none hits n are e = record {
  ascend = are.ascend;
  all = ap (λ m. m + length (differences 0 hits)) e ∙ sym (length-append (number (length hits)) (differences 0 hits));
  short = list_short hits are;
}

counted_here : (hits : List (ℕ × ℕ)) (i : ℕ) (hit : ℕ × ℕ) → i < length hits → hit ≡ get_or hits i hit → drop i hits ≡ hit ∷ drop (i + 1) hits
counted_here hits i hit h e = rw (add-one i) (drop-cons hits i hit h ∙ ap (λ x. x ∷ drop (suc i) hits) (sym e))

-- the hit at a place is one, and behind those before
pub hit_counted : (hits : List (ℕ × ℕ)) (i last counted : ℕ) (hit : ℕ × ℕ) → Counted hits i last counted → i < length hits → hit ≡ get_or hits i hit → IsHit hit × (last < key hit) × (counted + length (number (key hit - last)) < 2 ^ 24)
hit_counted hits i last counted hit c h e =
    let here = counted_here hits i hit h e in
    let its : Ascend last (hit ∷ drop (i + 1) hits) = subst (Ascend last) here c.ascend in
    let long = ap (λ l. length (differences last l)) here in
    (its.0, its.1, omega (arith, c.all, c.short, long, length-append (number (key hit - last)) (differences (key hit) (drop (i + 1) hits))))

pub counted_more : (hits : List (ℕ × ℕ)) (i last next counted after : ℕ) (hit : ℕ × ℕ) → Counted hits i last counted → i < length hits → hit ≡ get_or hits i hit → next ≡ key hit → after ≡ counted + length (number (next - last)) → Counted hits (i + 1) next after
counted_more hits i last next counted after hit c h e k a =
    let here = counted_here hits i hit h e in
    let its : Ascend last (hit ∷ drop (i + 1) hits) = subst (Ascend last) here c.ascend in
    let long = ap (λ l. length (differences last l)) here in
    subst (λ n. Counted hits (i + 1) n after) (sym k) (record {
      ascend = its.2;
      all = omega (arith, c.all, a, ap (λ n. length (number (n - last))) k, long, length-append (number (key hit - last)) (differences (key hit) (drop (i + 1) hits)));
      short = c.short;
    })

pub counted_all : (hits : List (ℕ × ℕ)) (i last counted : ℕ) → Counted hits i last counted → i ≡ length hits → counted ≡ length (hit_list hits)
counted_all hits i last counted c e =
    let none : drop i hits ≡ [] = ap (λ n. drop n hits) e ∙ drop-length hits in
    omega (arith, c.all, ap (λ l. length (differences last l)) none)
