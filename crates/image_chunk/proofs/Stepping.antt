-- What lies behind a row's entry.
use Rattle.std.proofs.Common.{◌≡◌, ℕ, ◌+◌, ◌-◌, ◌/◌, ◌%◌, true, false, cond, ◌<◌, ◌≤◌, ◌^◌, List, [], ◌∷◌, ◌++◌, length, drop, refl, sym, ap, subst, ◌∙◌, arith, append_assoc}
use Rattle.std.specs.Prelude.{nat_lt}
use Rattle.std.proofs.lemmas.List.{drop-drop, drop_at, length-drop, length-append}
use Rattle.posting_codec.specs.Numbers.{number, spelled, IsNumberAt}
use Rattle.posting_codec.specs.HitLists.{AreHits, AreHitsAt, differences, hit_list}
use Rattle.posting_codec.specs.PostingLists.{posting_list}
use Rattle.doc_types.specs.declared.cursor.TheConstants.{NO_ROW}
use Rattle.image_chunk.specs.Places.{Entry, Here, Rising}

pub number_some : (n : ℕ) → 1 ≤ length (number n)
unfolding number
number_some n =
    elim (nat_lt n 128) as (λ b. 1 ≤ length (cond b (n ∷ []) ((128 + n % 128) ∷ spelled 3 (n / 128)))) [
      | true ↦ omega arith
      | false ↦ omega arith
    ]

-- the part of a list behind its front
pub behind_front : (list a b : List ℕ) (at to : ℕ) → drop at list ≡ a ++ b → to ≡ at + length a → drop to list ≡ b
behind_front list a b at to e t = subst (λ n. drop n list ≡ b) (sym t) (sym (drop-drop (length a) at list) ∙ ap (drop (length a)) e ∙ drop_at a b (length a) refl)

pub front_within : (list a b : List ℕ) (at : ℕ) → drop at list ≡ a ++ b → 1 ≤ length a → at + length a ≤ length list
front_within list a b at e some = let l : length (drop at list) ≡ length a + length b = ap length e ∙ length-append a b in omega (arith, length-drop at list, l, some)

-- what is known where a row is
pub record Passed (list : List ℕ) (at : ℕ) (entry : Entry) (entries : List Entry) : Type 0 where
  pub small : length (hit_list entry.1) < 2 ^ 31
  pub within : at + length (number (length (hit_list entry.1))) + length (hit_list entry.1) ≤ length list
  pub sized : IsNumberAt list at (length (hit_list entry.1)) (hit_list entry.1 ++ posting_list (entry.0 + 1) entries)
  pub hits : (start : ℕ) → start ≡ at + length (number (length (hit_list entry.1))) → drop start list ≡ hit_list entry.1 ++ posting_list (entry.0 + 1) entries
  pub after : (end : ℕ) → end ≡ at + length (number (length (hit_list entry.1))) + length (hit_list entry.1) → drop end list ≡ posting_list (entry.0 + 1) entries

hits_some : (hits : List (ℕ × ℕ)) → 1 ≤ length (hit_list hits)
unfolding hit_list
hits_some hits = omega (arith, length-append (number (length hits)) (differences 0 hits), number_some (length hits))

pub passed : (list : List ℕ) (at index : ℕ) (entry : Entry) (entries : List Entry) → length list < 2 ^ 31 → Here list at index (entry ∷ entries) → Passed list at entry entries
passed list at index entry entries few here =
    let size = number (length (hit_list entry.1)) in
    let rest = posting_list (entry.0 + 1) entries in
    let middle : ℕ = at + length size in
    let hits : drop middle list ≡ hit_list entry.1 ++ rest = behind_front list size (hit_list entry.1 ++ rest) at middle here.1 refl in
    let w = front_within list (hit_list entry.1) rest middle hits (hits_some entry.1) in
    record {
      small = omega (arith, few, w);
      within = w;
      sized = record { fits = omega (arith, few, w); here = here.1 };
      hits = λ start e. behind_front list size (hit_list entry.1 ++ rest) at start here.1 e;
      after = λ end e. behind_front list (hit_list entry.1) rest middle end hits e;
    }

-- where bytes are left, a row is, and the number of its step lies there
pub record Another (list : List ℕ) (end row : ℕ) (entries : List Entry) : Type 0 where
  pub entry : Entry
  pub more : List Entry
  pub is : entries ≡ entry ∷ more
  pub later : row < entry.0
  pub fits : entry.0 < NO_ROW
  pub spelled : drop end list ≡ number (entry.0 + 1 - (row + 1)) ++ (number (length (hit_list entry.1)) ++ (hit_list entry.1 ++ posting_list (entry.0 + 1) more))

parted : (a b c d : List ℕ) → a ++ b ++ c ++ d ≡ a ++ (b ++ (c ++ d))
parted a b c d = append_assoc (a ++ b) c d ∙ append_assoc a b (c ++ d)

pub another : (list : List ℕ) (end row : ℕ) (entries : List Entry) → drop end list ≡ posting_list (row + 1) entries → Rising (row + 1) NO_ROW entries → end < length list → Another list end row entries
another list end row [] e rising low = let l : length (drop end list) ≡ 0 = ap length e in absurd (omega (arith, l, low, length-drop end list))
another list end row (entry ∷ more) e rising low = record {
  entry = entry;
  more = more;
  is = refl;
  later = omega (arith, rising.0);
  fits = rising.1;
  spelled = e ∙ parted (number (entry.0 + 1 - (row + 1))) (number (length (hit_list entry.1))) (hit_list entry.1) (posting_list (entry.0 + 1) more);
}

pub no_more : (list : List ℕ) (end row : ℕ) (entries : List Entry) → drop end list ≡ posting_list (row + 1) entries → length list ≤ end → entries ≡ []
no_more list end row [] e past = refl
no_more list end row (entry ∷ more) e past =
    let first = number (entry.0 + 1 - (row + 1)) in
    let all : drop end list ≡ first ++ (number (length (hit_list entry.1)) ++ (hit_list entry.1 ++ posting_list (entry.0 + 1) more)) = e ∙ parted first (number (length (hit_list entry.1))) (hit_list entry.1) (posting_list (entry.0 + 1) more) in
    let l : length (drop end list) ≡ length first + length (number (length (hit_list entry.1)) ++ (hit_list entry.1 ++ posting_list (entry.0 + 1) more)) = ap length all ∙ length-append first _ in
    absurd (omega (arith, l, past, length-drop end list, number_some (entry.0 + 1 - (row + 1))))

pub here_next : (list : List ℕ) (end row at index : ℕ) (entries : List Entry) → (a : Another list end row entries) → at ≡ end + length (number (a.entry.0 + 1 - (row + 1))) → index ≡ a.entry.0 → Here list at index entries
here_next list end row at index entries a t i = subst (Here list at index) (sym a.is) (i, behind_front list (number (a.entry.0 + 1 - (row + 1))) _ end at a.spelled t)

-- the hits of the row that is here
pub hits_here : (list : List ℕ) (at index start : ℕ) (entry : Entry) (entries : List Entry) → length list < 2 ^ 31 → AreHits entry.1 → Here list at index (entry ∷ entries) → start ≡ at + length (number (length (hit_list entry.1)))
    → AreHitsAt list start entry.1 (posting_list (entry.0 + 1) entries)
hits_here list at index start entry entries few are here e = record { are = are; here = (passed list at index entry entries few here).hits start e }

-- the number of the first row's step stands at the beginning of a list
pub begins : (list : List ℕ) (at : ℕ) (entry : Entry) (entries : List Entry) → drop at list ≡ posting_list 0 (entry ∷ entries) → Rising 0 NO_ROW (entry ∷ entries)
    → IsNumberAt list at (entry.0 + 1 - 0) (number (length (hit_list entry.1)) ++ (hit_list entry.1 ++ posting_list (entry.0 + 1) entries))
begins list at entry entries e rising = record {
  fits = omega (arith, rising.1);
  here = e ∙ parted (number (entry.0 + 1 - 0)) (number (length (hit_list entry.1))) (hit_list entry.1) (posting_list (entry.0 + 1) entries);
}

pub begins_within : (list : List ℕ) (at n : ℕ) (rest : List ℕ) → IsNumberAt list at n rest → at + length (number n) ≤ length list
begins_within list at n rest is = front_within list (number n) rest at is.here (number_some n)

pub here_first : (list : List ℕ) (at place ahead : ℕ) (entry : Entry) (entries : List Entry) → drop at list ≡ posting_list 0 (entry ∷ entries) → Rising 0 NO_ROW (entry ∷ entries)
    → (ahead ≡ entry.0 + 1 - 0) × (place ≡ at + length (number (entry.0 + 1 - 0))) → Here list place (ahead - 1) (entry ∷ entries)
here_first list at place ahead entry entries e rising read =
    (omega (arith, read.0), behind_front list (number (entry.0 + 1 - 0)) _ at place (begins list at entry entries e rising).here read.1)
