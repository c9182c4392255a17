-- Entries of rows, piece by piece.
use Rattle.std.proofs.Common.{◌≡◌, ◌≢◌, ℕ, zero, suc, ◌+◌, ◌-◌, ◌*◌, ◌/◌, ◌<◌, ◌≤◌, ◌^◌, List, [], ◌∷◌, ◌++◌, length, drop, refl, sym, ap, ◌∙◌, arith, append_assoc, length-append, inl, inr}
use Rattle.std.proofs.lemmas.Bool.{cases_lt}
use Rattle.std.proofs.lemmas.List.{length-drop}
use Rattle.posting_codec.specs.Numbers.{number, spelled, IsNumberAt}
use Rattle.posting_codec.specs.HitLists.{AreHits, AreHitsAt, differences, hit_list, key}
use Rattle.posting_codec.specs.PostingLists.{IsEntryAt, posting}
use Rattle.posting_codec.specs.steps.Heads.{IsHeadAt, head_length}
use Rattle.posting_codec.proofs.Spellings.{long, one_number, short}
use Rattle.posting_codec.proofs.HitSteps.{behind, few, one_hit_list}

-- a spelling has 5 bytes at most
part_short : (more n : ℕ) → length (spelled more n) ≤ more + 1
part_short zero n = omega arith
part_short (suc more) n =
    elim (cases_lt n 128) [
      | inl low ↦ omega (arith, ap length (short (suc more) n low))
      | inr high ↦ omega (arith, ap length (long more n high), part_short more (n / 128))
    ]

pub number_short : (n : ℕ) → length (number n) ≤ 5
unfolding number
number_short n = part_short 4 n

part_some : (more n : ℕ) → 1 ≤ length (spelled more n)
part_some zero n = omega arith
part_some (suc more) n =
    elim (cases_lt n 128) [
      | inl low ↦ omega (arith, ap length (short (suc more) n low))
      | inr high ↦ omega (arith, ap length (long more n high))
    ]

number_some : (n : ℕ) → 1 ≤ length (number n)
unfolding number
number_some n = part_some 4 n

differences_short : (before : ℕ) (hits : List (ℕ × ℕ)) → length (differences before hits) ≤ 5 * length hits
differences_short before [] = omega arith
differences_short before (hit ∷ hits) =
    omega (arith, length-append (number (key hit - before)) (differences (key hit) hits), number_short (key hit - before), differences_short (key hit) hits)

-- so a hit list is short
pub list_short : (hits : List (ℕ × ℕ)) → AreHits hits → length (hit_list hits) < 2 ^ 24
unfolding hit_list
list_short hits are =
    omega (arith, length-append (number (length hits)) (differences 0 hits), number_short (length hits), differences_short 0 hits, few 0 hits (omega arith) are.ascend)

-- an entry begins with a head
spread : (a b c rest : List ℕ) → a ++ b ++ c ++ rest ≡ a ++ (b ++ (c ++ rest))
spread a b c rest = append_assoc (a ++ b) c rest ∙ append_assoc a b (c ++ rest)

pub entry_head : (bytes : List ℕ) (at least row : ℕ) (hits : List (ℕ × ℕ)) (rest : List ℕ) → IsEntryAt bytes at least row hits rest
    → IsHeadAt bytes at least row (length (hit_list hits)) (hit_list hits ++ rest)
entry_head bytes at least row hits rest e = record {
  behind = e.is.behind;
  counted = e.is.counted;
  sized = omega (arith, list_short hits e.is.are);
  here = e.here ∙ spread (number (row + 1 - least)) (number (length (hit_list hits))) (hit_list hits) rest;
}

-- there is one head at a place
pub record SameHead (row other size its : ℕ) (rest more : List ℕ) : Type 0 where
  pub rows : row ≡ other
  pub sizes : size ≡ its
  pub rests : rest ≡ more

pub one_head : (bytes : List ℕ) (at least row other size its : ℕ) (rest more : List ℕ) → IsHeadAt bytes at least row size rest → IsHeadAt bytes at least other its more → SameHead row other size its rest more
one_head bytes at least row other size its rest more h g =
    let distance = one_number (row + 1 - least) (other + 1 - least) (number size ++ rest) (number its ++ more) (sym h.here ∙ g.here) in
    let length = one_number size its rest more distance.1 in
    record { rows = omega (arith, distance.0, h.behind, g.behind); sizes = length.0; rests = length.1 }

-- what lies behind a head
pub after_head : (bytes : List ℕ) (at least row size start : ℕ) (rest : List ℕ) → IsHeadAt bytes at least row size rest → start ≡ at + head_length least row size → drop start bytes ≡ rest
after_head bytes at least row size start rest h e =
    let first : drop (at + length (number (row + 1 - least))) bytes ≡ number size ++ rest = behind bytes (number (row + 1 - least)) (number size ++ rest) at (at + length (number (row + 1 - least))) h.here refl in
    behind bytes (number size) rest (at + length (number (row + 1 - least))) start first (omega (arith, e))

-- the hits of an entry stand behind its head
pub hits_behind : (bytes : List ℕ) (at least row size start other : ℕ) (later : List ℕ) (hits : List (ℕ × ℕ)) (rest : List ℕ) → IsHeadAt bytes at least row size later → start ≡ at + head_length least row size
    → IsEntryAt bytes at least other hits rest → AreHitsAt bytes start hits rest × (size ≡ length (hit_list hits))
hits_behind bytes at least row size start other later hits rest h e entry =
    let same = one_head bytes at least row other size (length (hit_list hits)) later (hit_list hits ++ rest) h (entry_head bytes at least other hits rest entry) in
    (record { are = entry.is.are; here = after_head bytes at least row size start later h e ∙ same.rests }, same.sizes)

-- where no head stands there is no entry
pub no_head : (bytes : List ℕ) (at least : ℕ) → ((row size : ℕ) (rest : List ℕ) → IsHeadAt bytes at least row size rest → ⊥) → (row : ℕ) (hits : List (ℕ × ℕ)) (rest : List ℕ) → IsEntryAt bytes at least row hits rest → ⊥
no_head bytes at least none row hits rest entry = none row (length (hit_list hits)) (hit_list hits ++ rest) (entry_head bytes at least row hits rest entry)

-- nor is there where no hits stand behind a head
pub no_hits : (bytes : List ℕ) (at least row size start : ℕ) (later : List ℕ) → IsHeadAt bytes at least row size later → start ≡ at + head_length least row size
    → ((hits : List (ℕ × ℕ)) (rest : List ℕ) → AreHitsAt bytes start hits rest → ⊥) → (other : ℕ) (hits : List (ℕ × ℕ)) (rest : List ℕ) → IsEntryAt bytes at least other hits rest → ⊥
no_hits bytes at least row size start later h e none other hits rest entry =
    none hits rest (hits_behind bytes at least row size start other later hits rest h e entry).0

-- or hits of another length
pub wrong_size : (bytes : List ℕ) (at least row size start end : ℕ) (later : List ℕ) (found : List (ℕ × ℕ)) (more : List ℕ) → IsHeadAt bytes at least row size later → start ≡ at + head_length least row size
    → AreHitsAt bytes start found more → end ≡ start + length (hit_list found) → end - start ≢ size
    → (other : ℕ) (hits : List (ℕ × ℕ)) (rest : List ℕ) → IsEntryAt bytes at least other hits rest → ⊥
wrong_size bytes at least row size start end later found more h e are ends differs other hits rest entry =
    let its = hits_behind bytes at least row size start other later hits rest h e entry in
    let same : found ≡ hits = (one_hit_list found hits more rest are.are its.0.are (sym are.here ∙ its.0.here)).0 in
    differs (omega (arith, ends, its.1, ap (λ l. length (hit_list l)) same))

-- a head and hits of its length are an entry
pub entry_found : (bytes : List ℕ) (at least row size start end : ℕ) (later : List ℕ) (hits : List (ℕ × ℕ)) (rest : List ℕ) → IsHeadAt bytes at least row size later → start ≡ at + head_length least row size
    → AreHitsAt bytes start hits rest → end ≡ start + length (hit_list hits) → end - start ≡ size
    → IsEntryAt bytes at least row hits rest × (end ≡ at + length (posting least row hits))
entry_found bytes at least row size start end later hits rest h e are ends fits =
    let size_is : size ≡ length (hit_list hits) = omega (arith, ends, fits) in
    let a = number (row + 1 - least) in let b = number (length (hit_list hits)) in
    let numbers : number size ≡ b = ap number size_is in
    let whole : drop at bytes ≡ posting least row hits ++ rest =
    h.here ∙ ap (λ l. a ++ (l ++ later)) numbers ∙ ap (λ l. a ++ (b ++ l)) (sym (after_head bytes at least row size start later h e) ∙ are.here) ∙ sym (spread a b (hit_list hits) rest) in (
      record { is = record { behind = h.behind; counted = h.counted; are = are.are }; here = whole },
      omega (arith, e, ends, length-append (a ++ b) (hit_list hits), length-append a b, ap length numbers),
    )

-- the first number of a head
head_distance : (bytes : List ℕ) (at least row size : ℕ) (rest : List ℕ) → IsHeadAt bytes at least row size rest → IsNumberAt bytes at (row + 1 - least) (number size ++ rest)
head_distance bytes at least row size rest h = record { fits = omega (arith, h.counted); here = h.here }

-- no row lies so far behind
pub no_row : (bytes : List ℕ) (at least distance : ℕ) (later : List ℕ) → IsNumberAt bytes at distance later → ((row : ℕ) → least ≤ row → row + 1 < 2 ^ 32 → distance ≡ row + 1 - least → ⊥)
    → (row size : ℕ) (rest : List ℕ) → IsHeadAt bytes at least row size rest → ⊥
no_row bytes at least distance later is none row size rest h =
    none row h.behind h.counted (one_number distance (row + 1 - least) later (number size ++ rest) (sym is.here ∙ h.here)).0

-- no length stands behind the distance
pub no_size : (bytes : List ℕ) (at sized least distance : ℕ) (later : List ℕ) → IsNumberAt bytes at distance later → sized ≡ at + length (number distance) → ((n : ℕ) (rest : List ℕ) → IsNumberAt bytes sized n rest → ⊥)
    → (row size : ℕ) (rest : List ℕ) → IsHeadAt bytes at least row size rest → ⊥
no_size bytes at sized least distance later is e none row size rest h =
    let same = one_number distance (row + 1 - least) later (number size ++ rest) (sym is.here ∙ h.here) in
    none size rest (record { fits = h.sized; here = behind bytes (number distance) later at sized is.here e ∙ same.1 })

pub head_found : (bytes : List ℕ) (at sized start least distance row size : ℕ) (later rest : List ℕ) → IsNumberAt bytes at distance later → sized ≡ at + length (number distance)
    → least ≤ row → row + 1 < 2 ^ 32 → distance ≡ row + 1 - least → IsNumberAt bytes sized size rest → start ≡ sized + length (number size)
    → (rest : List ℕ) × IsHeadAt bytes at least row size rest × (start ≡ at + head_length least row size)
head_found bytes at sized start least distance row size later rest is e low small d its s = (
  rest,
  record {
    behind = low;
    counted = small;
    sized = its.fits;
    here = is.here ∙ ap (λ n. number n ++ later) d ∙ ap (λ l. number (row + 1 - least) ++ l) (sym (behind bytes (number distance) later at sized is.here e) ∙ its.here);
  },
  omega (arith, e, s, ap (λ n. length (number n)) d),
)

-- where an entry is known to stand, so do its numbers
pub distance_there : (bytes : List ℕ) (at least row : ℕ) (hits : List (ℕ × ℕ)) (rest : List ℕ) → IsEntryAt bytes at least row hits rest → IsNumberAt bytes at (row + 1 - least) (number (length (hit_list hits)) ++ (hit_list hits ++ rest))
distance_there bytes at least row hits rest entry = head_distance bytes at least row (length (hit_list hits)) (hit_list hits ++ rest) (entry_head bytes at least row hits rest entry)

pub size_there : (bytes : List ℕ) (at sized least row : ℕ) (hits : List (ℕ × ℕ)) (rest : List ℕ) → IsEntryAt bytes at least row hits rest → sized ≡ at + length (number (row + 1 - least)) → IsNumberAt bytes sized (length (hit_list hits)) (hit_list hits ++ rest)
size_there bytes at sized least row hits rest entry e =
    let h = entry_head bytes at least row hits rest entry in
    record { fits = h.sized; here = behind bytes (number (row + 1 - least)) (number (length (hit_list hits)) ++ (hit_list hits ++ rest)) at sized h.here e }

pub posting_size : (least row : ℕ) (hits : List (ℕ × ℕ)) → length (posting least row hits) ≡ length (number (row + 1 - least)) + length (number (length (hit_list hits))) + length (hit_list hits)
posting_size least row hits = length-append (number (row + 1 - least) ++ number (length (hit_list hits))) (hit_list hits) ∙ ap (λ n. n + length (hit_list hits)) (length-append (number (row + 1 - least)) (number (length (hit_list hits))))

-- a place behind which a number stands is within the bytes
pub within : (bytes : List ℕ) (at : ℕ) (n : ℕ) (rest : List ℕ) → IsNumberAt bytes at n rest → at + length (number n) + length rest ≤ length bytes
within bytes at n rest is =
    let some : 1 ≤ length (number n) = number_some n in
    let long : length (drop at bytes) ≡ length (number n) + length rest = ap length is.here ∙ length-append (number n) rest in
    omega (arith, long, length-drop at bytes, some)
