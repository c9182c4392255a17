-- A hit list while it is read.
use Rattle.std.proofs.Common.{◌≡◌, ℕ, suc, ◌+◌, ◌-◌, ◌/◌, ◌%◌, ◌<◌, ◌≤◌, ◌^◌, List, [], ◌∷◌, ◌++◌, length, drop, take, refl, sym, ap, subst, ◌∙◌, arith, append_assoc, append-nil, length-append}
use Rattle.std.proofs.lemmas.List.{take_at}
use Rattle.posting_codec.specs.HitLists.{IsHit, key, Ascend, AreHitsAt, differences, hit_list}
use Rattle.posting_codec.specs.Numbers.{number, IsNumberAt}
use Rattle.posting_codec.specs.steps.Differences.{IsBehind, AreDifferencesAt}
use Rattle.posting_codec.proofs.Spellings.{one_number}
use Rattle.posting_codec.proofs.HitSteps.{last_key, key_small, few, Ascend_more, last_more, differences_more, front, behind}

-- so many hits were read from the start up to this place, the last one with this key
pub record Gone (bytes : List ℕ) (start at last : ℕ) (hits : List (ℕ × ℕ)) (i : ℕ) : Type 0 where
  pub counted : length hits ≡ i
  pub ascend : Ascend 0 hits
  pub ended : last_key 0 hits ≡ last
  pub small : last < 2 ^ 21
  pub place : at ≡ start + length (differences 0 hits)
  pub here : drop start bytes ≡ differences 0 hits ++ drop at bytes

pub gone_none : (bytes : List ℕ) (start : ℕ) (hits : List (ℕ × ℕ)) → hits ≡ [] → Gone bytes start start 0 hits 0
gone_none bytes start hits e = subst (λ h. Gone bytes start start 0 h 0) (sym e) (record { counted = refl; ascend = tt; ended = refl; small = omega arith; place = omega arith; here = refl })

pub gone_more : (bytes : List ℕ) (start at end last next : ℕ) (hits after : List (ℕ × ℕ)) (hit : ℕ × ℕ) (rest : List ℕ) (i : ℕ) → Gone bytes start at last hits i → IsBehind bytes at last hit rest → end ≡ at + length (number (key hit - last)) → after ≡ hits ++ hit ∷ [] → next ≡ key hit → Gone bytes start end next after (i + 1)
gone_more bytes start at end last next hits after hit rest i g is ends a k =
    let piece = number (key hit - last) in
    let more : differences 0 (hits ++ hit ∷ []) ≡ differences 0 hits ++ piece = differences_more 0 hits hit ∙ ap (λ k. differences 0 hits ++ number (key hit - k)) g.ended in
    let long : length (differences 0 (hits ++ hit ∷ [])) ≡ length (differences 0 hits) + length piece = ap length more ∙ length-append (differences 0 hits) piece in
    let left : drop end bytes ≡ rest = behind bytes piece rest at end is.here ends in
    rw (a, k) (record {
      counted = length-append hits (hit ∷ []) ∙ ap (λ n. n + 1) g.counted;
      ascend = Ascend_more 0 hits hit g.ascend is.is_hit (omega (arith, g.ended, is.behind));
      ended = last_more 0 hits hit;
      small = key_small hit is.is_hit;
      place = omega (arith, ends, g.place, long);
      here = g.here ∙ ap (λ l. differences 0 hits ++ l) (is.here ∙ ap (λ l. piece ++ l) (sym left)) ∙ sym (append_assoc (differences 0 hits) piece (drop end bytes)) ∙ ap (λ l. l ++ drop end bytes) (sym more);
    })

-- where no hit stands behind those that were read, there are no more
pub gone_stop : (bytes : List ℕ) (start at last : ℕ) (hits : List (ℕ × ℕ)) (i count : ℕ) → Gone bytes start at last hits i → i < count → ((hit : ℕ × ℕ) (rest : List ℕ) → IsBehind bytes at last hit rest → ⊥) → (all : List (ℕ × ℕ)) (rest : List ℕ) → AreDifferencesAt bytes start count all rest → ⊥
gone_stop bytes start at last hits i count g left none all rest are =
    let its = front 0 hits all (drop at bytes) rest g.ascend are.ascend (omega (arith, g.counted, are.counted)) (sym g.here ∙ are.here) in
    stop its.0 its.1 its.2 its.3 where
      stop : (later : List (ℕ × ℕ)) → all ≡ hits ++ later → drop at bytes ≡ differences (last_key 0 hits) later ++ rest → Ascend (last_key 0 hits) later → ⊥
      stop [] e here ascend = absurd (omega (arith, left, g.counted, are.counted, ap length e, length-append hits []))
      stop (hit ∷ later) e here ascend =
          let k : last_key 0 hits ≡ last = g.ended in
          none hit (differences (key hit) later ++ rest) (record {
            is_hit = ascend.0;
            behind = omega (arith, ascend.1, k);
            here = here ∙ append_assoc (number (key hit - last_key 0 hits)) (differences (key hit) later) rest ∙ ap (λ n. number (key hit - n) ++ (differences (key hit) later ++ rest)) k;
          })

pub gone_all : (bytes : List ℕ) (start at last : ℕ) (hits : List (ℕ × ℕ)) (i count : ℕ) → Gone bytes start at last hits i → i ≡ count → (rest : List ℕ) × AreDifferencesAt bytes start count hits rest × (at ≡ start + length (differences 0 hits))
gone_all bytes start at last hits i count g e = (drop at bytes, record { counted = g.counted ∙ e; ascend = g.ascend; here = g.here }, g.place)

-- a hit list is its count and its differences
pub hits_spelled : (bytes : List ℕ) (at count start : ℕ) (rest : List ℕ) (hits : List (ℕ × ℕ)) (later : List ℕ) (end : ℕ) → 0 < count → IsNumberAt bytes at count rest → start ≡ at + length (number count) → AreDifferencesAt bytes start count hits later → end ≡ start + length (differences 0 hits) → AreHitsAt bytes at hits later × (end ≡ at + length (hit_list hits))
unfolding hit_list
hits_spelled bytes at count start rest hits later end some is starts are ends =
    let left : drop start bytes ≡ rest = behind bytes (number count) rest at start is.here starts in
    let same : number count ≡ number (length hits) = ap number (sym are.counted) in
    let long : length (hit_list hits) ≡ length (number (length hits)) + length (differences 0 hits) = length-append (number (length hits)) (differences 0 hits) in (
      record {
        are = record { some = omega (arith, some, are.counted); ascend = are.ascend };
        here = is.here ∙ ap (λ l. number count ++ l) (sym left ∙ are.here) ∙ sym (append_assoc (number count) (differences 0 hits) later) ∙ ap (λ l. (l ++ differences 0 hits) ++ later) same;
      },
      omega (arith, ends, starts, long, ap length same),
    )

-- the count of a hit list that stands at a place
pub count_there : (bytes : List ℕ) (at : ℕ) (hits : List (ℕ × ℕ)) (rest : List ℕ) → AreHitsAt bytes at hits rest → IsNumberAt bytes at (length hits) (differences 0 hits ++ rest)
unfolding hit_list
count_there bytes at hits rest are = record {
  fits = omega (arith, few 0 hits (omega arith) are.are.ascend);
  here = are.here ∙ append_assoc (number (length hits)) (differences 0 hits) rest;
}

-- and its differences behind the count
pub differences_there : (bytes : List ℕ) (at count start : ℕ) (read : List ℕ) (hits : List (ℕ × ℕ)) (rest : List ℕ) → AreHitsAt bytes at hits rest → IsNumberAt bytes at count read → start ≡ at + length (number count) → AreDifferencesAt bytes start count hits rest
differences_there bytes at count start read hits rest are is starts =
    let its = one_number (length hits) count (differences 0 hits ++ rest) read (sym (count_there bytes at hits rest are).here ∙ is.here) in
    record { counted = its.0; ascend = are.are.ascend; here = behind bytes (number count) read at start is.here starts ∙ sym its.1 }

-- a distance that is read makes a hit
pub hit_read : (bytes : List ℕ) (at last step : ℕ) (rest : List ℕ) (hit : ℕ × ℕ) → IsNumberAt bytes at step rest → IsHit hit → 0 < step → key hit ≡ last + step → IsBehind bytes at last hit rest
hit_read bytes at last step rest hit is one some e =
    let same : key hit - last ≡ step = omega (arith, e) in
    record { is_hit = one; behind = omega (arith, e, some); here = is.here ∙ ap (λ n. number n ++ rest) (sym same) }

-- and the distance of a hit is read
pub step_there : (bytes : List ℕ) (at last : ℕ) (hit : ℕ × ℕ) (rest : List ℕ) → IsBehind bytes at last hit rest → IsNumberAt bytes at (key hit - last) rest
step_there bytes at last hit rest is = record { fits = omega (arith, key_small hit is.is_hit); here = is.here }

pub step_is : (bytes : List ℕ) (at last step : ℕ) (read : List ℕ) (hit : ℕ × ℕ) (rest : List ℕ) → IsBehind bytes at last hit rest → IsNumberAt bytes at step read → (key hit ≡ last + step) × (0 < step)
step_is bytes at last step read hit rest is it =
    let its = one_number (key hit - last) step rest read (sym is.here ∙ it.here) in
    (omega (arith, its.0, is.behind), omega (arith, its.0, is.behind))

-- of the hits some stand in the list behind what was there, and so many less are left, spelled at this place behind this key
pub record Left (bytes : List ℕ) (hits : List (ℕ × ℕ)) (rest : List ℕ) (start list : List (ℕ × ℕ)) (at last count i : ℕ) : Type 0 where
  pub done : List (ℕ × ℕ)
  pub left : List (ℕ × ℕ)
  pub both : done ++ left ≡ hits
  pub grown : list ≡ start ++ done
  pub counted : length left + i ≡ count
  pub ascend : Ascend last left
  pub small : last < 2 ^ 21
  pub here : drop at bytes ≡ differences last left ++ rest

pub left_none : (bytes : List ℕ) (at : ℕ) (hits : List (ℕ × ℕ)) (rest : List ℕ) (start : List (ℕ × ℕ)) (place count : ℕ) → AreHitsAt bytes at hits rest → (count ≡ length hits) × (place ≡ at + length (number (length hits))) → Left bytes hits rest start start place 0 count 0
left_none bytes at hits rest start place count are its = record {
  done = [];
  left = hits;
  both = refl;
  grown = sym (append-nil start);
  counted = omega (arith, its.0);
  ascend = are.are.ascend;
  small = omega arith;
  here = behind bytes (number (length hits)) (differences 0 hits ++ rest) at place (count_there bytes at hits rest are).here its.1;
}

-- where some are left: the next one, and its distance
pub record Next (bytes : List ℕ) (left : List (ℕ × ℕ)) (rest : List ℕ) (at last : ℕ) : Type 0 where
  pub hit : ℕ × ℕ
  pub later : List (ℕ × ℕ)
  pub both : left ≡ hit ∷ later
  pub one : IsHit hit
  pub behind : last < key hit
  pub ascend : Ascend (key hit) later
  pub spelled : IsNumberAt bytes at (key hit - last) (differences (key hit) later ++ rest)

next_of : (bytes : List ℕ) (left : List (ℕ × ℕ)) (rest : List ℕ) (at last : ℕ) → 0 < length left → Ascend last left → drop at bytes ≡ differences last left ++ rest → Next bytes left rest at last
next_of bytes [] rest at last some ascend here = absurd (omega (arith, some))
next_of bytes (hit ∷ later) rest at last some ascend here = record {
  hit = hit;
  later = later;
  both = refl;
  one = ascend.0;
  behind = ascend.1;
  ascend = ascend.2;
  spelled = record { fits = omega (arith, key_small hit ascend.0); here = here ∙ append_assoc (number (key hit - last)) (differences (key hit) later) rest };
}

pub next : (bytes : List ℕ) (hits : List (ℕ × ℕ)) (rest : List ℕ) (start list : List (ℕ × ℕ)) (at last count i : ℕ) (l : Left bytes hits rest start list at last count i) → i < count → Next bytes l.left rest at last
next bytes hits rest start list at last count i l h = next_of bytes l.left rest at last (omega (arith, h, l.counted)) l.ascend l.here

-- a hit is the parts of its key
parted : (hit : ℕ × ℕ) (k : ℕ) → IsHit hit → k ≡ key hit → (k / 65536, k % 65536) ≡ hit
parted hit k is e =
    let field : k / 65536 ≡ hit.0 = omega (arith, e, is.within) in
    let position : k % 65536 ≡ hit.1 = omega (arith, e, field) in
    λ i. (field i, position i)

pub left_more : (bytes : List ℕ) (hits : List (ℕ × ℕ)) (rest : List ℕ) (start list after : List (ℕ × ℕ)) (at end last step count i : ℕ) (l : Left bytes hits rest start list at last count i) (h : i < count)
    → ((n : ℕ) (rest : List ℕ) → IsNumberAt bytes at n rest → (step ≡ n) × (end ≡ at + length (number n))) → after ≡ list ++ ((last + step) / 65536, (last + step) % 65536) ∷ [] → Left bytes hits rest start after end (last + step) count (i + 1)
left_more bytes hits rest start list after at end last step count i l h read a =
    let n = next bytes hits rest start list at last count i l h in
    let its = read (key n.hit - last) (differences (key n.hit) n.later ++ rest) n.spelled in
    let keys : last + step ≡ key n.hit = omega (arith, its.0, n.behind) in
    let hit : ((last + step) / 65536, (last + step) % 65536) ≡ n.hit = parted n.hit (last + step) n.one keys in
    let long : length l.left ≡ suc (length n.later) = ap length n.both in
    subst (λ k. Left bytes hits rest start after end k count (i + 1)) (sym keys) (record {
      done = l.done ++ n.hit ∷ [];
      left = n.later;
      both = append_assoc l.done (n.hit ∷ []) n.later ∙ ap (λ x. l.done ++ x) (sym n.both) ∙ l.both;
      grown = a ∙ ap (λ x. list ++ x ∷ []) hit ∙ ap (λ x. x ++ n.hit ∷ []) l.grown ∙ append_assoc start l.done (n.hit ∷ []);
      counted = omega (arith, l.counted, long);
      ascend = n.ascend;
      small = key_small n.hit n.one;
      here = behind bytes (number (key n.hit - last)) (differences (key n.hit) n.later ++ rest) at end n.spelled.here its.1;
    })

-- the key of the next hit fits
pub step_small : (bytes : List ℕ) (hits : List (ℕ × ℕ)) (rest : List ℕ) (start list : List (ℕ × ℕ)) (at end last step count i : ℕ) (l : Left bytes hits rest start list at last count i) (h : i < count)
    → ((n : ℕ) (rest : List ℕ) → IsNumberAt bytes at n rest → (step ≡ n) × (end ≡ at + length (number n))) → last + step < 2 ^ 21
step_small bytes hits rest start list at end last step count i l h read =
    let n = next bytes hits rest start list at last count i l h in
    let its = read (key n.hit - last) (differences (key n.hit) n.later ++ rest) n.spelled in
    omega (arith, its.0, n.behind, key_small n.hit n.one)

pub left_all : (bytes : List ℕ) (hits : List (ℕ × ℕ)) (rest : List ℕ) (start list : List (ℕ × ℕ)) (at last count i : ℕ) → Left bytes hits rest start list at last count i → i ≡ count → list ≡ start ++ hits
left_all bytes hits rest start list at last count i l e =
    ended l.left (omega (arith, l.counted, e)) l.both l.grown where
      ended : (left : List (ℕ × ℕ)) → length left ≡ 0 → l.done ++ left ≡ hits → list ≡ start ++ l.done → list ≡ start ++ hits
      ended [] none both its = its ∙ ap (λ x. start ++ x) (sym (append-nil l.done) ∙ both)
      ended (hit ∷ left) none both its = absurd (omega (arith, none))

pub left_front : (bytes : List ℕ) (hits : List (ℕ × ℕ)) (rest : List ℕ) (start list : List (ℕ × ℕ)) (at last count i : ℕ) → Left bytes hits rest start list at last count i → take (length start) list ≡ start
left_front bytes hits rest start list at last count i l = rw l.grown (take_at start l.done (length start) refl)

-- the hit of a key
hit_made : (k : ℕ) (hit : ℕ × ℕ) → hit ≡ (k / 65536, k % 65536) → k < 2 ^ 21 → 0 < hit.1 → IsHit hit × (key hit ≡ k)
hit_made k hit e low some =
    let field : hit.0 ≡ k / 65536 = ap (λ h. h.0) e in
    let position : hit.1 ≡ k % 65536 = ap (λ h. h.1) e in
    (record { field = omega (arith, field, low); from_one = some; within = omega (arith, position) }, omega (arith, field, position))

-- a distance that is read is that of a hit
pub read_one : (bytes : List ℕ) (at last step end : ℕ) (rest : List ℕ) (hit : ℕ × ℕ) → IsNumberAt bytes at step rest → end ≡ at + length (number step) → 0 < step → last + step < 2 ^ 21 → hit ≡ ((last + step) / 65536, (last + step) % 65536) → 0 < hit.1 → (rest : List ℕ) × IsBehind bytes at last hit rest × (end ≡ at + length (number (key hit - last)))
read_one bytes at last step end rest hit is ends some low e position =
    let made = hit_made (last + step) hit e low position in
    let same : step ≡ key hit - last = omega (arith, made.1) in
    (rest, hit_read bytes at last step rest hit is made.0 some made.1, ends ∙ ap (λ n. at + length (number n)) same)

-- and where it is too large, or its position is none, no hit is spelled
pub none_large : (bytes : List ℕ) (at last step : ℕ) (read : List ℕ) → IsNumberAt bytes at step read → 2 ^ 21 ≤ last + step → (hit : ℕ × ℕ) (rest : List ℕ) → IsBehind bytes at last hit rest → ⊥
none_large bytes at last step read it large hit rest is =
    let its = step_is bytes at last step read hit rest is it in
    absurd (omega (arith, its.0, large, key_small hit is.is_hit))

pub none_zero : (bytes : List ℕ) (at last step : ℕ) (read : List ℕ) → IsNumberAt bytes at step read → step ≡ 0 → (hit : ℕ × ℕ) (rest : List ℕ) → IsBehind bytes at last hit rest → ⊥
none_zero bytes at last step read it none hit rest is =
    let its = step_is bytes at last step read hit rest is it in
    absurd (omega (arith, its.1, none))

pub none_position : (bytes : List ℕ) (at last step : ℕ) (read : List ℕ) (made : ℕ × ℕ) → IsNumberAt bytes at step read → made ≡ ((last + step) / 65536, (last + step) % 65536) → made.1 ≡ 0 → (hit : ℕ × ℕ) (rest : List ℕ) → IsBehind bytes at last hit rest → ⊥
none_position bytes at last step read made it e none hit rest is =
    let its = step_is bytes at last step read hit rest is it in
    let same : made ≡ hit = e ∙ parted hit (last + step) is.is_hit (sym its.0) in
    let position : made.1 ≡ hit.1 = ap (λ h. h.1) same in
    absurd (omega (arith, position, none, is.is_hit.from_one))

-- no number, no hit
pub none_number : (bytes : List ℕ) (at last : ℕ) → ((n : ℕ) (rest : List ℕ) → IsNumberAt bytes at n rest → ⊥) → (hit : ℕ × ℕ) (rest : List ℕ) → IsBehind bytes at last hit rest → ⊥
none_number bytes at last none hit rest is = none (key hit - last) rest (step_there bytes at last hit rest is)

-- no count, no list
pub none_count : (bytes : List ℕ) (at : ℕ) → ((n : ℕ) (rest : List ℕ) → IsNumberAt bytes at n rest → ⊥) → (hits : List (ℕ × ℕ)) (rest : List ℕ) → AreHitsAt bytes at hits rest → ⊥
none_count bytes at none hits rest are = none (length hits) (differences 0 hits ++ rest) (count_there bytes at hits rest are)

-- nor is one with the count 0
pub none_empty : (bytes : List ℕ) (at count : ℕ) (read : List ℕ) → IsNumberAt bytes at count read → count ≡ 0 → (hits : List (ℕ × ℕ)) (rest : List ℕ) → AreHitsAt bytes at hits rest → ⊥
none_empty bytes at count read is none hits rest are =
    let its = one_number (length hits) count (differences 0 hits ++ rest) read (sym (count_there bytes at hits rest are).here ∙ is.here) in
    absurd (omega (arith, its.0, none, are.are.some))

-- nor one without its differences
pub none_differences : (bytes : List ℕ) (at count start : ℕ) (read : List ℕ) → IsNumberAt bytes at count read → start ≡ at + length (number count) → ((hits : List (ℕ × ℕ)) (rest : List ℕ) → AreDifferencesAt bytes start count hits rest → ⊥) → (hits : List (ℕ × ℕ)) (rest : List ℕ) → AreHitsAt bytes at hits rest → ⊥
none_differences bytes at count start read is starts none hits rest are = none hits rest (differences_there bytes at count start read hits rest are is starts)
