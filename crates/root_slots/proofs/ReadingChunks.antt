-- Reading chunks one after the other, as a loop does.
use Rattle.std.proofs.Common.{◌≡◌, ℕ, suc, ◌-◌, ◌+◌, ◌≤◌, ◌<◌, List, [], ◌∷◌, ◌++◌, Result, Ok, Err, refl, sym, ap, ◌∙◌, append_assoc, arith}
use Rattle.std.proofs.lemmas.List.{append-nil}
use Rattle.srch_base.specs.declared.faults.Or.{Or}
use Rattle.srch_base.specs.declared.faults.Or.TheVariants.{NoMemory, Fault}
use Rattle.byte_fields.specs.Fields.{◌>>=◌, Fails}
use Rattle.byte_fields.proofs.Looping.{with_front}
use Rattle.root_slots.specs.Reading.{entries_at, entry_at}
use Rattle.root_slots.specs.States.{naming}
use Rattle.root_slots.specs.declared.state.ChunkEntry.{ChunkEntry}

regroup : (front : List ChunkEntry) (c : ChunkEntry) (read : Result (List ChunkEntry × List ℕ) ℕ) → with_front front (read >>= λ x. Ok (c ∷ x.0, x.1)) ≡ with_front (front ++ c ∷ []) read
regroup front c (Ok x) = ap (λ cs. Ok (cs, x.1)) (simp append_assoc)
regroup front c (Err f) = refl

pub goes_on : (next_file : ℕ) (front : List ChunkEntry) (count i : ℕ) (named bytes : List ℕ) (c : ChunkEntry) (after : List ℕ) (total : Result (List ChunkEntry × List ℕ) ℕ) → i < count → entry_at next_file named bytes ≡ Ok (c, after)
    → with_front front (entries_at next_file (count - i) named bytes) ≡ total → with_front (front ++ c ∷ []) (entries_at next_file (count - (i + 1)) (naming named c) after) ≡ total
unfolding entries_at
goes_on next_file front count i named bytes c after total lt h so_far =
    let k : count - i ≡ suc (count - (i + 1)) = omega arith in
    let one : with_front front (entries_at next_file (count - i) named bytes) ≡ with_front (front ++ c ∷ []) (entries_at next_file (count - (i + 1)) (naming named c) after) = rw (k, h) (regroup front c (entries_at next_file (count - (i + 1)) (naming named c) after)) in
    sym one ∙ so_far

pub ends : (next_file : ℕ) (e : Or ℕ) (front : List ChunkEntry) (count i : ℕ) (named bytes : List ℕ) (total : Result (List ChunkEntry × List ℕ) ℕ) → i < count → Fails e (entry_at next_file named bytes)
    → with_front front (entries_at next_file (count - i) named bytes) ≡ total → Fails e total
unfolding entries_at
ends next_file NoMemory front count i named bytes total lt h so_far = tt
ends next_file (Fault f) front count i named bytes total lt h so_far =
    let k : count - i ≡ suc (count - (i + 1)) = omega arith in
    let one : with_front front (entries_at next_file (count - i) named bytes) ≡ Err f = rw (k, h) refl in
    sym so_far ∙ one

pub is_done : (next_file : ℕ) (front : List ChunkEntry) (count i : ℕ) (named bytes : List ℕ) (total : Result (List ChunkEntry × List ℕ) ℕ) → count ≤ i → with_front front (entries_at next_file (count - i) named bytes) ≡ total → total ≡ Ok (front, bytes)
unfolding entries_at
is_done next_file front count i named bytes total le so_far =
    let k : count - i ≡ 0 = omega arith in
    let one : with_front front (entries_at next_file (count - i) named bytes) ≡ Ok (front, bytes) = rw k (ap (λ cs. Ok (cs, bytes)) (append-nil front)) in
    sym so_far ∙ one
