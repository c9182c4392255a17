-- A whole file that is read, and calls that only look.
use Rattle.std.proofs.Common.{◌≡◌, ⊎_elim, inl, inr, ℕ, List, ◌++◌, Option, Some, None, length, take, drop, sym, ◌∙◌, ap, arith}
use Rattle.std.specs.Option.{option_map}
use Rattle.std.proofs.lemmas.List.{take_all, take_at}
use Rattle.chunk_store.specs.Images.{Image, Reads, contents}
use Rattle.chunk_store.specs.CrashModel.{KeepsAll, OnlyLooks}
use Rattle.chunk_store.specs.Calls.{OnlyReads}
use Rattle.chunk_store.specs.declared.disk.Disk.{Ghosts as DiskWords}

whole_of : (bytes old : List ℕ) → length bytes ≡ length old → bytes ≡ take (length bytes) old → old ≡ bytes
whole_of bytes old len is = sym (is ∙ take_all (length bytes) old (omega (arith, len)))

pub found_by : (bytes : List ℕ) (file : Option (List ℕ)) (n : ℕ) → Some n ≡ option_map length file → length bytes ≡ n → Reads (contents file) 0 bytes → file ≡ Some bytes
found_by bytes None n len size reads = absurd (cc len)
found_by bytes (Some old) n len size reads = let same : n ≡ length old = cc in ap Some (whole_of bytes old (size ∙ same) reads)

pub written_back : (into items : List ℕ) (n : ℕ) → length into ≡ n → length items ≡ n → take n (into ++ drop (length into) items) ≡ into
written_back into items n a b = take_at into (drop (length into) items) n a

-- one call that only looks, and two
pub looks : {D : Type 0} (words : DiskWords D) (old new : D) → OnlyLooks words.told words.clock words.may_leave words.may_have_left old new → OnlyReads words old new
looks words old new only = record {
  same = only.same;
  later = only.time.later;
  now = only.now;
  since = λ t x le may. ⊎_elim (λ before. inl before) (λ here. inr (only.now x here)) (only.time.nothing_else t x le may);
}

pub looks_then : {D : Type 0} (words : DiskWords D) (old mid new : D) → OnlyReads words old mid → OnlyReads words mid new → OnlyReads words old new
looks_then words old mid new first second = record {
  same = second.same ∙ first.same;
  later = omega (arith, first.later, second.later);
  now = λ x may. first.now x (second.now x may);
  since = λ t x le may. ⊎_elim (λ before. first.since t x le before) (λ here. inr (first.now x here)) (second.since t x (omega (arith, le, first.later)) may);
}

-- no call, and two that keep all that a crash may leave
pub keeps_same : {D : Type 0} (may : D → Image → Type 0) (disk : D) → KeepsAll may disk disk
keeps_same may disk = record { keeps = λ x left. left }

pub keeps_then : {D : Type 0} (may : D → Image → Type 0) (old mid new : D) → KeepsAll may old mid → KeepsAll may mid new → KeepsAll may old new
keeps_then may old mid new first second = record { keeps = λ x left. second.keeps x (first.keeps x left) }
