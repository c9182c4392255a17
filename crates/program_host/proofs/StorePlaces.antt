-- The store at a path, and those that are left without it.
use Rattle.std.proofs.Common.{◌≡◌, ◌∙◌, ◌≤◌, ℕ, zero, suc, List, [], ◌∷◌, All, Bool, true, false, cond, length, take, drop, get_or, refl, ap, arith}
use Rattle.std.specs.Prelude.{Some, None, find, nat_lt, option_map}
use Rattle.std.specs.List.{position, position_or_len, remove, slice_get}
use Rattle.std.specs.Str.{bytes_eq}
use Rattle.std.proofs.lemmas.List.Elements.{All-append, All-drop, All-take}
use Rattle.std.proofs.lemmas.List.Folds.{find_at}
use Rattle.std.proofs.lemmas.List.Quantifiers.{position-Some}
use Rattle.std.proofs.lemmas.Option.{slice_get-get_or}
use Rattle.chunk_store.specs.declared.memory_disk.MemoryDisk.{MemoryDisk}
use Rattle.program_host.specs.HostMemory.{store_at, store_place, stores_without}

-- what stands at the first place at which a test passes is what is found
found_at : {X : Type 0} (p : X → Bool) (xs : List X) (place : ℕ) (d : X) → position p xs ≡ Some place → find p xs ≡ Some (get_or xs place d)
found_at p xs place d is =
    let at : position_or_len p xs ≡ place = by (nat_lt (position_or_len p xs) (length xs)) is in
    find_at p xs ∙ ap (λ (i : ℕ). slice_get xs i) at ∙ slice_get-get_or xs place d (position-Some p xs place d is).0
  where
    by : (b : Bool) → cond b (Some (position_or_len p xs)) None ≡ Some place → position_or_len p xs ≡ place
    by true e = let some : Some (position_or_len p xs) ≡ Some place = e in cc
    by false e = let clash : None ≡ Some place = e in cc

-- none is found where it passes nowhere
found_none : {X : Type 0} (p : X → Bool) (xs : List X) → position p xs ≡ None → find p xs ≡ None
found_none p xs is = find_at p xs ∙ past (position_or_len p xs) xs (by (nat_lt (position_or_len p xs) (length xs)) refl is)
  where
    past : {X : Type 0} (i : ℕ) (xs : List X) → length xs ≤ i → slice_get xs i ≡ None
    past i [] le = refl
    past zero (x ∷ xs) le = absurd (omega (arith, le))
    past (suc i) (x ∷ xs) le = past i xs (omega (arith, le))

    by : (b : Bool) → nat_lt (position_or_len p xs) (length xs) ≡ b → cond b (Some (position_or_len p xs)) None ≡ None → length xs ≤ position_or_len p xs
    by true here e = let clash : Some (position_or_len p xs) ≡ None = e in cc
    by false here e = grind arith

pub taken_at : (stores : List (List ℕ × MemoryDisk)) (path : List ℕ) (place : ℕ) (d : List ℕ × MemoryDisk) → store_place stores path ≡ Some place → store_at stores path ≡ Some (get_or stores place d).1
taken_at stores path place d is = ap (option_map (λ (store : List ℕ × MemoryDisk). store.1)) (found_at (λ (store : List ℕ × MemoryDisk). bytes_eq store.0 path) stores place d is)

pub taken_none : (stores : List (List ℕ × MemoryDisk)) (path : List ℕ) → store_place stores path ≡ None → store_at stores path ≡ None
taken_none stores path is = ap (option_map (λ (store : List ℕ × MemoryDisk). store.1)) (found_none (λ (store : List ℕ × MemoryDisk). bytes_eq store.0 path) stores is)

pub left_without : (stores : List (List ℕ × MemoryDisk)) (path : List ℕ) (place : ℕ) → store_place stores path ≡ Some place → stores_without stores path ≡ remove stores place
left_without stores path place is = rw is refl

-- what holds of all stores holds of those that are left
pub left_have : {X : Type 0} (P : X → Type 0) (xs : List X) (place : ℕ) → All P xs → All P (remove xs place)
left_have P xs place all = All-append P (take place xs) (drop (suc place) xs) (All-take P place xs all) (All-drop P (suc place) xs all)
