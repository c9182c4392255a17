-- A disk in memory: the calls that were made on it, what a read gives after them, and what a crash may leave.
use Rattle.std.specs.Prelude.{◌≡◌, ◌⊎◌, ℕ, ◌+◌, ◌≤◌, ◌<◌, ◌^◌, List, [], ◌∷◌, length, map, Bool, true, false, ◌==◌, Option, Some, None, Result, Ok, Err, if◌then◌else◌}
use Rattle.std.specs.List.{list_any}
use Rattle.std.specs.Option.{option_map}
use Rattle.std.specs.BTreeMap.{BTreeMap, get}
use Rattle.std.specs.Ordering.{nat_cmp}
use Rattle.std.proofs.Common.{Vec, Global}
use Rattle.std.proofs.Props.{props}
use Rattle.chunk_store.specs.Images.{Image, Changes, contents, over}
use Rattle.chunk_store.specs.CrashModel.{Tears, MayVanish}
use Rattle.chunk_store.specs.declared.call.Call.{Call}
use Rattle.chunk_store.specs.declared.call.Call.TheVariants.{Wrote, Synced, Removed, Idle}

-- the image that a map of files is
abbrev pub image_of : BTreeMap ℕ (Vec ℕ Global) → Image
image_of files = λ f. option_map (λ bytes. bytes.items) (get nat_cmp files f)

-- the image with other contents of one file
abbrev pub put_in : ℕ → Option (List ℕ) → Image → Image
put_in file new image = λ f. if f == file then new else image f

-- what a read gives after a call
abbrev pub after_call : Image → Call → Image
after_call image (Wrote file at bytes) = put_in file (Some (over at bytes (contents (image file)))) image
after_call image (Synced file) = image
after_call image (Removed file) = put_in file None image
after_call image Idle = image

-- what a read gives after these calls on a disk that had these files, the last call first
abbrev pub replayed : Image → List Call → Image
replayed start [] = start
replayed start (call ∷ calls) = after_call (replayed start calls) call

-- What a crash may leave after these calls, the last call first.
abbrev pub MayLeave : Image → List Call → Image → Type 0
MayLeave start [] x = (f : ℕ) → x f ≡ start f
MayLeave start (Wrote file at bytes ∷ calls) x = (d : Image) × MayLeave start calls d × Changes file (Tears at (length bytes)) d x
MayLeave start (Synced file ∷ calls) x = MayLeave start calls x × (x file ≡ replayed start calls file)
MayLeave start (Removed file ∷ calls) x = (d : Image) × MayLeave start calls d × Changes file MayVanish d x
MayLeave start (Idle ∷ calls) x = MayLeave start calls x

-- What a crash may have left at a moment since so many calls.
abbrev pub MayHaveLeft : Image → List Call → ℕ → Image → Type 0
MayHaveLeft start [] t x = MayLeave start [] x
MayHaveLeft start (call ∷ calls) t x = MayLeave start (call ∷ calls) x ⊎ ((t ≤ length calls) × MayHaveLeft start calls t x)

-- Each write began within its file, and no file is too long for its places.
abbrev pub AreFitting : Image → List Call → Type 0
AreFitting start [] = (f : ℕ) → length (contents (start f)) < 2 ^ 64
AreFitting start (Wrote file at bytes ∷ calls) = AreFitting start calls × (at ≤ length (contents (replayed start calls file))) × (at + length bytes < 2 ^ 64)
AreFitting start (call ∷ calls) = AreFitting start calls

pub AreFitting-prop : (start : Image) (calls : List Call) → IsProp (AreFitting start calls)
AreFitting-prop start [] = hlevel props
AreFitting-prop start (Wrote file at bytes ∷ calls) = hlevel (props, AreFitting-prop start calls)
AreFitting-prop start (Synced file ∷ calls) = AreFitting-prop start calls
AreFitting-prop start (Removed file ∷ calls) = AreFitting-prop start calls
AreFitting-prop start (Idle ∷ calls) = AreFitting-prop start calls

-- The place of the call, if it writes, lies in its file.
abbrev pub IsWithin : Image → Call → Type 0
IsWithin image (Wrote file at bytes) = at ≤ length (contents (image file))
IsWithin image call = Unit {0}

-- a byte that was written and not synced, as a crash leaves it: as it was written (1), 1 (2) or 255
abbrev pub mark : ℕ → ℕ → ℕ
mark pick byte = if pick == 1 then byte else if pick == 2 then 1 else 255

-- what one crash leaves after a call, by what it left before and what a read then gave
abbrev pub left_after : ℕ → Image → Image → Call → Image
left_after pick now left (Wrote file at bytes) = if pick == 0 then left else put_in file (Some (over at (map (mark pick) bytes) (contents (left file)))) left
left_after pick now left (Synced file) = put_in file (now file) left
left_after pick now left (Removed file) = if pick == 0 then left else put_in file None left
left_after pick now left Idle = left

-- what one crash leaves after these calls, the last call first: what wasn't synced is as never done (0), or done, each byte
-- with this mark
abbrev pub outcome : ℕ → Image → List Call → Image
outcome pick start [] = start
outcome pick start (call ∷ calls) = left_after pick (replayed start calls) (outcome pick start calls) call

-- the call after these is one of those that are to fail
abbrev pub is_listed : List ℕ → List Call → Bool
is_listed failing calls = list_any (λ number. number == length calls + 1) failing

-- What came of a call, by the records before and after it, the last call first: it wasn't to fail, and is recorded; or it was to
-- fail, and is recorded as one that did nothing; or no memory was left for its record, and there is none.
abbrev pub Records : {T E : Type 0} → List ℕ → Call → Result T E → List Call → List Call → Type 0
Records failing call (Ok value) old new = (is_listed failing old ≡ false) × (new ≡ call ∷ old)
Records failing call (Err fault) old new = ((is_listed failing old ≡ true) × (new ≡ Idle ∷ old)) ⊎ (new ≡ old)
