-- The laws of a disk, of the one in memory.
use Rattle.std.proofs.Common.{◌≡◌, ◌≢◌, ◌⊎◌, ⊎_elim, inl, inr, ℕ, ◌+◌, ◌≤◌, ◌<◌, ◌^◌, List, [], ◌∷◌, ◌++◌, length, take, drop, min, Bool, true, false, cond, eqb, Option, Some, None, refl, sym, ◌∙◌, ap, subst, arith, append_assoc, length-append, length-take, length-drop}
use Rattle.std.proofs.lemmas.Bool.{eq-eqb, ne_eqb, eqb-true, eqb-false}
use Rattle.std.proofs.lemmas.List.{take_at, drop_at, take_min}
use Rattle.chunk_store.specs.Images.{Image, Changes, contents, over}
use Rattle.chunk_store.specs.CrashModel.{Torn, Tears, MayVanish, Elapses}
use Rattle.chunk_store.specs.Memory.{put_in, replayed, MayLeave, MayHaveLeft, AreFitting}
use Rattle.chunk_store.specs.declared.call.Call.{Call}
use Rattle.chunk_store.specs.declared.call.Call.TheVariants.{Wrote, Synced, Removed, Idle}

pub put_here : (file : ℕ) (new : Option (List ℕ)) (image : Image) → put_in file new image file ≡ new
put_here file new image = ap (λ (c : Bool). cond c new (image file)) (eq-eqb file file refl)

pub put_others : (file : ℕ) (new : Option (List ℕ)) (image : Image) (f : ℕ) → f ≢ file → put_in file new image f ≡ image f
put_others file new image f apart = ap (λ (c : Bool). cond c new (image f)) (ne_eqb f file apart)

-- a whole write is one that a crash may leave
pub written : (at : ℕ) (bytes old : List ℕ) → at ≤ length old → Torn at (length bytes) old (over at bytes old)
written at bytes old fits =
    let size : length (take at old) ≡ at = omega (arith, length-take at old) in
    let whole : over at bytes old ≡ take at old ++ (bytes ++ drop (at + length bytes) old) = append_assoc (take at old) bytes (drop (at + length bytes) old) in
    let long : length (over at bytes old) ≡ at + length bytes + length (drop (at + length bytes) old) = omega (arith, ap length whole, length-append (take at old) (bytes ++ drop (at + length bytes) old), length-append bytes (drop (at + length bytes) old), size) in
    let front : length (take at old ++ bytes) ≡ at + length bytes = omega (arith, length-append (take at old) bytes, size) in
    let least : min at (length old) ≡ at = omega arith in
    record {
      before = ap (λ (m : ℕ). take m (over at bytes old)) least ∙ ap (λ (l : List ℕ). take at l) whole ∙ take_at (take at old) (bytes ++ drop (at + length bytes) old) at size;
      after = drop_at (take at old ++ bytes) (drop (at + length bytes) old) (at + length bytes) front;
      no_shorter = omega (arith, long, length-drop (at + length bytes) old);
      no_longer = omega (arith, long, length-drop (at + length bytes) old);
    }

pub tears : (at : ℕ) (bytes : List ℕ) (old new : Option (List ℕ)) → at ≤ length (contents old) → new ≡ Some (over at bytes (contents old)) → Tears at (length bytes) old new
tears at bytes None None fits is = absurd (cc (is))
tears at bytes (Some old) None fits is = absurd (cc (is))
tears at bytes None (Some new) fits is = let same : over at bytes [] ≡ new = cc (is) in subst (λ (l : List ℕ). Torn at (length bytes) [] l) same (written at bytes [] fits)
tears at bytes (Some old) (Some new) fits is = let same : over at bytes old ≡ new = cc (is) in subst (λ (l : List ℕ). Torn at (length bytes) old l) same (written at bytes old fits)

-- a write that did nothing is one that was cut short
torn_same : (at n : ℕ) (old : List ℕ) → Torn at n old old
torn_same at n old = record { before = least; after = refl; no_shorter = omega arith; no_longer = omega arith }
  where
    least : take (min at (length old)) old ≡ take at old
    least = take_min at old

tears_same : (at n : ℕ) (old : Option (List ℕ)) → Tears at n old old
tears_same at n None = tt
tears_same at n (Some old) = torn_same at n old

pub write_did_nothing : (file at n : ℕ) (x : Image) → Changes file (Tears at n) x x
write_did_nothing file at n x = record { here = tears_same at n (x file); others = λ f apart. refl }

pub remove_did_nothing : (file : ℕ) (x : Image) → Changes file MayVanish x x
remove_did_nothing file x = record { here = inr refl; others = λ f apart. refl }

-- what a read gives, a crash may leave
pub passes : (start : Image) (calls : List Call) → AreFitting start calls → MayLeave start calls (replayed start calls)
passes start [] fitting = λ f. refl
passes start (Wrote file at bytes ∷ calls) fitting =
    let image = replayed start calls in
    let new = Some (over at bytes (contents (image file))) in
    (image, passes start calls fitting.0, record { here = tears at bytes (image file) (put_in file new image file) fitting.1 (put_here file new image); others = put_others file new image })
passes start (Synced file ∷ calls) fitting = (passes start calls fitting, refl)
passes start (Removed file ∷ calls) fitting = (replayed start calls, passes start calls fitting, record { here = inl (put_here file None (replayed start calls)); others = put_others file None (replayed start calls) })
passes start (Idle ∷ calls) fitting = passes start calls fitting

pub passes_told : (start : Image) (calls : List Call) → AreFitting start calls → (x : Image) → Some (replayed start calls) ≡ Some x → MayLeave start calls x
passes_told start calls fitting x told = let same : replayed start calls ≡ x = cc (told) in subst (λ (i : Image). MayLeave start calls i) same (passes start calls fitting)

pub only_now : (start : Image) (calls : List Call) (x : Image) → MayHaveLeft start calls (length calls) x → MayLeave start calls x
only_now start [] x left = left
only_now start (call ∷ calls) x (inl now) = now
only_now start (call ∷ calls) x (inr before) = absurd (omega (arith, before.0))

pub counts_now : (start : Image) (calls : List Call) (t : ℕ) (x : Image) → MayLeave start calls x → MayHaveLeft start calls t x
counts_now start [] t x now = now
counts_now start (call ∷ calls) t x now = inl now

-- no file is too long for its places
torn_short : (at n : ℕ) (old new : List ℕ) → length old < 2 ^ 64 → at + n < 2 ^ 64 → Torn at n old new → length new < 2 ^ 64
torn_short at n old new short end torn = omega (arith, torn.no_longer, short, end)

tears_short : (at n : ℕ) (old new : Option (List ℕ)) → length (contents old) < 2 ^ 64 → at + n < 2 ^ 64 → Tears at n old new → length (contents new) < 2 ^ 64
tears_short at n None None short end tears = short
tears_short at n (Some old) None short end tears = absurd tears
tears_short at n None (Some new) short end tears = torn_short at n [] new short end tears
tears_short at n (Some old) (Some new) short end tears = torn_short at n old new short end tears

-- what holds of each file before a change holds after it, where it holds of the changed one
module _ (file f : ℕ) (R : Option (List ℕ) → Option (List ℕ) → Type 0) (P : Option (List ℕ) → Type 0) (d x : Image) (changes : Changes file R d x) (here : R (d file) (x file) → P (x file)) (before : P (d f)) where
  at_either : (b : Bool) → eqb f file ≡ b → P (x f)
  at_either true same = subst (λ (n : ℕ). P (x n)) (sym (eqb-true f file same)) (here changes.here)
  at_either false apart = subst P (sym (changes.others f (eqb-false f file apart))) before

  elsewhere : P (x f)
  elsewhere = at_either (eqb f file) refl

pub short : (start : Image) (calls : List Call) (x : Image) (f : ℕ) → AreFitting start calls → MayLeave start calls x → length (contents (x f)) < 2 ^ 64
short start [] x f fitting left = subst (λ (o : Option (List ℕ)). length (contents o) < 2 ^ 64) (sym (left f)) (fitting f)
short start (Wrote file at bytes ∷ calls) x f fitting left =
    elsewhere file f (Tears at (length bytes)) (λ o. length (contents o) < 2 ^ 64) left.0 x left.2 (tears_short at (length bytes) (left.0 file) (x file) (short start calls left.0 file fitting.0 left.1) fitting.2) (short start calls left.0 f fitting.0 left.1)
short start (Synced file ∷ calls) x f fitting left = short start calls x f fitting left.0
short start (Removed file ∷ calls) x f fitting left =
    elsewhere file f MayVanish (λ o. length (contents o) < 2 ^ 64) left.0 x left.2 (λ vanish. ⊎_elim (λ gone. subst (λ (o : Option (List ℕ)). length (contents o) < 2 ^ 64) (sym gone) none_short) (λ same. subst (λ (o : Option (List ℕ)). length (contents o) < 2 ^ 64) (sym same) (short start calls left.0 file fitting left.1)) vanish) (short start calls left.0 f fitting left.1)
  where
    none_short : length (contents None) < 2 ^ 64
    none_short = omega arith
short start (Idle ∷ calls) x f fitting left = short start calls x f fitting left

swapped : {P Q R : Type 0} → P ⊎ (Q × R) → R ⊎ P
swapped (inl p) = inr p
swapped (inr q) = inl q.1

-- one more call, on a disk that is told by the files that it had at first and the calls since
module _ {D : Type 0} (start : D → Image) (calls : D → List Call) (old new : D) (same : start new ≡ start old) where
  pub elapses : (call : Call) → calls new ≡ call ∷ calls old → Elapses (λ d. length (calls d)) (λ d. MayLeave (start d) (calls d)) (λ d. MayHaveLeft (start d) (calls d)) old new
  elapses call more = record {
    later = omega (arith, ap length more);
    nothing_else = λ t x le left. let moved : MayHaveLeft (start old) (call ∷ calls old) t x = subst (λ (s : Image). MayHaveLeft s (call ∷ calls old) t x) same (subst (λ (l : List Call). MayHaveLeft (start new) l t x) more left) in
        ⊎_elim (λ before. inl before) (λ now. inr (subst (λ (l : List Call). MayLeave (start new) l x) (sym more) (subst (λ (s : Image). MayLeave s (call ∷ calls old) x) (sym same) now))) (swapped moved);
    keeps = λ t x le left. subst (λ (l : List Call). MayHaveLeft (start new) l t x) (sym more) (subst (λ (s : Image). MayHaveLeft s (call ∷ calls old) t x) (sym same) (inr (le, left)));
  }

  pub stands_still : calls new ≡ calls old → Elapses (λ d. length (calls d)) (λ d. MayLeave (start d) (calls d)) (λ d. MayHaveLeft (start d) (calls d)) old new
  stands_still none = record {
    later = omega (arith, ap length none);
    nothing_else = λ t x le left. inl (subst (λ (s : Image). MayHaveLeft s (calls old) t x) same (subst (λ (l : List Call). MayHaveLeft (start new) l t x) none left));
    keeps = λ t x le left. subst (λ (l : List Call). MayHaveLeft (start new) l t x) (sym none) (subst (λ (s : Image). MayHaveLeft s (calls old) t x) (sym same) left);
  }
