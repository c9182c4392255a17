-- The outcomes of a crash of a disk in memory: each is an image that the crash may leave.
use Rattle.std.proofs.Common.{◌≡◌, ◌≢◌, inl, ℕ, ◌+◌, ◌-◌, ◌≤◌, ◌<◌, List, [], ◌∷◌, ◌++◌, length, map, reverse, take, drop, get_or, min, Bool, true, false, cond, eqb, Option, Some, None, refl, sym, ◌∙◌, ap, subst, arith, length-append, length-take, length-drop, take-append-drop}
use Rattle.std.proofs.lemmas.Bool.{ne_eqb, eqb-true}
use Rattle.std.proofs.lemmas.List.{reverse-append, take_more, length-map}
use mathlib.Core.Path.{fun_ext}
use Rattle.std.specs.List.{AllZip}
use Rattle.std.specs.Map.{lookup}
use Rattle.std.specs.Option.{option_map}
use Rattle.std.proofs.Common.{Vec, Global, vec_len}
use Rattle.chunk_store.specs.Images.{Image, Changes, contents, over}
use Rattle.chunk_store.specs.CrashModel.{Tears, MayVanish}
use Rattle.chunk_store.specs.Memory.{put_in, replayed, MayLeave, AreFitting, IsWithin, mark, outcome}
use Rattle.chunk_store.specs.declared.call.Call.{Call}
use Rattle.chunk_store.specs.declared.call.Call.TheVariants.{Wrote, Synced, Removed, Idle}
use Rattle.chunk_store.specs.steps.MemoryLaws.{put_here, put_others, tears, passes, write_did_nothing, remove_did_nothing}

-- two crashes that may be, joined: this file as the second leaves it, the others as the first does
module _ (g file : ℕ) (R : Option (List ℕ) → Option (List ℕ) → Type 0) (d e x y : Image) (first : Changes g R d x) (second : Changes g R e y) where
  here_at : (b : Bool) → eqb g file ≡ b → R (cond b (e file) (d g)) (cond b (y file) (x g))
  here_at true same = subst (λ (n : ℕ). R (e n) (y n)) (eqb-true g file same) second.here
  here_at false apart = first.here

  others_at : (f : ℕ) → f ≢ g → (b : Bool) → eqb f file ≡ b → cond b (y file) (x f) ≡ cond b (e file) (d f)
  others_at f apart true same = let is : f ≡ file = eqb-true f file same in second.others file (λ h. apart (is ∙ h))
  others_at f apart false other = first.others f apart

  changes_mixed : Changes g R (put_in file (e file) d) (put_in file (y file) x)
  changes_mixed = record { here = here_at (eqb g file) refl; others = λ f apart. others_at f apart (eqb f file) refl }

either : (P : Option (List ℕ) → Type 0) (file f : ℕ) (o v : Option (List ℕ)) → (f ≡ file → P o) → P v → (b : Bool) → eqb f file ≡ b → P (cond b o v)
either P file f o v here there true same = here (eqb-true f file same)
either P file f o v here there false apart = there

mixes : (start : Image) (calls : List Call) (file : ℕ) (x y : Image) → MayLeave start calls x → MayLeave start calls y → MayLeave start calls (put_in file (y file) x)
mixes start [] file x y first second = λ f. either (λ o. o ≡ start f) file f (y file) (x f) (λ is. second file ∙ ap start (sym is)) (first f) (eqb f file) refl
mixes start (Wrote g at bytes ∷ calls) file x y first second = (put_in file (second.0 file) first.0, mixes start calls file first.0 second.0 first.1 second.1, changes_mixed g file (Tears at (length bytes)) first.0 second.0 x y first.2 second.2)
mixes start (Synced g ∷ calls) file x y first second =
    (mixes start calls file x y first.0 second.0, either (λ o. o ≡ replayed start calls g) file g (y file) (x g) (λ is. ap y (sym is) ∙ second.1) first.1 (eqb g file) refl)
mixes start (Removed g ∷ calls) file x y first second = (put_in file (second.0 file) first.0, mixes start calls file first.0 second.0 first.1 second.1, changes_mixed g file MayVanish first.0 second.0 x y first.2 second.2)
mixes start (Idle ∷ calls) file x y first second = mixes start calls file x y first second

length_over : (at : ℕ) (bytes old : List ℕ) → length (over at bytes old) ≡ min at (length old) + length bytes + (length old - (at + length bytes))
length_over at bytes old = omega (arith, length-append (take at old ++ bytes) (drop (at + length bytes) old), length-append (take at old) bytes, length-take at old, length-drop (at + length bytes) old)

same_over : (pick at : ℕ) (bytes old new : List ℕ) → length old ≡ length new → length (over at (map (mark pick) bytes) old) ≡ length (over at bytes new)
same_over pick at bytes old new same = omega (arith, length_over at (map (mark pick) bytes) old, length_over at bytes new, length-map bytes (mark pick), same)

-- a file of which nothing is undone is as long as a read finds it
same_after_write : (pick at : ℕ) (bytes : List ℕ) (left now : Image) (file f : ℕ) → ((g : ℕ) → length (contents (left g)) ≡ length (contents (now g)))
    → (b : Bool) → length (contents (cond b (Some (over at (map (mark pick) bytes) (contents (left file)))) (left f))) ≡ length (contents (cond b (Some (over at bytes (contents (now file)))) (now f)))
same_after_write pick at bytes left now file f before true = same_over pick at bytes (contents (left file)) (contents (now file)) (before file)
same_after_write pick at bytes left now file f before false = before f

same_after_sync : (left now : Image) (file f : ℕ) → length (contents (left f)) ≡ length (contents (now f)) → (b : Bool) → eqb f file ≡ b → length (contents (cond b (now file) (left f))) ≡ length (contents (now f))
same_after_sync left now file f before true is = ap (λ (n : ℕ). length (contents (now n))) (sym (eqb-true f file is))
same_after_sync left now file f before false apart = before

same_after_removal : (left now : Image) (f : ℕ) → length (contents (left f)) ≡ length (contents (now f)) → (b : Bool) → length (contents (cond b None (left f))) ≡ length (contents (cond b None (now f)))
same_after_removal left now f before true = refl
same_after_removal left now f before false = before

same_length : (pick : ℕ) → eqb pick 0 ≡ false → (start : Image) (calls : List Call) (f : ℕ) → length (contents (outcome pick start calls f)) ≡ length (contents (replayed start calls f))
same_length pick some start [] f = refl
same_length pick some start (Wrote file at bytes ∷ calls) f = rw some (same_after_write pick at bytes (outcome pick start calls) (replayed start calls) file f (λ g. same_length pick some start calls g) (eqb f file))
same_length pick some start (Synced file ∷ calls) f = same_after_sync (outcome pick start calls) (replayed start calls) file f (same_length pick some start calls f) (eqb f file) refl
same_length pick some start (Removed file ∷ calls) f = rw some (same_after_removal (outcome pick start calls) (replayed start calls) f (same_length pick some start calls f) (eqb f file))
same_length pick some start (Idle ∷ calls) f = same_length pick some start calls f

-- an outcome of a crash is one that may be
wrote_may : (start : Image) (calls : List Call) (file at : ℕ) (bytes marked : List ℕ) (left : Image) → length marked ≡ length bytes → MayLeave start calls left
    → (b : Bool) → (b ≡ false → at ≤ length (contents (left file))) → (d : Image) × MayLeave start calls d × Changes file (Tears at (length bytes)) d (cond b left (put_in file (Some (over at marked (contents (left file)))) left))
wrote_may start calls file at bytes marked left same may true within = (left, may, write_did_nothing file at (length bytes) left)
wrote_may start calls file at bytes marked left same may false within =
    let new : Option (List ℕ) = Some (over at marked (contents (left file))) in
    let torn : Tears at (length marked) (left file) (put_in file new left file) = tears at marked (left file) (put_in file new left file) (within refl) (put_here file new left) in
    (left, may, record { here = subst (λ (n : ℕ). Tears at n (left file) (put_in file new left file)) same torn; others = put_others file new left })

removed_may : (start : Image) (calls : List Call) (file : ℕ) (left : Image) → MayLeave start calls left → (b : Bool) → (d : Image) × MayLeave start calls d × Changes file MayVanish d (cond b left (put_in file None left))
removed_may start calls file left may true = (left, may, remove_did_nothing file left)
removed_may start calls file left may false = (left, may, record { here = inl (put_here file None left); others = put_others file None left })

pub outcome_may : (pick : ℕ) (start : Image) (calls : List Call) → AreFitting start calls → MayLeave start calls (outcome pick start calls)
outcome_may pick start [] fitting = λ f. refl
outcome_may pick start (Wrote file at bytes ∷ calls) fitting =
    wrote_may start calls file at bytes (map (mark pick) bytes) (outcome pick start calls) (length-map bytes (mark pick)) (outcome_may pick start calls fitting.0) (eqb pick 0)
    (λ some. omega (arith, same_length pick some start calls file, fitting.1))
outcome_may pick start (Synced file ∷ calls) fitting =
    (mixes start calls file (outcome pick start calls) (replayed start calls) (outcome_may pick start calls fitting) (passes start calls fitting), put_here file (replayed start calls file) (outcome pick start calls))
outcome_may pick start (Removed file ∷ calls) fitting = removed_may start calls file (outcome pick start calls) (outcome_may pick start calls fitting) (eqb pick 0)
outcome_may pick start (Idle ∷ calls) fitting = outcome_may pick start calls fitting

-- fronts of a record
fitting_back : (start : Image) (later earlier : List Call) → AreFitting start (later ++ earlier) → AreFitting start earlier
fitting_back start [] earlier fitting = fitting
fitting_back start (Wrote file at bytes ∷ later) earlier fitting = fitting_back start later earlier fitting.0
fitting_back start (Synced file ∷ later) earlier fitting = fitting_back start later earlier fitting
fitting_back start (Removed file ∷ later) earlier fitting = fitting_back start later earlier fitting
fitting_back start (Idle ∷ later) earlier fitting = fitting_back start later earlier fitting

pub fitting_front : (start : Image) (calls : List Call) (i : ℕ) → AreFitting start (reverse calls) → AreFitting start (reverse (take i calls))
fitting_front start calls i fitting =
    let split : reverse calls ≡ reverse (drop i calls) ++ reverse (take i calls) = ap reverse (sym (take-append-drop i calls)) ∙ reverse-append (take i calls) (drop i calls) in
    fitting_back start (reverse (drop i calls)) (reverse (take i calls)) (subst (λ (l : List Call). AreFitting start l) split fitting)

pub one_more : (calls : List Call) (i : ℕ) (call : Call) → i < length calls → call ≡ get_or calls i call → reverse (take (i + 1) calls) ≡ call ∷ reverse (take i calls)
one_more calls i call within is = ap reverse (take_more calls i call within ∙ ap (λ (c : Call). take i calls ++ c ∷ []) (sym is)) ∙ reverse-append (take i calls) (call ∷ [])

pub is_within : (start : Image) (call : Call) (calls : List Call) → AreFitting start (call ∷ calls) → IsWithin (replayed start calls) call
is_within start (Wrote file at bytes) calls fitting = fitting.1
is_within start (Synced file) calls fitting = tt
is_within start (Removed file) calls fitting = tt
is_within start Idle calls fitting = tt

pub is_within_left : (pick : ℕ) → pick ≢ 0 → (start : Image) (call : Call) (calls : List Call) → AreFitting start (call ∷ calls) → IsWithin (outcome pick start calls) call
is_within_left pick some start (Wrote file at bytes) calls fitting = omega (arith, same_length pick (ne_eqb pick 0 some) start calls file, fitting.1)
is_within_left pick some start (Synced file) calls fitting = tt
is_within_left pick some start (Removed file) calls fitting = tt
is_within_left pick some start Idle calls fitting = tt

pub same_image : (x y : Image) → ((f : ℕ) → x f ≡ y f) → x ≡ y
same_image x y same = fun_ext same

-- a copy of all files is the same image
same_bytes : (xs ys : List ℕ) → AllZip (λ x y. y ≡ x) xs ys → ys ≡ xs
same_bytes [] [] same = refl
same_bytes [] (y ∷ ys) same = absurd same
same_bytes (x ∷ xs) [] same = absurd same
same_bytes (x ∷ xs) (y ∷ ys) same = let rest : ys ≡ xs = same_bytes xs ys same.1 in let first : y ≡ x = same.0 in cc

abbrev Entry : Type 0
Entry = ℕ × Vec ℕ Global

pub copied : (test : ℕ → Bool) (es fs : List Entry) → AllZip (λ (p : Entry) (q : Entry). (q.0 ≡ p.0) × (AllZip (λ x y. y ≡ x) p.1.items q.1.items × (vec_len q.1 ≡ vec_len p.1))) es fs
    → option_map (λ bytes. bytes.items) (lookup test fs) ≡ option_map (λ bytes. bytes.items) (lookup test es)
copied test [] [] same = refl
copied test [] (q ∷ fs) same = absurd same
copied test (p ∷ es) [] same = absurd same
copied test (p ∷ es) (q ∷ fs) same = ap (λ (k : ℕ). option_map (λ bytes. bytes.items) (cond (test k) (Some q.1) (lookup test fs))) same.0.0 ∙ at_key (test p.0) (copied test es fs same.1)
  where
    at_key : (b : Bool) → option_map (λ bytes. bytes.items) (lookup test fs) ≡ option_map (λ bytes. bytes.items) (lookup test es) → option_map (λ bytes. bytes.items) (cond b (Some q.1) (lookup test fs)) ≡ option_map (λ bytes. bytes.items) (cond b (Some p.1) (lookup test es))
    at_key true rest = ap Some (same_bytes p.1.items q.1.items same.0.1.0)
    at_key false rest = rest
