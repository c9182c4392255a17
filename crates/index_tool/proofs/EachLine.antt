-- A line, or lines, of each element of a list.
use Rattle.std.proofs.Common.{◌≡◌, ℕ, ◌+◌, ◌<◌, ◌≤◌, List, [], ◌∷◌, ◌++◌, Ok, Err, sym, ◌∙◌, ap, subst, length, get_or, take, drop, append-nil}
use Rattle.std.specs.List.{flat_map}
use Rattle.std.proofs.Math.ListN.{take-append-drop}
use Rattle.std.proofs.Math.Seq.{take_all}
use Rattle.std.proofs.lemmas.List.{take_more}
use Rattle.std.proofs.lemmas.List.Concat.{flat_map-append}
use Rattle.index_tool.specs.declared.host.ToolHost.{Ghosts as HostWords}
use Rattle.index_tool.specs.declared.printing.Stop.{Stop}
use Rattle.index_tool.specs.steps.Sides.{BuffersLines}
use Rattle.index_tool.proofs.Printed.{buffer_stop, buffer_then}

module _ {X : Type 0} (f : X → List ℕ) (xs : List X) where
  more : (n : ℕ) (d : X) → n < length xs → flat_map f (take (n + 1) xs) ≡ flat_map f (take n xs) ++ f (get_or xs n d)
  more n d low =
      ap (flat_map f) (take_more xs n d low) ∙ flat_map-append f (take n xs) (get_or xs n d ∷ [])
      ∙ ap (λ (l : List ℕ). flat_map f (take n xs) ++ l) (append-nil (f (get_or xs n d)))

  whole : (n : ℕ) → flat_map f xs ≡ flat_map f (take n xs) ++ flat_map f (drop n xs)
  whole n = ap (flat_map f) (sym (take-append-drop n xs)) ∙ flat_map-append f (take n xs) (drop n xs)

  -- lines up to an element, and those of this one
  pub each_more : {H S T : Type 0} (host : HostWords H S) (done : T) (n : ℕ) (d : X) (old mid new : List ℕ × H) → n < length xs → BuffersLines {T = T} host (Ok done) (flat_map f (take n xs)) old mid → BuffersLines {T = T} host (Ok done) (f (get_or xs n d)) mid new
      → BuffersLines {T = T} host (Ok done) (flat_map f (take (n + 1) xs)) old new
  each_more {H} {S} {T} host done n d old mid new low first then =
      subst (λ (l : List ℕ). BuffersLines {T = T} host (Ok done) l old new) (sym (more n d low))
      (buffer_then host done (Ok done) (flat_map f (take n xs)) (f (get_or xs n d)) old mid new first then)

  -- those of this one didn't all go on
  pub each_stop : {H S T : Type 0} (host : HostWords H S) (done : T) (stop : Stop) (n : ℕ) (d : X) (old mid new : List ℕ × H) → n < length xs → BuffersLines {T = T} host (Ok done) (flat_map f (take n xs)) old mid → BuffersLines {T = T} host (Err stop) (f (get_or xs n d)) mid new
      → BuffersLines {T = T} host (Err stop) (flat_map f xs) old new
  each_stop {H} {S} {T} host done stop n d old mid new low first then =
      let all : flat_map f xs ≡ (flat_map f (take n xs) ++ f (get_or xs n d)) ++ flat_map f (drop (n + 1) xs) = whole (n + 1) ∙ ap (λ (l : List ℕ). l ++ flat_map f (drop (n + 1) xs)) (more n d low) in
      subst (λ (l : List ℕ). BuffersLines {T = T} host (Err stop) l old new) (sym all)
      (buffer_stop host T T stop (flat_map f (take n xs) ++ f (get_or xs n d)) (flat_map f (drop (n + 1) xs)) old new
      (buffer_then host {U = T} done (Err stop) (flat_map f (take n xs)) (f (get_or xs n d)) old mid new first then))

  -- all were
  pub each_all : {H S T : Type 0} (host : HostWords H S) (done : T) (n : ℕ) (old new : List ℕ × H) → length xs ≤ n → BuffersLines {T = T} host (Ok done) (flat_map f (take n xs)) old new → BuffersLines {T = T} host (Ok done) (flat_map f xs) old new
  each_all {H} {S} {T} host done n old new past prints = subst (λ (l : List ℕ). BuffersLines {T = T} host (Ok done) l old new) (ap (flat_map f) (take_all n xs past)) prints
