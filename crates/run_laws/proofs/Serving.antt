-- What a disk whose count stood still says of the lines of all workers.
use Rattle.std.proofs.Common.{◌≡◌, ⊎_elim, ◌+◌, ℕ, zero, suc, length, map, List, [], ◌∷◌, All, Bool, true, false, Some, slice_get, refl, subst, arith}
use Rattle.std.specs.List.{filter, sum_by}
use Rattle.std.proofs.lemmas.List.Sums.{sum_by-cons}
use Rattle.srch_base.specs.declared.door.Door.{Ghosts as DoorWords}
use Rattle.srch_base.specs.declared.link.Link.{Ghosts as LinkWords}
use Rattle.doc_types.specs.declared.schema.Schema.{Schema}
use Rattle.index_conf.specs.declared.conf.IndexConf.{IndexConf}
use Rattle.ql_session.specs.Events.{Event, Follows, StoreWords}
use Rattle.ql_session.specs.Machines.{FollowAll}
use Rattle.serve_line.proofs.Turning.{FollowAll-append}
use Rattle.step_book.specs.Fronts.{FrontValue}
use Rattle.step_book.specs.Tellings.{AtOpening}
use Rattle.step_history.specs.History.{Base}
use Rattle.engine_tables.specs.Tokens.{TokensValue}
use Rattle.engine_tables.specs.Workers.{by_tokens}
use Rattle.line_workers.specs.Attempts.{all_of, count_all, events_of, faults, is_of}
use Rattle.line_workers.specs.Faults.{FaultsFit}
use Rattle.line_workers.specs.Lines.{Service, ServesLines}
use Rattle.line_workers.specs.Workers.{AllWork, Works, first_tokens}
use Rattle.line_workers.specs.declared.seat.Seat.{Seat}
use Rattle.run_laws.specs.Decided.{IsDecided}
use Rattle.run_laws.specs.Faultless.{IsSteadyDisk}
use Rattle.run_laws.proofs.Sharing.{AreFree, all_decided}

-- a test that nothing passes
none_passes : {X : Type 0} (p : X → Bool) (x : X) (xs : List X) (b : Bool) → p x ≡ b → length (filter p (x ∷ xs)) ≡ 0 → (b ≡ false) × (length (filter p xs) ≡ 0)
none_passes p x xs true is none = (let some : length (filter p (x ∷ xs)) ≡ suc (length (filter p xs)) = rw is refl in absurd (omega (arith, some, none)))
none_passes p x xs false is none = (let same : length (filter p (x ∷ xs)) ≡ length (filter p xs) = rw is refl in (refl, omega (arith, same, none)))

free : (index : ℕ) (schema : ℕ → Schema) (base : ℕ → Base) (events : List (Event FrontValue)) → length (all_of faults index events) ≡ 0 → AreFree schema base index events
free index schema base [] none = tt
free index schema base (event ∷ events) none =
    let both = none_passes (is_of faults index) event events (is_of faults index event) refl none in
    (both.0, free index schema base events both.1)

-- where there are none in all, there are none of each
none_of_each : {X Y : Type 0} (f : Y → ℕ) (g : X → Y) (xs : List X) (i : ℕ) (x : X) → sum_by f (map g xs) ≡ 0 → slice_get xs i ≡ Some x → f (g x) ≡ 0
none_of_each f g [] i x none at = absurd (cc at)
none_of_each f g (y ∷ xs) zero x none at =
    let is : y ≡ x = cc at in
    let all : sum_by f (map g (y ∷ xs)) ≡ f (g y) + sum_by f (map g xs) = sum_by-cons f (g y) (map g xs) in
    let first : f (g y) ≡ 0 = omega (arith, none, all) in
    subst (λ z. f (g z) ≡ 0) is first
none_of_each f g (y ∷ xs) (suc i) x none at =
    let all : sum_by f (map g (y ∷ xs)) ≡ f (g y) + sum_by f (map g xs) = sum_by-cons f (g y) (map g xs) in
    none_of_each f g xs i x (omega (arith, none, all)) at

no_faults : (opened : AtOpening) (index now : ℕ) (events : List (List (Event FrontValue))) → FaultsFit opened index events now → IsSteadyDisk opened now → count_all faults index events ≡ 0
no_faults opened index now events fit steady = ⊎_elim (λ fits. let same = steady.same in omega (arith, fits, same)) (λ ended. let counts = steady.counts in absurd (omega (arith, ended, counts))) fit

-- the events of lines, one line after another
lines_follow : {K D F : Type 0} (link : LinkWords K) (confs : D → List IndexConf) (words : StoreWords D F) (workers worker line : ℕ) (services : List (Service K F)) (old new : D)
    → ServesLines link confs words workers worker line services old new → FollowAll (Follows confs words) old (events_of services) new
lines_follow link confs words workers worker line [] old new serves = serves
lines_follow link confs words workers worker line (service ∷ services) old new serves =
    FollowAll-append (Follows confs words) service.events (events_of services) old serves.0 new serves.1.1 (lines_follow link confs words workers worker (line + 1) services serves.0 new serves.2)

-- What a worker did, wherever it sits.
record WorksAt {E K : Type 0} (J : Type 0) (door : DoorWords E K) (link : LinkWords K) (schema : ℕ → Schema) (base : ℕ → Base) (confs : List IndexConf) (workers sessions worker : ℕ) (services : List (Service K FrontValue)) : Type 0 where
  left : TokensValue
  old : Seat E J K
  new : Seat E J K
  works : Works door link schema base confs workers sessions services (first_tokens confs worker) left old new

module _ {E K : Type 0} (J : Type 0) (door : DoorWords E K) (link : LinkWords K) (schema : ℕ → Schema) (base : ℕ → Base) (confs : List IndexConf) (workers sessions : ℕ) where
  abbrev At : ℕ → List (Service K FrontValue) → Type 0
  At worker services = WorksAt J door link schema base confs workers sessions worker services

  works_at : (worker : ℕ) (all : List (List (Service K FrontValue))) (lefts : List TokensValue) (olds news : List (Seat E J K)) (place : ℕ) (services : List (Service K FrontValue)) → slice_get all place ≡ Some services
      → AllWork door link schema base confs workers sessions worker all lefts olds news → At (worker + place) services
  works_at worker [] lefts olds news place services at work = absurd (cc at)
  works_at worker (first ∷ all) (left ∷ lefts) (old ∷ olds) (new ∷ news) zero services at work =
      let is : first ≡ services = cc at in
      let here : At worker first = record { left = left; old = old; new = new; works = work.0 } in
      subst (λ (w : ℕ). At w services) (omega arith) (subst (λ (s : List (Service K FrontValue)). At worker s) is here)
  works_at worker (first ∷ all) (left ∷ lefts) (old ∷ olds) (new ∷ news) (suc place) services at work =
      subst (λ (w : ℕ). At w services) (omega arith) (works_at (worker + 1) all lefts olds news place services at work.1)
  works_at worker (first ∷ all) lefts olds news place services at work = absurd work

  pub served_decided : (index now : ℕ) (opened : AtOpening) (all : List (List (Service K FrontValue))) (lefts : List TokensValue) (olds news : List (Seat E J K)) (place : ℕ) (services : List (Service K FrontValue))
      → AllWork door link schema base confs workers sessions 1 all lefts olds news → FaultsFit opened index (map events_of all) now → IsSteadyDisk opened now → slice_get all place ≡ Some services
      → All (IsDecided base (place + 1) index) (events_of services)
  served_decided index now opened all lefts olds news place services work fit steady at =
      let here = works_at 1 all lefts olds news place services at work in
      let none = none_of_each (λ own. length (all_of faults index own)) events_of all place services (no_faults opened index now (map events_of all) fit steady) at in
      all_decided schema base index (place + 1) (record { confs = confs; tokens = first_tokens confs (1 + place) }) (record { confs = confs; tokens = here.left }) (events_of services) (omega arith)
      (lines_follow link (λ tables. tables.confs) (by_tokens schema base) workers (1 + place) 1 services (record { confs = confs; tokens = first_tokens confs (1 + place) }) (record { confs = confs; tokens = here.left }) here.works.serves.serves)
      (free index schema base (events_of services) none)
