-- Before the workers begin: each has a seat with tokens that have seen nothing yet.
use Rattle.std.proofs.Common.{◌≡◌, ◌<◌, ◌≤◌, ◌*◌, ◌^◌, ◌∷◌, [], ℕ, zero, suc, List, All, Some, refl, sym, ap, subst, ◌∙◌, arith, length, map}
use Rattle.std.proofs.lemmas.List.{length-append, length-map}
use Rattle.std.proofs.lemmas.List.Elements.{All-cons, All-head, All-nil, All-tail}
use Rattle.srch_base.specs.declared.door.Door.{Ghosts as DoorWords}
use Rattle.engine_tables.specs.Engines.{EnginesValue}
use Rattle.engine_tables.specs.Tokens.{TokensValue, new_seat, new_seats}
use Rattle.line_workers.specs.Seats.{AreReady}
use Rattle.line_workers.specs.declared.seat.Seat.{Seat}

-- there are tokens for each worker
pub seats_many : (indexes workers : ℕ) → length (new_seats indexes workers) ≡ workers
seats_many indexes zero = refl
seats_many indexes (suc workers) =
    let one : TokensValue = new_seat indexes (suc workers) in
    omega (arith, length-append (new_seats indexes workers) (one ∷ []), seats_many indexes workers)

-- there is a seat for each door
pub seated : {E K J : Type 0} (seats : List (Seat E J K)) (doors : List E) → map (λ (seat : Seat E J K). seat.door) seats ≡ doors → length seats ≡ length doors
seated {E} {K} {J} seats doors sat = sym (length-map seats (λ (seat : Seat E J K). seat.door)) ∙ ap length sat

-- what all have after a function, all have before it
pub all_before : {X Y : Type 0} (P : Y → Type 0) (f : X → Y) (xs : List X) → All P (map f xs) → All (λ x. P (f x)) xs
all_before P f [] all = All-nil (λ x. P (f x))
all_before P f (x ∷ xs) all = All-cons (λ x. P (f x)) x xs (All-head P (f x) (map f xs) all) (all_before P f xs (All-tail P (f x) (map f xs) all))

-- Seats with these doors and these tokens are ready.
pub are_ready : {E K J : Type 0} (door : DoorWords E K) (engines : EnginesValue) (sessions : ℕ) (doors : List E) (tokens : List TokensValue) (seats : List (Seat E J K))
    → engines.workers ≡ length doors → tokens ≡ new_seats (length engines.confs) engines.workers → All (λ (d : E). length (door.returned d) ≤ length (door.given d)) doors → length doors * sessions < 2 ^ 32
    → map (λ (seat : Seat E J K). seat.door) seats ≡ doors → map (λ (seat : Seat E J K). seat.tokens) seats ≡ map Some tokens → AreReady door engines sessions seats
are_ready {E} {K} {J} door engines sessions doors tokens seats many new within numbers sat held = record {
  tokens = held ∙ ap (map Some) new;
  doors = all_before (λ (d : E). length (door.returned d) ≤ length (door.given d)) (λ (seat : Seat E J K). seat.door) seats
      (subst (All (λ (d : E). length (door.returned d) ≤ length (door.given d))) (sym sat) within);
  numbers = subst (λ (n : ℕ). n * sessions < 2 ^ 32) (sym many) numbers;
}
