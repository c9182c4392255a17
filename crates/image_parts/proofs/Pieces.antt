-- Pieces that stand at places: what a piece begins with, what lies behind its front, and numbers of fixed length.
use Rattle.std.proofs.Common.{◌≡◌, ℕ, ◌+◌, ◌<◌, ◌≤◌, ◌^◌, List, ◌++◌, length, take, drop, refl, sym, ap, ◌∙◌, arith, append_assoc}
use Rattle.std.specs.Int.{w16, w32, w64, to_le_bytes, from_le_bytes}
use Rattle.std.proofs.lemmas.List.{drop-drop, drop_at, length-drop, length-take, take-append-drop, take_at}
use Rattle.std.proofs.lemmas.Nat.{from_le_bytes-to_le_bytes_2, from_le_bytes-to_le_bytes_4, from_le_bytes-to_le_bytes_8}
use Rattle.image_parts.specs.steps.Standing.{StandsAt}

pub stands : (bytes piece rest : List ℕ) (at : ℕ) → drop at bytes ≡ piece ++ rest → StandsAt bytes at piece
stands bytes piece rest at e = record { is = ap (take (length piece)) e ∙ take_at piece rest (length piece) refl }

-- the bytes from there on
pub from_there : (bytes piece : List ℕ) (at : ℕ) → StandsAt bytes at piece → drop at bytes ≡ piece ++ drop (at + length piece) bytes
from_there bytes piece at s =
    sym (take-append-drop (length piece) (drop at bytes)) ∙ ap (λ front. front ++ drop (length piece) (drop at bytes)) s.is
    ∙ ap (λ rest. piece ++ rest) (drop-drop (length piece) at bytes)

both : (bytes a b : List ℕ) (at : ℕ) → StandsAt bytes at (a ++ b) → drop at bytes ≡ a ++ (b ++ drop (at + length (a ++ b)) bytes)
both bytes a b at s = from_there bytes (a ++ b) at s ∙ append_assoc a b (drop (at + length (a ++ b)) bytes)

pub front : (bytes a b : List ℕ) (at : ℕ) → StandsAt bytes at (a ++ b) → StandsAt bytes at a
front bytes a b at s = stands bytes a (b ++ drop (at + length (a ++ b)) bytes) at (both bytes a b at s)

pub behind : (bytes a b : List ℕ) (at to : ℕ) → StandsAt bytes at (a ++ b) → to ≡ at + length a → StandsAt bytes to b
behind bytes a b at to s e =
    let rest = drop (at + length (a ++ b)) bytes in
    stands bytes b rest to (ap (λ n. drop n bytes) e ∙ sym (drop-drop (length a) at bytes) ∙ ap (drop (length a)) (both bytes a b at s) ∙ drop_at a (b ++ rest) (length a) refl)

-- a piece in the middle
pub middle : (bytes a b c : List ℕ) (at to : ℕ) → StandsAt bytes at (a ++ (b ++ c)) → to ≡ at + length a → StandsAt bytes to b
middle bytes a b c at to s e = front bytes b c to (behind bytes a (b ++ c) at to s e)

-- a piece of some bytes lies within them
pub within : (bytes piece : List ℕ) (at : ℕ) → StandsAt bytes at piece → 1 ≤ length piece → at + length piece ≤ length bytes
within bytes piece at s some = omega (arith, ap length s.is, length-take (length piece) (drop at bytes), length-drop at bytes, some)

-- numbers of fixed length
pub two : (bytes : List ℕ) (at n : ℕ) → StandsAt bytes at (to_le_bytes w16 n) → n < 2 ^ 16 → from_le_bytes w16 (take 2 (drop at bytes)) ≡ n
two bytes at n s few = ap (from_le_bytes w16) s.is ∙ from_le_bytes-to_le_bytes_2 n few

pub four : (bytes : List ℕ) (at n : ℕ) → StandsAt bytes at (to_le_bytes w32 n) → n < 2 ^ 32 → from_le_bytes w32 (take 4 (drop at bytes)) ≡ n
four bytes at n s few = ap (from_le_bytes w32) s.is ∙ from_le_bytes-to_le_bytes_4 n few

pub eight : (bytes : List ℕ) (at n : ℕ) → StandsAt bytes at (to_le_bytes w64 n) → n < 2 ^ 64 → from_le_bytes w64 (take 8 (drop at bytes)) ≡ n
eight bytes at n s few = ap (from_le_bytes w64) s.is ∙ from_le_bytes-to_le_bytes_8 n few

pub four_within : (bytes : List ℕ) (at n : ℕ) → StandsAt bytes at (to_le_bytes w32 n) → at + 4 ≤ length bytes
four_within bytes at n s = within bytes (to_le_bytes w32 n) at s (omega arith)

pub eight_within : (bytes : List ℕ) (at n : ℕ) → StandsAt bytes at (to_le_bytes w64 n) → at + 8 ≤ length bytes
eight_within bytes at n s = within bytes (to_le_bytes w64 n) at s (omega arith)
