-- Pieces of bytes, one behind the other, and the numbers that they are.
use Rattle.std.proofs.Common.{◌≡◌, ℕ, ◌+◌, ◌<◌, ◌≤◌, ◌^◌, List, ◌++◌, length, take, drop, sym, ap, ◌∙◌, arith}
use Rattle.std.specs.Int.{w16, w32, w64, to_le_bytes}
use Rattle.std.proofs.Math.Seq.{take-add}
use Rattle.std.proofs.lemmas.List.{drop-drop, length-drop, length-take, take-append-drop}
use Rattle.byte_fields.proofs.Taking.{IsBytes, IsBytes-drop, IsBytes-take, wide16, wide32, wide64}
use Rattle.chunk_damage.specs.Header.{eight_in, four_in, two_in}

-- so many bytes from this place on
abbrev pub piece : ℕ → ℕ → List ℕ → List ℕ
piece n at bytes = take n (drop at bytes)

pub two_pieces : (m n at : ℕ) (bytes : List ℕ) → piece (m + n) at bytes ≡ piece m at bytes ++ piece n (at + m) bytes
two_pieces m n at bytes = take-add m n (drop at bytes) ∙ ap (λ l. take m (drop at bytes) ++ take n l) (drop-drop m at bytes)

pub rest_of : (n at : ℕ) (bytes : List ℕ) → drop at bytes ≡ piece n at bytes ++ drop (at + n) bytes
rest_of n at bytes = sym (take-append-drop n (drop at bytes)) ∙ ap (λ l. piece n at bytes ++ l) (drop-drop n at bytes)

pub piece_long : (n at : ℕ) (bytes : List ℕ) → at + n ≤ length bytes → length (piece n at bytes) ≡ n
piece_long n at bytes long = omega (arith, length-take n (drop at bytes), length-drop at bytes, long)

pub are_bytes : (n at : ℕ) (bytes : List ℕ) → IsBytes bytes → IsBytes (piece n at bytes)
are_bytes n at bytes fit = IsBytes-take n (drop at bytes) (IsBytes-drop at bytes fit)

-- a number at a place has the bytes that stand there, and is small
pub two_back : (at : ℕ) (bytes : List ℕ) → IsBytes bytes → at + 2 ≤ length bytes → to_le_bytes w16 (two_in bytes at) ≡ piece 2 at bytes
two_back at bytes fit long = wide16.back (piece 2 at bytes) (piece_long 2 at bytes long) (are_bytes 2 at bytes fit)

pub four_back : (at : ℕ) (bytes : List ℕ) → IsBytes bytes → at + 4 ≤ length bytes → to_le_bytes w32 (four_in bytes at) ≡ piece 4 at bytes
four_back at bytes fit long = wide32.back (piece 4 at bytes) (piece_long 4 at bytes long) (are_bytes 4 at bytes fit)

pub eight_back : (at : ℕ) (bytes : List ℕ) → IsBytes bytes → at + 8 ≤ length bytes → to_le_bytes w64 (eight_in bytes at) ≡ piece 8 at bytes
eight_back at bytes fit long = wide64.back (piece 8 at bytes) (piece_long 8 at bytes long) (are_bytes 8 at bytes fit)

pub four_small : (at : ℕ) (bytes : List ℕ) → IsBytes bytes → four_in bytes at < 2 ^ 32
four_small at bytes fit = wide32.below (piece 4 at bytes) (are_bytes 4 at bytes fit)

pub eight_small : (at : ℕ) (bytes : List ℕ) → IsBytes bytes → eight_in bytes at < 2 ^ 64
eight_small at bytes fit = wide64.below (piece 8 at bytes) (are_bytes 8 at bytes fit)
