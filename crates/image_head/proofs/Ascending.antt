-- Ids that are read one row at a time.
use Rattle.std.proofs.Common.{◌≡◌, ℕ, ◌+◌, ◌-◌, ◌<◌, ◌≤◌, List, length, ap, ◌∙◌, arith, inl, inr}
use Rattle.std.proofs.lemmas.Bool.{cases_lt}
use Rattle.std.proofs.lemmas.Nat.{row_fits}
use Rattle.doc_types.specs.declared.schema.Schema.{Schema}
use Rattle.chunk_damage.specs.Header.{row_at, row_size}
use Rattle.chunk_damage.specs.RowOrder.{AreAscending, IsUnordered, id_in}

-- the ids of the rows before this one ascend, and the last of them is kept
pub record Ascended (schema : Schema) (bytes : List ℕ) (at before row : ℕ) : Type 0 where
  pub place : at ≡ row_at schema row
  pub ascend : AreAscending schema bytes row
  pub its : 1 ≤ row → before ≡ id_in schema bytes (row - 1)

pub ascended_none : (schema : Schema) (bytes : List ℕ) → Ascended schema bytes 32 0 0
ascended_none schema bytes = record { place = let w = row_size schema in omega arith; ascend = λ row low. absurd (omega (arith, low)); its = λ some. absurd (omega (arith, some)) }

pub within : (schema : Schema) (bytes : List ℕ) (at before row rows : ℕ) → Ascended schema bytes at before row → row < rows → row_at schema rows ≤ length bytes → at + row_size schema ≤ length bytes
within schema bytes at before row rows is low long = omega (arith, is.place, long, row_fits row (row_size schema) rows (row_size schema) low (omega arith))

less : {k row : ℕ} → k + 1 ≡ row → row - 1 ≡ k
less e = omega (arith, e)

one_off : (row : ℕ) → row ≡ row + 1 - 1
one_off row = omega arith

next_row : (schema : Schema) (at row : ℕ) → at ≡ row_at schema row → at + row_size schema ≡ row_at schema (row + 1)
next_row schema at row e = let w = row_size schema in omega (arith, e)

pub ascended_more : (schema : Schema) (bytes : List ℕ) (at before row id : ℕ) → Ascended schema bytes at before row → id ≡ id_in schema bytes row → (1 ≤ row → before < id) → Ascended schema bytes (at + row_size schema) id (row + 1)
ascended_more schema bytes at before row id is e above = record {
  place = next_row schema at row is.place;
  ascend = λ k low. elim (cases_lt (k + 1) row) [
    | inl earlier ↦ is.ascend k earlier
    | inr last ↦
        let same : k + 1 ≡ row = omega (arith, low, last) in
        let own : before ≡ id_in schema bytes k = is.its (omega (arith, same)) ∙ ap (id_in schema bytes) (less same) in
        omega (arith, own, above (omega (arith, same)), e, ap (id_in schema bytes) same)
  ];
  its = λ some. e ∙ ap (id_in schema bytes) (one_off row);
}

pub ascended_stop : (schema : Schema) (bytes : List ℕ) (at before row id : ℕ) → Ascended schema bytes at before row → id ≡ id_in schema bytes row → 0 < row → id ≤ before → IsUnordered schema bytes row
ascended_stop schema bytes at before row id is e some low = record { ascend = is.ascend; some = some; low = omega (arith, e, low, is.its some) }
