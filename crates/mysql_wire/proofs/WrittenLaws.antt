-- What the server writes is among what a client reads.
use Rattle.std.proofs.Common.{◌≡◌, ℕ, ◌^◌, ◌<◌, ltb, List, [], ◌∷◌, ◌++◌, length, map, take, refl, sym, ap, ◌∙◌, append_assoc, arith, inl, inr, lit<}
use Rattle.std.specs.Prelude.{codes}
use Rattle.std.specs.List.{AllByRecursion}
use Rattle.std.specs.Int.{w16, w32, w64, to_le_bytes}
use Rattle.std.proofs.lemmas.Bool.{cond_both, ltb-true}
use Rattle.std.proofs.lemmas.List.{append-nil}
use Rattle.std.proofs.lemmas.Nat.{from_le_bytes-to_le_bytes_2, from_le_bytes-to_le_bytes_4, from_le_bytes-to_le_bytes_8}
use Rattle.srch_base.specs.Numbers.{number_of}
use Rattle.mysql_wire.specs.declared.rows.Column.{Column}
use Rattle.mysql_wire.specs.declared.rows.Cell.{Cell}
use Rattle.mysql_wire.specs.declared.readers.WireGreeting.{WireGreeting}
use Rattle.mysql_wire.specs.declared.readers.WireOk.{WireOk}
use Rattle.mysql_wire.specs.declared.readers.WireErr.{WireErr}
use Rattle.mysql_wire.specs.declared.readers.WireEof.{WireEof}
use Rattle.mysql_wire.specs.LengthEncoded.{lenenc, lenenc_text}
use Rattle.mysql_wire.specs.Replies.{greeting_payload, ok_payload, err_payload, eof_payload}
use Rattle.mysql_wire.specs.Rows.{type_of, type_bytes, column_payload, cell_text, row_payload}
use Rattle.mysql_wire.specs.Fields.{IsNumber, IsField, Lengthed, Fills}
use Rattle.mysql_wire.specs.Payloads.{number_fields, greeting_fields, ok_fields, err_fields, eof_fields, column_fields, row_fields, value_of}

-- ---- numbers

number_2 : (n : ℕ) → n < 2 ^ 16 → n ≡ number_of (to_le_bytes w16 n)
number_2 n lt = omega (arith, from_le_bytes-to_le_bytes_2 n lt)

number_3 : (n : ℕ) → n < 2 ^ 24 → n ≡ number_of (take 3 (to_le_bytes w32 n))
number_3 n lt = omega arith

number_4 : (n : ℕ) → n < 2 ^ 32 → n ≡ number_of (to_le_bytes w32 n)
number_4 n lt = omega (arith, from_le_bytes-to_le_bytes_4 n lt)

number_8 : (n : ℕ) → n < 2 ^ 64 → n ≡ number_of (to_le_bytes w64 n)
number_8 n lt = omega (arith, from_le_bytes-to_le_bytes_8 n lt)

pub lenenc_reads : (n : ℕ) → n < 2 ^ 64 → IsNumber (lenenc n) n
unfolding lenenc
lenenc_reads n lt =
    cond_both (ltb n 251) (n ∷ []) _ (λ bytes. IsNumber bytes n) (λ one. inl (refl, ltb-true n 251 one))
    (λ more. cond_both (ltb n (2 ^ 16)) (0xfc ∷ to_le_bytes w16 n) _ (λ bytes. IsNumber bytes n) (λ two. inr (inl (to_le_bytes w16 n, refl, (refl, number_2 n (ltb-true n (2 ^ 16) two)))))
    (λ most. cond_both (ltb n (2 ^ 24)) (0xfd ∷ take 3 (to_le_bytes w32 n)) _ (λ bytes. IsNumber bytes n) (λ three. inr (inr (inl (take 3 (to_le_bytes w32 n), refl, (refl, number_3 n (ltb-true n (2 ^ 24) three))))))
    (λ eight. inr (inr (inr (to_le_bytes w64 n, refl, (refl, number_8 n lt)))))))

lenenc_0 : lenenc 0 ≡ 0 ∷ []
unfolding lenenc
lenenc_0 = refl

lenenc_3 : lenenc 3 ≡ 3 ∷ []
unfolding lenenc
lenenc_3 = refl

pub number_written : (n : ℕ) → n < 2 ^ 64 → Fills (number_fields n) (lenenc n)
unfolding Fills
number_written n lt = (lenenc n, [], sym (append-nil (lenenc n)), lenenc_reads n lt, refl)

text_reads : (text : List ℕ) → length text < 2 ^ 64 → IsField (Lengthed text) (lenenc_text text)
text_reads text lt = (lenenc (length text), lenenc_reads (length text) lt, refl)

empty_reads : IsField (Lengthed []) (0 ∷ [])
empty_reads = (0 ∷ [], inl (refl, lit< tt), refl)

-- ---- packets

pub greeting_written : (greeting : WireGreeting) → greeting.connection < 2 ^ 32 → Fills (greeting_fields greeting) (greeting_payload greeting.connection)
unfolding Fills greeting_payload
greeting_written greeting lt = (
  _,
  _,
  refl,
  refl,
  (
    _,
    _,
    refl,
    refl,
    (
      to_le_bytes w32 greeting.connection,
      _,
      refl,
      (refl, number_4 greeting.connection lt),
      (_, _, refl, refl, (_, _, refl, refl, (_, _, refl, refl, (_, _, refl, refl, (_, _, refl, refl, (_, _, refl, refl, (_, _, refl, refl, (_, _, refl, refl, (_, _, refl, refl, (_, _, refl, refl, refl)))))))))),
    ),
  ),
)

regroup : (a b c d : List ℕ) → ((a ++ b) ++ c) ++ d ≡ a ++ (b ++ (c ++ d))
regroup a b c d = append_assoc (a ++ b) c d ∙ append_assoc a b (c ++ d)

pub ok_written : (ok : WireOk) → ok.affected < 2 ^ 64 → ok.status < 2 ^ 16 → Fills (ok_fields ok) (ok_payload ok.affected ok.status)
unfolding Fills ok_payload
ok_written ok affected status =
    let behind : List ℕ = to_le_bytes w16 ok.status ++ to_le_bytes w16 0 in
    let grouped : ok_payload ok.affected ok.status ≡ 0x00 ∷ (lenenc ok.affected ++ (0 ∷ behind)) =
    ap (λ (tail : List ℕ). 0x00 ∷ tail) (regroup (lenenc ok.affected) (lenenc 0) (to_le_bytes w16 ok.status) (to_le_bytes w16 0)) ∙ ap (λ (zero : List ℕ). 0x00 ∷ (lenenc ok.affected ++ (zero ++ behind))) lenenc_0 in (
      0x00 ∷ [],
      lenenc ok.affected ++ (0 ∷ behind),
      grouped,
      refl,
      (
        lenenc ok.affected,
        0 ∷ behind,
        refl,
        lenenc_reads ok.affected affected,
        (0 ∷ [], behind, refl, inl (refl, lit< tt), (to_le_bytes w16 ok.status, to_le_bytes w16 0, refl, (refl, number_2 ok.status status), (to_le_bytes w16 0, [], refl, refl, refl))),
      ),
    )

pub err_written : (err : WireErr) → err.code < 2 ^ 16 → length err.state ≡ 5 → Fills (err_fields err) (err_payload err.code err.state err.text)
unfolding Fills err_payload
err_written err code state = (
  _,
  _,
  refl,
  refl,
  (
    to_le_bytes w16 err.code,
    _,
    refl,
    (refl, number_2 err.code code),
    (
      _,
      _,
      refl,
      refl,
      (err.state, err.text, refl, (state, refl), (err.text, [], sym (append-nil err.text), refl, refl)),
    ),
  ),
)

pub eof_written : (eof : WireEof) → eof.status < 2 ^ 16 → Fills (eof_fields eof) (eof_payload eof.status)
unfolding Fills eof_payload
eof_written eof status =
    (_, _, refl, refl, (_, _, refl, refl, (to_le_bytes w16 eof.status, _, refl, (refl, number_2 eof.status status), refl)))

-- ---- result sets

pub column_written : (column : Column) → length column.name < 2 ^ 64 → Fills (column_fields column) (column_payload column)
unfolding Fills column_payload
column_written column lt =
    let behind : List ℕ = 0x0c ∷ (type_bytes (type_of column.kind) ++ (0 ∷ 0 ∷ 0 ∷ [])) in
    let names : List ℕ = lenenc_text column.name ++ (lenenc_text column.name ++ behind) in
    let grouped : column_payload column ≡ (3 ∷ codes "def") ++ (0 ∷ 0 ∷ 0 ∷ names) = rw lenenc_3 (simp append_assoc) in (
      3 ∷ codes "def",
      0 ∷ 0 ∷ 0 ∷ names,
      grouped,
      refl,
      (
        0 ∷ [],
        0 ∷ 0 ∷ names,
        refl,
        empty_reads,
        (
          0 ∷ [],
          0 ∷ names,
          refl,
          empty_reads,
          (
            0 ∷ [],
            names,
            refl,
            empty_reads,
            (
              lenenc_text column.name,
              lenenc_text column.name ++ behind,
              refl,
              text_reads column.name lt,
              (
                lenenc_text column.name,
                behind,
                refl,
                text_reads column.name lt,
                (_, _, refl, refl, (_, _, refl, refl, (_, _, refl, refl, (_, _, refl, refl, (_, _, refl, refl, (_, _, refl, refl, (_, _, refl, refl, refl))))))),
              ),
            ),
          ),
        ),
      ),
    )

pub row_written : (row : List Cell) → AllByRecursion (λ cell. length (cell_text cell) < 2 ^ 64) row → Fills (row_fields (map value_of row)) (row_payload row)
unfolding Fills row_payload
row_written [] short = refl
row_written (cell ∷ row) short = (lenenc_text (cell_text cell), row_payload row, refl, text_reads (cell_text cell) short.0, row_written row short.1)
