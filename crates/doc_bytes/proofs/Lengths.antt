-- A payload is as long as its parts are counted.
use Rattle.std.proofs.Common.{◌≡◌, ℕ, ◌+◌, ◌*◌, List, [], ◌∷◌, ◌++◌, length, refl, ap, arith, length-append}
use Rattle.std.specs.Prelude.{sum_by}
use Rattle.std.specs.List.{flat_map}
use Rattle.std.specs.Int.{w32, w64, to_le_bytes}
use Rattle.std.proofs.lemmas.List.Concat.{flat_map-cons, length-flat_map}
use Rattle.std.proofs.lemmas.List.Sums.{sum_by-cons}
use mathlib.Core.Path.{fun_ext}
use Rattle.doc_types.specs.Payloads.{word_length, field_length, doc_length, op_length, payload_length}
use Rattle.doc_types.specs.declared.documents.Doc.{Doc}
use Rattle.doc_types.specs.declared.schema.Value.{Value}
use Rattle.doc_types.specs.declared.schema.Value.TheVariants as values
use Rattle.doc_types.specs.declared.tokens.FieldTokens.{FieldTokens}
use Rattle.doc_types.specs.declared.tokens.TokenWord.{TokenWord}
use Rattle.doc_types.specs.declared.tokens.ZoneSpan.{ZoneSpan}
use Rattle.doc_types.specs.declared.transactions.Txn.{Txn}
use Rattle.doc_types.specs.declared.transactions.TxnOp.{TxnOp}
use Rattle.doc_types.specs.declared.transactions.TxnOp.TheVariants as operations
use Rattle.doc_bytes.specs.Payload.{all_spans_bytes, doc_bytes, field_bytes, op_bytes, payload, span_bytes, span_count, spans_bytes, value_bytes, word_bytes}

-- pieces of one length
pieces : {X : Type 0} (f : X → List ℕ) (n : ℕ) → ((x : X) → length (f x) ≡ n) → (xs : List X) → length (flat_map f xs) ≡ n * length xs
pieces f n same [] = omega arith
pieces f n same (x ∷ xs) = omega (arith, ap length (flat_map-cons f x xs), length-append (f x) (flat_map f xs), same x, pieces f n same xs)

value_size : (value : Value) → length (value_bytes value) ≡ 8
value_size (values.Whole number) = refl

span_size : (field : ℕ) (span : ZoneSpan) → length (span_bytes field span) ≡ 12
span_size field span = refl

word_size : (token : TokenWord) → length (word_bytes token) ≡ word_length token
word_size token = omega arith

field_size : (tokens : FieldTokens) → length (field_bytes tokens) ≡ 4 + sum_by word_length tokens.words
field_size tokens = omega (arith, length-append (to_le_bytes w32 (length tokens.words)) (flat_map word_bytes tokens.words), length-flat_map word_bytes tokens.words, ap (λ (f : TokenWord → ℕ). sum_by f tokens.words) (fun_ext word_size))

fields_size : (n : ℕ) (fields : List FieldTokens) → length (flat_map field_bytes fields) + length (spans_bytes n fields) ≡ sum_by field_length fields
fields_size n [] = omega arith
fields_size n (tokens ∷ fields) =
    omega (
      arith,
      ap length (flat_map-cons field_bytes tokens fields),
      length-append (field_bytes tokens) (flat_map field_bytes fields),
      field_size tokens,
      length-append (flat_map (span_bytes n) tokens.spans) (spans_bytes (n + 1) fields),
      pieces (span_bytes n) 12 (span_size n) tokens.spans,
      sum_by-cons field_length tokens fields,
      fields_size (n + 1) fields,
    )

doc_size : (doc : Doc) → length (doc_bytes doc) ≡ doc_length doc
doc_size doc =
    let id = to_le_bytes w64 doc.id in
    let numbers = flat_map value_bytes doc.values in
    let fields = flat_map field_bytes doc.fields in
    omega (
      arith,
      length-append (id ++ numbers ++ fields) (all_spans_bytes doc.fields),
      length-append (id ++ numbers) fields,
      length-append id numbers,
      pieces value_bytes 8 value_size doc.values,
      length-append (to_le_bytes w32 (span_count doc.fields)) (spans_bytes 0 doc.fields),
      fields_size 0 doc.fields,
    )

op_size : (op : TxnOp) → length (op_bytes op) ≡ op_length op
op_size (operations.Insert doc) = omega (arith, doc_size doc)
op_size (operations.Put doc) = omega (arith, doc_size doc)
op_size (operations.Kill id) = refl
op_size operations.Clear = refl

pub payload_size : (txn : Txn) → length (payload txn) ≡ payload_length txn
payload_size txn = omega (arith, length-append (to_le_bytes w32 (length txn.ops)) (flat_map op_bytes txn.ops), length-flat_map op_bytes txn.ops, ap (λ (f : TxnOp → ℕ). sum_by f txn.ops) (fun_ext op_size))
