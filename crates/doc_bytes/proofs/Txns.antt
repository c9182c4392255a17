-- Operations and transactions: what is read of them is what was written, and the other way round.
use Rattle.std.proofs.Common.{◌≡◌, ℕ, zero, suc, ◌^◌, ◌<◌, All, cond, eqb, List, [], ◌∷◌, ◌++◌, length, map, Result, Ok, Err, refl, sym, ap, subst, ◌∙◌, arith}
use Rattle.std.specs.Prelude.{IfOk}
use Rattle.std.specs.List.{flat_map}
use Rattle.std.specs.Int.{w32, w64, to_le_bytes}
use Rattle.std.proofs.lemmas.Bool.{eqb-true}
use Rattle.std.proofs.lemmas.List.{append-nil, length-map, nil_from_length}
use Rattle.std.proofs.lemmas.List.Elements.{All-cons, All-head, All-tail}
use Rattle.std.proofs.lemmas.List.Concat.{flat_map-cons}
use Rattle.srch_base.specs.declared.faults.Or.{Or}
use Rattle.doc_types.specs.Schemas.{IsSchema}
use Rattle.doc_types.specs.Transactions.{IsOpOf, IsTxnOf}
use Rattle.doc_types.specs.declared.schema.Schema.{Schema}
use Rattle.doc_types.specs.declared.transactions.Txn.{Txn}
use Rattle.doc_types.specs.declared.transactions.TxnOp.{TxnOp}
use Rattle.doc_types.specs.declared.transactions.TxnOp.TheVariants as operations
use Rattle.byte_fields.specs.Fields.{◌>>=◌, Read, each, number_at, placed}
use Rattle.byte_fields.proofs.Taking.{IsBytes, IsBytes-rest, Takes, Takes-then, bind_ok, guard_kept, inverse32, inverse64, ok_is}
use Rattle.byte_fields.proofs.Rows.{all_each, each_all, many_again, many_takes}
use Rattle.doc_bytes.specs.Payload.{op_bytes, payload}
use Rattle.doc_bytes.specs.Reading.{doc_at, op_at, txn_at}
use Rattle.doc_bytes.specs.RoundTrip.{GivesTxn, HasNumbers, OpNumbers, as_put, with_puts}
use Rattle.doc_bytes.specs.declared.reading.BadTxn.{BadTxn}
use Rattle.doc_bytes.proofs.Docs.{doc_again, doc_takes}

abbrev pub txn_of : List TxnOp → Txn
txn_of ops = record { ops = ops }

-- the transaction, where nothing is left
abbrev pub ended : List TxnOp × List ℕ → Result Txn ℕ
ended x = cond (eqb (length x.1) 0) (Ok (record { ops = x.0 })) (Err (length x.1))

module _ (schema : Schema) where
  abbrev pub read_op : List ℕ → Read TxnOp
  read_op bytes = op_at (length schema.fields) (length schema.attrs) bytes

  -- an operation that was read, and one that can be read
  abbrev pub WasRead : TxnOp → Type 0
  WasRead op = IsOpOf schema op × (as_put op ≡ op)

  abbrev pub CanBeRead : TxnOp → Type 0
  CanBeRead op = IsOpOf schema op × OpNumbers op × (as_put op ≡ op)

  op_takes : (bytes : List ℕ) (x : TxnOp × List ℕ) → IsBytes bytes → op_at (length schema.fields) (length schema.attrs) bytes ≡ Ok x → Takes bytes (op_bytes x.0) x.1 × WasRead x.0
  unfolding op_at
  op_takes [] x fits e = absurd cc
  op_takes (zero ∷ rest) x fits e = absurd cc
  op_takes (suc zero ∷ rest) x fits e =
      let a = bind_ok (doc_at (length schema.fields) (length schema.attrs) rest) (λ doc. Ok (operations.Put doc.0, doc.1)) x e in
      let t = doc_takes schema rest a.0 (IsBytes-rest 1 rest fits) a.1 in
      subst (λ (y : TxnOp × List ℕ). Takes (1 ∷ rest) (op_bytes y.0) y.1 × WasRead y.0) (ok_is (operations.Put a.0.0, a.0.1) x a.2) (record { parts = ap (λ (l : List ℕ). 1 ∷ l) t.0.parts; rest_fits = t.0.rest_fits }, (t.1, refl))
  op_takes (suc (suc zero) ∷ rest) x fits e =
      let a = bind_ok (number_at w64 rest) (λ id. Ok (operations.Kill id.0, id.1)) x e in
      let t = inverse64.takes rest a.0 (IsBytes-rest 2 rest fits) a.1 in
      subst (λ (y : TxnOp × List ℕ). Takes (2 ∷ rest) (op_bytes y.0) y.1 × WasRead y.0) (ok_is (operations.Kill a.0.0, a.0.1) x a.2) (record { parts = ap (λ (l : List ℕ). 2 ∷ l) t.0.parts; rest_fits = t.0.rest_fits }, (tt, refl))
  op_takes (suc (suc (suc zero)) ∷ rest) x fits e =
      subst (λ (y : TxnOp × List ℕ). Takes (3 ∷ rest) (op_bytes y.0) y.1 × WasRead y.0) (ok_is (operations.Clear, rest) x e) (record { parts = refl; rest_fits = IsBytes-rest 3 rest fits }, (tt, refl))
  op_takes (suc (suc (suc (suc byte))) ∷ rest) x fits e = absurd cc

  op_again : IsSchema schema → (op : TxnOp) (rest : List ℕ) → CanBeRead op → op_at (length schema.fields) (length schema.attrs) (op_bytes op ++ rest) ≡ Ok (op, rest)
  unfolding op_at
  op_again limits (operations.Insert doc) rest fits = absurd cc
  op_again limits (operations.Put doc) rest fits = rw (doc_again schema doc rest limits fits.0 fits.1) refl
  op_again limits (operations.Kill id) rest fits = rw (inverse64.again id rest fits.1) refl
  op_again limits operations.Clear rest fits = refl

  were_puts : (ops : List TxnOp) → All WasRead ops → map as_put ops ≡ ops
  were_puts [] all = refl
  were_puts (op ∷ ops) all = rw ((All-head WasRead op ops all).1, were_puts ops (All-tail WasRead op ops all)) refl

  txn_takes : (bytes : List ℕ) (txn : Txn) → IsBytes bytes → txn_at schema bytes ≡ Ok txn → IsTxnOf schema txn × (with_puts txn ≡ txn) × (bytes ≡ payload txn)
  unfolding txn_at
  txn_takes bytes txn fits e =
      let a = bind_ok (number_at w32 bytes) (λ n. each read_op n.0 n.1 >>= ended) txn e in
      let b = bind_ok (each read_op a.0.0 a.0.1) ended txn a.2 in
      let made : Txn = record { ops = b.0.0 } in
      let g = guard_kept (eqb (length b.0.1) 0) (length b.0.1) made txn b.2 in
      let count = inverse32.takes bytes a.0 fits a.1 in
      let ops = many_takes (λ (_ : Unit {0}). read_op) (λ _. tt) op_bytes (λ (_ : Unit {0}). WasRead) (λ _. op_takes) a.0.0 tt a.0.1 b.0 count.0.rest_fits b.1 in
      let all = all_each WasRead b.0.0 ops.2 in
      let nothing : b.0.1 ≡ [] = nil_from_length b.0.1 (eqb-true _ _ g.0) in
      let both = (Takes-then bytes (to_le_bytes w32 a.0.0) a.0.1 (flat_map op_bytes b.0.0) b.0.1 count.0 ops.0).parts in
      let whole : bytes ≡ to_le_bytes w32 (length b.0.0) ++ flat_map op_bytes b.0.0 =
      both ∙ ap (λ (l : List ℕ). (to_le_bytes w32 a.0.0 ++ flat_map op_bytes b.0.0) ++ l) nothing ∙ append-nil (to_le_bytes w32 a.0.0 ++ flat_map op_bytes b.0.0)
      ∙ ap (λ (n : ℕ). to_le_bytes w32 n ++ flat_map op_bytes b.0.0) (sym ops.1) in
      let few : length b.0.0 < 2 ^ 32 = omega (arith, ops.1, count.1) in
      let puts : with_puts made ≡ made = ap txn_of (were_puts b.0.0 all) in
      subst (λ (t : Txn). IsTxnOf schema t × (with_puts t ≡ t) × (bytes ≡ payload t)) g.1 (record { few = few; operations = λ i d h. (all i d h).0 }, puts, whole)

  txn_again : (txn : Txn) → IsSchema schema → length txn.ops < 2 ^ 32 → All CanBeRead txn.ops → txn_at schema (payload txn) ≡ Ok txn
  unfolding txn_at
  txn_again txn limits few fits =
      let ops : each read_op (length txn.ops) (flat_map op_bytes txn.ops) ≡ Ok (txn.ops, []) =
      ap (each read_op (length txn.ops)) (sym (append-nil (flat_map op_bytes txn.ops)))
      ∙ many_again (λ (_ : Unit {0}). read_op) (λ _. tt) op_bytes (λ (_ : Unit {0}). CanBeRead) (λ _. op_again limits) tt txn.ops [] (each_all CanBeRead txn.ops fits) in
      rw (inverse32.again (length txn.ops) (flat_map op_bytes txn.ops) few, ops) refl

  put_can_be : (op : TxnOp) → IsOpOf schema op → OpNumbers op → CanBeRead (as_put op) × (op_bytes (as_put op) ≡ op_bytes op)
  put_can_be (operations.Insert doc) fits numbers = ((fits, numbers, refl), refl)
  put_can_be (operations.Put doc) fits numbers = ((fits, numbers, refl), refl)
  put_can_be (operations.Kill id) fits numbers = ((fits, numbers, refl), refl)
  put_can_be operations.Clear fits numbers = ((fits, numbers, refl), refl)

  puts_can_be : (ops : List TxnOp) → All (IsOpOf schema) ops → All OpNumbers ops → All CanBeRead (map as_put ops) × (flat_map op_bytes (map as_put ops) ≡ flat_map op_bytes ops)
  puts_can_be [] fits numbers = (λ i d h. absurd (omega arith), refl)
  puts_can_be (op ∷ ops) fits numbers =
      let first = put_can_be op (All-head (IsOpOf schema) op ops fits) (All-head OpNumbers op ops numbers) in
      let rest = puts_can_be ops (All-tail (IsOpOf schema) op ops fits) (All-tail OpNumbers op ops numbers) in (
        All-cons CanBeRead (as_put op) (map as_put ops) first.0 rest.0,
        flat_map-cons op_bytes (as_put op) (map as_put ops) ∙ rw (first.1, rest.1) (sym (flat_map-cons op_bytes op ops)),
      )

  placed_ok : (size : ℕ) (read : Result Txn ℕ) (txn : Txn) → placed size read ≡ Ok txn → read ≡ Ok txn
  placed_ok size (Ok x) txn e = e
  placed_ok size (Err left) txn e = absurd cc

  pub is_found : (bytes : List ℕ) (r : Result Txn (Or BadTxn)) → IsBytes bytes → GivesTxn r (placed (length bytes) (txn_at schema bytes)) → IfOk r (λ txn. IsTxnOf schema txn × (with_puts txn ≡ txn) × (bytes ≡ payload txn))
  is_found bytes (Ok txn) fits given = txn_takes bytes txn fits (placed_ok (length bytes) (txn_at schema bytes) txn given)
  is_found bytes (Err e) fits given = tt

  pub is_only : (bytes : List ℕ) (r : Result Txn (Or BadTxn)) (txn : Txn) → IsSchema schema → IsTxnOf schema txn → HasNumbers txn → bytes ≡ payload txn → GivesTxn r (placed (length bytes) (txn_at schema bytes)) → GivesTxn r (Ok (with_puts txn))
  is_only bytes r txn limits fits numbers is given =
      let puts = puts_can_be txn.ops fits.operations numbers in
      let size : length (map as_put txn.ops) ≡ length txn.ops = length-map txn.ops as_put in
      let same : payload txn ≡ payload (with_puts txn) =
      ap (λ (n : ℕ). to_le_bytes w32 n ++ flat_map op_bytes txn.ops) (sym size) ∙ ap (λ (l : List ℕ). to_le_bytes w32 (length (map as_put txn.ops)) ++ l) (sym puts.1) in
      let read : txn_at schema bytes ≡ Ok (with_puts txn) = ap (txn_at schema) (is ∙ same) ∙ txn_again (with_puts txn) limits (omega (arith, size, fits.few)) puts.0 in
      subst (λ (found : Result Txn ℕ). GivesTxn r found) (ap (placed (length bytes)) read) given
