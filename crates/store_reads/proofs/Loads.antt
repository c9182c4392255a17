-- Records of logs that are taken one by one, and pieces that are laid.
use Rattle.std.proofs.Common.{◌≡◌, inl, inr, ℕ, ◌<◌, ◌≤◌, List, [], ◌∷◌, ◌++◌, Bool, true, false, cond, not, ◌==◌, ◌||◌, Option, Some, None, is_some, Result, Ok, Err, refl, sym, ◌∙◌, ap, subst, arith, map, All, append-nil}
use Rattle.std.specs.Prelude.{IfSome, nat_lt}
use Rattle.std.specs.BTreeMap.{get}
use Rattle.std.specs.FinMap as finite
use Rattle.std.specs.List.{filter, find, fold, list_any}
use Rattle.std.specs.Option.{option_or}
use Rattle.std.specs.Ordering.{nat_cmp}
use Rattle.std.proofs.lemmas.Bool.{cases_lt, lt-ltb, le-ltb}
use Rattle.std.proofs.lemmas.Cmp.{nat_cmp_total}
use Rattle.std.proofs.lemmas.List.{map-append}
use Rattle.std.proofs.lemmas.List.Elements.{All-append, All-head, All-push, All-tail, filter-append}
use Rattle.std.proofs.lemmas.List.Sums.{fold-append}
use Rattle.byte_fields.specs.Fields.{placed}
use Rattle.doc_bytes.specs.Payload.{payload}
use Rattle.doc_bytes.specs.Reading.{txn_at}
use Rattle.doc_bytes.specs.RoundTrip.{as_put, with_puts}
use Rattle.doc_types.specs.declared.documents.DocRow.{DocRow}
use Rattle.doc_types.specs.declared.schema.Schema.{Schema}
use Rattle.doc_types.specs.declared.transactions.Txn.{Txn}
use Rattle.doc_types.specs.declared.transactions.TxnOp.{TxnOp}
use Rattle.doc_types.specs.declared.transactions.TxnOp.TheVariants as operations
use Rattle.doc_types.specs.Commits.{after_change, change_of}
use Rattle.doc_types.specs.Documents.{AreRowsOf}
use Rattle.doc_types.specs.Rows.{Rows, rows_of}
use Rattle.doc_types.specs.Snapshots.{AreLayers, LayerValue, SnapshotValue, all_living, live}
use Rattle.doc_types.specs.Transactions.{IsOpOf, IsTxnOf}
use Rattle.gate_log.specs.declared.records.LogRecord.{LogRecord}
use Rattle.gate_log.specs.Logs.{last_number}
use Rattle.layer_commit.specs.Commits.{row_at}
use Rattle.layer_commit.specs.steps.Trying.{row_after, row_then}
use Rattle.layer_commit.proofs.RowMaps.{equal, get_changes, get_rows, true_false}
use Rattle.store_steps.specs.Batches.{Batch, above, after_batch, op_of, txn_of}
use Rattle.store_reads.specs.declared.loading.Loaded.{Loaded}
use Rattle.store_reads.specs.declared.recent.Recent.{Recent}
use Rattle.store_reads.specs.steps.Loads.{IsLoaded, IsSnapshotOf, number_after}
use Rattle.store_reads.specs.steps.Pieces.{AreChunks, IsLaid, IsLaidOf, IsTaken, Takes}
use Rattle.store_reads.specs.steps.Recents.{IsRowAt, Owns, is_gone, row_from}
use Rattle.store_reads.specs.steps.Records.{IsRead, batch_in, batches_in, changes_in, rows_after, rows_from}
use Rattle.store_reads.proofs.Recents.{owns_after, row_changed, row_over}

-- no record was taken yet
pub taken_nothing : (schema : Schema) (through : ℕ) (recent : Recent) → ((id : ℕ) → get nat_cmp recent.rows id ≡ None) → ((id : ℕ) → is_gone recent id ≡ false) → IsTaken schema through [] recent
taken_nothing schema through recent none kept = record {
  all = λ k d h. absurd (omega (arith, h));
  rows = λ old id. ap (λ o. option_or o (cond (is_gone recent id) None (finite.get old id))) (none id) ∙ ap (λ b. cond b None (finite.get old id)) (kept id);
  each = λ id. subst (λ (o : Option DocRow). IfSome o (IsRowAt schema through id)) (sym (none id)) tt;
  own = λ id some. absurd (true_false (sym some ∙ ap is_some (none id)));
}

-- ---- chunks alone

all_on : (chunks : List LayerValue) → All (λ layer. layer.disk ≡ true) chunks → filter (λ layer. layer.disk) chunks ≡ chunks
all_on [] all = refl
all_on (layer ∷ chunks) all =
    ap (λ (b : Bool). cond b (layer ∷ filter (λ layer. layer.disk) chunks) (filter (λ layer. layer.disk) chunks)) (All-head (λ (l : LayerValue). l.disk ≡ true) layer chunks all)
    ∙ ap (λ (ls : List LayerValue). layer ∷ ls) (all_on chunks (All-tail (λ (l : LayerValue). l.disk ≡ true) layer chunks all))

-- the row that is found first is one of them, and its id is there
found_row : (P : DocRow → Type 0) (rows : List DocRow) (id : ℕ) (row : DocRow) → All P rows → find (λ r. r.doc.id == id) rows ≡ Some row → P row × (list_any (λ r. r.doc.id == id) rows ≡ true)
found_row P [] id row all e = absurd (cc (e))
found_row P (r ∷ rows) id row all e =
    elim (r.doc.id == id) as (λ (b : Bool). cond b (Some r) (find (λ r. r.doc.id == id) rows) ≡ Some row → P row × ((b || list_any (λ r. r.doc.id == id) rows) ≡ true)) [
      | true ↦ λ (e : Some r ≡ Some row). (let is : r ≡ row = cc e in (subst P is (All-head P r rows all), refl))
      | false ↦ λ e. found_row P rows id row (All-tail P r rows all) e
    ] e

old_test : (through born : ℕ) → born ≤ through → not (nat_lt through born) ≡ true
old_test through born le = ap not (le-ltb through born le)

-- where there are none
pub no_chunks : (schema : Schema) (through : ℕ) → AreChunks schema through []
no_chunks schema through = record { disk = λ k d h. absurd (omega (arith, h)); old = λ k d h. absurd (omega (arith, h)); of = λ k d h. absurd (omega (arith, h)) }

pub no_layers : AreLayers []
no_layers = record { each = λ k d h. absurd (omega (arith, h)); distinct = λ i j d l h. absurd (omega (arith, h)); few_layers = omega arith; few_rows = omega arith }

-- nothing was laid over them yet
pub laid_nothing : (schema : Schema) (chunks : List LayerValue) (through : ℕ) → AreChunks schema through chunks → IsLaidOf schema chunks through [] (record { number = through; shape = 0; layers = chunks })
laid_nothing schema chunks through are =
    let on : filter (λ layer. layer.disk) chunks ≡ chunks = all_on chunks are.disk in
    record {
      all = λ k d h. absurd (omega (arith, h));
      rows = refl;
      laid = record {
        shape_is = refl;
        chunks_are = ap (map (λ (layer : LayerValue). layer.rows)) on;
        places = λ id row got.
            let found = found_row (λ (r : DocRow). r.born ≤ through) (all_living chunks) id row are.old (sym (get_rows (all_living chunks) id) ∙ got) in
            ap (λ (ls : List LayerValue). list_any (λ r. r.doc.id == id) (all_living ls)) on ∙ found.1 ∙ sym (old_test through row.born found.0);
        of = are.of;
      };
    }

-- what a payload was read as
pub txn_is : (r : Result Txn ℕ) (size : ℕ) (txn : Txn) → placed size r ≡ Ok txn → r ≡ Ok txn
txn_is (Ok t) size txn is = is
txn_is (Err left) size txn is = absurd (cc is)

pub fault_is : (r : Result Txn ℕ) (size place : ℕ) → placed size r ≡ Err place → (left : ℕ) × (r ≡ Err left)
fault_is (Ok t) size place is = absurd (cc is)
fault_is (Err left) size place is = (left, refl)

op_again : (op : TxnOp) → op_of (change_of op) ≡ as_put op
op_again (operations.Insert doc) = refl
op_again (operations.Put doc) = refl
op_again (operations.Kill id) = refl
op_again operations.Clear = refl

ops_again : (ops : List TxnOp) → map op_of (map change_of ops) ≡ map as_put ops
ops_again [] = refl
ops_again (op ∷ ops) = ap (λ (o : TxnOp). o ∷ map op_of (map change_of ops)) (op_again op) ∙ ap (λ (l : List TxnOp). as_put op ∷ l) (ops_again ops)

-- a record whose payload was read is that of its batch
pub was_read : (schema : Schema) (number : ℕ) (bytes : List ℕ) (txn : Txn) → txn_at schema bytes ≡ Ok txn → IsTxnOf schema txn → with_puts txn ≡ txn → bytes ≡ payload txn → IsRead schema (record { number = number; payload = bytes })
was_read schema number bytes txn is of puts spelled =
    let again : txn_of (map change_of txn.ops) ≡ txn = ap (λ (ops : List TxnOp). record { ops = ops }) (ops_again txn.ops) ∙ puts in
    let whole : txn_of (changes_in (txn_at schema bytes)) ≡ txn = ap (λ (r : Result Txn ℕ). txn_of (changes_in r)) is ∙ again in
    record {
      of = record {
        of = subst (λ (t : Txn). IsTxnOf schema t) (sym whole) of;
        read = subst (λ (t : Txn). txn_at schema (payload t) ≡ Ok t) (sym whole) (ap (txn_at schema) (sym spelled) ∙ is);
      };
      is = ap (λ (l : List ℕ). record { number = number; payload = l }) (ap payload whole ∙ sym spelled);
    }

-- rows stay such as the chunks don't have
row_then_kept : (schema : Schema) (through number id : ℕ) (o : Option DocRow) (op : TxnOp) → through < number → IsOpOf schema op → IfSome o (IsRowAt schema through id) → IfSome (row_then number id o (change_of op)) (IsRowAt schema through id)
row_then_kept schema through number id o (operations.Insert doc) lt of is =
    elim (doc.id == id) as (λ b. (doc.id == id) ≡ b → IfSome (cond b (Some (row_at number doc)) o) (IsRowAt schema through id)) [
      | true ↦ λ same. record { id_is = equal doc.id id same; newer = lt; of = of }
      | false ↦ λ other. is
    ] refl
row_then_kept schema through number id o (operations.Put doc) lt of is =
    elim (doc.id == id) as (λ b. (doc.id == id) ≡ b → IfSome (cond b (Some (row_at number doc)) o) (IsRowAt schema through id)) [
      | true ↦ λ same. record { id_is = equal doc.id id same; newer = lt; of = of }
      | false ↦ λ other. is
    ] refl
row_then_kept schema through number id o (operations.Kill killed) lt of is =
    elim (killed == id) as (λ b. IfSome (cond b None o) (IsRowAt schema through id)) [ true ↦ tt | false ↦ is ]
row_then_kept schema through number id o operations.Clear lt of is = tt

rows_kept : (schema : Schema) (through number id : ℕ) (o : Option DocRow) (ops : List TxnOp) → through < number → All (IsOpOf schema) ops → IfSome o (IsRowAt schema through id) → IfSome (row_after number id o (map change_of ops)) (IsRowAt schema through id)
rows_kept schema through number id o [] lt of is = is
rows_kept schema through number id o (op ∷ ops) lt of is =
    rows_kept schema through number id (row_then number id o (change_of op)) ops lt (All-tail (IsOpOf schema) op ops of) (row_then_kept schema through number id o op lt (All-head (IsOpOf schema) op ops of) is)

batches-push : (schema : Schema) (front : List LogRecord) (r : LogRecord) → batches_in schema (front ++ r ∷ []) ≡ batches_in schema front ++ batch_in schema r ∷ []
batches-push schema front r = map-append (batch_in schema) front (r ∷ [])

above-push : (schema : Schema) (through : ℕ) (front : List LogRecord) (r : LogRecord) → above through (batches_in schema (front ++ r ∷ [])) ≡ above through (batches_in schema front) ++ above through (batch_in schema r ∷ [])
above-push schema through front r = ap (λ (bs : List Batch). above through bs) (batches-push schema front r) ∙ filter-append (λ (b : Batch). nat_lt through b.number) (batches_in schema front) (batch_in schema r ∷ [])

-- the rows after one record more
rows-push : (schema : Schema) (through : ℕ) (old : Rows) (front : List LogRecord) (r : LogRecord) → through < r.number → rows_from schema through old (front ++ r ∷ []) ≡ after_batch (rows_from schema through old front) (batch_in schema r)
rows-push schema through old front r lt =
    let one : above through (batch_in schema r ∷ []) ≡ batch_in schema r ∷ [] = ap (λ (c : Bool). cond c (batch_in schema r ∷ []) []) (lt-ltb through r.number lt) in
    ap (λ (bs : List Batch). fold after_batch old bs) (above-push schema through front r ∙ ap (λ (bs : List Batch). above through (batches_in schema front) ++ bs) one)
    ∙ fold-append after_batch old (above through (batches_in schema front)) (batch_in schema r ∷ [])

rows-passed : (schema : Schema) (through : ℕ) (old : Rows) (front : List LogRecord) (r : LogRecord) → r.number ≤ through → rows_from schema through old (front ++ r ∷ []) ≡ rows_from schema through old front
rows-passed schema through old front r le =
    let none : above through (batch_in schema r ∷ []) ≡ [] = ap (λ (c : Bool). cond c (batch_in schema r ∷ []) []) (le-ltb through r.number le) in
    ap (λ (bs : List Batch). fold after_batch old bs) (above-push schema through front r ∙ ap (λ (bs : List Batch). above through (batches_in schema front) ++ bs) none ∙ append-nil (above through (batches_in schema front)))

-- the rows after some records and others
rows-then : (schema : Schema) (through : ℕ) (old : Rows) (front records : List LogRecord) → rows_from schema through old (front ++ records) ≡ rows_from schema through (rows_from schema through old front) records
rows-then schema through old front records =
    ap (λ (bs : List Batch). fold after_batch old (above through bs)) (map-append (batch_in schema) front records)
    ∙ ap (λ (bs : List Batch). fold after_batch old bs) (filter-append (λ (b : Batch). nat_lt through b.number) (batches_in schema front) (batches_in schema records))
    ∙ fold-append after_batch old (above through (batches_in schema front)) (above through (batches_in schema records))

-- one record more was taken
pub taken_more : (schema : Schema) (through : ℕ) (front : List LogRecord) (r : LogRecord) (old new : Recent) (txn : Txn) → IsTaken schema through front old → IsRead schema r → txn_at schema r.payload ≡ Ok txn → All (IsOpOf schema) txn.ops
    → Takes through r.number txn.ops old new → IsTaken schema through (front ++ r ∷ []) new
taken_more schema through front r old new txn taken read is of takes = elim (cases_lt through r.number) [
  | inl lt ↦
      let made = takes.later lt in
      record {
        all = All-push (IsRead schema) front r taken.all read;
        rows = λ rows id.
            row_changed r.number id (map change_of txn.ops) old new (finite.get rows id) made
            ∙ ap (λ (o : Option DocRow). row_after r.number id o (map change_of txn.ops)) (taken.rows rows id)
            ∙ sym (get_changes r.number id (rows_from schema through rows front) (map change_of txn.ops))
            ∙ ap (λ (t : Result Txn ℕ). finite.get (fold (after_change r.number) (rows_from schema through rows front) (changes_in t)) id) (sym is)
            ∙ ap (λ (m : _). finite.get m id) (sym (rows-push schema through rows front r lt));
        each = λ id. subst (λ (o : Option DocRow). IfSome o (IsRowAt schema through id)) (sym (made.rows id)) (rows_kept schema through r.number id (get nat_cmp old.rows id) txn.ops lt of (taken.each id));
        own = owns_after r.number (map change_of txn.ops) old new made taken.own;
      }
  | inr le ↦
      let same = takes.earlier le in
      record {
        all = All-push (IsRead schema) front r taken.all read;
        rows = λ rows id.
            ap (λ (recent : Recent). row_from recent (finite.get rows id) id) same
            ∙ taken.rows rows id ∙ ap (λ (m : _). finite.get m id) (sym (rows-passed schema through rows front r le));
        each = λ id. subst (λ (recent : Recent). IfSome (get nat_cmp recent.rows id) (IsRowAt schema through id)) (sym same) (taken.each id);
        own = subst Owns (sym same) taken.own;
      }
]

-- a piece was laid
pub laid_more : (schema : Schema) (chunks : List LayerValue) (through : ℕ) (front records : List LogRecord) (recent : Recent) (old new : SnapshotValue) → IsLaidOf schema chunks through front old → IsTaken schema through records recent
    → ((id : ℕ) → finite.get (live new) id ≡ row_over recent old id) → IsLaid schema chunks through new → IsLaidOf schema chunks through (front ++ records) new
laid_more schema chunks through front records recent old new before taken rows laid = record {
  all = All-append (IsRead schema) front records before.all taken.all;
  rows = finite.same_map nat_cmp_total finite.nat_cmp-IsAntisymmetric (live new) (rows_after schema chunks through (front ++ records)) (λ id.
      rows id ∙ taken.rows (live old) id
      ∙ ap (λ (m : Rows). finite.get (rows_from schema through m records) id) before.rows
      ∙ ap (λ (m : Rows). finite.get m id) (sym (rows-then schema through (rows_of (all_living chunks)) front records)));
  laid = laid;
}

-- nothing was read yet
pub loaded_nothing : (schema : Schema) (chunks : List LayerValue) (through : ℕ) (loaded : Loaded) → AreChunks schema through chunks → loaded.laid ≡ record { number = through; shape = 0; layers = chunks } → loaded.through ≡ through → loaded.last ≡ None → IsLoaded schema chunks through [] loaded
loaded_nothing schema chunks through loaded are laid through_is last = record {
  of = subst (IsLaidOf schema chunks through []) (sym laid) (laid_nothing schema chunks through are);
  through_is = through_is;
  last_is = last;
}

-- the last number of records and others
last_then : (front records : List LogRecord) → option_or (last_number records) (last_number front) ≡ last_number (front ++ records)
last_then [] records = or_none (last_number records)
  where
    or_none : (o : Option ℕ) → option_or o None ≡ o
    or_none None = refl
    or_none (Some last) = refl
last_then (r ∷ []) [] = refl
last_then (r ∷ []) (s ∷ records) = some_last s records (Some r.number)
  where
    some_last : (s : LogRecord) (records : List LogRecord) (other : Option ℕ) → option_or (last_number (s ∷ records)) other ≡ last_number (s ∷ records)
    some_last s [] other = refl
    some_last s (t ∷ records) other = some_last t records other
last_then (r ∷ s ∷ front) records = last_then (s ∷ front) records

-- a log was read
pub loaded_more : (schema : Schema) (chunks : List LayerValue) (through : ℕ) (front records : List LogRecord) (old new : Loaded) (last : Option ℕ) → IsLoaded schema chunks through front old → IsLaidOf schema chunks through (front ++ records) new.laid
    → last ≡ last_number records → new.last ≡ option_or last old.last → new.through ≡ old.through → IsLoaded schema chunks through (front ++ records) new
loaded_more schema chunks through front records old new last loaded laid is last_is same = record {
  of = laid;
  through_is = same ∙ loaded.through_is;
  last_is = last_is ∙ ap (λ (o : Option ℕ). option_or o old.last) is ∙ ap (option_or (last_number records)) loaded.last_is ∙ last_then front records;
}

-- the snapshot of what was taken
pub snapshot_of : (schema : Schema) (chunks : List LayerValue) (through : ℕ) (records : List LogRecord) (loaded : Loaded) (snapshot : SnapshotValue) → IsLoaded schema chunks through records loaded → snapshot.layers ≡ loaded.laid.layers → snapshot.shape ≡ loaded.laid.shape
    → snapshot.number ≡ number_after loaded.through loaded.last → IsSnapshotOf schema chunks through records snapshot
snapshot_of schema chunks through records loaded snapshot is layers shape number =
    let same : live snapshot ≡ live loaded.laid = ap (λ (l : List LayerValue). rows_of (all_living l)) layers in
    record {
      number_is = number ∙ ap (λ (n : ℕ). number_after n loaded.last) is.through_is ∙ ap (number_after through) is.last_is;
      shape_is = shape ∙ is.of.laid.shape_is;
      rows_are = same ∙ is.of.rows;
      chunks_are = ap (λ (l : List LayerValue). map (λ (layer : LayerValue). layer.rows) (filter (λ layer. layer.disk) l)) layers ∙ is.of.laid.chunks_are;
      of = subst (All (λ (layer : LayerValue). AreRowsOf schema layer.rows)) (sym layers) is.of.laid.of;
      places = λ id row found.
          ap (λ (l : List LayerValue). list_any (λ row. row.doc.id == id) (all_living (filter (λ layer. layer.disk) l))) layers ∙ is.of.laid.places id row (ap (λ m. finite.get m id) (sym same) ∙ found);
    }
