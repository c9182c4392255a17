-- A commit that is prepared: its record, its step, and the limits.
use Rattle.std.proofs.Common.{◌≡◌, ℕ, ◌+◌, ◌-◌, ◌≤◌, ◌<◌, ◌^◌, List, [], ◌∷◌, ◌++◌, map, Bool, true, false, cond, ◌||◌, ◌==◌, nat_lt, Option, Some, None, Ok, Err, length, refl, sym, ◌∙◌, ap, subst, arith}
use Rattle.std.specs.FinMap as finite
use Rattle.std.specs.List.{flat_map, list_any}
use Rattle.std.specs.Int.{w32, to_le_bytes}
use Rattle.std.proofs.lemmas.Bool.Decides.{nat_tests}
use Rattle.std.proofs.lemmas.List.{length-map}
use Rattle.std.proofs.lemmas.List.Concat.{flat_map-cons}
use Rattle.std.proofs.lemmas.List.Elements.{All-map}
use Rattle.doc_types.specs.declared.schema.Schema.{Schema}
use Rattle.doc_types.specs.declared.transactions.Txn.{Txn}
use Rattle.doc_types.specs.declared.transactions.TxnOp.{TxnOp}
use Rattle.doc_types.specs.declared.transactions.TxnOp.TheVariants as operations
use Rattle.doc_types.specs.Commits.{Accepted, Change, Entry, after_entry, change_of, verdict}
use Rattle.doc_types.specs.Payloads.{payload_length}
use Rattle.doc_types.specs.Snapshots.{AreLayers, LayerValue, SnapshotValue, all_living, live}
use Rattle.doc_types.specs.Schemas.{IsSchema}
use Rattle.doc_types.specs.Transactions.{IsOpOf, IsTxnOf}
use Rattle.doc_types.proofs.Changes.{accepted}
use Rattle.doc_bytes.specs.Payload.{op_bytes, payload}
use Rattle.doc_bytes.specs.Reading.{txn_at}
use Rattle.doc_bytes.specs.RoundTrip.{HasNumbers, as_put, with_puts}
use Rattle.doc_bytes.proofs.Lengths.{payload_size}
use Rattle.byte_fields.specs.Fields.{placed}
use Rattle.doc_bytes.proofs.Txns.{is_only}
use Rattle.srch_base.specs.declared.faults.Or.TheVariants.{Fault}
use Rattle.chunk_store.specs.declared.disk.Disk.{Ghosts as DiskWords}
use Rattle.commit_outcomes.specs.Outcomes.{IsFull, changed}
use Rattle.commit_outcomes.specs.declared.outcome.Full.{Full}
use Rattle.commit_outcomes.specs.declared.outcome.FullKind.TheVariants as limits
use Rattle.commit_outcomes.specs.declared.outcome.TheConstants.{MAX_DOCUMENTS}
use Rattle.gate_log.specs.declared.records.LogRecord.{LogRecord}
use Rattle.layer_commit.specs.Commits.{Applies, layers_after}
use Rattle.layer_joins.specs.Joins.{AreOfOne, MayMerge}
use Rattle.layer_joins.specs.Joins.{AreApart}
use Rattle.layer_joins.proofs.Kept.{disk_joined, of_joined}
use Rattle.layer_joins.proofs.Livings.{docs_of}
use Rattle.layer_joins.proofs.Upkeep.{live_joined}
use Rattle.step_book.specs.Tellings.{entry_of}
use Rattle.step_history.specs.Places.{disk_layers}
use Rattle.step_history.specs.History.{AreOf, Base, Commit, CommitFollows, IsGood, Step, last_snapshot, made_by}
use Rattle.step_history.specs.Logs.{log_at}
use Rattle.step_history.proofs.LogEnds as ends
use Rattle.step_line.specs.Lines.{LineValue, MayFollow, kept_by, with_waiting}
use Rattle.store_steps.specs.Batches.{Batch, IsBatchOf, batch_of, op_of, record_of, txn_of}
use Rattle.store_steps.specs.Kept.{Has}
use Rattle.store_steps.specs.Refusals.{batch_length, full_documents, full_numbers, full_of, is_put, most_log}
use Rattle.store_steps.specs.declared.files.Files.{Files}
use Rattle.store_steps.specs.declared.limits.TheConstants.{LAST_COMMIT, MOST_LOG, MOST_LOG_BY_REMOVALS}
use Rattle.store_steps.proofs.Keeping.{none_next}
use Rattle.store_keep.specs.Commits.{front_of}
use Rattle.store_keep.specs.Keepers.{Keeps}
use Rattle.store_keep.specs.declared.preparing.Prepared.{Prepared}
use Rattle.store_keep.specs.steps.Limits.{full_log}
use Rattle.store_keep.specs.steps.Stages.{Enters, IsPrepared}
use Rattle.store_reads.proofs.Staying.{chunks_stay}
use Rattle.store_keep.proofs.Following.{disk_follows, last_of, of_after}

-- an operation is written as the change that it is
op_again : (op : TxnOp) → op_bytes (op_of (change_of op)) ≡ op_bytes op
op_again (operations.Insert doc) = refl
op_again (operations.Put doc) = refl
op_again (operations.Kill id) = refl
op_again operations.Clear = refl

ops_again : (ops : List TxnOp) → flat_map op_bytes (map op_of (map change_of ops)) ≡ flat_map op_bytes ops
ops_again [] = refl
ops_again (op ∷ ops) =
    flat_map-cons op_bytes (op_of (change_of op)) (map op_of (map change_of ops))
    ∙ ap (λ (b : List ℕ). b ++ flat_map op_bytes (map op_of (map change_of ops))) (op_again op)
    ∙ ap (λ (b : List ℕ). op_bytes op ++ b) (ops_again ops)
    ∙ sym (flat_map-cons op_bytes op ops)

count_again : (ops : List TxnOp) → length (map op_of (map change_of ops)) ≡ length ops
count_again ops = length-map (map change_of ops) op_of ∙ length-map ops change_of

payload_again : (txn : Txn) → payload (txn_of (map change_of txn.ops)) ≡ payload txn
payload_again txn =
    ap (λ (n : ℕ). to_le_bytes w32 n ++ flat_map op_bytes (map op_of (map change_of txn.ops))) (count_again txn.ops)
    ∙ ap (λ (b : List ℕ). to_le_bytes w32 (length txn.ops) ++ b) (ops_again txn.ops)

of_again : (schema : Schema) (op : TxnOp) → IsOpOf schema op → IsOpOf schema (op_of (change_of op))
of_again schema (operations.Insert doc) of = of
of_again schema (operations.Put doc) of = of
of_again schema (operations.Kill id) of = of
of_again schema operations.Clear of = of

of_schema : (schema : Schema) (txn : Txn) → IsTxnOf schema txn → IsTxnOf schema (txn_of (map change_of txn.ops))
of_schema schema txn of = record {
  few = omega (arith, of.few, count_again txn.ops);
  operations = All-map (IsOpOf schema) op_of (map change_of txn.ops) (All-map (λ (c : Change). IsOpOf schema (op_of c)) change_of txn.ops (λ k d h. of_again schema _ (of.operations k d h)));
}

put_again : (op : TxnOp) → as_put op ≡ op_of (change_of op)
put_again (operations.Insert doc) = refl
put_again (operations.Put doc) = refl
put_again (operations.Kill id) = refl
put_again operations.Clear = refl

puts_again : (ops : List TxnOp) → map as_put ops ≡ map op_of (map change_of ops)
puts_again [] = refl
puts_again (op ∷ ops) = ap (λ (o : TxnOp). o ∷ map as_put ops) (put_again op) ∙ ap (λ (l : List TxnOp). op_of (change_of op) ∷ l) (puts_again ops)

-- what is written of a transaction is read as it, its insertions as puts
written_read : (schema : Schema) (txn : Txn) → IsSchema schema → IsTxnOf schema txn → HasNumbers txn → txn_at schema (payload txn) ≡ Ok (with_puts txn)
written_read schema txn limits of numbers =
    elim (txn_at schema (payload txn)) as (λ r. txn_at schema (payload txn) ≡ r → r ≡ Ok (with_puts txn)) [
      | Ok found ↦ λ is. sym (is_only schema (payload txn) (Ok found) txn limits of numbers refl (ap (placed (length (payload txn))) is))
      | Err left ↦ λ is. absurd (cc (is_only schema (payload txn) (Err (Fault (record { place = length (payload txn) - left }))) txn limits of numbers refl (ap (placed (length (payload txn))) is)))
    ] refl

-- its changes are a batch of the schema
is_batch : (schema : Schema) (txn : Txn) (b : Batch) → b.changes ≡ map change_of txn.ops → IsSchema schema → IsTxnOf schema txn → HasNumbers txn → IsBatchOf schema b
is_batch schema txn b is limits of numbers =
    let read : txn_at schema (payload (txn_of (map change_of txn.ops))) ≡ Ok (txn_of (map change_of txn.ops)) =
    ap (txn_at schema) (payload_again txn) ∙ written_read schema txn limits of numbers ∙ ap (λ (l : List TxnOp). Ok (record { ops = l })) (puts_again txn.ops) in
    record {
      of = subst (λ (c : List Change). IsTxnOf schema (txn_of c)) (sym is) (of_schema schema txn of);
      read = subst (λ (c : List Change). txn_at schema (payload (txn_of c)) ≡ Ok (txn_of c)) (sym is) read;
    }

-- one of the changes puts where one of the operations does
any_put : (ops : List TxnOp) → list_any is_put (map change_of ops) ≡ list_any (λ op. is_put (change_of op)) ops
any_put [] = refl
any_put (op ∷ ops) = ap (λ (b : Bool). is_put (change_of op) || b) (any_put ops)

-- the bound that counts
pub most_is : (ops : List TxnOp) (b : Bool) → list_any (λ op. is_put (change_of op)) ops ≡ b → cond b MOST_LOG MOST_LOG_BY_REMOVALS ≡ most_log (map change_of ops)
most_is ops b is = ap (λ (c : Bool). cond c MOST_LOG MOST_LOG_BY_REMOVALS) (sym is ∙ sym (any_put ops))

-- a record takes as many bytes as are counted
pub size_of : (txn : Txn) → batch_length (map change_of txn.ops) ≡ 13 + payload_length txn
size_of txn = ends.payload (record { worker = 0; seq = 0; number = 0; changes = map change_of txn.ops }) txn refl

-- the log ends where the history's does
pub end_is : {D : Type 0} (words : DiskWords D) (schema : ℕ → Schema) (base : ℕ → Base) (disk : D) (files : Files) (line : LineValue) → Keeps words schema base disk files line → line.waiting ≡ None → files.log.staged ≡ None → files.log.end ≡ log_at (base line.index) line.history
end_is words schema base disk files line kept none rests =
    let next : kept.next ≡ None = none_next files.log.staged kept.next kept.staged rests in
    let has : Has (schema line.index) (base line.index) kept.start line.history line.waiting files.log kept.dir None = subst (λ (n : Option Batch). Has (schema line.index) (base line.index) kept.start line.history line.waiting files.log kept.dir n) next kept.has in
    has.end ∙ ap (λ (w : Option Step). log_at (base line.index) (with_waiting line.history w)) none

if_none : {X : Type 0} (b : Bool) (x : X) (other : Option X) → cond b (Some x) other ≡ None → (b ≡ false) × (other ≡ None)
if_none true x other is = absurd (cc (is))
if_none false x other is = (refl, is)

-- the limits one by one
pub by_log : (base : Base) (steps : List Step) (changes : List Change) (full : Full) → full_log base steps changes ≡ Some full → full_of base steps changes ≡ Some full
by_log base steps changes full is =
    elim (nat_lt (most_log changes) (log_at base steps + batch_length changes)) as (λ b. cond b (Some (record { what = limits.Log; at = log_at base steps; need = batch_length changes })) None ≡ Some full → cond b (Some (record { what = limits.Log; at = log_at base steps; need = batch_length changes })) (full_documents (last_snapshot base steps) changes) ≡ Some full) [
      | true ↦ λ is. is
      | false ↦ λ is. absurd (cc (is))
    ] is

beside_log : (base : Base) (steps : List Step) (changes : List Change) → full_log base steps changes ≡ None → full_of base steps changes ≡ full_documents (last_snapshot base steps) changes
beside_log base steps changes is =
    ap (λ (b : Bool). cond b (Some (record { what = limits.Log; at = log_at base steps; need = batch_length changes })) (full_documents (last_snapshot base steps) changes))
    (if_none (nat_lt (most_log changes) (log_at base steps + batch_length changes)) (record { what = limits.Log; at = log_at base steps; need = batch_length changes }) None is).0

-- with few documents, numbers alone are left
pub by_numbers : (base : Base) (steps : List Step) (changes : List Change) → full_log base steps changes ≡ None → finite.len (changed (last_snapshot base steps) changes) ≤ MAX_DOCUMENTS → full_of base steps changes ≡ full_numbers (last_snapshot base steps)
by_numbers base steps changes is few =
    let within : nat_lt MAX_DOCUMENTS (finite.len (changed (last_snapshot base steps) changes)) ≡ false = grind (arith, nat_tests) in
    beside_log base steps changes is ∙ rw within refl

-- with many, these are said
by_documents : (base : Base) (steps : List Step) (changes : List Change) → full_log base steps changes ≡ None → MAX_DOCUMENTS < finite.len (changed (last_snapshot base steps) changes)
    → full_of base steps changes ≡ Some (record { what = limits.Documents; at = finite.len (live (last_snapshot base steps)); need = finite.len (changed (last_snapshot base steps) changes) - finite.len (live (last_snapshot base steps)) })
by_documents base steps changes is many =
    let above : nat_lt MAX_DOCUMENTS (finite.len (changed (last_snapshot base steps) changes)) ≡ true = grind (arith, nat_tests) in
    beside_log base steps changes is ∙ rw above refl

-- what is answered to a commit after which there would be too many documents
module _ (base : Base) (steps : List Step) (ops : List TxnOp) (full : Full) (is : IsFull MAX_DOCUMENTS ops (last_snapshot base steps) full) where
  abbrev IsSaid : Full → Type 0
  IsSaid said = (changes : List Change) × (removed : ℕ) × (verdict ops (live (last_snapshot base steps)) ≡ Accepted changes removed) × (full_of base steps changes ≡ Some said)

  those : is.changes ≡ map change_of ops
  those = accepted (λ id. finite.contains_key (live (last_snapshot base steps)) id) ops is.changes is.removed is.verdict

  pub log_said : (said : Full) → Some said ≡ full_log base steps (map change_of ops) → IsSaid said
  log_said said log = (is.changes, is.removed, is.verdict, by_log base steps is.changes said (ap (full_log base steps) those ∙ sym log))

  pub documents_said : None ≡ full_log base steps (map change_of ops) → IsSaid full
  documents_said log = (is.changes, is.removed, is.verdict, by_documents base steps is.changes (ap (full_log base steps) those ∙ sym log) is.above ∙ ap Some (sym is.says))

-- there aren't too many documents after a commit that was accepted
pub few_after : (base : Base) (steps : List Step) (ops : List TxnOp) (removed : ℕ) (next : SnapshotValue) → Applies MAX_DOCUMENTS ops (last_snapshot base steps) removed next → finite.len (changed (last_snapshot base steps) (map change_of ops)) ≤ MAX_DOCUMENTS
few_after base steps ops removed next applies =
    let same = accepted (λ id. finite.contains_key (live (last_snapshot base steps)) id) ops applies.changes removed applies.verdict in
    omega (arith, ap finite.len (applies.rows ∙ ap (changed (last_snapshot base steps)) same), applies.few)

-- it may pass another limit
pub other_said : (base : Base) (steps : List Step) (ops : List TxnOp) (removed : ℕ) (next : SnapshotValue) (said : Full) → Applies MAX_DOCUMENTS ops (last_snapshot base steps) removed next → Some said ≡ full_of base steps (map change_of ops)
    → (changes : List Change) × (more : ℕ) × (verdict ops (live (last_snapshot base steps)) ≡ Accepted changes more) × (full_of base steps changes ≡ Some said)
other_said base steps ops removed next said applies is =
    let same = accepted (λ id. finite.contains_key (live (last_snapshot base steps)) id) ops applies.changes removed applies.verdict in
    (applies.changes, removed, applies.verdict, ap (full_of base steps) same ∙ sym is)

-- a commit that was accepted, and for which there is room
module _ (schema : Schema) (base : Base) (line : LineValue) (worker : ℕ) (txn : Txn) (committed : SnapshotValue) (removed : ℕ)
    (none : line.waiting ≡ None) (limits : IsSchema schema) (of : IsTxnOf schema txn) (numbers : HasNumbers txn) (applies : Applies MAX_DOCUMENTS txn.ops (last_snapshot base line.history) removed committed)
    (room : full_of base line.history (map change_of txn.ops) ≡ None) where
  abbrev last : SnapshotValue
  last = last_snapshot base line.history

  same : applies.changes ≡ map change_of txn.ops
  same = accepted (λ id. finite.contains_key (live last) id) txn.ops applies.changes removed applies.verdict

  log_room : log_at base line.history + (13 + payload_length txn) ≤ MOST_LOG_BY_REMOVALS
  log_room =
      let within = (if_none (nat_lt (most_log (map change_of txn.ops)) (log_at base line.history + batch_length (map change_of txn.ops))) _ _ room).0 in
      let most : most_log (map change_of txn.ops) ≤ MOST_LOG_BY_REMOVALS = elim (list_any is_put (map change_of txn.ops)) as (λ b. cond b MOST_LOG MOST_LOG_BY_REMOVALS ≤ MOST_LOG_BY_REMOVALS) [ true ↦ omega arith | false ↦ omega arith ] in
      let size = size_of txn in
      let under : log_at base line.history + batch_length (map change_of txn.ops) ≤ most_log (map change_of txn.ops) = grind (arith, nat_tests, within) in
      omega (arith, most, size, under)

  -- its record can be written
  pub short : length (payload txn) < 2 ^ 32
  short = omega (arith, payload_size txn, log_room)

  -- it has a number
  pub numbered : last.number + 1 < 2 ^ 63
  numbered =
      let documents = (if_none (nat_lt (most_log (map change_of txn.ops)) (log_at base line.history + batch_length (map change_of txn.ops))) _ _ room).1 in
      let numbers = (if_none (nat_lt MAX_DOCUMENTS (finite.len (changed last (map change_of txn.ops)))) _ _ documents).1 in
      let within = (if_none (nat_lt LAST_COMMIT (last.number + 1)) _ _ numbers).0 in
      let under : last.number + 1 ≤ LAST_COMMIT = grind (arith, nat_tests, within) in
      omega (arith, under)

  -- the rows of its layers are of the schema
  committed_of : IsGood schema base line.history → AreOf schema committed
  committed_of good = of_after schema txn.ops applies.changes applies.put last committed (last_of schema base line.history good) of.operations same applies.are_put applies.layers

  -- and so is what lives
  pub of_one : IsGood schema base line.history → AreOfOne (all_living committed.layers)
  of_one good = record { schema = schema; limits = limits; docs = docs_of schema committed.layers (committed_of good) }

  -- its last layers may be put together
  module _ (next : SnapshotValue) (joins : MayMerge committed next) (sound : AreLayers next.layers) (apart : AreApart (all_living committed.layers)) (seq : ℕ) (seq_is : seq ≡ kept_by worker line + 1) where
    abbrev entry : Entry
    entry = entry_of worker seq next.number txn

    numbered_next : next.number ≡ last.number + 1
    numbered_next = joins.number ∙ applies.number

    layers : committed.layers ≡ layers_after (map change_of txn.ops) applies.put last.layers
    layers = applies.layers ∙ ap (λ (c : List Change). layers_after c applies.put last.layers) same

    rows : live committed ≡ after_entry (live last) entry
    rows = applies.rows ∙ ap (changed last) same ∙ ap (λ (n : ℕ). after_entry (live last) (entry_of worker seq n txn)) (sym numbered_next)

    same_rows : live next ≡ live committed
    same_rows = live_joined committed next joins apart

    same_disk : disk_layers next ≡ disk_layers committed
    same_disk = disk_joined committed.layers next.layers joins.joins

    -- it follows
    pub follows : CommitFollows base line.history entry next
    follows = record {
      numbered = numbered_next;
      number = numbered_next;
      shape = joins.shape ∙ applies.shape;
      chunks = ap (λ (l : List LayerValue). map (λ (layer : LayerValue). layer.rows) l) same_disk ∙ chunks_stay (map change_of txn.ops) applies.put last committed layers;
      rows = same_rows ∙ rows;
      disk = λ id lives.
          ap (λ (l : List LayerValue). list_any (λ row. row.doc.id == id) (all_living l)) same_disk
          ∙ disk_follows entry applies.put last committed layers rows id (subst (λ m. finite.contains_key m id ≡ true) same_rows lives);
      seq = seq_is ∙ ap (λ (w : Option Step). made_by worker (with_waiting line.history w) + 1) none;
    }

    -- and may be published
    pub may_follow : IsGood schema base line.history → length line.history + 1 < 2 ^ 63 → MayFollow schema base line.history (Commit entry next)
    may_follow good few = record {
      room = few;
      follows = follows;
      of = of_joined schema committed.layers next.layers (committed_of good) sound joins.joins;
    }

    record_is : (r : LogRecord) → r ≡ record { number = next.number; payload = payload txn } → r ≡ record_of (batch_of entry)
    record_is r is = is ∙ ap (λ (b : List ℕ). record { number = next.number; payload = b }) (sym (payload_again txn))

    enters : (step : Step) (r : LogRecord) → step ≡ Commit entry next → r ≡ record { number = next.number; payload = payload txn } → Enters schema base line.history step r
    enters step r step_is is = record {
      entry = entry;
      snapshot = next;
      is = step_is;
      record_is = record_is r is;
      follows = follows;
      of = is_batch schema txn (batch_of entry) refl limits of numbers;
      number = omega (arith, numbered_next, numbered);
      room = omega (arith, ap (λ (r : LogRecord). length r.payload) is, payload_size txn, log_room);
    }

    -- it is prepared
    pub prepared_is : {J : Type 0} (prepared : Prepared J) → prepared.staged ≡ record { number = next.number; payload = payload txn } → prepared.pending ≡ record { from = front_of line; step = Commit entry next } → prepared.number ≡ next.number → prepared.removed ≡ removed
        → length line.history + 1 < 2 ^ 63 → IsPrepared schema base line worker txn.ops prepared
    unfolding enters
    prepared_is prepared staged pending number count few = record {
      enters = enters prepared.pending.step prepared.staged (ap (λ p. p.step) pending) staged;
      from = ap (λ p. p.from) pending;
      number = number;
      becomes = record {
        verdict = applies.verdict ∙ ap (λ (c : List Change). Accepted c removed) same ∙ ap (Accepted (map change_of txn.ops)) (sym count);
        by = refl;
        follows = follows;
        room = room;
      };
      room = few;
    }
