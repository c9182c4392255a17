-- A commit over layers follows in the history: an id lives on on the disk exactly where it did and isn't put anew.
use Rattle.std.proofs.Common.{◌≡◌, ℕ, List, [], ◌∷◌, ◌++◌, map, Bool, true, false, ◌||◌, ◌&&◌, not, Option, Some, None, is_some, refl, sym, ◌∙◌, ap, subst, All, append_assoc}
use Rattle.std.specs.FinMap as finite
use Rattle.std.specs.List.{filter, fold, list_any}
use Rattle.std.specs.Ordering.{nat_cmp}
use Rattle.std.proofs.lemmas.List.Elements.{All-append, All-cons, All-filter, All-map, All-nil}
use Rattle.doc_types.specs.declared.documents.DocRow.{DocRow}
use Rattle.doc_types.specs.declared.schema.Schema.{Schema}
use Rattle.doc_types.specs.declared.transactions.TxnOp.{TxnOp}
use Rattle.doc_types.specs.Commits.{Change, Put, Kill, Clear, Entry, after_change, after_entry, change_of}
use Rattle.doc_types.specs.Documents.{AreRowsOf}
use Rattle.doc_types.specs.Snapshots.{LayerValue, SnapshotValue, live}
use Rattle.doc_types.specs.Transactions.{IsOpOf}
use Rattle.layer_commit.specs.Commits.{ArePut, is_kept, layer_after, layers_after, layers_of, named, names}
use Rattle.layer_commit.proofs.Layered.{put_of}
use Rattle.layer_commit.proofs.RowMaps.{get_changes, named_alike, true_false}
use Rattle.step_history.specs.History.{AreOf, Base, IsGood, Step, after_steps, is_put, last_snapshot, puts, snapshot_of}
use Rattle.step_history.specs.Places.{IsLive, on_disk}
use Rattle.step_history.proofs.Changes.{unput}
use Rattle.store_reads.proofs.Staying.{disk_left}

or_both : (a b c d : Bool) → (a ≡ true → c ≡ true) → (b ≡ true → d ≡ true) → (a || b) ≡ true → (c || d) ≡ true
or_both true b true d f g e = refl
or_both true b false d f g e = absurd (true_false (sym (f refl)))
or_both false b true d f g e = refl
or_both false b false d f g e = g e

put_names : (id : ℕ) (change : Change) → is_put id change ≡ true → names change id ≡ true
put_names id (Put doc) e = e
put_names id (Kill killed) e = absurd (true_false (sym e))
put_names id Clear e = refl

put_named : (id : ℕ) (changes : List Change) → list_any (is_put id) changes ≡ true → named changes id ≡ true
put_named id [] e = absurd (true_false (sym e))
put_named id (change ∷ changes) e = or_both (is_put id change) (list_any (is_put id) changes) (names change id) (named changes id) (put_names id change) (put_named id changes) e

some_row : (o : Option DocRow) → is_some o ≡ true → (row : DocRow) × (o ≡ Some row)
some_row None e = absurd (true_false (sym e))
some_row (Some row) e = (row, refl)

-- an id that a commit names and doesn't put doesn't live after it
named_unput : (entry : Entry) (old new : SnapshotValue) (id : ℕ) → live new ≡ after_entry (live old) entry → IsLive new id → puts entry id ≡ false → named entry.changes id ≡ true → ⊥
named_unput entry old new id rows lives miss hit =
    let found = some_row (finite.get (live new) id) lives in
    let same : finite.get (fold (after_change entry.number) finite.empty entry.changes) id ≡ finite.get (live new) id =
    get_changes entry.number id finite.empty entry.changes
    ∙ named_alike entry.number id entry.changes hit (finite.get finite.empty id) (finite.get (live old) id)
    ∙ sym (get_changes entry.number id (live old) entry.changes)
    ∙ ap (λ m. finite.get m id) (sym rows) in
    let none : finite.get finite.empty id ≡ Some found.0 = unput entry.number finite.empty entry.changes id found.0 miss (same ∙ found.1) in
    cc (finite.get-empty nat_cmp id, none)

-- an id that lives after it was named where it was put
named_is_put : (entry : Entry) (old new : SnapshotValue) (id : ℕ) → live new ≡ after_entry (live old) entry → IsLive new id → named entry.changes id ≡ puts entry id
named_is_put entry old new id rows lives =
    elim (puts entry id) as (λ b. puts entry id ≡ b → named entry.changes id ≡ b) [
      | true ↦ λ hit. put_named id entry.changes hit
      | false ↦ λ miss. elim (named entry.changes id) as (λ b. named entry.changes id ≡ b → b ≡ false) [
        | true ↦ λ hit. absurd (named_unput entry old new id rows lives miss hit)
        | false ↦ λ e. refl
      ] refl
    ] refl

-- which ids live on the disk after a commit
pub disk_follows : (entry : Entry) (put : List DocRow) (old new : SnapshotValue) → new.layers ≡ layers_after entry.changes put old.layers → live new ≡ after_entry (live old) entry → (id : ℕ) → IsLive new id → on_disk new id ≡ (on_disk old id && not (puts entry id))
disk_follows entry put old new is rows id lives = disk_left entry.changes put old new is id ∙ ap (λ b. on_disk old id && not b) (named_is_put entry old new id rows lives)

rows_of_put : (schema : Schema) (put : List DocRow) → AreRowsOf schema put → All (λ layer. AreRowsOf schema layer.rows) (layers_of put)
rows_of_put schema [] are = All-nil (λ (layer : LayerValue). AreRowsOf schema layer.rows)
rows_of_put schema (row ∷ rows) are = All-cons (λ (layer : LayerValue). AreRowsOf schema layer.rows) (record { rows = row ∷ rows; disk = false; dead = [] }) [] are (All-nil (λ (layer : LayerValue). AreRowsOf schema layer.rows))

-- the rows of all layers are of the schema after it
pub of_after : (schema : Schema) (ops : List TxnOp) (changes : List Change) (put : List DocRow) (old new : SnapshotValue) → AreOf schema old → All (IsOpOf schema) ops → changes ≡ map change_of ops → ArePut new.number changes put → new.layers ≡ layers_after changes put old.layers → AreOf schema new
of_after schema ops changes put old new of each same are layers =
    let rows : AreRowsOf schema put = put_of schema new.number ops put (subst (λ changes. ArePut new.number changes put) same are) each in
    subst (All (λ layer. AreRowsOf schema layer.rows)) (sym layers)
    (All-append (λ (layer : LayerValue). AreRowsOf schema layer.rows) (filter is_kept (map (layer_after changes) old.layers)) (layers_of put)
    (All-filter is_kept (λ (layer : LayerValue). AreRowsOf schema layer.rows) (map (layer_after changes) old.layers) (All-map (λ (layer : LayerValue). AreRowsOf schema layer.rows) (layer_after changes) old.layers (λ k d h. of k d h)))
    (rows_of_put schema put rows))

last_from : (schema : Schema) (base : Base) (snapshot : SnapshotValue) (before steps : List Step) → IsGood schema base (before ++ steps) → AreOf schema snapshot → AreOf schema (after_steps snapshot steps)
last_from schema base snapshot before [] good of = of
last_from schema base snapshot before (step ∷ steps) good of =
    last_from schema base (snapshot_of step) (before ++ step ∷ []) steps (subst (IsGood schema base) (sym (append_assoc before (step ∷ []) steps)) good) (good.each before step steps refl).1

-- those of the last snapshot of a good history are
pub last_of : (schema : Schema) (base : Base) (steps : List Step) → IsGood schema base steps → AreOf schema (last_snapshot base steps)
last_of schema base steps good = last_from schema base base.opening [] steps good good.base_of
