-- What is recent has a layer: the rows are the same, each in a layer.
use Rattle.std.proofs.Common.{◌≡◌, ℕ, ◌<◌, ◌^◌, List, [], ◌∷◌, ◌++◌, Bool, true, false, cond, ◌==◌, ◌&&◌, ◌||◌, not, Option, Some, None, is_some, refl, sym, ◌∙◌, ap, subst, map, length, get_or, All, AllPairs}
use Rattle.std.specs.Prelude.{IfSome, nat_lt}
use Rattle.std.specs.BTreeMap.{IsOrdered, get}
use Rattle.std.specs.BTreeSet.{BTreeSet, contains}
use Rattle.std.specs.FinMap as finite
use Rattle.std.specs.List.{find, list_any}
use Rattle.std.specs.List.Sorted.{IsStrictlySortedBy}
use Rattle.std.specs.Map.{values_of}
use Rattle.std.specs.Option.{option_or}
use Rattle.std.specs.Ordering.{is_eq, nat_cmp}
use Rattle.std.proofs.lemmas.Bool.{lt-ltb}
use Rattle.std.proofs.lemmas.Cmp.{nat_cmp_total}
use Rattle.std.proofs.lemmas.List.Elements.{All-append, All-cons, All-head, All-nil, All-tail}
use Rattle.std.proofs.lemmas.List.Kept.{AllPairs-from_increasing}
use Rattle.std.proofs.lemmas.Map.Keys.{IsStrictlyIncreasing-from_sorted}
use Rattle.std.proofs.lemmas.Map.Views.{All-found}
use Rattle.doc_types.specs.declared.documents.DocRow.{DocRow}
use Rattle.doc_types.specs.declared.schema.Schema.{Schema}
use Rattle.doc_types.specs.Chunks.{IsContent}
use Rattle.doc_types.specs.Commits.{Kill}
use Rattle.doc_types.specs.Documents.{AreRowsOf}
use Rattle.doc_types.specs.Rows.{rows_of}
use Rattle.doc_types.specs.Schemas.{IsSchema}
use Rattle.doc_types.specs.Snapshots.{AreLayers, LayerValue, SnapshotValue, all_living, live}
use Rattle.layer_commit.specs.Commits.{layers_after, layers_of, named, removals}
use Rattle.layer_commit.proofs.RowMaps.{flipped}
use Rattle.layer_commit.proofs.Tried.{same_test}
use Rattle.layer_joins.specs.Joins.{AreApart, AreOfOne, MayMerge}
use Rattle.layer_joins.proofs.Kept.{disk_joined, of_joined}
use Rattle.layer_joins.proofs.Livings.{docs_of}
use Rattle.layer_joins.proofs.Upkeep.{live_joined}
use Rattle.step_history.specs.History.{AreOf}
use Rattle.step_history.specs.Places.{disk_layers, on_disk}
use Rattle.store_reads.specs.declared.recent.Recent.{Recent}
use Rattle.gate_log.specs.declared.records.LogRecord.{LogRecord}
use Rattle.store_reads.specs.declared.pieces.Piece.{Piece}
use Rattle.store_reads.specs.steps.Pieces.{IsLaid, IsLaidOf, IsPiece, piece_rows}
use Rattle.store_reads.specs.steps.Recents.{AreRowsAt, IsRowAt, Owns, is_gone}
use Rattle.store_reads.proofs.Loads.{laid_more}
use Rattle.store_reads.proofs.Recents.{row_over}
use Rattle.store_reads.proofs.Staying.{chunks_stay, disk_left}
use Rattle.store_reads.proofs.Layers.{entries_at, rows_of_schema, values_found}
use Rattle.store_reads.proofs.NewLayers.{left_all, left_layers, new_layer, next_after, next_layers, next_row, next_sound, out}

-- ids that are named, as a set and as changes
named_in : (ids : List ℕ) (id : ℕ) → named (map Kill ids) id ≡ list_any (λ n. n == id) ids
named_in [] id = refl
named_in (n ∷ ids) id = ap (λ b. (n == id) || b) (named_in ids id)

tied : (a b : ℕ) → (a == b) ≡ is_eq (nat_cmp b a)
tied a b = flipped a b ∙ same_test b a

set_has : (set : BTreeSet ℕ) (id : ℕ) → contains nat_cmp set id ≡ list_any (λ n. n == id) set.keys
set_has set id = (let same_test : (λ (k : ℕ). is_eq (nat_cmp id k)) ≡ (λ n. n == id) = λ i k. sym (tied k id) i in ap (λ test. list_any test set.keys) same_test)

and_true : (b : Bool) → (b && true) ≡ b
and_true true = refl
and_true false = refl

and_false : (b : Bool) → (b && false) ≡ false
and_false true = refl
and_false false = refl

-- the ids ascend
pub ids_up : (ids keys : List ℕ) → ids ≡ keys → IsStrictlySortedBy nat_cmp keys → AllPairs (λ id later. id < later) ids
ids_up ids keys is ordered = subst (AllPairs (λ id later. id < later)) (sym is) (AllPairs-from_increasing keys (IsStrictlyIncreasing-from_sorted keys ordered))

module _ (laid : SnapshotValue) (recent : Recent) (ids : List ℕ) (rows : List DocRow) (ids_are : ids ≡ recent.named.keys) (rows_are : rows ≡ values_of recent.rows.entries) (ordered : IsOrdered nat_cmp recent.rows) (own : Owns recent) where
  -- the ids whose rows are gone are those that are out
  out_is : (id : ℕ) → out recent.cleared ids id ≡ is_gone recent id
  out_is id = elim recent.cleared as (λ (b : Bool). named (removals b ids) id ≡ (b || contains nat_cmp recent.named id)) [
    | true ↦ refl
    | false ↦ named_in ids id ∙ ap (list_any (λ n. n == id)) ids_are ∙ sym (set_has recent.named id)
  ]

  module _ (schema : Schema) (chunks : List LayerValue) (through : ℕ) (each : AreRowsAt schema through recent.rows) where
    found : (id : ℕ) → find (λ row. row.doc.id == id) rows ≡ get nat_cmp recent.rows id
    found id = ap (find (λ row. row.doc.id == id)) rows_are ∙ values_found schema through id recent.rows.entries (entries_at schema through recent.rows ordered each)

    gone_values : (es : List (ℕ × DocRow)) → All (λ e. is_gone recent e.1.doc.id ≡ true) es → All (λ row. out recent.cleared ids row.doc.id ≡ true) (values_of es)
    gone_values [] all = All-nil (λ (row : DocRow). out recent.cleared ids row.doc.id ≡ true)
    gone_values (e ∷ es) all =
        All-cons (λ (row : DocRow). out recent.cleared ids row.doc.id ≡ true) e.1 (values_of es)
        (out_is e.1.doc.id ∙ All-head (λ (e : ℕ × DocRow). is_gone recent e.1.doc.id ≡ true) e es all)
        (gone_values es (All-tail (λ (e : ℕ × DocRow). is_gone recent e.1.doc.id ≡ true) e es all))

    own_all : All (λ row. out recent.cleared ids row.doc.id ≡ true) rows
    own_all =
        subst (All (λ (row : DocRow). out recent.cleared ids row.doc.id ≡ true)) (sym rows_are)
        (gone_values recent.rows.entries (λ k d h.
        let e = get_or recent.rows.entries k d in
        ap (is_gone recent) (entries_at schema through recent.rows ordered each k d h).id_is
        ∙ own e.0 (ap is_some (All-found nat_cmp_total recent.rows ordered k d h))))

    -- the new layers are those of a snapshot
    pub sound : AreLayers laid.layers → IsContent rows → length (next_layers recent.cleared ids laid.layers rows) < 2 ^ 16 → length (all_living (next_layers recent.cleared ids laid.layers rows)) < 2 ^ 32 → AreLayers (next_layers recent.cleared ids laid.layers rows)
    sound are content few many = next_sound recent.cleared ids laid.layers rows are content own_all few many

    pub row_is : (next : SnapshotValue) → next.layers ≡ next_layers recent.cleared ids laid.layers rows → (id : ℕ) → finite.get (live next) id ≡ row_over recent laid id
    row_is next layers id =
        ap (λ (l : List LayerValue). finite.get (rows_of (all_living l)) id) layers
        ∙ next_row recent.cleared ids laid.layers rows id (λ some. out_is id ∙ own id (ap is_some (sym (found id)) ∙ some))
        ∙ ap (λ o. option_or o (cond (out recent.cleared ids id) None (finite.get (live laid) id))) (found id)
        ∙ ap (λ b. option_or (get nat_cmp recent.rows id) (cond b None (finite.get (live laid) id))) (out_is id)

    pub of_next : (next : SnapshotValue) → next.layers ≡ next_layers recent.cleared ids laid.layers rows → IsLaid schema chunks through laid → AreOf schema next
    of_next next layers is =
        subst (All (λ (layer : LayerValue). AreRowsOf schema layer.rows)) (sym layers)
        (All-append (λ (layer : LayerValue). AreRowsOf schema layer.rows) (left_layers recent.cleared ids laid.layers) (layers_of rows)
        (left_all (λ (layer : LayerValue). AreRowsOf schema layer.rows) (λ changes layer of. of) recent.cleared ids laid.layers is.of)
        (new_layer (λ (layer : LayerValue). AreRowsOf schema layer.rows) rows (subst (AreRowsOf schema) (sym rows_are) (rows_of_schema schema through recent.rows ordered each))))

    pub of_one : (next : SnapshotValue) → next.layers ≡ next_layers recent.cleared ids laid.layers rows → IsSchema schema → IsLaid schema chunks through laid → AreOfOne (all_living next.layers)
    of_one next layers limits is = record { schema = schema; limits = limits; docs = docs_of schema next.layers (of_next next layers is) }

    -- a row of it is on the disk where it was, and wasn't named
    placed : (id : ℕ) (o other : Option DocRow) (b d : Bool) (row : DocRow) → IfSome o (IsRowAt schema through id) → (is_some o ≡ true → b ≡ true) → ((row : DocRow) → other ≡ Some row → d ≡ not (nat_lt through row.born)) → option_or o (cond b None other) ≡ Some row
        → (d && not b) ≡ not (nat_lt through row.born)
    placed id None other true d row its owns old is = absurd (cc (is))
    placed id None other false d row its owns old is = and_true d ∙ old row is
    placed id (Some own) other b d row its owns old is =
        let same : own ≡ row = cc is in
        ap (λ (c : Bool). d && not c) (owns refl) ∙ and_false d ∙ sym (ap not (lt-ltb through row.born (subst (λ (r : DocRow). through < r.born) same its.newer)))

    -- they are laid, also once the last of them are put together
    pub laid_on : (next after : SnapshotValue) → next.layers ≡ next_layers recent.cleared ids laid.layers rows → next.shape ≡ laid.shape → IsLaid schema chunks through laid → MayMerge next after → AreLayers after.layers → AreApart (all_living next.layers) → IsLaid schema chunks through after
    laid_on next after layers shape is joins are apart =
        let put : next.layers ≡ layers_after (removals recent.cleared ids) rows laid.layers = layers ∙ next_after recent.cleared ids laid.layers rows in
        let disk : disk_layers after ≡ disk_layers next = disk_joined next.layers after.layers joins.joins in
        record {
          shape_is = joins.shape ∙ shape ∙ is.shape_is;
          chunks_are = ap (map (λ (layer : LayerValue). layer.rows)) disk ∙ chunks_stay (removals recent.cleared ids) rows laid next put ∙ is.chunks_are;
          places = λ id row there.
              ap (λ (ls : List LayerValue). list_any (λ row. row.doc.id == id) (all_living ls)) disk
              ∙ disk_left (removals recent.cleared ids) rows laid next put id
              ∙ ap (λ (b : Bool). on_disk laid id && not b) (out_is id)
              ∙ placed id (get nat_cmp recent.rows id) (finite.get (live laid) id) (is_gone recent id) (on_disk laid id) row (each id) (own id) (is.places id)
              (sym (row_is next layers id) ∙ ap (λ m. finite.get m id) (sym (live_joined next after joins apart)) ∙ there);
          of = of_joined schema next.layers after.layers (of_next next layers is) are joins.joins;
        }

    pub row_after_joins : (next after : SnapshotValue) → next.layers ≡ next_layers recent.cleared ids laid.layers rows → MayMerge next after → AreApart (all_living next.layers) → (id : ℕ) → finite.get (live after) id ≡ row_over recent laid id
    row_after_joins next after layers joins apart id = ap (λ m. finite.get m id) (live_joined next after joins apart) ∙ row_is next layers id

-- a piece over what was laid
module _ (schema : Schema) (chunks : List LayerValue) (through : ℕ) (front records : List LogRecord) (laid : SnapshotValue) (piece : Piece) (ids : List ℕ) (ids_are : ids ≡ piece.named.items) (is : IsLaidOf schema chunks through front laid) (of : IsPiece schema through records piece) where
  keys_are : ids ≡ of.recent.named.keys
  keys_are = ids_are ∙ of.made.named_are

  pub piece_up : AllPairs (λ id later. id < later) ids
  piece_up = ids_up ids of.recent.named.keys keys_are of.made.ascend

  module _ (left layers : List LayerValue) (left_is : left ≡ left_layers piece.cleared ids laid.layers) (layers_are : layers ≡ left ++ layers_of (piece_rows piece)) where
    next_are : layers ≡ next_layers of.recent.cleared ids laid.layers (piece_rows piece)
    next_are = layers_are ∙ ap (λ (l : List LayerValue). l ++ layers_of (piece_rows piece)) left_is ∙ ap (λ b. next_layers b ids laid.layers (piece_rows piece)) of.made.cleared_is

    pub piece_sound : AreLayers laid.layers → length layers < 2 ^ 16 → length (all_living layers) < 2 ^ 32 → AreLayers layers
    piece_sound are few many =
        subst AreLayers (sym next_are)
        (sound laid of.recent ids (piece_rows piece) keys_are of.made.rows_are of.made.ordered of.taken.own schema chunks through of.taken.each are of.made.content
        (subst (λ (l : List LayerValue). length l < 2 ^ 16) next_are few) (subst (λ (l : List LayerValue). length (all_living l) < 2 ^ 32) next_are many))

    pub piece_of_one : IsSchema schema → (next : SnapshotValue) → next.layers ≡ layers → AreOfOne (all_living next.layers)
    piece_of_one limits next e = of_one laid of.recent ids (piece_rows piece) keys_are of.made.rows_are of.made.ordered of.taken.own schema chunks through of.taken.each next (e ∙ next_are) limits is.laid

    pub piece_laid : (next after : SnapshotValue) → next.layers ≡ layers → next.shape ≡ laid.shape → MayMerge next after → AreLayers after.layers → AreApart (all_living next.layers) → IsLaidOf schema chunks through (front ++ records) after
    piece_laid next after e shape joins are apart =
        laid_more schema chunks through front records of.recent laid after is of.taken
        (row_after_joins laid of.recent ids (piece_rows piece) keys_are of.made.rows_are of.made.ordered of.taken.own schema chunks through of.taken.each next after (e ∙ next_are) joins apart)
        (laid_on laid of.recent ids (piece_rows piece) keys_are of.made.rows_are of.made.ordered of.taken.own schema chunks through of.taken.each next after (e ∙ next_are) shape is.laid joins are apart)
