-- Layers of which rows died, and a layer behind them: the snapshot once what is recent has a layer.
use Rattle.std.proofs.Common.{◌≡◌, ◌≢◌, ℕ, suc, ◌<◌, ◌^◌, List, [], ◌∷◌, ◌++◌, Bool, true, false, cond, ◌==◌, not, Option, Some, None, is_some, refl, sym, ◌∙◌, ap, subst, arith, append-nil, map, length, get_or, All}
use Rattle.std.specs.FinMap as finite
use Rattle.std.specs.List.{filter, find}
use Rattle.std.specs.Option.{option_or}
use Rattle.std.proofs.lemmas.List.Concat.{flat_map-append}
use Rattle.std.proofs.lemmas.List.Elements.{All-append, All-cons, All-filter, All-head, All-map, All-nil, All-tail, filter_passes}
use Rattle.std.proofs.lemmas.List.Folds.{find-append}
use Rattle.std.proofs.lemmas.List.Kept.{AllPairs-cons, AllPairs-filter}
use Rattle.doc_types.specs.declared.documents.DocRow.{DocRow}
use Rattle.doc_types.specs.Chunks.{IsContent}
use Rattle.doc_types.specs.Commits.{Change}
use Rattle.doc_types.specs.Rows.{rows_of}
use Rattle.doc_types.specs.Snapshots.{AreLayers, IsLayer, LayerValue, all_living, living}
use Rattle.layer_commit.specs.Commits.{is_kept, layer_after, layers_after, layers_of, named, removals}
use Rattle.layer_commit.proofs.DeadRows.{layer_is}
use Rattle.layer_commit.proofs.Lives.{living_after}
use Rattle.layer_commit.proofs.RowMaps.{dropped, get_rows, kept, true_false}
use Rattle.layer_joins.specs.Joins.{AreApart}
use Rattle.layer_joins.proofs.Upkeep.{living_of}

-- what is left of layers once all rows, or those of some ids, are gone
abbrev pub left_layers : Bool → List ℕ → List LayerValue → List LayerValue
left_layers cleared ids layers = layers_after (removals cleared ids) [] layers

-- the ids whose rows are gone
abbrev pub out : Bool → List ℕ → ℕ → Bool
out cleared ids id = named (removals cleared ids) id

-- a property of layers that rows' deaths leave is one of those that are left
pub left_all : (P : LayerValue → Type 0) → ((changes : List Change) (layer : LayerValue) → P layer → P (layer_after changes layer)) → (cleared : Bool) (ids : List ℕ) (layers : List LayerValue) → All P layers → All P (left_layers cleared ids layers)
left_all P stays cleared ids layers all =
    All-append P (filter is_kept (map (layer_after (removals cleared ids)) layers)) []
    (All-filter is_kept P (map (layer_after (removals cleared ids)) layers) (All-map P (layer_after (removals cleared ids)) layers (λ k d h. stays (removals cleared ids) (get_or layers k d) (all k d h))))
    (All-nil P)

-- the rows of them that live
left_living : (cleared : Bool) (ids : List ℕ) (layers : List LayerValue) → all_living (left_layers cleared ids layers) ≡ filter (λ row. not (out cleared ids row.doc.id)) (all_living layers)
left_living cleared ids layers = living_after (named (removals cleared ids)) layers [] ∙ append-nil (filter (λ row. not (named (removals cleared ids) row.doc.id)) (all_living layers))

pairs_append : (xs ys : List DocRow) → AreApart xs → AreApart ys → (P : DocRow → Type 0) → All P ys → All (λ row. (other : DocRow) → P other → row.doc.id ≢ other.doc.id) xs → AreApart (xs ++ ys)
pairs_append [] ys px py P all cross = py
pairs_append (x ∷ xs) ys px py P all cross =
    AllPairs-cons (λ (row other : DocRow). row.doc.id ≢ other.doc.id) x (xs ++ ys)
    (All-append (λ (other : DocRow). x.doc.id ≢ other.doc.id) xs ys (λ k d h. px 0 (suc k) d (omega arith) (omega (arith, h))) (λ k d h. All-head (λ (row : DocRow). (other : DocRow) → P other → row.doc.id ≢ other.doc.id) x xs cross (get_or ys k d) (all k d h)))
    (pairs_append xs ys (λ i j d l h. px (suc i) (suc j) d (omega (arith, l)) (omega (arith, h))) py P all (All-tail (λ (row : DocRow). (other : DocRow) → P other → row.doc.id ≢ other.doc.id) x xs cross))

not_out : (b : Bool) → not b ≡ true → b ≡ false
not_out true e = absurd (true_false (sym e))
not_out false e = refl

-- a layer of all of these rows, if there are some
pub new_layer : (P : LayerValue → Type 0) (rows : List DocRow) → P (record { rows = rows; disk = false; dead = [] }) → All P (layers_of rows)
new_layer P [] is = All-nil P
new_layer P (row ∷ rows) is = All-cons P (record { rows = row ∷ rows; disk = false; dead = [] }) [] is (All-nil P)

whole_is : (rows : List DocRow) → IsContent rows → IsLayer (record { rows = rows; disk = false; dead = [] })
whole_is rows content = record { content = content; ascend = λ i j d l h. absurd (omega (arith, h)); rows = All-nil (λ row. row < length rows) }

or_none : (o : Option DocRow) → option_or o None ≡ o
or_none None = refl
or_none (Some row) = refl

none_found : (o : Option DocRow) → is_some o ≡ false → o ≡ None
none_found None e = refl
none_found (Some row) e = absurd (true_false e)

module _ (cleared : Bool) (ids : List ℕ) (layers : List LayerValue) (rows : List DocRow) where
  abbrev pub next_layers : List LayerValue
  next_layers = left_layers cleared ids layers ++ layers_of rows

  pub next_living : all_living next_layers ≡ filter (λ row. not (out cleared ids row.doc.id)) (all_living layers) ++ rows
  next_living =
      flat_map-append living (left_layers cleared ids layers) (layers_of rows)
      ∙ ap (λ l. l ++ all_living (layers_of rows)) (left_living cleared ids layers)
      ∙ ap (λ l. filter (λ row. not (out cleared ids row.doc.id)) (all_living layers) ++ l) (living_of rows)

  -- they are what a commit leaves that removes those rows and puts these
  pub next_after : next_layers ≡ layers_after (removals cleared ids) rows layers
  next_after = ap (λ (l : List LayerValue). l ++ layers_of rows) (append-nil (filter is_kept (map (layer_after (removals cleared ids)) layers)))

  -- they are layers of a snapshot, where they aren't too many
  pub next_sound : AreLayers layers → IsContent rows → All (λ row. out cleared ids row.doc.id ≡ true) rows → length next_layers < 2 ^ 16 → length (all_living next_layers) < 2 ^ 32 → AreLayers next_layers
  next_sound are content named_all few many = record {
    each = All-append IsLayer (left_layers cleared ids layers) (layers_of rows) (left_all IsLayer (λ changes layer is. layer_is (named changes) layer is) cleared ids layers are.each) (new_layer IsLayer rows (whole_is rows content));
    distinct =
        subst AreApart (sym next_living)
        (pairs_append (filter (λ row. not (out cleared ids row.doc.id)) (all_living layers)) rows
        (AllPairs-filter (λ (row other : DocRow). row.doc.id ≢ other.doc.id) (λ row. not (out cleared ids row.doc.id)) (all_living layers) are.distinct)
        (λ i j d l h e. absurd (omega (arith, e, content.of.ids i j d l h)))
        (λ row. out cleared ids row.doc.id ≡ true) named_all
        (λ k d h other is e.
        true_false (sym is ∙ ap (out cleared ids) (sym e) ∙ not_out (out cleared ids (get_or (filter (λ row. not (out cleared ids row.doc.id)) (all_living layers)) k d).doc.id) (filter_passes (λ (row : DocRow). not (out cleared ids row.doc.id)) (all_living layers) k d h))));
    few_layers = few;
    few_rows = many;
  }

  -- the row of each id
  pub next_row : (id : ℕ) → (is_some (find (λ row. row.doc.id == id) rows) ≡ true → out cleared ids id ≡ true) → finite.get (rows_of (all_living next_layers)) id ≡ option_or (find (λ row. row.doc.id == id) rows) (cond (out cleared ids id) None (finite.get (rows_of (all_living layers)) id))
  next_row id own =
      get_rows (all_living next_layers) id
      ∙ ap (find (λ row. row.doc.id == id)) next_living
      ∙ find-append (λ (row : DocRow). row.doc.id == id) (filter (λ row. not (out cleared ids row.doc.id)) (all_living layers)) rows
      ∙ elim (out cleared ids id) as (λ b. out cleared ids id ≡ b → option_or (find (λ row. row.doc.id == id) (filter (λ row. not (out cleared ids row.doc.id)) (all_living layers))) (find (λ row. row.doc.id == id) rows) ≡ option_or (find (λ row. row.doc.id == id) rows) (cond b None (finite.get (rows_of (all_living layers)) id))) [
        | true ↦ λ e. ap (λ o. option_or o (find (λ row. row.doc.id == id) rows)) (dropped (out cleared ids) id (all_living layers) e) ∙ sym (or_none (find (λ row. row.doc.id == id) rows))
        | false ↦ λ e.
            let none : find (λ row. row.doc.id == id) rows ≡ None = none_found (find (λ row. row.doc.id == id) rows) (not_some (is_some (find (λ row. row.doc.id == id) rows)) (λ some. true_false (sym (own some) ∙ e))) in
            ap (option_or (find (λ row. row.doc.id == id) (filter (λ row. not (out cleared ids row.doc.id)) (all_living layers)))) none
            ∙ or_none (find (λ row. row.doc.id == id) (filter (λ row. not (out cleared ids row.doc.id)) (all_living layers)))
            ∙ kept (out cleared ids) id (all_living layers) e
            ∙ sym (get_rows (all_living layers) id)
            ∙ ap (λ o. option_or o (finite.get (rows_of (all_living layers)) id)) (sym none)
      ] refl
    where
      not_some : (b : Bool) → (b ≡ true → ⊥) → b ≡ false
      not_some true some = absurd (some refl)
      not_some false some = refl
