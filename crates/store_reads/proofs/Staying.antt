-- Layers of which rows died, and one more: the chunks on the disk stay, and an id lives on there exactly where it did and isn't named.
use Rattle.std.proofs.Common.{◌≡◌, ℕ, List, [], ◌∷◌, ◌++◌, map, Bool, true, false, cond, ◌==◌, ◌||◌, ◌&&◌, not, nat_lt, length, refl, sym, ◌∙◌, ap}
use Rattle.std.specs.List.{filter, list_any}
use Rattle.std.proofs.lemmas.List.{append-nil}
use Rattle.std.proofs.lemmas.List.Elements.{filter-append}
use Rattle.doc_types.specs.declared.documents.DocRow.{DocRow}
use Rattle.doc_types.specs.Commits.{Change}
use Rattle.doc_types.specs.Snapshots.{LayerValue, SnapshotValue, all_living, living}
use Rattle.layer_commit.specs.Commits.{is_kept, layer_after, layers_after, layers_of, named}
use Rattle.layer_commit.proofs.Lives.{living_with}
use Rattle.layer_commit.proofs.RowMaps.{equal, true_false}
use Rattle.step_history.specs.Places.{disk_chunks, disk_layers, on_disk}

abbrev those_on_disk : List LayerValue → List LayerValue
those_on_disk layers = filter (λ layer. layer.disk) layers

-- one layer, which is kept where it is on the disk
one : (b n : Bool) (x : LayerValue) (kept : List LayerValue) → x.disk ≡ b → those_on_disk (cond (b || n) (x ∷ kept) kept) ≡ cond b (x ∷ those_on_disk kept) (those_on_disk kept)
one true n x kept is = ap (λ (c : Bool). cond c (x ∷ those_on_disk kept) (those_on_disk kept)) is
one false true x kept is = ap (λ (c : Bool). cond c (x ∷ those_on_disk kept) (those_on_disk kept)) is
one false false x kept is = refl

map_cond : (f : LayerValue → LayerValue) (b : Bool) (x : LayerValue) (xs : List LayerValue) → cond b (f x ∷ map f xs) (map f xs) ≡ map f (cond b (x ∷ xs) xs)
map_cond f true x xs = refl
map_cond f false x xs = refl

kept_on_disk : (changes : List Change) (layers : List LayerValue) → those_on_disk (filter is_kept (map (layer_after changes) layers)) ≡ map (layer_after changes) (those_on_disk layers)
kept_on_disk changes [] = refl
kept_on_disk changes (layer ∷ layers) =
    one layer.disk (nat_lt 0 (length (living (layer_after changes layer)))) (layer_after changes layer) (filter is_kept (map (layer_after changes) layers)) refl
    ∙ ap (λ (l : List LayerValue). cond layer.disk (layer_after changes layer ∷ l) l) (kept_on_disk changes layers)
    ∙ map_cond (layer_after changes) layer.disk layer (those_on_disk layers)

put_on_disk : (put : List DocRow) → those_on_disk (layers_of put) ≡ []
put_on_disk [] = refl
put_on_disk (row ∷ put) = refl

-- the layers on the disk are those that were, with the rows that died
disk_after : (changes : List Change) (put : List DocRow) (old new : SnapshotValue) → new.layers ≡ layers_after changes put old.layers → disk_layers new ≡ map (layer_after changes) (disk_layers old)
disk_after changes put old new is =
    ap those_on_disk is ∙ filter-append (λ (layer : LayerValue). layer.disk) (filter is_kept (map (layer_after changes) old.layers)) (layers_of put)
    ∙ ap (λ (l : List LayerValue). those_on_disk (filter is_kept (map (layer_after changes) old.layers)) ++ l) (put_on_disk put) ∙ append-nil (those_on_disk (filter is_kept (map (layer_after changes) old.layers))) ∙ kept_on_disk changes old.layers

same_rows : (changes : List Change) (layers : List LayerValue) → map (λ (layer : LayerValue). layer.rows) (map (layer_after changes) layers) ≡ map (λ (layer : LayerValue). layer.rows) layers
same_rows changes [] = refl
same_rows changes (layer ∷ layers) = ap (λ (l : List (List DocRow)). layer.rows ∷ l) (same_rows changes layers)

-- so the chunks are the same
pub chunks_stay : (changes : List Change) (put : List DocRow) (old new : SnapshotValue) → new.layers ≡ layers_after changes put old.layers → disk_chunks new ≡ disk_chunks old
chunks_stay changes put old new is = ap (λ (l : List LayerValue). map (λ (layer : LayerValue). layer.rows) l) (disk_after changes put old new is) ∙ same_rows changes (disk_layers old)

-- what lives of them are the rows that no change names
left_living : (changes : List Change) (layers : List LayerValue) → all_living (map (layer_after changes) layers) ≡ filter (λ row. not (named changes row.doc.id)) (all_living layers)
left_living changes [] = refl
left_living changes (layer ∷ layers) =
    ap (λ rows. rows ++ all_living (map (layer_after changes) layers)) (living_with (named changes) layer)
    ∙ ap (λ rows. filter (λ row. not (named changes row.doc.id)) (living layer) ++ rows) (left_living changes layers)
    ∙ sym (filter-append (λ (row : DocRow). not (named changes row.doc.id)) (living layer) (all_living layers))

and_false : (b : Bool) → (b && false) ≡ false
and_false true = refl
and_false false = refl

gone : (here any out : Bool) → (here ≡ true → out ≡ true) → (any && not out) ≡ ((here || any) && not out)
gone true any true h = and_false any
gone true any false h = absurd (true_false (sym (h refl)))
gone false any out h = refl

stays : (here any out : Bool) → (here ≡ true → out ≡ false) → (here || (any && not out)) ≡ ((here || any) && not out)
stays true any true h = absurd (true_false (h refl))
stays true any false h = refl
stays false any out h = refl

-- of rows of which those of some ids are left out, one has the id where one had it and it isn't left out
any_left : (out : ℕ → Bool) (id : ℕ) (rows : List DocRow) → list_any (λ row. row.doc.id == id) (filter (λ row. not (out row.doc.id)) rows) ≡ (list_any (λ row. row.doc.id == id) rows && not (out id))
any_left out id [] = refl
any_left out id (row ∷ rows) =
    elim (out row.doc.id) as (λ o. out row.doc.id ≡ o → list_any (λ row. row.doc.id == id) (cond (not o) (row ∷ filter (λ row. not (out row.doc.id)) rows) (filter (λ row. not (out row.doc.id)) rows)) ≡ (((row.doc.id == id) || list_any (λ row. row.doc.id == id) rows) && not (out id))) [
      | true ↦ λ is. any_left out id rows ∙ gone (row.doc.id == id) (list_any (λ row. row.doc.id == id) rows) (out id) (λ same. ap out (sym (equal row.doc.id id same)) ∙ is)
      | false ↦ λ is. ap (λ b. (row.doc.id == id) || b) (any_left out id rows) ∙ stays (row.doc.id == id) (list_any (λ row. row.doc.id == id) rows) (out id) (λ same. ap out (sym (equal row.doc.id id same)) ∙ is)
    ] refl

-- which ids live on the disk once the rows that changes name are gone
pub disk_left : (changes : List Change) (put : List DocRow) (old new : SnapshotValue) → new.layers ≡ layers_after changes put old.layers → (id : ℕ) → on_disk new id ≡ (on_disk old id && not (named changes id))
disk_left changes put old new is id =
    ap (λ layers. list_any (λ row. row.doc.id == id) (all_living layers)) (disk_after changes put old new is)
    ∙ ap (λ rows. list_any (λ row. row.doc.id == id) rows) (left_living changes (disk_layers old))
    ∙ any_left (named changes) id (all_living (disk_layers old))
