-- What `*` shows, attribute by attribute, with their places in the schema.
use Rattle.std.proofs.Common.{◌≡◌, ℕ, ◌+◌, ◌<◌, List, [], ◌∷◌, ◌++◌, length, get_or, take, map, sym, ap, ◌∙◌, append_assoc, arith}
use Rattle.std.specs.List.{enumerate_from}
use Rattle.std.proofs.lemmas.List.{take_more, length-take}
use Rattle.doc_types.specs.declared.schema.Schema.{Schema}
use Rattle.doc_types.specs.declared.schema.AttrKind.{AttrKind}
use Rattle.row_select.specs.declared.row.ColumnRef.TheVariants.{Id}
use Rattle.ql_columns.specs.Columns.{id_name}
use Rattle.ql_select.specs.declared.selection.Shown.{Shown}
use Rattle.ql_select.specs.Columns.{attr_shown, row_shown}

-- elements with their numbers, and one more
map_numbered : {X Y : Type 0} (f : ℕ × X → Y) (n : ℕ) (xs : List X) (x : X) → map f (enumerate_from n (xs ++ x ∷ [])) ≡ map f (enumerate_from n xs) ++ f (n + length xs, x) ∷ []
map_numbered f n [] x =
    let same : n ≡ n + 0 = omega arith in
    ap (λ k. f (k, x) ∷ []) same
map_numbered f n (y ∷ ys) x =
    let same : n + 1 + length ys ≡ n + length (y ∷ ys) = omega arith in
    ap (λ zs. f (n, y) ∷ zs) (map_numbered f (n + 1) ys x ∙ ap (λ k. map f (enumerate_from (n + 1) ys) ++ f (k, x) ∷ []) same)

map_more_numbered : {X Y : Type 0} (f : ℕ × X → Y) (xs : List X) (i : ℕ) (x : X) → i < length xs → x ≡ get_or xs i x → map f (enumerate_from 0 (take (i + 1) xs)) ≡ map f (enumerate_from 0 (take i xs)) ++ f (i, x) ∷ []
map_more_numbered f xs i x below is =
    let count : 0 + length (take i xs) ≡ i = omega (arith, length-take i xs) in
    ap (λ ys. map f (enumerate_from 0 ys)) (take_more xs i x below ∙ ap (λ y. take i xs ++ y ∷ []) (sym is))
    ∙ map_numbered f 0 (take i xs) x
    ∙ ap (λ k. map f (enumerate_from 0 (take i xs)) ++ f (k, x) ∷ []) count

-- what `*` shows, as far as one attribute more
pub shown_more : (schema : Schema) (start shown new : List Shown) (attr : List ℕ × AttrKind) (place : ℕ) → place < length schema.attrs → attr ≡ get_or schema.attrs place attr → shown ≡ start ++ row_shown schema id_name Id ∷ map (attr_shown schema) (enumerate_from 0 (take place schema.attrs)) → new ≡ shown ++ attr_shown schema (place, attr) ∷ [] → new ≡ start ++ row_shown schema id_name Id ∷ map (attr_shown schema) (enumerate_from 0 (take (place + 1) schema.attrs))
shown_more schema start shown new attr place below is before after =
    after ∙ ap (λ list. list ++ attr_shown schema (place, attr) ∷ []) before
    ∙ append_assoc start _ _
    ∙ ap (λ list. start ++ row_shown schema id_name Id ∷ list) (sym (map_more_numbered (attr_shown schema) schema.attrs place attr below is))
