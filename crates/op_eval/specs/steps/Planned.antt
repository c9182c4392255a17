-- plans that serve a query's tree, and its parts
use Rattle.std.specs.Prelude.{◌≡◌, ◌+◌, ℕ, List, [], ◌∷◌, Bool, false, slice_get}
use Rattle.std.specs.List.{flat_map, list_all}
use Rattle.std.specs.Option.{option_map_or}
use Rattle.doc_types.specs.declared.documents.DocRow.{DocRow}
use Rattle.doc_types.specs.Chunks.{has_word}
use Rattle.query_tree.specs.declared.key.Key.{Key}
use Rattle.query_tree.specs.declared.key.How.{How}
use Rattle.query_tree.specs.declared.query.Item.{Item}
use Rattle.query_tree.specs.declared.query.Node.{Node}
use Rattle.query_tree.specs.TreeKeys.{node_keys}
use Rattle.word_rows.specs.Keywords.{Spans}
use Rattle.op_eval.specs.Finding.{node_finds}
use Rattle.op_eval.specs.steps.Verdicts.{AreApart, item_passes, quoted_matches}
use Rattle.row_plans.specs.declared.plan.Plan.{Plan}
use Rattle.row_plans.specs.Plans.{holds}

-- the row has the word of the keyword of this number
abbrev pub has_key : DocRow → List Key → ℕ → Bool
has_key row keys n = option_map_or (λ key. has_word key.word row) (slice_get keys n) false

-- A row whose words aren't as the plan wants doesn't match the tree.
abbrev pub Serves : Plan → Node → Type 0
Serves plan root = (row : DocRow) (number : List ℕ → ℕ) → AreApart number (node_keys root) → holds (has_key row (node_keys root)) plan ≡ false → (spans : Spans) → (node_finds row number root spans).matches ≡ false

-- ---- the parts of the tree

-- of these keywords, which have the numbers from this one on, only such are denied as have a word that the row hasn't
abbrev pub AreKnown : (ℕ → Bool) → DocRow → ℕ → List Key → Type 0
AreKnown has row n [] = Unit {0}
AreKnown has row n (key ∷ keys) = (has n ≡ false → has_word key.word row ≡ false) × AreKnown has row (n + 1) keys

-- where the plan doesn't hold of the words of a row, this is so of it within no spans
abbrev pub Denies : Plan → ℕ → List Key → (DocRow → (List ℕ → ℕ) → Spans → Bool) → Type 0
Denies plan first keys matches =
    (row : DocRow) (number : List ℕ → ℕ) (has : ℕ → Bool) → AreApart number keys → AreKnown has row first keys → holds has plan ≡ false → (spans : Spans) → matches row number spans ≡ false

-- of a node
abbrev pub ServesFrom : Plan → ℕ → Node → Type 0
ServesFrom plan first node = Denies plan first (node_keys node) (λ row number spans. (node_finds row number node spans).matches)

-- of the items of an AND
abbrev pub ServesItems : Plan → ℕ → List Item → Type 0
ServesItems plan first items = Denies plan first (flat_map (λ item. node_keys item.node) items) (λ row number spans. list_all (item_passes row number spans) items)

-- of quoted keywords
abbrev pub ServesQuoted : Plan → ℕ → List Key → How → Type 0
ServesQuoted plan first keys how = Denies plan first keys (λ row number spans. quoted_matches row number keys how spans)
