-- The flags of nodes, by those of their parts.
use Rattle.std.proofs.Common.{◌≡◌, ℕ, Bool, true, false, ◌&&◌, ◌||◌, List, [], ◌∷◌, map, IfOk, Result, Ok, Err, refl, sym, ap, ◌∙◌}
use Rattle.std.specs.Prelude.{if◌then◌else◌, not}
use Rattle.std.specs.List.{list_all}
use Rattle.srch_base.specs.declared.faults.NoMemory.{NoMemory}
use Rattle.doc_types.specs.declared.documents.DocRow.{DocRow}
use Rattle.query_tree.specs.declared.key.Key.{Key}
use Rattle.query_tree.specs.declared.query.Item.{Item}
use Rattle.query_tree.specs.declared.query.Node.{Node}
use Rattle.query_tree.specs.declared.query.Node.TheVariants as nodes
use Rattle.word_rows.specs.Keywords.{key_places}
use Rattle.op_eval.specs.Finding.{Found, is_some, node_finds, passes}
use Rattle.op_eval.specs.steps.Verdicts.{item_passes}
use Rattle.op_eval.proofs.Nodes.{finds_and, finds_maybe, finds_or, finds_word, part_within}
use Rattle.op_eval.proofs.NodeParts.{all_matches, perhaps_matches}
use Rattle.op_eval.proofs.Standing.{filter_always}
use Rattle.row_flags.specs.steps.Flags.{AreFlags, all_pass, has_place, node_matches}

-- what is told of flags, of other ones
pub told_then : (P Q : Type 0) (result : Result Bool NoMemory) → (P → Q) → IfOk result (λ told. told ≡ true → P) → IfOk result (λ told. told ≡ true → Q)
told_then P Q (Ok told) leads so = λ is. leads (so is)
told_then P Q (Err error) leads so = tt

-- flags that tell the same of each row
pub flags_alike : (p q : DocRow → Bool) (rows : List DocRow) (from : ℕ) (flags : List Bool) → ((row : DocRow) → p row ≡ q row) → AreFlags p rows from flags → AreFlags q rows from flags
flags_alike p q rows from flags same are = λ i row d within there. are i row d within there ∙ same row

module _ (number : List ℕ → ℕ) where
  word_matches : (key : Key) (row : DocRow) → has_place key row ≡ node_matches number (nodes.Word key) row
  word_matches key row =
      sym (ap (λ (found : Found). found.matches) (finds_word row number key []) ∙ ap (λ places. is_some places) (filter_always (key_places row key)))

  pub word_flags : (node : Node) (key : Key) (rows : List DocRow) (from : ℕ) (flags : List Bool) → node ≡ nodes.Word key → AreFlags (has_place key) rows from flags → AreFlags (node_matches number node) rows from flags
  word_flags node key rows from flags is are =
      flags_alike (has_place key) (node_matches number node) rows from flags (λ row. word_matches key row ∙ ap (λ (its : Node). node_matches number its row) (sym is)) are

  either_matches : (a b : Node) (row : DocRow) → (node_matches number a row || node_matches number b row) ≡ node_matches number (nodes.Or a b) row
  either_matches a b row = sym (ap (λ (found : Found). found.matches) (finds_or row number a b []))

  pub or_flags : (node a b first second : Node) (rows : List DocRow) (from : ℕ) (flags : List Bool) → node ≡ nodes.Or a b → first ≡ a → second ≡ b
      → AreFlags (λ row. node_matches number first row || node_matches number second row) rows from flags → AreFlags (node_matches number node) rows from flags
  or_flags node a b first second rows from flags is one other are =
      flags_alike (λ row. node_matches number first row || node_matches number second row) (node_matches number node) rows from flags
      (λ row. ap (λ (its : Node). node_matches number its row || node_matches number second row) one
      ∙ ap (λ (its : Node). node_matches number a row || node_matches number its row) other
      ∙ either_matches a b row
      ∙ ap (λ (its : Node). node_matches number its row) (sym is)) are

  left_matches : (a b : Node) (row : DocRow) → node_matches number a row ≡ node_matches number (nodes.Maybe a b) row
  left_matches a b row = sym (ap (λ (found : Found). found.matches) (finds_maybe row number a b []) ∙ perhaps_matches (node_finds row number a []) (node_finds row number b []))

  pub maybe_flags : (node a b first : Node) (rows : List DocRow) (from : ℕ) (flags : List Bool) → node ≡ nodes.Maybe a b → first ≡ a → AreFlags (node_matches number first) rows from flags → AreFlags (node_matches number node) rows from flags
  maybe_flags node a b first rows from flags is one are =
      flags_alike (node_matches number first) (node_matches number node) rows from flags
      (λ row. ap (λ (its : Node). node_matches number its row) one ∙ left_matches a b row ∙ ap (λ (its : Node). node_matches number its row) (sym is)) are

  -- ---- items
  parts_pass : (items : List Item) (row : DocRow) → all_pass number items row ≡ list_all passes (map (part_within row number []) items)
  parts_pass [] row = refl
  parts_pass (item ∷ items) row = ap (λ b. item_passes row number [] item && b) (parts_pass items row)

  items_match : (items : List Item) (row : DocRow) → all_pass number items row ≡ node_matches number (nodes.And items) row
  items_match items row = parts_pass items row ∙ sym (ap (λ (found : Found). found.matches) (finds_and row number items []) ∙ all_matches (map (part_within row number []) items))

  pub and_flags : (node : Node) (items list : List Item) (rows : List DocRow) (from : ℕ) (flags : List Bool) → node ≡ nodes.And items → list ≡ items → AreFlags (all_pass number list) rows from flags → AreFlags (node_matches number node) rows from flags
  and_flags node items list rows from flags is same are =
      flags_alike (all_pass number list) (node_matches number node) rows from flags
      (λ row. ap (λ (its : List Item). all_pass number its row) same ∙ items_match items row ∙ ap (λ (its : Node). node_matches number its row) (sym is)) are

  passes_by : (item : Item) (row : DocRow) (b : Bool) → item.negated ≡ b → (if not b then node_matches number item.node row else not (node_matches number item.node row)) ≡ item_passes row number [] item
  passes_by item row true is = sym (ap (λ b. if b then not (node_matches number item.node row) else node_matches number item.node row) is)
  passes_by item row false is = sym (ap (λ b. if b then not (node_matches number item.node row) else node_matches number item.node row) is)
