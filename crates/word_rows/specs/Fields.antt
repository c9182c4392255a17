-- Keywords of which a row's fields tell all: the fields in which such a keyword has a place are those that have its word and are
-- allowed.
use Rattle.std.specs.Prelude.{◌≡◌, ◌≤◌, ℕ, List, [], false, ◌==◌}
use Rattle.std.specs.List.{list_any}
use Rattle.doc_types.specs.declared.tokens.TheConstants.{MAX_POSITION}
use Rattle.query_tree.specs.declared.key.Key.{Key}
use Rattle.word_rows.specs.Keywords.{has_field}

-- the keyword's limits and marks look at nothing but the field of a place
pub record LooksAtFields (key : Key) : Type 0 where
  pub start : key.start ≡ false
  pub end : key.end ≡ false
  pub positions : MAX_POSITION ≤ key.limit.positions
  pub zones : key.limit.zones ≡ []

-- the fields whose bits are set are those in which one of the places is
abbrev pub AreFieldsOf : ℕ → List (ℕ × ℕ) → Type 0
AreFieldsOf fields places = (field : ℕ) → has_field fields field ≡ list_any (λ place. place.0 == field) places
