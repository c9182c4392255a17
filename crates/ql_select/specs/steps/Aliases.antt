-- The aliases of a list, as a map from them to the places of the first items that have them.
use Rattle.std.specs.Prelude.{◌≡◌, ℕ, List, Bool, Option}
use Rattle.std.specs.Borrow.{Bor}
use Rattle.std.specs.BTreeMap.{BTreeMap, get_by}
use Rattle.std.specs.Cmp.Lexicographic.{slice_cmp}
use Rattle.std.specs.Ordering.{nat_cmp}
use Rattle.ql_tree.specs.declared.select.SelectItem.{SelectItem}
use Rattle.ql_select.specs.Names.{aliased}

-- what a map has for a name
abbrev pub place_in : BTreeMap (Bor (List ℕ)) ℕ → List ℕ → Option ℕ
place_in map name = get_by (λ alias. slice_cmp nat_cmp name alias.now) map

-- a map has for each name the place of the first item with this alias
abbrev pub HasAliases : Bool → BTreeMap (Bor (List ℕ)) ℕ → List SelectItem → Type 0
HasAliases rows map list = (name : List ℕ) → place_in map name ≡ aliased rows list name
