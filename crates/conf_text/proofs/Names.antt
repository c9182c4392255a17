-- Names in either case.
use Rattle.std.proofs.Common.{◌≡◌, ℕ, Bool, List, [], ◌∷◌, map, refl, ap}
use Rattle.std.specs.Prelude.{◌&&◌}
use Rattle.std.specs.Char.{to_ascii_lowercase}
use Rattle.std.specs.List.{list_all}
use Rattle.doc_types.specs.Schemas.{begins_name, goes_on_in_name}
use Rattle.conf_text.specs.Shapes.{is_name}

-- a test of changed elements is a changed test of the elements
pub list_all_map : {X Y : Type 0} (p : Y → Bool) (f : X → Y) (xs : List X) → list_all p (map f xs) ≡ list_all (λ x. p (f x)) xs
list_all_map p f [] = refl
list_all_map p f (x ∷ xs) = ap (λ b. p (f x) && b) (list_all_map p f xs)

-- a name by its first byte and the rest
pub name_is : (first : ℕ) (rest : List ℕ) → is_name (first ∷ rest) ≡ begins_name (to_ascii_lowercase first) && list_all (λ b. goes_on_in_name (to_ascii_lowercase b)) rest
name_is first rest = ap (λ b. begins_name (to_ascii_lowercase first) && b) (list_all_map goes_on_in_name to_ascii_lowercase rest)
