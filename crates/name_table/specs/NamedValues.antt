-- Values that stand for names.
use Rattle.std.specs.Prelude.{ℕ, List, [], ◌∷◌, Option, Some, None, if◌then◌else◌}
use Rattle.std.specs.Str.{bytes_eq}

-- the value of a word: the one that stands where the word stands among the names, and none where it isn't there
unfoldable pub value_named : {V : Type 0} → List (List ℕ) → List V → List ℕ → Option V
value_named [] values word = None
value_named (name ∷ names) [] word = None
value_named (name ∷ names) (value ∷ values) word = if bytes_eq name word then Some value else value_named names values word
