-- The texts of a host's files: what is known of them, and what is read.
use Rattle.std.specs.Prelude.{◌≡◌, ⊤, ℕ, ◌+◌, List, Option, Some, None, take}

-- what is known of the texts of a host's files
abbrev pub Texts : Type 0
Texts = List ℕ → Option (List ℕ)

-- These bytes were read of a text, up to a limit: all of it, or the limit and one byte more. Where the text isn't known they
-- may be any.
abbrev pub AreReadOf : Option (List ℕ) → ℕ → List ℕ → Type 0
AreReadOf None limit bytes = ⊤
AreReadOf (Some text) limit bytes = bytes ≡ take (limit + 1) text
