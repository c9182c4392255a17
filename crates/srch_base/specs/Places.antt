-- The bytes of a word, a name or a text, whether they lie in the value itself or in a `Vec`.
use Rattle.std.specs.Prelude.{ℕ, List}
use Rattle.srch_base.specs.declared.places.Storage.{Storage}
use Rattle.srch_base.specs.declared.places.Storage.TheVariants.{Inside, Outside}

abbrev pub bytes_in : Storage → List ℕ
bytes_in (Inside bytes) = bytes
bytes_in (Outside bytes) = bytes.items
