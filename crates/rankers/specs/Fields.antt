-- The fields in which a document has hits, as bits, and hits that are all of one keyword.
use Rattle.std.specs.Prelude.{◌≡◌, ℕ, ◌/◌, ◌%◌, ◌^◌, List, Bool, true, ◌==◌, All}
use Rattle.std.specs.List.{list_any}
use Rattle.doc_types.specs.declared.hits.Hit.{Hit}

-- the field's bit is set, the first field's being the lowest
abbrev pub has_bit : ℕ → ℕ → Bool
has_bit fields field = ((fields / (2 ^ field)) % 2) == 1

-- the fields whose bits are set are those that have a hit
abbrev pub AreFieldsOf : ℕ → List Hit → Type 0
AreFieldsOf fields hits = (field : ℕ) → has_bit fields field ≡ list_any (λ hit. hit.field == field) hits

-- each hit is of this query position and of this word
abbrev pub AreOfOne : ℕ → ℕ → List Hit → Type 0
AreOfOne query word hits = All (λ hit. (hit.query ≡ query) × (hit.word ≡ word)) hits

-- each hit lies in a field whose bit is set
abbrev pub AreInFields : ℕ → List Hit → Type 0
AreInFields fields hits = All (λ hit. has_bit fields hit.field ≡ true) hits
