-- The documents that a number stands for.
use Rattle.std.specs.Prelude.{ℕ, zero, suc, ◌+◌, ◌*◌, ◌/◌, ◌%◌, List, [], ◌∷◌}
use Rattle.self_test.specs.declared.generator.Document.{Document}

-- the generator's number after this one
abbrev pub next : ℕ → ℕ
next x = (x * 1103515245 + 12345) % 2147483648

-- the draw of a number of the generator
abbrev pub drawn : ℕ → ℕ
drawn x = x / 65536 % 32768

-- the generator's number after the five draws of a document
abbrev pub after_document : ℕ → ℕ
after_document x = next (next (next (next (next x))))

-- The document after this number of the generator: four draws are the words of its title, and a fifth is its group.
abbrev pub document_from : ℕ → Document
document_from x = record {
  title = drawn (next x) % 50 ∷ drawn (next (next x)) % 50 ∷ drawn (next (next (next x))) % 50 ∷ drawn (next (next (next (next x)))) % 50 ∷ [];
  gid = drawn (after_document x) % 5;
}

-- so many documents from a number on
abbrev pub documents_from : ℕ → ℕ → List Document
documents_from x zero = []
documents_from x (suc docs) = document_from x ∷ documents_from (after_document x) docs
