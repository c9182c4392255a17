-- the terms of a row: for each keyword, in the order of the text, what is known of it in the row
use Rattle.std.specs.Prelude.{◌≡◌, ◌<◌, ◌^◌, ℕ, List, true, All}
use Rattle.std.specs.List.{AllZip, filter}
use Rattle.doc_types.specs.declared.documents.DocRow.{DocRow}
use Rattle.doc_types.specs.Chunks.{has_word, hits_of}
use Rattle.query_tree.specs.declared.key.Key.{Key}
use Rattle.occ_lists.specs.declared.term.Term.{Term}
use Rattle.word_rows.specs.Keywords.{key_places, allows}

-- the term has the keyword's places in the row
pub record IsTermOf (row : DocRow) (number : List ℕ → ℕ) (key : Key) (term : Term) : Type 0 where
  pub query : term.query ≡ key.query
  pub word : term.word ≡ number key.word
  pub places : term.places.items ≡ key_places row key

-- the numbers of the terms' words are such as hits have: they fit 16 bits
abbrev pub AreShort : List Term → Type 0
AreShort terms = All (λ term. term.word < 2 ^ 16) terms

-- each word's number is such a one
abbrev pub IsShort : (List ℕ → ℕ) → Type 0
IsShort number = (word : List ℕ) → number word < 2 ^ 16

abbrev pub AreTermsOf : DocRow → (List ℕ → ℕ) → List Key → List Term → Type 0
AreTermsOf row number keys terms = AllZip (IsTermOf row number) keys terms

-- the term knows whether the row has the keyword's word; and where it is free, each place of the word is one of the keyword
pub record IsSeenIn (row : DocRow) (key : Key) (term : Term) : Type 0 where
  pub present : term.present ≡ has_word key.word row
  pub free : term.free ≡ true → filter (allows row key) (hits_of key.word row) ≡ hits_of key.word row

abbrev pub AreSeenIn : DocRow → List Key → List Term → Type 0
AreSeenIn row keys terms = AllZip (IsSeenIn row) keys terms
