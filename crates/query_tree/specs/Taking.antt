-- Which words a keyword takes: its own, and where it is a prefix each word that begins with its own.
use Rattle.std.specs.Prelude.{◌≡◌, ℕ, List, Bool, false, All, if◌then◌else◌, nat_eq}
use Rattle.std.specs.List.{starts_with}
use Rattle.std.specs.Str.{bytes_eq}
use Rattle.query_tree.specs.declared.key.Key.{Key}
use Rattle.query_tree.specs.declared.query.Query.{Query}
use Rattle.query_tree.specs.TreeKeys.{query_keys}

-- a word begins so, or is it
abbrev pub begins_so : List ℕ → List ℕ → Bool
begins_so word beginning = starts_with nat_eq word beginning

-- the keyword takes the word
abbrev pub takes : Key → List ℕ → Bool
takes key word = if key.prefix then begins_so word key.word else bytes_eq word key.word

-- none of its keywords is a prefix
abbrev pub HasNoPrefix : Query → Type 0
HasNoPrefix query = All (λ key. key.prefix ≡ false) (query_keys query)
