-- Words whose positions ascend: they can be searched by halves.
use Rattle.std.specs.Prelude.{◌<◌, List, AllPairs}
use Rattle.doc_types.specs.declared.tokens.TokenWord.{TokenWord}

-- each word stands before all later ones
abbrev pub AreSorted : List TokenWord → Type 0
AreSorted words = AllPairs (λ word later. word.position < later.position) words
