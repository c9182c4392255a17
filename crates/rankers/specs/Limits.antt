-- Hits that are of so many keywords at most.
use Rattle.std.specs.Prelude.{◌≡◌, ℕ, List, nat_eq, true, All}
use Rattle.std.specs.Set.{is_member}
use Rattle.doc_types.specs.declared.hits.Hit.{Hit}

-- each hit is of one of these query positions
abbrev pub AreOfPositions : List ℕ → List Hit → Type 0
AreOfPositions positions hits = All (λ hit. is_member nat_eq positions hit.query ≡ true) hits
