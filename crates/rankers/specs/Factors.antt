-- What a field gives to a ranking expression: numbers of its hits, all of them 0 where it has none.
use Rattle.std.specs.Prelude.{ℕ, List, Option, Some, None, min, fold, unwrap_or}
use Rattle.doc_types.specs.declared.hits.Hit.{Hit}
use Rattle.rankers.specs.declared.ranker.Factors.{Factors}
use Rattle.rankers.specs.Weight.{hit_count, word_count, lcs}

-- the lesser one of the least position so far and of the next one
abbrev pub earlier : Option ℕ → ℕ → Option ℕ
earlier None position = Some position
earlier (Some least) position = Some (min least position)

-- the least position with a hit
abbrev pub min_hit_pos : List Hit → ℕ
min_hit_pos hits = unwrap_or (fold (λ least hit. earlier least hit.position) None hits) 0

-- by the hits of the field alone
abbrev pub factors_of : List Hit → Factors
factors_of own = record { lcs = lcs own; hit_count = hit_count own; word_count = word_count own; min_hit_pos = min_hit_pos own }
