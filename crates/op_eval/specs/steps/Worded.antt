-- what keywords find by their terms
use Rattle.std.specs.Prelude.{ℕ, List, map, length, Bool, true, nat_lt, if◌then◌else◌}
use Rattle.std.specs.List.{filter, flat_map, count_by}
use Rattle.doc_types.specs.declared.hits.Hit.{Hit}
use Rattle.query_tree.specs.declared.key.How.{How}
use Rattle.query_tree.specs.declared.key.How.TheVariants as hows
use Rattle.occ_lists.specs.declared.term.Term.{Term}
use Rattle.occ_lists.specs.Places.{at_place, within_all}
use Rattle.occ_lists.specs.Runs.{runs}
use Rattle.occ_lists.specs.Windows.{windows}
use Rattle.occ_lists.specs.Terms.{listed_in}
use Rattle.word_rows.specs.Keywords.{Spans}
use Rattle.op_eval.specs.Finding.{Found, nothing, is_some, is_enough, made}

-- the places of a keyword inside the spans, and its hits there
abbrev pub term_places : Spans → Term → List (ℕ × ℕ)
term_places spans term = filter (within_all spans) term.places.items

abbrev pub term_hits : Spans → Term → List Hit
term_hits spans term = map (λ p. record { query = term.query; word = term.word; field = p.0; position = p.1 }) (term_places spans term)

-- how many of the keywords stand inside the spans
abbrev pub how_many : Spans → List Term → ℕ
how_many spans terms = count_by (λ term. is_some (term_places spans term)) terms

-- each place of each keyword is found
abbrev pub at_each : Spans → List Term → Bool → Found
at_each spans terms matches = record { matches = matches; occurrences = map at_place (flat_map (term_places spans) terms); hits = flat_map (term_hits spans) terms }

-- a keyword by itself
abbrev pub worded : Spans → List Term → Found
worded spans terms = at_each spans terms (nat_lt 0 (how_many spans terms))

-- keywords that are quoted together
abbrev pub quoted_by : Spans → List Term → How → Found
quoted_by spans terms hows.Phrase = made (runs (map (term_places spans) terms)) (flat_map (term_hits spans) terms)
quoted_by spans terms (hows.Within n) = made (windows n (listed_in spans terms)) (flat_map (term_hits spans) terms)
quoted_by spans terms how = if is_enough how (length terms) (how_many spans terms) then at_each spans terms true else nothing
