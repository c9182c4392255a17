-- What the nodes of a query find in a row (the manual of Sphinx, "Extended query syntax"): whether they match, their
-- occurrences, and their hits. Lists of occurrences and of hits stand here for sets. Where spans are in force, a position counts
-- only if each of them holds it.
use Rattle.std.specs.Prelude.{ℕ, ◌*◌, ◌^◌, List, [], ◌∷◌, ◌++◌, map, length, min, Bool, true, false, ◌||◌, not, nat_le, if◌then◌else◌}
use Rattle.std.specs.List.{filter, flat_map, list_any, list_all, count_by}
use Rattle.doc_types.specs.declared.documents.DocRow.{DocRow}
use Rattle.doc_types.specs.declared.hits.Hit.{Hit}
use Rattle.doc_types.specs.Chunks.{spans_of}
use Rattle.query_tree.specs.declared.key.Key.{Key}
use Rattle.query_tree.specs.declared.key.How.{How}
use Rattle.query_tree.specs.declared.key.How.TheVariants as hows
use Rattle.query_tree.specs.declared.query.Node.{Node}
use Rattle.query_tree.specs.declared.query.Node.TheOpen.{Node-F, Item-F}
use Rattle.query_tree.specs.declared.query.Node.TheFolds.{fold-Node}
use Rattle.occ_lists.specs.declared.occ.Occ.{Occ}
use Rattle.occ_lists.specs.Places.{at_place, holds}
use Rattle.occ_lists.specs.Joined.{before, near, together}
use Rattle.occ_lists.specs.Runs.{runs}
use Rattle.occ_lists.specs.Windows.{windows}
use Rattle.word_rows.specs.Keywords.{Spans, places_within, sentence_ends, paragraph_ends, is_among}

pub record Found : Type 0 where
  pub matches : Bool
  pub occurrences : List Occ
  pub hits : List Hit

-- a node that doesn't match has no occurrences and no hits
abbrev pub nothing : Found
nothing = record { matches = false; occurrences = []; hits = [] }

-- there is some element
abbrev pub is_some : {X : Type 0} → List X → Bool
is_some [] = false
is_some (x ∷ xs) = true

-- ---- keywords, and those that are quoted together

-- the hits of a keyword: one at each of its places
abbrev pub hits_at : (List ℕ → ℕ) → Key → List (ℕ × ℕ) → List Hit
hits_at number key places = map (λ p. record { query = key.query; word = number key.word; field = p.0; position = p.1 }) places

-- a keyword: its places, each an occurrence and a hit
abbrev pub keyword : (List ℕ → ℕ) → Key → List (ℕ × ℕ) → Found
keyword number key places = record { matches = is_some places; occurrences = map at_place places; hits = hits_at number key places }

-- the hit lies inside one of the occurrences
abbrev pub is_inside : List Occ → Hit → Bool
is_inside occs hit = list_any (λ o. holds o (hit.field, hit.position)) occs

-- What is found where occurrences are made of others: it matches where there is one, and those hits are kept that lie inside one
-- of them.
abbrev pub made : List Occ → List Hit → Found
made occs hits = record { matches = is_some occs; occurrences = occs; hits = filter (is_inside occs) hits }

-- so many of n listed keywords are enough: for `/k` k of them, or all where k is above n; for `/0.d` that share
abbrev pub is_enough : How → ℕ → ℕ → Bool
is_enough (hows.AtLeast k) n matched = nat_le (min k n) matched
is_enough (hows.Share digits places) n matched = nat_le (digits * n) (matched * (10 ^ places))
is_enough _ n matched = false

-- a quorum: each place of each keyword, where enough of them have one
abbrev pub quorum : (Key → List (ℕ × ℕ)) → List Key → How → List Hit → Found
quorum places keys how hits =
    if is_enough how (length keys) (count_by (λ key. is_some (places key)) keys)
    then record { matches = true; occurrences = map at_place (flat_map places keys); hits = hits }
    else nothing

-- keywords that are quoted together, by how they are asked for
abbrev pub quoted : (List ℕ → ℕ) → (Key → List (ℕ × ℕ)) → List Key → How → List Hit → Found
quoted number places keys hows.Phrase hits = made (runs (map places keys)) hits
quoted number places keys (hows.Within n) hits = made (windows n (map (λ key. record { word = number key.word; places = places key }) keys)) hits
quoted number places keys how hits = quorum places keys how hits

-- ---- nodes over others

-- two parts joined by an operator on occurrences
abbrev pub joined : (List Occ → List Occ → List Occ) → Found → Found → Found
joined join a b = made (join a.occurrences b.occurrences) (a.hits ++ b.hits)

-- either of two
abbrev pub either : Found → Found → Found
either a b = record { matches = a.matches || b.matches; occurrences = a.occurrences ++ b.occurrences; hits = a.hits ++ b.hits }

-- `a MAYBE b`: it matches where a does, and then has what both find
abbrev pub perhaps : Found → Found → Found
perhaps a b = if a.matches then either a b else nothing

-- An item of an AND: whether it is negated, and what its node finds.
pub record Part : Type 0 where
  pub negated : Bool
  pub found : Found

-- a negated item asks that its node doesn't match
abbrev pub passes : Part → Bool
passes part = if part.negated then not part.found.matches else part.found.matches

-- each item passes; what is found is that of those that aren't negated
abbrev pub all_of : List Part → Found
all_of parts =
    if list_all passes parts
    then record {
      matches = true;
      occurrences = flat_map (λ part. part.found.occurrences) (filter (λ part. not part.negated) parts);
      hits = flat_map (λ part. part.found.hits) (filter (λ part. not part.negated) parts);
    }
    else nothing

-- some of these, and what each finds
abbrev pub any_of : List Found → Found
any_of founds = record {
  matches = list_any (λ f. f.matches) founds;
  occurrences = flat_map (λ f. f.occurrences) founds;
  hits = flat_map (λ f. f.hits) founds;
}

-- ---- the tree

-- an item of an AND, before it is told which spans are in force
pub record SpannedPart : Type 0 where
  pub negated : Bool
  pub found : Spans → Found

-- the spans of the row that are of these zones
abbrev pub spans_in : DocRow → List ℕ → Spans
spans_in row zones = filter (λ span. is_among zones span.1.zone) (spans_of row)

-- What a node finds within the spans in force. ZONESPAN looks within each single span of its zones.
abbrev pub node_step : DocRow → (List ℕ → ℕ) → Node-F (Spans → Found) SpannedPart → Spans → Found
node_step row number (Node-F.Word key) spans = keyword number key (places_within row spans key)
node_step row number (Node-F.Quoted keys how) spans =
    quoted number (places_within row spans) keys how (flat_map (λ key. hits_at number key (places_within row spans key)) keys)
node_step row number (Node-F.And items) spans = all_of (map (λ item. record { negated = item.negated; found = item.found spans }) items)
node_step row number (Node-F.Or a b) spans = either (a spans) (b spans)
node_step row number (Node-F.Maybe a b) spans = perhaps (a spans) (b spans)
node_step row number (Node-F.Before a b) spans = joined before (a spans) (b spans)
node_step row number (Node-F.Near n a b) spans = joined (near n) (a spans) (b spans)
node_step row number (Node-F.Sentence a b) spans = joined (together (sentence_ends row)) (a spans) (b spans)
node_step row number (Node-F.Paragraph a b) spans = joined (together (paragraph_ends row)) (a spans) (b spans)
node_step row number (Node-F.ZoneSpan zones a) spans = any_of (map (λ span. a (spans ++ span ∷ [])) (spans_in row zones))

abbrev pub item_step : Item-F (Spans → Found) SpannedPart → SpannedPart
item_step item = record { negated = item.negated; found = item.node }

unfoldable pub node_finds : DocRow → (List ℕ → ℕ) → Node → Spans → Found
node_finds row number = fold-Node (Spans → Found) SpannedPart (node_step row number) item_step
