-- The hits of a query whose keywords have query positions: within the limits, and no two of one query position at one place.
use Rattle.std.proofs.Common.{◌≡◌, refl, sym, subst, ◌∙◌, ap, ℕ, ◌+◌, ◌<◌, ◌≤◌, ◌^◌, ◌⊎◌, ⊎_elim, Bool, true, false, List, length, map, get_or, slice_get, Some, None, Option, zero-add, arith}
use Rattle.std.specs.Prelude.{All, AllPairs, Any, Contains, IsTrue, option_map, if◌then◌else◌}
use Rattle.std.specs.List.{filter, range_with_len}
use Rattle.std.proofs.lemmas.Bool.Decides.{nat_tests}
use Rattle.std.proofs.lemmas.List.{get_or-map, get_or_default}
use Rattle.std.proofs.lemmas.List.Elements.{All-map, All-filter, All-weaker, All-contains, All-contains_itself, filter_passes}
use Rattle.std.proofs.lemmas.List.FromFn.{get_or-range_with_len}
use Rattle.std.proofs.lemmas.Option.{slice_get_within}
use Rattle.std.proofs.lemmas.Slice.Eq.{bytes_eq-Decides}
use Rattle.doc_types.specs.declared.documents.DocRow.{DocRow}
use Rattle.doc_types.specs.declared.hits.Hit.{Hit}
use Rattle.doc_types.specs.declared.schema.Schema.{Schema}
use Rattle.doc_types.specs.declared.tokens.FieldTokens.{FieldTokens}
use Rattle.doc_types.specs.declared.tokens.TokenWord.{TokenWord}
use Rattle.doc_types.specs.Documents.{IsField}
use Rattle.doc_types.specs.Chunks.{is_word, positions_of, hits_of}
use Rattle.query_tree.specs.declared.key.Key.{Key}
use Rattle.query_tree.specs.declared.query.Node.{Node}
use Rattle.query_tree.specs.declared.query.Query.{Query}
use Rattle.query_tree.specs.TreeKeys.{query_keys}
use Rattle.word_rows.specs.Keywords.{allows, key_places}
use Rattle.op_eval.specs.Matching.{number_in}
use Rattle.op_eval.specs.Hits.{AreHits, comes_before}
use Rattle.op_eval.specs.Numbered.{HasPositions, IsNumbered, IsWordAt, IsHitOf, IsHitWithin, AreTwoHits, AreHitsWithin}
use Rattle.op_eval.specs.Sentences.{joined_by_and, query_for}
use Rattle.op_eval.proofs.AndKeys.{node_keeps}
use Rattle.op_eval.proofs.KeywordHits.{IsKeyHit, hits_keyed}
use Rattle.word_rows.proofs.PlacedRows.{IsHit, IsPlacedField, IsPlacedRow, placed_field, all_parts, are_hits, at_one}

-- ---- an index's queries
keys_kept : (root : Option Node) (keywords : ℕ) → query_keys (record { root = option_map joined_by_and root; keywords = keywords }) ≡ query_keys (record { root = root; keywords = keywords })
keys_kept None keywords = refl
keys_kept (Some node) keywords = node_keeps node

pub numbers_kept : (schema : Schema) (query : Query) → IsNumbered query → IsNumbered (query_for schema query)
numbers_kept schema query numbered = by schema.sp
  where
    by : (sp : Bool) → IsNumbered (if sp then query else record query { root = option_map joined_by_and query.root })
    by true = numbered
    by false =
        let same = sym (keys_kept query.root query.keywords) in
        record {
          few = subst (λ keys. length keys ≤ 255) same numbered.few;
          count = numbered.count ∙ ap length same;
          numbers = subst (λ keys. map (λ (key : Key). key.query) keys ≡ range_with_len 1 (length keys)) same numbered.numbers;
        }

-- ---- keywords by their numbers
abbrev AreNumbered : List Key → Type 0
AreNumbered keys = map (λ (key : Key). key.query) keys ≡ range_with_len 1 (length keys)

at_number : (keys : List Key) (key : Key) (k : ℕ) → AreNumbered keys → k < length keys → get_or keys k key ≡ key → key.query ≡ 1 + k
at_number keys key k numbers within at =
    ap (λ (key : Key). key.query) (sym at)
    ∙ sym (get_or-map (λ (key : Key). key.query) keys k key 0 within)
    ∙ ap (λ list. get_or list k 0) numbers
    ∙ get_or-range_with_len 1 (length keys) k 0 within

pub have_positions : (query : Query) → IsNumbered query → HasPositions query
have_positions query numbered =
    let keys = query_keys query in record {
      few = omega (arith, numbered.count, numbered.few);
      short = omega (arith, numbered.few);
      count = omega (arith, numbered.count);
      within = λ k d low.
          let number : (get_or keys k d).query ≡ 1 + k = at_number keys (get_or keys k d) k numbered.numbers low (get_or_default keys k (get_or keys k d) d low) in
          (omega (arith, number), omega (arith, number, low, numbered.count));
    }

-- ---- where hits stand
pub words_stand : (row : DocRow) (key : Key) → All (IsWordAt row key.word) (key_places row key)
words_stand row key = All-filter (allows row key) (IsWordAt row key.word) (hits_of key.word row) (all_parts (IsWordAt row key.word) (positions_of key.word) row.doc.fields 0 in_field)
  where
    in_field : (k : ℕ) (tokens : FieldTokens) → slice_get row.doc.fields k ≡ Some tokens → All (λ p. IsWordAt row key.word (0 + k, p)) (positions_of key.word tokens)
    in_field k tokens at =
        All-map (λ p. IsWordAt row key.word (0 + k, p)) (λ (token : TokenWord). token.position) (filter (is_word key.word) tokens.words)
        (λ i d within.
        let token = get_or (filter (is_word key.word) tokens.words) i d in
        let member = All-filter (is_word key.word) (Contains tokens.words) tokens.words (All-contains_itself tokens.words) i d within in
        record {
          tokens = tokens;
          field = ap (slice_get row.doc.fields) (zero-add k) ∙ at;
          token = (member.0, token, member.1, member.2, ((bytes_eq-Decides token.word key.word).0 (filter_passes (is_word key.word) tokens.words i d within), refl));
        })

-- one place has one word
module _ (row : DocRow) (placed : IsPlacedRow row) where
  one_token : (words : List TokenWord) → AllPairs (λ word later. word.position < later.position) words → (i j : ℕ) (one other : TokenWord) → i < length words → j < length words → get_or words i one ≡ one → get_or words j other ≡ other → one.position ≡ other.position → one ≡ other
  one_token words ascend i j one other low high at there same =
      ⊎_elim
      (λ (less : i < j). absurd (let climbs = ascend i j one less high in let here = ap (λ (word : TokenWord). word.position) at in let later = ap (λ (word : TokenWord). word.position) (get_or_default words j one other high ∙ there) in omega (arith, climbs, here, later, same)))
      (λ rest. ⊎_elim
      (λ (is : i ≡ j). sym at ∙ get_or_default words i one other low ∙ ap (λ k. get_or words k other) is ∙ there)
      (λ (more : j < i). absurd (let climbs = ascend j i other more low in let here = ap (λ (word : TokenWord). word.position) there in let later = ap (λ (word : TokenWord). word.position) (get_or_default words i other one low ∙ at) in omega (arith, climbs, here, later, same)))
      rest)
      (three i j)
    where
      three : (i j : ℕ) → (i < j) ⊎ ((i ≡ j) ⊎ (j < i))
      three i j = grind arith

  one_word : (word other : List ℕ) (place : ℕ × ℕ) → IsWordAt row word place → IsWordAt row other place → word ≡ other
  one_word word other place one two =
      let fields : one.tokens ≡ two.tokens = let same : Some one.tokens ≡ Some two.tokens = sym one.field ∙ two.field in cc in
      let there = subst (λ (tokens : FieldTokens). Any (λ token. (token.word ≡ other) × (token.position ≡ place.1)) tokens.words) (sym fields) two.token in
      let own = one.token in
      let field : IsPlacedField one.tokens = at_one IsPlacedField row.doc.fields placed place.0 one.tokens one.field in
      let same : own.1 ≡ there.1 = one_token one.tokens.words field.ascend own.0 there.0 own.1 there.1 own.2 there.2 own.3 there.3 (own.4.1 ∙ sym there.4.1) in
      sym own.4.0 ∙ ap (λ (token : TokenWord). token.word) same ∙ there.4.0

module _ (query : Query) (row : DocRow) (has : HasPositions query) (placed : IsPlacedRow row) where
  stands : (hit : Hit) (key : Key) → IsHitOf query row hit key → IsHit row (hit.field, hit.position)
  stands hit key of =
      All-contains (IsHit row) (key_places row key) (hit.field, hit.position)
      (All-filter (allows row key) (IsHit row) (hits_of key.word row) (are_hits key.word row placed)) of.place

  within_limits : (hit : Hit) → IsKeyHit query row hit → IsHitWithin query.keywords (length row.doc.fields) hit
  within_limits hit (k, key, within, at, of) =
      let position = All-contains (λ (own : Key). (1 ≤ own.query) × (own.query ≤ query.keywords)) (query_keys query) key has.within (k, within, at) in
      let place : IsHit row (hit.field, hit.position) = stands hit key of in
      record {
        from_one = omega (arith, of.position, position.0);
        query = omega (arith, of.position, position.1);
        field = slice_get_within row.doc.fields hit.field place.field place.at;
        position = place.high;
      }

  not_before : (hit other : Hit) → hit.field ≡ other.field → hit.position ≡ other.position → hit.query ≡ other.query → hit.word ≡ other.word → IsTrue (comes_before hit other) → ⊥
  not_before hit other fields positions queries words before = grind (arith, nat_tests)

  -- the keyword's word stands where its hit does
  own_word : (hit : Hit) (key : Key) → IsHitOf query row hit key → IsWordAt row key.word (hit.field, hit.position)
  own_word hit key of = All-contains (IsWordAt row key.word) (key_places row key) (hit.field, hit.position) (words_stand row key) of.place

  two_hits : (hit other : Hit) → IsKeyHit query row hit → IsKeyHit query row other → IsTrue (comes_before hit other) → AreTwoHits hit other
  two_hits hit other (i, a, within_a, at_a, of_a) (j, b, within_b, at_b, of_b) before fields positions queries =
      let there : IsWordAt row b.word (hit.field, hit.position) = subst (IsWordAt row b.word) (λ k. (sym fields k, sym positions k)) (own_word other b of_b) in
      let same : a.word ≡ b.word = one_word row placed a.word b.word (hit.field, hit.position) (own_word hit a of_a) there in
      not_before hit other fields positions queries (of_a.word ∙ ap (number_in query) same ∙ sym of_b.word) before

  pub hits_within : (hits : List Hit) → AreHits query row hits → AreHitsWithin query.keywords (length row.doc.fields) hits
  hits_within hits are =
      let keyed : All (IsKeyHit query row) hits = hits_keyed query row hits are in
      record {
        each = All-weaker (IsKeyHit query row) (IsHitWithin query.keywords (length row.doc.fields)) within_limits hits keyed;
        apart = λ i j d before within.
            two_hits (get_or hits i d) (get_or hits j d) (keyed i d (omega (arith, before, within))) (keyed j d within) (are.ascend i j d before within);
      }

pub can_be_weighed : (query : Query) (row : DocRow) (hits : List Hit) → HasPositions query → All IsField row.doc.fields → AreHits query row hits → AreHitsWithin query.keywords (length row.doc.fields) hits
can_be_weighed query row hits has fields =
    hits_within query row has (All-weaker IsField IsPlacedField placed_field row.doc.fields fields) hits
