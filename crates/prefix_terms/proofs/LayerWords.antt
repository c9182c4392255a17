-- The words of a prefix: those of the parts of all layers, merged.
use Rattle.std.proofs.Common.{◌≡◌, ℕ, ◌<◌, ◌^◌, List, [], ◌∷◌, ◌++◌, true, false, Some, length, get_or, refl, sym, ap, subst, ◌∙◌, arith, All, Contains}
use Rattle.std.specs.List.{AllZip, flat_map, list_any}
use Rattle.std.proofs.lemmas.List.Elements.{All-cons, All-nil}
use Rattle.std.proofs.lemmas.List.Folds.{Any-from_list_any}
use Rattle.std.proofs.lemmas.List.{get_or_default}
use Rattle.std.proofs.lemmas.Option.{get_or_from_slice_get, slice_get-get_or, slice_get_within}
use Rattle.doc_types.specs.declared.documents.DocRow.{DocRow}
use Rattle.doc_types.specs.Chunks.{has_word}
use Rattle.doc_types.specs.Snapshots.{LayerValue, all_living, living}
use Rattle.query_tree.specs.Taking.{begins_so}
use Rattle.prefix_terms.specs.Prefixes.{AreWordsWith, lives}
use Rattle.prefix_terms.specs.steps.Parts.{Ascend, IsPartOf, PartValue, living_of}
use Rattle.prefix_terms.specs.steps.Merging.{AreMerged, IsWordOf, blank_part, lives_in, part_at}
use Rattle.prefix_terms.proofs.Livings.{any_joined, has_rows}

-- what holds of each part that a layer has
of_parts : (P : PartValue → Type 0) (beginning : List ℕ) → ((layer : LayerValue) (part : PartValue) → IsPartOf beginning layer part → P part) → (layers : List LayerValue) (parts : List PartValue) → AllZip (IsPartOf beginning) layers parts → All P parts
of_parts P beginning has [] [] are = All-nil P
of_parts P beginning has [] (p ∷ ps) are = absurd are
of_parts P beginning has (l ∷ ls) [] are = absurd are
of_parts P beginning has (l ∷ ls) (p ∷ ps) are = All-cons P p ps (has l p are.0) (of_parts P beginning has ls ps are.1)

pub parts_ascend : (beginning : List ℕ) (layers : List LayerValue) (parts : List PartValue) → AllZip (IsPartOf beginning) layers parts → All (λ part. Ascend part.words) parts
parts_ascend beginning = of_parts (λ part. Ascend part.words) beginning (λ layer part is. is.ascend)

pub parts_short : (beginning : List ℕ) (layers : List LayerValue) (parts : List PartValue) → AllZip (IsPartOf beginning) layers parts → All (λ part. length part.words < 2 ^ 32) parts
parts_short beginning = of_parts (λ part. length part.words < 2 ^ 32) beginning (λ layer part is. is.few)

pub parts_many : (beginning : List ℕ) (layers : List LayerValue) (parts : List PartValue) → AllZip (IsPartOf beginning) layers parts → length layers ≡ length parts
parts_many beginning [] [] are = omega arith
parts_many beginning [] (p ∷ ps) are = absurd are
parts_many beginning (l ∷ ls) [] are = absurd are
parts_many beginning (l ∷ ls) (p ∷ ps) are = let rest = parts_many beginning ls ps are.1 in omega (arith, rest)

-- the rows that live are those of the parts
same_rows : (beginning : List ℕ) (layers : List LayerValue) (parts : List PartValue) → AllZip (IsPartOf beginning) layers parts → all_living layers ≡ flat_map living_of parts
same_rows beginning [] [] are = refl
same_rows beginning [] (p ∷ ps) are = absurd are
same_rows beginning (l ∷ ls) [] are = absurd are
same_rows beginning (l ∷ ls) (p ∷ ps) are =
    let own : living l ≡ living_of p =
    ap (λ (rows : List DocRow). living (record { rows = rows; disk = false; dead = l.dead })) (sym are.0.rows)
    ∙ ap (λ (dead : List ℕ). living (record { rows = p.rows; disk = false; dead = dead })) (sym are.0.dead) in
    ap (λ (rows : List DocRow). rows ++ all_living ls) own ∙ ap (λ (rows : List DocRow). living_of p ++ rows) (same_rows beginning ls ps are.1)

lives_there : (beginning : List ℕ) (layers : List LayerValue) (parts : List PartValue) (word : List ℕ) → AllZip (IsPartOf beginning) layers parts → lives (all_living layers) word ≡ list_any (lives_in word) parts
lives_there beginning layers parts word are = ap (list_any (has_word word)) (same_rows beginning layers parts are) ∙ any_joined (has_word word) living_of parts

abbrev Holds : List ℕ → PartValue → Type 0
Holds beginning part = (word : List ℕ) → begins_so word beginning ≡ true → lives_in word part ≡ true → Contains part.words word

parts_hold : (beginning : List ℕ) (layers : List LayerValue) (parts : List PartValue) → AllZip (IsPartOf beginning) layers parts → All (Holds beginning) parts
parts_hold beginning = of_parts (Holds beginning) beginning (λ layer part is word begins lives. is.all word begins (has_rows word part lives))

abbrev Begin : List ℕ → PartValue → Type 0
Begin beginning part = All (λ word. begins_so word beginning ≡ true) part.words

parts_begin : (beginning : List ℕ) (layers : List LayerValue) (parts : List PartValue) → AllZip (IsPartOf beginning) layers parts → All (Begin beginning) parts
parts_begin beginning = of_parts (Begin beginning) beginning (λ layer part is. is.begin)

-- the words of the parts that living rows have are those of the prefix
pub merged_words : (beginning : List ℕ) (layers : List LayerValue) (parts : List PartValue) (words : List (List ℕ)) → AllZip (IsPartOf beginning) layers parts → AreMerged parts words → AreWordsWith (all_living layers) beginning words
merged_words beginning layers parts words are merged = record {
  ascend = merged.ascend;
  begin = λ k d low. begins (get_or words k d) (merged.there k d low);
  live = λ k d low. lives_there beginning layers parts (get_or words k d) are ∙ merged.live k d low;
  all = λ word begin live. merged.all word (somewhere word begin (there word live)) (there word live);
}
  where
    there : (word : List ℕ) → lives (all_living layers) word ≡ true → list_any (lives_in word) parts ≡ true
    there word live = sym (lives_there beginning layers parts word are) ∙ live

    begins : (word : List ℕ) → IsWordOf parts word → begins_so word beginning ≡ true
    begins word of =
        let all = (part_at parts of.part).words in
        let begin : All (λ (w : List ℕ). begins_so w beginning ≡ true) all = parts_begin beginning layers parts are of.part blank_part of.within in
        subst (λ (w : List ℕ). begins_so w beginning ≡ true) (get_or_from_slice_get all of.number word word of.here) (begin of.number word (slice_get_within all of.number word of.here))

    somewhere : (word : List ℕ) → begins_so word beginning ≡ true → list_any (lives_in word) parts ≡ true → IsWordOf parts word
    somewhere word begin live =
        let its = Any-from_list_any (lives_in word) parts live in
        let at : part_at parts its.0 ≡ its.1 = get_or_default parts its.0 blank_part its.1 its.2 ∙ its.3 in
        let in_it : lives_in word (part_at parts its.0) ≡ true = subst (λ (p : PartValue). lives_in word p ≡ true) (sym at) its.4 in
        let found = parts_hold beginning layers parts are its.0 blank_part its.2 word begin in_it in
        let all = (part_at parts its.0).words in
        record { part = its.0; number = found.0; within = its.2; here = slice_get-get_or all found.0 word found.1 ∙ ap Some found.2 }
