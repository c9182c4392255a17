-- At a position where a word stands exactly one of the words has a place, and at any other none has.
use Rattle.std.proofs.Common.{◌≡◌, ℕ, zero, suc, ◌+◌, ◌<◌, ◌≤◌, Bool, true, false, cond, eqb, eq-eqb, ◌||◌, List, [], ◌∷◌, map, length, get_or, refl, sym, ap, subst, ◌∙◌, arith, All, AllPairs}
use Rattle.std.specs.List.{AllByRecursion, Contains, filter, list_any}
use Rattle.std.specs.Str.{bytes_eq}
use Rattle.std.specs.Cmp.Lexicographic.{slice_cmp}
use Rattle.std.specs.Ordering.{is_eq, nat_cmp}
use Rattle.std.specs.declared.cmp.Ordering.TheVariants.{Less}
use Rattle.std.proofs.lemmas.Bool.{eqb-true}
use Rattle.std.proofs.lemmas.Map.Text.{is_eq-slice_cmp}
use Rattle.std.proofs.lemmas.Slice.Eq.{bytes_eq-Decides}
use Rattle.doc_types.specs.declared.tokens.Gap.{Gap}
use Rattle.doc_types.specs.declared.tokens.Gap.TheVariants as kinds
use Rattle.doc_types.specs.declared.tokens.TokenWord.{TokenWord}
use Rattle.doc_types.specs.Documents.{Follow, step}
use Rattle.doc_types.specs.Chunks.{is_word}
use Rattle.damage_laws.proofs.FieldOwners.{differ, one, or_false, or_true, stands_at}

-- how many of the words pass
abbrev pub tally : (List ℕ → Bool) → List (List ℕ) → ℕ
tally test [] = 0
tally test (word ∷ words) = one (test word) + tally test words

pub tally_same : (test other : List ℕ → Bool) (words : List (List ℕ)) → ((word : List ℕ) → test word ≡ other word) → tally test words ≡ tally other words
tally_same test other [] same = refl
tally_same test other (word ∷ words) same = omega (arith, ap one (same word), tally_same test other words same)

-- ---- one of the words is this one

differs : (word later : List ℕ) → slice_cmp nat_cmp word later ≡ Less → bytes_eq word later ≡ false
differs word later below = sym (is_eq-slice_cmp word later) ∙ ap is_eq below

none_later : (word : List ℕ) (words : List (List ℕ)) → All (λ later. slice_cmp nat_cmp word later ≡ Less) words → tally (bytes_eq word) words ≡ 0
none_later word [] above = refl
none_later word (w ∷ ws) above =
    let rest = none_later word ws (λ k d h. above (suc k) d (omega (arith, h))) in
    omega (arith, rest, ap one (differs word w (above zero w (omega arith))))

-- a word equals itself, and no word that it is above
itself : (word : List ℕ) → bytes_eq word word ≡ true
itself word = (bytes_eq-Decides word word).1 refl

above_it : (word earlier : List ℕ) → slice_cmp nat_cmp earlier word ≡ Less → bytes_eq word earlier ≡ false
above_it word earlier below = elim (bytes_eq word earlier) as (λ b. bytes_eq word earlier ≡ b → b ≡ false) [
  | true ↦ λ is.
      let same : word ≡ earlier = (bytes_eq-Decides word earlier).0 is in
      let no : bytes_eq earlier word ≡ false = differs earlier word below in
      let yes_ : bytes_eq earlier word ≡ true = subst (λ w. bytes_eq w word ≡ true) same (itself word) in
      absurd cc
  | false ↦ λ is. refl
] refl

once_at : (word : List ℕ) (words : List (List ℕ)) (k : ℕ) → AllPairs (λ w later. slice_cmp nat_cmp w later ≡ Less) words → k < length words → get_or words k word ≡ word → tally (bytes_eq word) words ≡ 1
once_at word [] k ascend low is = absurd (omega (arith, low))
once_at word (w ∷ ws) zero ascend low is =
    let above : All (λ later. slice_cmp nat_cmp word later ≡ Less) ws = λ k d h. subst (λ v. slice_cmp nat_cmp v (get_or ws k d) ≡ Less) is (ascend zero (suc k) d (omega arith) (omega (arith, h))) in
    let first : bytes_eq word w ≡ true = (bytes_eq-Decides word w).1 (sym is) in
    omega (arith, none_later word ws above, ap one first)
once_at word (w ∷ ws) (suc k) ascend low is =
    let rest = once_at word ws k (λ i j d lt within. ascend (suc i) (suc j) d (omega (arith, lt)) (omega (arith, within))) (omega (arith, low)) is in
    let below : slice_cmp nat_cmp w word ≡ Less = subst (λ v. slice_cmp nat_cmp w v ≡ Less) is (ascend zero (suc k) word (omega arith) low) in
    omega (arith, rest, ap one (above_it word w below))

pub once : (word : List ℕ) (words : List (List ℕ)) → AllPairs (λ w later. slice_cmp nat_cmp w later ≡ Less) words → Contains words word → tally (bytes_eq word) words ≡ 1
once word words ascend found = once_at word words found.0 ascend found.1 found.2

-- ---- the words at a position

-- the position is one of these
abbrev pub is_among : List ℕ → ℕ → Bool
is_among places p = list_any (λ place. eqb place p) places

-- the places of a word among these
abbrev pub places : List ℕ → List TokenWord → List ℕ
places word words = map (λ (t : TokenWord). t.position) (filter (is_word word) words)

step_some : (before : ℕ) (t : TokenWord) → t.position ≡ before + step t.gap → before < t.position
step_some before t e = omega (arith, e, some t.gap)
  where
    some : (gap : Gap) → 1 ≤ step gap
    some kinds.None = omega arith
    some kinds.Sentence = omega arith
    some kinds.Paragraph = omega arith

no_place : (word : List ℕ) (before p : ℕ) (words : List TokenWord) → Follow before words → p ≤ before → is_among (places word words) p ≡ false
no_place word before p [] follow low = refl
no_place word before p (t ∷ ts) follow low =
    let above = step_some before t follow.0 in
    let rest = no_place word t.position p ts follow.1 (omega (arith, above, low)) in
    elim (is_word word t) as (λ b. is_among (map (λ (t : TokenWord). t.position) (cond b (t ∷ filter (is_word word) ts) (filter (is_word word) ts))) p ≡ false) [
      | true ↦ or_false (eqb t.position p) (is_among (places word ts) p) (differ t.position p (omega (arith, above, low))) ∙ rest
      | false ↦ rest
    ]

-- where a word stands, the places of that word alone have the position
here : (word : List ℕ) (p : ℕ) (t : TokenWord) (ts : List TokenWord) → t.position ≡ p → Follow t.position ts → is_among (places word (t ∷ ts)) p ≡ bytes_eq t.word word
here word p t ts at follow =
    let rest = no_place word t.position p ts follow (omega (arith, at)) in
    elim (is_word word t) as (λ b. is_among (map (λ (t : TokenWord). t.position) (cond b (t ∷ filter (is_word word) ts) (filter (is_word word) ts))) p ≡ b) [
      | true ↦ or_true (eqb t.position p) (is_among (places word ts) p) (eq-eqb t.position p at)
      | false ↦ rest
    ]

elsewhere : (word : List ℕ) (p : ℕ) (t : TokenWord) (ts : List TokenWord) → (t.position ≡ p → ⊥) → is_among (places word (t ∷ ts)) p ≡ is_among (places word ts) p
elsewhere word p t ts other =
    elim (is_word word t) as (λ b. is_among (map (λ (t : TokenWord). t.position) (cond b (t ∷ filter (is_word word) ts) (filter (is_word word) ts))) p ≡ is_among (places word ts) p) [
      | true ↦ or_false (eqb t.position p) (is_among (places word ts) p) (differ t.position p other)
      | false ↦ refl
    ]

none_of : (words : List (List ℕ)) → tally (λ word. false) words ≡ 0
none_of [] = refl
none_of (w ∷ ws) = omega (arith, none_of ws)

-- so many words have a place at the position as words of the field stand there
pub owned : (all : List (List ℕ)) (before p : ℕ) (words : List TokenWord) → Follow before words → AllByRecursion (λ (t : TokenWord). tally (bytes_eq t.word) all ≡ 1) words
    → tally (λ word. is_among (places word words) p) all ≡ one (stands_at p words)
owned all before p [] follow each = none_of all
owned all before p (t ∷ ts) follow each =
    elim (eqb t.position p) as (λ b. eqb t.position p ≡ b → tally (λ word. is_among (places word (t ∷ ts)) p) all ≡ one (b || stands_at p ts)) [
      | true ↦ λ is. tally_same (λ word. is_among (places word (t ∷ ts)) p) (bytes_eq t.word) all (λ word. here word p t ts (eqb-true t.position p is) follow.1) ∙ each.0
      | false ↦ λ is.
          tally_same (λ word. is_among (places word (t ∷ ts)) p) (λ word. is_among (places word ts) p) all (λ word. elsewhere word p t ts (λ same. let t : eqb t.position p ≡ true = eq-eqb t.position p same in absurd cc))
          ∙ owned all t.position p ts follow.1 each.1
    ] refl
