-- The words of a field are told by the positions of each word and by the boundaries.
use Rattle.std.proofs.Common.{◌≡◌, ℕ, ◌-◌, ◌<◌, ◌≤◌, List, [], ◌∷◌, Bool, true, false, cond, refl, sym, ap, subst, ◌∙◌, map, arith, ◌⊎◌, inl, inr}
use Rattle.std.specs.List.{filter}
use Rattle.std.specs.Str.{bytes_eq}
use Rattle.std.proofs.lemmas.Slice.Eq.{bytes_eq-Decides}
use Rattle.doc_types.specs.declared.tokens.Gap.{Gap}
use Rattle.doc_types.specs.declared.tokens.Gap.TheVariants as gaps
use Rattle.doc_types.specs.declared.tokens.TokenWord.{TokenWord}
use Rattle.doc_types.specs.Documents.{Follow, step}
use Rattle.doc_types.specs.Chunks.{is_word, is_boundary}

-- the positions of a word
abbrev pub places : List ℕ → List TokenWord → List ℕ
places word words = map (λ token. token.position) (filter (is_word word) words)

-- a boundary with the position that it takes
abbrev pub mark : TokenWord → ℕ × Gap
mark token = (token.position - 1, token.gap)

-- those of some words
abbrev pub marks : List TokenWord → List (ℕ × Gap)
marks words = map mark (filter (λ token. is_boundary token.gap) words)

step_some : (gap : Gap) → 1 ≤ step gap
step_some gaps.None = omega arith
step_some gaps.Sentence = omega arith
step_some gaps.Paragraph = omega arith

-- the first place of a word in what follows lies after what it follows
after : (word : List ℕ) (before p : ℕ) (rest : List ℕ) (vs : List TokenWord) → Follow before vs → places word vs ≡ p ∷ rest → before < p
after word before p rest [] follow e = absurd cc
after word before p rest (v ∷ vs) follow e =
    let step : before < v.position = omega (arith, follow.0, step_some v.gap) in
    elim (is_word word v) as (λ b. map (λ (t : TokenWord). t.position) (cond b (v ∷ filter (is_word word) vs) (filter (is_word word) vs)) ≡ p ∷ rest → before < p) [
      | true ↦ λ here. let same : v.position ≡ p = cc in omega (arith, same, step)
      | false ↦ λ later. let low : v.position < p = after word v.position p rest vs follow.1 later in omega (arith, low, step)
    ] e

least_cases : (word : List ℕ) (before p : ℕ) (rest : List ℕ) (v : TokenWord) (vs : List TokenWord) → Follow before (v ∷ vs) → (b : Bool) → is_word word v ≡ b → map (λ (t : TokenWord). t.position) (cond b (v ∷ filter (is_word word) vs) (filter (is_word word) vs)) ≡ p ∷ rest → ((v.position ≡ p) × (v.word ≡ word)) ⊎ (v.position < p)
least_cases word before p rest v vs follow true is e = inl (cc, (bytes_eq-Decides v.word word).0 is)
least_cases word before p rest v vs follow false is e = inr (after word v.position p rest vs follow.1 e)

is_own : (w : TokenWord) → is_word w.word w ≡ true
is_own w = (bytes_eq-Decides w.word w.word).1 refl

own_first : (w : TokenWord) (ws : List TokenWord) → places w.word (w ∷ ws) ≡ w.position ∷ places w.word ws
own_first w ws = rw (is_own w) refl

least : (w v : TokenWord) (ws vs : List TokenWord) (before : ℕ) → Follow before (v ∷ vs) → places w.word (w ∷ ws) ≡ places w.word (v ∷ vs) → ((v.position ≡ w.position) × (v.word ≡ w.word)) ⊎ (v.position < w.position)
least w v ws vs before follow e = least_cases w.word before w.position (places w.word ws) v vs follow (is_word w.word v) refl (sym e ∙ own_first w ws)

-- the same words at the same positions first
pub first_same : (w v : TokenWord) (ws vs : List TokenWord) (before : ℕ) → Follow before (w ∷ ws) → Follow before (v ∷ vs) → ((word : List ℕ) → places word (w ∷ ws) ≡ places word (v ∷ vs)) → (v.position ≡ w.position) × (v.word ≡ w.word)
first_same w v ws vs before fw fv e =
    elim (least w v ws vs before fv (e w.word)) [
      | inl same ↦ same
      | inr low ↦ elim (least v w vs ws before fw (sym (e v.word))) [
        | inl same ↦ absurd (omega (arith, low, same.0))
        | inr high ↦ absurd (omega (arith, low, high))
      ]
    ]

strip : (b c : Bool) (w v : TokenWord) (xs ys : List TokenWord) → b ≡ c → map (λ (t : TokenWord). t.position) (cond b (w ∷ xs) xs) ≡ map (λ (t : TokenWord). t.position) (cond c (v ∷ ys) ys) → map (λ (t : TokenWord). t.position) xs ≡ map (λ (t : TokenWord). t.position) ys
strip true true w v xs ys s e = cc
strip true false w v xs ys s e = absurd cc
strip false true w v xs ys s e = absurd cc
strip false false w v xs ys s e = e

rest_same : (word : List ℕ) (w v : TokenWord) (ws vs : List TokenWord) → v.word ≡ w.word → places word (w ∷ ws) ≡ places word (v ∷ vs) → places word ws ≡ places word vs
rest_same word w v ws vs same e = strip (is_word word w) (is_word word v) w v (filter (is_word word) ws) (filter (is_word word) vs) (ap (λ x. bytes_eq x word) (sym same)) e

heads : {X : Type 0} (x y : X) (xs ys : List X) → x ∷ xs ≡ y ∷ ys → x ≡ y
heads x y xs ys e = cc

-- boundaries of one step are one where their marks are
same_gap : (g h : Gap) (w v : TokenWord) (ws vs : List TokenWord) → w.gap ≡ g → v.gap ≡ h → step g ≡ step h → map mark (cond (is_boundary g) (w ∷ ws) ws) ≡ map mark (cond (is_boundary h) (v ∷ vs) vs) → (g ≡ h) × (map mark ws ≡ map mark vs)
same_gap gaps.None gaps.None w v ws vs eg eh s e = (refl, e)
same_gap gaps.None gaps.Sentence w v ws vs eg eh s e = absurd (omega (arith, s))
same_gap gaps.None gaps.Paragraph w v ws vs eg eh s e = absurd (omega (arith, s))
same_gap gaps.Sentence gaps.None w v ws vs eg eh s e = absurd (omega (arith, s))
same_gap gaps.Paragraph gaps.None w v ws vs eg eh s e = absurd (omega (arith, s))
same_gap gaps.Sentence gaps.Sentence w v ws vs eg eh s e = (refl, cc)
same_gap gaps.Sentence gaps.Paragraph w v ws vs eg eh s e = let both : w.gap ≡ v.gap = ap (λ m. m.1) (heads _ _ _ _ e) in absurd cc
same_gap gaps.Paragraph gaps.Sentence w v ws vs eg eh s e = let both : w.gap ≡ v.gap = ap (λ m. m.1) (heads _ _ _ _ e) in absurd cc
same_gap gaps.Paragraph gaps.Paragraph w v ws vs eg eh s e = (refl, cc)

-- the first word's own position is there
not_none : (v : TokenWord) (vs : List TokenWord) → ((word : List ℕ) → [] ≡ places word (v ∷ vs)) → ⊥
not_none v vs e = let none : [] ≡ v.position ∷ places v.word vs = e v.word ∙ own_first v vs in absurd cc

token_same : (w v : TokenWord) → w.word ≡ v.word → w.position ≡ v.position → w.gap ≡ v.gap → w ≡ v
token_same w v a b c = λ i. record { word = a i; position = b i; gap = c i }

-- words that follow each other are told by the places of each word and by the marks
pub words_same : (before : ℕ) (ws vs : List TokenWord) → Follow before ws → Follow before vs → ((word : List ℕ) → places word ws ≡ places word vs) → marks ws ≡ marks vs → ws ≡ vs
words_same before [] [] fw fv e m = refl
words_same before [] (v ∷ vs) fw fv e m = absurd (not_none v vs e)
words_same before (w ∷ ws) [] fw fv e m = absurd (not_none w ws (λ word. sym (e word)))
words_same before (w ∷ ws) (v ∷ vs) fw fv e m =
    let same : (v.position ≡ w.position) × (v.word ≡ w.word) = first_same w v ws vs before fw fv e in
    let gap : (w.gap ≡ v.gap) × (marks ws ≡ marks vs) = same_gap w.gap v.gap w v (filter (λ token. is_boundary token.gap) ws) (filter (λ token. is_boundary token.gap) vs) refl refl (omega (arith, fw.0, fv.0, same.0)) m in
    let here : w ≡ v = token_same w v (sym same.1) (sym same.0) gap.0 in
    let behind : Follow w.position vs = subst (λ n. Follow n vs) same.0 fv.1 in
    let rest : ws ≡ vs = words_same w.position ws vs fw.1 behind (λ word. rest_same word w v ws vs same.1 (e word)) gap.1 in
    cc
