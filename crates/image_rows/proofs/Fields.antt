-- A field made of its words and boundaries has these.
use Rattle.std.proofs.Common.{◌≡◌, ℕ, zero, suc, ◌+◌, ◌-◌, ◌<◌, ◌≤◌, Bool, true, false, cond, eqb, eq-eqb, List, [], ◌∷◌, ◌++◌, ◌||◌, length, map, refl, sym, ap, subst, ◌∙◌, arith}
use Rattle.std.specs.List.{AllByRecursion, filter}
use Rattle.std.specs.Str.{bytes_eq}
use Rattle.std.proofs.lemmas.Bool.{eqb-true}
use Rattle.doc_types.specs.declared.tokens.Gap.{Gap}
use Rattle.doc_types.specs.declared.tokens.Gap.TheVariants as kinds
use Rattle.doc_types.specs.declared.tokens.TokenWord.{TokenWord}
use Rattle.doc_types.specs.Documents.{Follow, step}
use Rattle.doc_types.specs.Chunks.{is_boundary, is_word}
use Rattle.doc_bytes.specs.Reading.{is_taken as stands_in}
use Rattle.chunk_damage.specs.RowMarks.{is_taken}
use Rattle.image_rows.specs.steps.Counts.{total}
use Rattle.image_rows.specs.steps.Between.{AreLaid, from_on, token, words_between}
use Rattle.image_rows.proofs.Filters.{differ}

abbrev mark : TokenWord → ℕ × Gap
mark t = (t.position - 1, t.gap)

abbrev marks : List TokenWord → List (ℕ × Gap)
marks ts = map mark (filter (λ (t : TokenWord). is_boundary t.gap) ts)

-- a boundary that waits for its word
abbrev waiting : ℕ → Gap → List (ℕ × Gap)
waiting position gap = cond (is_boundary gap) ((position - 1, gap) ∷ []) []

-- where it waits, the next boundary lies further on
abbrev behind : ℕ → Gap → ℕ
behind position gap = cond (is_boundary gap) (position + 1) position

none_waits : (gap : Gap) → is_boundary gap ≡ false → gap ≡ kinds.None
none_waits kinds.None e = refl
none_waits kinds.Sentence e = absurd cc
none_waits kinds.Paragraph e = absurd cc

two_steps : (gap : Gap) → is_boundary gap ≡ true → step gap ≡ 2
two_steps kinds.None e = absurd cc
two_steps kinds.Sentence e = refl
two_steps kinds.Paragraph e = refl

behind_least : (position : ℕ) (before : Gap) → position ≤ behind position before
behind_least position kinds.None = omega arith
behind_least position kinds.Sentence = omega arith
behind_least position kinds.Paragraph = omega arith

-- where the next boundary may stand at the position, none waits
none_before : (position at : ℕ) (before : Gap) → behind position before ≤ at → at ≡ position → before ≡ kinds.None
none_before position at kinds.None low e = refl
none_before position at kinds.Sentence low e = absurd (omega (arith, low, e))
none_before position at kinds.Paragraph low e = absurd (omega (arith, low, e))

behind_boundary : (position : ℕ) (gap : Gap) → is_boundary gap ≡ true → behind position gap ≡ position + 1
behind_boundary position gap e = ap (λ b. cond b (position + 1) position) e

waits : (position : ℕ) (gap : Gap) → is_boundary gap ≡ true → waiting position gap ≡ (position - 1, gap) ∷ []
waits position gap e = ap (λ b. cond b ((position - 1, gap) ∷ []) []) e

first_mark : (word : ℕ → List ℕ) (position : ℕ) (before : Gap) (ts : List TokenWord) (gs : List (ℕ × Gap)) → marks ts ≡ gs
    → marks (token word position before ∷ ts) ≡ waiting position before ++ gs
first_mark word position kinds.None ts gs e = e
first_mark word position kinds.Sentence ts gs e = ap (λ l. (position - 1, kinds.Sentence) ∷ l) e
first_mark word position kinds.Paragraph ts gs e = ap (λ l. (position - 1, kinds.Paragraph) ∷ l) e

between_from : (low least high : ℕ) (gs : List (ℕ × Gap)) (g : ℕ × Gap) → AreLaid low high (g ∷ gs) → least ≤ g.0 → AreLaid least high (g ∷ gs)
between_from low least high gs g fit le = (le, fit.1, fit.2, fit.3)

none_left : (position high : ℕ) (before : Gap) (gs : List (ℕ × Gap)) → high + 1 ≡ position → AreLaid (behind position before) high gs → gs ≡ []
none_left position high before [] e fit = refl
none_left position high before (g ∷ gs) e fit = absurd (omega (arith, e, fit.0, fit.1, behind_least position before))

no_boundary : (before : Gap) → (is_boundary before ≡ true → 1 ≤ 0) → before ≡ kinds.None
no_boundary kinds.None some = refl
no_boundary kinds.Sentence some = absurd (omega (arith, some refl))
no_boundary kinds.Paragraph some = absurd (omega (arith, some refl))

-- words behind a boundary give it, and then those that are left
pub marks_between : (word : ℕ → List ℕ) (n position high : ℕ) (before : Gap) (gs : List (ℕ × Gap)) → high + 1 ≡ position + n → (is_boundary before ≡ true → 1 ≤ n)
    → AreLaid (behind position before) high gs
    → marks (words_between word n position before gs) ≡ waiting position before ++ gs
marks_between word zero position high before gs e some fit =
    let none : gs ≡ [] = none_left position high before gs (omega (arith, e)) fit in
    rw (none, no_boundary before some) refl
marks_between word (suc n) position high before [] e some fit =
    first_mark word position before (words_between word n (position + 1) kinds.None []) [] (marks_between word n (position + 1) high kinds.None [] (omega (arith, e)) (λ t. absurd cc) tt)
marks_between word (suc n) position high before (g ∷ gs) e some fit =
    elim (eqb g.0 position) as (λ b. eqb g.0 position ≡ b → marks (cond b (words_between word n (position + 1) g.1 gs) (token word position before ∷ words_between word n (position + 1) kinds.None (g ∷ gs))) ≡ waiting position before ++ (g ∷ gs)) [
      | true ↦ λ is.
          let here : g.0 ≡ position = eqb-true g.0 position is in
          let plain : before ≡ kinds.None = none_before position g.0 before fit.0 here in
          let rest = marks_between word n (position + 1) high g.1 gs (omega (arith, e)) (λ t. omega (arith, fit.1, here, e)) (subst (λ k. AreLaid k high gs) (omega (arith, here, behind_boundary (position + 1) g.1 fit.2)) fit.3) in
          let same : position + 1 - 1 ≡ g.0 = omega (arith, here) in
          rest ∙ ap (λ l. l ++ gs) (waits (position + 1) g.1 fit.2) ∙ ap (λ k. (k, g.1) ∷ gs) same ∙ ap (λ b. waiting position b ++ (g ∷ gs)) (sym plain)
      | false ↦ λ not.
          let other : g.0 ≡ position → ⊥ = λ is. let t : eqb g.0 position ≡ true = eq-eqb g.0 position is in absurd cc in
          let later : position + 1 ≤ g.0 = omega (arith, fit.0, behind_least position before, other) in
          first_mark word position before (words_between word n (position + 1) kinds.None (g ∷ gs)) (g ∷ gs) (marks_between word n (position + 1) high kinds.None (g ∷ gs) (omega (arith, e)) (λ t. absurd cc) (later, fit.1, fit.2, fit.3))
    ] refl

-- words behind a position follow it
pub follow_between : (word : ℕ → List ℕ) (n position high behind_it : ℕ) (before : Gap) (gs : List (ℕ × Gap)) → high + 1 ≡ position + n
    → behind_it + step before ≡ position → AreLaid (behind position before) high gs
    → Follow behind_it (words_between word n position before gs)
follow_between word zero position high behind_it before gs e s fit = tt
follow_between word (suc n) position high behind_it before [] e s fit = (sym s, follow_between word n (position + 1) high position kinds.None [] (omega (arith, e)) refl tt)
follow_between word (suc n) position high behind_it before (g ∷ gs) e s fit =
    elim (eqb g.0 position) as (λ b. eqb g.0 position ≡ b → Follow behind_it (cond b (words_between word n (position + 1) g.1 gs) (token word position before ∷ words_between word n (position + 1) kinds.None (g ∷ gs)))) [
      | true ↦ λ is.
          let here : g.0 ≡ position = eqb-true g.0 position is in
          let plain : before ≡ kinds.None = none_before position g.0 before fit.0 here in
          let steps : behind_it + step g.1 ≡ position + 1 = omega (arith, s, ap step plain, two_steps g.1 fit.2) in
          follow_between word n (position + 1) high behind_it g.1 gs (omega (arith, e)) steps (subst (λ k. AreLaid k high gs) (omega (arith, here, behind_boundary (position + 1) g.1 fit.2)) fit.3)
      | false ↦ λ not.
          let other : g.0 ≡ position → ⊥ = λ is. let t : eqb g.0 position ≡ true = eq-eqb g.0 position is in absurd cc in
          let later : position + 1 ≤ g.0 = omega (arith, fit.0, behind_least position before, other) in
          (sym s, follow_between word n (position + 1) high position kinds.None (g ∷ gs) (omega (arith, e)) refl (later, fit.1, fit.2, fit.3))
    ] refl

kept : (b c : Bool) (t : TokenWord) (ts : List TokenWord) (ns : List ℕ) → b ≡ c → map (λ (t : TokenWord). t.position) ts ≡ ns
    → map (λ (t : TokenWord). t.position) (cond b (t ∷ ts) ts) ≡ cond c (t.position ∷ ns) ns
kept true true t ts ns s e = ap (λ l. t.position ∷ l) e
kept true false t ts ns s e = absurd cc
kept false true t ts ns s e = absurd cc
kept false false t ts ns s e = e

or_later : (a b : Bool) → b ≡ true → (a || b) ≡ true
or_later true b e = refl
or_later false b e = e

not_taken : (low high at : ℕ) (gs : List (ℕ × Gap)) → AreLaid low high gs → at < low → is_taken gs at ≡ false
not_taken low high at [] fit lt = refl
not_taken low high at (g ∷ gs) fit lt = ap (λ b. b || is_taken gs at) (differ g.0 at (omega (arith, fit.0, lt)))
    ∙ not_taken (g.0 + 2) high at gs fit.3 (omega (arith, fit.0, lt))

-- the words' positions that pass are those of all that pass, where none passes that a boundary takes
pub places_between : (word : ℕ → List ℕ) (w : List ℕ) (test : ℕ → Bool) (n position high : ℕ) (before : Gap) (gs : List (ℕ × Gap)) → high + 1 ≡ position + n
    → AreLaid (behind position before) high gs
    → ((at : ℕ) → position ≤ at → at < position + n → is_taken gs at ≡ false → bytes_eq (word at) w ≡ test at) → ((at : ℕ) → is_taken gs at ≡ true → test at ≡ false)
    → map (λ (t : TokenWord). t.position) (filter (is_word w) (words_between word n position before gs)) ≡ filter test (from_on n position)
places_between word w test zero position high before gs e fit own none = refl
places_between word w test (suc n) position high before [] e fit own none =
    let rest = places_between word w test n (position + 1) high kinds.None [] (omega (arith, e)) tt (λ at low up free. own at (omega (arith, low)) (omega (arith, up)) free) none in
    let same : bytes_eq (word position) w ≡ test position = own position (omega arith) (omega arith) refl in
    kept (bytes_eq (word position) w) (test position) (token word position before) (filter (is_word w) (words_between word n (position + 1) kinds.None [])) (filter test (from_on n (position + 1))) same rest
places_between word w test (suc n) position high before (g ∷ gs) e fit own none =
    elim (eqb g.0 position) as (λ b. eqb g.0 position ≡ b → map (λ (t : TokenWord). t.position) (filter (is_word w) (cond b (words_between word n (position + 1) g.1 gs) (token word position before ∷ words_between word n (position + 1) kinds.None (g ∷ gs)))) ≡ filter test (from_on (suc n) position)) [
      | true ↦ λ is.
          let here : g.0 ≡ position = eqb-true g.0 position is in
          let taken : is_taken (g ∷ gs) position ≡ true = ap (λ b. b || is_taken gs position) is in
          let fails : test position ≡ false = none position taken in
          let rest = places_between word w test n (position + 1) high g.1 gs (omega (arith, e)) (subst (λ k. AreLaid k high gs) (omega (arith, here, behind_boundary (position + 1) g.1 fit.2)) fit.3)
          (λ at low up free. own at (omega (arith, low)) (omega (arith, up)) (ap (λ b. b || is_taken gs at) (differ g.0 at (omega (arith, here, low))) ∙ free)) (λ at t. none at (or_later (eqb g.0 at) (is_taken gs at) t)) in
          rest ∙ ap (λ b. cond b (position ∷ filter test (from_on n (position + 1))) (filter test (from_on n (position + 1)))) (sym fails)
      | false ↦ λ not.
          let other : g.0 ≡ position → ⊥ = λ is. let t : eqb g.0 position ≡ true = eq-eqb g.0 position is in absurd cc in
          let later : position + 1 ≤ g.0 = omega (arith, fit.0, behind_least position before, other) in
          let rest = places_between word w test n (position + 1) high kinds.None (g ∷ gs) (omega (arith, e)) (later, fit.1, fit.2, fit.3) (λ at low up free. own at (omega (arith, low)) (omega (arith, up)) free) none in
          let same : bytes_eq (word position) w ≡ test position = own position (omega arith) (omega arith) (not_taken (position + 1) high position (g ∷ gs) (later, fit.1, fit.2, fit.3) (omega arith)) in
          kept (bytes_eq (word position) w) (test position) (token word position before) (filter (is_word w) (words_between word n (position + 1) kinds.None (g ∷ gs))) (filter test (from_on n (position + 1))) same rest
    ] refl

-- where the last word stands
abbrev pub last_of : ℕ → List TokenWord → ℕ
last_of before [] = before
last_of before (t ∷ ts) = last_of t.position ts

pub last_between : (word : ℕ → List ℕ) (n position high earlier : ℕ) (before : Gap) (gs : List (ℕ × Gap)) → high + 1 ≡ position + n → 1 ≤ n
    → AreLaid (behind position before) high gs
    → last_of earlier (words_between word n position before gs) ≡ high
last_between word zero position high earlier before gs e some fit = absurd (omega (arith, some))
last_between word (suc zero) position high earlier before [] e some fit = omega (arith, e)
last_between word (suc zero) position high earlier before (g ∷ gs) e some fit = absurd (omega (arith, e, fit.0, fit.1, behind_least position before))
last_between word (suc (suc n)) position high earlier before [] e some fit = last_between word (suc n) (position + 1) high position kinds.None [] (omega (arith, e)) (omega arith) tt
last_between word (suc (suc n)) position high earlier before (g ∷ gs) e some fit =
    elim (eqb g.0 position) as (λ b. eqb g.0 position ≡ b → last_of earlier (cond b (words_between word (suc n) (position + 1) g.1 gs) (token word position before ∷ words_between word (suc n) (position + 1) kinds.None (g ∷ gs))) ≡ high) [
      | true ↦ λ is.
          let here : g.0 ≡ position = eqb-true g.0 position is in
          last_between word (suc n) (position + 1) high earlier g.1 gs (omega (arith, e)) (omega arith) (subst (λ k. AreLaid k high gs) (omega (arith, here, behind_boundary (position + 1) g.1 fit.2)) fit.3)
      | false ↦ λ not.
          let other : g.0 ≡ position → ⊥ = λ is. let t : eqb g.0 position ≡ true = eq-eqb g.0 position is in absurd cc in
          let later : position + 1 ≤ g.0 = omega (arith, fit.0, behind_least position before, other) in
          last_between word (suc n) (position + 1) high position kinds.None (g ∷ gs) (omega (arith, e)) (omega arith) (later, fit.1, fit.2, fit.3)
    ] refl

-- each word is the one at its position, which no boundary takes
pub record IsPlaced (word : ℕ → List ℕ) (low high : ℕ) (gs : List (ℕ × Gap)) (t : TokenWord) : Type 0 where
  pub is : t.word ≡ word t.position
  pub behind : low ≤ t.position
  pub within : t.position ≤ high
  pub free : is_taken gs t.position ≡ false

pub placed_between : (P : TokenWord → Type 0) (word : ℕ → List ℕ) (n position high : ℕ) (before : Gap) (gs all : List (ℕ × Gap)) → high + 1 ≡ position + n
    → AreLaid (behind position before) high gs
    → ((at : ℕ) (gap : Gap) → position ≤ at → at ≤ high → is_taken gs at ≡ false → P (token word at gap)) → AllByRecursion P (words_between word n position before gs)
placed_between P word zero position high before gs all e fit each = tt
placed_between P word (suc n) position high before [] all e fit each =
    (each position before (omega arith) (omega (arith, e)) refl, placed_between P word n (position + 1) high kinds.None [] all (omega (arith, e)) tt (λ at gap low up free. each at gap (omega (arith, low)) up free))
placed_between P word (suc n) position high before (g ∷ gs) all e fit each =
    elim (eqb g.0 position) as (λ b. eqb g.0 position ≡ b → AllByRecursion P (cond b (words_between word n (position + 1) g.1 gs) (token word position before ∷ words_between word n (position + 1) kinds.None (g ∷ gs)))) [
      | true ↦ λ is.
          let here : g.0 ≡ position = eqb-true g.0 position is in
          placed_between P word n (position + 1) high g.1 gs all (omega (arith, e)) (subst (λ k. AreLaid k high gs) (omega (arith, here, behind_boundary (position + 1) g.1 fit.2)) fit.3)
          (λ at gap low up free. each at gap (omega (arith, low)) up (ap (λ b. b || is_taken gs at) (differ g.0 at (omega (arith, here, low))) ∙ free))
      | false ↦ λ not.
          let other : g.0 ≡ position → ⊥ = λ is. let t : eqb g.0 position ≡ true = eq-eqb g.0 position is in absurd cc in
          let later : position + 1 ≤ g.0 = omega (arith, fit.0, behind_least position before, other) in
          let free = not_taken (position + 1) high position (g ∷ gs) (later, fit.1, fit.2, fit.3) (omega arith) in
          (each position before (omega arith) (omega (arith, e)) free, placed_between P word n (position + 1) high kinds.None (g ∷ gs) all (omega (arith, e)) (later, fit.1, fit.2, fit.3) (λ at gap low up its. each at gap (omega (arith, low)) up its))
    ] refl

-- ---- a word stands at each position that no boundary takes

either_false : (a b : Bool) → (a || b) ≡ false → (a ≡ false) × (b ≡ false)
either_false true b e = absurd cc
either_false false b e = (refl, e)

first_stands : (word : ℕ → List ℕ) (position p : ℕ) (before : Gap) (ts : List TokenWord) → position ≡ p → stands_in (token word position before ∷ ts) p ≡ true
first_stands word position p before ts e = ap (λ b. b || stands_in ts p) (eq-eqb position p e)

pub stands_between : (word : ℕ → List ℕ) (n position high p : ℕ) (before : Gap) (gs : List (ℕ × Gap)) → high + 1 ≡ position + n → AreLaid (behind position before) high gs
    → position ≤ p → p ≤ high → is_taken gs p ≡ false
    → stands_in (words_between word n position before gs) p ≡ true
stands_between word zero position high p before gs e fit low up free = absurd (omega (arith, e, low, up))
stands_between word (suc n) position high p before [] e fit low up free =
    elim (eqb position p) as (λ b. eqb position p ≡ b → stands_in (token word position before ∷ words_between word n (position + 1) kinds.None []) p ≡ true) [
      | true ↦ λ is. first_stands word position p before (words_between word n (position + 1) kinds.None []) (eqb-true position p is)
      | false ↦ λ not.
          let other : position ≡ p → ⊥ = λ is. let t : eqb position p ≡ true = eq-eqb position p is in absurd cc in
          or_later (eqb position p) (stands_in (words_between word n (position + 1) kinds.None []) p) (stands_between word n (position + 1) high p kinds.None [] (omega (arith, e)) tt (omega (arith, low, other)) up refl)
    ] refl
stands_between word (suc n) position high p before (g ∷ gs) e fit low up free =
    elim (eqb g.0 position) as (λ b. eqb g.0 position ≡ b → stands_in (cond b (words_between word n (position + 1) g.1 gs) (token word position before ∷ words_between word n (position + 1) kinds.None (g ∷ gs))) p ≡ true) [
      | true ↦ λ is.
          let here : g.0 ≡ position = eqb-true g.0 position is in
          let both = either_false (eqb g.0 p) (is_taken gs p) free in
          let other : position ≡ p → ⊥ = λ same. let t : eqb g.0 p ≡ true = eq-eqb g.0 p (here ∙ same) in (let no : false ≡ true = sym both.0 ∙ t in absurd cc) in
          stands_between word n (position + 1) high p g.1 gs (omega (arith, e)) (subst (λ k. AreLaid k high gs) (omega (arith, here, behind_boundary (position + 1) g.1 fit.2)) fit.3) (omega (arith, low, other)) up both.1
      | false ↦ λ not.
          let others : g.0 ≡ position → ⊥ = λ is. let t : eqb g.0 position ≡ true = eq-eqb g.0 position is in absurd cc in
          let later : position + 1 ≤ g.0 = omega (arith, fit.0, behind_least position before, others) in
          elim (eqb position p) as (λ b. eqb position p ≡ b → stands_in (token word position before ∷ words_between word n (position + 1) kinds.None (g ∷ gs)) p ≡ true) [
            | true ↦ λ is. first_stands word position p before (words_between word n (position + 1) kinds.None (g ∷ gs)) (eqb-true position p is)
            | false ↦ λ no.
                let other : position ≡ p → ⊥ = λ is. let t : eqb position p ≡ true = eq-eqb position p is in absurd cc in
                or_later (eqb position p) (stands_in (words_between word n (position + 1) kinds.None (g ∷ gs)) p)
                (stands_between word n (position + 1) high p kinds.None (g ∷ gs) (omega (arith, e)) (later, fit.1, fit.2, fit.3) (omega (arith, low, other)) up free)
          ] refl
    ] refl

-- ---- how many words there are

pub count_between : (owners : ℕ → ℕ) (word : ℕ → List ℕ) (n position high : ℕ) (before : Gap) (gs : List (ℕ × Gap)) → high + 1 ≡ position + n
    → AreLaid (behind position before) high gs
    → ((at : ℕ) → position ≤ at → at ≤ high → is_taken gs at ≡ false → 1 ≤ owners at) → length (words_between word n position before gs) ≤ total owners (from_on n position)
count_between owners word zero position high before gs e fit each = omega arith
count_between owners word (suc n) position high before [] e fit each =
    omega (arith, each position (omega arith) (omega (arith, e)) refl, count_between owners word n (position + 1) high kinds.None [] (omega (arith, e)) tt (λ at low up free. each at (omega (arith, low)) up free))
count_between owners word (suc n) position high before (g ∷ gs) e fit each =
    elim (eqb g.0 position) as (λ b. eqb g.0 position ≡ b → length (cond b (words_between word n (position + 1) g.1 gs) (token word position before ∷ words_between word n (position + 1) kinds.None (g ∷ gs))) ≤ total owners (from_on (suc n) position)) [
      | true ↦ λ is.
          let here : g.0 ≡ position = eqb-true g.0 position is in
          omega (
            arith,
            count_between owners word n (position + 1) high g.1 gs (omega (arith, e)) (subst (λ k. AreLaid k high gs) (omega (arith, here, behind_boundary (position + 1) g.1 fit.2)) fit.3)
                (λ at low up free. each at (omega (arith, low)) up (ap (λ b. b || is_taken gs at) (differ g.0 at (omega (arith, here, low))) ∙ free)),
          )
      | false ↦ λ not.
          let other : g.0 ≡ position → ⊥ = λ is. let t : eqb g.0 position ≡ true = eq-eqb g.0 position is in absurd cc in
          let later : position + 1 ≤ g.0 = omega (arith, fit.0, behind_least position before, other) in
          omega (
            arith,
            each position (omega arith) (omega (arith, e)) (not_taken (position + 1) high position (g ∷ gs) (later, fit.1, fit.2, fit.3) (omega arith)),
            count_between owners word n (position + 1) high kinds.None (g ∷ gs) (omega (arith, e)) (later, fit.1, fit.2, fit.3) (λ at low up free. each at (omega (arith, low)) up free),
          )
    ] refl
