-- Occurrences as they are met, one word, field or document more at a time.
use Rattle.std.proofs.Common.{◌≡◌, ℕ, ◌+◌, ◌<◌, ◌≤◌, List, [], ◌∷◌, ◌++◌, refl, sym, ap, subst, ◌∙◌, length, drop, take, get_or, map, arith, append_assoc, append-nil, length-drop, All, zero, suc}
use Rattle.std.proofs.lemmas.List.Elements.{All-cons, All-head, All-tail}
use Rattle.doc_types.specs.declared.documents.Doc.{Doc}
use Rattle.doc_types.specs.declared.tokens.FieldTokens.{FieldTokens}
use Rattle.doc_types.specs.declared.tokens.TheConstants.{MAX_POSITION}
use Rattle.doc_types.specs.declared.tokens.TokenWord.{TokenWord}
use Rattle.doc_types.specs.declared.tokens.Gap.{Gap}
use Rattle.doc_types.specs.declared.tokens.Gap.TheVariants as gaps
use Rattle.doc_types.specs.Documents.{Follow, IsField, step}
use Rattle.image_write.specs.declared.gathering.Occurrence.{Occurrence}
use Rattle.image_write.specs.steps.Places.{AreFew, HasFewWords, doc_places, docs_places, field_places, occurrence_of}
use Rattle.image_write.proofs.Marked.{drop_next}

-- a part more of what is ahead is written
ahead : {X : Type 0} (here own rest now after all : List X) → here ≡ own ++ rest → now ++ here ≡ all → after ≡ now ++ own → after ++ rest ≡ all
ahead here own rest now after all is was put = ap (λ l. l ++ rest) put ∙ append_assoc now own rest ∙ ap (λ l. now ++ l) (sym is) ∙ was

pub word_more : (row field i : ℕ) (ts : List TokenWord) (t : TokenWord) (now after all : List Occurrence) → i < length ts → t ≡ get_or ts i t
    → now ++ field_places row field i (drop i ts) ≡ all → after ≡ now ++ occurrence_of row field i t ∷ [] → after ++ field_places row field (i + 1) (drop (i + 1) ts) ≡ all
word_more row field i ts t now after all low is was put =
    ahead (field_places row field i (drop i ts)) (occurrence_of row field i t ∷ []) (field_places row field (i + 1) (drop (i + 1) ts)) now after all
    (ap (field_places row field i) (drop_next ts i t low is)) was put

pub field_more : (row i : ℕ) (fs : List FieldTokens) (f : FieldTokens) (now after all : List Occurrence) → i < length fs → f ≡ get_or fs i f
    → now ++ doc_places row i (drop i fs) ≡ all → after ≡ now ++ field_places row i 0 f.words → after ++ doc_places row (i + 1) (drop (i + 1) fs) ≡ all
field_more row i fs f now after all low is was put =
    ahead (doc_places row i (drop i fs)) (field_places row i 0 f.words) (doc_places row (i + 1) (drop (i + 1) fs)) now after all
    (ap (doc_places row i) (drop_next fs i f low is)) was put

pub doc_more : {X : Type 0} (lent : X → Doc) (i : ℕ) (rows : List X) (row : X) (now after all : List Occurrence) → i < length rows → row ≡ get_or rows i row
    → now ++ docs_places i (map lent (drop i rows)) ≡ all → after ≡ now ++ doc_places i 0 (lent row).fields → after ++ docs_places (i + 1) (map lent (drop (i + 1) rows)) ≡ all
doc_more lent i rows row now after all low is was put =
    ahead (docs_places i (map lent (drop i rows))) (doc_places i 0 (lent row).fields) (docs_places (i + 1) (map lent (drop (i + 1) rows))) now after all
    (ap (λ ds. docs_places i (map lent ds)) (drop_next rows i row low is)) was put

none_left : {X : Type 0} (xs : List X) (i : ℕ) → length xs ≤ i → drop i xs ≡ []
none_left xs i past = empty (drop i xs) (omega (arith, length-drop i xs, past))
  where
    empty : {X : Type 0} (xs : List X) → length xs ≤ 0 → xs ≡ []
    empty [] few = refl
    empty (x ∷ xs) few = absurd (omega (arith, few))

-- nothing is ahead at the end
pub all_met : {X Y : Type 0} (f : List X → List Y) (xs : List X) (i : ℕ) (now all : List Y) → f [] ≡ [] → length xs ≤ i → now ++ f (drop i xs) ≡ all → now ≡ all
all_met f xs i now all none past was = sym (append-nil now) ∙ ap (λ l. now ++ l) (sym none ∙ ap f (sym (none_left xs i past))) ∙ was

pub taken_past : {X : Type 0} (xs : List X) (i : ℕ) → length xs ≤ i → take i xs ≡ xs
taken_past [] zero past = refl
taken_past [] (suc i) past = refl
taken_past (x ∷ xs) zero past = absurd (omega (arith, past))
taken_past (x ∷ xs) (suc i) past = ap (λ l. x ∷ l) (taken_past xs i (omega (arith, past)))

pub all_taken : {X : Type 0} (P : X → Type 0) (xs : List X) (i : ℕ) → length xs ≤ i → All P (take i xs) → All P xs
all_taken P xs i past all = subst (All P) (taken_past xs i past) all

-- an element of a list of what is lent
pub lent_at : {X Y : Type 0} (P : Y → Type 0) (f : X → Y) (xs : List X) (i : ℕ) (x : X) → i < length xs → x ≡ get_or xs i x → All P (map f xs) → P (f x)
lent_at P f [] i x low is all = absurd (omega (arith, low))
lent_at P f (y ∷ ys) zero x low is all = subst (λ z. P (f z)) (sym is) (All-head P (f y) (map f ys) all)
lent_at P f (y ∷ ys) (suc i) x low is all = lent_at P f ys i x (omega (arith, low)) is (All-tail P (f y) (map f ys) all)

-- fields of documents of a schema have few words
within : (before : ℕ) (words : List TokenWord) → Follow before words → All (λ word. word.position ≤ MAX_POSITION) words → before ≤ MAX_POSITION → before + length words ≤ MAX_POSITION
within before [] follow positions low = omega (arith, low)
within before (word ∷ words) follow positions low =
    let rest = within word.position words follow.1 (All-tail (λ (w : TokenWord). w.position ≤ MAX_POSITION) word words positions) (All-head (λ (w : TokenWord). w.position ≤ MAX_POSITION) word words positions) in
    omega (arith, rest, follow.0, some_step word.gap)
  where
    some_step : (gap : Gap) → 1 ≤ step gap
    some_step gaps.None = omega arith
    some_step gaps.Sentence = omega arith
    some_step gaps.Paragraph = omega arith

pub few_words : (tokens : FieldTokens) → IsField tokens → HasFewWords tokens
few_words tokens field = record { few = omega (arith, within 0 tokens.words field.placed.follow field.within (omega arith)); within = λ k d h. omega (arith, field.within k d h) }

pub are_few : (doc : Doc) → length doc.fields ≤ 32 → All IsField doc.fields → AreFew doc
are_few doc few are = record { few = few; words = λ k d h. few_words _ (are k d h) }

-- each of what is lent has a property
pub all_lent : {X Y : Type 0} (P : Y → Type 0) (f : X → Y) (xs : List X) (i : ℕ) → length xs ≤ i → All (λ x. P (f x)) (take i xs) → All P (map f xs)
all_lent {X = X} P f xs i past all = each xs (all_taken (λ x. P (f x)) xs i past all)
  where
    each : (ys : List X) → All (λ x. P (f x)) ys → All P (map f ys)
    each [] all = λ k d h. absurd (omega (arith, h))
    each (y ∷ ys) all = All-cons P (f y) (map f ys) (All-head (λ x. P (f x)) y ys all) (each ys (All-tail (λ x. P (f x)) y ys all))
