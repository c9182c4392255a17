-- Places grouped by their rows.
use Rattle.std.proofs.Common.{◌≡◌, ℕ, ◌+◌, ◌<◌, ◌≤◌, ◌^◌, List, [], ◌∷◌, ◌++◌, true, false, cond, ◌==◌, length, map, refl, ap, ◌∙◌, arith, eq-eqb, zero, All}
use Rattle.std.specs.List.{filter, enumerate_from}
use Rattle.std.proofs.lemmas.Bool.Decides.{nat_tests}
use Rattle.doc_types.specs.declared.documents.DocRow.{DocRow}
use Rattle.doc_types.specs.Chunks.{has_word, hits_of}
use Rattle.doc_types.proofs.Numbers.{All-tail}
use Rattle.chunk_image.specs.AlikeRows.{postings}
use Rattle.chunk_image.proofs.RowsPosted.{HasFields, are_hits}
use Rattle.image_write.specs.steps.Gathering.{Place, Entry, ArePostable, grouped, joined, places_of}

apart : (a b : ℕ) → (a ≡ b → ⊥) → (a == b) ≡ false
apart a b ne = grind (arith, nat_tests)

-- the first of these entries, and of these places, isn't of this row
abbrev Others : ℕ → List Entry → Type 0
Others row [] = Unit {0}
Others row (e ∷ es) = row ≡ e.0 → ⊥

abbrev pub Behind : ℕ → List Place → Type 0
Behind row [] = Unit {0}
Behind row (p ∷ ps) = row ≡ p.0 → ⊥

joined_others : (row : ℕ) (hit : ℕ × ℕ) (es : List Entry) → Others row es → joined (row, hit) es ≡ (row, hit ∷ []) ∷ es
joined_others row hit [] others = refl
joined_others row hit (e ∷ es) others = rw (apart row e.0 others) refl

joined_row : (row : ℕ) (p : Place) (es : List Entry) → (row ≡ p.0 → ⊥) → Others row (joined p es)
joined_row row p [] ne = ne
joined_row row p (e ∷ es) ne =
    elim (p.0 == e.0) as (λ b. Others row (cond b ((p.0, p.1 ∷ e.1) ∷ es) ((p.0, p.1 ∷ []) ∷ e ∷ es))) [
      | true ↦ ne
      | false ↦ ne
    ]

behind_others : (row : ℕ) (places : List Place) → Behind row places → Others row (grouped places)
behind_others row [] behind = tt
behind_others row (p ∷ ps) behind = joined_row row p (grouped ps) behind

-- the places of one row, before others, are an entry
pub one_entry : (row : ℕ) (hits : List (ℕ × ℕ)) (rest : List Place) → 1 ≤ length hits → Behind row rest → grouped (map (λ hit. (row, hit)) hits ++ rest) ≡ (row, hits) ∷ grouped rest
one_entry row [] rest some behind = absurd (omega (arith, some))
one_entry row (h ∷ []) rest some behind = joined_others row h (grouped rest) (behind_others row rest behind)
one_entry row (h ∷ g ∷ hs) rest some behind = ap (joined (row, h)) (one_entry row (g ∷ hs) rest (omega arith) behind) ∙ rw (eq-eqb row row refl) refl

-- the places of entries, grouped, are the entries
first_behind : (row least : ℕ) (es : List Entry) → row < least → ArePostable least es → Behind row (places_of es)
first_behind row least [] low fits = tt
first_behind row least ((n, []) ∷ es) low fits = absurd (omega (arith, fits.0.are.some))
first_behind row least ((n, h ∷ hs) ∷ es) low fits = λ e. omega (arith, e, low, fits.0.behind)

pub grouped_places : (least : ℕ) (es : List Entry) → ArePostable least es → grouped (places_of es) ≡ es
grouped_places least [] fits = refl
grouped_places least (e ∷ es) fits =
    one_entry e.0 e.1 (places_of es) fits.0.are.some (first_behind e.0 (e.0 + 1) es (omega arith) fits.1) ∙ ap (λ l. e ∷ l) (grouped_places (e.0 + 1) es fits.1)

-- what a word has in rows of a schema can be posted
weaker : (least more : ℕ) (es : List Entry) → least ≤ more → ArePostable more es → ArePostable least es
weaker least more [] low fits = tt
weaker least more (e ∷ es) low fits = (record { behind = omega (arith, low, fits.0.behind); counted = fits.0.counted; are = fits.0.are }, fits.1)

pub postable : (word : List ℕ) (n : ℕ) (rows : List DocRow) → n + length rows < 2 ^ 32 → All HasFields rows → ArePostable n (postings word n rows)
postable word n [] few are = tt
postable word n (r ∷ rs) few are =
    let rest = postable word (n + 1) rs (omega (arith, few)) (All-tail HasFields r rs are) in
    let own = are zero r (omega arith) in
    elim (has_word word r) as (λ b. has_word word r ≡ b → ArePostable n (map (λ (e : ℕ × DocRow). (e.0, hits_of word e.1)) (cond b ((n, r) ∷ filter (λ e. has_word word e.1) (enumerate_from (n + 1) rs)) (filter (λ e. has_word word e.1) (enumerate_from (n + 1) rs))))) [
      | true ↦ λ has. (record { behind = omega arith; counted = omega (arith, few); are = are_hits word r own.few own.are has }, rest)
      | false ↦ λ _. weaker n (n + 1) (postings word (n + 1) rs) (omega arith) rest
    ] refl
