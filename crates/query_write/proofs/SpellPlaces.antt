-- Places in a text, by what stands from there on.
use Rattle.std.proofs.Common.{◌≡◌, ℕ, ◌+◌, ◌-◌, ◌<◌, Bool, true, false, eqb, List, [], ◌∷◌, ◌++◌, ◌&&◌, length, get_or, take, drop, refl, sym, ap, ap₂, ◌∙◌, subst, arith, ⊎_elim, length-drop, get_or-drop, slice_range, chars}
use Rattle.std.specs.List.{prefix_len}
use Rattle.std.proofs.lemmas.Bool.{cases_lt, cond-false, ne_eqb, and_left, and_parts, eqb-true, eq-eqb}
use Rattle.std.proofs.lemmas.List.{drop-drop, drop_at, take_at, get_or_default, get_or_past}
use Rattle.query_pieces.specs.QueryBytes.{byte, byte_before, spells, run_end}
use Rattle.query_pieces.specs.Letters.{char_at, first_of}
use Rattle.query_pieces.proofs.ByteRuns.{byte_within, byte_past}

-- From the place on the text is this.
pub record IsRest (text : List ℕ) (place : ℕ) (rest : List ℕ) : Type 0 where
  pub is : drop place text ≡ rest

pub rest_whole : (text : List ℕ) → IsRest text 0 text
rest_whole text = record { is = refl }

pub rest_past : (text : List ℕ) (place : ℕ) (front rest : List ℕ) → IsRest text place (front ++ rest) → IsRest text (place + length front) rest
rest_past text place front rest r = record { is = sym (drop-drop (length front) place text) ∙ ap (drop (length front)) r.is ∙ drop_at front rest (length front) refl }

pub rest_next : (text : List ℕ) (place b : ℕ) (rest : List ℕ) → IsRest text place (b ∷ rest) → IsRest text (place + 1) rest
rest_next text place b rest r = rest_past text place (b ∷ []) rest r

pub rest_to : (text : List ℕ) (place to : ℕ) (front rest : List ℕ) → to ≡ place + length front → IsRest text place (front ++ rest) → IsRest text to rest
rest_to text place to front rest e r = subst (λ n. IsRest text n rest) (sym e) (rest_past text place front rest r)

pub byte_is : (text : List ℕ) (place : ℕ) → byte text place ≡ get_or text place 32
byte_is text place =
    ⊎_elim (λ below. byte_within text place below ∙ get_or_default text place 0 32 below)
    (λ past. byte_past text place past ∙ sym (get_or_past text place 32 past))
    (cases_lt place (length text))

pub byte_on : (text : List ℕ) (place k : ℕ) (rest : List ℕ) → IsRest text place rest → byte text (place + k) ≡ get_or rest k 32
byte_on text place k rest r = byte_is text (place + k) ∙ sym (get_or-drop place text k 32) ∙ ap (λ (l : List ℕ). get_or l k 32) r.is

pub byte_first : (text : List ℕ) (place : ℕ) (rest : List ℕ) → IsRest text place rest → byte text place ≡ get_or rest 0 32
byte_first text place rest r = let e : place ≡ place + 0 = omega arith in ap (byte text) e ∙ byte_on text place 0 rest r

pub before_on : (text : List ℕ) (place k : ℕ) (rest : List ℕ) → IsRest text place rest → byte_before text (place + k + 1) ≡ get_or rest k 32
unfolding byte_before
before_on text place k rest r =
    let e : place + k + 1 - 1 ≡ place + k = omega arith in
    cond-false (eqb (place + k + 1) 0) 32 (byte text (place + k + 1 - 1)) (ne_eqb (place + k + 1) 0 (λ z. omega (arith, z)))
    ∙ ap (byte text) e ∙ byte_on text place k rest r

pub before_next : (text : List ℕ) (place b : ℕ) (rest : List ℕ) → IsRest text place (b ∷ rest) → byte_before text (place + 1) ≡ b
before_next text place b rest r = let e : place + 1 ≡ place + 0 + 1 = omega arith in ap (byte_before text) e ∙ before_on text place 0 (b ∷ rest) r

pub before_start : (text : List ℕ) → byte_before text 0 ≡ 32
unfolding byte_before
before_start text = refl

pub rest_inside : (text : List ℕ) (place b : ℕ) (rest : List ℕ) → IsRest text place (b ∷ rest) → place < length text
rest_inside text place b rest r = omega (arith, length-drop place text, ap length r.is)

-- where a run ends
pub run_at : (test : ℕ → Bool) (text : List ℕ) (place : ℕ) (rest : List ℕ) → IsRest text place rest → run_end test text place ≡ place + prefix_len test rest
unfolding run_end
run_at test text place rest r = ap (λ (l : List ℕ). place + prefix_len test l) r.is

pub char_is_at : (text : List ℕ) (place : ℕ) (rest : List ℕ) → IsRest text place rest → char_at text place ≡ first_of (chars rest)
unfolding char_at
char_is_at text place rest r = ap (λ (l : List ℕ). first_of (chars l)) r.is

-- the bytes between two places
pub slice_at : (text : List ℕ) (place to : ℕ) (front rest : List ℕ) → to ≡ place + length front → IsRest text place (front ++ rest) → slice_range text place to ≡ front
slice_at text place to front rest e r =
    let n : length front ≡ to - place = omega (arith, e) in
    ap (take (to - place)) r.is ∙ take_at front rest (to - place) n

-- some bytes are a prefix of others, after which there are blanks
abbrev pub begins : List ℕ → List ℕ → Bool
begins [] rest = true
begins (b ∷ bytes) [] = eqb 32 b && begins bytes []
begins (b ∷ bytes) (x ∷ rest) = eqb x b && begins bytes rest

rest_none : (text : List ℕ) (place : ℕ) → IsRest text place [] → IsRest text (place + 1) []
rest_none text place r = record { is = sym (drop-drop 1 place text) ∙ ap (drop 1) r.is }

pub spells_is : (text : List ℕ) (place : ℕ) (bytes rest : List ℕ) → IsRest text place rest → spells text place bytes ≡ begins bytes rest
spells_is text place [] rest r = refl
spells_is text place (b ∷ bytes) [] r = ap₂ (λ (x : ℕ) (y : Bool). eqb x b && y) (byte_first text place [] r) (spells_is text (place + 1) bytes [] (rest_none text place r))
spells_is text place (b ∷ bytes) (x ∷ rest) r = ap₂ (λ (z : ℕ) (y : Bool). eqb z b && y) (byte_first text place (x ∷ rest) r) (spells_is text (place + 1) bytes rest (rest_next text place x rest r))

pub begins_apart : (b : ℕ) (bytes rest : List ℕ) → eqb (get_or rest 0 32) b ≡ false → begins (b ∷ bytes) rest ≡ false
begins_apart b bytes [] e = and_left (eqb 32 b) (begins bytes []) e
begins_apart b bytes (x ∷ rest) e = and_left (eqb x b) (begins bytes rest) e

pub begins_first : (b : ℕ) (bytes rest : List ℕ) → begins (b ∷ bytes) rest ≡ true → get_or rest 0 32 ≡ b
begins_first b bytes [] e = eqb-true 32 b (and_parts (eqb 32 b) (begins bytes []) e).0
begins_first b bytes (x ∷ rest) e = eqb-true x b (and_parts (eqb x b) (begins bytes rest) e).0

pub begins_same : (bytes rest : List ℕ) → begins bytes (bytes ++ rest) ≡ true
begins_same [] rest = refl
begins_same (b ∷ bytes) rest = ap₂ (λ (x y : Bool). x && y) (same b) (begins_same bytes rest)
  where
    same : (b : ℕ) → eqb b b ≡ true
    same b = eq-eqb b b refl
