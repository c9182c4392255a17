-- The marks of fields, one field at a time.
use Rattle.std.proofs.Common.{◌≡◌, ℕ, suc, ◌+◌, ◌<◌, ◌≤◌, List, [], ◌∷◌, ◌++◌, length, get_or, take, drop, map, refl, sym, ap, subst, ◌∙◌, append_assoc}
use Rattle.std.specs.List.{flat_map}
use Rattle.std.proofs.lemmas.List.{drop_at, drop_more, get_or_default, map-append, take_all, take_at, take_more}
use Rattle.doc_types.specs.declared.tokens.FieldTokens.{FieldTokens}
use Rattle.doc_types.specs.declared.tokens.Gap.{Gap}
use Rattle.doc_types.specs.Chunks.{gaps_of, last_position}
use Rattle.chunk_image.specs.Marks.{field_numbers, gap_numbers}
use Rattle.image_parts.specs.steps.Reading.{AreNumbersAt}
use Rattle.image_parts.proofs.RowPlaces.{element}

-- the element at a place, with what lies before it and behind it
pub record Ahead {X : Type 0} (xs : List X) (i : ℕ) : Type 0 where
  pub one : X
  pub is : one ≡ get_or xs i one
  pub drops : drop i xs ≡ one ∷ drop (i + 1) xs
  pub takes : take (i + 1) xs ≡ take i xs ++ one ∷ []

pub ahead : {X : Type 0} (xs : List X) (i : ℕ) → i < length xs → Ahead xs i
ahead xs i low =
    let x = (element xs i low).0 in
    record { one = get_or xs i x; is = get_or_default xs i x (get_or xs i x) low; drops = drop_more xs i x low; takes = take_more xs i x low }

pub numbered : (before : ℕ) (gs : List (ℕ × Gap)) → length (gap_numbers before gs) ≡ length gs
numbered before [] = refl
numbered before (g ∷ gs) = ap suc (numbered g.0 gs)

-- behind so many numbers
pub passed : (bytes : List ℕ) (at count : ℕ) (numbers others : List ℕ) → count ≡ length numbers → AreNumbersAt bytes at (drop count (numbers ++ others)) → AreNumbersAt bytes at others
passed bytes at count numbers others e are = subst (AreNumbersAt bytes at) (drop_at numbers others count (sym e)) are

-- what lies behind a field's marks
abbrev pub later : List FieldTokens → ℕ → List ℕ → List ℕ
later fields i others = flat_map field_numbers (drop (i + 1) fields) ++ others

abbrev pub gaps_in : FieldTokens → List ℕ
gaps_in tokens = gap_numbers 0 (gaps_of tokens)

pub record FieldStep (bytes : List ℕ) (place : ℕ) (fields : List FieldTokens) (i : ℕ) (others : List ℕ) : Type 0 where
  pub field : Ahead fields i
  pub numbers : AreNumbersAt bytes place (last_position field.one ∷ (length (gaps_in field.one) ∷ (gaps_in field.one ++ later fields i others)))

pub field_step : (bytes : List ℕ) (place : ℕ) (fields : List FieldTokens) (i : ℕ) (others : List ℕ) → i < length fields → AreNumbersAt bytes place (flat_map field_numbers (drop i fields) ++ others) → FieldStep bytes place fields i others
field_step bytes place fields i others low are =
    let a = ahead fields i low in
    let f = a.one in
    let here : flat_map field_numbers (drop i fields) ++ others ≡ last_position f ∷ (length (gaps_of f) ∷ (gaps_in f ++ flat_map field_numbers (drop (i + 1) fields) ++ others)) =
    ap (λ fs. flat_map field_numbers fs ++ others) a.drops in
    let joined : last_position f ∷ (length (gaps_of f) ∷ (gaps_in f ++ flat_map field_numbers (drop (i + 1) fields) ++ others)) ≡ last_position f ∷ (length (gaps_in f) ∷ (gaps_in f ++ later fields i others)) =
    ap (λ l. last_position f ∷ (length (gaps_of f) ∷ l)) (append_assoc (gaps_in f) (flat_map field_numbers (drop (i + 1) fields)) others)
    ∙ ap (λ n. last_position f ∷ (n ∷ (gaps_in f ++ later fields i others))) (sym (numbered 0 (gaps_of f))) in
    record { field = a; numbers = subst (AreNumbersAt bytes place) (here ∙ joined) are }

-- a list that grew by one element
pub grown_more : {X Y : Type 0} (f : X → Y) (xs : List X) (i : ℕ) (a : Ahead xs i) (start now after : List Y) → now ≡ start ++ map f (take i xs) → after ≡ now ++ f a.one ∷ [] → after ≡ start ++ map f (take (i + 1) xs)
grown_more f xs i a start now after was put =
    put ∙ ap (λ l. l ++ f a.one ∷ []) was ∙ append_assoc start (map f (take i xs)) (f a.one ∷ [])
    ∙ ap (λ l. start ++ l) (sym (ap (map f) a.takes ∙ map-append f (take i xs) (a.one ∷ [])))

-- and at the end
pub grown_all : {X Y : Type 0} (f : X → Y) (xs : List X) (i : ℕ) (start now : List Y) → length xs ≤ i → now ≡ start ++ map f (take i xs) → now ≡ start ++ map f xs
grown_all f xs i start now all was = was ∙ ap (λ l. start ++ map f l) (take_all i xs all)

pub front_kept : {Y : Type 0} (start more now : List Y) → now ≡ start ++ more → take (length start) now ≡ start
front_kept start more now e = ap (take (length start)) e ∙ take_at start more (length start) refl
