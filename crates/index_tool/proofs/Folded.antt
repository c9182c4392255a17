-- Characters that are folded one after the other.
use Rattle.std.proofs.Common.{◌≡◌, ℕ, zero, suc, ◌+◌, ◌<◌, ◌≤◌, Bool, true, false, cond, List, [], ◌∷◌, ◌++◌, Some, None, refl, sym, ◌∙◌, ap, arith, length, get_or, take, append-nil, append_assoc}
use Rattle.std.specs.Prelude.{Option, encode_utf8, encode_utf8_all, nat_lt, option_map}
use Rattle.std.specs.Option.{option_and_then}
use Rattle.std.specs.Str.{chars}
use Rattle.std.proofs.lemmas.Bool.{le-ltb, lt-ltb}
use Rattle.std.proofs.lemmas.List.{take_more}
use Rattle.std.proofs.Math.Seq.{take_all}
use Rattle.doc_types.specs.declared.tokens.TheConstants.{MAX_WORD_CHARS}
use Rattle.index_tool.specs.Folding.{fold_all, folded_word}

-- a character that is folded, before others that are
abbrev put : Option ℕ → Option (List ℕ) → Option (List ℕ)
put o r = option_and_then (λ (letter : ℕ). option_map (λ (letters : List ℕ). letter ∷ letters) r) o

put_none : (o : Option ℕ) → put o None ≡ None
put_none None = refl
put_none (Some letter) = refl

record Both (o : Option ℕ) (r : Option (List ℕ)) (xs : List ℕ) : Type 0 where
  letter : ℕ
  letters : List ℕ
  first : o ≡ Some letter
  others : r ≡ Some letters
  all : xs ≡ letter ∷ letters

both : (o : Option ℕ) (r : Option (List ℕ)) (xs : List ℕ) → put o r ≡ Some xs → Both o r xs
both None r xs e = absurd cc
both (Some letter) None xs e = absurd cc
both (Some letter) (Some letters) xs e =
    let same : Some (letter ∷ letters) ≡ Some xs = e in
    let is : letter ∷ letters ≡ xs = cc in record { letter = letter; letters = letters; first = refl; others = refl; all = sym is }

fold_one : (fold : ℕ → Option ℕ) (cs xs : List ℕ) (c letter : ℕ) → fold_all fold cs ≡ Some xs → fold c ≡ Some letter → fold_all fold (cs ++ c ∷ []) ≡ Some (xs ++ letter ∷ [])
fold_one fold [] xs c letter e is =
    let same : Some [] ≡ Some xs = e in
    let none : [] ≡ xs = cc in
    ap (λ (o : Option ℕ). put o (Some [])) is ∙ ap (λ (x : List ℕ). Some (x ++ letter ∷ [])) none
fold_one fold (b ∷ cs) xs c letter e is =
    let its : Both (fold b) (fold_all fold cs) xs = both (fold b) (fold_all fold cs) xs e in
    ap (λ (o : Option ℕ). put o (fold_all fold (cs ++ c ∷ []))) its.first ∙ ap (put (Some its.letter)) (fold_one fold cs its.letters c letter its.others is)
    ∙ ap (λ (x : List ℕ). Some (x ++ letter ∷ [])) (sym its.all)

encode_one : (xs : List ℕ) (c : ℕ) → encode_utf8_all (xs ++ c ∷ []) ≡ encode_utf8_all xs ++ encode_utf8 c
encode_one [] c = append-nil (encode_utf8 c)
encode_one (x ∷ xs) c = ap (λ (l : List ℕ). encode_utf8 x ++ l) (encode_one xs c) ∙ sym (append_assoc (encode_utf8 x) (encode_utf8_all xs) (encode_utf8 c))

-- what was folded of the first characters, with its bytes
abbrev pub IsFolded : (ℕ → Option ℕ) → List ℕ → ℕ → List ℕ → Type 0
IsFolded fold cs n bytes = (letters : List ℕ) × (fold_all fold (take n cs) ≡ Some letters) × (bytes ≡ encode_utf8_all letters)

pub folded_more : (fold : ℕ → Option ℕ) (cs : List ℕ) (n c letter : ℕ) (bytes more : List ℕ) → n < length cs → c ≡ get_or cs n c → fold c ≡ Some letter → more ≡ bytes ++ encode_utf8 letter → IsFolded fold cs n bytes → IsFolded fold cs (n + 1) more
folded_more fold cs n c letter bytes more low at is put (letters, folds, are) = (
  letters ++ letter ∷ [],
  ap (fold_all fold) (take_more cs n c low ∙ ap (λ (x : ℕ). take n cs ++ x ∷ []) (sym at)) ∙ fold_one fold (take n cs) letters c letter folds is,
  put ∙ ap (λ (l : List ℕ). l ++ encode_utf8 letter) are ∙ sym (encode_one letters letter),
)

stops : (fold : ℕ → Option ℕ) (cs : List ℕ) (n d : ℕ) → n < length cs → fold (get_or cs n d) ≡ None → fold_all fold cs ≡ None
stops fold [] n d low is = absurd (omega (arith, low))
stops fold (c ∷ cs) zero d low is = ap (λ (o : Option ℕ). put o (fold_all fold cs)) is
stops fold (c ∷ cs) (suc n) d low is = ap (put (fold c)) (stops fold cs n d (omega (arith, low)) is) ∙ put_none (fold c)

either : (b : Bool) → cond b None (option_map encode_utf8_all None) ≡ None
either true = refl
either false = refl

-- a character isn't in the table
pub folded_none : (fold : ℕ → Option ℕ) (text : List ℕ) (n c : ℕ) → n < length (chars text) → c ≡ get_or (chars text) n c → fold c ≡ None → folded_word fold text ≡ None
folded_none fold text n c low at is =
    let none : fold_all fold (chars text) ≡ None = stops fold (chars text) n c low (ap fold (sym at) ∙ is) in
    ap (λ (o : Option (List ℕ)). cond (nat_lt MAX_WORD_CHARS (length (chars text))) None (option_map encode_utf8_all o)) none ∙ either (nat_lt MAX_WORD_CHARS (length (chars text)))

-- there are too many characters
pub folded_long : (fold : ℕ → Option ℕ) (text : List ℕ) → MAX_WORD_CHARS < length (chars text) → folded_word fold text ≡ None
folded_long fold text long = ap (λ (b : Bool). cond b None (option_map encode_utf8_all (fold_all fold (chars text)))) (lt-ltb MAX_WORD_CHARS (length (chars text)) long)

-- all are folded
pub folded_all : (fold : ℕ → Option ℕ) (text : List ℕ) (n : ℕ) (bytes : List ℕ) → length (chars text) ≤ n → n ≤ MAX_WORD_CHARS → IsFolded fold (chars text) n bytes → folded_word fold text ≡ Some bytes
folded_all fold text n bytes all few (letters, folds, are) =
    ap (λ (b : Bool). cond b None (option_map encode_utf8_all (fold_all fold (chars text)))) (le-ltb MAX_WORD_CHARS (length (chars text)) (omega (arith, all, few)))
    ∙ ap (option_map encode_utf8_all) (ap (fold_all fold) (sym (take_all n (chars text) all)) ∙ folds) ∙ ap Some (sym are)
