-- Words that are options, as pairs.
use Rattle.std.proofs.Common.{◌≡◌, ◌∙◌, ◌&&◌, ◌||◌, ℕ, Bool, cond, true, false, not, refl, sym, ap, ap₂, subst, true≢false, List, [], ◌∷◌, Option, Some, None}
use Rattle.std.specs.Prelude.{Result, Ok, Err, IfErr, codes, option_map, option_and_then, find}
use Rattle.std.specs.Option.{is_some, option_map_or}
use Rattle.std.specs.List.{list_any}
use Rattle.std.specs.Str.{bytes_eq}
use Rattle.command_line.specs.Modes.{Mode, Pair, Values, are_options, by_options, has_option, may_be_value, pairs, session_options, value_of}
use Rattle.command_line.specs.steps.Words.{are_options_in, config_in, has_option_in, is_option_before, value_in}

pub some_is : {A : Type 0} (x y : A) → Some x ≡ Some y → x ≡ y
some_is x y e = ap (λ o. cased o x) e
  where
    cased : {A : Type 0} → Option A → A → A
    cased None d = d
    cased (Some z) d = z

pub no_some : {A : Type 0} (x : A) → None ≡ Some x → ⊥
no_some x e = true≢false (sym (ap (λ o. Rattle.std.specs.Option.is_some o) e))

-- what holds of pairs by one more
by_pair : (P : List Pair → Type 0) (pair : Pair) (o : Option (List Pair)) (list : List Pair) → option_map (λ more. pair ∷ more) o ≡ Some list
    → ((more : List Pair) → o ≡ Some more → P (pair ∷ more)) → P list
by_pair P pair None list e h = absurd (no_some list e)
by_pair P pair (Some more) list e h = subst P (some_is (pair ∷ more) list e) (h more refl)

-- an option by words is one by pairs
pub has_is : (name : List ℕ) (words : List (List ℕ)) (list : List Pair) → pairs words ≡ Some list → has_option_in name words ≡ has_option name list
has_is name [] list e = ap (has_option name) (some_is [] list e)
has_is name (o ∷ []) list e = absurd (no_some list e)
has_is name (o ∷ v ∷ more) list e = by_pair (λ l. has_option_in name (o ∷ v ∷ more) ≡ has_option name l) (o, v) (pairs more) list e
    (λ rest is. ap (λ b. bytes_eq o name || b) (has_is name more rest is))

-- and so is a value
pub value_is : (name : List ℕ) (words : List (List ℕ)) (list : List Pair) → pairs words ≡ Some list → value_in name words ≡ value_of name list
value_is name [] list e = ap (value_of name) (some_is [] list e)
value_is name (o ∷ []) list e = absurd (no_some list e)
value_is name (o ∷ v ∷ more) list e = by_pair (λ l. value_in name (o ∷ v ∷ more) ≡ value_of name l) (o, v) (pairs more) list e
    (λ rest is. by (bytes_eq o name) rest (value_is name more rest is))
  where
    by : (b : Bool) (rest : List Pair) → value_in name more ≡ value_of name rest
        → cond b (Some v) (value_in name more) ≡ option_map (λ (pair : Pair). pair.1) (cond b (Some (o, v)) (find (λ pair. bytes_eq pair.0 name) rest))
    by true rest e = refl
    by false rest e = e

-- options by words are options by pairs
pub options_are : (names words : List (List ℕ)) → are_options_in names words ≡ option_map_or (are_options names) (pairs words) false
options_are names [] = refl
options_are names (o ∷ []) = refl
options_are names (o ∷ v ∷ more) = by (pairs more) refl (options_are names more)
  where
    joined : (a b c d : Bool) → ((a && (b && c)) && d) ≡ (a && (b && (c && d)))
    joined true true c d = refl
    joined true false c d = refl
    joined false b c d = refl

    none : (a : Bool) → (a && false) ≡ false
    none true = refl
    none false = refl

    by : (p : Option (List Pair)) → pairs more ≡ p → are_options_in names more ≡ option_map_or (are_options names) p false
        → (is_option_before names o v more && are_options_in names more) ≡ option_map_or (are_options names) (option_map (λ list. (o, v) ∷ list) p) false
    by None is e = ap (λ b. is_option_before names o v more && b) e ∙ none (is_option_before names o v more)
    by (Some list) is e =
        ap₂ (λ (h r : Bool). (list_any (λ name. bytes_eq name o) names && (may_be_value v && not h)) && r) (has_is o more list is) e
        ∙ joined (list_any (λ name. bytes_eq name o) names) (may_be_value v) (not (has_option o list)) (are_options names list)

-- what options are by their values, word by word
pub by_words : (names words : List (List ℕ)) (of : Values → Option Mode)
    → by_options names of words ≡ cond (are_options_in names words) (of (λ name. value_in name words)) None
by_words names words of = by (pairs words) refl ∙ ap (λ b. cond b (of (λ name. value_in name words)) None) (sym (options_are names words))
  where
    by : (p : Option (List Pair)) → pairs words ≡ p
        → option_and_then (λ list. cond (are_options names list) (of (λ name. value_of name list)) None) p
        ≡ cond (option_map_or (are_options names) p false) (of (λ name. value_in name words)) None
    by None is = refl
    by (Some list) is = ap (λ (values : Values). cond (are_options names list) (of values) None) (λ i name. sym (value_is name words list is) i)

-- options that have the form are the values, and others are nothing
pub formed : (names words : List (List ℕ)) (of : Values → Option Mode) → are_options_in names words ≡ true → by_options names of words ≡ of (λ name. value_in name words)
formed names words of e = by_words names words of ∙ ap (λ b. cond b (of (λ name. value_in name words)) None) e

pub unformed : (names words : List (List ℕ)) (of : Values → Option Mode) → are_options_in names words ≡ false → by_options names of words ≡ None
unformed names words of e = by_words names words of ∙ ap (λ b. cond b (of (λ name. value_in name words)) None) e

-- a mode with one option is its value
pub config_mode : (make : List ℕ → Mode) (words : List (List ℕ)) → by_options session_options (λ value. option_map make (value (codes "--config"))) words ≡ option_map make (config_in words)
config_mode make words = by_words session_options words (λ value. option_map make (value (codes "--config"))) ∙ by (are_options_in session_options words)
  where
    by : (b : Bool) → cond b (option_map make (value_in (codes "--config") words)) None ≡ option_map make (cond b (value_in (codes "--config") words) None)
    by true = refl
    by false = refl

pub no_mode : {A : Type 0} (o : Option A) → is_some o ≡ false → None ≡ o
no_mode None e = refl
no_mode (Some x) e = absurd (true≢false e)

pub is_made : {A B : Type 0} (f : A → B) (o : Option A) → is_some (option_map f o) ≡ is_some o
is_made f None = refl
is_made f (Some x) = refl

pub if_err : {T E : Type 0} (r : Result T E) (P : Type 0) → P → IfErr r (λ _. P)
if_err (Ok x) P p = tt
if_err (Err e) P p = p
