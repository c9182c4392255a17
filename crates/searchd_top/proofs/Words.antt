-- What words ask for, by the mode that was read of them.
use Rattle.std.proofs.Common.{◌≡◌, ◌*◌, ◌<◌, ◌≤◌, lit≤, ℕ, List, [], ◌∷◌, refl, sym, ap, subst, arith, ◌∙◌, true≢false}
use Rattle.std.specs.Prelude.{⊤, ◌↔◌, codes, Bool, true, false, ◌&&◌, nat_le, Option, Some, None, option_map, option_and_then, if◌then◌else◌}
use Rattle.std.specs.Option.{is_some}
use Rattle.std.specs.Str.{bytes_eq}
use Rattle.std.specs.Str.Parse.{digits_value}
use Rattle.std.proofs.lemmas.Nat.{mul-le}
use Rattle.command_line.specs.Modes.{is_number, number_of, number_or, within}
use Rattle.command_line.specs.Modes as modes
use Rattle.command_line.specs.Reading.{said}
use Rattle.command_line.specs.declared.mode.Mode.{Mode}
use Rattle.program_host.specs.declared.status.Status.{Status}
use Rattle.program_host.specs.declared.status.Status.TheVariants.{Usage}

-- it is the mode that was read
pub mode_is : (words : List (List ℕ)) (read value : Option Mode) → option_map said read ≡ modes.mode words → read ≡ value → modes.mode words ≡ option_map said value
mode_is words read value says is = sym says ∙ ap (λ (mode : Option Mode). option_map said mode) is

-- words that are a mode are no bad arguments
pub not_usage : (words : List (List ℕ)) (status : Status) → (status ≡ Usage → ⊥) → is_some (modes.mode words) ≡ true → (status ≡ Usage) ↔ (modes.mode words ≡ None)
not_usage words status other some = (
  λ same. absurd (other same),
  λ none. absurd (true≢false (sym some ∙ ap (λ o. is_some o) none)),
)

-- ---- numbers in their ranges

-- the numbers of a mode with workers, and of a selftest
abbrev pub InRange : Option modes.Mode → Type 0
InRange (Some (modes.serve config listen workers sessions)) = (0 < workers) × (workers ≤ 64) × (sessions ≤ 1000000)
InRange (Some (modes.session config)) = ⊤
InRange (Some (modes.check config)) = ⊤
InRange (Some (modes.selftest number docs)) = docs ≤ 100000
InRange None = ⊤

if_range : (b : Bool) (x y : Option modes.Mode) → InRange x → InRange y → InRange (if b then x else y)
if_range true x y here there = here
if_range false x y here there = there

then_range : {A : Type 0} (f : A → Option modes.Mode) (o : Option A) → ((a : A) → o ≡ Some a → InRange (f a)) → InRange (option_and_then f o)
then_range f None each = tt
then_range f (Some a) each = each a refl

if_some : (b : Bool) (o : Option ℕ) (a : ℕ) → (if b then o else None) ≡ Some a → (b ≡ true) × (o ≡ Some a)
if_some true o a is = (refl, is)
if_some false o a is = let clash : None ≡ Some a = is in absurd (cc clash)

within_range : (low high number a : ℕ) → within low high number ≡ Some a → (low ≤ a) × (a ≤ high)
within_range low high number a is =
    let found = if_some (nat_le low number && nat_le number high) (Some number) a is in
    let same : number ≡ a = cc (found.1) in
    let test : (nat_le low number && nat_le number high) ≡ true = found.0 in
    subst (λ (n : ℕ). (low ≤ n) × (n ≤ high)) same (grind arith)

or_range : (default low high : ℕ) (o : Option (List ℕ)) (a : ℕ) → low ≤ default → default ≤ high → number_or default low high o ≡ Some a → (low ≤ a) × (a ≤ high)
or_range default low high None a least most is = let same : default ≡ a = cc (is) in subst (λ (n : ℕ). (low ≤ n) × (n ≤ high)) same (least, most)
or_range default low high (Some text) a least most is = within_range low high (digits_value 10 text) a (if_some (is_number text) (within low high (digits_value 10 text)) a is).1

-- what the words say, through each choice of the definition
by_range : (names : List (List ℕ)) (of : modes.Values → Option modes.Mode) (words : List (List ℕ)) → ((value : modes.Values) → InRange (of value)) → InRange (modes.by_options names of words)
by_range names of words each = then_range (λ (list : List modes.Pair). if modes.are_options names list then of (λ name. modes.value_of name list) else None) (modes.pairs words)
    (λ list is. if_range (modes.are_options names list) (of (λ name. modes.value_of name list)) None (each (λ name. modes.value_of name list)) tt)

serve_range : (value : modes.Values) → InRange (modes.serve_of value)
serve_range value =
    then_range _ (value (codes "--config")) (λ config is.
    then_range _ (value (codes "--listen")) (λ listen is.
    then_range _ (number_or 4 1 64 (value (codes "--workers"))) (λ workers some.
    mapped (number_or 1000000 1 1000000 (value (codes "--sessions"))) config listen workers (or_range 4 1 64 (value (codes "--workers")) workers (lit≤ tt) (lit≤ tt) some)
    (λ sessions that. or_range 1000000 1 1000000 (value (codes "--sessions")) sessions (lit≤ tt) (lit≤ tt) that))))
  where
    mapped : (o : Option ℕ) (config listen : List ℕ) (workers : ℕ) → (1 ≤ workers) × (workers ≤ 64) → ((sessions : ℕ) → o ≡ Some sessions → (1 ≤ sessions) × (sessions ≤ 1000000)) → InRange (option_map (λ sessions. modes.serve config listen workers sessions) o)
    mapped None config listen workers some each = tt
    mapped (Some sessions) config listen workers some each = (omega (arith, some.0), some.1, (each sessions refl).1)

mapped_range : {A : Type 0} (f : A → modes.Mode) (o : Option A) → ((a : A) → o ≡ Some a → InRange (Some (f a))) → InRange (option_map f o)
mapped_range f None each = tt
mapped_range f (Some a) each = each a refl

of_range : (low high : ℕ) (o : Option (List ℕ)) (a : ℕ) → number_of low high o ≡ Some a → (low ≤ a) × (a ≤ high)
of_range low high None a is = let clash : None ≡ Some a = is in absurd (cc clash)
of_range low high (Some text) a is = within_range low high (digits_value 10 text) a (if_some (is_number text) (within low high (digits_value 10 text)) a is).1

pub mode_range : (words : List (List ℕ)) → InRange (modes.mode words)
mode_range [] = tt
mode_range (name ∷ words) =
    if_range (bytes_eq name (codes "session")) _ _ (by_range modes.session_options modes.session_of words (λ value. mapped_range modes.session (value (codes "--config")) (λ a is. tt)))
    (if_range (bytes_eq name (codes "serve")) _ _ (by_range modes.serve_options modes.serve_of words serve_range)
    (if_range (bytes_eq name (codes "check")) _ _ (by_range modes.check_options modes.check_of words (λ value. mapped_range modes.check (value (codes "--config")) (λ a is. tt)))
    (if_range (bytes_eq name (codes "selftest")) _ _ (by_range modes.selftest_options modes.selftest_of words
    (λ value. then_range _ (number_of 0 2147483647 (value (codes "--number"))) (λ number is. mapped_range (λ (docs : ℕ). modes.selftest number docs) (number_of 1 100000 (value (codes "--docs"))) (λ docs that. (of_range 1 100000 (value (codes "--docs")) docs that).1))))
    tt)))

-- the numbers of words that ask for serving
pub serves_within : (words : List (List ℕ)) (config listen : List ℕ) (workers sessions : ℕ) → modes.mode words ≡ Some (modes.serve config listen workers sessions) → (0 < workers) × (workers * sessions < 4294967296)
serves_within words config listen workers sessions is =
    let range : InRange (Some (modes.serve config listen workers sessions)) = subst InRange is (mode_range words) in
    (range.0, omega (arith, mul-le workers sessions 64 1000000 range.1 range.2))

-- the number of documents of words that ask for a selftest
pub documents_within : (words : List (List ℕ)) (number docs : ℕ) → modes.mode words ≡ Some (modes.selftest number docs) → docs ≤ 100000
documents_within words number docs is = subst InRange is (mode_range words)
