-- Options of a command one by one, and what is found of them.
use Rattle.std.proofs.Common.{◌≡◌, ◌∙◌, ◌<◌, ◌^◌, ◌||◌, ℕ, Bool, cond, true, false, not, refl, sym, ap, ap₂, subst, true≢false, arith, List, [], ◌∷◌, Option, Some, None}
use Rattle.std.specs.Prelude.{drop, option_and_then, option_map, slice_get}
use Rattle.std.specs.Option.{is_some, option_map_or, option_or}
use Rattle.std.specs.List.{list_any}
use Rattle.std.specs.Str.{bytes_eq}
use Rattle.std.proofs.lemmas.Slice.Eq.{bytes_eq-Decides}
use Rattle.clap.specs.Facts.{explicit_source}
use Rattle.clap.specs.Faults.{given_default_fault}
use Rattle.clap.specs.Kinds.{Kinds, check_kinds}
use Rattle.clap.specs.Takes.{is_given, value_passes}
use Rattle.clap.specs.Walk.{Row, Rule, Text, arg_by_id, first_of, has_row, is_empty, one_of, row_text}
use Rattle.clap.specs.ValueTests.{accepts}
use Rattle.clap.specs.declared.builder.value_parser.ValueParser.TheVariants.{Unsigned}
use Rattle.clap.proofs.ValueTestLemmas.{Accepts-accepts, accepts-Accepts}
use Rattle.std.specs.Str.Parse.{IsNumeral, digits_value, without_leading_plus}
use Rattle.command_line.specs.Modes.{is_number, number_in, number_of, number_or}
use Rattle.command_line.specs.steps.Found.{FindsNumber}
use Rattle.command_line.proofs.Numbers.{is_numeral, number_taken, taken_number}
use Rattle.command_line.specs.steps.Words.{are_options_in, is_numeral_in, value_in}
use Rattle.command_line.proofs.Walking.{AreOptions, IsOption, first_pair}
use Rattle.command_line.proofs.RowsRead.{default_row, given, row_at, word_of}
use Rattle.command_line.proofs.Commanding.{DefaultPasses, row_is, rows_at_end}

-- ---- names

-- what holds of each of these names
abbrev pub Each : (Text → Type 0) → List Text → Type 0
Each P [] = Unit {0}
Each P (name ∷ names) = P name × Each P names

pub each_name : (P : Text → Type 0) (names : List Text) → Each P names → (o : Text) → list_any (λ n. bytes_eq n o) names ≡ true → P o
each_name P [] all o e = absurd (true≢false (sym e))
each_name P (name ∷ names) all o e = by (bytes_eq name o) refl e (each_name P names all.1 o)
  where
    by : (b : Bool) → bytes_eq name o ≡ b → (b || list_any (λ n. bytes_eq n o) names) ≡ true → (list_any (λ n. bytes_eq n o) names ≡ true → P o) → P o
    by true same e rest = subst P ((bytes_eq-Decides name o).0 same) all.0
    by false same e rest = rest e

-- the rule of this word is an option of these
abbrev pub HasRule : List Rule → Text → Type 0
HasRule c o = (a : Rule) × IsOption c o a

-- a name with a value is one of the options
pub value_known : (names words : List Text) (name v : Text) → are_options_in names words ≡ true → value_in name words ≡ Some v → list_any (λ n. bytes_eq n name) names ≡ true
value_known names [] name v e has = cc
value_known names (o ∷ []) name v e has = cc
value_known names (o ∷ w ∷ more) name v e has =
    let pair = first_pair names o w more e in
    by (bytes_eq o name) refl has pair.known (value_known names more name v pair.rest)
  where
    by : (b : Bool) → bytes_eq o name ≡ b → cond b (Some w) (value_in name more) ≡ Some v → list_any (λ n. bytes_eq n o) names ≡ true
        → (value_in name more ≡ Some v → list_any (λ n. bytes_eq n name) names ≡ true) → list_any (λ n. bytes_eq n name) names ≡ true
    by true same has known rest = subst (λ (t : Text). list_any (λ n. bytes_eq n t) names ≡ true) ((bytes_eq-Decides o name).0 same) known
    by false same has known rest = rest has

-- ---- defaults

pub no_default : (a : Rule) → is_empty a.defaults ≡ true → DefaultPasses a
no_default a e rows = rw e (by (has_row a.id rows))
  where
    by : (b : Bool) → cond {A = Kinds} (b || true) [] (given_default_fault a a.defaults) ≡ []
    by true = refl
    by false = refl

pub good_default : (a : Rule) → is_empty a.defaults ≡ false → given_default_fault a a.defaults ≡ [] → DefaultPasses a
good_default a some e rows = rw (some, e) (by (has_row a.id rows))
  where
    by : (b : Bool) → cond {A = Kinds} (b || false) [] [] ≡ []
    by true = refl
    by false = refl

-- ---- values

row_given : (c : List Rule) (names words : List Text) → AreOptions c names → are_options_in names words ≡ true → (id v : Text)
    → value_in (word_of id) words ≡ Some v → row_at id (rows_at_end c words) ≡ Some (given id v)
row_given c names words opts e id v has = row_is c names words opts e id ∙ ap (λ o. option_or (option_map (given id) o) (default_row id c)) has

row_default : (c : List Rule) (names words : List Text) → AreOptions c names → are_options_in names words ≡ true → (id : Text) (r : Row)
    → value_in (word_of id) words ≡ None → default_row id c ≡ Some r → row_at id (rows_at_end c words) ≡ Some r
row_default c names words opts e id r none default = row_is c names words opts e id ∙ ap₂ (λ o d. option_or (option_map (given id) o) d) none default

-- the value of an option that is given
pub text_found : (c : List Rule) (names words : List Text) → AreOptions c names → are_options_in names words ≡ true → (id v : Text)
    → value_in (word_of id) words ≡ Some v → first_of id (rows_at_end c words) ≡ Some v
text_found c names words opts e id v has =
    ap (option_and_then (λ (r : Row). slice_get r.values 0)) (row_given c names words opts e id v has)

pub number_found : (c : List Rule) (names words : List Text) → AreOptions c names → are_options_in names words ≡ true → (id v : Text)
    → value_in (word_of id) words ≡ Some v → one_of id (rows_at_end c words) ≡ Some v
number_found c names words opts e id v has = ap (option_and_then row_text) (row_given c names words opts e id v has)

-- the default of one that isn't
pub default_found : (c : List Rule) (names words : List Text) → AreOptions c names → are_options_in names words ≡ true → (id v : Text) (r : Row)
    → value_in (word_of id) words ≡ None → default_row id c ≡ Some r → row_text r ≡ Some v → one_of id (rows_at_end c words) ≡ Some v
default_found c names words opts e id v r none default is = ap (option_and_then row_text) (row_default c names words opts e id r none default) ∙ is

-- an option without a default is given where it has a value
pub given_is : (c : List Rule) (names words : List Text) → AreOptions c names → are_options_in names words ≡ true → (id : Text) → default_row id c ≡ None
    → is_given id (rows_at_end c words) ≡ is_some (value_in (word_of id) words)
given_is c names words opts e id none =
    ap (λ o. option_map_or (λ (r : Row). explicit_source r.source) o false) (row_is c names words opts e id ∙ ap (option_or (option_map (given id) (value_in (word_of id) words))) none) ∙ by (value_in (word_of id) words)
  where
    by : (o : Option Text) → option_map_or (λ (r : Row). explicit_source r.source) (option_or (option_map (given id) o) None) false ≡ is_some o
    by None = refl
    by (Some v) = refl

-- ---- each option's value passes

-- the value of a name passes its option
abbrev pub Passes : List Rule → List Text → Text → Type 0
Passes c words name = (v : Text) (a : Rule) → value_in name words ≡ Some v → arg_by_id c (drop 2 name) ≡ Some a → value_passes a v ≡ true

pub passes : (c : List Rule) (words : List Text) (name : Text) (a : Rule) → arg_by_id c (drop 2 name) ≡ Some a
    → ((v : Text) → value_in name words ≡ Some v → value_passes a v ≡ true) → Passes c words name
passes c words name a is pass v b has found =
    let same : a ≡ b = some_same a b (sym is ∙ found) in
    ap (λ d. value_passes d v) (sym same) ∙ pass v has
  where
    some_same : (x y : Rule) → Some x ≡ Some y → x ≡ y
    some_same x y e = cc

pub all_pass : (c : List Rule) (names words : List Text) → are_options_in names words ≡ true → Each (Passes c words) names
    → (name v : Text) (a : Rule) → value_in name words ≡ Some v → arg_by_id c (drop 2 name) ≡ Some a → value_passes a v ≡ true
all_pass c names words e each name v a has found = each_name (Passes c words) names each name (value_known names words name v e has) v a has found

-- ---- chains of values

pub bound : {A B : Type 0} (f : A → Option B) (o : Option A) (y : B) → option_and_then f o ≡ Some y → (x : A) × (o ≡ Some x) × (f x ≡ Some y)
bound f None y e = cc
bound f (Some x) y e = (x, refl, e)

pub mapped : {A B : Type 0} (f : A → B) (o : Option A) (y : B) → option_map f o ≡ Some y → (x : A) × (o ≡ Some x) × (f x ≡ y)
mapped f None y e = cc
mapped f (Some x) y e = (x, refl, some_is (f x) y e)
  where
    some_is : {X : Type 0} (x y : X) → Some x ≡ Some y → x ≡ y
    some_is x y e = cc

pub is_there : {A : Type 0} (o : Option A) → is_some o ≡ true → (x : A) × (o ≡ Some x)
is_there None e = absurd (true≢false (sym e))
is_there (Some x) e = (x, refl)

-- ---- numbers

-- a number of a mode passes
pub number_passes : (v : Text) (default low high n : ℕ) (given : Option Text) → given ≡ Some v → number_or default low high given ≡ Some n → high < 2 ^ 64
    → accepts false (Unsigned low high) v ≡ true
number_passes v default low high n given is number small =
    let here : number_in low high v ≡ Some n = ap (number_or default low high) (sym is) ∙ number in
    Accepts-accepts false (Unsigned low high) v (number_taken v low high n here small)

-- the number that was given, where it passed
given_number : (c : List Rule) (names words : List Text) → AreOptions c names → are_options_in names words ≡ true → (id v : Text) (low high : ℕ) → high < 2 ^ 32
    → value_in (word_of id) words ≡ Some v → accepts false (Unsigned low high) v ≡ true → is_number v ≡ true
    → (number_in low high v ≡ Some (digits_value 10 v)) × FindsNumber (rows_at_end c words) id (digits_value 10 v)
given_number c names words opts e id v low high small has pass is =
    let taken = taken_number v low high is (accepts-Accepts false (Unsigned low high) v pass) in
    let plain = is_numeral v is in
    let below : digits_value 10 v < 2 ^ 32 = omega (arith, taken.1, small) in (
      taken.0,
      record {
        text = v;
        found = number_found c names words opts e id v has;
        numeral = subst (λ (t : Text). IsNumeral 10 t) (sym plain.1) plain.0;
        value = ap (digits_value 10) plain.1;
        small = below;
      },
    )

pub number_of_found : (c : List Rule) (names words : List Text) → AreOptions c names → are_options_in names words ≡ true → (id v : Text) (low high : ℕ) → high < 2 ^ 32
    → value_in (word_of id) words ≡ Some v → accepts false (Unsigned low high) v ≡ true → is_numeral_in (word_of id) words ≡ true
    → (n : ℕ) × (number_of low high (value_in (word_of id) words) ≡ Some n) × FindsNumber (rows_at_end c words) id n
number_of_found c names words opts e id v low high small has pass is =
    let digits : is_number v ≡ true = sym (ap (λ o. option_map_or is_number o true) has) ∙ is in
    let found = given_number c names words opts e id v low high small has pass digits in
    (digits_value 10 v, ap (number_of low high) has ∙ found.0, found.1)

pub number_or_found : (c : List Rule) (names words : List Text) → AreOptions c names → are_options_in names words ≡ true → (id default : Text) (number low high : ℕ) (r : Row)
    → default_row id c ≡ Some r → row_text r ≡ Some default → IsNumeral 10 (without_leading_plus default) → digits_value 10 (without_leading_plus default) ≡ number → number < 2 ^ 32 → high < 2 ^ 32
    → ((v : Text) → value_in (word_of id) words ≡ Some v → accepts false (Unsigned low high) v ≡ true) → is_numeral_in (word_of id) words ≡ true
    → (n : ℕ) × (number_or number low high (value_in (word_of id) words) ≡ Some n) × FindsNumber (rows_at_end c words) id n
number_or_found c names words opts e id default number low high r has_default read numeral value little small pass is = by (value_in (word_of id) words) refl
  where
    by : (o : Option Text) → value_in (word_of id) words ≡ o → (n : ℕ) × (number_or number low high (value_in (word_of id) words) ≡ Some n) × FindsNumber (rows_at_end c words) id n
    by None has = (
      number,
      ap (number_or number low high) has,
      record {
        text = default;
        found = default_found c names words opts e id default r has has_default read;
        numeral = numeral;
        value = value;
        small = little;
      },
    )
    by (Some v) has =
        let digits : is_number v ≡ true = sym (ap (λ o. option_map_or is_number o true) has) ∙ is in
        let found = given_number c names words opts e id v low high small has (pass v has) digits in
        (digits_value 10 v, ap (number_or number low high) has ∙ found.0, found.1)

pub needed_passes : (v : Text) (low high n : ℕ) (given : Option Text) → given ≡ Some v → number_of low high given ≡ Some n → high < 2 ^ 64
    → accepts false (Unsigned low high) v ≡ true
needed_passes v low high n given is number small = number_passes v 0 low high n (Some v) refl (ap (number_of low high) (sym is) ∙ number) small

-- ---- the last check

pub both_wanted : (a b : Bool) → check_kinds false false (not a || (not b || false)) ≡ [] → (a ≡ true) × (b ≡ true)
both_wanted true true e = (refl, refl)
both_wanted true false e = cc
both_wanted false b e = cc

pub one_wanted : (a : Bool) → check_kinds false false (not a || false) ≡ [] → a ≡ true
one_wanted true e = refl
one_wanted false e = cc

-- ---- what isn't a numeral is no number

pub no_number_or : (default low high : ℕ) (o : Option Text) → option_map_or is_number o true ≡ false → number_or default low high o ≡ None
no_number_or default low high None e = absurd (true≢false e)
no_number_or default low high (Some v) e = rw e refl

pub no_number_of : (low high : ℕ) (o : Option Text) → option_map_or is_number o true ≡ false → number_of low high o ≡ None
no_number_of low high o e = by o e
  where
    by : (o : Option Text) → option_map_or is_number o true ≡ false → number_of low high o ≡ None
    by None e = refl
    by (Some v) e = rw e refl

pub none_after : {A B : Type 0} (o : Option A) (f : A → Option B) → ((x : A) → f x ≡ None) → option_and_then f o ≡ None
none_after None f e = refl
none_after (Some x) f e = e x
