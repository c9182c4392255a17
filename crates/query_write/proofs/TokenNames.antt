-- Names as they are written between commas are read back, and are none that is unknown or too long.
use Rattle.std.proofs.Common.{◌≡◌, ◌≢◌, ℕ, zero, suc, ◌≤◌, Bool, true, false, cond, List, [], ◌∷◌, ◌++◌, not, length, map, slice_index_or, refl, sym, ap, ap₂, ◌∙◌, subst, arith, append-nil, All}
use Rattle.std.specs.Prelude.{Some, None, Contains, ◌==◌, nat_le, nat_lt, find}
use Rattle.std.specs.List.{list_all, list_any, slice_split}
use Rattle.std.specs.Char.{to_ascii_lowercase}
use Rattle.std.specs.Str.{str_to_ascii_lowercase}
use Rattle.std.proofs.lemmas.Bool.{both_ways, and_parts, and_from, and_right, or_left, or_right, or_from, not_from_true}
use Rattle.std.proofs.lemmas.Bool.Decides.{nat_tests}
use Rattle.std.proofs.lemmas.List.Elements.{All-head, All-tail, Contains-append_left}
use Rattle.std.proofs.lemmas.List.Splits.{slice_split_none, slice_split_at}
use Rattle.std.proofs.lemmas.List.Sums.{AllPass-from_list_all}
use Rattle.std.proofs.lemmas.Slice.Eq.{bytes_eq-Decides}
use Rattle.doc_types.specs.declared.schema.TheConstants.{MAX_NAME_BYTES}
use Rattle.doc_types.specs.Schemas.{is_capital, begins_name, goes_on_in_name, is_column_name, IsName, AreDistinct}
use Rattle.query_pieces.specs.QueryBytes.{begins_zone, is_zone_byte}
use Rattle.query_marks.specs.LimitNames.{names_in, is_same, is_known, is_long, is_unknown}
use Rattle.query_write.specs.Written.{parted}
use Rattle.query_write.specs.steps.TokenRun.{is_zone_name}
use Rattle.query_write.proofs.SpellSigns.{apart}

-- ---- elements of lists
pub has_none : {X : Type 0} (x : X) → Contains [] x → ⊥
has_none x (k, within, at) = absurd (omega (arith, within))

pub has_first : {X : Type 0} (x : X) (list : List X) → Contains (x ∷ list) x
has_first x list = (zero, omega arith, refl)

pub has_later : {X : Type 0} (x : X) (list : List X) (y : X) → Contains list y → Contains (x ∷ list) y
has_later x list y (k, within, at) = (suc k, omega (arith, within), at)

pub has_each : {X : Type 0} (P : X → Type 0) (list : List X) (x : X) → All P list → Contains list x → P x
has_each P list x all (k, within, at) = subst P at (all k x within)

pub has_mapped : {X Y : Type 0} (f : X → Y) (P : Y → Type 0) (list : List X) (y : Y) → All (λ x. P (f x)) list → Contains (map f list) y → P y
has_mapped f P [] y all has = absurd (has_none y has)
has_mapped f P (x ∷ list) y all (zero, within, at) = subst P at (All-head (λ x. P (f x)) x list all)
has_mapped f P (x ∷ list) y all (suc k, within, at) = has_mapped f P list y (All-tail (λ x. P (f x)) x list all) (k, omega (arith, within), at)

pub any_none : {X : Type 0} (test : X → Bool) (list : List X) → ((x : X) → Contains list x → test x ≡ false) → list_any test list ≡ false
any_none test [] each = refl
any_none test (x ∷ list) each = or_from (test x) (list_any test list) (each x (has_first x list)) (any_none test list (λ y has. each y (has_later x list y has)))

pub any_some : {X : Type 0} (test : X → Bool) (list : List X) (x : X) → Contains list x → test x ≡ true → list_any test list ≡ true
any_some test [] x has is = absurd (has_none x has)
any_some test (y ∷ list) x (zero, within, at) is = or_left (test y) (list_any test list) (ap test at ∙ is)
any_some test (y ∷ list) x (suc k, within, at) is = or_right (test y) (list_any test list) (any_some test list x (k, omega (arith, within), at) is)

find_none : {X : Type 0} (test : X → Bool) (list : List X) → ((x : X) → Contains list x → test x ≡ false) → find test list ≡ None
find_none test [] each = refl
find_none test (x ∷ list) each = ap (λ (b : Bool). cond b (Some x) (find test list)) (each x (has_first x list)) ∙ find_none test list (λ y has. each y (has_later x list y has))

-- ---- names apart
-- no name is the same as a later one
abbrev pub AreApart : List (List ℕ) → Type 0
AreApart [] = Unit {0}
AreApart (name ∷ names) = ((other : List ℕ) → Contains names other → (is_same name other ≡ false) × (is_same other name ≡ false)) × AreApart names

pub same_self : (name : List ℕ) → is_same name name ≡ true
same_self name = (bytes_eq-Decides (str_to_ascii_lowercase name) (str_to_ascii_lowercase name)).1 refl

small_byte : (b : ℕ) → not (is_capital b) ≡ true → to_ascii_lowercase b ≡ b
small_byte b small = grind (arith, nat_tests)

pub small_name : (name : List ℕ) → list_all (λ b. not (is_capital b)) name ≡ true → str_to_ascii_lowercase name ≡ name
small_name [] small = refl
small_name (b ∷ name) small =
    let both = and_parts (not (is_capital b)) (list_all (λ b. not (is_capital b)) name) small in
    ap₂ (λ (c : ℕ) (rest : List ℕ). c ∷ rest) (small_byte b both.0) (small_name name both.1)

not_same : (name other : List ℕ) → IsName name → IsName other → name ≢ other → is_same name other ≡ false
not_same name other is other_is differ = by (is_same name other) refl
  where
    by : (b : Bool) → is_same name other ≡ b → b ≡ false
    by true e = absurd (differ (sym (small_name name is.small) ∙ (bytes_eq-Decides (str_to_ascii_lowercase name) (str_to_ascii_lowercase other)).0 e ∙ small_name other other_is.small))
    by false e = refl

-- the first of distinct names
pub apart_names : (names more : List (List ℕ)) → All IsName (names ++ more) → AreDistinct (names ++ more) → AreApart names
apart_names [] more all distinct = tt
apart_names (name ∷ names) more all distinct =
    ((λ other has. both other (Contains-append_left names more other has)), apart_names names more (All-tail IsName name (names ++ more) all) (λ i j d before within. distinct (suc i) (suc j) d (omega (arith, before)) (omega (arith, within))))
  where
    both : (other : List ℕ) → Contains (names ++ more) other → (is_same name other ≡ false) × (is_same other name ≡ false)
    both other (k, within, at) =
        let first : IsName name = All-head IsName name (names ++ more) all in
        let later : IsName other = has_each IsName (names ++ more) other (All-tail IsName name (names ++ more) all) (k, within, at) in
        let differ : name ≢ other = subst (λ (l : List ℕ). name ≢ l) at (distinct zero (suc k) other (omega arith) (omega (arith, within))) in
        (not_same name other first later differ, not_same other name later first (λ e. differ (sym e)))

-- ---- names between commas
abbrev pub HasNoComma : List ℕ → Type 0
HasNoComma name = All (λ b. (b == 44) ≡ false) name

passes_no_comma : (test : ℕ → Bool) (bytes : List ℕ) → test 44 ≡ false → list_all test bytes ≡ true → HasNoComma bytes
passes_no_comma test bytes comma passes = λ k d below. apart test (slice_index_or bytes k d) 44 (AllPass-from_list_all test bytes passes k d below) comma

pub column_no_comma : (name : List ℕ) → is_column_name name ≡ true → HasNoComma name
column_no_comma [] is = absurd (both_ways false refl is)
column_no_comma (b ∷ name) is =
    let both = and_parts (begins_name b) (list_all goes_on_in_name name) is in
    passes_no_comma goes_on_in_name (b ∷ name) refl (and_from (goes_on_in_name b) (list_all goes_on_in_name name) (or_left (begins_name b) _ both.0) both.1)

pub zone_byte : (b : ℕ) → begins_zone b ≡ true → is_zone_byte b ≡ true
zone_byte b begins = grind (arith, nat_tests)

pub zone_no_comma : (name : List ℕ) → is_zone_name name ≡ true → HasNoComma name
zone_no_comma [] is = absurd (both_ways false refl is)
zone_no_comma (b ∷ name) is =
    let both = and_parts (begins_zone b) (list_all is_zone_byte name) is in
    passes_no_comma is_zone_byte (b ∷ name) refl (and_from (is_zone_byte b) (list_all is_zone_byte name) (zone_byte b both.0) both.1)

parted_back : (name : List ℕ) (list : List (List ℕ)) → ((other : List ℕ) → Contains (name ∷ list) other → HasNoComma other) → names_in (parted 44 (name ∷ list)) ≡ name ∷ list
parted_back name [] each = ap (slice_split (λ b. b == 44)) (append-nil name) ∙ slice_split_none (λ b. b == 44) name (each name (has_first name []))
parted_back name (next ∷ list) each =
    slice_split_at (λ b. b == 44) name 44 (parted 44 (next ∷ list)) (each name (has_first name (next ∷ list))) refl
    ∙ ap (λ (l : List (List ℕ)). name ∷ l) (parted_back next list (λ other has. each other (has_later name (next ∷ list) other has)))

pub names_back : (bytes : List ℕ) (list : List (List ℕ)) → list ≢ [] → ((name : List ℕ) → Contains list name → HasNoComma name) → bytes ≡ parted 44 list → names_in bytes ≡ list
names_back bytes [] some each is = absurd (some refl)
names_back bytes (name ∷ list) some each is = ap names_in is ∙ parted_back name list each

-- ---- nothing is wrong with names of a list
pub none_unknown : (known names : List (List ℕ)) → ((name : List ℕ) → Contains names name → Contains known name) → find (is_unknown known) names ≡ None
none_unknown known names each =
    find_none (is_unknown known) names (λ name has. and_right (nat_le (length name) MAX_NAME_BYTES) (not (is_known known name)) (not_from_true (is_known known name) (any_some (is_same name) known name (each name has) (same_self name))))

not_below : (k n : ℕ) → k ≤ n → nat_lt n k ≡ false
not_below k n within = grind (arith, nat_tests)

pub none_long : (known names : List (List ℕ)) → All IsName known → ((name : List ℕ) → Contains names name → Contains known name) → list_any is_long names ≡ false
none_long known names all each = any_none is_long names (λ name has. not_below (length name) MAX_NAME_BYTES (has_each IsName known name all (each name has)).short)
