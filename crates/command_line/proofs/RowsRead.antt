-- The rows of options that were walked over, and which value each name has in them.
use Rattle.std.proofs.Common.{◌≡◌, ◌∙◌, ◌&&◌, ◌||◌, Bool, cond, true, false, refl, sym, ap, true≢false, List, [], ◌∷◌, ◌++◌, Option, Some, None, append-nil, inl, inr}
use Rattle.std.specs.Prelude.{find, fold, option_map, ◌⊎◌}
use Rattle.std.specs.Option.{is_some, option_or}
use Rattle.std.specs.Str.{bytes_eq}
use Rattle.std.proofs.lemmas.List.Folds.{find-append, list_any-append}
use Rattle.std.proofs.lemmas.Slice.Eq.{bytes_eq-Decides}
use Rattle.clap.specs.Walk.{Held, Row, Rule, Text, at_row, default_rows, has_row, more_values, nothing_held, reading_by, settled_rows, used, with_default, without}
use Rattle.clap.specs.declared.builder.value_parser.Reading.TheVariants.{AsWritten}
use Rattle.clap.specs.declared.parser.matches.ValueSource.TheVariants.{CommandLine, DefaultValue}
use Rattle.command_line.specs.steps.Words.{are_options_in, has_option_in, value_in}
use Rattle.command_line.proofs.Walking.{AreOptions, IsOption, after, after_pair, first_pair, id_of}

-- ---- one row more

abbrev pub row_at : Text → List Row → Option Row
row_at id = find (λ r. bytes_eq r.id id)

-- the row of an option that was given
abbrev pub given : Text → Text → Row
given id value = record { id = id; values = value ∷ []; count = None; source = Some CommandLine; reading = AsWritten }

at_none : (id : Text) (change : Row → List Row) (missing rows : List Row) → has_row id rows ≡ false → at_row id change missing rows ≡ rows ++ missing
at_none id change missing [] e = refl
at_none id change missing (r ∷ rows) e = by (bytes_eq r.id id) e (at_none id change missing rows)
  where
    by : (b : Bool) → (b || has_row id rows) ≡ false → (has_row id rows ≡ false → at_row id change missing rows ≡ rows ++ missing)
        → cond b (change r ++ rows) (r ∷ at_row id change missing rows) ≡ r ∷ (rows ++ missing)
    by true e rest = absurd (true≢false e)
    by false e rest = ap (λ list. r ∷ list) (rest e)

pub without_none : (id : Text) (rows : List Row) → has_row id rows ≡ false → without id rows ≡ rows
without_none id rows e = at_none id (λ _. []) [] rows e ∙ append-nil rows

pub used_is : (c : List Rule) (o v : Text) (a : Rule) (rows : List Row) → IsOption c o a → has_row a.id rows ≡ false
    → used a (v ∷ []) rows ≡ rows ++ given a.id v ∷ []
used_is c o v a rows is none =
    rw (is.action, without_none a.id rows none, is.reading) (at_none a.id (more_values CommandLine (v ∷ [])) (given a.id v ∷ []) rows none)

pub settled_pair : (c : List Rule) (h : Held) (o v : Text) (a : Rule) → IsOption c o a → has_row a.id (settled_rows c h.pending h.rows) ≡ false
    → settled_rows c (after_pair c h a.id v).pending (after_pair c h a.id v).rows ≡ settled_rows c h.pending h.rows ++ given a.id v ∷ []
settled_pair c h o v a is none = rw is.by_id (used_is c o v a (settled_rows c h.pending h.rows) is none)

-- ---- names that are once among the words

abbrev pub word_of : Text → Text
word_of id = 45 ∷ 45 ∷ id

pub no_value : (name : Text) (words : List Text) → has_option_in name words ≡ false → value_in name words ≡ None
no_value name [] e = refl
no_value name (o ∷ []) e = refl
no_value name (o ∷ v ∷ more) e = by (bytes_eq o name) e (no_value name more)
  where
    by : (b : Bool) → (b || has_option_in name more) ≡ false → (has_option_in name more ≡ false → value_in name more ≡ None)
        → cond b (Some v) (value_in name more) ≡ None
    by true e rest = absurd (true≢false e)
    by false e rest = rest e

or_false : (a b : Bool) → (a || b) ≡ false → (a ≡ false) × (b ≡ false)
or_false true b e = absurd (true≢false e)
or_false false b e = (refl, e)

or_true : (a b : Bool) → (a || b) ≡ true → (a ≡ true) ⊎ (b ≡ true)
or_true true b e = inl refl
or_true false b e = inr e

-- no option that was settled comes again
abbrev pub IsFresh : List Rule → Held → List Text → Type 0
IsFresh c h words = (id : Text) → has_row id (settled_rows c h.pending h.rows) ≡ true → has_option_in (word_of id) words ≡ false

pub nothing_fresh : (c : List Rule) (words : List Text) → IsFresh c nothing_held words
nothing_fresh c words id e = absurd (true≢false (sym e))

-- the option comes now, so it has no row yet
pub fresh_now : (c : List Rule) (h : Held) (o v : Text) (more : List Text) (a : Rule) → IsOption c o a → IsFresh c h (o ∷ v ∷ more)
    → has_row a.id (settled_rows c h.pending h.rows) ≡ false
fresh_now c h o v more a is fresh = by (has_row a.id (settled_rows c h.pending h.rows)) refl
  where
    same : bytes_eq o (word_of a.id) ≡ true
    same = (bytes_eq-Decides o (word_of a.id)).1 is.spelled

    by : (b : Bool) → has_row a.id (settled_rows c h.pending h.rows) ≡ b → b ≡ false
    by true e = absurd (true≢false (sym same ∙ (or_false _ _ (fresh a.id e)).0))
    by false e = refl

pub fresh_next : (c : List Rule) (h : Held) (o v : Text) (more : List Text) (a : Rule) → IsOption c o a → has_option_in o more ≡ false
    → IsFresh c h (o ∷ v ∷ more) → IsFresh c (after_pair c h a.id v) more
fresh_next c h o v more a is once fresh id e =
    let rows = settled_rows c h.pending h.rows in
    let split : (has_row id rows || (bytes_eq a.id id || false)) ≡ true =
    sym (ap (has_row id) (settled_pair c h o v a is (fresh_now c h o v more a is fresh)) ∙ list_any-append (λ r. bytes_eq r.id id) rows (given a.id v ∷ [])) ∙ e in
    elim (or_true (has_row id rows) (bytes_eq a.id id || false) split) [
      | inl old ↦ (or_false _ _ (fresh id old)).1
      | inr new ↦
          let is_true : bytes_eq a.id id ≡ true = by (bytes_eq a.id id) new in
          let is_it : a.id ≡ id = (bytes_eq-Decides a.id id).0 is_true in
          ap (λ t. has_option_in t more) (sym (is.spelled ∙ ap word_of is_it)) ∙ once
    ]
  where
    by : (b : Bool) → (b || false) ≡ true → b ≡ true
    by true e = refl
    by false e = e

-- ---- the value of each name

none_row : (id : Text) (rows : List Row) → has_row id rows ≡ false → row_at id rows ≡ None
none_row id [] e = refl
none_row id (r ∷ rows) e = by (bytes_eq r.id id) e (none_row id rows)
  where
    by : (b : Bool) → (b || has_row id rows) ≡ false → (has_row id rows ≡ false → row_at id rows ≡ None) → cond b (Some r) (row_at id rows) ≡ None
    by true e rest = absurd (true≢false e)
    by false e rest = rest e

or_none : (o : Option Row) → option_or o None ≡ o
or_none None = refl
or_none (Some r) = refl

pub or_assoc : (a b c : Option Row) → option_or (option_or a b) c ≡ option_or a (option_or b c)
or_assoc None b c = refl
or_assoc (Some r) b c = refl

pub rows_are : (c : List Rule) (names : List Text) → AreOptions c names → (h : Held) (words : List Text) → are_options_in names words ≡ true → IsFresh c h words
    → (id : Text) → row_at id (settled_rows c (after c h words).pending (after c h words).rows)
    ≡ option_or (option_map (given id) (value_in (word_of id) words)) (row_at id (settled_rows c h.pending h.rows))
rows_are c names opts h [] e fresh id = refl
rows_are c names opts h (o ∷ []) e fresh id = refl
rows_are c names opts h (o ∷ v ∷ more) e fresh id =
    let pair = first_pair names o v more e in
    let is = opts o pair.known in
    let rows = settled_rows c h.pending h.rows in
    let none = fresh_now c h o v more is.0 is.1 fresh in
    let next = after_pair c h is.0.id v in
    let here : row_at id (settled_rows c next.pending next.rows) ≡ option_or (row_at id rows) (cond (bytes_eq is.0.id id) (Some (given is.0.id v)) None) =
    ap (row_at id) (settled_pair c h o v is.0 is.1 none) ∙ find-append (λ r. bytes_eq r.id id) rows (given is.0.id v ∷ []) in
    let there : row_at id (settled_rows c (after c next more).pending (after c next more).rows)
    ≡ option_or (option_map (given id) (value_in (word_of id) more)) (row_at id (settled_rows c next.pending next.rows)) =
    rows_are c names opts next more pair.rest (fresh_next c h o v more is.0 is.1 pair.once fresh) id in
    ap (λ i. row_at id (settled_rows c (after c (after_pair c h i v) more).pending (after c (after_pair c h i v) more).rows)) (sym (id_of c o is.0 is.1))
    ∙ there ∙ ap (option_or (option_map (given id) (value_in (word_of id) more))) here
    ∙ by (bytes_eq is.0.id id) is.0 refl is.1 pair.once none
  where
    by : (b : Bool) → (a : Rule) → bytes_eq a.id id ≡ b → IsOption c o a → has_option_in o more ≡ false → has_row a.id (settled_rows c h.pending h.rows) ≡ false
        → option_or (option_map (given id) (value_in (word_of id) more)) (option_or (row_at id (settled_rows c h.pending h.rows)) (cond b (Some (given a.id v)) None))
        ≡ option_or (option_map (given id) (value_in (word_of id) (o ∷ v ∷ more))) (row_at id (settled_rows c h.pending h.rows))
    by true a same is once none =
        let it : a.id ≡ id = (bytes_eq-Decides a.id id).0 same in
        let word : o ≡ word_of id = is.spelled ∙ ap word_of it in
        let hit : bytes_eq o (word_of id) ≡ true = (bytes_eq-Decides o (word_of id)).1 word in
        let gone : value_in (word_of id) more ≡ None = no_value (word_of id) more (ap (λ t. has_option_in t more) (sym word) ∙ once) in
        let empty : row_at id (settled_rows c h.pending h.rows) ≡ None = none_row id (settled_rows c h.pending h.rows) (ap (λ i. has_row i (settled_rows c h.pending h.rows)) (sym it) ∙ none) in
        rw (gone, empty, hit) (ap (λ i. Some (given i v)) it)
    by false a same is once none =
        let miss : bytes_eq o (word_of id) ≡ false = ap (λ t. bytes_eq t (word_of id)) is.spelled ∙ same in
        rw miss (ap (option_or (option_map (given id) (value_in (word_of id) more))) (or_none (row_at id (settled_rows c h.pending h.rows))))

-- ---- defaults

abbrev pub by_default : Rule → Row
by_default a = record { id = a.id; values = a.defaults; count = None; source = Some DefaultValue; reading = reading_by a }

abbrev pub has_some : List Text → Bool
has_some [] = false
has_some (d ∷ ds) = true

-- the default of the first option of this name that has one
abbrev pub default_row : Text → List Rule → Option Row
default_row id [] = None
default_row id (a ∷ rest) = option_or (cond (bytes_eq a.id id && has_some a.defaults) (Some (by_default a)) None) (default_row id rest)

has_is : (id : Text) (rows : List Row) → has_row id rows ≡ is_some (row_at id rows)
has_is id [] = refl
has_is id (r ∷ rows) = by (bytes_eq r.id id) (has_is id rows)
  where
    by : (b : Bool) → has_row id rows ≡ is_some (row_at id rows) → (b || has_row id rows) ≡ is_some (cond b (Some r) (row_at id rows))
    by true rest = refl
    by false rest = rest

default_one : (id : Text) (a : Rule) (rows : List Row)
    → row_at id (with_default rows a) ≡ option_or (row_at id rows) (cond (bytes_eq a.id id && has_some a.defaults) (Some (by_default a)) None)
default_one id a rows = by (has_row a.id rows) refl
  where
    same_row : (b : Bool) → bytes_eq a.id id ≡ b → is_some (row_at a.id rows) ≡ true → (e : Bool) → option_or (row_at id rows) (cond (b && e) (Some (by_default a)) None) ≡ row_at id rows
    same_row false is some e = or_none (row_at id rows)
    same_row true is some e = there (row_at id rows) (ap (λ i. is_some (row_at i rows)) (sym ((bytes_eq-Decides a.id id).0 is)) ∙ some)
      where
        there : (o : Option Row) → is_some o ≡ true → option_or o (cond e (Some (by_default a)) None) ≡ o
        there None n = absurd (true≢false (sym n))
        there (Some r) n = refl

    fresh : (ds : List Text) → has_row a.id rows ≡ false
        → row_at id (default_rows a.id (reading_by a) ds rows) ≡ option_or (row_at id rows) (cond (bytes_eq a.id id && has_some ds) (Some (record (by_default a) { values = ds })) None)
    fresh [] none = by_and (bytes_eq a.id id)
      where
        by_and : (b : Bool) → row_at id rows ≡ option_or (row_at id rows) (cond (b && false) (Some (record (by_default a) { values = [] })) None)
        by_and true = sym (or_none (row_at id rows))
        by_and false = sym (or_none (row_at id rows))
    fresh (d ∷ ds) none =
        ap (row_at id) (at_none a.id (more_values DefaultValue (d ∷ ds)) (record (by_default a) { values = d ∷ ds } ∷ []) rows none)
        ∙ find-append (λ r. bytes_eq r.id id) rows (record (by_default a) { values = d ∷ ds } ∷ [])
        ∙ by_and (bytes_eq a.id id)
      where
        by_and : (b : Bool) → option_or (row_at id rows) (cond b (Some (record (by_default a) { values = d ∷ ds })) None) ≡ option_or (row_at id rows) (cond (b && true) (Some (record (by_default a) { values = d ∷ ds })) None)
        by_and true = refl
        by_and false = refl

    by : (b : Bool) → has_row a.id rows ≡ b → row_at id (cond b rows (default_rows a.id (reading_by a) a.defaults rows)) ≡ option_or (row_at id rows) (cond (bytes_eq a.id id && has_some a.defaults) (Some (by_default a)) None)
    by true has = sym (same_row (bytes_eq a.id id) refl (sym (has_is a.id rows) ∙ has) (has_some a.defaults))
    by false has = fresh a.defaults has

pub defaults_are : (id : Text) (c : List Rule) (rows : List Row) → row_at id (fold with_default rows c) ≡ option_or (row_at id rows) (default_row id c)
defaults_are id [] rows = sym (or_none (row_at id rows))
defaults_are id (a ∷ rest) rows =
    defaults_are id rest (with_default rows a) ∙ ap (λ o. option_or o (default_row id rest)) (default_one id a rows)
    ∙ or_assoc (row_at id rows) (cond (bytes_eq a.id id && has_some a.defaults) (Some (by_default a)) None) (default_row id rest)
