-- An option and its value, as `clap` walks over them.
use Rattle.std.proofs.Common.{◌≡◌, ◌∙◌, ◌==◌, ℕ, Bool, true, false, not, refl, sym, ap, subst, true≢false, List, [], ◌∷◌, Some, None}
use Rattle.std.specs.Str.{bytes_eq}
use Rattle.std.proofs.lemmas.Slice.Eq.{bytes_eq-Decides}
use Rattle.clap.specs.Lexer.{long_of, short_of}
use Rattle.clap.specs.Faults.{settle_fault, turn_fault, walk_fault}
use Rattle.clap.specs.Kinds.{Kinds, or_else}
use Rattle.clap.specs.Simple.{Shape, new_shape}
use Rattle.command_line.specs.Modes.{may_be_value}
use Rattle.command_line.specs.steps.Words.{are_options_in, has_option_in}
use Rattle.std.proofs.lemmas.Bool.{and_parts}
use Rattle.std.specs.Prelude.{drop, fold}
use Rattle.std.specs.List.{list_any}
use Rattle.clap.specs.Walk.{Held, Rule, Text, Walk, arg_by_id, arg_by_long, option, reading_by, settled, settled_rows, walk, walk_from, walked}
use Rattle.clap.specs.declared.builder.action.ArgAction.TheVariants.{Set}
use Rattle.clap.specs.declared.builder.value_parser.Reading.TheVariants.{AsWritten}

-- this word is an option of these, which takes one value
pub record IsOption (c : List Rule) (word : Text) (a : Rule) : Type 0 where
  pub spelled : word ≡ 45 ∷ 45 ∷ a.id
  pub long : long_of word ≡ Some (a.id, None)
  pub other : bytes_eq word (45 ∷ 45 ∷ []) ≡ false
  pub by_long : arg_by_long c a.id ≡ Some a
  pub by_id : arg_by_id c a.id ≡ Some a
  pub range : a.range ≡ Some (record { start_inclusive = 1; end_inclusive = 1 })
  pub action : a.action ≡ Some Set
  pub reading : reading_by a ≡ AsWritten

-- what is held after an option and its value
abbrev pub after_pair : List Rule → Held → Text → Text → Held
after_pair c h id value = record { rows = settled_rows c h.pending h.rows; pending = Some (id, value ∷ []); skip = h.skip }

abbrev pub between : List Rule → Held → Text → Walk
between c h id = record (walk_from (record (settled c h) { pending = Some (id, []) })) { waiting = option id }

pub after_option : (c : List Rule) (h : Held) (o : Text) (a : Rule) → IsOption c o a → walked c [] (walk_from h) o ≡ between c h a.id
unfolding walked
after_option c h o a is = rw (is.other, is.long, is.by_long, is.range) refl

-- a word that doesn't begin with `-` is none of clap's own
no_dashes : (x : ℕ) (xs : Text) → (x == 45) ≡ false → bytes_eq (x ∷ xs) (45 ∷ 45 ∷ []) ≡ false
no_dashes x xs ne = rw ne refl

no_long : (x : ℕ) (xs : Text) → (x == 45) ≡ false → long_of (x ∷ xs) ≡ None
no_long x xs ne = rw ne refl

no_short : (x : ℕ) (xs : Text) → (x == 45) ≡ false → short_of (x ∷ xs) ≡ None
no_short x xs ne = rw ne refl

pub after_value : (c : List Rule) (h : Held) (o : Text) (a : Rule) (x : ℕ) (xs : Text) → IsOption c o a → (x == 45) ≡ false
    → walked c [] (between c h a.id) (x ∷ xs) ≡ walk_from (after_pair c h a.id (x ∷ xs))
unfolding walked
after_value c h o a x xs is ne =
    let same : bytes_eq a.id a.id ≡ true = (bytes_eq-Decides a.id a.id).1 refl in
    rw (no_dashes x xs ne, no_long x xs ne, no_short x xs ne, is.by_id, same, is.range) refl

-- ---- what is refused on the way

abbrev pub shape : Text → List Rule → Shape
shape name c = record (new_shape name) {
  rules = c;
  no_binary_name = true;
  disable_help_flag = true;
  disable_help_subcommand = true;
  is_built = true;
}

pub or_nothing : (kinds : Kinds) → or_else kinds [] ≡ kinds
or_nothing [] = refl
or_nothing (k ∷ ks) = refl

pub or_else_assoc : (a b c : Kinds) → or_else (or_else a b) c ≡ or_else a (or_else b c)
or_else_assoc [] b c = refl
or_else_assoc (k ∷ ks) b c = refl

pub both_empty : (a b : Kinds) → or_else a b ≡ [] → (a ≡ []) × (b ≡ [])
both_empty [] b e = (refl, e)
both_empty (k ∷ ks) b e = cc

pub option_fault : (name : Text) (c : List Rule) (h : Held) (o : Text) (a : Rule) → IsOption c o a
    → turn_fault (shape name c) [] (walk_from h) o ≡ settle_fault c false h
option_fault name c h o a is = rw (is.other, is.long, is.by_long, is.range) (or_nothing (settle_fault c false h))

pub value_fault : (name : Text) (c : List Rule) (h : Held) (o : Text) (a : Rule) (x : ℕ) (xs : Text) → IsOption c o a → (x == 45) ≡ false
    → turn_fault (shape name c) [] (between c h a.id) (x ∷ xs) ≡ []
value_fault name c h o a x xs is ne =
    rw (no_dashes x xs ne, no_long x xs ne, no_short x xs ne) refl

-- ---- both words

first_not_dash : (v : Text) → may_be_value v ≡ true → (x : ℕ) × (xs : Text) × (v ≡ x ∷ xs) × ((x == 45) ≡ false)
first_not_dash [] e = absurd (true≢false (sym e))
first_not_dash (x ∷ xs) e = (x, xs, refl, by (x == 45) e)
  where
    by : (b : Bool) → not b ≡ true → b ≡ false
    by true e = sym e
    by false e = refl

pub pair_walk : (c : List Rule) (h : Held) (o v : Text) (a : Rule) → IsOption c o a → may_be_value v ≡ true
    → walked c [] (walked c [] (walk_from h) o) v ≡ walk_from (after_pair c h a.id v)
pair_walk c h o v a is may =
    let w = first_not_dash v may in
    ap (λ (m : Walk). walked c [] m v) (after_option c h o a is)
    ∙ subst (λ (t : Text). walked c [] (between c h a.id) t ≡ walk_from (after_pair c h a.id t)) (sym w.2) (after_value c h o a w.0 w.1 is w.3)

pub pair_fault : (name : Text) (c : List Rule) (h : Held) (o v : Text) (more : List Text) (a : Rule) → IsOption c o a → may_be_value v ≡ true
    → walk_fault (shape name c) [] (walk_from h) (o ∷ v ∷ more) ≡ or_else (settle_fault c false h) (walk_fault (shape name c) [] (walk_from (after_pair c h a.id v)) more)
unfolding walk_fault
pair_fault name c h o v more a is may =
    let w = first_not_dash v may in
    let quiet : turn_fault (shape name c) [] (between c h a.id) v ≡ [] =
    subst (λ (t : Text). turn_fault (shape name c) [] (between c h a.id) t ≡ []) (sym w.2) (value_fault name c h o a w.0 w.1 is w.3) in
    let second : turn_fault (shape name c) [] (walked c [] (walk_from h) o) v ≡ [] =
    ap (λ (m : Walk). turn_fault (shape name c) [] m v) (after_option c h o a is) ∙ quiet in
    ap (λ k. or_else k (or_else (turn_fault (shape name c) [] (walked c [] (walk_from h) o) v) (walk_fault (shape name c) [] (walked c [] (walked c [] (walk_from h) o) v) more))) (option_fault name c h o a is)
    ∙ ap (λ k. or_else (settle_fault c false h) (or_else k (walk_fault (shape name c) [] (walked c [] (walked c [] (walk_from h) o) v) more))) second
    ∙ ap (λ (m : Walk). or_else (settle_fault c false h) (walk_fault (shape name c) [] m more)) (pair_walk c h o v a is may)

-- ---- all of them

-- each of these names is an option
abbrev pub AreOptions : List Rule → List Text → Type 0
AreOptions c names = (o : Text) → list_any (λ name. bytes_eq name o) names ≡ true → (a : Rule) × IsOption c o a

-- what is held after the words
abbrev pub after : List Rule → Held → List Text → Held
after c h (o ∷ v ∷ more) = after c (after_pair c h (drop 2 o) v) more
after c h words = h

-- the first refusal of a value, where the last one is settled too
abbrev pub refusals : List Rule → Held → List Text → Kinds
refusals c h (o ∷ v ∷ more) = or_else (settle_fault c false h) (refusals c (after_pair c h (drop 2 o) v) more)
refusals c h words = settle_fault c false h

pub record IsPair (names : List Text) (o v : Text) (more : List Text) : Type 0 where
  pub known : list_any (λ name. bytes_eq name o) names ≡ true
  pub may : may_be_value v ≡ true
  pub once : has_option_in o more ≡ false
  pub rest : are_options_in names more ≡ true

not_true : (b : Bool) → not b ≡ true → b ≡ false
not_true true e = sym e
not_true false e = refl

pub first_pair : (names : List Text) (o v : Text) (more : List Text) → are_options_in names (o ∷ v ∷ more) ≡ true → IsPair names o v more
first_pair names o v more e =
    let all = and_parts _ _ e in
    let known = and_parts _ _ all.0 in
    let rest = and_parts _ _ known.1 in
    record { known = known.0; may = rest.0; once = not_true (has_option_in o more) rest.1; rest = all.1 }

pub id_of : (c : List Rule) (o : Text) (a : Rule) → IsOption c o a → a.id ≡ drop 2 o
id_of c o a is = sym (ap (drop 2) is.spelled)

pub walk_is : (c : List Rule) (names : List Text) → AreOptions c names → (h : Held) (words : List Text) → are_options_in names words ≡ true
    → walk c [] h words ≡ walk_from (after c h words)
walk_is c names opts h [] e = refl
walk_is c names opts h (o ∷ []) e = absurd (true≢false (sym e))
walk_is c names opts h (o ∷ v ∷ more) e =
    let pair = first_pair names o v more e in
    let is = opts o pair.known in
    ap (λ (m : Walk). fold (walked c []) m more) (pair_walk c h o v is.0 is.1 pair.may ∙ ap (λ id. walk_from (after_pair c h id v)) (id_of c o is.0 is.1))
    ∙ walk_is c names opts (after_pair c h (drop 2 o) v) more pair.rest

pub refusals_are : (name : Text) (c : List Rule) (names : List Text) → AreOptions c names → (h : Held) (words : List Text) → are_options_in names words ≡ true
    → or_else (walk_fault (shape name c) [] (walk_from h) words) (settle_fault c false (after c h words)) ≡ refusals c h words
unfolding walk_fault
refusals_are name c names opts h [] e = refl
refusals_are name c names opts h (o ∷ []) e = absurd (true≢false (sym e))
refusals_are name c names opts h (o ∷ v ∷ more) e =
    let pair = first_pair names o v more e in
    let is = opts o pair.known in
    let next = after_pair c h (drop 2 o) v in
    ap (λ k. or_else k (settle_fault c false (after c next more)))
    (pair_fault name c h o v more is.0 is.1 pair.may
    ∙ ap (λ id. or_else (settle_fault c false h) (walk_fault (shape name c) [] (walk_from (after_pair c h id v)) more)) (id_of c o is.0 is.1))
    ∙ or_else_assoc (settle_fault c false h) (walk_fault (shape name c) [] (walk_from next) more) (settle_fault c false (after c next more))
    ∙ ap (or_else (settle_fault c false h)) (refusals_are name c names opts next more pair.rest)
