-- Which values are refused, by the value of each name.
use Rattle.std.proofs.Common.{◌≡◌, ◌∙◌, Bool, cond, true, false, refl, sym, ap, ap₂, List, [], ◌∷◌, Some, None}
use Rattle.std.specs.Prelude.{drop}
use Rattle.std.specs.Str.{bytes_eq}
use Rattle.std.proofs.lemmas.Slice.Eq.{bytes_eq-Decides}
use Rattle.clap.specs.Facts.{parser_of_value}
use Rattle.clap.specs.Faults.{repeat_fault, settle_fault}
use Rattle.clap.specs.Kinds.{or_else, value_kinds}
use Rattle.clap.specs.Takes.{value_passes}
use Rattle.clap.specs.Walk.{Held, Rule, Text, arg_by_id, has_row, settled_rows}
use Rattle.command_line.specs.steps.Words.{are_options_in, has_option_in, value_in}
use Rattle.command_line.proofs.Walking.{AreOptions, IsOption, after_pair, both_empty, first_pair, id_of, refusals}
use Rattle.command_line.proofs.RowsRead.{IsFresh, fresh_now, fresh_next, no_value}

use_is : (c : List Rule) (h : Held) (o v : Text) (a : Rule) → IsOption c o a
    → settle_fault c false (after_pair c h a.id v)
    ≡ or_else (repeat_fault false a.id (settled_rows c h.pending h.rows)) (or_else (value_kinds a.ignore_case (parser_of_value a.parser) v) [])
use_is c h o v a is = rw (is.by_id, is.range, is.action) refl

passed : (a : Rule) (v : Text) → value_kinds a.ignore_case (parser_of_value a.parser) v ≡ [] → value_passes a v ≡ true
passed a v e = by (value_passes a v) e
  where
    by : (b : Bool) → cond b [] (Rattle.clap.specs.Values.refused_kind (parser_of_value a.parser) ∷ []) ≡ [] → b ≡ true
    by true e = refl
    by false e = cc

settled_passed : (c : List Rule) (h : Held) (o v : Text) (a : Rule) → IsOption c o a → settle_fault c false (after_pair c h a.id v) ≡ [] → value_passes a v ≡ true
settled_passed c h o v a is e =
    let all = both_empty (repeat_fault false a.id (settled_rows c h.pending h.rows)) (or_else (value_kinds a.ignore_case (parser_of_value a.parser) v) []) (sym (use_is c h o v a is) ∙ e) in
    passed a v (both_empty (value_kinds a.ignore_case (parser_of_value a.parser) v) [] all.1).0

settled_clean : (c : List Rule) (h : Held) (o v : Text) (a : Rule) → IsOption c o a → has_row a.id (settled_rows c h.pending h.rows) ≡ false → value_passes a v ≡ true
    → settle_fault c false (after_pair c h a.id v) ≡ []
settled_clean c h o v a is none pass = use_is c h o v a is ∙ rw (none, pass) refl

head_clean : (c : List Rule) (h : Held) (words : List Text) → refusals c h words ≡ [] → settle_fault c false h ≡ []
head_clean c h [] e = e
head_clean c h (o ∷ []) e = e
head_clean c h (o ∷ v ∷ more) e = (both_empty (settle_fault c false h) (refusals c (after_pair c h (drop 2 o) v) more) e).0

some_same : {A : Type 0} (x y : A) → Some x ≡ Some y → x ≡ y
some_same x y e = cc

-- where nothing is refused, each value passed
pub each_passed : (c : List Rule) (names : List Text) → AreOptions c names → (h : Held) (words : List Text) → are_options_in names words ≡ true → refusals c h words ≡ []
    → (name v : Text) (a : Rule) → value_in name words ≡ Some v → arg_by_id c (drop 2 name) ≡ Some a → value_passes a v ≡ true
each_passed c names opts h [] e clean name v a has arg = cc
each_passed c names opts h (o ∷ []) e clean name v a has arg = cc
each_passed c names opts h (o ∷ w ∷ more) e clean name v a has arg =
    let pair = first_pair names o w more e in
    let is = opts o pair.known in
    let rest = (both_empty (settle_fault c false h) (refusals c (after_pair c h (drop 2 o) w) more) clean).1 in
    let next : settle_fault c false (after_pair c h is.0.id w) ≡ [] =
    ap (λ i. settle_fault c false (after_pair c h i w)) (id_of c o is.0 is.1) ∙ head_clean c (after_pair c h (drop 2 o) w) more rest in
    by (bytes_eq o name) refl has is.0 is.1 (settled_passed c h o w is.0 is.1 next)
    (λ later. each_passed c names opts (after_pair c h (drop 2 o) w) more pair.rest rest name v a later arg)
  where
    by : (b : Bool) → bytes_eq o name ≡ b → cond b (Some w) (value_in name more) ≡ Some v → (d : Rule) → IsOption c o d → value_passes d w ≡ true
        → (value_in name more ≡ Some v → value_passes a v ≡ true) → value_passes a v ≡ true
    by true same has d is pass rest =
        let it : o ≡ name = (bytes_eq-Decides o name).0 same in
        let found : arg_by_id c d.id ≡ Some a = ap (arg_by_id c) (id_of c o d is ∙ ap (drop 2) it) ∙ arg in
        let same_rule : d ≡ a = some_same d a (sym is.by_id ∙ found) in
        let same_value : w ≡ v = some_same w v has in
        sym (ap₂ value_passes same_rule same_value) ∙ pass
    by false same has d is pass rest = rest has

-- where each value passes, nothing is refused
pub none_refused : (c : List Rule) (names : List Text) → AreOptions c names → (h : Held) (words : List Text) → are_options_in names words ≡ true → IsFresh c h words
    → settle_fault c false h ≡ []
    → ((name v : Text) (a : Rule) → value_in name words ≡ Some v → arg_by_id c (drop 2 name) ≡ Some a → value_passes a v ≡ true)
    → refusals c h words ≡ []
none_refused c names opts h [] e fresh clean pass = clean
none_refused c names opts h (o ∷ []) e fresh clean pass = clean
none_refused c names opts h (o ∷ w ∷ more) e fresh clean pass =
    let pair = first_pair names o w more e in
    let is = opts o pair.known in
    let same : bytes_eq o o ≡ true = (bytes_eq-Decides o o).1 refl in
    let here : value_passes is.0 w ≡ true = pass o w is.0 (rw same refl) (ap (arg_by_id c) (sym (id_of c o is.0 is.1)) ∙ is.1.by_id) in
    let next : settle_fault c false (after_pair c h is.0.id w) ≡ [] = settled_clean c h o w is.0 is.1 (fresh_now c h o w more is.0 is.1 fresh) here in
    let rest : refusals c (after_pair c h is.0.id w) more ≡ [] =
    none_refused c names opts (after_pair c h is.0.id w) more pair.rest (fresh_next c h o w more is.0 is.1 pair.once fresh) next (later pair.once) in
    ap (λ k. or_else k (refusals c (after_pair c h (drop 2 o) w) more)) clean ∙ ap (λ i. refusals c (after_pair c h i w) more) (sym (id_of c o is.0 is.1)) ∙ rest
  where
    at : (b : Bool) (name v : Text) → bytes_eq o name ≡ b → has_option_in o more ≡ false → value_in name more ≡ Some v → cond b (Some w) (value_in name more) ≡ Some v
    at true name v same once has =
        let it : o ≡ name = (bytes_eq-Decides o name).0 same in
        let gone : value_in name more ≡ None = ap (λ t. value_in t more) (sym it) ∙ no_value o more once in
        let bad : None ≡ Some v = sym gone ∙ has in
        cc
    at false name v same once has = has

    later : has_option_in o more ≡ false → (name v : Text) (a : Rule) → value_in name more ≡ Some v → arg_by_id c (drop 2 name) ≡ Some a → value_passes a v ≡ true
    later once name v a has arg = pass name v a (at (bytes_eq o name) name v refl once has) arg
