-- Entries with one more.
use Rattle.std.proofs.Common.{◌≡◌, ℕ, Bool, true, false, cond, List, [], ◌∷◌, ◌++◌, map, refl, sym, ◌∙◌, ap}
use Rattle.std.specs.Prelude.{Option, Some, None, ◌||◌}
use Rattle.std.specs.List.{cons_option, filter_map, list_any}
use Rattle.std.specs.Option.{is_some}
use Rattle.std.specs.Str.{bytes_eq}
use Rattle.std.proofs.lemmas.Bool.{true≢false}
use Rattle.index_conf.specs.declared.conf.IndexConf.{IndexConf}
use Rattle.conf_text.specs.declared.keys.Key.{Key}
use Rattle.conf_text.specs.steps.Drafts.{AreIndexes, has_key}
use Rattle.conf_text.specs.Faults.{has_name, has_path, is_text}
use Rattle.conf_text.specs.Keys.{same_key}
use Rattle.conf_text.specs.Sections.{Entry, IndexText, given}

-- a key is among those of entries where it is given
pub has_given : (key : Key) (entries : List Entry) → has_key (map (λ e. e.key) entries) key ≡ is_some (given key entries)
has_given key [] = refl
has_given key (first ∷ entries) =
    elim (same_key first.key key) as (λ t. (t || has_key (map (λ e. e.key) entries) key) ≡ is_some (cond t (Some first.value) (given key entries))) [
      | true ↦ refl
      | false ↦ has_given key entries
    ]

-- another key changes nothing
pub given_other : (key : Key) (entries : List Entry) (e : Entry) → same_key e.key key ≡ false → given key (entries ++ e ∷ []) ≡ given key entries
given_other key [] e other = ap (λ t. cond t (Some e.value) None) other
given_other key (first ∷ entries) e other = ap (λ rest. cond (same_key first.key key) (Some first.value) rest) (given_other key entries e other)

given_new_cons : (key : Key) (first : Entry) (old new : Option (List ℕ)) (value : List ℕ) (test : Bool) → (is_some old ≡ false → new ≡ Some value) → is_some (cond test (Some first.value) old) ≡ false → cond test (Some first.value) new ≡ Some value
given_new_cons key first old new value true more none = absurd (true≢false none)
given_new_cons key first old new value false more none = more none

-- a key that wasn't given is given by the new entry
pub given_new : (key : Key) (entries : List Entry) (e : Entry) → same_key e.key key ≡ true → is_some (given key entries) ≡ false → given key (entries ++ e ∷ []) ≡ Some e.value
given_new key [] e same none = ap (λ t. cond t (Some e.value) None) same
given_new key (first ∷ entries) e same none = given_new_cons key first (given key entries) (given key (entries ++ e ∷ [])) e.value (same_key first.key key) (given_new key entries e same) none

-- what one more element adds
pub filter_map_more : {X Y : Type 0} (h : X → Option Y) (xs : List X) (x : X) → filter_map h (xs ++ x ∷ []) ≡ filter_map h xs ++ cons_option (h x) []
filter_map_more h [] x = refl
filter_map_more h (first ∷ xs) x =
    elim (h first) as (λ o. cons_option o (filter_map h (xs ++ x ∷ [])) ≡ cons_option o (filter_map h xs) ++ cons_option (h x) []) [
      | None ↦ filter_map_more h xs x
      | Some y ↦ ap (λ ys. y ∷ ys) (filter_map_more h xs x)
    ]

-- a test over changed elements
pub list_any_map : {X Y : Type 0} (p : Y → Bool) (f : X → Y) (xs : List X) → list_any p (map f xs) ≡ list_any (λ x. p (f x)) xs
list_any_map p f [] = refl
list_any_map p f (x ∷ xs) = ap (λ b. p (f x) || b) (list_any_map p f xs)

-- the indexes with a name, and with a path
pub named_by : (name : List ℕ) (texts : List IndexText) (indexes : List IndexConf) → AreIndexes texts indexes → list_any (has_name name) texts ≡ list_any (λ index. bytes_eq index.schema.name name) indexes
named_by name [] [] are = refl
named_by name [] (index ∷ indexes) are = absurd are
named_by name (text ∷ texts) [] are = absurd are
named_by name (text ∷ texts) (index ∷ indexes) are =
    ap (λ n. bytes_eq n name || list_any (has_name name) texts) (sym are.0.name) ∙ ap (λ b. bytes_eq index.schema.name name || b) (named_by name texts indexes are.1)

pub pathed_by : (path : List ℕ) (texts : List IndexText) (indexes : List IndexConf) → AreIndexes texts indexes → list_any (has_path path) texts ≡ list_any (λ index. bytes_eq index.path path) indexes
pathed_by path [] [] are = refl
pathed_by path [] (index ∷ indexes) are = absurd are
pathed_by path (text ∷ texts) [] are = absurd are
pathed_by path (text ∷ texts) (index ∷ indexes) are =
    ap (λ p. is_text path p || list_any (has_path path) texts) are.0.path ∙ ap (λ b. bytes_eq index.path path || b) (pathed_by path texts indexes are.1)
