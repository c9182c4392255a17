-- The numbers of characters, and the values of an entry by its span.
use Rattle.std.proofs.Common.{◌≡◌, ℕ, zero, suc, ◌+◌, ◌-◌, ◌<◌, ◌≤◌, Bool, true, false, cond, ltb, leb, List, [], ◌∷◌, ◌++◌, length, get_or, Option, Some, None, refl, sym, ◌∙◌, ap, subst, arith, inl, inr}
use Rattle.std.specs.Prelude.{◌&&◌}
use Rattle.std.specs.Char.{IsScalar}
use Rattle.std.specs.Option.{option_map, option_or}
use lib.Utf8.{scalar, scalar_cases, low_scalar}
use Rattle.std.proofs.lemmas.Bool.{and_parts, cases_lt, leb-true, lt-ltb, le-ltb, le-leb, lt-leb}
use Rattle.std.proofs.lemmas.List.Elements.{All-push}
use Rattle.std.proofs.lemmas.List.Quantifiers.{all_pairs_push}
use Rattle.charset_map.specs.declared.entries.CharRange.{CharRange}
use Rattle.charset_map.specs.declared.entries.Entry.{Entry}
use Rattle.charset_map.specs.declared.span.Span.{Span}
use Rattle.charset_map.specs.Characters.{ordinal, character_at, IsCharacter}
use Rattle.charset_map.specs.Entries.{IsSingle, IsRange, IsEntry, single, range, mapped, mapped_range}
use Rattle.charset_map.specs.Table.{IsEven, value_in, value_of, NeverDiffer, IsTable}
use Rattle.charset_map.specs.TableText.{GivesAnother}
use Rattle.charset_map.specs.Spans.{number_in}
use Rattle.charset_map.specs.steps.SpanLists.{SameWhereBoth, Differ}
use Rattle.charset_map.specs.steps.Adding.{by_numbers, StandsFor, IsSpanOf}

-- ---- numbers of characters
low_ordinal : (c : ℕ) → c < 0xD800 → ordinal c ≡ c
low_ordinal c low = ap (λ b. cond b c (c - 0x800)) (lt-ltb c 0xD800 low)

high_ordinal : (c : ℕ) → 0xD800 ≤ c → ordinal c ≡ c - 0x800
high_ordinal c high = ap (λ b. cond b c (c - 0x800)) (le-ltb c 0xD800 high)

low_character : (n : ℕ) → n < 0xD800 → character_at n ≡ n
low_character n low = ap (λ b. cond b n (n + 0x800)) (lt-ltb n 0xD800 low)

high_character : (n : ℕ) → 0xD800 ≤ n → character_at n ≡ n + 0x800
high_character n high = ap (λ b. cond b n (n + 0x800)) (le-ltb n 0xD800 high)

pub ordinal_of_character : (n : ℕ) → ordinal (character_at n) ≡ n
ordinal_of_character n = elim (cases_lt n 0xD800) [
  | inl low ↦ ap ordinal (low_character n low) ∙ low_ordinal n low
  | inr high ↦ ap ordinal (high_character n high) ∙ high_ordinal (n + 0x800) (omega arith) ∙ omega arith
]

pub scalar_at : (n : ℕ) → n < 0x10_F800 → IsScalar (character_at n)
scalar_at n within = elim (cases_lt n 0xD800) [
  | inl low ↦ subst (λ (c : ℕ). IsScalar c) (sym (low_character n low)) (ap (λ b. cond b true (leb 57344 n && ltb n 1114112)) (lt-ltb n 55296 low))
  | inr high ↦ subst (λ (c : ℕ). IsScalar c) (sym (high_character n high))
      (ap (λ b. cond b true (leb 57344 (n + 0x800) && ltb (n + 0x800) 1114112)) (le-ltb (n + 0x800) 55296 (omega arith))
      ∙ ap (λ b. b && ltb (n + 0x800) 1114112) (le-leb 57344 (n + 0x800) (omega arith))
      ∙ lt-ltb (n + 0x800) 1114112 (omega arith))
]

-- no surrogate
after_surrogates : (c : ℕ) → IsScalar c → 0xD800 ≤ c → 0xE000 ≤ c
after_surrogates c scalar high = elim (scalar_cases c scalar) [
  | inl low ↦ absurd (omega (arith, low))
  | inr ranges ↦ ranges.0
]

ordinals_rise : (a b : ℕ) → IsScalar a → IsScalar b → a < b → ordinal a < ordinal b
ordinals_rise a b scalar_a scalar_b less = elim (cases_lt b 0xD800) [
  | inl low ↦ omega (arith, low_ordinal a (omega arith), low_ordinal b low)
  | inr high ↦ (elim (cases_lt a 0xD800) [
    | inl low ↦ omega (arith, low_ordinal a low, high_ordinal b high, after_surrogates b scalar_b high)
    | inr both ↦ omega (arith, high_ordinal a both, high_ordinal b high)
  ])
]

same_order : (a b : ℕ) → IsScalar a → IsScalar b → leb a b ≡ leb (ordinal a) (ordinal b)
same_order a b scalar_a scalar_b = elim (cases_lt b a) [
  | inl less ↦ lt-leb a b less ∙ sym (lt-leb (ordinal a) (ordinal b) (ordinals_rise b a scalar_b scalar_a less))
  | inr more ↦ le-leb a b more ∙ sym (le-leb (ordinal a) (ordinal b) (elim (cases_lt a b) [
    | inl above ↦ omega (arith, ordinals_rise a b scalar_a scalar_b above)
    | inr below ↦ (let same : a ≡ b = omega arith in omega (arith, ap ordinal same))
  ]))
]

-- ---- the characters of an entry
written_scalar : (text : List ℕ) (c : ℕ) → IsCharacter text c → IsScalar c
written_scalar text c (inl (is, plain)) = low_scalar c (omega (arith, leb-true c 126 (and_parts _ _ (and_parts _ _ plain).0).1))
written_scalar text c (inr code) = code.scalar

-- both ends of a range
pub record HasEnds (range : CharRange) : Type 0 where
  pub first : IsScalar range.first
  pub last : IsScalar range.last

single_ends : (text : List ℕ) (r : CharRange) → IsSingle text r → HasEnds r
single_ends text r is = record { first = written_scalar text r.first is.0; last = subst (λ (c : ℕ). IsScalar c) (sym is.1) (written_scalar text r.first is.0) }

range_ends : (text : List ℕ) (r : CharRange) → IsRange text r → HasEnds r
range_ends text r is = record { first = written_scalar is.low r.first is.first; last = written_scalar is.high r.last is.last }

pub entry_ends : (text : List ℕ) (entry : Entry) → IsEntry text entry → HasEnds entry.from
entry_ends text entry (single is own) = single_ends text entry.from is
entry_ends text entry (range is own) = range_ends text entry.from is
entry_ends text entry (mapped m) = single_ends m.left entry.from m.from
entry_ends text entry (mapped_range m) = range_ends m.left entry.from m.from

-- ---- values
chosen : (t : Bool) (n : ℕ) → cond t (Some (character_at n)) None ≡ option_map character_at (cond t (Some n) None)
chosen true n = refl
chosen false n = refl

value_by_span : (entry : Entry) (span : Span) (c : ℕ) → HasEnds entry.from → IsSpanOf entry span → IsScalar c → value_in entry c ≡ by_numbers (number_in span) c
value_by_span entry span c ends is scalar =
    let low : leb entry.from.first c ≡ leb span.first (ordinal c) = same_order entry.from.first c ends.first scalar ∙ ap (λ (n : ℕ). leb n (ordinal c)) (sym is.first) in
    let high : leb c entry.from.last ≡ leb (ordinal c) span.last = same_order c entry.from.last scalar ends.last ∙ ap (λ (n : ℕ). leb (ordinal c) n) (sym is.last) in
    let n : ℕ = ordinal entry.to.first + (ordinal c - ordinal entry.from.first) in
    let same : n ≡ span.value + (ordinal c - span.first) = ap (λ (v : ℕ). v + (ordinal c - ordinal entry.from.first)) (sym is.value) ∙ ap (λ (f : ℕ). span.value + (ordinal c - f)) (sym is.first) in
    ap (λ (t : Bool). cond (t && leb c entry.from.last) (Some (character_at n)) None) low
    ∙ ap (λ (t : Bool). cond (leb span.first (ordinal c) && t) (Some (character_at n)) None) high
    ∙ chosen (leb span.first (ordinal c) && leb (ordinal c) span.last) n
    ∙ ap (λ (m : ℕ). option_map character_at (cond (leb span.first (ordinal c) && leb (ordinal c) span.last) (Some m) None)) same

map_or : (f : ℕ → ℕ) (a b : Option ℕ) → option_map f (option_or a b) ≡ option_or (option_map f a) (option_map f b)
map_or f None b = refl
map_or f (Some v) b = refl

or_none : (a : Option ℕ) → option_or a None ≡ a
or_none None = refl
or_none (Some v) = refl

or_assoc : (a b c : Option ℕ) → option_or a (option_or b c) ≡ option_or (option_or a b) c
or_assoc None b c = refl
or_assoc (Some v) b c = refl

value_of_more : (entries : List Entry) (entry : Entry) (c : ℕ) → value_of (entries ++ entry ∷ []) c ≡ option_or (value_of entries c) (value_in entry c)
value_of_more [] entry c = or_none (value_in entry c)
value_of_more (first ∷ entries) entry c = ap (option_or (value_in first c)) (value_of_more entries entry c) ∙ or_assoc (value_in first c) (value_of entries c) (value_in entry c)

first_or : (a rest : Option ℕ) (v : ℕ) → ((u : ℕ) → a ≡ Some u → u ≡ v) → (a ≡ None → rest ≡ Some v) → option_or a rest ≡ Some v
first_or None rest v here later = later refl
first_or (Some u) rest v here later = ap Some (here u refl)

table_tail : (entry : Entry) (entries : List Entry) → IsTable (entry ∷ entries) → IsTable entries
table_tail entry entries table = record {
  even = λ k d below. table.even (suc k) d (omega arith);
  agree = λ i j d order below. table.agree (suc i) (suc j) d (omega arith) (omega arith);
}

some_same : (o : Option ℕ) (u v : ℕ) → o ≡ Some u → o ≡ Some v → u ≡ v
some_same o u v a b = cc

some_none : {P : Type 0} (o : Option ℕ) (v : ℕ) → o ≡ Some v → o ≡ None → P
some_none o v a b = cc

-- the table has the value of each of its entries
table_value : (entries : List Entry) (k c v : ℕ) (d : Entry) → IsTable entries → IsScalar c → k < length entries → value_in (get_or entries k d) c ≡ Some v → value_of entries c ≡ Some v
table_value [] k c v d table scalar within gives = absurd (omega arith)
table_value (entry ∷ entries) zero c v d table scalar within gives =
    first_or (value_in entry c) (value_of entries c) v (λ u is. some_same (value_in entry c) u v is gives) (λ none. some_none (value_in entry c) v gives none)
table_value (entry ∷ entries) (suc k) c v d table scalar within gives =
    first_or (value_in entry c) (value_of entries c) v (λ u is. table.agree 0 (suc k) d (omega arith) within c u v scalar is gives) (λ none. table_value entries k c v d (table_tail entry entries table) scalar (omega arith) gives)

-- what a number stood for
from_map : (o : Option ℕ) (v : ℕ) → option_map character_at o ≡ Some v → (n : ℕ) × (o ≡ Some n) × (character_at n ≡ v)
from_map None v is = some_none None v is refl
from_map (Some n) v is = (n, refl, some_same (option_map character_at (Some n)) (character_at n) v refl is)

pub stands_for_more : (old new : ℕ → Option ℕ) (entries : List Entry) (entry : Entry) (span : Span) → HasEnds entry.from → IsSpanOf entry span → SameWhereBoth old (number_in span) → ((n : ℕ) → new n ≡ option_or (old n) (number_in span n)) → StandsFor old entries → StandsFor new (entries ++ entry ∷ [])
stands_for_more old new entries entry span ends is same more stands =
    let by : (c : ℕ) → IsScalar c → value_in entry c ≡ by_numbers (number_in span) c = λ c scalar. value_by_span entry span c ends is scalar in
    record {
      sound = record {
        even = All-push IsEven entries entry stands.sound.even is.even;
        agree = all_pairs_push (λ (first later : Entry). NeverDiffer (value_in first) (value_in later)) entries entry stands.sound.agree (λ k d below c v w scalar gives gets.
            let had = from_map (old (ordinal c)) v (stands.values c scalar ∙ table_value entries k c v d stands.sound scalar below gives) in
            let new_one = from_map (number_in span (ordinal c)) w (sym (by c scalar) ∙ gets) in
            let one : had.0 ≡ new_one.0 = same (ordinal c) had.0 new_one.0 had.1 new_one.1 in
            sym had.2 ∙ ap character_at one ∙ new_one.2);
      };
      values = λ c scalar.
          ap (option_map character_at) (more (ordinal c))
          ∙ map_or character_at (old (ordinal c)) (number_in span (ordinal c))
          ∙ ap (λ (o : Option ℕ). option_or o (by_numbers (number_in span) c)) (stands.values c scalar)
          ∙ ap (option_or (value_of entries c)) (sym (by c scalar))
          ∙ sym (value_of_more entries entry c);
    }

pub gives_another : (old : ℕ → Option ℕ) (entries : List Entry) (entry : Entry) (span : Span) → HasEnds entry.from → IsSpanOf entry span → Differ old (number_in span) → StandsFor old entries → GivesAnother (value_of entries) entry
gives_another old entries entry span ends is differ stands =
    let c : ℕ = character_at differ.number in
    let scalar : IsScalar c = scalar_at differ.number differ.within in
    let number : ordinal c ≡ differ.number = ordinal_of_character differ.number in
    record {
      character = c;
      scalar = scalar;
      had = character_at differ.first;
      has_had = sym (stands.values c scalar) ∙ ap (λ (n : ℕ). option_map character_at (old n)) number ∙ ap (option_map character_at) differ.by_first;
      gets = character_at differ.second;
      would_get = value_by_span entry span c ends is scalar ∙ ap (λ (n : ℕ). option_map character_at (number_in span n)) number ∙ ap (option_map character_at) differ.by_second;
      differ = λ same. differ.differ (sym (ordinal_of_character differ.first) ∙ ap ordinal same ∙ ordinal_of_character differ.second);
    }
