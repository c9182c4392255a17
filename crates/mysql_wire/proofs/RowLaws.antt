-- Reading a row value by value finds the one row that fills the payload, or the first fault.
use Rattle.std.proofs.Common.{◌≡◌, ℕ, ◌+◌, ◌-◌, ◌<◌, ◌≤◌, false, eqb, List, [], ◌∷◌, ◌++◌, length, Option, Some, None, refl, sym, ap, subst, ◌∙◌, append_assoc, arith, inl, inr}
use Rattle.std.proofs.lemmas.Bool.{eqb-true}
use Rattle.std.proofs.lemmas.List.{length-append, append-nil, map_push, nil_from_length}
use Rattle.std.proofs.lemmas.Option.{some_pair_parts}
use Rattle.mysql_wire.specs.Fields.{IsNumber, Field, IsField, Fills, Reaches, IsFirstFault}
use Rattle.mysql_wire.specs.Payloads.{cell_field, row_fields}
use Rattle.mysql_wire.specs.steps.Scanning.{text_at, as_value, cell_at}
use Rattle.mysql_wire.proofs.FieldLaws.{Begins, chosen, text_takes, text_again}
use Rattle.mysql_wire.proofs.ScanLaws.{Reached, to_reached}

abbrev Value : Type 0
Value = Option (List ℕ)

-- ---- one value

as_value_is : (read : Option (List ℕ × List ℕ)) (value : Value) (rest : List ℕ) → as_value read ≡ Some (value, rest) → (text : List ℕ) × (value ≡ Some text) × (read ≡ Some (text, rest))
as_value_is None value rest e = absurd cc
as_value_is (Some (text, after)) value rest e =
    let s = some_pair_parts (Some text) value after rest e in (text, sym s.0, ap (λ (r : List ℕ). Some (text, r)) s.1)

pub cell_takes : (bytes : List ℕ) (value : Value) (rest : List ℕ) → cell_at bytes ≡ Some (value, rest) → Begins (cell_field value) bytes rest
cell_takes [] value rest e = absurd cc
cell_takes (mark ∷ low) value rest e =
    elim (chosen (eqb mark 0xfb) (Some (None, low)) (as_value (text_at (mark ∷ low))) (Some (value, rest)) e) [
      | inl null ↦
          let s = some_pair_parts None value low rest null.1 in
          subst (λ (v : Value). Begins (cell_field v) (mark ∷ low) rest) s.0 (record { part = 0xfb ∷ []; is = ap (λ (m : ℕ). m ∷ low) (eqb-true mark 0xfb null.0) ∙ ap (λ (r : List ℕ). 0xfb ∷ r) s.1; spelled = refl })
      | inr more ↦
          let t = as_value_is (text_at (mark ∷ low)) value rest more.1 in
          subst (λ (v : Value). Begins (cell_field v) (mark ∷ low) rest) (sym t.1) (text_takes (mark ∷ low) t.0 rest t.2)
    ]

-- a number doesn't begin with the mark of NULL
not_null : (head : List ℕ) (n : ℕ) → IsNumber head n → (mark : ℕ) × (low : List ℕ) × (head ≡ mark ∷ low) × (eqb mark 0xfb ≡ false)
not_null head n h =
    elim h [
      | inl one ↦ (n, [], one.0, grind arith)
      | inr long ↦ elim long [
        | inl two ↦ (0xfc, two.0, two.1, refl)
        | inr more ↦ elim more [
          | inl three ↦ (0xfd, three.0, three.1, refl)
          | inr eight ↦ (0xfe, eight.0, eight.1, refl)
        ]
      ]
    ]

pub cell_again : (part : List ℕ) (value : Value) (rest : List ℕ) → IsField (cell_field value) part → cell_at (part ++ rest) ≡ Some (value, rest)
cell_again part None rest h = ap (λ (p : List ℕ). cell_at (p ++ rest)) h
cell_again part (Some text) rest h =
    let first = not_null h.0 (length text) h.1 in
    let begins : part ++ rest ≡ first.0 ∷ (first.1 ++ (text ++ rest)) = ap (λ (p : List ℕ). p ++ rest) h.2 ∙ append_assoc h.0 text rest ∙ ap (λ (p : List ℕ). p ++ (text ++ rest)) first.2 in
    let read : text_at (first.0 ∷ (first.1 ++ (text ++ rest))) ≡ Some (text, rest) = ap text_at (sym begins) ∙ text_again part text rest h in
    ap cell_at begins ∙ rw (first.3) (ap as_value read)

-- a value takes at least a byte
pub cell_shorter : (bytes : List ℕ) (value : Value) (rest : List ℕ) → cell_at bytes ≡ Some (value, rest) → length rest < length bytes
cell_shorter bytes value rest e =
    let b = cell_takes bytes value rest e in
    omega (arith, taken value b.part b.spelled, ap length b.is, length-append b.part rest)
  where
    taken : (v : Value) (part : List ℕ) → IsField (cell_field v) part → 0 < length part
    taken None part h = rw h (omega arith)
    taken (Some text) part h = let first = not_null h.0 (length text) h.1 in omega (arith, ap length h.2, length-append h.0 text, ap length first.2)

-- ---- values one after the other

pub record ReadSoFar (row : List Value) (payload rest : List ℕ) : Type 0 where
  pub front : List ℕ
  pub is : payload ≡ front ++ rest
  pub filled : Fills (row_fields row) front

pub none_read : (payload : List ℕ) → ReadSoFar [] payload payload
unfolding Fills
none_read payload = record { front = []; is = refl; filled = refl }

fills_more : (fields : List Field) (field : Field) (front part : List ℕ) → Fills fields front → IsField field part → Fills (fields ++ field ∷ []) (front ++ part)
unfolding Fills
fills_more [] field front part fills h = (part, [], ap (λ (f : List ℕ). f ++ part) fills ∙ sym (append-nil part), h, refl)
fills_more (first ∷ fields) field front part fills h =
    (fills.0, fills.1 ++ part, ap (λ (f : List ℕ). f ++ part) fills.2 ∙ append_assoc fills.0 fills.1 part, fills.3, fills_more fields field fills.1 part fills.4 h)

pub one_more_read : (row : List Value) (payload rest : List ℕ) (value : Value) (after : List ℕ) → ReadSoFar row payload rest → cell_at rest ≡ Some (value, after) → ReadSoFar (row ++ value ∷ []) payload after
one_more_read row payload rest value after so_far e =
    let b = cell_takes rest value after e in
    record {
      front = so_far.front ++ b.part;
      is = so_far.is ∙ ap (λ (r : List ℕ). so_far.front ++ r) b.is ∙ sym (append_assoc so_far.front b.part after);
      filled = rw (map_push cell_field row value) (fills_more (row_fields row) (cell_field value) so_far.front b.part so_far.filled b.spelled);
    }

-- bytes that begin with a value in two ways begin with the same value
same_first : (bytes part rest other_part other_rest : List ℕ) (value other : Value) → bytes ≡ part ++ rest → IsField (cell_field value) part → bytes ≡ other_part ++ other_rest → IsField (cell_field other) other_part → (other ≡ value) × (other_rest ≡ rest)
same_first bytes part rest other_part other_rest value other is h other_is other_h =
    some_pair_parts other value other_rest rest (sym (cell_again other_part other other_rest other_h) ∙ ap cell_at (sym other_is) ∙ ap cell_at is ∙ cell_again part value rest h)

nothing_there : (value : Value) (part rest : List ℕ) → IsField (cell_field value) part → [] ≡ part ++ rest → ⊥
nothing_there value part rest h e = let k = sym (ap cell_at e) ∙ refl in absurd (let again = cell_again part value rest h in cc)

one_row : (row other : List Value) (bytes : List ℕ) → Fills (row_fields row) bytes → Fills (row_fields other) bytes → other ≡ row
unfolding Fills
one_row [] [] bytes fills others = refl
one_row [] (o ∷ other) bytes fills others = absurd (nothing_there o others.0 others.1 others.3 (sym fills ∙ others.2))
one_row (value ∷ row) [] bytes fills others = absurd (nothing_there value fills.0 fills.1 fills.3 (sym others ∙ fills.2))
one_row (value ∷ row) (o ∷ other) bytes fills others =
    let s = same_first bytes fills.0 fills.1 others.0 others.1 value o fills.2 fills.3 others.2 others.3 in
    let tails = one_row row other fills.1 fills.4 (subst (λ (r : List ℕ). Fills (row_fields other) r) s.1 others.4) in
    ap (λ (v : Value). v ∷ other) s.0 ∙ ap (λ (vs : List Value). value ∷ vs) tails

pub whole_row : (row : List Value) (payload rest : List ℕ) → ReadSoFar row payload rest → length rest ≡ 0 → Fills (row_fields row) payload × ((other : List Value) → Fills (row_fields other) payload → other ≡ row)
whole_row row payload rest so_far empty =
    let nothing : rest ≡ [] = nil_from_length rest empty in
    let all : so_far.front ≡ payload = sym (so_far.is ∙ ap (λ (r : List ℕ). so_far.front ++ r) nothing ∙ append-nil so_far.front) in
    let fills : Fills (row_fields row) payload = subst (λ (p : List ℕ). Fills (row_fields row) p) all so_far.filled in
    (fills, λ other others. one_row row other payload fills others)

-- ---- where no value stands

no_further : (row other : List Value) (front rest : List ℕ) (place : ℕ) → Fills (row_fields row) front → cell_at rest ≡ None → Reached (row_fields other) (front ++ rest) place → place ≤ length front
unfolding Fills
no_further row [] front rest place fills none reached = omega arith
no_further [] (o ∷ other) front rest place fills none reached =
    elim reached [
      | inl here ↦ omega arith
      | inr m ↦
          let read : cell_at rest ≡ Some (o, m.1) = ap (λ (f : List ℕ). cell_at (f ++ rest)) (sym fills) ∙ ap cell_at m.2 ∙ cell_again m.0 o m.1 m.3 in
          absurd cc
    ]
no_further (value ∷ row) (o ∷ other) front rest place fills none reached =
    elim reached [
      | inl here ↦ omega arith
      | inr m ↦
          let parts : front ++ rest ≡ fills.0 ++ (fills.1 ++ rest) = ap (λ (f : List ℕ). f ++ rest) fills.2 ∙ append_assoc fills.0 fills.1 rest in
          let s = same_first (front ++ rest) fills.0 (fills.1 ++ rest) m.0 m.1 value o parts fills.3 m.2 m.3 in
          let deeper = no_further row other fills.1 rest m.4 fills.4 none (subst (λ (r : List ℕ). Reached (row_fields other) r m.4) s.1 m.6) in
          omega (arith, deeper, m.5, ap length fills.2, length-append fills.0 fills.1, ap length parts, length-append fills.0 (fills.1 ++ rest), ap length m.2, length-append m.0 m.1, ap length s.1)
    ]

pub no_row : (row : List Value) (payload rest : List ℕ) → ReadSoFar row payload rest → cell_at rest ≡ None → 0 < length rest → ((value : List Value) → Fills (row_fields value) payload → ⊥) × IsFirstFault row_fields payload (length payload - length rest)
no_row row payload rest so_far none some =
    let len : length payload ≡ length so_far.front + length rest = ap length so_far.is ∙ length-append so_far.front rest in
    let place_is : length so_far.front ≡ length payload - length rest = omega (arith, len) in
    let farthest : (other : List Value) (further : ℕ) → Reaches (row_fields other) payload further → further ≤ length payload - length rest = λ other further r. let h = no_further row other so_far.front rest further so_far.filled none (subst (λ (p : List ℕ). Reached (row_fields other) p further) so_far.is (to_reached (row_fields other) payload further r)) in omega (arith, h, place_is) in (
      λ value fills. let h = farthest value (length payload) (record { done = row_fields value; others = []; front = payload; rest = []; fields_are = sym (append-nil (row_fields value)); payload_is = sym (append-nil payload); filled = fills; place_is = refl }) in absurd (omega (arith, h, len, some)),
      record {
        value = row;
        reached = record { done = row_fields row; others = []; front = so_far.front; rest = rest; fields_are = sym (append-nil (row_fields row)); payload_is = so_far.is; filled = so_far.filled; place_is = sym place_is };
        farthest = farthest;
      },
    )
