-- Going from field to field finds the one value whose fields fill the payload, or the first fault.
use Rattle.std.proofs.Common.{◌≡◌, ℕ, ◌+◌, ◌-◌, ◌≤◌, List, [], ◌∷◌, ◌++◌, length, Option, Some, None, Result, Ok, Err, refl, sym, ap, subst, ◌∙◌, append_assoc, arith, inl, inr}
use Rattle.std.specs.Prelude.{◌⊎◌}
use Rattle.std.proofs.lemmas.List.{length-append, append-nil}
use Rattle.srch_base.specs.declared.faults.Or.{Or}
use Rattle.srch_base.specs.declared.faults.Or.TheVariants.{NoMemory, Fault}
use Rattle.mysql_wire.specs.declared.fields.Stop.{Stop}
use Rattle.mysql_wire.specs.declared.fields.WireFault.{WireFault}
use Rattle.mysql_wire.specs.steps.NumberFronts.{fixed_front, lenenc_front}
use Rattle.mysql_wire.specs.Fields.{Field, Exactly, Sized, Plain, Number, Lengthed, IsField, Fills, Reaches, Reads}
use Rattle.mysql_wire.specs.steps.Scanning.{known_at, sized_at, text_at, ◌>>=◌, at, Layout, Done, Known, Either, SizedBytes, PlainNumber, AnyNumber, AnyText, Rest, ended, or_other, scan, Gives, answer_to}
use Rattle.mysql_wire.proofs.FieldLaws.{Begins, known_takes, known_again, sized_takes, sized_again, plain_takes, plain_again, number_takes, number_again, text_takes, text_again}

-- The layout allows these fields, and they hold this value.
abbrev pub Path : {A : Type 0} → Layout A → List Field → A → Type 0
Path (Done value) fields a = (fields ≡ []) × (value ≡ a)
Path (Known field next) fields a = (others : List Field) × (fields ≡ field ∷ others) × Path next others a
Path (Either field next other next_other) fields a =
    ((others : List Field) × (fields ≡ field ∷ others) × Path next others a) ⊎ ((others : List Field) × (fields ≡ other ∷ others) × Path next_other others a)
Path (SizedBytes size next) fields a = (bytes : List ℕ) × (others : List Field) × (fields ≡ Sized size bytes ∷ others) × Path (next bytes) others a
Path (PlainNumber size next) fields a = (n : ℕ) × (others : List Field) × (fields ≡ Plain size n ∷ others) × Path (next n) others a
Path (AnyNumber next) fields a = (n : ℕ) × (others : List Field) × (fields ≡ Number n ∷ others) × Path (next n) others a
Path (AnyText next) fields a = (text : List ℕ) × (others : List Field) × (fields ≡ Lengthed text ∷ others) × Path (next text) others a
Path (Rest value) fields a = (bytes : List ℕ) × (fields ≡ Exactly bytes ∷ []) × (value bytes ≡ a)

-- Bytes that are the second field aren't the first.
abbrev pub Apart : Field → Field → Type 0
Apart field other = (part rest : List ℕ) → IsField other part → known_at field (part ++ rest) ≡ None

-- No bytes can be both of the fields that a layout leaves the choice of.
abbrev pub IsClear : {A : Type 0} → Layout A → Type 0
IsClear (Done value) = Unit {0}
IsClear (Known field next) = IsClear next
IsClear (Either field next other next_other) = Apart field other × IsClear next × IsClear next_other
IsClear (SizedBytes size next) = (bytes : List ℕ) → IsClear (next bytes)
IsClear (PlainNumber size next) = (n : ℕ) → IsClear (next n)
IsClear (AnyNumber next) = (n : ℕ) → IsClear (next n)
IsClear (AnyText next) = (text : List ℕ) → IsClear (next text)
IsClear (Rest value) = Unit {0}

-- The first fields reach this place.
abbrev pub Reached : List Field → List ℕ → ℕ → Type 0
Reached [] bytes place = place ≡ 0
Reached (field ∷ fields) bytes place =
    (place ≡ 0) ⊎ ((part rest : List ℕ) × (bytes ≡ part ++ rest) × IsField field part × (further : ℕ) × (place ≡ length part + further) × Reached fields rest further)

-- ---- steps

bind_ok : {A B : Type 0} (r : Result A ℕ) (f : A → Result B ℕ) (y : B) → (r >>= f) ≡ Ok y → (x : A) × (r ≡ Ok x) × (f x ≡ Ok y)
bind_ok (Ok x) f y e = (x, refl, e)
bind_ok (Err d) f y e = absurd cc

bind_err : {A B : Type 0} (r : Result A ℕ) (f : A → Result B ℕ) (left : ℕ) → (r >>= f) ≡ Err left → (r ≡ Err left) ⊎ ((x : A) × (r ≡ Ok x) × (f x ≡ Err left))
bind_err (Ok x) f left e = inr (x, refl, e)
bind_err (Err d) f left e = let k : d ≡ left = cc in inl (ap (λ (n : ℕ). Err n) k)

at_ok : {A : Type 0} (bytes : List ℕ) (o : Option A) (x : A) → at bytes o ≡ Ok x → o ≡ Some x
at_ok bytes None x e = absurd cc
at_ok bytes (Some y) x e = let k : y ≡ x = cc in ap (λ z. Some z) k

at_err : {A : Type 0} (bytes : List ℕ) (o : Option A) (left : ℕ) → at bytes o ≡ Err left → length bytes ≡ left
at_err bytes None left e = cc
at_err bytes (Some y) left e = absurd cc

ended_ok : {A : Type 0} (value : A) (bytes : List ℕ) (a : A) → ended value bytes ≡ Ok a → (bytes ≡ []) × (value ≡ a)
ended_ok value [] a e = (refl, cc)
ended_ok value (b ∷ bytes) a e = absurd cc

ended_err : {A : Type 0} (value : A) (bytes : List ℕ) (left : ℕ) → ended value bytes ≡ Err left → length bytes ≡ left
ended_err value [] left e = absurd cc
ended_err value (b ∷ bytes) left e = cc

or_cases : {A : Type 0} (r : Result (List ℕ) ℕ) (f : List ℕ → Result A ℕ) (other z : Result A ℕ) → or_other r f other ≡ z → ((x : List ℕ) × (r ≡ Ok x) × (f x ≡ z)) ⊎ (other ≡ z)
or_cases (Ok x) f other z e = inl (x, refl, e)
or_cases (Err d) f other z e = inr e

-- ---- what is found is spelled so

record ScannedTo {A : Type 0} (layout : Layout A) (bytes : List ℕ) (a : A) : Type 0 where
  fields : List Field
  path : Path layout fields a
  fills : Fills fields bytes

one_more : (field : Field) (fields : List Field) (bytes rest : List ℕ) → Begins field bytes rest → Fills fields rest → Fills (field ∷ fields) bytes
unfolding Fills
one_more field fields bytes rest b f = (b.part, rest, b.is, b.spelled, f)

found : {A : Type 0} (layout : Layout A) (bytes : List ℕ) (a : A) → scan layout bytes ≡ Ok a → ScannedTo layout bytes a
unfolding Fills
found (Done value) bytes a e =
    let h = ended_ok value bytes a e in record { fields = []; path = (refl, h.1); fills = h.0 }
found (Known field next) bytes a e =
    let b = bind_ok (at bytes (known_at field bytes)) (λ rest. scan next rest) a e in
    let f = found next b.0 a b.2 in
    record { fields = field ∷ f.fields; path = (f.fields, refl, f.path); fills = one_more field f.fields bytes b.0 (known_takes field bytes b.0 (at_ok bytes (known_at field bytes) b.0 b.1)) f.fills }
found (Either field next other next_other) bytes a e =
    elim (or_cases (at bytes (known_at field bytes)) (λ rest. scan next rest) (at bytes (known_at other bytes) >>= λ rest. scan next_other rest) (Ok a) e) [
      | inl b ↦
          let f = found next b.0 a b.2 in
          record { fields = field ∷ f.fields; path = inl (f.fields, refl, f.path); fills = one_more field f.fields bytes b.0 (known_takes field bytes b.0 (at_ok bytes (known_at field bytes) b.0 b.1)) f.fills }
      | inr second ↦
          let b = bind_ok (at bytes (known_at other bytes)) (λ rest. scan next_other rest) a second in
          let f = found next_other b.0 a b.2 in
          record { fields = other ∷ f.fields; path = inr (f.fields, refl, f.path); fills = one_more other f.fields bytes b.0 (known_takes other bytes b.0 (at_ok bytes (known_at other bytes) b.0 b.1)) f.fills }
    ]
found (SizedBytes size next) bytes a e =
    let b = bind_ok (at bytes (sized_at size bytes)) (λ x. scan (next x.0) x.1) a e in
    let f = found (next b.0.0) b.0.1 a b.2 in
    let t = sized_takes size bytes b.0.0 b.0.1 (at_ok bytes (sized_at size bytes) b.0 b.1) in
    record { fields = Sized size b.0.0 ∷ f.fields; path = (b.0.0, f.fields, refl, f.path); fills = (b.0.0, b.0.1, t.0, (t.1, refl), f.fills) }
found (PlainNumber size next) bytes a e =
    let b = bind_ok (at bytes (fixed_front size bytes)) (λ x. scan (next x.0) x.1) a e in
    let f = found (next b.0.0) b.0.1 a b.2 in
    record { fields = Plain size b.0.0 ∷ f.fields; path = (b.0.0, f.fields, refl, f.path); fills = one_more (Plain size b.0.0) f.fields bytes b.0.1 (plain_takes size bytes b.0.0 b.0.1 (at_ok bytes (fixed_front size bytes) b.0 b.1)) f.fills }
found (AnyNumber next) bytes a e =
    let b = bind_ok (at bytes (lenenc_front bytes)) (λ x. scan (next x.0) x.1) a e in
    let f = found (next b.0.0) b.0.1 a b.2 in
    record { fields = Number b.0.0 ∷ f.fields; path = (b.0.0, f.fields, refl, f.path); fills = one_more (Number b.0.0) f.fields bytes b.0.1 (number_takes bytes b.0.0 b.0.1 (at_ok bytes (lenenc_front bytes) b.0 b.1)) f.fills }
found (AnyText next) bytes a e =
    let b = bind_ok (at bytes (text_at bytes)) (λ x. scan (next x.0) x.1) a e in
    let f = found (next b.0.0) b.0.1 a b.2 in
    record { fields = Lengthed b.0.0 ∷ f.fields; path = (b.0.0, f.fields, refl, f.path); fills = one_more (Lengthed b.0.0) f.fields bytes b.0.1 (text_takes bytes b.0.0 b.0.1 (at_ok bytes (text_at bytes) b.0 b.1)) f.fills }
found (Rest value) bytes a e =
    let k : value bytes ≡ a = cc in
    record { fields = Exactly bytes ∷ []; path = (bytes, refl, k); fills = (bytes, [], sym (append-nil bytes), refl, refl) }

-- ---- what is spelled so is found

-- a step of a scan, once the field before it is read
after_field : {A X : Type 0} (bytes : List ℕ) (read : Option X) (x : X) (f : X → Result A ℕ) → read ≡ Some x → (at bytes read >>= f) ≡ f x
after_field bytes read x f e = ap (λ r. at bytes r >>= f) e

again : {A : Type 0} (layout : Layout A) (fields : List Field) (a : A) (bytes : List ℕ) → IsClear layout → Path layout fields a → Fills fields bytes → scan layout bytes ≡ Ok a
unfolding Fills
again (Done value) fields a bytes clear path fills =
    let f : Fills [] bytes = subst (λ fs. Fills fs bytes) path.0 fills in
    ap (ended value) f ∙ ap (λ v. Ok v) path.1
again (Known field next) fields a bytes clear path fills =
    let f : Fills (field ∷ path.0) bytes = subst (λ fs. Fills fs bytes) path.1 fills in
    ap (scan (Known field next)) f.2 ∙ after_field (f.0 ++ f.1) (known_at field (f.0 ++ f.1)) f.1 (λ rest. scan next rest) (known_again field f.0 f.1 f.3) ∙ again next path.0 a f.1 clear path.2 f.4
again (Either field next other next_other) fields a bytes clear path fills =
    elim path [
      | inl first ↦
          let f : Fills (field ∷ first.0) bytes = subst (λ fs. Fills fs bytes) first.1 fills in
          ap (scan (Either field next other next_other)) f.2 ∙ rw (known_again field f.0 f.1 f.3) (again next first.0 a f.1 clear.1 first.2 f.4)
      | inr second ↦
          let f : Fills (other ∷ second.0) bytes = subst (λ fs. Fills fs bytes) second.1 fills in
          ap (scan (Either field next other next_other)) f.2 ∙ rw (clear.0 f.0 f.1 f.3, known_again other f.0 f.1 f.3) (again next_other second.0 a f.1 clear.2 second.2 f.4)
    ]
again (SizedBytes size next) fields a bytes clear path fills =
    let f : Fills (Sized size path.0 ∷ path.1) bytes = subst (λ fs. Fills fs bytes) path.2 fills in
    let is : bytes ≡ path.0 ++ f.1 = f.2 ∙ ap (λ (p : List ℕ). p ++ f.1) f.3.1 in
    ap (scan (SizedBytes size next)) is ∙ after_field (path.0 ++ f.1) (sized_at size (path.0 ++ f.1)) (path.0, f.1) (λ x. scan (next x.0) x.1) (sized_again size path.0 f.1 f.3.0) ∙ again (next path.0) path.1 a f.1 (clear path.0) path.3 f.4
again (PlainNumber size next) fields a bytes clear path fills =
    let f : Fills (Plain size path.0 ∷ path.1) bytes = subst (λ fs. Fills fs bytes) path.2 fills in
    ap (scan (PlainNumber size next)) f.2 ∙ after_field (f.0 ++ f.1) (fixed_front size (f.0 ++ f.1)) (path.0, f.1) (λ x. scan (next x.0) x.1) (plain_again size f.0 path.0 f.1 f.3) ∙ again (next path.0) path.1 a f.1 (clear path.0) path.3 f.4
again (AnyNumber next) fields a bytes clear path fills =
    let f : Fills (Number path.0 ∷ path.1) bytes = subst (λ fs. Fills fs bytes) path.2 fills in
    ap (scan (AnyNumber next)) f.2 ∙ after_field (f.0 ++ f.1) (lenenc_front (f.0 ++ f.1)) (path.0, f.1) (λ x. scan (next x.0) x.1) (number_again f.0 path.0 f.1 f.3) ∙ again (next path.0) path.1 a f.1 (clear path.0) path.3 f.4
again (AnyText next) fields a bytes clear path fills =
    let f : Fills (Lengthed path.0 ∷ path.1) bytes = subst (λ fs. Fills fs bytes) path.2 fills in
    ap (scan (AnyText next)) f.2 ∙ after_field (f.0 ++ f.1) (text_at (f.0 ++ f.1)) (path.0, f.1) (λ x. scan (next x.0) x.1) (text_again f.0 path.0 f.1 f.3) ∙ again (next path.0) path.1 a f.1 (clear path.0) path.3 f.4
again (Rest value) fields a bytes clear path fills =
    let f : Fills (Exactly path.0 ∷ []) bytes = subst (λ fs. Fills fs bytes) path.1 fills in
    let is : bytes ≡ path.0 = f.2 ∙ ap (λ (p : List ℕ). p ++ f.1) f.3 ∙ ap (λ (r : List ℕ). path.0 ++ r) f.4 ∙ append-nil path.0 in
    ap (λ b. Ok (value b)) is ∙ ap (λ v. Ok v) path.2

-- ---- the first fault

-- fields that the layout allows, and what they hold
record Sample {A : Type 0} (layout : Layout A) : Type 0 where
  fields : List Field
  value : A
  path : Path layout fields value

sample : {A : Type 0} (layout : Layout A) → Sample layout
sample (Done value) = record { fields = []; value = value; path = (refl, refl) }
sample (Known field next) = let s = sample next in record { fields = field ∷ s.fields; value = s.value; path = (s.fields, refl, s.path) }
sample (Either field next other next_other) = let s = sample next in record { fields = field ∷ s.fields; value = s.value; path = inl (s.fields, refl, s.path) }
sample (SizedBytes size next) = let s = sample (next []) in record { fields = Sized size [] ∷ s.fields; value = s.value; path = ([], s.fields, refl, s.path) }
sample (PlainNumber size next) = let s = sample (next 0) in record { fields = Plain size 0 ∷ s.fields; value = s.value; path = (0, s.fields, refl, s.path) }
sample (AnyNumber next) = let s = sample (next 0) in record { fields = Number 0 ∷ s.fields; value = s.value; path = (0, s.fields, refl, s.path) }
sample (AnyText next) = let s = sample (next []) in record { fields = Lengthed [] ∷ s.fields; value = s.value; path = ([], s.fields, refl, s.path) }
sample (Rest value) = record { fields = Exactly [] ∷ []; value = value []; path = ([], refl, refl) }

-- Some value's fields reach the place from which so many bytes are left.
record Near {A : Type 0} (layout : Layout A) (bytes : List ℕ) (left : ℕ) : Type 0 where
  fields : List Field
  value : A
  path : Path layout fields value
  place : ℕ
  reached : Reached fields bytes place
  sum : place + left ≡ length bytes

-- no field is read at all
reached_none : (fields : List Field) (bytes : List ℕ) → Reached fields bytes 0
reached_none [] bytes = refl
reached_none (field ∷ fields) bytes = inl refl

near_none : {A : Type 0} (layout : Layout A) (bytes : List ℕ) (left : ℕ) → length bytes ≡ left → Near layout bytes left
near_none layout bytes left e =
    let s = sample layout in
    record { fields = s.fields; value = s.value; path = s.path; place = 0; reached = reached_none s.fields bytes; sum = omega arith }

-- one field more in front
reached_more : (field : Field) (fields : List Field) (bytes rest : List ℕ) (b : Begins field bytes rest) (place : ℕ) → Reached fields rest place → Reached (field ∷ fields) bytes (length b.part + place)
reached_more field fields bytes rest b place r = inr (b.part, rest, b.is, b.spelled, place, refl, r)

sum_more : (bytes part rest : List ℕ) (place left : ℕ) → bytes ≡ part ++ rest → place + left ≡ length rest → (length part + place) + left ≡ length bytes
sum_more bytes part rest place left is sum = omega (arith, ap length is, length-append part rest)

near : {A : Type 0} (layout : Layout A) (bytes : List ℕ) (left : ℕ) → scan layout bytes ≡ Err left → Near layout bytes left
near (Done value) bytes left e = near_none (Done value) bytes left (ended_err value bytes left e)
near (Known field next) bytes left e =
    elim (bind_err (at bytes (known_at field bytes)) (λ rest. scan next rest) left e) [
      | inl here ↦ near_none (Known field next) bytes left (at_err bytes (known_at field bytes) left here)
      | inr b ↦
          let n = near next b.0 left b.2 in
          let t = known_takes field bytes b.0 (at_ok bytes (known_at field bytes) b.0 b.1) in
          record { fields = field ∷ n.fields; value = n.value; path = (n.fields, refl, n.path); place = length t.part + n.place; reached = reached_more field n.fields bytes b.0 t n.place n.reached; sum = sum_more bytes t.part b.0 n.place left t.is n.sum }
    ]
near (Either field next other next_other) bytes left e =
    elim (or_cases (at bytes (known_at field bytes)) (λ rest. scan next rest) (at bytes (known_at other bytes) >>= λ rest. scan next_other rest) (Err left) e) [
      | inl b ↦
          let n = near next b.0 left b.2 in
          let t = known_takes field bytes b.0 (at_ok bytes (known_at field bytes) b.0 b.1) in
          record { fields = field ∷ n.fields; value = n.value; path = inl (n.fields, refl, n.path); place = length t.part + n.place; reached = reached_more field n.fields bytes b.0 t n.place n.reached; sum = sum_more bytes t.part b.0 n.place left t.is n.sum }
      | inr second ↦ elim (bind_err (at bytes (known_at other bytes)) (λ rest. scan next_other rest) left second) [
        | inl here ↦ near_none (Either field next other next_other) bytes left (at_err bytes (known_at other bytes) left here)
        | inr b ↦
            let n = near next_other b.0 left b.2 in
            let t = known_takes other bytes b.0 (at_ok bytes (known_at other bytes) b.0 b.1) in
            record { fields = other ∷ n.fields; value = n.value; path = inr (n.fields, refl, n.path); place = length t.part + n.place; reached = reached_more other n.fields bytes b.0 t n.place n.reached; sum = sum_more bytes t.part b.0 n.place left t.is n.sum }
      ]
    ]
near (SizedBytes size next) bytes left e =
    elim (bind_err (at bytes (sized_at size bytes)) (λ x. scan (next x.0) x.1) left e) [
      | inl here ↦ near_none (SizedBytes size next) bytes left (at_err bytes (sized_at size bytes) left here)
      | inr b ↦
          let n = near (next b.0.0) b.0.1 left b.2 in
          let t = sized_takes size bytes b.0.0 b.0.1 (at_ok bytes (sized_at size bytes) b.0 b.1) in
          let begins : Begins (Sized size b.0.0) bytes b.0.1 = record { part = b.0.0; is = t.0; spelled = (t.1, refl) } in
          record { fields = Sized size b.0.0 ∷ n.fields; value = n.value; path = (b.0.0, n.fields, refl, n.path); place = length b.0.0 + n.place; reached = reached_more (Sized size b.0.0) n.fields bytes b.0.1 begins n.place n.reached; sum = sum_more bytes b.0.0 b.0.1 n.place left t.0 n.sum }
    ]
near (PlainNumber size next) bytes left e =
    elim (bind_err (at bytes (fixed_front size bytes)) (λ x. scan (next x.0) x.1) left e) [
      | inl here ↦ near_none (PlainNumber size next) bytes left (at_err bytes (fixed_front size bytes) left here)
      | inr b ↦
          let n = near (next b.0.0) b.0.1 left b.2 in
          let t = plain_takes size bytes b.0.0 b.0.1 (at_ok bytes (fixed_front size bytes) b.0 b.1) in
          record { fields = Plain size b.0.0 ∷ n.fields; value = n.value; path = (b.0.0, n.fields, refl, n.path); place = length t.part + n.place; reached = reached_more (Plain size b.0.0) n.fields bytes b.0.1 t n.place n.reached; sum = sum_more bytes t.part b.0.1 n.place left t.is n.sum }
    ]
near (AnyNumber next) bytes left e =
    elim (bind_err (at bytes (lenenc_front bytes)) (λ x. scan (next x.0) x.1) left e) [
      | inl here ↦ near_none (AnyNumber next) bytes left (at_err bytes (lenenc_front bytes) left here)
      | inr b ↦
          let n = near (next b.0.0) b.0.1 left b.2 in
          let t = number_takes bytes b.0.0 b.0.1 (at_ok bytes (lenenc_front bytes) b.0 b.1) in
          record { fields = Number b.0.0 ∷ n.fields; value = n.value; path = (b.0.0, n.fields, refl, n.path); place = length t.part + n.place; reached = reached_more (Number b.0.0) n.fields bytes b.0.1 t n.place n.reached; sum = sum_more bytes t.part b.0.1 n.place left t.is n.sum }
    ]
near (AnyText next) bytes left e =
    elim (bind_err (at bytes (text_at bytes)) (λ x. scan (next x.0) x.1) left e) [
      | inl here ↦ near_none (AnyText next) bytes left (at_err bytes (text_at bytes) left here)
      | inr b ↦
          let n = near (next b.0.0) b.0.1 left b.2 in
          let t = text_takes bytes b.0.0 b.0.1 (at_ok bytes (text_at bytes) b.0 b.1) in
          record { fields = Lengthed b.0.0 ∷ n.fields; value = n.value; path = (b.0.0, n.fields, refl, n.path); place = length t.part + n.place; reached = reached_more (Lengthed b.0.0) n.fields bytes b.0.1 t n.place n.reached; sum = sum_more bytes t.part b.0.1 n.place left t.is n.sum }
    ]
near (Rest value) bytes left e = absurd cc

-- ---- no value's fields reach further

-- what is left from the fault is no more than all
left_within : {A : Type 0} (layout : Layout A) (bytes : List ℕ) (left : ℕ) → scan layout bytes ≡ Err left → left ≤ length bytes
left_within layout bytes left e = let n = near layout bytes left e in omega (arith, n.sum)

-- no field read, or the first and then some
first_or_more : {A : Type 0} (layout : Layout A) (field : Field) (fields others : List Field) (bytes : List ℕ) (place left : ℕ) → fields ≡ field ∷ others → Reached fields bytes place → scan layout bytes ≡ Err left
    → ((part rest : List ℕ) → bytes ≡ part ++ rest → IsField field part → (further : ℕ) → Reached others rest further → further + left ≤ length rest)
    → place + left ≤ length bytes
first_or_more layout field fields others bytes place left is reached e more =
    let r : Reached (field ∷ others) bytes place = subst (λ fs. Reached fs bytes place) is reached in
    elim r [
      | inl none ↦ omega (arith, none, left_within layout bytes left e)
      | inr m ↦ let h = more m.0 m.1 m.2 m.3 m.4 m.6 in omega (arith, h, m.5, ap length m.2, length-append m.0 m.1)
    ]

far : {A : Type 0} (layout : Layout A) (fields : List Field) (a : A) (bytes : List ℕ) (place left : ℕ) → IsClear layout → Path layout fields a → Reached fields bytes place → scan layout bytes ≡ Err left → place + left ≤ length bytes
far (Done value) fields a bytes place left clear path reached e =
    let r : Reached [] bytes place = subst (λ fs. Reached fs bytes place) path.0 reached in
    omega (arith, r, left_within (Done value) bytes left e)
far (Known field next) fields a bytes place left clear path reached e =
    first_or_more (Known field next) field fields path.0 bytes place left path.1 reached e (λ part rest is spelled further more.
    far next path.0 a rest further left clear path.2 more
    (sym (after_field (part ++ rest) (known_at field (part ++ rest)) rest (λ r. scan next r) (known_again field part rest spelled)) ∙ sym (ap (scan (Known field next)) is) ∙ e))
far (Either field next other next_other) fields a bytes place left clear path reached e =
    elim path [
      | inl first ↦
          first_or_more (Either field next other next_other) field fields first.0 bytes place left first.1 reached e (λ part rest is spelled further more.
          let step : scan (Either field next other next_other) (part ++ rest) ≡ scan next rest = rw (known_again field part rest spelled) refl in
          far next first.0 a rest further left clear.1 first.2 more (sym step ∙ sym (ap (scan (Either field next other next_other)) is) ∙ e))
      | inr second ↦
          first_or_more (Either field next other next_other) other fields second.0 bytes place left second.1 reached e (λ part rest is spelled further more.
          let step : scan (Either field next other next_other) (part ++ rest) ≡ scan next_other rest = rw (clear.0 part rest spelled, known_again other part rest spelled) refl in
          far next_other second.0 a rest further left clear.2 second.2 more (sym step ∙ sym (ap (scan (Either field next other next_other)) is) ∙ e))
    ]
far (SizedBytes size next) fields a bytes place left clear path reached e =
    first_or_more (SizedBytes size next) (Sized size path.0) fields path.1 bytes place left path.2 reached e (λ part rest is spelled further more.
    let whole : bytes ≡ path.0 ++ rest = is ∙ ap (λ (p : List ℕ). p ++ rest) spelled.1 in
    far (next path.0) path.1 a rest further left (clear path.0) path.3 more
    (sym (after_field (path.0 ++ rest) (sized_at size (path.0 ++ rest)) (path.0, rest) (λ x. scan (next x.0) x.1) (sized_again size path.0 rest spelled.0)) ∙ sym (ap (scan (SizedBytes size next)) whole) ∙ e))
far (PlainNumber size next) fields a bytes place left clear path reached e =
    first_or_more (PlainNumber size next) (Plain size path.0) fields path.1 bytes place left path.2 reached e (λ part rest is spelled further more.
    far (next path.0) path.1 a rest further left (clear path.0) path.3 more
    (sym (after_field (part ++ rest) (fixed_front size (part ++ rest)) (path.0, rest) (λ x. scan (next x.0) x.1) (plain_again size part path.0 rest spelled)) ∙ sym (ap (scan (PlainNumber size next)) is) ∙ e))
far (AnyNumber next) fields a bytes place left clear path reached e =
    first_or_more (AnyNumber next) (Number path.0) fields path.1 bytes place left path.2 reached e (λ part rest is spelled further more.
    far (next path.0) path.1 a rest further left (clear path.0) path.3 more
    (sym (after_field (part ++ rest) (lenenc_front (part ++ rest)) (path.0, rest) (λ x. scan (next x.0) x.1) (number_again part path.0 rest spelled)) ∙ sym (ap (scan (AnyNumber next)) is) ∙ e))
far (AnyText next) fields a bytes place left clear path reached e =
    first_or_more (AnyText next) (Lengthed path.0) fields path.1 bytes place left path.2 reached e (λ part rest is spelled further more.
    far (next path.0) path.1 a rest further left (clear path.0) path.3 more
    (sym (after_field (part ++ rest) (text_at (part ++ rest)) (path.0, rest) (λ x. scan (next x.0) x.1) (text_again part path.0 rest spelled)) ∙ sym (ap (scan (AnyText next)) is) ∙ e))
far (Rest value) fields a bytes place left clear path reached e = absurd cc

-- ---- the two ways to say how far fields reach

pub reached_from : (done others : List Field) (front rest : List ℕ) → Fills done front → Reached (done ++ others) (front ++ rest) (length front)
unfolding Fills
reached_from [] others front rest fills = subst (λ (f : List ℕ). Reached others (f ++ rest) (length f)) (sym fills) (reached_none others rest)
reached_from (field ∷ done) others front rest fills =
    let parts : front ++ rest ≡ fills.0 ++ (fills.1 ++ rest) = ap (λ (f : List ℕ). f ++ rest) fills.2 ∙ append_assoc fills.0 fills.1 rest in
    let len : length front ≡ length fills.0 + length fills.1 = ap length fills.2 ∙ length-append fills.0 fills.1 in
    inr (fills.0, fills.1 ++ rest, parts, fills.3, length fills.1, len, reached_from done others fills.1 rest fills.4)

pub to_reached : (fields : List Field) (payload : List ℕ) (place : ℕ) → Reaches fields payload place → Reached fields payload place
to_reached fields payload place r =
    rw (r.fields_are, r.payload_is, r.place_is) (reached_from r.done r.others r.front r.rest r.filled)

reaches_none : (fields : List Field) (payload : List ℕ) → Reaches fields payload 0
unfolding Fills
reaches_none fields payload = record { done = []; others = fields; front = []; rest = payload; fields_are = refl; payload_is = refl; filled = refl; place_is = refl }

pub to_reaches : (fields : List Field) (payload : List ℕ) (place : ℕ) → Reached fields payload place → Reaches fields payload place
unfolding Fills
to_reaches [] payload place r = subst (λ (p : ℕ). Reaches [] payload p) (sym r) (reaches_none [] payload)
to_reaches (field ∷ fields) payload place r =
    elim r [
      | inl none ↦ subst (λ (p : ℕ). Reaches (field ∷ fields) payload p) (sym none) (reaches_none (field ∷ fields) payload)
      | inr m ↦
          let s = to_reaches fields m.1 m.4 m.6 in
          record {
            done = field ∷ s.done;
            others = s.others;
            front = m.0 ++ s.front;
            rest = s.rest;
            fields_are = ap (λ (fs : List Field). field ∷ fs) s.fields_are;
            payload_is = m.2 ∙ ap (λ (t : List ℕ). m.0 ++ t) s.payload_is ∙ sym (append_assoc m.0 s.front s.rest);
            filled = (m.0, s.front, refl, m.3, s.filled);
            place_is = m.5 ∙ ap (λ (n : ℕ). length m.0 + n) s.place_is ∙ sym (length-append m.0 s.front);
          }
    ]

-- ---- what a reader answers

-- The layout allows the fields of each value, and no others.
pub record Fits {V : Type 0} (layout : Layout V) (fields : V → List Field) : Type 0 where
  pub clear : IsClear layout
  pub allowed : (value : V) → Path layout (fields value) value
  pub only : (some : List Field) (value : V) → Path layout some value → some ≡ fields value

pub reads : {X V : Type 0} (layout : Layout V) (fields : V → List Field) (fits : Fits layout fields) (view : X → V) (payload : List ℕ) (result : Result X Stop) → Gives view result (scan layout payload) → Reads view fields payload (answer_to payload result)
reads layout fields fits view payload (Ok x) given =
    let f = found layout payload (view x) given in (
      subst (λ fs. Fills fs payload) (fits.only f.fields (view x) f.path) f.fills,
      λ other fills. let h = again layout (fields other) other payload fits.clear (fits.allowed other) fills in cc,
    )
reads layout fields fits view payload (Err stop) given =
    let n = near layout payload stop.left given in (
      λ value fills. absurd (let h = again layout (fields value) value payload fits.clear (fits.allowed value) fills in cc),
      record {
        value = n.value;
        reached = let r = to_reaches n.fields payload n.place n.reached in let place_is : n.place ≡ length payload - stop.left = omega (arith, n.sum) in subst (λ fs. Reaches fs payload (length payload - stop.left)) (fits.only n.fields n.value n.path) (subst (λ (p : ℕ). Reaches n.fields payload p) place_is r);
        farthest = λ other further r. let h = far layout (fields other) other payload further stop.left fits.clear (fits.allowed other) (to_reached (fields other) payload further r) given in omega (arith, h);
      },
    )

-- ---- what an answer says of one field

pub answered : {X Y : Type 0} (view : X → Y) (payload bytes : List ℕ) (read : Option Y) (result : Result X Stop) (x : X) → Gives view result (at bytes read) → answer_to payload result ≡ Ok x → read ≡ Some (view x)
answered view payload bytes read (Ok y) x given e = let k : y ≡ x = cc in at_ok bytes read (view y) given ∙ ap (λ z. Some (view z)) k
answered view payload bytes read (Err stop) x given e = absurd cc

at_none : {A : Type 0} (bytes : List ℕ) (o : Option A) (left : ℕ) → at bytes o ≡ Err left → o ≡ None
at_none bytes None left e = refl
at_none bytes (Some y) left e = absurd cc

pub refused : {X Y : Type 0} (view : X → Y) (payload bytes : List ℕ) (read : Option Y) (result : Result X Stop) (e : Or WireFault) → Gives view result (at bytes read) → answer_to payload result ≡ Err e → (read ≡ None) × (e ≡ Fault (record { place = length payload - length bytes }))
refused view payload bytes read (Ok y) e given is = absurd cc
refused view payload bytes read (Err stop) e given is =
    let left : length bytes ≡ stop.left = at_err bytes read stop.left given in
    (at_none bytes read stop.left given, let k : Fault (record { place = length payload - stop.left }) ≡ e = cc in sym k ∙ ap (λ (n : ℕ). Fault (record { place = length payload - n })) (sym left))

-- A fault is the same whatever is made of a value.
pub same_fault : {X Y V : Type 0} (view : X → V) (other : Y → V) (fields : V → List Field) (payload : List ℕ) (e : Or WireFault) → Reads view fields payload (Err e) → Reads other fields payload (Err e)
same_fault view other fields payload NoMemory h = tt
same_fault view other fields payload (Fault fault) h = h
