-- Numbers of fixed length: bytes that begin with two of them are of one number, and go on alike.
use Rattle.std.proofs.Common.{◌≡◌, ℕ, ◌<◌, ◌^◌, List, [], ◌∷◌, ◌++◌, length, refl, sym, ap, ◌∙◌, arith, take, drop, All, zero, append_assoc}
use Rattle.std.specs.Int.{w16, w32, w64, to_le_bytes, from_le_bytes, cast_unsigned, cast_signed}
use Rattle.std.specs.List.{flat_map}
use Rattle.std.proofs.lemmas.Nat.{from_le_bytes-to_le_bytes_2, from_le_bytes-to_le_bytes_4, from_le_bytes-to_le_bytes_8}
use Rattle.std.proofs.Math.Seq.{take-append_seam, drop-append_seam}
use Rattle.std.proofs.Math.Facts.{to_z-of_z, Fits-of_z}
use Rattle.doc_types.proofs.Numbers.{All-tail}
use Rattle.doc_types.specs.declared.schema.Value.{Value}
use Rattle.doc_types.specs.declared.schema.Value.TheVariants as values
use Rattle.doc_bytes.specs.Payload.{value_bytes}
use Rattle.doc_bytes.specs.RoundTrip.{IsNumber}

-- lists of one length that go on are told apart from what follows
pub parted : {X : Type 0} (a b x y : List X) → length a ≡ length b → a ++ x ≡ b ++ y → (a ≡ b) × (x ≡ y)
parted a b x y long e =
    let front : a ≡ b = sym (take-append_seam a x) ∙ ap (take (length a)) e ∙ ap (λ n. take n (b ++ y)) long ∙ take-append_seam b y in
    (front, sym (drop-append_seam a x) ∙ ap (drop (length a)) e ∙ ap (λ n. drop n (b ++ y)) long ∙ drop-append_seam b y)

pub two : (m n : ℕ) (x y : List ℕ) → m < 2 ^ 16 → n < 2 ^ 16 → to_le_bytes w16 m ++ x ≡ to_le_bytes w16 n ++ y → (m ≡ n) × (x ≡ y)
two m n x y sm sn e =
    let its = parted (to_le_bytes w16 m) (to_le_bytes w16 n) x y refl e in
    (sym (from_le_bytes-to_le_bytes_2 m sm) ∙ ap (from_le_bytes w16) its.0 ∙ from_le_bytes-to_le_bytes_2 n sn, its.1)

pub four : (m n : ℕ) (x y : List ℕ) → m < 2 ^ 32 → n < 2 ^ 32 → to_le_bytes w32 m ++ x ≡ to_le_bytes w32 n ++ y → (m ≡ n) × (x ≡ y)
four m n x y sm sn e =
    let its = parted (to_le_bytes w32 m) (to_le_bytes w32 n) x y refl e in
    (sym (from_le_bytes-to_le_bytes_4 m sm) ∙ ap (from_le_bytes w32) its.0 ∙ from_le_bytes-to_le_bytes_4 n sn, its.1)

pub eight : (m n : ℕ) (x y : List ℕ) → m < 2 ^ 64 → n < 2 ^ 64 → to_le_bytes w64 m ++ x ≡ to_le_bytes w64 n ++ y → (m ≡ n) × (x ≡ y)
eight m n x y sm sn e =
    let its = parted (to_le_bytes w64 m) (to_le_bytes w64 n) x y refl e in
    (sym (from_le_bytes-to_le_bytes_8 m sm) ∙ ap (from_le_bytes w64) its.0 ∙ from_le_bytes-to_le_bytes_8 n sn, its.1)

-- four bytes, whatever number they are
pub four_any : (m n : ℕ) (x y : List ℕ) → to_le_bytes w32 m ++ x ≡ to_le_bytes w32 n ++ y → x ≡ y
four_any m n x y e = (parted (to_le_bytes w32 m) (to_le_bytes w32 n) x y refl e).1

-- a value
pub one_value : (v w : Value) (x y : List ℕ) → IsNumber v → IsNumber w → value_bytes v ++ x ≡ value_bytes w ++ y → (v ≡ w) × (x ≡ y)
one_value (values.Whole a) (values.Whole b) x y sa sb e =
    let its = parted (value_bytes (values.Whole a)) (value_bytes (values.Whole b)) x y refl e in
    let same : cast_unsigned w64 a ≡ cast_unsigned w64 b =
    sym (from_le_bytes-to_le_bytes_8 (cast_unsigned w64 a) (Fits-of_z sa).fits) ∙ ap (from_le_bytes w64) its.0 ∙ from_le_bytes-to_le_bytes_8 (cast_unsigned w64 b) (Fits-of_z sb).fits in
    (ap values.Whole (sym (to_z-of_z sa) ∙ ap (cast_signed w64) same ∙ to_z-of_z sb), its.1)

-- as many values
pub all_values : (vs ws : List Value) (x y : List ℕ) → length vs ≡ length ws → All IsNumber vs → All IsNumber ws → flat_map value_bytes vs ++ x ≡ flat_map value_bytes ws ++ y → (vs ≡ ws) × (x ≡ y)
all_values [] [] x y long sv sw e = (refl, e)
all_values [] (w ∷ ws) x y long sv sw e = absurd (omega (arith, long))
all_values (v ∷ vs) [] x y long sv sw e = absurd (omega (arith, long))
all_values (v ∷ vs) (w ∷ ws) x y long sv sw e =
    let f : value_bytes v ++ (flat_map value_bytes vs ++ x) ≡ value_bytes w ++ (flat_map value_bytes ws ++ y) =
    sym (append_assoc (value_bytes v) (flat_map value_bytes vs) x) ∙ e ∙ append_assoc (value_bytes w) (flat_map value_bytes ws) y in
    let its = one_value v w (flat_map value_bytes vs ++ x) (flat_map value_bytes ws ++ y) (sv zero v (omega arith)) (sw zero w (omega arith)) f in
    let rest = all_values vs ws x y (omega (arith, long)) (All-tail IsNumber v vs sv) (All-tail IsNumber w ws sw) its.1 in
    (let here : v ≡ w = its.0 in let more : vs ≡ ws = rest.0 in cc, rest.1)
