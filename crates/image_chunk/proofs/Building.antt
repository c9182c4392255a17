-- The image that is written of rows.
use Rattle.std.proofs.Common.{◌≡◌, ℕ, ◌+◌, ◌<◌, ◌≤◌, ◌^◌, false, List, [], ◌∷◌, ◌++◌, Some, None, All, length, get_or, map, slice_get, take, refl, sym, ap, subst, ◌∙◌, append-nil, arith}
use Rattle.std.specs.Option.{option_map}
use Rattle.std.proofs.Math.ListN.{drop_of_length-le, get_or-map}
use Rattle.std.proofs.lemmas.List.{length-map, take-append-drop, take_more}
use Rattle.std.proofs.lemmas.List.Elements.{All-nil, All-cons, All-append}
use Rattle.doc_types.specs.declared.documents.DocRow.{DocRow}
use Rattle.doc_types.specs.declared.schema.Schema.{Schema}
use Rattle.doc_types.specs.Chunks.{IsContent}
use Rattle.chunk_image.specs.ChunkImage.{IsImageOf}
use Rattle.image_write.specs.Written.{IsWritten}
use Rattle.image_parts.specs.Images.{HasZones, HaveImage}

-- what holds of the elements gone over holds of one more, and of all in the end
pub all_more : {X : Type 0} (P : X → Type 0) (xs : List X) (i : ℕ) (x : X) → i < length xs → x ≡ get_or xs i x → All P (take i xs) → P x → All P (take (i + 1) xs)
all_more P xs i x low is all own = subst (All P) (sym (take_more xs i x low ∙ ap (λ y. take i xs ++ y ∷ []) (sym is))) (All-append P (take i xs) (x ∷ []) all (All-cons P x [] own (All-nil P)))

pub all_at : {X : Type 0} (P : X → Type 0) (xs : List X) (i : ℕ) (d : X) → i < length xs → All P (take i xs) → P (get_or xs i d) → All P (take (i + 1) xs)
all_at P xs i d low all own = subst (All P) (sym (take_more xs i d low)) (All-append P (take i xs) (get_or xs i d ∷ []) all (All-cons P (get_or xs i d) [] own (All-nil P)))

pub all_taken : {X : Type 0} (P : X → Type 0) (xs : List X) (i : ℕ) → length xs ≤ i → All P (take i xs) → All P xs
all_taken P xs i past all = subst (All P) (sym (append-nil (take i xs)) ∙ ap (λ rest. take i xs ++ rest) (sym (drop_of_length-le xs {i = i} past)) ∙ take-append-drop i xs) all

-- the first row tells how many fields and attributes the schema has
pub first_tells : (rows : List DocRow) (row : DocRow) (fields attrs : ℕ) → (is : IsContent rows) → slice_get rows 0 ≡ Some row → fields ≡ length row.doc.fields → attrs ≡ length row.doc.values → IsWritten is.schema rows fields attrs
first_tells [] row fields attrs is first f a = absurd cc
first_tells (r ∷ rs) row fields attrs is first f a =
    let same : r ≡ row = cc in
    let doc = is.of.docs 0 r (omega arith) in
    record {
      limits = is.limits;
      of = is.of;
      fields_n = sym doc.fields ∙ ap (λ (its : DocRow). length its.doc.fields) same ∙ sym f;
      attrs_n = sym doc.values ∙ ap (λ (its : DocRow). length its.doc.values) same ∙ sym a;
    }

-- a schema without columns, which no row is all of
abbrev bare : Schema
bare = record { name = []; fields = []; attrs = []; zones = []; sp = false; min_prefix = 0 }

pub none_tells : (rows : List DocRow) → slice_get rows 0 ≡ None → (schema : Schema) × IsWritten schema rows 0 0
none_tells [] none = (
  bare,
  record {
    limits = record {
      name = record { short = omega arith; small = refl };
      few_fields = omega arith;
      few_attrs = omega arith;
      names = λ k d low. absurd (omega (arith, low));
      form = λ k d low. absurd (omega (arith, low));
      distinct = λ i j d before low. absurd (omega (arith, low));
      zones = record { few = omega arith; names = λ k d low. absurd (omega (arith, low)); distinct = λ i j d before low. absurd (omega (arith, low)) };
      prefixes = omega arith;
    };
    of = record { ids = λ i j d before low. absurd (omega (arith, low)); docs = λ k d low. absurd (omega (arith, low)) };
    fields_n = refl;
    attrs_n = refl;
  },
)
none_tells (r ∷ rs) none = absurd cc

-- what was written is the image of the rows
pub image_of : (rows list : List DocRow) (bytes : List ℕ) (fields attrs : ℕ) → list ≡ rows → IsContent rows → (w : (schema : Schema) × IsWritten schema list fields attrs) → ((schema : Schema) → IsWritten schema list fields attrs → IsImageOf schema list bytes) → length bytes ≤ 536870912 → All HasZones list
    → (words : List (List ℕ)) × HaveImage rows words bytes
image_of rows list bytes fields attrs same content w is short zones =
    let its = is w.0 w.1 in (
      its.words,
      subst (λ all. HaveImage all its.words bytes) same ∣ record {
        schema = w.0;
        limits = w.1.limits;
        of = w.1.of;
        small = (subst IsContent (sym same) content).small;
        are = its.are;
        few_words = its.few_words;
        room = its.room;
        zones = zones;
        is = its.is;
        short = short;
      } ∣₁,
    )

-- the first element's image is the first image
pub first_mapped : {X : Type 0} (f : X → DocRow) (xs : List X) (x : X) → slice_get xs 0 ≡ Some x → slice_get (map f xs) 0 ≡ Some (f x)
first_mapped f [] x is = absurd cc
first_mapped f (y ∷ ys) x is = ap (option_map f) is

pub none_mapped : {X : Type 0} (f : X → DocRow) (xs : List X) → slice_get xs 0 ≡ None → slice_get (map f xs) 0 ≡ None
none_mapped f [] is = refl
none_mapped f (y ∷ ys) is = absurd cc

-- what holds of one more element's image
pub all_mapped : {X : Type 0} (P : DocRow → Type 0) (f : X → DocRow) (xs : List X) (i : ℕ) (x : X) → i < length xs → x ≡ get_or xs i x → All P (take i (map f xs)) → P (f x) → All P (take (i + 1) (map f xs))
all_mapped P f xs i x low is all own =
    let long : i < length (map f xs) = omega (arith, low, length-map xs f) in
    let same : f x ≡ get_or (map f xs) i (f x) = ap f is ∙ sym (get_or-map f xs i x) in
    all_more P (map f xs) i (f x) long same all own

-- the first row has few fields and attributes, as its schema has
pub first_fits : (rows : List DocRow) (row : DocRow) → IsContent rows → slice_get rows 0 ≡ Some row → (length row.doc.fields < 2 ^ 16) × (length row.doc.values < 2 ^ 16)
first_fits [] row is first = absurd cc
first_fits (r ∷ rs) row is first =
    let same : r ≡ row = cc in
    let doc = is.of.docs 0 r (omega arith) in
    subst (λ (its : DocRow). (length its.doc.fields < 2 ^ 16) × (length its.doc.values < 2 ^ 16)) same (omega (arith, doc.fields, is.limits.few_fields), omega (arith, doc.values, is.limits.few_attrs))
