-- Writes in a row, and one more element.
use Rattle.std.proofs.Common.{◌≡◌, ◌<◌, ℕ, ◌+◌, List, [], ◌∷◌, ◌++◌, Result, Ok, Err, refl, sym, ◌∙◌, ap, take, drop, length, get_or, arith, append_assoc}
use Rattle.std.specs.Prelude.{OnOk}
use Rattle.std.specs.List.{flat_map}
use Rattle.std.proofs.lemmas.List.{append-nil, take_at, take-append-drop, take_more}
use Rattle.doc_types.specs.declared.tokens.FieldTokens.{FieldTokens}
use Rattle.doc_bytes.specs.Payload.{span_bytes, spans_bytes}

-- four writes, the last of which may fail
pub four : {T E : Type 0} (r : Result T E) (o o1 o2 o3 o4 a b c d : List ℕ) → o1 ≡ o ++ a → o2 ≡ o1 ++ b → o3 ≡ o2 ++ c → OnOk r (o4 ≡ o3 ++ d) → OnOk r (o4 ≡ o ++ (a ++ b ++ c ++ d))
four (Err e) o o1 o2 o3 o4 a b c d one two three last = tt
four (Ok x) o o1 o2 o3 o4 a b c d one two three last =
    last ∙ ap (λ (l : List ℕ). l ++ d) (three ∙ ap (λ (l : List ℕ). l ++ c) (two ∙ ap (λ (l : List ℕ). l ++ b) one)) ∙ grouped
  where
    grouped : o ++ a ++ b ++ c ++ d ≡ o ++ (a ++ b ++ c ++ d)
    grouped = simp append_assoc refl

-- the spans of one field more
pub spans_push : (n : ℕ) (fields : List FieldTokens) (field : FieldTokens) → spans_bytes n (fields ++ field ∷ []) ≡ spans_bytes n fields ++ flat_map (span_bytes (n + length fields)) field.spans
spans_push n [] field = append-nil (flat_map (span_bytes n) field.spans) ∙ ap (λ (m : ℕ). flat_map (span_bytes m) field.spans) (omega arith)
spans_push n (first ∷ fields) field =
    ap (λ (l : List ℕ). flat_map (span_bytes n) first.spans ++ l) (spans_push (n + 1) fields field ∙ ap (λ (m : ℕ). spans_bytes (n + 1) fields ++ flat_map (span_bytes m) field.spans) (omega arith))
    ∙ sym (append_assoc (flat_map (span_bytes n) first.spans) (spans_bytes (n + 1) fields) (flat_map (span_bytes (n + length (first ∷ fields))) field.spans))

pub spans_more : (fields : List FieldTokens) (i : ℕ) (field : FieldTokens) → i < length fields → field ≡ get_or fields i field → length (take i fields) ≡ i → spans_bytes 0 (take (i + 1) fields) ≡ spans_bytes 0 (take i fields) ++ flat_map (span_bytes i) field.spans
spans_more fields i field within is size =
    ap (spans_bytes 0) (take_more fields i field within ∙ ap (λ (f : FieldTokens). take i fields ++ f ∷ []) (sym is))
    ∙ spans_push 0 (take i fields) field ∙ ap (λ (m : ℕ). spans_bytes 0 (take i fields) ++ flat_map (span_bytes m) field.spans) (omega (arith, size))

-- a prefix of a prefix is a prefix
pub front_stays : (old more mid new : List ℕ) (n m : ℕ) → length old ≡ n → mid ≡ old ++ more → take m new ≡ mid → take n new ≡ old
front_stays old more mid new n m len behind kept =
    let parts : new ≡ old ++ (more ++ drop m new) = sym (take-append-drop m new) ∙ ap (λ (front : List ℕ). front ++ drop m new) (kept ∙ behind) ∙ append_assoc old more (drop m new) in
    ap (take n) parts ∙ take_at old (more ++ drop m new) n len
