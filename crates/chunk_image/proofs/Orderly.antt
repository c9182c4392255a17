-- Rows of a schema are orderly: boundaries rise, and spans don't end before they begin.
use Rattle.std.proofs.Common.{◌≡◌, ℕ, ◌+◌, ◌-◌, ◌≤◌, List, [], ◌∷◌, ◌++◌, cond, refl, ap, arith, map, All, zero, inl, inr}
use Rattle.std.specs.List.{filter}
use Rattle.std.proofs.lemmas.List.Elements.{All-append, All-map}
use Rattle.doc_types.specs.declared.documents.DocRow.{DocRow}
use Rattle.doc_types.specs.declared.schema.Schema.{Schema}
use Rattle.doc_types.specs.declared.tokens.FieldTokens.{FieldTokens}
use Rattle.doc_types.specs.declared.tokens.Gap.{Gap}
use Rattle.doc_types.specs.declared.tokens.Gap.TheVariants as gaps
use Rattle.doc_types.specs.declared.tokens.TokenWord.{TokenWord}
use Rattle.doc_types.specs.declared.tokens.ZoneSpan.{ZoneSpan}
use Rattle.doc_types.specs.Documents.{AreRowsOf, Follow, IsField, step}
use Rattle.doc_types.specs.Schemas.{IsSchema}
use Rattle.doc_types.specs.Chunks.{is_boundary}
use Rattle.doc_types.proofs.FieldParts.{parts}
use Rattle.doc_types.proofs.Numbers.{All-tail}
use Rattle.chunk_image.proofs.MarksTold.{HasOrder, IsOrdered, Rise}
use Rattle.chunk_image.proofs.RowsPosted.{HasFields}

abbrev marks : List TokenWord → List (ℕ × Gap)
marks words = map (λ token. (token.position - 1, token.gap)) (filter (λ token. is_boundary token.gap) words)

rise : (low before : ℕ) (words : List TokenWord) → low ≤ before → Follow before words → Rise low (marks words)
rise low before [] at follow = tt
rise low before (t ∷ ts) at follow =
    elim t.gap as (λ g. t.gap ≡ g → Rise low (map (λ (token : TokenWord). (token.position - 1, token.gap)) (cond (is_boundary g) (t ∷ filter (λ token. is_boundary token.gap) ts) (filter (λ token. is_boundary token.gap) ts)))) [
      | gaps.None ↦ λ kind. rise low t.position ts (omega (arith, at, follow.0)) follow.1
      | gaps.Sentence ↦ λ kind. let size : step t.gap ≡ 2 = ap step kind in (omega (arith, at, follow.0, size), inl kind, rise (t.position - 1) t.position ts (omega arith) follow.1)
      | gaps.Paragraph ↦ λ kind. let size : step t.gap ≡ 2 = ap step kind in (omega (arith, at, follow.0, size), inr kind, rise (t.position - 1) t.position ts (omega arith) follow.1)
    ] refl

ordered : (n : ℕ) (spans : List ZoneSpan) (rest : List (ℕ × ZoneSpan)) → All (λ span. span.first ≤ span.last) spans → All IsOrdered rest → All IsOrdered (map (λ span. (n, span)) spans ++ rest)
ordered n spans rest are others = All-append IsOrdered (map (λ span. (n, span)) spans) rest (All-map IsOrdered (λ span. (n, span)) spans are) others

all_ordered : (n : ℕ) (fields : List FieldTokens) → All IsField fields → All IsOrdered (parts n (λ (f : FieldTokens). f.spans) fields)
all_ordered n [] are = λ k d h. absurd (omega (arith, h))
all_ordered n (f ∷ fs) are =
    ordered n f.spans (parts (n + 1) (λ (f : FieldTokens). f.spans) fs) (λ k d h. ((are zero f (omega arith)).spans k d h).order) (all_ordered (n + 1) fs (All-tail IsField f fs are))

pub has_order : (row : DocRow) → All IsField row.doc.fields → HasOrder row
has_order row are = record { gaps = λ k d h. rise 0 0 _ (omega arith) (are k d h).placed.follow; spans = all_ordered 0 row.doc.fields are }

pub have_order : (schema : Schema) (rows : List DocRow) → AreRowsOf schema rows → All HasOrder rows
have_order schema rows are k d h = has_order _ (are.docs k d h).tokens

pub have_fields : (schema : Schema) (rows : List DocRow) → IsSchema schema → AreRowsOf schema rows → All HasFields rows
have_fields schema rows limits are k d h = record { few = omega (arith, (are.docs k d h).fields, limits.few_fields); are = (are.docs k d h).tokens }
