-- A row is told by its answers.
use Rattle.std.proofs.Common.{◌≡◌, ℕ, zero, List, [], ◌∷◌, refl, sym, ap, ◌∙◌, map, arith, length, All}
use Rattle.std.proofs.lemmas.List.{length-map}
use Rattle.doc_types.specs.declared.documents.DocRow.{DocRow}
use Rattle.doc_types.specs.declared.tokens.FieldTokens.{FieldTokens}
use Rattle.doc_types.specs.Documents.{IsField}
use Rattle.doc_types.specs.Chunks.{gaps_of, hits_of, positions_of}
use Rattle.doc_types.proofs.Numbers.{All-tail}
use Rattle.chunk_image.specs.AlikeRows.{AreAlike}
use Rattle.chunk_image.proofs.OneField.{words_same}
use Rattle.chunk_image.proofs.ByField.{parts_same, heads, tails}

-- a field is told by the positions of each word, its boundaries and its spans
field_same : (f g : FieldTokens) → IsField f → IsField g → ((word : List ℕ) → positions_of word f ≡ positions_of word g) → gaps_of f ≡ gaps_of g → f.spans ≡ g.spans → f ≡ g
field_same f g isf isg e m s =
    let words : f.words ≡ g.words = words_same 0 f.words g.words isf.placed.follow isg.placed.follow e m in
    λ i. record { words = words i; spans = s i }

-- so are fields
fields_same : (fs gs : List FieldTokens) → All IsField fs → All IsField gs → ((word : List ℕ) → map (positions_of word) fs ≡ map (positions_of word) gs) → map gaps_of fs ≡ map gaps_of gs → map (λ (f : FieldTokens). f.spans) fs ≡ map (λ (f : FieldTokens). f.spans) gs → fs ≡ gs
fields_same [] [] isf isg e m s = refl
fields_same [] (g ∷ gs) isf isg e m s = absurd cc
fields_same (f ∷ fs) [] isf isg e m s = absurd cc
fields_same (f ∷ fs) (g ∷ gs) isf isg e m s =
    let here : f ≡ g = field_same f g (isf zero f (omega arith)) (isg zero g (omega arith)) (λ word. heads _ _ _ _ (e word)) (heads _ _ _ _ m) (heads _ _ _ _ s) in
    let rest : fs ≡ gs = fields_same fs gs (All-tail IsField f fs isf) (All-tail IsField g gs isg) (λ word. tails _ _ _ _ (e word)) (tails _ _ _ _ m) (tails _ _ _ _ s) in
    cc

-- and so is a row
pub row_same : (row other : DocRow) → All IsField row.doc.fields → All IsField other.doc.fields → AreAlike row other → ((word : List ℕ) → hits_of word row ≡ hits_of word other) → row ≡ other
row_same row other isr iso aside e =
    let long : length row.doc.fields ≡ length other.doc.fields = sym (length-map row.doc.fields gaps_of) ∙ ap length aside.gaps ∙ length-map other.doc.fields gaps_of in
    let spans = parts_same 0 (λ (field : FieldTokens). field.spans) row.doc.fields other.doc.fields long aside.spans in
    let fields : row.doc.fields ≡ other.doc.fields = fields_same row.doc.fields other.doc.fields isr iso (λ word. parts_same 0 (positions_of word) row.doc.fields other.doc.fields long (e word)) aside.gaps spans in
    λ i. record { doc = record { id = aside.ids i; fields = fields i; values = aside.values i }; born = aside.born i }
