-- What a schema's rows keep, as bounds on their numbers.
use Rattle.std.proofs.Common.{ℕ, ◌+◌, ◌<◌, ◌≤◌, zero, suc, List, [], ◌∷◌, length, arith, All}
use Rattle.std.specs.Coded.{le_prop}
use Rattle.std.proofs.Math.Logic.{∥∥₁_elim}
use Rattle.doc_types.specs.declared.tokens.TheConstants.{MAX_POSITION}
use Rattle.doc_types.specs.declared.tokens.FieldTokens.{FieldTokens}
use Rattle.doc_types.specs.declared.tokens.Gap.{Gap}
use Rattle.doc_types.specs.declared.tokens.Gap.TheVariants as gaps
use Rattle.doc_types.specs.declared.tokens.TokenWord.{TokenWord}
use Rattle.doc_types.specs.declared.documents.DocRow.{DocRow}
use Rattle.doc_types.specs.Documents.{Follow, IsDocOf, IsField, step}
use Rattle.doc_types.specs.declared.documents.Doc.{Doc}
use Rattle.doc_types.specs.declared.schema.Schema.{Schema}
use Rattle.doc_types.specs.declared.transactions.Txn.{Txn}
use Rattle.doc_types.specs.declared.transactions.TxnOp.{TxnOp}
use Rattle.doc_types.specs.declared.transactions.TxnOp.TheVariants as operations
use Rattle.doc_types.specs.Schemas.{IsSchema}
use Rattle.doc_types.specs.Transactions.{IsOpOf, IsTxnOf}
use Rattle.doc_types.specs.Chunks.{IsContent}
use Rattle.doc_types.specs.Numbers.{FitsNumbers, OpFits}

step_some : (gap : Gap) → 1 ≤ step gap
step_some gaps.None = omega arith
step_some gaps.Sentence = omega arith
step_some gaps.Paragraph = omega arith

pub All-tail : {X : Type 0} (P : X → Type 0) (x : X) (xs : List X) → All P (x ∷ xs) → All P xs
All-tail P x xs all k d h = all (suc k) d (omega (arith, h))

-- words that follow each other have as many positions at least
up_to : (before last : ℕ) (words : List TokenWord) → before ≤ last → Follow before words → All (λ word. word.position ≤ last) words → before + length words ≤ last
up_to before last [] low follow all = omega (arith, low)
up_to before last (word ∷ words) low follow all =
    let here : word.position ≤ last = all 0 word (omega arith) in
    let rest : word.position + length words ≤ last = up_to word.position last words here follow.1 (All-tail (λ (word : TokenWord). word.position ≤ last) word words all) in
    omega (arith, rest, follow.0, step_some word.gap)

after_zero : (before : ℕ) (words : List TokenWord) → Follow before words → All (λ word. before < word.position) words
after_zero before [] follow k d h = absurd (omega (arith, h))
after_zero before (word ∷ words) follow zero d h = omega (arith, follow.0, step_some word.gap)
after_zero before (word ∷ words) follow (suc k) d h =
    let rest = after_zero word.position words follow.1 k d (omega (arith, h)) in
    omega (arith, rest, follow.0)

-- a field has no more words than positions
pub few_words : (tokens : FieldTokens) → IsField tokens → length tokens.words ≤ MAX_POSITION
few_words tokens is = omega (arith, up_to 0 MAX_POSITION tokens.words (omega arith) is.placed.follow is.within)

-- positions are counted from 1
pub from_one : (tokens : FieldTokens) → IsField tokens → All (λ word. 0 < word.position) tokens.words
from_one tokens is = after_zero 0 tokens.words is.placed.follow

-- the numbers of a schema's document
pub doc_fits : (schema : Schema) → IsSchema schema → (doc : Doc) → IsDocOf schema doc → FitsNumbers doc
doc_fits schema limits doc is = record {
  fields = omega (arith, is.fields, limits.few_fields);
  values = omega (arith, is.values, limits.few_attrs);
  words = λ j t l. few_words _ (is.tokens j t l);
  positions = λ j t l i w m. (from_one _ (is.tokens j t l) i w m, (is.tokens j t l).within i w m);
  bytes = λ j t l i w m. let word = (is.tokens j t l).words i w m in (omega (arith, word.some), omega (arith, word.short));
  spans = is.few_spans;
}

-- those of a schema's operations
op_fits : (schema : Schema) → IsSchema schema → (op : TxnOp) → IsOpOf schema op → OpFits op
op_fits schema limits (operations.Insert doc) is = doc_fits schema limits doc is
op_fits schema limits (operations.Put doc) is = doc_fits schema limits doc is
op_fits schema limits (operations.Kill id) is = tt
op_fits schema limits operations.Clear is = tt

pub ops_fit : (schema : Schema) → IsSchema schema → (txn : Txn) → IsTxnOf schema txn → All OpFits txn.ops
ops_fit schema limits txn is k d h = op_fits schema limits _ (is.operations k d h)

-- those of a chunk's rows
pub rows_fit : (rows : List DocRow) → ∥ IsContent rows ∥₁ → All (λ row. FitsNumbers row.doc) rows
rows_fit rows content = ∥∥₁_elim content (hlevel le_prop) (λ is k d h. doc_fits is.schema is.limits _ (is.of.docs k d h))
