use Rattle.std.proofs.Common.{sym, ◌∙◌, ap, subst, Bool, List, ℕ, ◌≡◌, [], true, false, length}
use Rattle.std.specs.Prelude.{◌||◌, nat_le}
use Rattle.std.specs.List.{list_any}
use Rattle.std.specs.Str.{bytes_eq}
use Rattle.index_conf.specs.declared.conf.IndexConf.{IndexConf}
use Rattle.index_conf.specs.declared.conf.TheConstants.{MAX_INDEXES}
use Rattle.conf_text.specs.steps.Drafts.{AreIndexes, IsDraft}
use Rattle.conf_text.specs.Faults.{has_name, is_long}
use Rattle.conf_text.specs.Sections.{IndexText}
use Rattle.conf_text.specs.Shapes.{small}
use Rattle.conf_text.proofs.Entries.{named_by}
use Rattle.conf_text.proofs.Spots.{as_many, begins_index}
use Rattle.conf_text.proofs.reading.start_index.Goals as goal

-- what the two tests say
taken_is : (texts : List IndexText) (indexes : List IndexConf) (name seen : List ℕ) (test value : Bool) → AreIndexes texts indexes → seen ≡ name → test ≡ list_any (λ index. bytes_eq index.schema.name seen) indexes → test ≡ value → list_any (has_name name) texts ≡ value
taken_is texts indexes name seen test value are same is holds =
    named_by name texts indexes are ∙ ap (λ (n : List ℕ). list_any (λ (index : IndexConf). bytes_eq index.schema.name n) indexes) (sym same) ∙ sym is ∙ holds

exceeds_is : (texts : List IndexText) (indexes : List IndexConf) (name seen : List ℕ) (test value : Bool) → AreIndexes texts indexes → seen ≡ name → test ≡ (is_long seen || nat_le MAX_INDEXES (length indexes)) → test ≡ value → (is_long name || nat_le MAX_INDEXES (length texts)) ≡ value
exceeds_is texts indexes name seen test value are same is holds =
    ap (λ n. is_long name || nat_le MAX_INDEXES n) (as_many texts indexes are) ∙ ap (λ (n : List ℕ). is_long n || nat_le MAX_INDEXES (length indexes)) (sym same) ∙ sym is ∙ holds

pub returns-then-name_is_taken : goal.returns-then-name_is_taken
returns-then-name_is_taken c = λ texts are.
    taken_is texts c.args.indexes.now (small c.args.name.now) c.as_bytes.result.now c.name_is_taken.result true are (c.as_bytes.ensures ∙ c.in_ok-name.ensures) c.name_is_taken.ensures c.if-name_is_taken.true

pub returns-then-head_exceeds : goal.returns-then-head_exceeds
returns-then-head_exceeds c = λ texts are. (
  taken_is texts c.args.indexes.now (small c.args.name.now) c.as_bytes.result.now c.name_is_taken.result false are (c.as_bytes.ensures ∙ c.in_ok-name.ensures) c.name_is_taken.ensures c.if-name_is_taken.false,
  exceeds_is texts c.args.indexes.now (small c.args.name.now) c.as_bytes-2.result.now c.head_exceeds.result true are (c.as_bytes-2.ensures ∙ c.in_ok-name.ensures) c.head_exceeds.ensures c.if-head_exceeds.true,
)

pub returns : goal.returns
returns c = λ texts are. (
  record {
    new = taken_is texts c.args.indexes.now (small c.args.name.now) c.as_bytes.result.now c.name_is_taken.result false are (c.as_bytes.ensures ∙ c.in_ok-name.ensures) c.name_is_taken.ensures c.if-name_is_taken.false;
    within = exceeds_is texts c.args.indexes.now (small c.args.name.now) c.as_bytes-2.result.now c.head_exceeds.result false are (c.as_bytes-2.ensures ∙ c.in_ok-name.ensures) c.head_exceeds.ensures c.if-head_exceeds.false;
  },
  begins_index (small c.args.name.now) c.of.result c.args.opens c.go_to.new.place (subst (λ (n : List ℕ). IsDraft n [] c.of.result) c.in_ok-name.ensures c.of.ensures) (c.go_to.ensures ∙ c.after_head.ensures),
)
