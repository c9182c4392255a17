use Rattle.std.proofs.Common.{◌≡◌, List, Some, All, length, refl, subst, sym, ap, ◌∙◌}
use Rattle.std.specs.List.{flat_map}
use Rattle.std.specs.Vec.{with_items}
use Rattle.std.proofs.lemmas.List.{with_items_is}
use Rattle.doc_types.specs.Chunks.{AreWordsOf}
use Rattle.image_join.specs.steps.Entries.{entries_in}
use Rattle.image_join.specs.steps.Merging.{IsLeast, StandAt}
use Rattle.image_join.specs.steps.Parts.{PartValue}
use Rattle.image_join.proofs.Merged.{merged_all, merged_more, merged_none}
use Rattle.image_join.proofs.words.tables_of.Goals as goal

pub words-init : goal.words-init
words-init g c = merged_none c.args.parts.now c.args.numbers.now c.in_ok-nexts.nexts.items c.in_ok-tables.tables c.in_ok-nexts.ensures c.in_ok-tables.ensures

pub returns-in-None : goal.returns-in-None
returns-in-None g c =
    let parts : List PartValue = c.args.parts.now in
    let last = c.words.invariant.last in
    let stand : StandAt last parts c.deref.result.now = subst (StandAt last parts) (sym c.deref.ensures.value) c.words.invariant.stand in
    merged_all parts c.args.numbers.now c.words.nexts.items c.words.tables c.words.invariant c.word_count-most.ensures (c.in-None.ensures last stand)

pub words-preserved : goal.words-preserved
words-preserved g c =
    let parts : List PartValue = c.args.parts.now in
    let last = c.words.invariant.last in
    let word = c.in-Some.least.word.now in
    let are : All (λ (part : PartValue). AreWordsOf part.rows part.words) parts = c.word_count-most.ensures in
    let stand : StandAt last parts c.deref.result.now = subst (StandAt last parts) (sym c.deref.ensures.value) c.words.invariant.stand in
    let least : IsLeast last parts word = (c.in-Some.ensures last stand).0 in
    let nexts : StandAt last parts c.deref_mut.result.now = subst (StandAt last parts) (sym c.deref_mut.ensures.value) c.words.invariant.stand in
    let passed : StandAt (Some word) parts c.go_over.new.nexts = c.in_ok-go_over.ensures.nexts last nexts least in
    let size : length c.go_over.new.nexts ≡ c.words.nexts.len = c.in_ok-go_over.ensures.long ∙ ap length c.deref_mut.ensures.value ∙ sym c.words.nexts.ok.0 in
    let after : StandAt (Some word) parts (with_items c.words.nexts c.go_over.new.nexts).items = subst (StandAt (Some word) parts) (sym (with_items_is c.words.nexts c.go_over.new.nexts size)) passed in
    merged_more parts c.args.numbers.now c.words.nexts.items (with_items c.words.nexts c.go_over.new.nexts).items c.words.tables c.go_over.new.tables word (flat_map (entries_in word c.args.numbers.now) parts) c.words.invariant are least after refl (c.in_ok-go_over.ensures.tables last nexts least)

pub returns-in-None-least_word : goal.returns-in-None-least_word
returns-in-None-least_word g c =
    let parts : List PartValue = c.args.parts.now in
    let last = c.words.invariant.last in
    let stand : StandAt last parts c.deref-2.result.now = subst (StandAt last parts) (sym c.deref-2.ensures.value) c.words.invariant.stand in
    merged_all parts c.args.numbers.now c.words.nexts.items c.words.tables c.words.invariant c.word_count-most.ensures (c.in-None-least_word.ensures last stand)

pub least_word-requires-clause-stand : goal.least_word-requires-clause-stand
least_word-requires-clause-stand g c = (c.words.invariant.last, subst (StandAt c.words.invariant.last c.args.parts.now) (sym c.deref.ensures.value) c.words.invariant.stand)

pub least_word-requires-2-clause-stand : goal.least_word-requires-2-clause-stand
least_word-requires-2-clause-stand g c = (c.words.invariant.last, subst (StandAt c.words.invariant.last c.args.parts.now) (sym c.deref-2.ensures.value) c.words.invariant.stand)

pub go_over-requires-clause-head : goal.go_over-requires-clause-head
go_over-requires-clause-head g c = (c.in-Some.ensures c.words.invariant.last (subst (StandAt c.words.invariant.last c.args.parts.now) (sym c.deref.ensures.value) c.words.invariant.stand)).1
