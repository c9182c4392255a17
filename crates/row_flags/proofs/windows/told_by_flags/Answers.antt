use Rattle.std.proofs.Common.{◌≡◌, ◌∙◌, List, drop, length, map, take, rules, sym, ap, subst, arith, ◌++◌}
use Rattle.std.proofs.Math.Seq.{take-append_seam}
use Rattle.std.proofs.lemmas.List.{length-map}
use Rattle.query_tree.specs.TreeKeys.{node_keys}
use Rattle.row_flags.specs.Windows.{AreFieldsTold, AreTold}
use Rattle.row_flags.specs.declared.windows.Told.{Told}
use Rattle.row_flags.specs.steps.Tallies.{AreTallied, first_told}
use Rattle.row_flags.proofs.ToldRows.{are_exact, are_told}
use Rattle.row_flags.proofs.windows.told_by_flags.Goals as goal

pub returns-clause-told : goal.returns-clause-told
returns-clause-told g c = λ query is.
    let rows = g.C.Chunk.content c.args.chunk.now in
    let root = c.args.root.now in
    let by_fields = c.args.by_fields in
    let from = c.args.from in
    let flags = c.flag_living.new.into in
    let before = c.deref_mut.result.now in
    let after = c.tally_tree.new.into in
    let items = c.in_ok-told.told.items in
    let first : before ≡ map (first_told by_fields) flags = search rules in
    let all : length before ≡ c.in_ok-told.told.len = search rules in
    let long : length after ≡ length before = c.in_ok-tally_tree.ensures.long in
    let same : take c.in_ok-told.told.len (after ++ drop (length after) items) ≡ after =
    ap (λ n. take n (after ++ drop (length after) items)) (sym (long ∙ all)) ∙ take-append_seam after (drop (length after) items) in
    subst (λ (told : List Told). AreTold query c.args.dead.now rows from told) (sym same)
    (are_told query root is c.args.dead.now rows (g.met.C.Chunk.whole c.args.chunk.now) by_fields from flags after
    (long ∙ ap length first ∙ length-map flags (first_told by_fields))
    (subst (λ (told : List Told). AreTallied by_fields (node_keys root) rows from told after) first c.in_ok-tally_tree.ensures.tallied)
    (omega (arith, c.in_ok-flag_living.ensures.long, c.requires.within))
    (c.in_ok-flag_living.ensures.flags c.if-not-branch.false))

pub returns-clause-exact : goal.returns-clause-exact
returns-clause-exact g c = λ query is asked goes.
    let rows = g.C.Chunk.content c.args.chunk.now in
    let root = c.args.root.now in
    let by_fields = c.args.by_fields in
    let from = c.args.from in
    let flags = c.flag_living.new.into in
    let before = c.deref_mut.result.now in
    let after = c.tally_tree.new.into in
    let items = c.in_ok-told.told.items in
    let first : before ≡ map (first_told by_fields) flags = search rules in
    let all : length before ≡ c.in_ok-told.told.len = search rules in
    let long : length after ≡ length before = c.in_ok-tally_tree.ensures.long in
    let same : take c.in_ok-told.told.len (after ++ drop (length after) items) ≡ after =
    ap (λ n. take n (after ++ drop (length after) items)) (sym (long ∙ all)) ∙ take-append_seam after (drop (length after) items) in
    subst (λ (told : List Told). AreFieldsTold query rows from told) (sym same)
    (are_exact query root is c.args.dead.now rows (g.met.C.Chunk.whole c.args.chunk.now) by_fields from flags after
    (long ∙ ap length first ∙ length-map flags (first_told by_fields))
    (subst (λ (told : List Told). AreTallied by_fields (node_keys root) rows from told after) first c.in_ok-tally_tree.ensures.tallied)
    asked goes)
