use Rattle.std.proofs.Common.{◌≡◌, ℕ, ◌+◌, ◌<◌, Bor, None, cond, get_or, length, map, sym, ap, ◌∙◌, arith}
use Rattle.std.proofs.lemmas.List.{get_or-map, get_or_default, length-map}
use Rattle.std.proofs.lemmas.List.Folds.{list_any_at}
use Rattle.query_tree.specs.declared.key.Key.{Key}
use Rattle.occ_lists.specs.declared.term.Term.{Term}
use Rattle.word_rows.specs.RowMarks.{has_zones}
use Rattle.word_rows.specs.Slots.{Stands, next_of, next_with}
use Rattle.word_rows.specs.Terms.{IsSeenIn}
use Rattle.word_rows.proofs.Loaded.{done_more, same_more, seen_still}
use Rattle.word_rows.proofs.PresentCounts.{present_more, present_within}
use Rattle.word_rows.proofs.Zipped.{zip_length, zip_read}
use Rattle.word_rows.proofs.loading.load_all.Goals as goal

pub bounds-cursors-at : goal.bounds-cursors-at
bounds-cursors-at g c =
    let place = g.C.Chunk.place c.args.chunk.now in
    let rows = g.C.Chunk.content c.args.chunk.now in
    omega (arith, zip_length (λ word cursor. next_of place cursor ≡ next_with word rows c.args.row) (map (λ (key : Bor Key). key.now.word) c.args.keys.now) c.args.cursors.now c.requires.at, length-map c.args.keys.now (λ (key : Bor Key). key.now.word), c.requires.long)

pub load_term-requires-clause-its : goal.load_term-requires-clause-its
load_term-requires-clause-its g c =
    zip_read (Stands (g.C.Chunk.belongs c.args.chunk.now) (g.C.Chunk.place c.args.chunk.now) (g.C.Chunk.content c.args.chunk.now) c.args.row) (λ (key : Bor Key). key.now.word)
    c.args.keys.now c.args.cursors.now c.loop-at.at c.index-keys-at.result None c.requires.its (omega (arith, c.requires.long)) c.index-keys-at.is

pub load_term-requires-clause-at : goal.load_term-requires-clause-at
load_term-requires-clause-at g c =
    let place = g.C.Chunk.place c.args.chunk.now in
    let rows = g.C.Chunk.content c.args.chunk.now in
    zip_read (λ word cursor. next_of place cursor ≡ next_with word rows c.args.row) (λ (key : Bor Key). key.now.word)
    c.args.keys.now c.args.cursors.now c.loop-at.at c.index-keys-at.result None c.requires.at (omega (arith, c.requires.long)) c.index-keys-at.is

pub load_term-requires-clause-seen : goal.load_term-requires-clause-seen
load_term-requires-clause-seen g c = λ found here.
    seen_still found c.index-keys-at.result.now (get_or c.args.terms.now c.loop-at.at c.index-terms-at.result) (get_or c.loop-at.terms c.loop-at.at c.index-terms-at.result)
    (c.loop-at.invariant.same c.loop-at.at c.index-terms-at.result)
    (zip_read (IsSeenIn found) (λ (key : Bor Key). key.now) c.args.keys.now c.args.terms.now c.loop-at.at c.index-keys-at.result c.index-terms-at.result (c.requires.seen found here) (omega (arith, c.requires.long)) c.index-keys-at.is)

pub load_term-requires-clause-spans : goal.load_term-requires-clause-spans
load_term-requires-clause-spans g c = λ found here zoned.
    let keys = map (λ (key : Bor Key). key.now) c.args.keys.now in
    let same : get_or keys c.loop-at.at c.index-keys-at.result.now ≡ c.index-keys-at.result.now =
    get_or-map (λ (key : Bor Key). key.now) c.args.keys.now c.loop-at.at c.index-keys-at.result c.index-keys-at.result.now (omega (arith, c.requires.long)) ∙ ap (λ (key : Bor Key). key.now) (sym c.index-keys-at.is) in
    c.requires.spans found here
    (list_any_at has_zones keys c.loop-at.at c.index-keys-at.result.now (omega (arith, c.requires.long, length-map c.args.keys.now (λ (key : Bor Key). key.now))) (ap has_zones same ∙ zoned))

pub load_term-requires-clause-lasts : goal.load_term-requires-clause-lasts
load_term-requires-clause-lasts g c = λ found here ends.
    c.requires.lasts found here
    (list_any_at (λ (key : Bor Key). key.now.end) c.args.keys.now c.loop-at.at c.index-keys-at.result (omega (arith, c.requires.long)) (ap (λ (key : Bor Key). key.now.end) (sym c.index-keys-at.is) ∙ ends))

pub returns-clause-loaded : goal.returns-clause-loaded
returns-clause-loaded g c = λ found here k d key below. c.loop-at.invariant.done found here k d key (omega (arith, below))

pub loop-at-preserved : goal.loop-at-preserved
loop-at-preserved g c =
    let at = c.loop-at.at in
    let d = c.index-terms-at.result in
    let within : at < length c.loop-at.terms = omega (arith, c.requires.long) in
    let its : (e : Term) → c.load_term.new.term ≡ record (get_or c.loop-at.terms at e) { places = c.load_term.new.term.places } =
    λ e. c.load_term.ensures.same ∙ ap (λ (t : Term). record t { places = c.load_term.new.term.places }) (get_or_default c.loop-at.terms at d e within) in
    let more = present_more c.args.terms.now at d (omega (arith, c.requires.long)) in
    let was = ap {B = ℕ} (λ (term : Term). cond term.present 1 0) (c.loop-at.invariant.same at d) in
    record {
      count = omega (arith, c.loop-at.invariant.count, c.load_term.ensures.count, more, was);
      same = same_more at c.args.terms.now c.loop-at.terms c.load_term.new.term within c.loop-at.invariant.same its;
      done = λ found here. done_more at c.args.terms.now c.loop-at.terms c.load_term.new.term within c.loop-at.invariant.same its
          found c.args.keys.now c.index-keys-at.result c.index-keys-at.is (c.in_ok-load_term.ensures.loaded found here) (c.loop-at.invariant.done found here) (omega (arith, c.requires.long));
    }

pub returns-clause-count : goal.returns-clause-count
returns-clause-count g c = omega (arith, c.loop-at.invariant.count, present_within c.args.terms.now c.loop-at.at)

pub returns-in_err-load_term-clause-count : goal.returns-in_err-load_term-clause-count
returns-in_err-load_term-clause-count g c =
    let at = c.loop-at.at in
    let d = c.index-terms-at.result in
    let more = present_more c.args.terms.now at d (omega (arith, c.requires.long)) in
    let was = ap {B = ℕ} (λ (term : Term). cond term.present 1 0) (c.loop-at.invariant.same at d) in
    omega (arith, c.loop-at.invariant.count, c.load_term.ensures.count, more, was, present_within c.args.terms.now (at + 1))
