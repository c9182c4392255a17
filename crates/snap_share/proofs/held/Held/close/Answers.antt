use Rattle.std.proofs.Common.{◌≡◌, ℕ, List, Option, ◌∙◌, ap, sym, subst}
use Rattle.std.specs.List.{AllByRecursion}
use Rattle.commit_outcomes.specs.declared.strayed.Strayed.{Strayed}
use Rattle.step_book.specs.Fronts.{FrontValue}
use Rattle.step_book.specs.Shares.{ShareValue}
use Rattle.step_line.specs.Tallies.{TallyValue}
use Rattle.store_keep.specs.Charges.{IsBacked, MayHaveStopped}
use Rattle.store_keep.specs.Tellings.{AreOfIndex, first_stray}
use Rattle.store_keep.proofs.Telling.{of_index}
use Rattle.snap_share.specs.Closings.{HasKept, Keeps}
use Rattle.snap_share.specs.steps.Endings.{EndsBy}
use Rattle.snap_share.specs.steps.Takings.{HasTaken}
use Rattle.snap_share.proofs.Ending.{closes_so, of_line}
use Rattle.snap_share.proofs.held.Held.close.Goals as goal

pub all_took_of-requires-clause-faults : goal.all_took_of-requires-clause-faults
all_took_of-requires-clause-faults g c =
    let line = c.self.inside.keeper.kept.line in
    let is : c.share.result.now.index ≡ line.index = ap (λ (s : ShareValue). s.index) c.share.ensures ∙ (ap (λ (t : TallyValue). t.index) c.faults.ensures ∙ c.self.invariant.2.faults_of.0) in
    subst (λ (i : ℕ). AreOfIndex i c.args.tokens.now) (sym is)
    (of_index line c.args.tokens.now (of_line c.args.index c.args.workers line c.args.tokens.now (sym c.if-own-index.false ∙ c.self.invariant.0) (sym c.if-known-workers.false ∙ c.self.invariant.1) c.requires.of))

pub first_stray-requires-clause-tokens : goal.first_stray-requires-clause-tokens
first_stray-requires-clause-tokens g c =
    of_line c.args.index c.args.workers c.self.inside.keeper.kept.line c.args.tokens.now (sym c.if-own-index.false ∙ c.self.invariant.0) (sym c.if-known-workers.false ∙ c.self.invariant.1) c.requires.of

pub meet_all-requires : goal.meet_all-requires
meet_all-requires g c =
    let line = c.self.inside.keeper.kept.line in
    subst (λ (f : FrontValue). AreOfIndex f.index c.args.tokens.now) (sym c.note-note.ensures.note)
    (of_index line c.args.tokens.now (of_line c.args.index c.args.workers line c.args.tokens.now (sym c.if-own-index.false ∙ c.self.invariant.0) (sym c.if-known-workers.false ∙ c.self.invariant.1) c.requires.of))

pub returns : goal.returns
returns g c =
    let keeper = c.self.inside.keeper in
    let line = keeper.kept.line in
    let sound = c.self.invariant.2 in
    let disk = sym c.close.ensures in
    let faults : c.share.result.now.calls ≡ keeper.faults.calls = ap (λ (s : ShareValue). s.calls) c.share.ensures ∙ ap (λ (t : TallyValue). t.calls) c.faults.ensures in
    let stops : c.share-2.result.now.calls ≡ keeper.stops.calls = ap (λ (s : ShareValue). s.calls) c.share-2.ensures ∙ ap (λ (t : TallyValue). t.calls) c.stops.ensures in
    closes_so g.D.Disk g.J.Naming.schema g.J.Naming.base g.J.Naming.opened line keeper.faults.calls keeper.stops.calls keeper.strayed c.args.told.now c.args.tokens.now c.meet_all.new.tokens c.close.result c.note-note.result c.args.index c.args.workers c.answer_of-answer.result
    (sym c.if-own-index.false ∙ c.self.invariant.0)
    (sym c.if-known-workers.false ∙ c.self.invariant.1)
    (subst (λ d. Keeps g.D.Disk (g.J.Naming.schema line.index) (g.J.Naming.base line.index) d line) disk c.a_crash_between_calls_leaves_the_documents.ensures.either)
    (subst (λ d. HasKept g.D.Disk (g.J.Naming.schema line.index) (g.J.Naming.base line.index) d line) disk (keeper.kept.files, sound.kept))
    c.note-note.ensures.line
    c.note-note.ensures.note
    (subst (λ d. IsBacked (g.J.Naming.opened line.index) (g.D.Disk.faults d) keeper.faults.calls) disk sound.backed)
    (subst (λ (f : List ℕ). AllByRecursion (HasTaken f keeper.stops.calls) c.args.tokens.now) faults
    (subst (λ (s : List ℕ). AllByRecursion (HasTaken c.share.result.now.calls s) c.args.tokens.now) stops (c.all_took_of.ensures c.if-not-all_took_of.false)))
    c.requires.differ
    (subst (λ d. MayHaveStopped (g.J.Naming.opened line.index) line.history (g.D.Disk.faults d) keeper.strayed keeper.stops.calls) disk sound.ended)
    c.meet_all.ensures.fronts
    c.meet_all.ensures.told
    (subst (λ (h : Option Strayed). EndsBy h c.args.told.now (first_stray (g.J.Naming.base line.index) line c.args.tokens.now) c.answer_of-answer.result) c.self.invariant.3
    (subst (λ (f : Option Strayed). EndsBy c.self.inside.strayed c.args.told.now f c.answer_of-answer.result) c.first_stray.ensures c.answer_of-answer.ensures))
