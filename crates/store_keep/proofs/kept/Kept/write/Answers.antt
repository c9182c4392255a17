use Rattle.std.proofs.Common.{◌≡◌, ◌+◌, ◌<◌, ◌^◌, length, refl, sym, subst, rules}
use Rattle.doc_bytes.specs.Payload.{payload}
use Rattle.step_book.specs.Fronts.{FrontValue}
use Rattle.step_book.specs.Tellings.{entry_of}
use Rattle.step_history.specs.History.{Commit, IsGood, Step}
use Rattle.step_line.specs.Lines.{MayFollow, kept_by}
use Rattle.store_keep.specs.Commits.{front_of}
use Rattle.store_keep.proofs.Accepting.{may_follow, of_one, prepared_is, short}
use Rattle.store_keep.proofs.kept.Kept.write.Goals as goal

pub upkept-next-requires : goal.upkept-next-requires
upkept-next-requires g c =
    let line = c.args.self.now.line in
    let good : IsGood (g.J.Naming.schema line.index) (g.J.Naming.base line.index) line.history = search rules in
    of_one (g.J.Naming.schema line.index) (g.J.Naming.base line.index) line c.args.worker c.args.txn.now c.args.next c.args.removed c.requires.none c.requires.of.0 c.requires.of.1 c.numbers_fit.ensures c.requires.applies c.requires.room good

pub record_of-requires-clause-short : goal.record_of-requires-clause-short
record_of-requires-clause-short g c =
    short (g.J.Naming.schema c.args.self.now.line.index) (g.J.Naming.base c.args.self.now.line.index) c.args.self.now.line c.args.worker c.args.txn.now c.args.next c.args.removed c.requires.none c.requires.of.0 c.requires.of.1 c.numbers_fit.ensures c.requires.applies c.requires.room

pub new-pending-requires-clause-follows : goal.new-pending-requires-clause-follows
new-pending-requires-clause-follows g c =
    let line = c.args.self.now.line in
    let next = c.upkept-next.result in
    let front : c.front.result.now ≡ front_of line = search rules in
    let seq : c.in_ok-seq.seq ≡ kept_by c.args.worker line + 1 = search rules in
    let few : length line.history + 1 < 2 ^ 63 = search rules in
    let good : IsGood (g.J.Naming.schema line.index) (g.J.Naming.base line.index) line.history = search rules in
    let made : c.commit-made.result ≡ Commit (entry_of c.args.worker c.in_ok-seq.seq next.number c.args.txn.now) next = search rules in
    subst (λ (f : FrontValue). MayFollow (g.J.Naming.schema f.index) (g.J.Naming.base f.index) f.steps c.commit-made.result) (sym front)
    (subst (λ (s : Step). MayFollow (g.J.Naming.schema line.index) (g.J.Naming.base line.index) line.history s) (sym made)
    (may_follow (g.J.Naming.schema line.index) (g.J.Naming.base line.index) line c.args.worker c.args.txn.now c.args.next c.args.removed c.requires.none c.requires.of.0 c.requires.of.1 c.numbers_fit.ensures c.requires.applies c.requires.room
    next c.upkept-next.ensures.merges c.upkept-next.ensures.sound c.upkept-next.ensures.apart c.in_ok-seq.seq seq good few))

pub returns : goal.returns
returns g c =
    let line = c.args.self.now.line in
    let next = c.upkept-next.result in
    let seq : c.in_ok-seq.seq ≡ kept_by c.args.worker line + 1 = search rules in
    let few : length line.history + 1 < 2 ^ 63 = search rules in
    let number : c.next-2.inside.number ≡ next.number = search rules in
    let staged : c.in_ok-staged.staged ≡ record { number = next.number; payload = payload c.args.txn.now } = search rules in
    let pending : c.new-pending.result ≡ record { from = front_of line; step = Commit (entry_of c.args.worker c.in_ok-seq.seq next.number c.args.txn.now) next } = search rules in
    prepared_is (g.J.Naming.schema line.index) (g.J.Naming.base line.index) line c.args.worker c.args.txn.now c.args.next c.args.removed c.requires.none c.requires.of.0 c.requires.of.1 c.numbers_fit.ensures c.requires.applies c.requires.room
    next c.upkept-next.ensures.merges c.upkept-next.ensures.sound c.upkept-next.ensures.apart c.in_ok-seq.seq seq
    (record { staged = c.in_ok-staged.staged; pending = c.new-pending.result; number = c.next-2.inside.number; removed = c.args.removed }) staged pending number refl few
