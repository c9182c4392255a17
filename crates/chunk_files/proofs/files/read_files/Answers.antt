use Rattle.std.proofs.Common.{◌≡◌, ◌++◌, arith, sym, ◌∙◌, subst}
use Rattle.std.proofs.lemmas.List.{take-append-drop}
use Rattle.chunk_store.proofs.WholeFiles.{keeps_same, keeps_then, looks_then}
use Rattle.chunk_files.specs.steps.Rests.{AscendAll}
use Rattle.chunk_files.proofs.Pairing.{amid_begins, amid_more, amid_stops, ascend_pair}
use Rattle.chunk_files.proofs.Resting.{looks_same}
use Rattle.chunk_files.proofs.files.read_files.Goals as goal

pub pairs-init : goal.pairs-init
pairs-init g c = (
  amid_begins c.args.schema.now c.args.through c.args.entries.now (g.D.Disk.told c.args.disk.now) c.new-layers.result.items c.new-layers.ensures.items,
  looks_same g.D.Disk c.args.disk.now,
  keeps_same g.D.Disk.may_leave c.args.disk.now,
  omega arith,
)

pub read_pair-requires-clause-dead : goal.read_pair-requires-clause-dead
read_pair-requires-clause-dead g c =
    subst AscendAll (sym c.split_at.ensures.front) (ascend_pair c.args.entries.now c.pairs.invariant.0.before c.pairs.rest.now c.min.result c.requires.dead c.pairs.invariant.0.are)

pub pairs-preserved : goal.pairs-preserved
pairs-preserved g c =
    let cut : c.pairs.rest.now ≡ c.split_at.result.0.now ++ c.split_at.result.1.now = sym (take-append-drop c.min.result c.pairs.rest.now) ∙ (λ i. sym c.split_at.ensures.front i ++ sym c.split_at.ensures.back i) in (
      amid_more c.args.schema.now c.args.through c.args.entries.now c.pairs.rest.now c.split_at.result.0.now c.split_at.result.1.now (g.D.Disk.told c.pairs.disk) (g.D.Disk.told c.read_pair.new.disk) c.pairs.layers.items c.read_pair.new.layers.items c.in-Ok.ensures.read.0
          c.read_pair.ensures.looks.same cut c.pairs.invariant.0 c.in-Ok.ensures.read.1 c.in-Ok.ensures.read.2,
      looks_then g.D.Disk c.args.disk.now c.pairs.disk c.read_pair.new.disk c.pairs.invariant.1 c.read_pair.ensures.looks,
      keeps_then g.D.Disk.may_leave c.args.disk.now c.pairs.disk c.read_pair.new.disk c.pairs.invariant.2 c.read_pair.ensures.keeps,
      (let before = c.pairs.invariant.3 in let now = c.in-Ok.ensures.cause in omega (arith, before, now)),
    )

pub returns-in-Err-clause-read : goal.returns-in-Err-clause-read
returns-in-Err-clause-read g c =
    let cut : c.pairs.rest.now ≡ c.split_at.result.0.now ++ c.split_at.result.1.now = sym (take-append-drop c.min.result c.pairs.rest.now) ∙ (λ i. sym c.split_at.ensures.front i ++ sym c.split_at.ensures.back i) in
    amid_stops c.args.schema.now c.args.through c.args.entries.now c.pairs.rest.now c.split_at.result.0.now c.split_at.result.1.now (g.D.Disk.told c.pairs.disk) (g.D.Disk.told c.read_pair.new.disk) c.pairs.layers.items c.in-Err.fault c.read_pair.ensures.looks.same cut c.pairs.invariant.0 c.in-Err.ensures.read
