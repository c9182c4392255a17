use Rattle.std.proofs.Common.{arith, sym, ◌∙◌, ap, ℕ, get_or}
use Rattle.store_steps.specs.declared.damage.DamageKind.TheVariants as kinds
use Rattle.chunk_files.specs.steps.Files.{damaged}
use Rattle.chunk_files.proofs.Once.{none_again, some_again}
use Rattle.chunk_files.proofs.files.again.Goals as goal

pub returns-in-Some : goal.returns-in-Some
returns-in-Some c = λ chunks are.
    some_again c.args.schema.now c.args.entries.now chunks c.args.layers.now c.chunks.number c.in-Some.row c.index-entries-number.result c.index-layers-number.result _ are c.chunks.invariant (omega (arith, c.chunks-test.true)) (sym c.index-layers-number.is)
    (sym c.again_in.ensures ∙ c.in-Some.is) (ap (λ (place : ℕ). damaged (get_or c.args.entries.now c.chunks.number c.index-entries-number.result).file place kinds.IdTwice) c.row_place-place.ensures)

pub returns : goal.returns
returns c = λ chunks are. none_again c.args.entries.now chunks c.args.layers.now c.chunks.number are (omega (arith, c.chunks-test.false)) c.chunks.invariant
