use Rattle.std.proofs.Common.{◌∙◌, sym}
use Rattle.eval_vectors.proofs.Indexes.{first_is_sound}
use Rattle.eval_vectors.proofs.asking.first_by.Goals as goal

pub first_over-requires : goal.first_over-requires
first_over-requires c = first_is_sound c.args.conf.now c.in-Some.index.now _ c.requires (sym c.as_slice.ensures ∙ c.in-Some.ensures.cases.0)
