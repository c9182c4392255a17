use Rattle.std.proofs.Common.{◌<◌, length, sym, arith}
use Rattle.std.proofs.lemmas.Option.{slice_get_within}
use Rattle.prefix_terms.proofs.parts.Part.behind.Goals as goal

pub overflow_add-result : goal.overflow_add-result
overflow_add-result g c =
    let within : c.args.number < length c.args.self.now.words = slice_get_within c.args.self.now.words c.args.number c.in-Some.own.now (sym c.in-Some.ensures.word) in
    omega (arith, within, c.in-Some.ensures.few)
