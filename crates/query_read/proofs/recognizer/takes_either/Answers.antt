use Rattle.std.proofs.Common.{Bool, inl, sym, subst}
use Rattle.query_read.specs.steps.Recognizing.{TakesEither}
use Rattle.query_read.proofs.RecognizedRows.{taken, taken_second}
use Rattle.query_read.proofs.recognizer.takes_either.Goals as goal

pub returns-then-takes : goal.returns-then-takes
returns-then-takes c =
    subst (λ (b : Bool). TakesEither c.args.first c.args.second c.args.input.now b c.takes.new.self) (sym c.if-takes.true) (inl (taken c.if-takes.ensures.0, c.if-takes.ensures.1))

pub returns-else-takes : goal.returns-else-takes
returns-else-takes c = taken_second c.args.second _ c.takes-else-takes.result c.if-takes.ensures.0 c.if-takes.ensures.1 c.takes-else-takes.ensures
