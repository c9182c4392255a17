use Rattle.std.proofs.Common.{sym, subst}
use Rattle.std.specs.Prelude.{Option, option_to_list}
use Rattle.doc_tokens.specs.declared.sign.TextSign.{TextSign}
use Rattle.doc_tokens.specs.steps.TokenReader.{ReadsSome}
use Rattle.doc_tokens.proofs.ReaderSteps.{some_read}
use Rattle.doc_tokens.proofs.walk.read_some.Goals as goal

pub returns-in-Some : goal.returns-in-Some
returns-in-Some c =
    subst (λ (o : Option TextSign). ReadsSome c.args.reader.now (option_to_list o) c.read.new.self c.read.result) (sym c.in-Some.is)
    (some_read c.args.reader.now c.in-Some.sign c.read.new.self c.read.result c.read.ensures)
