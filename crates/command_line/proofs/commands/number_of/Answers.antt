use Rattle.std.proofs.Common.{◌∙◌}
use Rattle.std.specs.Str.Parse.{ExplainsUnsignedError, HasUnsignedDigitsIfOk, ParsesUnsigned}
use Rattle.clap.specs.Words.{found_of}
use Rattle.clap.proofs.WalkLemmas.{one_text-rows}
use Rattle.command_line.proofs.Numbers.{number_read}
use Rattle.command_line.proofs.commands.number_of.Goals as goal

pub returns : goal.returns
returns c number finds =
    number_read (λ bytes r. ParsesUnsigned 32 10 bytes r × ExplainsUnsignedError 10 bytes r × HasUnsignedDigitsIfOk bytes r) finds.text number c.get_one.result
    (c.get_one.ensures.value finds.text (one_text-rows (found_of c.args.matches.now) c.args.id.now ∙ finds.found)) (λ t x g. g.0)
    finds.numeral finds.value finds.small
