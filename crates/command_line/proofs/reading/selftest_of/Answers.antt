use Rattle.std.proofs.Common.{◌∙◌, sym}
use Rattle.clap.specs.Words.{found_of, rows_of}
use Rattle.command_line.proofs.Pairing.{no_some}
use Rattle.command_line.proofs.SelftestRead.{selftest_said}
use Rattle.command_line.proofs.reading.selftest_of.Goals as goal

pub returns-in_err-number : goal.returns-in_err-number
returns-in_err-number c mode finds = absurd (no_some finds.number (sym c.in_err-number.was ∙ c.number_of.ensures finds.number finds.finds_number))

pub returns-in_err-docs : goal.returns-in_err-docs
returns-in_err-docs c mode finds = absurd (no_some finds.docs (sym c.in_err-docs.was ∙ c.number_of-2.ensures finds.docs finds.finds_docs))

pub returns : goal.returns
returns c mode finds =
    selftest_said (rows_of (found_of c.args.matches.now)) mode finds c.in_ok-number.number c.in_ok-docs.docs
    (sym c.in_ok-number.was ∙ c.number_of.ensures finds.number finds.finds_number)
    (sym c.in_ok-docs.was ∙ c.number_of-2.ensures finds.docs finds.finds_docs)
