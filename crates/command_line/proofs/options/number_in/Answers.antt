use Rattle.std.proofs.Common.{◌≡◌, true, rules}
use Rattle.command_line.specs.Modes.{is_number}
use Rattle.command_line.proofs.Numbers.{number_refused}
use Rattle.command_line.proofs.options.number_in.Goals as goal

pub returns-in-Err : goal.returns-in-Err
returns-in-Err c =
    let is : true ≡ is_number c.args.text.now = search rules in
    number_refused c.args.text.now c.args.low c.args.high is c.ranges.high.fits c.in-Err.ensures.value.0
