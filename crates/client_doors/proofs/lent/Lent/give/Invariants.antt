use Rattle.std.proofs.Common.{◌≡◌, ◌++◌, take}
use Rattle.client_doors.specs.Lending.{things_given}
use Rattle.client_doors.proofs.lent.Lent.give.Given as goal

abbrev pub invariant-things : goal.invariant-things
invariant-things g l = record {
  gave : things_given l.self ≡ things_given l.initial.self ++ take l.thing-index l.things;
  back : l.self.back ≡ l.initial.self.back;
}
