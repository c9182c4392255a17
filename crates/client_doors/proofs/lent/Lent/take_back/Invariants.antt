use Rattle.std.proofs.Common.{◌≡◌, ◌++◌, take}
use Rattle.client_doors.specs.Lending.{things_back}
use Rattle.client_doors.proofs.lent.Lent.take_back.Given as goal

abbrev pub invariant-things : goal.invariant-things
invariant-things g l = record {
  back : things_back l.self ≡ things_back l.initial.self ++ take l.thing-index l.things;
  gave : l.self.gave ≡ l.initial.self.gave;
}
