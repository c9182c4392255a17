-- Doors at their beginning.
use Rattle.std.specs.Prelude.{◌≡◌, [], false}
use Rattle.client_doors.specs.Lending.{things_back, things_given}
use Rattle.client_doors.specs.declared.client_door.ClientDoor.{ClientDoor}

-- the door gave nothing, got nothing back, and has neither ended nor failed
pub record IsFresh (door : ClientDoor) : Type 0 where
  pub gave : things_given door.lines ≡ []
  pub back : things_back door.lines ≡ []
  pub ended : door.ended ≡ false
  pub faults : door.faults ≡ 0
