-- Things that were given out, and those that came back.
use Rattle.std.specs.Prelude.{List, map}
use Rattle.client_doors.specs.declared.lent.Lent.{Lent}

-- the things that were given, as they were then
abbrev pub things_given : {T : Type 0} → Lent T → List T
things_given lent = map (λ noted. noted.0) lent.gave.items

-- the things that came back, as they were then
abbrev pub things_back : {T : Type 0} → Lent T → List T
things_back lent = map (λ noted. noted.0) lent.back.items
