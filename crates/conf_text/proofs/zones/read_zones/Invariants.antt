use Rattle.std.proofs.Common.{length}
use Rattle.conf_text.specs.steps.Settings.{HasNames}
use Rattle.conf_text.proofs.ZoneLists.{ZonesRead}
use Rattle.conf_text.proofs.zones.read_zones.Given as goal

abbrev pub invariant-zones : goal.invariant-zones
invariant-zones l = ZonesRead l.value l.rest l.zones.items × HasNames l.seen l.zones.items

abbrev pub decreases-zones : goal.decreases-zones
decreases-zones l = length l.rest
