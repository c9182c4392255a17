use Rattle.posting_codec.proofs.HitSteps.{one_hit_list}
use Rattle.posting_codec.proofs.laws.no_hit_list_begins_another.Goals as goal

pub returns : goal.returns
returns c = one_hit_list
