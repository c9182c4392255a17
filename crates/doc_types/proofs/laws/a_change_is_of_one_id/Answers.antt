use Rattle.doc_types.proofs.Changes.{put_own, put_other, kill_own, kill_other}
use Rattle.doc_types.proofs.laws.a_change_is_of_one_id.Goals as goal

pub returns : goal.returns
returns c = record { put = put_own; killed = kill_own; put_others = put_other; killed_others = kill_other }
