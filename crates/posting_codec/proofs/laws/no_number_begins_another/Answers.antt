use Rattle.posting_codec.proofs.Spellings.{one_number}
use Rattle.posting_codec.proofs.laws.no_number_begins_another.Goals as goal

pub returns : goal.returns
returns c = one_number
