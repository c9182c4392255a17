use Rattle.query_pieces.proofs.OneReading.{pieces_same}
use Rattle.query_pieces.proofs.laws.one_list_of_pieces.Goals as goal

pub returns : goal.returns
returns c = pieces_same
