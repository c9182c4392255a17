use Rattle.query_read.proofs.QueryKeys.{few_when_read, numbered_when_read}
use Rattle.query_read.proofs.keys_law.a_query_has_at_most_255_keywords.Goals as goal

pub returns : goal.returns
returns c = record {
  few = λ setting text query utf8 reads. (few_when_read setting text query utf8 reads).0;
  count = λ setting text query utf8 reads. (few_when_read setting text query utf8 reads).1;
  numbers = numbered_when_read;
}
