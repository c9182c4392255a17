use Rattle.prefix_finds.proofs.Trees.{find_the_same}
use Rattle.prefix_finds.proofs.laws.a_query_without_prefixes_finds_the_same.Goals as goal

pub returns : goal.returns
returns c = find_the_same
