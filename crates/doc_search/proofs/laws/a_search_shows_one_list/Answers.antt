use Rattle.doc_search.proofs.OneFound.{one_shown}
use Rattle.doc_search.proofs.laws.a_search_shows_one_list.Goals as goal

pub returns : goal.returns
returns c = λ question docs others shown other apart others_apart same one two.
    one_shown question docs others shown other c.a_page_is_one_list.ensures apart others_apart same one two
