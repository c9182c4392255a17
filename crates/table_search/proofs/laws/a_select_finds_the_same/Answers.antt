use Rattle.table_search.proofs.OneTable.{one_tables, one_words}
use Rattle.table_search.proofs.laws.a_select_finds_the_same.Goals as goal

pub returns-clause-tables : goal.returns-clause-tables
returns-clause-tables c = λ asked docs others found other apart others_apart same one two.
    one_tables (λ rows rest order page shown more. c.a_page_is_one_list.ensures rows rest order page shown more) asked docs others found other apart others_apart same one two

pub returns-clause-words : goal.returns-clause-words
returns-clause-words c = λ query docs others apart others_apart same. one_words query docs others apart others_apart same
