use Rattle.doc_search.proofs.lacking.first_lacking.Given as goal

abbrev pub ghosts-search_layers : goal.ghosts-search_layers
ghosts-search_layers g a = record { name = a.blank.name; parts = a.blank.parts }
