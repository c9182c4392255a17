use Rattle.index_tool.proofs.hits.print_hits.Given as goal

abbrev pub ghosts-buffer_from : goal.ghosts-buffer_from
ghosts-buffer_from g a = record { name = a.blank.name; parts = a.blank.parts }
