use Rattle.doc_vectors.proofs.telling.put_answers.Given as goal

abbrev pub ghosts-put_words : goal.ghosts-put_words
ghosts-put_words g a = record { name = a.blank.name; parts = a.blank.parts }
