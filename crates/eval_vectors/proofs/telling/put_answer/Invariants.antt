use Rattle.eval_vectors.proofs.telling.put_answer.Given as goal

abbrev pub ghosts-put_told : goal.ghosts-put_told
ghosts-put_told g a = record { name = a.blank.name; parts = a.blank.parts }
