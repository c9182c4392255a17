-- Names: what a store is that got the name of its index.
use Rattle.std.specs.Prelude.{◌≡◌, ℕ, zero, suc, List, [], ◌∷◌, ◌++◌, None, length}
use Rattle.std.specs.Arc.{arc_value}
use Rattle.step_history.specs.Places.{disk_chunks}
use Rattle.step_line.specs.Lines.{new_line, new_token}
use Rattle.step_line.specs.Tallies.{new_tally}
use Rattle.step_tokens.specs.Tokens.{TokenValue}
use Rattle.store_keep.specs.declared.keeper.Keeper.{Keeper}
use Rattle.store_keep.specs.declared.opening.Opened.{Opened}

-- The keeper has the disk of the store, a line of the index without steps, lines of faults and of stops without calls, and what was
-- there at opening.
pub record IsNamed {D J : Type 0} (opened : Opened D) (index workers : ℕ) (keeper : Keeper D J) : Type 0 where
  pub line : keeper.kept.line ≡ new_line index workers
  pub disk : keeper.kept.disk ≡ opened.disk
  pub records : keeper.records ≡ opened.records
  pub documents : keeper.documents ≡ opened.documents
  pub chunks : keeper.chunks ≡ length (disk_chunks (arc_value opened.snapshot))
  pub none : keeper.strayed ≡ None
  pub no_fault : keeper.faults ≡ new_tally index workers
  pub no_stop : keeper.stops ≡ new_tally index workers

-- a token that has seen no step for each of so many workers, from worker 1 on
abbrev pub first_tokens : ℕ → ℕ → List TokenValue
first_tokens index zero = []
first_tokens index (suc workers) = first_tokens index workers ++ new_token index (suc workers) [] ∷ []
