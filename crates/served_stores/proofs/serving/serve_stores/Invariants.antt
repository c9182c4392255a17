use Rattle.served_stores.specs.steps.Picks.{base_at, book_at, faults_at, opening_at, schema_at, stops_at}
use Rattle.served_stores.proofs.serving.serve_stores.Given as goal

-- the names of the stores that were opened, by their places
abbrev pub ghosts-serve_named : goal.ghosts-serve_named
ghosts-serve_named g a = record {
  book = book_at a.stores.items;
  faults = faults_at a.stores.items;
  stops = stops_at a.stores.items;
  schema = schema_at a.confs.items;
  base = base_at a.stores.items;
  opened = opening_at g.D.Disk a.stores.items;
}
