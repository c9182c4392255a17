use Rattle.served_stores.proofs.Naming.{named_of}
use Rattle.served_stores.proofs.serving.serve_stores.Goals as goal

pub serve_named-requires-clause-named : goal.serve_named-requires-clause-named
serve_named-requires-clause-named g c κs within = named_of g.D.Disk c.args.confs.items c.args.stores.items c.requires.stores
