use Rattle.std.proofs.Common.{◌≡◌, map, take}
use Rattle.index_conf.specs.declared.conf.IndexConf.{IndexConf}
use Rattle.searchd_top.proofs.serving.names_of.Given as goal

abbrev pub invariant-loop-index : goal.invariant-loop-index
invariant-loop-index l = l.names.items ≡ map (λ (index : IndexConf). index.schema.name) (take l.index-index l.indexes)
