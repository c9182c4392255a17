-- The keywords of a query, in the order of its tree.
use Rattle.std.specs.Prelude.{List, [], ◌++◌, ◌∷◌, Some, None}
use Rattle.std.specs.List.{flat_map}
use Rattle.query_tree.specs.declared.key.Key.{Key}
use Rattle.query_tree.specs.declared.query.Node.{Node}
use Rattle.query_tree.specs.declared.query.Node.TheOpen.{Node-F, Item-F}
use Rattle.query_tree.specs.declared.query.Node.TheFolds.{fold-Node}
use Rattle.query_tree.specs.declared.query.Query.{Query}

-- the keywords of a tree
abbrev pub keys_step : Node-F (List Key) (List Key) → List Key
keys_step (Node-F.Word key) = key ∷ []
keys_step (Node-F.Quoted keys how) = keys
keys_step (Node-F.And items) = flat_map (λ item. item) items
keys_step (Node-F.Or a b) = a ++ b
keys_step (Node-F.Maybe a b) = a ++ b
keys_step (Node-F.Before a b) = a ++ b
keys_step (Node-F.Near n a b) = a ++ b
keys_step (Node-F.Sentence a b) = a ++ b
keys_step (Node-F.Paragraph a b) = a ++ b
keys_step (Node-F.ZoneSpan zones a) = a

abbrev pub item_step : Item-F (List Key) (List Key) → List Key
item_step item = item.node

unfoldable pub node_keys : Node → List Key
node_keys = fold-Node (List Key) (List Key) keys_step item_step

abbrev pub query_keys : Query → List Key
query_keys query = elim query.root [ None ↦ [] | Some node ↦ node_keys node ]
