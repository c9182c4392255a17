-- SENTENCE and PARAGRAPH in an index whose sentences aren't read: there they are AND.
use Rattle.std.specs.Prelude.{[], ◌∷◌, false, option_map, if◌then◌else◌}
use Rattle.doc_types.specs.declared.schema.Schema.{Schema}
use Rattle.query_tree.specs.declared.query.Item.{Item}
use Rattle.query_tree.specs.declared.query.Node.{Node}
use Rattle.query_tree.specs.declared.query.Node.TheVariants as nodes
use Rattle.query_tree.specs.declared.query.Node.TheOpen.{Node-F, Item-F}
use Rattle.query_tree.specs.declared.query.Node.TheFolds.{fold-Node}
use Rattle.query_tree.specs.declared.query.Query.{Query}

-- both of two nodes
abbrev pub both : Node → Node → Node
both a b = nodes.And (record { negated = false; node = a } ∷ record { negated = false; node = b } ∷ [])

abbrev pub and_step : Node-F Node Item → Node
and_step (Node-F.Word key) = nodes.Word key
and_step (Node-F.Quoted keys how) = nodes.Quoted keys how
and_step (Node-F.And items) = nodes.And items
and_step (Node-F.Or a b) = nodes.Or a b
and_step (Node-F.Maybe a b) = nodes.Maybe a b
and_step (Node-F.Before a b) = nodes.Before a b
and_step (Node-F.Near n a b) = nodes.Near n a b
and_step (Node-F.Sentence a b) = both a b
and_step (Node-F.Paragraph a b) = both a b
and_step (Node-F.ZoneSpan zones a) = nodes.ZoneSpan zones a

abbrev pub and_item : Item-F Node Item → Item
and_item item = record { negated = item.negated; node = item.node }

-- the node with AND in the place of SENTENCE and PARAGRAPH
unfoldable pub joined_by_and : Node → Node
joined_by_and = fold-Node Node Item and_step and_item

-- the item with the same in its node
abbrev pub item_joined_by_and : Item → Item
item_joined_by_and item = record { negated = item.negated; node = joined_by_and item.node }

-- the query as an index of this schema means it
abbrev pub query_for : Schema → Query → Query
query_for schema query = if schema.sp then query else record query { root = option_map joined_by_and query.root }
