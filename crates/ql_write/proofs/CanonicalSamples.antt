-- Statements and their canonical texts.
use Rattle.std.proofs.Common.{◌≡◌, [], ◌∷◌, Some, None, refl}
use Rattle.std.specs.Prelude.{codes, pos, negsuc, true, false}
use Rattle.ql_tree.specs.declared.statement.Ids.TheVariants as ids
use Rattle.ql_tree.specs.declared.statement.Plain.TheVariants as plains
use Rattle.ql_tree.specs.declared.statement.Scope.TheVariants as scopes
use Rattle.ql_tree.specs.declared.statement.SetValue.TheVariants as settings
use Rattle.ql_tree.specs.declared.statement.Statement.TheVariants as statements
use Rattle.ql_tree.specs.declared.statement.Target.TheVariants as targets
use Rattle.ql_tree.specs.declared.statement.Val.TheVariants as vals
use Rattle.ql_tree.specs.declared.select.Comparison.TheVariants as comparisons
use Rattle.ql_tree.specs.declared.select.Cond.TheVariants as conds
use Rattle.ql_tree.specs.declared.select.OptionValue.TheVariants as values
use Rattle.ql_tree.specs.declared.select.SelectExpr.TheVariants as exprs
use Rattle.ql_tree.specs.declared.select.SelectItem.TheVariants as items
use Rattle.ql_tree.specs.declared.select.SortName.TheVariants as sorts
use Rattle.std.specs.Fmt.{digits}
use Rattle.ql_write.specs.Canonical.{canonical_text}

one_id : canonical_text (statements.Delete (codes "rt") (ids.One 5)) ≡ codes "DELETE FROM `rt` WHERE ID = 5"
unfolding canonical_text digits
one_id = refl

several_ids : canonical_text (statements.Delete (codes "rt") (ids.Several (1 ∷ 18446744073709551615 ∷ []))) ≡ codes "DELETE FROM `rt` WHERE ID IN ( 1 , 18446744073709551615 )"
unfolding canonical_text digits
several_ids = refl

a_replace : canonical_text (statements.Insert true (codes "rt") (Some (codes "id" ∷ codes "title" ∷ [])) ((vals.Number (pos 1) ∷ vals.Text (codes "it's \\") ∷ []) ∷ (vals.Number (negsuc 4) ∷ []) ∷ [])) ≡ codes "REPLACE INTO `rt` ( `id` , `title` ) VALUES ( 1 , 'it\\'s \\\\' ) , ( - 5 )"
unfolding canonical_text digits
a_replace = refl

an_insert : canonical_text (statements.Insert false (codes "rt") None ((vals.Text [] ∷ []) ∷ [])) ≡ codes "INSERT INTO `rt` VALUES ( '' )"
unfolding canonical_text digits
an_insert = refl

a_database : canonical_text statements.SelectDatabase ≡ codes "SELECT DATABASE ( )"
unfolding canonical_text digits
a_database = refl

a_variable : canonical_text (statements.SelectVar (codes "version.x") (Some 0)) ≡ codes "SELECT @@version.x LIMIT 0"
unfolding canonical_text digits
a_variable = refl

a_setting : canonical_text (statements.SetOther scopes.Global (targets.Name (codes "names")) (settings.Number (negsuc 0))) ≡ codes "SET GLOBAL `names` = - 1"
unfolding canonical_text digits
a_setting = refl

some_names : canonical_text (statements.SetNames (plains.Text (codes "utf8"))) ≡ codes "SET NAMES 'utf8'"
unfolding canonical_text digits
some_names = refl

a_commit : canonical_text statements.Commit ≡ codes "COMMIT"
unfolding canonical_text digits
a_commit = refl

a_status : canonical_text (statements.ShowIndexStatus (codes "status")) ≡ codes "SHOW INDEX `status` STATUS"
unfolding canonical_text digits
a_status = refl

a_short_select : canonical_text (statements.Select (record {
  items = items.All ∷ [];
  index = codes "rt";
  conds = [];
  group = None;
  within = [];
  having = None;
  order = [];
  limit = None;
  options = [];
  facets = [];
})) ≡ codes "SELECT * FROM `rt`"
unfolding canonical_text digits
a_short_select = refl

a_select : canonical_text (statements.Select (record {
  items = items.One exprs.CountAll (Some (codes "n")) ∷ items.One (exprs.Least (codes "gid")) None ∷ [];
  index = codes "rt";
  conds = conds.Match (codes "a") ∷ conds.Among (codes "gid") (pos 1 ∷ negsuc 1 ∷ []) true ∷ conds.Compare (codes "gid") comparisons.NotEqual (pos 3) ∷ conds.Between (codes "gid") (negsuc 0) (pos 9) ∷ [];
  group = Some (codes "gid");
  within = record { by = sorts.Weight; descending = Some true } ∷ [];
  having = Some (record { left = sorts.CountAll; op = comparisons.AtLeast; value = pos 2 });
  order = record { by = sorts.Column (codes "n"); descending = None } ∷ record { by = sorts.CountAll; descending = Some false } ∷ [];
  limit = Some (record { first = 1; second = Some 20 });
  options = record { name = codes "ranker"; value = values.Name (codes "none") } ∷ record { name = codes "field_weights"; value = values.List (record { 0 = codes "title"; 1 = 5 } ∷ record { 0 = codes "body"; 1 = 2 } ∷ []) } ∷ [];
  facets = record { column = codes "gid"; order = Some (record { by = sorts.CountAll; descending = Some true }); limit = Some (record { first = 5; second = None }) } ∷ record { column = codes "tag"; order = None; limit = None } ∷ [];
})) ≡ codes "SELECT COUNT ( * ) AS `n` , MIN ( `gid` ) FROM `rt` WHERE MATCH ( 'a' ) AND `gid` NOT IN ( 1 , - 2 ) AND `gid` != 3 AND `gid` BETWEEN - 1 AND 9 GROUP BY `gid` WITHIN GROUP ORDER BY WEIGHT ( ) DESC HAVING COUNT ( * ) >= 2 ORDER BY `n` , COUNT ( * ) ASC LIMIT 1 , 20 OPTION `ranker` = `none` , `field_weights` = ( `title` = 5 , `body` = 2 ) FACET `gid` ORDER BY COUNT ( * ) DESC LIMIT 5 FACET `tag`"
unfolding canonical_text digits
a_select = refl
