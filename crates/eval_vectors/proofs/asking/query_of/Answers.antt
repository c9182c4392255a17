use Rattle.std.proofs.Common.{ap, length, arith, subst, sym}
use Rattle.charset_map.specs.Spans.{folded}
use Rattle.query_marks.specs.Marks.{setting_of}
use Rattle.query_read.proofs.QueryKeys.{few_when_read, numbered_when_read}
use Rattle.op_eval.specs.Numbered.{IsNumbered}
use Rattle.op_eval.proofs.NumberedHits.{numbers_kept}
use Rattle.query_tree.specs.declared.query.Query.{Query}
use Rattle.eval_vectors.proofs.asking.query_of.Goals as goal

pub returns-in-Ok-clause-numbered : goal.returns-in-Ok-clause-numbered
returns-in-Ok-clause-numbered c =
    let schema = c.args.index.now.schema in
    let setting = setting_of (folded c.args.index.now.charset) schema in
    let query : Query = c.in-Ok.query in
    let few = few_when_read setting c.args.text.now query c.utf8.text c.in-Ok.ensures in
    let numbered : IsNumbered query = record {
      few = few.0;
      count = few.1;
      numbers = numbered_when_read setting c.args.text.now query c.utf8.text c.in-Ok.ensures;
    } in
    subst IsNumbered (sym c.in_ok-for_schema-in-Ok.ensures.means) (numbers_kept schema query numbered)

pub returns-in-Ok-clause-few : goal.returns-in-Ok-clause-few
returns-in-Ok-clause-few c =
    let few = few_when_read (setting_of (folded c.args.index.now.charset) c.args.index.now.schema) c.args.text.now c.in-Ok.query c.utf8.text c.in-Ok.ensures in
    omega (arith, few.0, ap length c.in_ok-for_schema-in-Ok.ensures.keywords)
