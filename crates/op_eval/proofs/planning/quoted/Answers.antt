use Rattle.std.proofs.Common.{◌∙◌, ap, length, inl, inr}
use Rattle.std.proofs.lemmas.Result.{IfOk-weaker}
use Rattle.query_tree.specs.declared.key.How.{How}
use Rattle.op_eval.specs.Finding.{is_enough}
use Rattle.op_eval.specs.declared.parts.Rated.{Rated}
use Rattle.op_eval.proofs.Serving.{serves_close, serves_loose, few_of}
use Rattle.op_eval.proofs.planning.quoted.Goals as goal

pub returns-in-Phrase-clause-plan : goal.returns-in-Phrase-clause-plan
returns-in-Phrase-clause-plan c = λ fits. IfOk-weaker _ _ _ (λ (rated : Rated) made. serves_close rated.plan c.args.next.now c.args.keys.now c.args.how c.in-Phrase.is made) (c.all_words.ensures.plan fits)

pub returns-in-AtLeast-clause-plan : goal.returns-in-AtLeast-clause-plan
returns-in-AtLeast-clause-plan c = λ fits. IfOk-weaker _ _ _ (λ (rated : Rated) made. serves_loose rated.plan c.args.next.now c.args.keys.now c.args.how c.least_count.result (inl (c.in-AtLeast.k, c.in-AtLeast.is))
    (λ m l. ap (λ (how : How). is_enough how (length c.args.keys.now) m) c.in-AtLeast.is ∙ few_of c.in-AtLeast.k (length c.args.keys.now) c.least_count.result m c.least_count.ensures l) made) (c.some_words.ensures.plan fits)

pub returns-in-Share-clause-plan : goal.returns-in-Share-clause-plan
returns-in-Share-clause-plan c = λ fits. IfOk-weaker _ _ _ (λ (rated : Rated) made. serves_loose rated.plan c.args.next.now c.args.keys.now c.args.how c.least_share.result (inr (c.in-Share.digits, c.in-Share.places, c.in-Share.is))
    (λ m l. ap (λ (how : How). is_enough how (length c.args.keys.now) m) c.in-Share.is ∙ c.least_share.ensures m l) made) (c.some_words-in-Share.ensures.plan fits)
