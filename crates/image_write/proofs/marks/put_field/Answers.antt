use Rattle.std.proofs.Common.{length, ap, arith}
use Rattle.doc_bytes.proofs.Fitting.{few_words}
use Rattle.image_write.proofs.marks.put_field.Goals as goal

pub count_gaps-requires : goal.count_gaps-requires
count_gaps-requires c = omega (arith, ap length c.as_slice-words.ensures, few_words c.args.field.now c.requires)
