use Rattle.std.proofs.Common.{arith, rules, ◌≡◌, length}
use Rattle.doc_bytes.proofs.Fitting.{few_words}
use Rattle.doc_bytes.proofs.writing.put_field.Goals as goal

pub overflow_cast-len : goal.overflow_cast-len
overflow_cast-len c = let size : c.len.result ≡ length c.args.field.now.words = search rules in omega (arith, size, few_words c.args.field.now c.requires)

pub put_words-requires : goal.put_words-requires
put_words-requires c = let same : c.as_slice.result.now ≡ c.args.field.now.words = c.as_slice.ensures in rw same c.requires.words
