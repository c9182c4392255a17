-- What stood before stays in front of a part that isn't whole.
use Rattle.std.proofs.Common.{rules, take, vec_len}
use Rattle.std.specs.List.{flat_map}
use Rattle.doc_bytes.specs.Payload.{word_bytes}
use Rattle.doc_bytes.proofs.Joining.{front_stays}
use Rattle.doc_bytes.proofs.writing.put_words.Goals as goal

pub returns-in_err-put_word-clause-front : goal.returns-in_err-put_word-clause-front
returns-in_err-put_word-clause-front c =
    front_stays c.args.out.now.items (flat_map word_bytes (take c.loop-word.word-index c.args.words.now)) c.loop-word.out.items c.put_word.new.out.items (vec_len c.args.out.now) (vec_len c.loop-word.out) (search rules) c.loop-word.invariant c.put_word.ensures.front
