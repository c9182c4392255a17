use Rattle.std.proofs.Common.{ap}
use Rattle.doc_tokens.specs.TextSigns.{is_text, is_removed_tag, is_sentence_end}
use Rattle.doc_tokens.proofs.Covers.{reaches_more, reaches_same}
use Rattle.doc_tokens.proofs.cover.Cover.then.Goals as goal

pub returns-in-Text : goal.returns-in-Text
returns-in-Text c = λ passed is. record {
  text = reaches_more is_text passed c.args.mark _ _ (ap is_text c.in-Text.is) c.max.ensures is.text;
  removed = reaches_same is_removed_tag passed c.args.mark _ (ap is_removed_tag c.in-Text.is) is.removed;
  sentence = reaches_same is_sentence_end passed c.args.mark _ (ap is_sentence_end c.in-Text.is) is.sentence;
}

pub returns-in-Inline : goal.returns-in-Inline
returns-in-Inline c = λ passed is. record {
  text = reaches_same is_text passed c.args.mark _ (ap is_text c.in-Inline.is) is.text;
  removed = reaches_more is_removed_tag passed c.args.mark _ _ (ap is_removed_tag c.in-Inline.is) c.max-in-Inline.ensures is.removed;
  sentence = reaches_same is_sentence_end passed c.args.mark _ (ap is_sentence_end c.in-Inline.is) is.sentence;
}

pub returns-in-Sentence : goal.returns-in-Sentence
returns-in-Sentence c = λ passed is. record {
  text = reaches_same is_text passed c.args.mark _ (ap is_text c.in-Sentence.is) is.text;
  removed = reaches_same is_removed_tag passed c.args.mark _ (ap is_removed_tag c.in-Sentence.is) is.removed;
  sentence = reaches_more is_sentence_end passed c.args.mark _ _ (ap is_sentence_end c.in-Sentence.is) c.max-in-Sentence.ensures is.sentence;
}
