use Rattle.std.proofs.Common.{◌≡◌, ◌≤◌, ℕ, List, length, take}
use Rattle.std.specs.Prelude.{Some, encode_utf8_all, string_bytes}
use Rattle.std.specs.Str.{chars}
use Rattle.charset_map.specs.Spans.{folded}
use Rattle.doc_types.specs.declared.tokens.TheConstants.{MAX_WORD_CHARS}
use Rattle.index_tool.specs.Folding.{fold_all}
use Rattle.index_tool.proofs.folding.fold_word.Given as goal

abbrev pub invariant-characters : goal.invariant-characters
invariant-characters l = record {
  count : l.letters ≡ length l.yielded;
  few : l.letters ≤ MAX_WORD_CHARS;
  folds : (letters : List ℕ) × (fold_all (folded l.charset) (take l.letters (chars l.text)) ≡ Some letters) × (string_bytes l.word ≡ encode_utf8_all letters);
}
