-- Signs: what the characters of a text, and the tags in it, are to its words. Places are numbers of bytes.
use Rattle.std.specs.Prelude.{ℕ, ◌+◌, List, [], ◌∷◌, ◌++◌, Bool, true, false, ◌&&◌, nat_lt, nat_le, Option, Some, None, if◌then◌else◌, filter}
use Rattle.std.specs.Char.{len_utf8}
use Rattle.std.specs.List.{flat_map, list_any}
use Rattle.mark_scan.specs.declared.mark.Mark.{Mark}
use Rattle.mark_scan.specs.declared.mark.MarkKind.{MarkKind}
use Rattle.mark_scan.specs.declared.mark.MarkKind.TheVariants as kinds
use Rattle.doc_tokens.specs.declared.sign.TextSign.{TextSign}
use Rattle.doc_tokens.specs.declared.sign.TextSign.TheVariants as signs

abbrev pub is_text : MarkKind → Bool
is_text kinds.Text = true
is_text kinds.Inline = false
is_text kinds.Sentence = false
is_text kinds.Paragraph = false
is_text (kinds.Open zone) = false
is_text (kinds.Close zone) = false

abbrev pub is_removed_tag : MarkKind → Bool
is_removed_tag kinds.Text = false
is_removed_tag kinds.Inline = true
is_removed_tag kinds.Sentence = false
is_removed_tag kinds.Paragraph = false
is_removed_tag (kinds.Open zone) = false
is_removed_tag (kinds.Close zone) = false

abbrev pub is_sentence_end : MarkKind → Bool
is_sentence_end kinds.Text = false
is_sentence_end kinds.Inline = false
is_sentence_end kinds.Sentence = true
is_sentence_end kinds.Paragraph = false
is_sentence_end (kinds.Open zone) = false
is_sentence_end (kinds.Close zone) = false

-- a mark of this kind shares a byte with the character that stands from a place up to another
abbrev pub covers : (MarkKind → Bool) → ℕ → ℕ → Mark → Bool
covers is_kind from to mark = is_kind mark.kind && (nat_lt mark.from to && nat_lt from mark.to)

-- some mark of this kind does
abbrev pub is_covered : (MarkKind → Bool) → List Mark → ℕ → ℕ → Bool
is_covered is_kind marks from to = list_any (covers is_kind from to) marks

-- what a character of a text run is, by its folded form and by whether a sentence ends there
abbrev pub run_sign : Option ℕ → Bool → TextSign
run_sign (Some folded) ends = signs.Letter folded
run_sign None true = signs.Sentence
run_sign None false = signs.Separator

-- What a character is: in a text run by the table, in a tag that is removed nothing, anywhere else a separator.
abbrev pub char_signs : (ℕ → Option ℕ) → List Mark → ℕ → ℕ → ℕ → List TextSign
char_signs fold marks from to c =
    if is_covered is_text marks from to then run_sign (fold c) (is_covered is_sentence_end marks from to) ∷ []
    else (if is_covered is_removed_tag marks from to then [] else signs.Separator ∷ [])

-- what a tag is, besides its characters
abbrev pub tag_signs : MarkKind → List TextSign
tag_signs kinds.Text = []
tag_signs kinds.Inline = []
tag_signs kinds.Sentence = []
tag_signs kinds.Paragraph = signs.Paragraph ∷ []
tag_signs (kinds.Open zone) = signs.Open zone ∷ []
tag_signs (kinds.Close zone) = signs.Close zone ∷ []

-- the mark begins in the character
abbrev pub begins_in : ℕ → ℕ → Mark → Bool
begins_in from to mark = nat_le from mark.from && nat_lt mark.from to

-- the tags that begin in a character
abbrev pub tags_in : List Mark → ℕ → ℕ → List TextSign
tags_in marks from to = flat_map (λ mark. tag_signs mark.kind) (filter (begins_in from to) marks)

-- The signs of characters, the first of which stands at the place, by the marks of the text: a tag stands before its first
-- character.
abbrev pub signs_from : (ℕ → Option ℕ) → List Mark → ℕ → List ℕ → List TextSign
signs_from fold marks place [] = []
signs_from fold marks place (c ∷ cs) =
    tags_in marks place (place + len_utf8 c) ++ (char_signs fold marks place (place + len_utf8 c) c ++ signs_from fold marks (place + len_utf8 c) cs)
