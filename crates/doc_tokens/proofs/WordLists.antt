-- The words of segments: their spelling, their boundaries and their positions.
use Rattle.std.proofs.Common.{◌≡◌, ℕ, ◌+◌, ◌<◌, ◌==◌, Bool, true, false, cond, List, [], ◌∷◌, map, refl, sym, ◌∙◌, ap, arith}
use Rattle.std.proofs.lemmas.Bool.{ne_eqb}
use Rattle.doc_types.specs.declared.tokens.Gap.{Gap}
use Rattle.doc_types.specs.declared.tokens.Gap.TheVariants as gaps
use Rattle.doc_types.specs.declared.tokens.TokenWord.{TokenWord}
use Rattle.doc_types.specs.Documents.{step, Follow, BeginPlain, ArePlaced}
use Rattle.doc_tokens.specs.Words.{Segment, run, other, word_of, words_in, end_of, stronger, with_end, ends_before, from_first, positions_after, positions_in}
use Rattle.doc_tokens.specs.steps.TokenReader.{gap_after, words_after, all_words}
use Rattle.doc_tokens.specs.Tokens.{AreWords}

-- words have the spelling of the runs
words_spelled : (position : ℕ) (gap : Gap) (segments : List Segment) → map (λ (w : TokenWord). w.word) (words_after position gap segments) ≡ words_in segments
words_spelled position gap [] = refl
words_spelled position gap (run letters ∷ segments) = ap (λ (ws : List (List ℕ)). word_of letters ∷ ws) (words_spelled (position + step (gap_after position gap)) gaps.None segments)
words_spelled position gap (other sign ∷ segments) = words_spelled position (stronger gap (end_of sign)) segments

-- boundaries in a row are one, whichever are taken together first
stronger-assoc : (a b c : Gap) → stronger (stronger a b) c ≡ stronger a (stronger b c)
stronger-assoc gaps.None b c = refl
stronger-assoc gaps.Paragraph b c = refl
stronger-assoc gaps.Sentence gaps.None c = refl
stronger-assoc gaps.Sentence gaps.Paragraph c = refl
stronger-assoc gaps.Sentence gaps.Sentence gaps.None = refl
stronger-assoc gaps.Sentence gaps.Sentence gaps.Sentence = refl
stronger-assoc gaps.Sentence gaps.Sentence gaps.Paragraph = refl

stronger-none : (gap : Gap) → stronger gap gaps.None ≡ gap
stronger-none gaps.None = refl
stronger-none gaps.Sentence = refl
stronger-none gaps.Paragraph = refl

with_end-none : (ends : List Gap) → with_end gaps.None ends ≡ ends
with_end-none [] = refl
with_end-none (gap ∷ ends) = refl

with_end-twice : (first second : Gap) (ends : List Gap) → with_end (stronger first second) ends ≡ with_end first (with_end second ends)
with_end-twice first second [] = refl
with_end-twice first second (gap ∷ ends) = ap (λ (g : Gap). g ∷ ends) (stronger-assoc first second gap)

from_first-end : (end : Gap) (ends : List Gap) → from_first ends ≡ from_first (with_end end ends)
from_first-end end [] = refl
from_first-end end (gap ∷ ends) = refl

-- boundaries after a word at a position, or after none
abbrev ahead : Bool → Gap → List Gap → List Gap
ahead first gap ends = cond first (from_first ends) (with_end gap ends)

ahead_nothing : (first : Bool) (gap : Gap) → [] ≡ ahead first gap []
ahead_nothing true gap = refl
ahead_nothing false gap = refl

ahead_run : (first : Bool) (gap : Gap) (ends : List Gap) → cond first gaps.None gap ∷ ends ≡ ahead first gap (gaps.None ∷ ends)
ahead_run true gap ends = refl
ahead_run false gap ends = ap (λ (g : Gap). g ∷ ends) (sym (stronger-none gap))

ahead_end : (first : Bool) (gap end : Gap) (ends : List Gap) → ahead first (stronger gap end) ends ≡ ahead first gap (with_end end ends)
ahead_end true gap end ends = from_first-end end ends
ahead_end false gap end ends = with_end-twice gap end ends

step_some : (gap : Gap) → 0 < step gap
step_some gaps.None = omega arith
step_some gaps.Sentence = omega arith
step_some gaps.Paragraph = omega arith

later : (position : ℕ) (gap : Gap) → ((position + step gap) == 0) ≡ false
later position gap =
    let some : 0 < position + step gap = omega (arith, step_some gap) in
    ne_eqb (position + step gap) 0 (λ none. omega arith)

words_gaps : (position : ℕ) (gap : Gap) (segments : List Segment) → map (λ (w : TokenWord). w.gap) (words_after position gap segments) ≡ ahead (position == 0) gap (ends_before segments)
words_gaps position gap [] = ahead_nothing (position == 0) gap
words_gaps position gap (run letters ∷ segments) =
    let g = gap_after position gap in
    ap (λ (gs : List Gap). g ∷ gs) (words_gaps (position + step g) gaps.None segments ∙ ap (λ (b : Bool). ahead b gaps.None (ends_before segments)) (later position g) ∙ with_end-none (ends_before segments))
    ∙ ahead_run (position == 0) gap (ends_before segments)
words_gaps position gap (other sign ∷ segments) = words_gaps position (stronger gap (end_of sign)) segments ∙ ahead_end (position == 0) gap (end_of sign) (ends_before segments)

words_positions : (position : ℕ) (gap : Gap) (segments : List Segment) → map (λ (w : TokenWord). w.position) (words_after position gap segments) ≡ positions_after position (map (λ (w : TokenWord). w.gap) (words_after position gap segments))
words_positions position gap [] = refl
words_positions position gap (run letters ∷ segments) = ap (λ (ps : List ℕ). (position + step (gap_after position gap)) ∷ ps) (words_positions (position + step (gap_after position gap)) gaps.None segments)
words_positions position gap (other sign ∷ segments) = words_positions position (stronger gap (end_of sign)) segments

pub all_positions : (segments : List Segment) → map (λ (w : TokenWord). w.position) (all_words segments) ≡ positions_in segments
all_positions segments = words_positions 0 gaps.None segments ∙ ap (positions_after 0) (words_gaps 0 gaps.None segments)

-- the words that are read are those of the segments
pub all_are_words : (segments : List Segment) → AreWords segments (all_words segments)
all_are_words segments = record { spelled = words_spelled 0 gaps.None segments; gaps = words_gaps 0 gaps.None segments; positions = all_positions segments }

-- and they are placed
words_follow : (position : ℕ) (gap : Gap) (segments : List Segment) → Follow position (words_after position gap segments)
words_follow position gap [] = tt
words_follow position gap (run letters ∷ segments) = (refl, words_follow (position + step (gap_after position gap)) gaps.None segments)
words_follow position gap (other sign ∷ segments) = words_follow position (stronger gap (end_of sign)) segments

begin_plain : (gap : Gap) (segments : List Segment) → BeginPlain (words_after 0 gap segments)
begin_plain gap [] = tt
begin_plain gap (run letters ∷ segments) = refl
begin_plain gap (other sign ∷ segments) = begin_plain (stronger gap (end_of sign)) segments

pub all_placed : (segments : List Segment) → ArePlaced (all_words segments)
all_placed segments = record { begin = begin_plain gaps.None segments; follow = words_follow 0 gaps.None segments }
