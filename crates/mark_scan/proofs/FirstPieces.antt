-- The first piece of the rest of a text: the parts of the rest are this piece and the parts after it.
use Rattle.std.proofs.Common.{◌≡◌, ℕ, ◌<◌, true, false, Bool, List, [], ◌∷◌, length, drop, refl, sym, ap, subst, arith}
use Rattle.mark_scan.specs.declared.cutting.Rest.{Rest}
use Rattle.mark_scan.specs.declared.piece.Piece.{Piece}
use Rattle.mark_scan.specs.Markup.{TextPart, part_bytes, Splits, AreParts}
use Rattle.mark_scan.specs.Marks.{PartsBy}
use Rattle.mark_scan.specs.steps.Scanning.{Rules, IsCut, IsThen, IsFirst, PartsOf, part_of}
use Rattle.mark_scan.proofs.Cuts.{cut_shorter, cut_size}
use Rattle.mark_scan.proofs.Unique.{part_unique, no_part}

-- where a text ends it has no parts
none_here : (strip : Bool) → PartsBy strip [] []
none_here true = refl
none_here false = refl

pub no_parts : (rest : Rest) → rest.text.now ≡ [] → PartsOf rest []
no_parts rest ends = subst (λ (s : List ℕ). PartsBy rest.strip s []) (sym ends) (none_here rest.strip)

-- and no others
none_else : (strip : Bool) (parts : List TextPart) → PartsBy strip [] parts → parts ≡ []
none_else true [] are = refl
none_else true (part ∷ parts) are = absurd (no_part part are.0)
none_else false parts are = are

pub no_more_parts : (rest : Rest) (parts : List TextPart) → rest.text.now ≡ [] → PartsOf rest parts → parts ≡ []
no_more_parts rest parts ends are = none_else rest.strip parts (subst (λ (s : List ℕ). PartsBy rest.strip s parts) ends are)

-- the parts of a text that was cut
splits_cut : (text : List ℕ) (piece : Piece) (beyond : Rest) (parts : List TextPart) → beyond.strip ≡ true → 0 < length text → IsCut text piece beyond.text.now → AreParts text parts → IsThen (part_of piece) beyond parts
splits_cut text piece beyond [] strip some cut are = absurd (omega (arith, ap length are))
splits_cut text piece beyond (part ∷ parts) strip some cut are =
    let same = part_unique text part (part_of piece) are.0 cut.begins in
    let after : Splits (drop (length (part_bytes (part_of piece))) text) parts [] = subst (λ (p : TextPart). Splits (drop (length (part_bytes p)) text) parts []) same are.1 in
    record {
      others = parts;
      are = subst (λ (b : Bool). PartsBy b beyond.text.now parts) (sym strip) (subst (λ (s : List ℕ). AreParts s parts) (sym cut.rest) after);
      same = ap (λ (p : TextPart). p ∷ parts) same;
    }

joins_cut : (text : List ℕ) (piece : Piece) (beyond : List ℕ) (parts : List TextPart) → IsCut text piece beyond → AreParts beyond parts → AreParts text (part_of piece ∷ parts)
joins_cut text piece beyond parts cut are = (cut.begins, subst (λ (s : List ℕ). AreParts s parts) cut.rest are)

-- where markup is looked for, the first piece is what was cut off
pub first_cut : (rest : Rest) (piece : Piece) (beyond : Rest) → rest.strip ≡ true → beyond.strip ≡ true → 0 < length rest.text.now → IsCut rest.text.now piece beyond.text.now → Rules beyond.ends beyond.text.now → IsFirst rest piece beyond
first_cut rest piece beyond strip after some cut rules = record {
  joins = λ parts are. subst (λ (b : Bool). PartsBy b rest.text.now (part_of piece ∷ parts)) (sym strip) (joins_cut rest.text.now piece beyond.text.now parts cut (subst (λ (b : Bool). PartsBy b beyond.text.now parts) after are));
  splits = λ parts are. splits_cut rest.text.now piece beyond parts after some cut (subst (λ (b : Bool). PartsBy b rest.text.now parts) strip are);
  size = cut_size rest.text.now piece beyond.text.now cut;
  shorter = cut_shorter rest.text.now piece beyond.text.now some cut;
  utf8 = cut.piece_utf8;
  readable = record { utf8 = cut.rest_utf8; rules = rules };
}
