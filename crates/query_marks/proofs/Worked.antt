-- Worked examples: words, faults and signs of small texts, computed by the definitions. The check that they compute is their proof.
use Rattle.std.proofs.Common.{◌≡◌, ℕ, List, [], ◌∷◌, false, refl, ◌&&◌}
use Rattle.std.specs.Prelude.{Option, Some, None, codes, if◌then◌else◌, nat_le, map}
use Rattle.std.specs.List.{filter_map}
use Rattle.std.specs.Str.{chars}
use Rattle.query_pieces.specs.declared.piece.Form.TheVariants as forms
use Rattle.query_pieces.specs.declared.piece.Names.TheVariants as names
use Rattle.query_pieces.specs.Operators.{piece, slice, operator_at}
use Rattle.query_pieces.specs.QueryBytes.{byte, byte_before, run_end}
use Rattle.query_marks.specs.declared.fault.QueryKind.TheVariants as kinds
use Rattle.query_marks.specs.QueryWords.{letters_in, runs_in}
use Rattle.query_marks.specs.declared.fault.Wrong.{Wrong}
use Rattle.query_marks.specs.declared.mark.Mark.{Mark}
use Rattle.query_marks.specs.declared.mark.Sign.{Sign}
use Rattle.query_marks.specs.declared.mark.Sign.TheVariants as signs
use Rattle.query_marks.specs.Marks.{Setting, marks_of}

fold : ℕ → Option ℕ
fold c = if nat_le 97 c && nat_le c 122 then Some c else None

setting : Setting
setting = record { fold = fold; fields = codes "title" ∷ codes "content" ∷ []; zones = codes "th" ∷ []; shortest = 2 }

words : map (filter_map (λ letter. letter)) (runs_in (letters_in fold (codes "a\\-b ^c\\de"))) ≡ codes "a" ∷ codes "b" ∷ codes "cde" ∷ []
unfolding fold
words = refl

wrongs : List Mark → List (Option Wrong)
wrongs marks = map (λ m. m.wrong) marks

unknown : wrongs (marks_of setting (codes "@nofield x") (piece (forms.Fields (record { negated = false; names = names.Listed (slice 1 8); positions = None })) 8 ∷ piece forms.Separator 9 ∷ [])) ≡ Some (record { kind = kinds.UnknownField; name = codes "nofield" }) ∷ None ∷ []
unfolding fold setting wrongs chars
unknown = refl

op : operator_at (codes "@title[5] a") false 0 ≡ Some (piece (forms.Fields (record { negated = false; names = names.Listed (slice 1 6); positions = Some (slice 7 8) })) 9)
unfolding operator_at byte byte_before run_end
op = refl

-- the fields of the keyword in the group, and after it: a limit doesn't leave its group
fields_of : Sign → List ℕ
fields_of (signs.Bare key) = key.limit.fields ∷ key.query ∷ []
fields_of _ = []

fields : List Mark → List (List ℕ)
fields marks = map (λ m. fields_of m.sign) marks

inherited : fields (marks_of setting (codes "(@title a) b") (piece forms.Open 1 ∷ piece (forms.Fields (record { negated = false; names = names.Listed (slice 2 7); positions = None })) 7 ∷ piece forms.Separator 8 ∷ piece (forms.Word (record { letters = slice 8 9; start = false; end = false; prefix = false })) 9 ∷ piece forms.Close 10 ∷ piece forms.Separator 11 ∷ piece (forms.Word (record { letters = slice 11 12; start = false; end = false; prefix = false })) 12 ∷ [])) ≡ [] ∷ [] ∷ (1 ∷ 1 ∷ []) ∷ [] ∷ (3 ∷ 2 ∷ []) ∷ [] ∷ []
unfolding fold setting fields_of fields chars
inherited = refl
