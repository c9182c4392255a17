-- The kinds of the marks of a tag.
use Rattle.std.proofs.Common.{◌≡◌, ℕ, true, false, Bool, cond, List, [], ◌∷◌, ◌++◌, map, sym, ◌∙◌, ap, append_assoc}
use Rattle.std.specs.Prelude.{option_to_list}
use Rattle.std.proofs.lemmas.List.{map-append}
use Rattle.mark_scan.specs.declared.mark.Mark.{Mark}
use Rattle.mark_scan.specs.declared.mark.MarkKind.{MarkKind}
use Rattle.mark_scan.specs.declared.mark.MarkKind.TheVariants.{Inline}
use Rattle.mark_scan.specs.Markup.{TagText}
use Rattle.mark_scan.specs.Tags.{is_removed, paragraph_kind, zone_kind, tag_kinds}

-- a tag that is removed has one mark
pub kinds_removed : (sp : Bool) (zones : List (List ℕ)) (t : TagText) → is_removed zones t.name ≡ true → tag_kinds sp zones t ≡ Inline ∷ []
unfolding tag_kinds
kinds_removed sp zones t removed = ap (λ (b : Bool). cond b (Inline ∷ []) (option_to_list (paragraph_kind sp t.name) ++ option_to_list (zone_kind zones t))) removed

-- any other has the end of a paragraph, then what it does to its zone
pub kinds_kept : (sp : Bool) (zones : List (List ℕ)) (t : TagText) → is_removed zones t.name ≡ false → tag_kinds sp zones t ≡ option_to_list (paragraph_kind sp t.name) ++ option_to_list (zone_kind zones t)
unfolding tag_kinds
kinds_kept sp zones t kept = ap (λ (b : Bool). cond b (Inline ∷ []) (option_to_list (paragraph_kind sp t.name) ++ option_to_list (zone_kind zones t))) kept

-- two appends of marks are one of both
pub marks_twice : (f : MarkKind → Mark) (kinds first second : List MarkKind) (old mid new : List Mark) → kinds ≡ first ++ second → mid ≡ old ++ map f first → new ≡ mid ++ map f second → new ≡ old ++ map f kinds
marks_twice f kinds first second old mid new are mid_is new_is =
    new_is ∙ ap (λ (ms : List Mark). ms ++ map f second) mid_is ∙ append_assoc old (map f first) (map f second) ∙ ap (λ (ms : List Mark). old ++ ms) (sym (map-append f first second)) ∙ ap (λ (ks : List MarkKind). old ++ map f ks) (sym are)
