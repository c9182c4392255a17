-- The groups of what is kept of each.
use Rattle.std.proofs.Common.{◌≡◌, ◌∙◌, ℤ, List, [], ◌∷◌, ◌++◌, All, ap, append_assoc, append-nil, refl, subst, sym}
use Rattle.std.specs.List.{AllZip}
use Rattle.std.specs.Map.{keys_of}
use Rattle.std.proofs.lemmas.List.Elements.{All-head, All-tail}
use Rattle.indexmap.proofs.SetLemmas.{AllZip-push}
use Rattle.row_select.specs.declared.row.Row.{Row}
use Rattle.group_facet.specs.Gathering.{IsPart}
use Rattle.group_facet.specs.Groups.{IsGroup, part}
use Rattle.group_facet.specs.declared.grouping.Group.{Group}
use Rattle.group_facet.specs.declared.grouping.GroupRow.{GroupRow}
use Rattle.group_facet.specs.declared.part.Part.{Part}
use Rattle.group_facet.specs.steps.Showing.{Shows}

-- so far: some groups were shown, and the others are ahead
pub record IsShowing (all ahead : List (ℤ × Part)) (groups : List GroupRow) : Type 0 where
  pub seen : List (ℤ × Part)
  pub whole : seen ++ ahead ≡ all
  pub show : AllZip Shows seen groups

pub showing_first : (all : List (ℤ × Part)) (groups : List GroupRow) → groups ≡ [] → IsShowing all all groups
showing_first all groups none = record { seen = []; whole = refl; show = subst (AllZip Shows []) (sym none) tt }

pub showing_more : (all ahead rest : List (ℤ × Part)) (entry : ℤ × Part) (groups after : List GroupRow) (shown : GroupRow) → ahead ≡ entry ∷ rest → after ≡ groups ++ shown ∷ [] → Shows entry shown → IsShowing all ahead groups → IsShowing all rest after
showing_more all ahead rest entry groups after shown next more shows so = record {
  seen = so.seen ++ entry ∷ [];
  whole = append_assoc so.seen (entry ∷ []) rest ∙ ap (λ l. so.seen ++ l) (sym next) ∙ so.whole;
  show = subst (AllZip Shows (so.seen ++ entry ∷ [])) (sym more) (AllZip-push Shows so.seen groups entry shown so.show shows);
}

pub showing_last : (all ahead : List (ℤ × Part)) (groups : List GroupRow) → ahead ≡ [] → IsShowing all ahead groups → AllZip Shows all groups
showing_last all ahead groups none so =
    subst (λ l. AllZip Shows l groups) (sym (append-nil so.seen) ∙ ap (λ l. so.seen ++ l) (sym none) ∙ so.whole) so.show

pub shown_all : (group : Group) (offered : List Row) (es : List (ℤ × Part)) (groups : List GroupRow) → AllZip Shows es groups → All (λ entry. IsPart group (part group.by entry.0 offered) entry.1) es
    → AllZip (λ key shown. IsGroup group key (part group.by key offered) shown) (keys_of es) groups
shown_all group offered [] [] show parts = tt
shown_all group offered [] (shown ∷ groups) show parts = absurd show
shown_all group offered (e ∷ es) [] show parts = absurd show
shown_all group offered (e ∷ es) (shown ∷ groups) show parts = (
  show.0 group (part group.by e.0 offered) (All-head (λ (entry : ℤ × Part). IsPart group (part group.by entry.0 offered) entry.1) e es parts),
  shown_all group offered es groups show.1 (All-tail (λ (entry : ℤ × Part). IsPart group (part group.by entry.0 offered) entry.1) e es parts),
)
