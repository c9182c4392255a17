use Rattle.std.proofs.Common.{◌≡◌, ◌∙◌, ◌++◌, ◌∷◌, ◌-◌, ◌<◌, ◌≤◌, ◌≢◌, ℕ, List, get_or, length, length-drop, take, take_all, drop, arith, ap, sym, subst}
use Rattle.charset_map.specs.steps.Sides.{Lacks}
use Rattle.charset_map.proofs.Cutting.{place, place_within, lacks_before, mark_found, mark_short, mark_other}
use Rattle.charset_map.proofs.entries.halves.Goals as goal
use Rattle.charset_map.proofs.entries.halves.Goals.{then-rest-lt2-via-then-rest-lt2, then-rest-lt2-via-else-rest-lt2+then-rest-next}

pub split_at-requires : goal.split_at-requires
split_at-requires c = omega (arith, c.place_of.ensures, place_within c.args.mark c.args.text.now)

pub returns-then-rest-lt2 : goal.returns-then-rest-lt2
returns-then-rest-lt2 c =
    let rest : c.split_at.result.1.now ≡ drop (place c.args.mark c.args.text.now) c.args.text.now = c.split_at.ensures.back ∙ ap (λ (n : ℕ). drop n c.args.text.now) c.place_of.ensures in
    elim c.then-rest-lt2.branch [
      | then-rest-lt2-via-then-rest-lt2 w ↦ (λ left right lacks is. mark_short c.args.mark c.args.next c.args.text.now left right (subst (λ (r : List ℕ). length r < 2) rest w.if-rest-lt2.true) lacks is)
      | then-rest-lt2-via-else-rest-lt2+then-rest-next w ↦ (λ left right lacks is. mark_other c.args.mark c.args.next c.args.text.now left right (subst (λ (r : List ℕ). get_or r 1 0 ≢ c.args.next) rest w.if-rest-next.true) lacks is)
    ]

pub returns : goal.returns
returns c =
    let text = c.args.text.now in
    let rest : c.split_at.result.1.now ≡ drop (place c.args.mark text) text = c.split_at.ensures.back ∙ ap (λ (n : ℕ). drop n text) c.place_of.ensures in
    let front : c.split_at.result.0.now ≡ take (place c.args.mark text) text = c.split_at.ensures.front ∙ ap (λ (n : ℕ). take n text) c.place_of.ensures in
    let lacks : Lacks c.args.mark c.split_at.result.0.now = subst (Lacks c.args.mark) (sym front) (lacks_before c.args.mark text) in
    let whole : take (length c.split_at.result.1.now - 2) (drop 2 c.split_at.result.1.now) ≡ drop 2 c.split_at.result.1.now = take_all (length c.split_at.result.1.now - 2) (drop 2 c.split_at.result.1.now) (omega (arith, length-drop 2 c.split_at.result.1.now)) in
    let found : text ≡ take (place c.args.mark text) text ++ c.args.mark ∷ c.args.next ∷ drop 2 (drop (place c.args.mark text) text) =
    mark_found c.args.mark c.args.next text (subst (λ (r : List ℕ). 2 ≤ length r) rest c.if-rest-lt2.false) (subst (λ (r : List ℕ). get_or r 1 0 ≡ c.args.next) rest c.if-rest-next.false) in (
      lacks,
      found ∙ ap (λ (l : List ℕ). l ++ c.args.mark ∷ c.args.next ∷ drop 2 (drop (place c.args.mark text) text)) (sym front)
          ∙ ap (λ (r : List ℕ). c.split_at.result.0.now ++ c.args.mark ∷ c.args.next ∷ drop 2 r) (sym rest)
          ∙ ap (λ (r : List ℕ). c.split_at.result.0.now ++ c.args.mark ∷ c.args.next ∷ r) (sym whole),
    )
