-- The first mark with which something is wrong, by its index.
use Rattle.std.proofs.Common.{◌≡◌, ℕ, suc, ◌+◌, ◌<◌, ◌≤◌, List, [], ◌∷◌, ◌++◌, length, get_or, take, drop, Some, None, inl, inr, sym, ◌∙◌, ap, subst, drop-cons, arith}
use Rattle.std.specs.Prelude.{Contains}
use Rattle.std.proofs.lemmas.List.{take_more}
use Rattle.std.proofs.Math.Seq.{take-length}
use Rattle.std.proofs.Math.ListN.{take-append-drop}
use Rattle.std.proofs.lemmas.List.Elements.{Contains-push_cases}
use Rattle.query_marks.specs.declared.fault.QueryKind.{QueryKind}
use Rattle.query_marks.specs.declared.fault.Wrong.{Wrong}
use Rattle.query_marks.specs.declared.mark.Mark.{Mark}
use Rattle.query_grammar.specs.declared.fault.QueryFault.{QueryFault}
use Rattle.query_grammar.specs.QueryFaults.{Told}
use Rattle.query_read.specs.steps.Choice.{IsFirstWrong}

-- nothing is wrong with the marks
abbrev pub AreClean : List Mark → Type 0
AreClean marks = (m : Mark) → Contains marks m → m.wrong ≡ None

told : ℕ → QueryKind → List ℕ → Told
told place kind name = record { place = place; kind = kind; name = name }

pub wrong_here : (marks : List Mark) (i : ℕ) (m : Mark) (wrong found : Wrong) (fault : QueryFault) → i < length marks → m ≡ get_or marks i m → AreClean (take i marks) → m.wrong ≡ Some wrong → found ≡ wrong → fault.place ≡ m.at → fault.kind ≡ found.kind → fault.name ≡ found.name → IsFirstWrong marks (Some fault)
unfolding told
wrong_here marks i m wrong found fault within m_is clean is found_is place kind name =
    let rest : drop i marks ≡ m ∷ drop (suc i) marks = drop-cons marks i m within ∙ ap (λ (n : Mark). n ∷ drop (suc i) marks) (sym m_is) in
    let all : marks ≡ take i marks ++ m ∷ drop (suc i) marks = sym (take-append-drop i marks) ∙ ap (λ (l : List Mark). take i marks ++ l) rest in
    let kind' : fault.kind ≡ wrong.kind = kind ∙ ap (λ (w : Wrong). w.kind) found_is in
    let name' : fault.name ≡ wrong.name = name ∙ ap (λ (w : Wrong). w.name) found_is in
    let told_is : told fault.place fault.kind fault.name ≡ told m.at wrong.kind wrong.name =
    ap (λ (p : ℕ). told p fault.kind fault.name) place ∙ ap (λ (k : QueryKind). told m.at k fault.name) kind' ∙ ap (λ (n : List ℕ). told m.at wrong.kind n) name' in
    (take i marks, m, drop (suc i) marks, wrong, all, is, told_is, clean)

pub clean_more : (marks : List Mark) (i : ℕ) (m : Mark) → i < length marks → m ≡ get_or marks i m → AreClean (take i marks) → m.wrong ≡ None → AreClean (take (i + 1) marks)
clean_more marks i m within m_is clean none n has =
    let more : take (i + 1) marks ≡ take i marks ++ m ∷ [] = take_more marks i m within ∙ ap (λ (k : Mark). take i marks ++ k ∷ []) (sym m_is) in
    elim (Contains-push_cases (take i marks) m n (subst (λ (l : List Mark). Contains l n) more has)) [
      | inl before ↦ clean n before
      | inr same ↦ subst (λ (k : Mark). k.wrong ≡ None) same none
    ]

pub clean_all : (marks : List Mark) (i : ℕ) → length marks ≤ i → i ≤ length marks → AreClean (take i marks) → AreClean marks
clean_all marks i past within clean =
    let end : i ≡ length marks = omega (arith, past, within) in
    subst AreClean (ap (λ (k : ℕ). take k marks) end ∙ take-length marks) clean
