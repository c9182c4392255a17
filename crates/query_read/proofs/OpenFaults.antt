-- A query whose ANDs are open, with nothing wrong with a mark, has no fault.
use Rattle.std.proofs.Common.{◌≡◌, ◌⊎◌, ℕ, List, Some, None, inl, inr, refl, sym, ◌∙◌, subst}
use Rattle.std.specs.Prelude.{Contains}
use Rattle.query_marks.specs.declared.fault.Wrong.{Wrong}
use Rattle.query_marks.specs.declared.mark.Mark.{Mark}
use Rattle.token_grammar.proofs.Stops.{value_no_stop}
use Rattle.query_tree.specs.declared.query.Node.{Node}
use Rattle.query_grammar.specs.Grammar.{IsQuery, IsOpenAnd}
use Rattle.query_grammar.specs.QueryFaults.{Told, IsRead, EndedAnd, EndedSpan, IsCandidate, by_stop, by_itself, by_and, by_span}
use Rattle.query_read.proofs.EndedRefused.{ended_refused}
use Rattle.query_read.proofs.Enders.{open_refuses_none}
use Rattle.query_grammar.proofs.OneFault.{as_stop, one_read, read_contained}
use Rattle.query_grammar.proofs.OpenAnds.{passes_any}

none_wrong : (wrong : Wrong) → None ≡ Some wrong → ⊥
none_wrong wrong is = cc

-- all of a query is read
all_read : (node : Node) (marks read : List Mark) → IsQuery IsOpenAnd 32 node marks → IsRead marks read → read ≡ marks
all_read node marks read query reads = one_read read marks reads (inl (node, passes_any 32 node marks query, refl))

pub open_none_ended : (node : Node) (marks : List Mark) → IsQuery IsOpenAnd 32 node marks → (place : ℕ) → EndedAnd marks place ⊎ EndedSpan marks place → ⊥
open_none_ended node marks query place ended =
    let (least, refused, up) = ended_refused marks place ended in
    open_refuses_none node marks query least refused

pub open_no_fault : (node : Node) (marks : List Mark) → IsQuery IsOpenAnd 32 node marks → ((m : Mark) → Contains marks m → m.wrong ≡ None) → (told : Told) → IsCandidate marks told → ⊥
open_no_fault node marks query clean _ (by_stop front stop kind stops named) = value_no_stop node (passes_any 32 node marks query) (as_stop stops)
open_no_fault node marks query clean _ (by_itself read m wrong reads has is) = none_wrong wrong (sym (clean m (read_contained read m reads has)) ∙ is)
open_no_fault node marks query clean _ (by_and read place reads ended) = open_none_ended node marks query place (inl (subst (λ (l : List Mark). EndedAnd l place) (all_read node marks read query reads) ended))
open_no_fault node marks query clean _ (by_span read place reads ended) = open_none_ended node marks query place (inr (subst (λ (l : List Mark). EndedSpan l place) (all_read node marks read query reads) ended))
