-- A packet has no fault, and tokens have no two faults.
use Rattle.std.proofs.Common.{◌≡◌, ℕ, List, [], ◌∷◌, ◌++◌, refl, sym, ◌∙◌, ap, subst, append_assoc}
use Rattle.std.specs.Prelude.{◌≤◌, length}
use Rattle.ql_lex.specs.Tokens.{Lexeme}
use Rattle.token_grammar.proofs.Stops.{goes_over}
use Rattle.ql_grammar.specs.declared.fault.ParseFault.{ParseFault}
use Rattle.ql_grammar.specs.declared.fault.ParseKind.{ParseKind}
use Rattle.ql_grammar.specs.declared.fault.ParseKind.TheVariants.{Syntax, TooMany}
use Rattle.ql_tree.specs.declared.statement.Statement.{Statement}
use Rattle.ql_tree.specs.declared.statement.TheConstants.{MAX_STATEMENTS}
use Rattle.ql_grammar.specs.Packets.{IsPacket, BeginsPacket, HasKind, IsFault}

pub packet_no_fault : (tokens : List Lexeme) (list : List Statement) (fault : ParseFault) → IsPacket list tokens → length list ≤ MAX_STATEMENTS → IsFault tokens fault → ⊥
packet_no_fault tokens list fault h few f =
    f.stops (record { behind = f.behind; list = list; few = few; is = subst (λ u. IsPacket list u) (f.is ∙ sym (append_assoc f.front (f.next ∷ []) f.behind)) h })

-- a packet that begins with some tokens begins with fewer
begins_less : (front a : List Lexeme) (t : Lexeme) (more : List Lexeme) → front ≡ a ++ t ∷ more → BeginsPacket front → BeginsPacket (a ++ t ∷ [])
begins_less front a t more e b = record {
  behind = more ++ b.behind;
  list = b.list;
  few = b.few;
  is = subst (λ u. IsPacket b.list u) (ap (λ u. u ++ b.behind) e ∙ append_assoc a (t ∷ more) b.behind ∙ sym (append_assoc a (t ∷ []) (more ++ b.behind))) b.is;
}

one_kind : (j k : ParseKind) (front : List Lexeme) → HasKind j front → HasKind k front → j ≡ k
one_kind Syntax Syntax front h i = refl
one_kind Syntax TooMany front h i = absurd (h i)
one_kind TooMany Syntax front h i = absurd (i h)
one_kind TooMany TooMany front h i = refl

pub one_fault : (tokens : List Lexeme) (a b : ParseFault) → IsFault tokens a → IsFault tokens b → a ≡ b
one_fault tokens a b f g =
    let (same, fronts) = goes_over f.front g.front f.next g.next f.behind g.behind (sym f.is ∙ g.is)
    (λ (more, e). f.stops (begins_less g.front f.front f.next more e g.begins))
    (λ (more, e). g.stops (begins_less f.front g.front g.next more e f.begins)) in
    let places : a.place ≡ b.place = f.place ∙ ap (λ (t : Lexeme). t.at) same ∙ sym g.place in
    let kinds : a.kind ≡ b.kind = one_kind a.kind b.kind (f.front ++ f.next ∷ []) f.kind (subst (λ u. HasKind b.kind u) (sym (ap (λ u. u ++ f.next ∷ []) fronts ∙ ap (λ (t : Lexeme). g.front ++ t ∷ []) same)) g.kind) in
    ap (λ (p : ℕ). record { place = p; kind = a.kind }) places ∙ ap (λ (k : ParseKind). record { place = b.place; kind = k }) kinds
