use Rattle.std.proofs.Common.{◌≢◌, ap, sym, ◌∙◌}
use Rattle.ql_grammar.specs.declared.kind.Kind.TheVariants as kinds
use Rattle.ql_grammar.specs.Tokens.{first_kind, lexemes}
use Rattle.ql_read.proofs.Cursors.{tokens_behind, token_behind, kind_behind}
use Rattle.ql_read.proofs.cursor.TokenCursor.skip.Goals as goal

pub bounds-rest-1 : goal.bounds-rest-1
bounds-rest-1 c = token_behind c.self.inside.rest.now c.self.invariant.0 (λ e. c.requires (sym (ap first_kind c.self.view_is) ∙ e))

pub invariant_of-self : goal.invariant_of-self
invariant_of-self c =
    let rest = c.self.inside.rest.now in
    let other : first_kind (lexemes rest) ≢ kinds.End = λ e. c.requires (sym (ap first_kind c.self.view_is) ∙ e) in (
      tokens_behind rest c.self.invariant.0 other,
      c.kind_of-self-inside.ensures ∙ kind_behind rest _ (token_behind rest c.self.invariant.0 other),
    )
