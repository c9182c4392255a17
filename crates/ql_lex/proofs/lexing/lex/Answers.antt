use Rattle.std.proofs.Common.{ℕ, List, [], ◌∷◌, ◌++◌, map, ap, ◌∙◌, refl, subst, is_ok, length}
use Rattle.std.proofs.ResultArms.{chosen}
use Rattle.std.proofs.lemmas.List.{map_push}
use Rattle.ql_lex.specs.declared.part.Part.TheVariants as parts
use Rattle.ql_lex.specs.declared.token.TokenKind.TheVariants.{End}
use Rattle.ql_lex.specs.Tokens.{Stands, Lexeme, lexeme_of}
use Rattle.ql_lex.proofs.Slices.{slice_none}
use Rattle.ql_lex.proofs.Readings.{read_start, read_gap, read_token, read_end}
use Rattle.ql_lex.proofs.lexing.lex.Goals as goal

pub loop-at-init : goal.loop-at-init
loop-at-init c = read_start c.args.text.now _ (ap (map lexeme_of) c.in_ok-tokens.ensures.items)

pub loop-at-preserved-in-Ok-Blank : goal.loop-at-preserved-in-Ok-Blank
loop-at-preserved-in-Ok-Blank c =
    let stands : Stands c.args.text.now c.loop-at.at parts.Blank = subst (Stands c.args.text.now c.loop-at.at) c.in-Ok-Blank.field-0-is c.in-Ok-Blank.ensures in
    read_gap c.args.text.now c.loop-at.at parts.Blank _ refl stands c.loop-at.invariant

pub loop-at-preserved-in-Ok-Comment : goal.loop-at-preserved-in-Ok-Comment
loop-at-preserved-in-Ok-Comment c =
    let stands : Stands c.args.text.now c.loop-at.at (parts.Comment c.in-Ok-Comment.to) = subst (Stands c.args.text.now c.loop-at.at) c.in-Ok-Comment.field-0-is c.in-Ok-Comment.ensures in
    read_gap c.args.text.now c.loop-at.at (parts.Comment c.in-Ok-Comment.to) _ refl stands c.loop-at.invariant

pub loop-at-preserved : goal.loop-at-preserved
loop-at-preserved c =
    let stands : Stands c.args.text.now c.loop-at.at (parts.Token c.in-Ok-Token.kind c.in-Ok-Token.to) = subst (Stands c.args.text.now c.loop-at.at) c.in-Ok-Token.field-0-is c.in-Ok-Token.ensures in
    let pushed = chosen _ _ _ _ c.push.ensures.items (ap is_ok c.in_ok-push-in-Ok-Token.was) in
    read_token c.args.text.now c.loop-at.at c.in-Ok-Token.to c.in-Ok-Token.kind _ _ stands c.loop-at.invariant (ap (map lexeme_of) pushed ∙ map_push lexeme_of _ _)

pub returns-in-Err : goal.returns-in-Err
returns-in-Err c = record { parts = c.loop-at.invariant.list; splits = c.loop-at.invariant.splits; fails = c.in-Err.ensures }

pub returns : goal.returns
returns c =
    let pushed = chosen _ _ _ _ c.push-2.ensures.items (ap is_ok c.in_ok-push.was) in
    let end = ap (λ (l : List ℕ). let t : Lexeme = record { kind = End; text = l; at = length c.args.text.now } in map lexeme_of c.loop-at.tokens.items ++ t ∷ []) (slice_none c.args.text.now (length c.args.text.now)) in
    read_end c.args.text.now c.loop-at.at _ _ c.loop-at-test.false c.loop-at.invariant (ap (map lexeme_of) pushed ∙ map_push lexeme_of _ _ ∙ end)
