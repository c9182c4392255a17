use Rattle.std.proofs.Common.{◌∷◌, [], ◌++◌, sym, ap, ◌∙◌}
use Rattle.std.specs.Prelude.{option_to_list}
use Rattle.line_workers.proofs.Turns.{serves_line}
use Rattle.line_workers.proofs.serving.serve_next.Goals as goal

pub returns-in-Ok-Some : goal.returns-in-Ok-Some
returns-in-Ok-Some g c =
    let served = serves_line g.E.Line.Link g.T.Catalog.confs g.T.TableStore.words c.args.connection c.in-Ok-Some.line c.serve_link-end.new.link c.serve_link-end.result c.args.tables.now c.serve_link-end.new.tables c.serve_link-end.ensures in
    record {
      service = served.0;
      serves = served.1;
      given = c.done.ensures.gives ∙ c.in-Ok-Some.ensures.gives ∙ ap (λ line. g.E.Door.given c.args.door.now ++ option_to_list line) c.in-Ok-Some.field-0-is
          ∙ ap (λ line. g.E.Door.given c.args.door.now ++ line ∷ []) (sym served.2);
      returned = c.done.ensures.back ∙ ap (λ lines. lines ++ c.serve_link-end.new.link ∷ []) c.in-Ok-Some.ensures.back
          ∙ ap (λ line. g.E.Door.returned c.args.door.now ++ line ∷ []) (sym served.3);
      calm = c.done.ensures.count ∙ c.in-Ok-Some.ensures.calm;
    }
