use Rattle.std.proofs.Common.{◌≡◌, None, sym, subst, rules}
use Rattle.std.specs.List.{AllZip}
use Rattle.step_book.specs.Fronts.{FrontValue}
use Rattle.store_keep.specs.Commits.{front_of}
use Rattle.store_keep.specs.Tellings.{AreOfIndex, IsTold, first_stray}
use Rattle.store_keep.proofs.Telling.{all_have, of_index}
use Rattle.store_keep.proofs.keeper.Keeper.newest.Goals as goal

pub tell_all-requires : goal.tell_all-requires
tell_all-requires g c =
    let line = c.args.self.now.kept.line in
    let note : c.note-note.result ≡ front_of line = search rules in
    subst (λ (n : FrontValue). AreOfIndex n.index c.args.tokens.now) (sym note) (of_index line c.args.tokens.now c.requires.tokens)

pub returns-clause-tells : goal.returns-clause-tells
returns-clause-tells g c =
    let line = c.args.self.now.kept.line in
    let held : c.args.self.now.strayed ≡ None = search rules in
    let none : first_stray (g.J.Naming.base line.index) line c.args.tokens.now ≡ None = search rules in
    let note : c.note-note.result ≡ front_of line = search rules in
    let told : AllZip (IsTold (front_of line)) c.args.tokens.now c.tell_all.new.tokens = subst (λ (n : FrontValue). AllZip (IsTold n) c.args.tokens.now c.tell_all.new.tokens) note c.tell_all.ensures in
    (held, none, note, all_have (g.J.Naming.base line.index) line c.args.tokens.now c.tell_all.new.tokens none told)
