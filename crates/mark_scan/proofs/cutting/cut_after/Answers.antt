use Rattle.std.proofs.Common.{List, ℕ, ◌+◌, subst, sym, IsUtf8}
use Rattle.std.proofs.iter.FirstChar.{beside_ascii, cut}
use Rattle.mark_scan.proofs.cutting.cut_after.Goals as goal

-- after an ASCII byte no character is split
pub split_at-requires : goal.split_at-requires
split_at-requires c = (beside_ascii c.args.text.now c.args.place c.utf8.text c.requires.within c.requires.ascii).1

pub returns-clause-front_utf8 : goal.returns-clause-front_utf8
returns-clause-front_utf8 c = subst (λ (s : List ℕ). IsUtf8 s) (sym c.split_at.ensures.front) (cut c.args.text.now (c.args.place + 1) c.utf8.text (beside_ascii c.args.text.now c.args.place c.utf8.text c.requires.within c.requires.ascii).1).0

pub returns-clause-back_utf8 : goal.returns-clause-back_utf8
returns-clause-back_utf8 c = subst (λ (s : List ℕ). IsUtf8 s) (sym c.split_at.ensures.back) (cut c.args.text.now (c.args.place + 1) c.utf8.text (beside_ascii c.args.text.now c.args.place c.utf8.text c.requires.within c.requires.ascii).1).1
