use Rattle.std.proofs.Common.{sym, ap, ◌∙◌}
use Rattle.row_select.specs.Pages.{cut}
use Rattle.row_select.proofs.OneOrder.{one_order}
use Rattle.row_select.proofs.laws.a_page_is_one_list.Goals as goal

pub returns : goal.returns
returns c = λ rows others order page shown other apart others_apart same one two.
    one.2 ∙ ap (cut page) (one_order rows others one.0 two.0 order apart others_apart same one.1 two.1) ∙ sym two.2
