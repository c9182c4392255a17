use Rattle.std.proofs.Common.{◌∙◌, ◌∷◌, ℕ, List, [], ap, sym, subst}
use Rattle.std.specs.Prelude.{Option}
use Rattle.program_host.specs.Requests.{Requested}
use Rattle.program_host.specs.declared.host.Stream.TheVariants.{Err as Errors}
use Rattle.program_host.specs.declared.requests.Request.TheVariants.{OpenStore}
use Rattle.store_reads.specs.declared.found.Found.{Found}
use Rattle.index_tool.specs.declared.status.ToolStatus.{ToolStatus}
use Rattle.index_tool.specs.steps.Reads.{Looks}
use Rattle.index_tool.specs.steps.Words.{mode_said}
use Rattle.index_tool.proofs.Looked.{errors_stay, handed, not_given, not_read, shown}
use Rattle.index_tool.proofs.tool.look.Goals as goal

pub returns-in-Err-clause-looks : goal.returns-in-Err-clause-looks
returns-in-Err-clause-looks g c =
    subst (λ (s : ToolStatus). Looks g.H.ToolHost g.H.Store.Disk (mode_said c.args.mode) c.args.index.now s c.args.host.now c.open_store.new.self) (sym c.from.ensures)
    (not_given g.H.ToolHost g.H.Store.Disk (mode_said c.args.mode) c.args.index.now g.row.H-Store.Denot c.in-Err.fault c.args.host.now c.open_store.new.self
    (record {
      asks = subst (λ (p : List ℕ). Requested (g.H.ToolHost.requests c.args.host.now) (g.H.ToolHost.requests c.open_store.new.self) (OpenStore p ∷ [])) c.path_of.ensures c.open_store.ensures.asks;
      gives = c.in-Err.ensures.gives_stores;
      takes = c.open_store.ensures.takes_stores;
      prints = c.open_store.ensures.prints;
      print_count = c.open_store.ensures.print_count;
    }) c.in-Err.ensures.cause)

pub returns-in-Ok-read-clause-looks : goal.returns-in-Ok-read-clause-looks
returns-in-Ok-read-clause-looks g c =
    let hands = handed g.H.ToolHost (record { given = c.in-Ok.store; back = c.read_files-read.new.disk }) c.args.index.now.path c.path_of.result.now c.args.host.now c.open_store.new.self c.give_back.new.self c.path_of.ensures c.open_store.ensures.asks c.in-Ok.ensures.gives_stores
    c.open_store.ensures.takes_stores c.in-Ok.ensures.cause c.open_store.ensures.prints c.open_store.ensures.print_count c.give_back.ensures.asks c.give_back.ensures.gives_stores c.give_back.ensures.takes_stores c.give_back.ensures.count c.give_back.ensures.prints
    c.give_back.ensures.print_count in
    subst (λ (s : ToolStatus). Looks g.H.ToolHost g.H.Store.Disk (mode_said c.args.mode) c.args.index.now s c.args.host.now c.show.new.host) (sym c.status_shown.ensures)
    (shown g.H.ToolHost g.H.Store.Disk (mode_said c.args.mode) c.args.index.now (record { given = c.in-Ok.store; back = c.read_files-read.new.disk }) c.args.host.now c.give_back.new.self hands c.show.result c.show.new.host
    (record { looks = c.read_files-read.ensures.looks; keeps = c.read_files-read.ensures.keeps }) (c.show.ensures (g.H.Store.Disk.told c.in-Ok.store) c.in-Ok-read.ensures.reads))

pub returns-in-Ok-read-clause-errors : goal.returns-in-Ok-read-clause-errors
returns-in-Ok-read-clause-errors g c =
    let says = c.show.ensures (g.H.Store.Disk.told c.in-Ok.store) c.in-Ok-read.ensures.reads in
    (errors_stay g.H.ToolHost c.show.result _ c.give_back.new.self c.show.new.host says.2).errors ∙ ap (λ (told : _). told Errors) (c.give_back.ensures.prints ∙ c.open_store.ensures.prints)

pub returns-in-Ok-read-clause-quiet : goal.returns-in-Ok-read-clause-quiet
returns-in-Ok-read-clause-quiet g c =
    let says = c.show.ensures (g.H.Store.Disk.told c.in-Ok.store) c.in-Ok-read.ensures.reads in
    (errors_stay g.H.ToolHost c.show.result _ c.give_back.new.self c.show.new.host says.2).quiet ∙ ap (λ (count : _). count Errors) (c.give_back.ensures.print_count ∙ c.open_store.ensures.print_count)

pub returns-in-Err-read-clause-looks : goal.returns-in-Err-read-clause-looks
returns-in-Err-read-clause-looks g c =
    let hands = handed g.H.ToolHost (record { given = c.in-Ok.store; back = c.read_files-read.new.disk }) c.args.index.now.path c.path_of.result.now c.args.host.now c.open_store.new.self c.give_back.new.self c.path_of.ensures c.open_store.ensures.asks c.in-Ok.ensures.gives_stores
    c.open_store.ensures.takes_stores c.in-Ok.ensures.cause c.open_store.ensures.prints c.open_store.ensures.print_count c.give_back.ensures.asks c.give_back.ensures.gives_stores c.give_back.ensures.takes_stores c.give_back.ensures.count c.give_back.ensures.prints
    c.give_back.ensures.print_count in
    subst (λ (s : ToolStatus). Looks g.H.ToolHost g.H.Store.Disk (mode_said c.args.mode) c.args.index.now s c.args.host.now c.give_back.new.self) (sym c.status_of.ensures)
    (not_read g.H.ToolHost g.H.Store.Disk (mode_said c.args.mode) c.args.index.now (record { given = c.in-Ok.store; back = c.read_files-read.new.disk }) c.args.host.now c.give_back.new.self hands (Option Found) c.in-Err-read.fault
    (record { looks = c.read_files-read.ensures.looks; keeps = c.read_files-read.ensures.keeps }) c.in-Err-read.ensures.reads c.in-Err-read.ensures.cause)
