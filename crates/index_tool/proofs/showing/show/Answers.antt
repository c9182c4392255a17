use Rattle.std.proofs.Common.{◌≡◌, ◌∙◌, ℕ, List, Ok, Err, ap, sym, subst, string_bytes}
use Rattle.std.specs.Prelude.{None, Some, option_map}
use Rattle.charset_map.specs.Spans.{folded}
use Rattle.index_tool.specs.Folding.{folded_word}
use Rattle.index_tool.specs.ToolLines.{chunk_line, each_chunk, tool_lines}
use Rattle.index_tool.specs.declared.asking.Mode.{Mode}
use Rattle.index_tool.specs.steps.Pieces.{counts_of}
use Rattle.index_tool.specs.steps.Reads.{ShowsMode}
use Rattle.index_tool.specs.steps.Shown.{counts_found, entries_found, rows_found}
use Rattle.index_tool.specs.steps.Words.{mode_said}
use Rattle.index_tool.proofs.Held.{are_held, shows_check, shows_dictionary, shows_hits, shows_none}
use Rattle.index_tool.proofs.Printed.{lines_none, lines_stop, lines_then, lines_wanting}
use Rattle.index_tool.proofs.showing.show.Goals as goal

pub returns-in-Ok : goal.returns-in-Ok
returns-in-Ok g c = λ told read.
    let index = c.args.index.now in
    let found = c.args.found.now in
    let known = c.words_known.ensures in
    subst (λ (m : Mode). ShowsMode g.H.ToolHost (mode_said m) index told c.show_chunks.result c.args.host.now c.show_chunks.new.host) (sym c.in-Check.is)
    (shows_check g.H.ToolHost c.show_chunks.result index told found known.0 (are_held index.schema told found known.0 read known.1) c.args.host.now c.show_chunks.new.host
    (lines_then g.H.ToolHost (tt {0}) c.show_chunks.result (counts_of index.schema.name (counts_found found)) (each_chunk chunk_line (entries_found found) (rows_found found) known.0) c.args.host.now c.show_index.new.host c.show_chunks.new.host c.in-Ok.ensures.prints
    (c.show_chunks.ensures known.0 known.1)))

pub returns-in-Check : goal.returns-in-Check
returns-in-Check g c = λ told read.
    let index = c.args.index.now in
    let found = c.args.found.now in
    let known = c.words_known.ensures in
    subst (λ (m : Mode). ShowsMode {T = Unit {0}} g.H.ToolHost (mode_said m) index told (Err c.in-Err.stop) c.args.host.now c.show_index.new.host) (sym c.in-Check.is)
    (shows_check {T = Unit {0}} g.H.ToolHost (Err c.in-Err.stop) index told found known.0 (are_held index.schema told found known.0 read known.1) c.args.host.now c.show_index.new.host
    (lines_stop g.H.ToolHost (Unit {0}) (Unit {0}) c.in-Err.stop (counts_of index.schema.name (counts_found found)) (each_chunk chunk_line (entries_found found) (rows_found found) known.0) c.args.host.now c.show_index.new.host c.in-Err.ensures.prints))

pub returns-in-Dictionary : goal.returns-in-Dictionary
returns-in-Dictionary g c = λ told read.
    let index = c.args.index.now in
    let found = c.args.found.now in
    let known = c.words_known.ensures in
    subst (λ (m : Mode). ShowsMode g.H.ToolHost (mode_said m) index told c.show_chunks-in-Dictionary.result c.args.host.now c.show_chunks-in-Dictionary.new.host) (sym c.in-Dictionary.is)
    (shows_dictionary g.H.ToolHost c.show_chunks-in-Dictionary.result index told found known.0 (are_held index.schema told found known.0 read known.1) c.args.host.now c.show_chunks-in-Dictionary.new.host (c.show_chunks-in-Dictionary.ensures known.0 known.1))

pub returns-in-Ok-Some : goal.returns-in-Ok-Some
returns-in-Ok-Some g c = λ told read.
    let index = c.args.index.now in
    let found = c.args.found.now in
    let known = c.words_known.ensures in
    let word : List ℕ = c.as_bytes-word.result.now in
    let is : folded_word (folded index.charset) c.in-Hits.text.now ≡ Some word = sym c.in-Ok-Some.ensures ∙ ap (option_map string_bytes) c.in-Ok-Some.field-0-is ∙ ap Some (sym c.as_bytes-word.ensures.value) in
    subst (λ (m : Mode). ShowsMode g.H.ToolHost (mode_said m) index told c.show_chunks-in-Ok-Some.result c.args.host.now c.show_chunks-in-Ok-Some.new.host) (sym c.in-Hits.is)
    (shows_hits g.H.ToolHost c.show_chunks-in-Ok-Some.result index told found known.0 (are_held index.schema told found known.0 read known.1) c.args.host.now c.show_chunks-in-Ok-Some.new.host c.in-Hits.text.now word is (c.show_chunks-in-Ok-Some.ensures known.0 known.1))

pub returns-in-Ok-None : goal.returns-in-Ok-None
returns-in-Ok-None g c = λ told read.
    let index = c.args.index.now in
    let found = c.args.found.now in
    let known = c.words_known.ensures in
    let is : folded_word (folded index.charset) c.in-Hits.text.now ≡ None = sym c.in-Ok-None.ensures ∙ ap (option_map string_bytes) c.in-Ok-None.field-0-is in
    subst (λ (m : Mode). ShowsMode {T = Unit {0}} g.H.ToolHost (mode_said m) index told (Ok tt) c.args.host.now c.args.host.now) (sym c.in-Hits.is)
    (shows_none {T = Unit {0}} g.H.ToolHost (Ok tt) index told found known.0 (are_held index.schema told found known.0 read known.1) c.args.host.now c.args.host.now c.in-Hits.text.now is (lines_none g.H.ToolHost (tt {0}) c.args.host.now))

pub returns : goal.returns
returns g c = λ told read.
    let index = c.args.index.now in
    let found = c.args.found.now in
    let known = c.words_known.ensures in
    let held = are_held index.schema told found known.0 read known.1 in
    (held.has, held.files, lines_wanting g.H.ToolHost (Unit {0}) (tool_lines (mode_said c.args.mode) index held.has) c.args.host.now)
