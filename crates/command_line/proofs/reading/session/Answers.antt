use Rattle.std.proofs.Common.{◌∙◌, sym, ap, map, string_bytes}
use Rattle.std.specs.Prelude.{Option, option_map, ℕ, List}
use Rattle.std.specs.Option.{is_some}
use Rattle.std.specs.Borrow.{Bor}
use Rattle.command_line.specs.Modes.{session}
use Rattle.command_line.specs.steps.Words.{config_in}
use Rattle.command_line.proofs.Pairing.{config_mode, if_err, is_made}
use Rattle.command_line.proofs.reading.session.Goals as goal

pub returns-in_err-file-clause-scarce : goal.returns-in_err-file-clause-scarce
returns-in_err-file-clause-scarce c =
    let words = map string_bytes c.args.words.now in
    if_err c.from_residual.result _ (ap (λ o. is_some o) (config_mode session words) ∙ is_made session (config_in words) ∙ c.in_err-file.ensures.scarce)

pub returns-in-Some-clause-reads : goal.returns-in-Some-clause-reads
returns-in-Some-clause-reads c =
    let words = map string_bytes c.args.words.now in
    let text = λ (file : Option (Bor (List ℕ))). option_map (λ (text : Bor (List ℕ)). text.now) file in
    ap (option_map session) (sym (ap text c.in-Some.is) ∙ c.in_ok-file.ensures.reads) ∙ sym (config_mode session words)

pub returns-in-None-clause-reads : goal.returns-in-None-clause-reads
returns-in-None-clause-reads c =
    let words = map string_bytes c.args.words.now in
    let text = λ (file : Option (Bor (List ℕ))). option_map (λ (text : Bor (List ℕ)). text.now) file in
    ap (option_map session) (sym (ap text c.in-None.is) ∙ c.in_ok-file.ensures.reads) ∙ sym (config_mode session words)
