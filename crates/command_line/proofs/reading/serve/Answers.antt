use Rattle.std.proofs.Common.{◌≡◌, ◌∙◌, true, false, sym, ap, map, string_bytes}
use Rattle.std.specs.Option.{is_some}
use Rattle.command_line.specs.Modes.{serve_of}
use Rattle.command_line.specs.steps.Words.{has_serve_form, value_in}
use Rattle.command_line.proofs.Pairing.{no_mode}
use Rattle.command_line.proofs.ServeRead.{serve_formed, serve_unformed}
use Rattle.command_line.proofs.reading.serve.Goals as goal

pub returns-then-not-has_serve_form-clause-reads : goal.returns-then-not-has_serve_form-clause-reads
returns-then-not-has_serve_form-clause-reads c =
    let none : has_serve_form (map string_bytes c.args.words.now) ≡ false = cc in
    sym (serve_unformed (map string_bytes c.args.words.now) none)

pub returns-in-Ok-clause-reads : goal.returns-in-Ok-clause-reads
returns-in-Ok-clause-reads c =
    let form : has_serve_form (map string_bytes c.args.words.now) ≡ true = cc in
    c.in-Ok.ensures ∙ sym (serve_formed (map string_bytes c.args.words.now) form)

pub returns-then-is_serve-clause-scarce : goal.returns-then-is_serve-clause-scarce
returns-then-is_serve-clause-scarce c =
    let words = map string_bytes c.args.words.now in
    let form : has_serve_form (map string_bytes c.args.words.now) ≡ true = cc in
    let yes : is_some (serve_of (λ name. value_in name (map string_bytes c.args.words.now))) ≡ true = cc in
    ap (λ o. is_some o) (serve_formed words form) ∙ yes

pub returns-else-is_serve-clause-reads : goal.returns-else-is_serve-clause-reads
returns-else-is_serve-clause-reads c =
    let words = map string_bytes c.args.words.now in
    let form : has_serve_form (map string_bytes c.args.words.now) ≡ true = cc in
    let no : is_some (serve_of (λ name. value_in name (map string_bytes c.args.words.now))) ≡ false = cc in
    no_mode (serve_of (λ name. value_in name words)) no ∙ sym (serve_formed words form)
