use Rattle.std.proofs.Common.{rules, ◌≡◌, ◌==◌, ◌+◌, ℕ, List, Bool, length, reverse, sym, ap, ◌∙◌}
use Rattle.std.specs.List.{list_any}
use Rattle.std.proofs.lemmas.List.{length-reverse}
use Rattle.chunk_store.specs.declared.call.Call.{Call}
use Rattle.chunk_store.specs.Memory.{is_listed}
use Rattle.chunk_store.proofs.memory_disk.is_next_listed.Goals as goal

listed : (failing : List ℕ) (calls : List Call) (next : ℕ) (found : Bool) → next ≡ length calls + 1 → found ≡ list_any (λ number. number == next) failing → found ≡ is_listed failing (reverse calls)
listed failing calls next found is e = e ∙ ap (λ (count : ℕ). list_any (λ number. number == count) failing) (is ∙ ap (λ (count : ℕ). count + 1) (sym (length-reverse calls)))

pub returns : goal.returns
returns c = listed c.args.failing.now c.args.calls.now.items _ c.is_among.result (search rules) c.is_among.ensures
