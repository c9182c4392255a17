use Rattle.std.proofs.Common.{Err, ℕ, List}
use Rattle.charset_map.specs.declared.entries.Entry.{Entry}
use Rattle.charset_map.specs.declared.fault.CharsetKind.{CharsetKind}
use Rattle.charset_map.specs.declared.fault.CharsetKind.TheVariants as kinds
use Rattle.charset_map.specs.Entries.{IsEntry}
use Rattle.charset_map.specs.TableText.{IsFaulty}
use Rattle.charset_map.specs.steps.Adding.{HasSpan}
use Rattle.charset_map.proofs.adding.read_span.Goals as goal

-- an entry that isn't even is faulty by itself
not_even : (text : List ℕ) (entry : Entry) (kind : CharsetKind) → IsEntry text entry → HasSpan entry (Err kind) → (entries : List Entry) → IsFaulty entries text kind
not_even text entry kinds.Entry is unmet entries = absurd unmet
not_even text entry kinds.Range is unmet entries = (entry, is, unmet)
not_even text entry kinds.Lengths is unmet entries = (entry, is, unmet.0, unmet.1)
not_even text entry kinds.Twice is unmet entries = absurd unmet
not_even text entry kinds.Empty is unmet entries = absurd unmet

pub returns-in-Ok : goal.returns-in-Ok
returns-in-Ok c = record { entry = c.in-Some.entry; is = c.in-Some.ensures; span_is = c.in-Ok.ensures.span; sound = c.in-Ok.ensures.sound }

pub returns-in-Err : goal.returns-in-Err
returns-in-Err c = not_even c.args.text.now c.in-Some.entry c.in-Err.kind c.in-Some.ensures c.in-Err.ensures.span
