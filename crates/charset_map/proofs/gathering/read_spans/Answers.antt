use Rattle.std.proofs.Common.{◌≡◌, ℕ, ◌+◌, ◌<◌, List, [], ◌∷◌, Option, None, Some, length, map, take, get_or, sym, subst}
use Rattle.charset_map.specs.declared.fault.CharsetFault.{CharsetFault}
use Rattle.charset_map.specs.declared.fault.CharsetKind.TheVariants as kinds
use Rattle.charset_map.specs.declared.gathering.Written.{Written}
use Rattle.charset_map.specs.declared.span.Span.{Span}
use Rattle.charset_map.specs.TableText.{EntryText, IsFirstFault}
use Rattle.charset_map.specs.steps.Gathering.{Gathers, IsGathered, Joins, NoneDiffer, SomeDiffer, span_in}
use Rattle.charset_map.proofs.TableTexts.{is_fault, is_table, is_twice}
use Rattle.charset_map.proofs.gathering.read_spans.Goals as goal

-- the entries that were gathered, whatever comes after them
gathered_some : (text : List ℕ) (list : List Written) (fault : Option CharsetFault) → Gathers text list fault → (rest : List EntryText) × IsGathered text list rest
gathered_some text list None gathers = ([], gathers)
gathered_some text list (Some fault) gathers = (gathers.entry_text ∷ gathers.after, gathers.gathered)

pub returns-in-None-fault : goal.returns-in-None-fault
returns-in-None-fault c =
    let list = c.in_ok-list.field-0.list.items in
    let joins : Joins (map span_in list) c.in_ok-spans.field-0 = subst (λ (l : List Written). Joins (map span_in l) c.in_ok-spans.field-0) c.as_slice.ensures.value c.in_ok-spans.ensures in
    let some = subst (λ (o : Option (List Span)). Joins (map span_in list) o) c.in-Some.is joins in
    let gathers = subst (λ (f : Option CharsetFault). Gathers c.args.text.now list f) c.in-None-fault.is c.in_ok-list.ensures.entries in
    is_table c.args.text.now list c.in-Some.spans gathers some.0 some.1

pub returns-in-Some : goal.returns-in-Some
returns-in-Some c =
    let list = c.in_ok-list.field-0.list.items in
    let joins : Joins (map span_in list) c.in_ok-spans.field-0 = subst (λ (l : List Written). Joins (map span_in l) c.in_ok-spans.field-0) c.as_slice.ensures.value c.in_ok-spans.ensures in
    let some = subst (λ (o : Option (List Span)). Joins (map span_in list) o) c.in-Some.is joins in
    let gathers = subst (λ (f : Option CharsetFault). Gathers c.args.text.now list f) c.in-Some-fault.is c.in_ok-list.ensures.entries in
    is_fault c.args.text.now list c.in-Some-fault.fault gathers some.0

pub returns : goal.returns
returns c =
    let list = c.in_ok-list.field-0.list.items in
    let written = c.index.result.now in
    let at = c.in_ok-first_clash-in-None.field-0 in
    let is : written ≡ get_or list at written = c.index.ensures in
    let gathered = gathered_some c.args.text.now list c.in_ok-list.field-0.fault c.in_ok-list.ensures.entries in
    let clash = c.in_ok-first_clash-in-None.ensures in
    let same : c.as_slice-in-None.result.now ≡ list = c.as_slice-in-None.ensures.value in
    subst (λ (w : Written). IsFirstFault c.args.text.now (record { place = w.place; kind = kinds.Twice })) (sym is)
    (is_twice c.args.text.now list gathered.0 at written gathered.1
    (subst (λ (l : List Written). at < length l) same clash.within)
    (subst (λ (l : List Written). NoneDiffer (map span_in (take at l))) same clash.before)
    (subst (λ (l : List Written). SomeDiffer (map span_in (take (at + 1) l))) same clash.clash))
