-- What the gathered entries of a text say of it: its table, or its first fault.
use Rattle.std.proofs.Common.{◌≡◌, ℕ, zero, suc, ◌+◌, ◌<◌, List, [], ◌∷◌, ◌++◌, append_assoc, length, map, take, get_or, refl, sym, ◌∙◌, ap, subst, arith}
use Rattle.std.specs.Option.{option_map}
use Rattle.std.proofs.lemmas.List.{append-nil}
use Rattle.std.proofs.lemmas.List.Elements.{Contains-append_left, Contains-append_right}
use Rattle.charset_map.specs.declared.entries.Entry.{Entry}
use Rattle.charset_map.specs.declared.fault.CharsetFault.{CharsetFault}
use Rattle.charset_map.specs.declared.fault.CharsetKind.TheVariants as kinds
use Rattle.charset_map.specs.declared.gathering.Written.{Written}
use Rattle.charset_map.specs.declared.span.Span.{Span}
use Rattle.charset_map.specs.Characters.{character_at, ordinal}
use Rattle.charset_map.specs.Spans.{folded, number_in, number_of}
use Rattle.charset_map.specs.Table.{IsTable}
use Rattle.charset_map.specs.TableText.{AreEntries, EntryText, IsFirstFault, IsTableOf}
use Rattle.charset_map.specs.steps.Adding.{StandsFor}
use Rattle.charset_map.specs.steps.Gathering.{AreWritten, IsEntrySpan, IsGathered, NoneDiffer, SomeDiffer, StopsAt, span_in}
use Rattle.charset_map.specs.steps.SpanLists.{SameWhereBoth}
use Rattle.charset_map.proofs.Differing.{Giver, giver, last_differs, number_of_more}
use Rattle.charset_map.proofs.EntryValues.{entry_ends, gives_another, stands_for_more}
use Rattle.charset_map.proofs.Joining.{one_more}

-- more entries, which the spans of the list stand for after others
pub record StandsAfter (done : List Span) (entries : List Entry) (texts : List EntryText) (list : List Written) : Type 0 where
  pub more : List Entry
  pub spelled : AreEntries texts more
  pub stands : StandsFor (number_of (done ++ map span_in list)) (entries ++ more)

-- no span before differs from the next one
next_same : (done : List Span) (span : Span) (later : List Span) → NoneDiffer (done ++ span ∷ later) → SameWhereBoth (number_of done) (number_in span)
next_same done span later none n v w old new =
    let by : Giver done n v = giver done n v old in
    none by.span span (Contains-append_left done (span ∷ later) by.span by.has) (Contains-append_right done (span ∷ later) span (0, omega arith, refl)) n v w by.gives new

stands_after : (done : List Span) (entries : List Entry) (texts : List EntryText) (list : List Written) → StandsFor (number_of done) entries → NoneDiffer (done ++ map span_in list) → AreWritten texts list → StandsAfter done entries texts list
stands_after done entries [] [] stands none are = record {
  more = [];
  spelled = tt;
  stands = subst (λ (es : List Entry). StandsFor (number_of (done ++ [])) es) (sym (append-nil entries)) (subst (λ (ss : List Span). StandsFor (number_of ss) entries) (sym (append-nil done)) stands);
}
stands_after done entries [] (w ∷ list) stands none are = absurd are
stands_after done entries (t ∷ texts) [] stands none are = absurd are
stands_after done entries (t ∷ texts) (w ∷ list) stands none are =
    let written : IsEntrySpan t.text w.span = are.0.1 in
    let one : StandsFor (number_of (done ++ w.span ∷ [])) (entries ++ written.entry ∷ []) =
    stands_for_more (number_of done) (number_of (done ++ w.span ∷ [])) entries written.entry w.span (entry_ends t.text written.entry written.is) written.span_is
    (next_same done w.span (map span_in list) none) (number_of_more done w.span) stands in
    let join : (done ++ w.span ∷ []) ++ map span_in list ≡ done ++ w.span ∷ map span_in list = append_assoc done (w.span ∷ []) (map span_in list) in
    let rest : StandsAfter (done ++ w.span ∷ []) (entries ++ written.entry ∷ []) texts list =
    stands_after (done ++ w.span ∷ []) (entries ++ written.entry ∷ []) texts list one (subst NoneDiffer (sym join) none) are.1 in
    record {
      more = written.entry ∷ rest.more;
      spelled = (written.is, rest.spelled);
      stands = subst (λ (es : List Entry). StandsFor (number_of (done ++ w.span ∷ map span_in list)) es) (append_assoc entries (written.entry ∷ []) rest.more)
          (subst (λ (ss : List Span). StandsFor (number_of ss) ((entries ++ written.entry ∷ []) ++ rest.more)) join rest.stands);
    }

no_table : IsTable []
no_table = record { even = λ k d below. absurd (omega arith); agree = λ i j d order below. absurd (omega arith) }

-- the entries of texts, for which their spans stand
pub stands_all : (texts : List EntryText) (list : List Written) → NoneDiffer (map span_in list) → AreWritten texts list → StandsAfter [] [] texts list
stands_all texts list none are = stands_after [] [] texts list (record { sound = no_table; values = λ c scalar. refl }) none are

pub is_table : (text : List ℕ) (list : List Written) (table : List Span) → IsGathered text list [] → NoneDiffer (map span_in list) → ((n : ℕ) → number_of table n ≡ number_of (map span_in list) n) → IsTableOf text (folded table)
is_table text list table gathered none values =
    let all = stands_all gathered.before list none gathered.written in
    record {
      entries = all.more;
      spelled = subst (λ (ts : List EntryText). AreEntries ts all.more) (sym (gathered.are ∙ append-nil gathered.before)) all.spelled;
      sound = all.stands.sound;
      values = λ c scalar. ap (option_map character_at) (values (ordinal c)) ∙ all.stands.values c scalar;
    }

pub is_fault : (text : List ℕ) (list : List Written) (fault : CharsetFault) → StopsAt text list fault → NoneDiffer (map span_in list) → IsFirstFault text fault
is_fault text list fault stops none =
    let all = stands_all stops.gathered.before list none stops.gathered.written in
    record {
      before = stops.gathered.before;
      entry_text = stops.entry_text;
      after = stops.after;
      are = stops.gathered.are;
      entries = all.more;
      spelled = all.spelled;
      sound = all.stands.sound;
      place = stops.place;
      faulty = stops.faulty all.more;
    }

-- the texts of the list's first entries, and that of the next one
pub record SplitsAt (texts : List EntryText) (list : List Written) (at : ℕ) (d : Written) : Type 0 where
  pub first : List EntryText
  pub here : EntryText
  pub later : List EntryText
  pub are : texts ≡ first ++ here ∷ later
  pub written : AreWritten first (take at list)
  pub place : (get_or list at d).place ≡ here.place
  pub span : IsEntrySpan here.text (get_or list at d).span

splits_at : (texts : List EntryText) (list : List Written) (at : ℕ) (d : Written) → AreWritten texts list → at < length list → SplitsAt texts list at d
splits_at [] [] at d are within = absurd (omega arith)
splits_at [] (w ∷ list) at d are within = absurd are
splits_at (t ∷ texts) [] at d are within = absurd are
splits_at (t ∷ texts) (w ∷ list) zero d are within = record { first = []; here = t; later = texts; are = refl; written = tt; place = are.0.0; span = are.0.1 }
splits_at (t ∷ texts) (w ∷ list) (suc at) d are within =
    let rest = splits_at texts list at d are.1 (omega arith) in
    record {
      first = t ∷ rest.first;
      here = rest.here;
      later = rest.later;
      are = ap (λ (ts : List EntryText). t ∷ ts) rest.are;
      written = (are.0, rest.written);
      place = rest.place;
      span = rest.span;
    }

-- the entry at a place of the list is the first that differs from one before it
pub is_twice : (text : List ℕ) (list : List Written) (rest : List EntryText) (at : ℕ) (d : Written) → IsGathered text list rest → at < length list → NoneDiffer (map span_in (take at list)) → SomeDiffer (map span_in (take (at + 1) list)) → IsFirstFault text (record { place = (get_or list at d).place; kind = kinds.Twice })
is_twice text list rest at d gathered within none two =
    let split = splits_at gathered.before list at d gathered.written within in
    let all = stands_all split.first (take at list) none split.written in
    let span : Span = (get_or list at d).span in
    let differ = last_differs (map span_in (take at list)) span none (subst SomeDiffer (one_more list at d within) two) in
    let entry : Entry = split.span.entry in
    record {
      before = split.first;
      entry_text = split.here;
      after = split.later ++ rest;
      are = gathered.are ∙ ap (λ (ts : List EntryText). ts ++ rest) split.are ∙ append_assoc split.first (split.here ∷ split.later) rest;
      entries = all.more;
      spelled = all.spelled;
      sound = all.stands.sound;
      place = split.place;
      faulty = (entry, split.span.is, split.span.span_is.even, gives_another (number_of (map span_in (take at list))) all.more entry span (entry_ends split.here.text entry split.span.is) split.span.span_is differ all.stands);
    }
