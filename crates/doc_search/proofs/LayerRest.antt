-- The rest of a layer, of which only the number of rows is told to a sink.
use Rattle.std.proofs.Common.{◌≡◌, ◌∙◌, ℕ, ◌+◌, ◌<◌, ◌≤◌, zero, suc, Bool, true, false, cond, ◌&&◌, List, [], ◌∷◌, ◌++◌, Some, map, length, drop, slice_get, append_assoc, inl, inr, refl, sym, ap, subst, arith}
use Rattle.std.specs.Prelude.{All, AllPairs, ◌==◌, not}
use Rattle.std.specs.List.{AllZip, enumerate_from, filter, list_any, list_all}
use Rattle.std.proofs.lemmas.Bool.{cases_eq}
use Rattle.std.proofs.lemmas.Option.{get_or_from_slice_get, slice_get_within}
use Rattle.std.proofs.lemmas.Slice.Zip.{AllZip-long}
use Rattle.std.proofs.lemmas.List.Elements.{All-cons, All-head, All-nil, All-tail, filter-append, filter_passes}
use Rattle.doc_types.specs.declared.documents.DocRow.{DocRow}
use Rattle.doc_types.specs.Snapshots.{LayerValue, living}
use Rattle.op_eval.specs.Matching.{matches}
use Rattle.op_eval.specs.Streams.{GoesTo, Stream, ahead, matching_from}
use Rattle.row_select.specs.Filters.{holds}
use Rattle.row_select.specs.Sinks.{IsBeyond}
use Rattle.row_select.specs.declared.filter.Filter.{Filter}
use Rattle.row_select.specs.declared.row.Row.{Row}
use Rattle.doc_search.specs.Searches.{IsRowOf, passes}
use Rattle.doc_search.specs.declared.question.Question.{Question}
use Rattle.doc_search.specs.declared.listed_rows.ListedRows.{ListedRows}
use Rattle.doc_search.specs.steps.Gathering.{Gathers, HasRead, IsAmid, IsOnWay, IsWeightOf, WeighNoMore, WeighsUpTo, unweighed}
use Rattle.doc_search.specs.steps.ListedRows.{GoesPast, IsLed, Leaves}
use Rattle.doc_search.proofs.Leading.{led_past}
use Rattle.doc_search.proofs.SomeHits.{are_its_hits, hits_of}
use Rattle.doc_search.proofs.Weighing as weighing

-- ---- numbers from one on

above_kept : (n : ℕ) (b : Bool) (e : ℕ × DocRow) (es : List (ℕ × DocRow)) → n ≤ e.0 → All (λ m. n ≤ m) (map (λ (e : ℕ × DocRow). e.0) es) → All (λ m. n ≤ m) (map (λ (e : ℕ × DocRow). e.0) (cond b (e ∷ es) es))
above_kept n true e es on rest = All-cons (λ m. n ≤ m) e.0 (map (λ (e : ℕ × DocRow). e.0) es) on rest
above_kept n false e es on rest = rest

module _ (p : ℕ × DocRow → Bool) where
  above : (n low : ℕ) (docs : List DocRow) → n ≤ low → All (λ m. n ≤ m) (map (λ (e : ℕ × DocRow). e.0) (filter p (enumerate_from low docs)))
  above n low [] on = All-nil (λ m. n ≤ m)
  above n low (doc ∷ docs) on = above_kept n (p (low, doc)) (low, doc) (filter p (enumerate_from (low + 1) docs)) on (above n (low + 1) docs (omega (arith, on)))

  above_dropped : (n k low : ℕ) (docs : List DocRow) → n ≤ low + k → All (λ m. n ≤ m) (map (λ (e : ℕ × DocRow). e.0) (filter p (drop k (enumerate_from low docs))))
  above_dropped n zero low docs on = above n low docs (omega (arith, on))
  above_dropped n (suc k) low [] on = All-nil (λ m. n ≤ m)
  above_dropped n (suc k) low (doc ∷ docs) on = above_dropped n k (low + 1) docs (omega (arith, on))

-- ---- rows of documents

zip_append : {A B : Type 0} (R : A → B → Type 0) (xs : List A) (ys : List B) (more : List A) (others : List B) → AllZip R xs ys → AllZip R more others → AllZip R (xs ++ more) (ys ++ others)
zip_append R [] [] more others zip later = later
zip_append R [] (y ∷ ys) more others zip later = absurd zip
zip_append R (x ∷ xs) [] more others zip later = absurd zip
zip_append R (x ∷ xs) (y ∷ ys) more others zip later = (zip.0, zip_append R xs ys more others zip.1 later)

kept_by : (b : Bool) (row : Row) (rows : List Row) → b ≡ true → cond b (row ∷ rows) rows ≡ row ∷ rows
kept_by b row rows is = ap (λ t. cond t (row ∷ rows) rows) is

kept_all : (question : Question) (rows : List Row) → question.filters ≡ [] → filter (passes question) rows ≡ rows
kept_all question [] none = refl
kept_all question (row ∷ rows) none =
    kept_by (passes question row) row (filter (passes question) rows) (ap (λ (filters : List Filter). list_all (λ condition. holds condition row) filters) none)
    ∙ ap (λ (later : List Row). row ∷ later) (kept_all question rows none)

pub id_on : (docs : List DocRow) (at n : ℕ) (first doc : DocRow) → AllPairs (λ (row later : DocRow). row.doc.id < later.doc.id) docs → slice_get docs at ≡ Some first → slice_get docs n ≡ Some doc → at ≤ n → first.doc.id ≤ doc.doc.id
id_on docs at n first doc ascend here there on =
    elim (cases_eq at n) [
      | inl same ↦ (let it : first ≡ doc = cc in omega (arith, ap (λ (d : DocRow). d.doc.id) it))
      | inr differ ↦
          (let less = ascend at n first (omega (arith, on, differ)) (slice_get_within docs n doc there) in
          let one = get_or_from_slice_get docs at first first here in
          let other = get_or_from_slice_get docs n doc first there in
          omega (arith, less, ap (λ (d : DocRow). d.doc.id) one, ap (λ (d : DocRow). d.doc.id) other))
    ]

-- These documents as rows, each with its weight, which is no more than that, and an id from that one on.
pub record AreBeyond (question : Question) (most from : ℕ) (left : List DocRow) : Type 0 where
  pub rows : List Row
  pub weighed : AllZip (IsRowOf question) left rows
  pub beyond : All (IsBeyond most from) rows

module _ (question : Question) (docs : List DocRow) (most from at : ℕ) (no_more : WeighNoMore question docs most) (ids : (n : ℕ) (doc : DocRow) → at ≤ n → slice_get docs n ≡ Some doc → from ≤ doc.doc.id) where
  one_beyond : (n : ℕ) (doc : DocRow) → at ≤ n → slice_get docs n ≡ Some doc → matches question.query doc ≡ true → (row : Row) × IsRowOf question doc row × IsBeyond most from row
  one_beyond n doc on here fits =
      let up_to : WeighsUpTo question doc most = no_more.each n doc here fits in
      let told = up_to.least (hits_of question.query doc) (are_its_hits question.query doc) in
      let weighed : ℕ = told.0 in
      let of : IsWeightOf question doc (Some weighed) = record { hits = hits_of question.query doc; are = are_its_hits question.query doc; is = sym told.1 } in
      let row : Row = record (unweighed doc) { weight = weighed } in
      let read : HasRead doc row = record { id = refl; values = refl } in
      let beyond : IsBeyond most from row = record { light = told.2; on = ids n doc on here } in
      (row, weighing.row_of question doc row read of, beyond)

  all_beyond : (numbers : List ℕ) (left : List DocRow) → All (λ n. at ≤ n) numbers → AllZip (λ n doc. slice_get docs n ≡ Some doc) numbers left → All (λ doc. matches question.query doc ≡ true) left → AreBeyond question most from left
  all_beyond [] [] on zip fit = record { rows = []; weighed = tt; beyond = All-nil (IsBeyond most from) }
  all_beyond [] (doc ∷ left) on zip fit = absurd zip
  all_beyond (n ∷ numbers) [] on zip fit = absurd zip
  all_beyond (n ∷ numbers) (doc ∷ left) on zip fit =
      let one = one_beyond n doc (All-head (λ n. at ≤ n) n numbers on) zip.0 (All-head (λ (doc : DocRow). matches question.query doc ≡ true) doc left fit) in
      let rest = all_beyond numbers left (All-tail (λ n. at ≤ n) n numbers on) zip.1 (All-tail (λ (doc : DocRow). matches question.query doc ≡ true) doc left fit) in
      record {
        rows = one.0 ∷ rest.rows;
        weighed = (one.1, rest.weighed);
        beyond = All-cons (IsBeyond most from) one.0 rest.rows one.2 rest.beyond;
      }

module _ {S : Type 0} (Took : S → List Row → S → Type 0) (question : Question) (first : S) where
  pub gathers_beyond : (before left : List DocRow) (most from : ℕ) (old new : S) → question.filters ≡ [] → AreBeyond question most from left → Gathers Took question first before old
      → ((rows its : List Row) → All (IsBeyond most from) its → length its ≡ length left → Took first rows old → Took first (rows ++ its) new) → Gathers Took question first (before ++ left) new
  gathers_beyond before left most from old new none beyond so takes = record {
    rows = so.rows ++ beyond.rows;
    weighed = zip_append (IsRowOf question) before so.rows left beyond.rows so.weighed beyond.weighed;
    taken = subst (λ rows. Took first rows new)
        (sym (filter-append (passes question) so.rows beyond.rows ∙ ap (λ (its : List Row). filter (passes question) so.rows ++ its) (kept_all question beyond.rows none)))
        (takes (filter (passes question) so.rows) beyond.rows beyond.beyond (AllZip-long (IsRowOf question) left beyond.rows beyond.weighed) so.taken);
  }

  -- all that is left of a layer is counted
  pub counted_rest : (docs : List DocRow) (dead : List ℕ) (number count most : ℕ) (its : DocRow) (before left : List DocRow) (old new : S) → slice_get docs number ≡ Some its → AllPairs (λ (row later : DocRow). row.doc.id < later.doc.id) docs → WeighNoMore question docs most
      → count ≡ length (matching_from number question.query docs dead)
      → AllZip (λ n doc. slice_get docs n ≡ Some doc) (matching_from number question.query docs dead) left → All (λ doc. matches question.query doc ≡ true) left
      → ((rows its_rows : List Row) → All (IsBeyond most its.doc.id) its_rows → length its_rows ≡ count → Took first rows old → Took first (rows ++ its_rows) new)
      → Gathers Took question first before old → Gathers Took question first (before ++ left) new
  counted_rest docs dead number count most its before left old new here ascend no_more is zip fit takes so =
      let numbers = matching_from number question.query docs dead in
      let on : All (λ n. number ≤ n) numbers = above_dropped (λ (e : ℕ × DocRow). matches question.query e.1 && not (list_any (λ d. d == e.0) dead)) number number 0 docs (omega arith) in
      let beyond : AreBeyond question most its.doc.id left =
      all_beyond question docs most its.doc.id number no_more (λ n doc after there. id_on docs number n its doc ascend here there after) numbers left on zip fit in
      gathers_beyond before left most its.doc.id old new no_more.none beyond so
      (λ rows its_rows all long took. takes rows its_rows all (omega (arith, long, is, AllZip-long (λ n doc. slice_get docs n ≡ Some doc) numbers left zip)) took)

-- ---- within a layer

all_later : (P : DocRow → Type 0) (xs ys : List DocRow) → All P (xs ++ ys) → All P ys
all_later P [] ys all = all
all_later P (x ∷ xs) ys all = all_later P xs ys (All-tail P x (xs ++ ys) all)

all_match : (question : Question) (docs : List DocRow) → All (λ doc. matches question.query doc ≡ true) (filter (matches question.query) docs)
all_match question docs k d within = filter_passes (matches question.query) docs k d within

module _ {S : Type 0} (Took : S → List Row → S → Type 0) (question : Question) (layer : LayerValue) (docs : List DocRow) (its : docs ≡ layer.rows) (start here there : S) where
  on_way_counted : (number : ℕ) (old mid : Stream) → GoesTo old number mid → IsOnWay Took question layer start old here
      → ((first : S) (before left : List DocRow) → AllZip (λ n doc. slice_get docs n ≡ Some doc) (matching_from number question.query docs layer.dead) left → All (λ doc. matches question.query doc ≡ true) left → Gathers Took question first before here → Gathers Took question first (before ++ left) there)
      → (first : S) (before : List DocRow) → Gathers Took question first before start → Gathers Took question first (before ++ filter (matches question.query) (living layer)) there
  on_way_counted number old mid goes way counts first before so =
      let amid : IsAmid Took question first layer.rows (filter (matches question.query) (living layer)) before (ahead old) here = way.amid first before so in
      let now : ahead old ≡ matching_from number question.query docs layer.dead =
      sym goes.kept
      ∙ ap ahead goes.stands
      ∙ ap (λ query. matching_from number query old.rows old.dead) way.query
      ∙ ap (λ rows. matching_from number question.query rows old.dead) (way.docs ∙ sym its)
      ∙ ap (matching_from number question.query docs) way.dead in
      let zip : AllZip (λ n doc. slice_get docs n ≡ Some doc) (matching_from number question.query docs layer.dead) amid.left =
      subst (λ numbers. AllZip (λ n doc. slice_get docs n ≡ Some doc) numbers amid.left) now
      (subst (λ rows. AllZip (λ n doc. slice_get rows n ≡ Some doc) (ahead old) amid.left) (sym its) amid.numbers) in
      let fit : All (λ doc. matches question.query doc ≡ true) amid.left =
      all_later (λ doc. matches question.query doc ≡ true) amid.seen amid.left (subst (All (λ doc. matches question.query doc ≡ true)) (sym amid.all) (all_match question (living layer))) in
      let told : Gathers Took question first ((before ++ amid.seen) ++ amid.left) there = counts first (before ++ amid.seen) amid.left zip fit amid.gathers in
      subst (λ gathered. Gathers Took question first gathered there) (append_assoc before amid.seen amid.left ∙ ap (λ found. before ++ found) amid.all) told

  -- the rest was counted from the row on to which the search went
  pub led_counted : (at number : ℕ) (old mid : Stream) (rows later : ListedRows) → IsLed Took question layer start old at rows here → (Leaves question docs at rows → GoesPast question docs at old (Some number) mid later)
      → ((first : S) (before left : List DocRow) → AllZip (λ n doc. slice_get docs n ≡ Some doc) (matching_from number question.query docs layer.dead) left → All (λ doc. matches question.query doc ≡ true) left → Gathers Took question first before here → Gathers Took question first (before ++ left) there)
      → (first : S) (before : List DocRow) → Gathers Took question first before start → Gathers Took question first (before ++ filter (matches question.query) (living layer)) there
  led_counted at number old mid rows later led goes counts =
      let past = led_past Took question layer docs its start here at old mid (Some number) rows later led goes in
      on_way_counted number (record old { at = past.0.from }) mid past.0.on past.1 counts
