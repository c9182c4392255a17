-- Rows that are gone over many at a time.
use Rattle.std.proofs.Common.{◌≡◌, ◌∙◌, ℕ, ◌+◌, ◌<◌, ◌≤◌, Bool, true, false, cond, ◌&&◌, List, [], ◌∷◌, ◌++◌, Some, Result, Err, length, get_or, slice_get, append_assoc, refl, sym, ap, subst, arith}
use Rattle.std.specs.Prelude.{All, AllPairs, ◌==◌, not}
use Rattle.std.specs.List.{AllZip, filter, list_any}
use Rattle.std.proofs.lemmas.Bool.{and_parts}
use Rattle.std.proofs.lemmas.Option.{get_or_from_slice_get, slice_get-get_or, slice_get_within}
use Rattle.std.proofs.lemmas.Slice.Zip.{AllZip-long}
use Rattle.std.proofs.lemmas.List.Elements.{All-cons, All-head, All-nil, All-tail}
use Rattle.doc_types.specs.declared.documents.DocRow.{DocRow}
use Rattle.doc_types.specs.Snapshots.{LayerValue, living}
use Rattle.op_eval.specs.Matching.{matches}
use Rattle.op_eval.specs.Streams.{GoesTo, Stream, ahead, matching_from}
use Rattle.op_eval.specs.steps.Streaming.{is_matching}
use Rattle.op_eval.proofs.RowsAhead.{row_ahead}
use Rattle.query_tree.specs.declared.query.Query.{Query}
use Rattle.row_flags.specs.Windows.{AreTold, IsTold}
use Rattle.row_flags.specs.declared.windows.Told.{Told}
use Rattle.row_select.specs.Sinks.{IsBeyond}
use Rattle.row_select.specs.declared.row.Row.{Row}
use Rattle.doc_search.specs.Searches.{IsRowOf}
use Rattle.doc_search.specs.declared.question.Question.{Question}
use Rattle.doc_search.specs.steps.Gathering.{Gathers, HasRead, IsAmid, IsOnWay, IsWeightOf, WeighsUpTo, unweighed}
use Rattle.doc_search.specs.steps.Windows.{Carries, IsRun, standing}
use Rattle.doc_search.specs.declared.listed_rows.ListedRows.{ListedRows}
use Rattle.doc_search.specs.steps.ListedRows.{GoesPast, IsLed, Leaves}
use Rattle.doc_search.proofs.Gathering.{on_way_next}
use Rattle.doc_search.proofs.Leading.{leaves_later, led_past}
use Rattle.doc_search.proofs.LayerRest.{AreBeyond, gathers_beyond, id_on}
use Rattle.srch_base.specs.declared.faults.Or.{Or}
use Rattle.srch_base.specs.declared.faults.Or.TheVariants.{NoMemory, Fault}
use Rattle.std.specs.Prelude.{IsErrAnd}
use Rattle.std.proofs.lemmas.Result.{err_from_is_err_and}
use Rattle.doc_search.specs.Searches.{LacksWeight}
use Rattle.doc_search.specs.declared.lacking.NoWeight.{NoWeight}
use Rattle.doc_search.specs.steps.Lacking.{IfStopped, LacksSome}
use Rattle.doc_search.proofs.Stopping.{on_way_living, when_stopped}
use Rattle.doc_search.proofs.SomeHits.{are_its_hits, hits_of}
use Rattle.doc_search.proofs.Weighing as weighing

-- ---- the rows ahead

-- one row is left behind, which is ahead where it is found
pub row_told : (query : Query) (docs : List DocRow) (dead : List ℕ) (n : ℕ) (doc : DocRow) (found : Bool) → slice_get docs n ≡ Some doc → found ≡ (matches query doc && not (list_any (λ d. d == n) dead)) → matching_from n query docs dead ≡ cond found (n ∷ []) [] ++ matching_from (n + 1) query docs dead
row_told query docs dead n doc found here is =
    row_ahead (is_matching query dead) docs n doc found (slice_get_within docs n doc here)
    (ap (λ (its : DocRow). is_matching query dead (n, its)) (get_or_from_slice_get docs n doc doc here) ∙ sym is)

-- one that isn't found is none of them
pub row_left : (query : Query) (docs : List DocRow) (dead : List ℕ) (n : ℕ) (doc : DocRow) (its : Told) → slice_get docs n ≡ Some doc → IsTold query dead n doc its → its.found ≡ false → matching_from n query docs dead ≡ matching_from (n + 1) query docs dead
row_left query docs dead n doc its here told not_found = row_told query docs dead n doc false here (sym not_found ∙ told.found)

-- one that is found is the first of them
pub row_first : (query : Query) (docs : List DocRow) (dead : List ℕ) (n : ℕ) (doc : DocRow) (its : Told) → slice_get docs n ≡ Some doc → IsTold query dead n doc its → its.found ≡ true → matching_from n query docs dead ≡ n ∷ matching_from (n + 1) query docs dead
row_first query docs dead n doc its here told found = row_told query docs dead n doc true here (sym found ∙ told.found)

-- and lives
not_gone : (b : Bool) → not b ≡ true → b ≡ false
not_gone true is = cc
not_gone false is = refl

pub found_lives : (query : Query) (dead : List ℕ) (n : ℕ) (doc : DocRow) (its : Told) → IsTold query dead n doc its → its.found ≡ true → list_any (λ d. d == n) dead ≡ false
found_lives query dead n doc its told found = not_gone (list_any (λ d. d == n) dead) (and_parts (matches query doc) (not (list_any (λ d. d == n) dead)) (sym told.found ∙ found)).1

-- ---- runs

module _ (question : Question) (docs : List DocRow) (dead : List ℕ) (most : ℕ) where
  abbrev WeighsLittle : ℕ → ℕ → Type 0
  WeighsLittle from n = (from ≤ n) × ((doc : DocRow) → slice_get docs n ≡ Some doc → WeighsUpTo question doc most)

  pub run_first : (n : ℕ) (doc : DocRow) (its : Told) → slice_get docs n ≡ Some doc → IsTold question.query dead n doc its → its.found ≡ true → ((doc : DocRow) → slice_get docs n ≡ Some doc → WeighsUpTo question doc most) → IsRun question docs dead n (n + 1) most 1
  run_first n doc its here told found weighs = record {
    numbers = n ∷ [];
    ahead = row_first question.query docs dead n doc its here told found;
    long = refl;
    each = All-cons (WeighsLittle n) n [] (omega arith, weighs) (All-nil (WeighsLittle n));
  }

  pub run_past : (from n rows : ℕ) (doc : DocRow) (its : Told) → slice_get docs n ≡ Some doc → IsTold question.query dead n doc its → its.found ≡ false → IsRun question docs dead from n most rows → IsRun question docs dead from (n + 1) most rows
  run_past from n rows doc its here told not_found run = record {
    numbers = run.numbers;
    ahead = run.ahead ∙ ap (λ later. run.numbers ++ later) (row_left question.query docs dead n doc its here told not_found);
    long = run.long;
    each = run.each;
  }

  all_with : (P : ℕ → Type 0) (ns : List ℕ) (n : ℕ) → All P ns → P n → All P (ns ++ n ∷ [])
  all_with P [] n all one = All-cons P n [] one (All-nil P)
  all_with P (m ∷ ns) n all one = All-cons P m (ns ++ n ∷ []) (All-head P m ns all) (all_with P ns n (All-tail P m ns all) one)

  long_with : (ns : List ℕ) (n : ℕ) → length (ns ++ n ∷ []) ≡ length ns + 1
  long_with [] n = refl
  long_with (m ∷ ns) n = let rest : length (ns ++ n ∷ []) ≡ length ns + 1 = long_with ns n in omega (arith, rest)

  pub run_on : (from n rows : ℕ) (doc : DocRow) (its : Told) → from ≤ n → slice_get docs n ≡ Some doc → IsTold question.query dead n doc its → its.found ≡ true → WeighsUpTo question doc most → IsRun question docs dead from n most rows → IsRun question docs dead from (n + 1) most (rows + 1)
  run_on from n rows doc its on here told found weighs run = record {
    numbers = run.numbers ++ n ∷ [];
    ahead = run.ahead
        ∙ ap (λ later. run.numbers ++ later) (row_first question.query docs dead n doc its here told found)
        ∙ sym (append_assoc run.numbers (n ∷ []) (matching_from (n + 1) question.query docs dead));
    long = long_with run.numbers n ∙ ap (λ many. many + 1) run.long;
    each = all_with (WeighsLittle from) run.numbers n run.each (on, λ other there. let same : doc ≡ other = cc in subst (λ (d : DocRow). WeighsUpTo question d most) same weighs);
  }

-- what is at a place of a list
pub at_place : {X : Type 0} (xs : List X) (n : ℕ) → n < length xs → (x : X) × (slice_get xs n ≡ Some x)
at_place [] n within = absurd (omega (arith, within))
at_place (x ∷ xs) n within = (get_or (x ∷ xs) n x, slice_get-get_or (x ∷ xs) n x within)

-- ---- the rows of which it is told

module _ (question : Question) (docs : List DocRow) (dead : List ℕ) (from : ℕ) (told : List Told) (are : AreTold question.query dead docs from told) where
  pub told_at : (i : ℕ) (its : Told) → i < length told → slice_get told i ≡ Some its → (doc : DocRow) × (slice_get docs (from + i) ≡ Some doc) × IsTold question.query dead (from + i) doc its
  told_at i its within here =
      let there = at_place docs (from + i) (omega (arith, within, are.within)) in
      (there.0, there.1, are.each i there.0 its there.1 here)

  pub told_first : (most i : ℕ) (its : Told) → i < length told → slice_get told i ≡ Some its → its.found ≡ true → ((doc : DocRow) → slice_get docs (from + i) ≡ Some doc → WeighsUpTo question doc most) → IsRun question docs dead (from + i) (from + (i + 1)) most 1
  told_first most i its within here found weighs =
      let at = told_at i its within here in
      let next : from + i + 1 ≡ from + (i + 1) = omega arith in
      subst (λ n. IsRun question docs dead (from + i) n most 1) next (run_first question docs dead most (from + i) at.0 its at.1 at.2 found weighs)

  pub told_past : (most first i rows : ℕ) (its : Told) → i < length told → slice_get told i ≡ Some its → its.found ≡ false → IsRun question docs dead first (from + i) most rows → IsRun question docs dead first (from + (i + 1)) most rows
  told_past most first i rows its within here not_found run =
      let at = told_at i its within here in
      let next : from + i + 1 ≡ from + (i + 1) = omega arith in
      subst (λ n. IsRun question docs dead first n most rows) next (run_past question docs dead most first (from + i) rows at.0 its at.1 at.2 not_found run)

  pub told_on : (most first i rows : ℕ) (its : Told) → first ≤ from + i → i < length told → slice_get told i ≡ Some its → its.found ≡ true → ((doc : DocRow) → slice_get docs (from + i) ≡ Some doc → IsTold question.query dead (from + i) doc its → WeighsUpTo question doc most) → IsRun question docs dead first (from + i) most rows → IsRun question docs dead first (from + (i + 1)) most (rows + 1)
  told_on most first i rows its on within here found weighs run =
      let at = told_at i its within here in
      let next : from + i + 1 ≡ from + (i + 1) = omega arith in
      subst (λ n. IsRun question docs dead first n most (rows + 1)) next (run_on question docs dead most first (from + i) rows at.0 its on at.1 at.2 found (weighs at.0 at.1 at.2) run)

-- what weighs no more than that weighs no more than what is more
pub weighs_more : (question : Question) (doc : DocRow) (own most : ℕ) → own ≤ most → WeighsUpTo question doc own → WeighsUpTo question doc most
weighs_more question doc own most low up_to = record {
  fits = up_to.fits;
  any = up_to.any;
  least = λ hits are. let told = up_to.least hits are in (told.0, told.1, omega (arith, told.2, low));
}

-- ---- what is gathered

-- the two fronts of documents that belong to two fronts of numbers
record Parts (docs : List DocRow) (front later : List ℕ) (left : List DocRow) : Type 0 where
  pub first : List DocRow
  pub rest : List DocRow
  pub both : first ++ rest ≡ left
  pub firsts : AllZip (λ n doc. slice_get docs n ≡ Some doc) front first
  pub rests : AllZip (λ n doc. slice_get docs n ≡ Some doc) later rest

parts_of : (docs : List DocRow) (front later : List ℕ) (left : List DocRow) → AllZip (λ n doc. slice_get docs n ≡ Some doc) (front ++ later) left → Parts docs front later left
parts_of docs [] later left zip = record { first = []; rest = left; both = refl; firsts = tt; rests = zip }
parts_of docs (n ∷ front) later [] zip = absurd zip
parts_of docs (n ∷ front) later (doc ∷ left) zip =
    let parts = parts_of docs front later left zip.1 in
    record { first = doc ∷ parts.first; rest = parts.rest; both = ap (λ (more : List DocRow). doc ∷ more) parts.both; firsts = (zip.0, parts.firsts); rests = parts.rests }

module _ (question : Question) (docs : List DocRow) (most low from : ℕ) (ids : (n : ℕ) (doc : DocRow) → from ≤ n → slice_get docs n ≡ Some doc → low ≤ doc.doc.id) where
  one_beyond : (doc : DocRow) → WeighsUpTo question doc most → low ≤ doc.doc.id → (row : Row) × IsRowOf question doc row × IsBeyond most low row
  one_beyond doc up_to on =
      let told = up_to.least (hits_of question.query doc) (are_its_hits question.query doc) in
      let weighed : ℕ = told.0 in
      let of : IsWeightOf question doc (Some weighed) = record { hits = hits_of question.query doc; are = are_its_hits question.query doc; is = sym told.1 } in
      let row : Row = record (unweighed doc) { weight = weighed } in
      let read : HasRead doc row = record { id = refl; values = refl } in
      let beyond : IsBeyond most low row = record { light = told.2; on = on } in
      (row, weighing.row_of question doc row read of, beyond)

  run_beyond : (numbers : List ℕ) (left : List DocRow) → All (λ n. (from ≤ n) × ((doc : DocRow) → slice_get docs n ≡ Some doc → WeighsUpTo question doc most)) numbers → AllZip (λ n doc. slice_get docs n ≡ Some doc) numbers left → AreBeyond question most low left
  run_beyond [] [] all zip = record { rows = []; weighed = tt; beyond = All-nil (IsBeyond most low) }
  run_beyond [] (doc ∷ left) all zip = absurd zip
  run_beyond (n ∷ numbers) [] all zip = absurd zip
  run_beyond (n ∷ numbers) (doc ∷ left) all zip =
      let here = All-head (WeighsLittle question docs [] most from) n numbers all in
      let one = one_beyond doc (here.1 doc zip.0) (ids n doc here.0 zip.0) in
      let rest = run_beyond numbers left (All-tail (WeighsLittle question docs [] most from) n numbers all) zip.1 in
      record {
        rows = one.0 ∷ rest.rows;
        weighed = (one.1, rest.weighed);
        beyond = All-cons (IsBeyond most low) one.0 rest.rows one.2 rest.beyond;
      }

module _ {S : Type 0} (Took : S → List Row → S → Type 0) (question : Question) (docs : List DocRow) (dead : List ℕ) where
  -- nothing was done, and no row is ahead any less
  pub carries_over : (from to : ℕ) (here : S) → matching_from from question.query docs dead ≡ matching_from to question.query docs dead → Carries Took question docs dead from to here here
  carries_over from to here same layer start way = record {
    query = way.query;
    docs = way.docs;
    dead = way.dead;
    amid = λ first before so. subst (λ numbers. IsAmid Took question first layer.rows (filter (matches question.query) (living layer)) before numbers here) same (way.amid first before so);
  }

  -- a row that lives was gathered, if it matches
  pub carries_row : (n : ℕ) (here there : S) → n < length docs → list_any (λ d. d == n) dead ≡ false → ((first : S) (gathered : List DocRow) (doc : DocRow) → slice_get docs n ≡ Some doc → Gathers Took question first gathered here → Gathers Took question first (gathered ++ filter (matches question.query) (doc ∷ [])) there) → Carries Took question docs dead n (n + 1) here there
  carries_row n here there within lives takes layer start way =
      let goes : GoesTo (standing question docs dead n) n (standing question docs dead n) = record { stands = refl; on = omega arith; within = within; living = lives; kept = refl } in
      on_way_next Took question layer docs n (standing question docs dead n) (standing question docs dead n) (standing question docs dead (n + 1)) start here there way.docs goes refl way takes

  -- nothing was done with a row that isn't found
  pub carries_past : (n : ℕ) (doc : DocRow) (its : Told) (here : S) → slice_get docs n ≡ Some doc → IsTold question.query dead n doc its → its.found ≡ false → Carries Took question docs dead n (n + 1) here here
  carries_past n doc its here at told not_found = carries_over n (n + 1) here (row_left question.query docs dead n doc its at told not_found)

  -- a row that is found was gathered
  pub carries_found : (n : ℕ) (doc : DocRow) (its : Told) (here there : S) → slice_get docs n ≡ Some doc → IsTold question.query dead n doc its → its.found ≡ true → ((first : S) (gathered : List DocRow) → Gathers Took question first gathered here → Gathers Took question first (gathered ++ filter (matches question.query) (doc ∷ [])) there) → Carries Took question docs dead n (n + 1) here there
  carries_found n doc its here there at told found takes =
      carries_row n here there (slice_get_within docs n doc at) (found_lives question.query dead n doc its told found)
      (λ first gathered other there_is so. let same : doc ≡ other = cc in subst (λ (d : DocRow). Gathers Took question first (gathered ++ filter (matches question.query) (d ∷ [])) there) same (takes first gathered so))

  -- the row behind an index is that of the next index
  pub carries_at : (from i : ℕ) (here there : S) → Carries Took question docs dead (from + i) (from + i + 1) here there → Carries Took question docs dead (from + i) (from + (i + 1)) here there
  carries_at from i here there carries = let next : from + i + 1 ≡ from + (i + 1) = omega arith in subst (λ n. Carries Took question docs dead (from + i) n here there) next carries

  -- rows were counted
  pub carries_run : (from to most rows : ℕ) (its : DocRow) (here there : S) → slice_get docs from ≡ Some its → AllPairs (λ (row later : DocRow). row.doc.id < later.doc.id) docs → question.filters ≡ [] → IsRun question docs dead from to most rows
      → ((first : S) (taken its_rows : List Row) → All (IsBeyond most its.doc.id) its_rows → length its_rows ≡ rows → Took first taken here → Took first (taken ++ its_rows) there)
      → Carries Took question docs dead from to here there
  carries_run from to most rows its here there at ascend none run takes layer start way = record {
    query = way.query;
    docs = way.docs;
    dead = way.dead;
    amid = λ first before so.
        let amid = way.amid first before so in
        let zip : AllZip (λ n doc. slice_get docs n ≡ Some doc) (run.numbers ++ matching_from to question.query docs dead) amid.left =
        subst (λ numbers. AllZip (λ n doc. slice_get docs n ≡ Some doc) numbers amid.left) run.ahead
        (subst (λ all. AllZip (λ n doc. slice_get all n ≡ Some doc) (matching_from from question.query docs dead) amid.left) (sym way.docs) amid.numbers) in
        let parts = parts_of docs run.numbers (matching_from to question.query docs dead) amid.left zip in
        let beyond : AreBeyond question most its.doc.id parts.first =
        run_beyond question docs most its.doc.id from (λ n doc on there. id_on docs from n its doc ascend at there on) run.numbers parts.first run.each parts.firsts in
        record {
          seen = amid.seen ++ parts.first;
          left = parts.rest;
          all = append_assoc amid.seen parts.first parts.rest ∙ ap (λ (more : List DocRow). amid.seen ++ more) parts.both ∙ amid.all;
          numbers = subst (λ all. AllZip (λ n doc. slice_get all n ≡ Some doc) (matching_from to question.query docs dead) parts.rest) way.docs parts.rests;
          gathers = subst (λ found. Gathers Took question first found there) (append_assoc before amid.seen parts.first)
              (gathers_beyond Took question first (before ++ amid.seen) parts.first most its.doc.id here there none beyond amid.gathers
              (λ taken its_rows all long took. takes first taken its_rows all (long ∙ AllZip-long (λ n doc. slice_get docs n ≡ Some doc) run.numbers parts.first parts.firsts ∙ run.long) took));
        };
  }

-- ---- over a layer

module _ {S : Type 0} (Took : S → List Row → S → Type 0) (question : Question) (layer : LayerValue) (docs : List DocRow) (its : docs ≡ layer.rows) (dead : List ℕ) (out : dead ≡ layer.dead) (start here : S) where
  -- where a search stands that went on to a row
  goes_standing : (old mid : Stream) (number : ℕ) → IsOnWay Took question layer start old here → GoesTo old number mid → mid ≡ standing question docs dead number
  goes_standing old mid number way goes =
      goes.stands
      ∙ ap (λ (query : Query). record { query = query; rows = old.rows; dead = old.dead; at = number }) way.query
      ∙ ap (λ (rows : List DocRow). record { query = question.query; rows = rows; dead = old.dead; at = number }) (way.docs ∙ sym its)
      ∙ ap (λ (gone : List ℕ). record { query = question.query; rows = docs; dead = gone; at = number }) (way.dead ∙ sym out)

  goes_way : (old mid : Stream) (number : ℕ) → IsOnWay Took question layer start old here → GoesTo old number mid → IsOnWay Took question layer start (standing question docs dead number) here
  goes_way old mid number way goes = record {
    query = refl;
    docs = its;
    dead = out;
    amid = λ first before so. subst (λ numbers. IsAmid Took question first layer.rows (filter (matches question.query) (living layer)) before numbers here)
        (sym goes.kept ∙ ap ahead (goes_standing old mid number way goes)) (way.amid first before so);
  }

  -- what is known of a search that was led to a row
  pub record LedTo (number : ℕ) (mid : Stream) (rows : ListedRows) : Type 0 where
    pub stands : mid ≡ standing question docs dead number
    pub lives : list_any (λ d. d == number) dead ≡ false
    pub within : number < length docs
    pub way : IsOnWay Took question layer start (standing question docs dead number) here
    pub leaves : Leaves question layer.rows (number + 1) rows

  pub led_there : (at number : ℕ) (old mid : Stream) (rows later : ListedRows) → IsLed Took question layer start old at rows here → (Leaves question docs at rows → GoesPast question docs at old (Some number) mid later) → LedTo number mid later
  led_there at number old mid rows later led goes =
      let past = led_past Took question layer docs its start here at old mid (Some number) rows later led goes in
      let from : Stream = record old { at = past.0.from } in
      record {
        stands = goes_standing from mid number past.1 past.0.on;
        lives = subst (λ gone. list_any (λ d. d == number) gone ≡ false) (past.1.dead ∙ sym out) past.0.on.living;
        within = omega (arith, past.0.on.within, ap (λ (rows : List DocRow). length rows) (past.1.docs ∙ sym its));
        way = goes_way from mid number past.1 past.0.on;
        leaves = past.0.leaves;
      }

  -- and goes on from there
  pub led_carried : (number to : ℕ) (mid new : Stream) (rows : ListedRows) (there : S) → LedTo number mid rows → number < to → to ≤ length docs → new ≡ standing question docs dead to → Carries Took question docs dead number to here there → IsLed Took question layer start new to rows there
  led_carried number to mid new rows there led on within stands carries = record {
    way = subst (λ (it : Stream). IsOnWay Took question layer start it there) (sym stands) (carries layer start led.way);
    stands = ap (λ (it : Stream). it.at) stands;
    within = omega (arith, within, ap (λ (rows : List DocRow). length rows) its);
    leaves = leaves_later question layer.rows (number + 1) to rows (omega (arith, on)) led.leaves;
  }

-- ---- a search that stops

module _ {S : Type 0} (Took : S → List Row → S → Type 0) (question : Question) (docs : List DocRow) (dead : List ℕ) (start here : S) (nothing : Took start [] start) (layer : LayerValue) where
  -- a document at which a search stands lives, if it matches and isn't dead
  pub row_stops : (n : ℕ) (doc : DocRow) → slice_get docs n ≡ Some doc → list_any (λ d. d == n) dead ≡ false → IsOnWay Took question layer start (standing question docs dead n) here
      → (end : Or NoWeight) → IfStopped {A = Unit {0}} (Err end) (LacksWeight question doc) → IfStopped {A = Unit {0}} (Err end) (LacksSome question (living layer))
  row_stops n doc at lives way end lacks =
      let goes : GoesTo (standing question docs dead n) n (standing question docs dead n) = record { stands = refl; on = omega arith; within = slice_get_within docs n doc at; living = lives; kept = refl } in
      let there : slice_get layer.rows n ≡ Some doc = ap (λ rows. slice_get rows n) (sym way.docs) ∙ at in
      when_stopped (LacksWeight question doc) (LacksSome question (living layer)) end (λ own. (doc, on_way_living Took question layer n (standing question docs dead n) (standing question docs dead n) start here doc nothing goes way there own.fits, own)) lacks

handed : (A B : Type 0) (P : Type 0) (e : Or NoWeight) → IfStopped {A = B} (Err e) P → IfStopped {A = A} (Err e) P
handed A B P NoMemory so = tt
handed A B P (Fault stop) so = so

-- what is handed on says the same
pub stopped_as : (A B : Type 0) (P : Type 0) (e : Or NoWeight) (result : Result A (Or NoWeight)) → IsErrAnd result (λ y. y ≡ e) → IfStopped {A = B} (Err e) P → IfStopped {A = A} result P
stopped_as A B P e result err so =
    let (y, is, same) = err_from_is_err_and result err in
    subst (λ (r : Result A (Or NoWeight)). IfStopped {A = A} r P) (sym (is ∙ ap Err same)) (handed A B P e so)
