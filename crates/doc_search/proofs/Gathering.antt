-- What a search gathers, document by document and layer by layer.
use Rattle.std.proofs.Common.{◌≡◌, ℕ, ◌+◌, ◌-◌, ◌<◌, ◌≤◌, zero, suc, List, [], ◌∷◌, ◌++◌, Bool, true, false, cond, Option, Some, slice_get, length, take, get_or, refl, sym, ap, subst, ◌∙◌, append_assoc, append-nil, arith}
use Rattle.std.specs.Prelude.{◌&&◌, ◌==◌, unwrap_or}
use Rattle.std.specs.List.{AllZip, filter, list_any}
use Rattle.std.proofs.lemmas.Bool.{and_left}
use Rattle.std.proofs.lemmas.List.{take_more, take_all}
use Rattle.std.proofs.lemmas.List.Concat.{flat_map-append}
use Rattle.std.proofs.lemmas.List.Elements.{filter-append}
use Rattle.doc_types.specs.declared.documents.DocRow.{DocRow}
use Rattle.doc_types.specs.Snapshots.{LayerValue, all_living, living}
use Rattle.op_eval.specs.Matching.{matches, matching}
use Rattle.op_eval.specs.Streams.{GoesTo, Stream, ahead}
use Rattle.op_eval.proofs.NextMatches.{ahead_here, dead_row}
use Rattle.word_rows.proofs.Opening.{row_there}
use Rattle.word_rows.proofs.Zipped.{zip_push}
use Rattle.row_select.specs.Filters.{hold_unweighed, hold_weighed}
use Rattle.row_select.proofs.InTwoParts.{hold_any_weight, hold_in_two}
use Rattle.row_select.specs.declared.row.Row.{Row}
use Rattle.doc_search.specs.Searches.{IsRowOf, passes, weight_of}
use Rattle.doc_search.specs.declared.question.Question.{Question}
use Rattle.doc_search.specs.steps.Gathering.{Gathers, IsAmid, IsOnWay, IsWeightOf, StandsAt, matching_in, unweighed}
use Rattle.doc_search.specs.steps.ListedRows.{GoBy, holds_of}
use Rattle.doc_search.proofs.Numbered.{numbers_beside}
use Rattle.doc_search.proofs.SomeHits.{are_its_hits, hits_of}

-- the number is one of the document
abbrev IsNumberOf : List DocRow → ℕ → DocRow → Type 0
IsNumberOf docs number doc = slice_get docs number ≡ Some doc

module _ {S : Type 0} (Took : S → List Row → S → Type 0) (question : Question) (first : S) where
  -- the rows that pass, once one more is there
  passing_more : (rows : List Row) (row : Row) (b : Bool) → passes question row ≡ b → filter (passes question) (rows ++ row ∷ []) ≡ filter (passes question) rows ++ cond b (row ∷ []) []
  passing_more rows row b e = filter-append (passes question) rows (row ∷ []) ∙ ap (λ t. filter (passes question) rows ++ cond t (row ∷ []) []) e

  pub gathers_none : Took first [] first → Gathers Took question first [] first
  gathers_none taken = record { rows = []; weighed = tt; taken = taken }

  -- a document that passes is offered
  pub gathers_more : (docs : List DocRow) (doc : DocRow) (row : Row) (old new : S) → Gathers Took question first docs old → IsRowOf question doc row → passes question row ≡ true → ((rows : List Row) → Took first rows old → Took first (rows ++ row ∷ []) new) → Gathers Took question first (docs ++ doc ∷ []) new
  gathers_more docs doc row old new so its passing offers = record {
    rows = so.rows ++ row ∷ [];
    weighed = zip_push (IsRowOf question) docs so.rows doc row so.weighed its;
    taken = subst (λ rows. Took first rows new) (sym (passing_more so.rows row true passing)) (offers (filter (passes question) so.rows) so.taken);
  }

  -- and another one isn't
  pub gathers_same : (docs : List DocRow) (doc : DocRow) (row : Row) (here : S) → Gathers Took question first docs here → IsRowOf question doc row → passes question row ≡ false → Gathers Took question first (docs ++ doc ∷ []) here
  gathers_same docs doc row here so its failing = record {
    rows = so.rows ++ row ∷ [];
    weighed = zip_push (IsRowOf question) docs so.rows doc row so.weighed its;
    taken = subst (λ rows. Took first rows here) (sym (passing_more so.rows row false failing ∙ append-nil (filter (passes question) so.rows))) so.taken;
  }

  -- a row that doesn't pass, with its weight or without one
  pub row_failing : (doc : DocRow) (row : Row) → row.id ≡ doc.doc.id → row.values ≡ doc.doc.values → passes question row ≡ false → (weighed : Option ℕ) → IsWeightOf question doc weighed → row.weight ≡ unwrap_or weighed 0 → IsRowOf question doc row
  row_failing doc row id values failing weighed of is = record {
    hits = of.hits;
    are = of.are;
    id = id;
    weight = is ∙ ap (λ (weight : Option ℕ). unwrap_or weight 0) of.is;
    ranked = λ passing. let never : true ≡ false = sym passing ∙ failing in cc;
    values = values;
  }

  -- ---- a document by its conditions
  -- the document with the weight of its hits
  abbrev weighed_row : DocRow → Row
  weighed_row doc = record (unweighed doc) { weight = unwrap_or (weight_of question doc (hits_of question.query doc)) 0 }

  -- it fails one of the conditions that look at no weight, whether it matches or not
  pub gathers_past : (docs : List DocRow) (doc : DocRow) (here : S) → hold_unweighed question.filters (unweighed doc) ≡ false → Gathers Took question first docs here → Gathers Took question first (docs ++ filter (matches question.query) (doc ∷ [])) here
  gathers_past docs doc here fails so =
      let row : Row = weighed_row doc in
      let failing : passes question row ≡ false =
      hold_in_two question.filters row
      ∙ and_left (hold_unweighed question.filters row) (hold_weighed question.filters row) (hold_any_weight row (unweighed doc) refl refl question.filters ∙ fails) in
      let its : IsRowOf question doc row = row_failing doc row refl refl failing (weight_of question doc (hits_of question.query doc)) (record { hits = hits_of question.query doc; are = are_its_hits question.query doc; is = refl }) refl in
      elim (matches question.query doc) as (λ b. Gathers Took question first (docs ++ cond b (doc ∷ []) []) here) [
        | true ↦ gathers_same docs doc row here so its failing
        | false ↦ subst (λ gathered. Gathers Took question first gathered here) (sym (append-nil docs)) so
      ]

  -- it passes those
  pub passes_as : (row weighed : Row) → weighed.id ≡ row.id → weighed.values ≡ row.values → hold_unweighed question.filters row ≡ true → passes question weighed ≡ hold_weighed question.filters weighed
  passes_as row weighed id values passing =
      hold_in_two question.filters weighed
      ∙ ap (λ b. b && hold_weighed question.filters weighed) (hold_any_weight weighed row id values question.filters ∙ passing)

  -- ---- within a layer
  amid_first : (layer : LayerValue) (docs : List DocRow) (dead : List ℕ) (stream : Stream) (before : List DocRow) (here : S) → docs ≡ layer.rows → dead ≡ layer.dead → stream ≡ record { query = question.query; rows = docs; dead = dead; at = 0 } → Gathers Took question first before here → IsAmid Took question first layer.rows (filter (matches question.query) (living layer)) before (ahead stream) here
  amid_first layer docs dead stream before here its out told so =
      let all : ahead stream ≡ matching question.query layer.rows layer.dead =
      ap ahead told
      ∙ ap (λ rows. matching question.query rows dead) its
      ∙ ap (matching question.query layer.rows) out in
      record {
        seen = [];
        left = filter (matches question.query) (living layer);
        all = refl;
        numbers = subst (λ numbers. AllZip (IsNumberOf layer.rows) numbers (filter (matches question.query) (living layer))) (sym all) (numbers_beside question.query layer);
        gathers = subst (λ found. Gathers Took question first found here) (sym (append-nil before)) so;
      }

  module _ (docs wanted before : List DocRow) where
    next_of : (row : ℕ) (ahead : List ℕ) (old new : S) (seen left : List DocRow) → seen ++ left ≡ wanted → AllZip (IsNumberOf docs) (row ∷ ahead) left → Gathers Took question first (before ++ seen) old → ((gathered : List DocRow) (doc : DocRow) → slice_get docs row ≡ Some doc → Gathers Took question first gathered old → Gathers Took question first (gathered ++ doc ∷ []) new) → IsAmid Took question first docs wanted before ahead new
    next_of row ahead old new seen [] all numbers so takes = absurd numbers
    next_of row ahead old new seen (doc ∷ left) all numbers so takes = record {
      seen = seen ++ doc ∷ [];
      left = left;
      all = append_assoc seen (doc ∷ []) left ∙ all;
      numbers = numbers.1;
      gathers = subst (λ gathered. Gathers Took question first gathered new) (append_assoc before seen (doc ∷ [])) (takes (before ++ seen) doc numbers.0 so);
    }

    amid_next : (row : ℕ) (now ahead : List ℕ) (old new : S) → now ≡ row ∷ ahead → IsAmid Took question first docs wanted before now old → ((gathered : List DocRow) (doc : DocRow) → slice_get docs row ≡ Some doc → Gathers Took question first gathered old → Gathers Took question first (gathered ++ doc ∷ []) new) → IsAmid Took question first docs wanted before ahead new
    amid_next row now ahead old new next amid takes =
        next_of row ahead old new amid.seen amid.left amid.all (subst (λ numbers. AllZip (IsNumberOf docs) numbers amid.left) next amid.numbers) amid.gathers takes

    -- a row that may match went by, and is ahead if it does
    amid_past : (row : ℕ) (doc : DocRow) (b : Bool) (now ahead : List ℕ) (old new : S) → slice_get docs row ≡ Some doc → matches question.query doc ≡ b → now ≡ cond b (row ∷ []) [] ++ ahead → IsAmid Took question first docs wanted before now old → ((gathered : List DocRow) → Gathers Took question first gathered old → Gathers Took question first (gathered ++ cond b (doc ∷ []) []) new) → IsAmid Took question first docs wanted before ahead new
    amid_past row doc true now ahead old new at is next amid takes =
        amid_next row now ahead old new next amid
        (λ gathered other there so. let same : doc ≡ other = cc in subst (λ d. Gathers Took question first (gathered ++ d ∷ []) new) same (takes gathered so))
    amid_past row doc false now ahead old new at is next amid takes = record {
      seen = amid.seen;
      left = amid.left;
      all = amid.all;
      numbers = subst (λ numbers. AllZip (IsNumberOf docs) numbers amid.left) next amid.numbers;
      gathers = subst (λ gathered. Gathers Took question first gathered new) (append-nil (before ++ amid.seen)) (takes (before ++ amid.seen) amid.gathers);
    }

    last_of : (here : S) (seen left : List DocRow) → seen ++ left ≡ wanted → AllZip (IsNumberOf docs) [] left → Gathers Took question first (before ++ seen) here → Gathers Took question first (before ++ wanted) here
    last_of here seen [] all numbers so = subst (λ found. Gathers Took question first (before ++ found) here) (sym (append-nil seen) ∙ all) so
    last_of here seen (doc ∷ left) all numbers so = absurd numbers

    amid_last : (now : List ℕ) (here : S) → now ≡ [] → IsAmid Took question first docs wanted before now here → Gathers Took question first (before ++ wanted) here
    amid_last now here none amid = last_of here amid.seen amid.left amid.all (subst (λ numbers. AllZip (IsNumberOf docs) numbers amid.left) none amid.numbers) amid.gathers

module _ {S : Type 0} (Took : S → List Row → S → Type 0) (question : Question) where
  pub on_way_first : (layer : LayerValue) (docs : List DocRow) (dead : List ℕ) (stream : Stream) (start : S) → docs ≡ layer.rows → dead ≡ layer.dead → stream ≡ record { query = question.query; rows = docs; dead = dead; at = 0 } → IsOnWay Took question layer start stream start
  on_way_first layer docs dead stream start its out told = record {
    query = ap (λ (it : Stream). it.query) told;
    docs = ap (λ (it : Stream). it.rows) told ∙ its;
    dead = ap (λ (it : Stream). it.dead) told ∙ out;
    amid = λ first before so. amid_first Took question first layer docs dead stream before start its out told so;
  }

  -- the stream stands at a row
  pub stands_at : (layer : LayerValue) (docs : List DocRow) (number : ℕ) (old new : Stream) (start here : S) → docs ≡ layer.rows → GoesTo old number new → IsOnWay Took question layer start old here → StandsAt question docs number new
  stands_at layer docs number old new start here its next way = record {
    query = ap (λ (it : Stream). it.query) next.stands ∙ way.query;
    rows = ap (λ (it : Stream). it.rows) next.stands ∙ way.docs ∙ sym its;
    at = ap (λ (it : Stream). it.at) next.stands;
    within = omega (arith, next.within, ap (λ (rows : List DocRow). length rows) (way.docs ∙ sym its));
  }

  -- and goes on behind it
  pub on_way_next : (layer : LayerValue) (docs : List DocRow) (number : ℕ) (old mid new : Stream) (start here there : S) → docs ≡ layer.rows → GoesTo old number mid → new ≡ record mid { at = number + 1 } → IsOnWay Took question layer start old here → ((first : S) (gathered : List DocRow) (doc : DocRow) → slice_get docs number ≡ Some doc → Gathers Took question first gathered here → Gathers Took question first (gathered ++ filter (matches question.query) (doc ∷ [])) there) → IsOnWay Took question layer start new there
  on_way_next layer docs number old mid new start here there its next on way takes =
      let found = row_there old.rows number next.within in
      let doc : DocRow = found.0 in
      let at : slice_get old.rows number ≡ Some doc = found.1 in
      let behind : new ≡ record old { at = number + 1 } = on ∙ ap (λ (it : Stream). record it { at = number + 1 }) next.stands in
      let past : ahead old ≡ cond (matches question.query doc) (number ∷ []) [] ++ ahead new =
      sym next.kept
      ∙ ap ahead next.stands
      ∙ ahead_here (record old { at = number }) doc at next.living
      ∙ ap (λ query. cond (matches query doc) (number ∷ []) [] ++ ahead (record old { at = number + 1 })) way.query
      ∙ ap (λ (it : Stream). cond (matches question.query doc) (number ∷ []) [] ++ ahead it) (sym behind) in
      record {
        query = ap (λ (it : Stream). it.query) behind ∙ way.query;
        docs = ap (λ (it : Stream). it.rows) behind ∙ way.docs;
        dead = ap (λ (it : Stream). it.dead) behind ∙ way.dead;
        amid = λ first before so.
            amid_past Took question first layer.rows (filter (matches question.query) (living layer)) before number doc (matches question.query doc) (ahead old) (ahead new) here there
            (ap (λ rows. slice_get rows number) (sym way.docs) ∙ at) refl past (way.amid first before so)
            (λ gathered gathers. takes first gathered doc (ap (λ rows. slice_get rows number) (its ∙ sym way.docs) ∙ at) gathers);
      }

  -- a row that fails is passed over, whether it is dead or not
  on_way_by : (layer : LayerValue) (stream : Stream) (start here : S) (row : ℕ) (gone : Bool) → row < length layer.rows → list_any (λ d. d == row) stream.dead ≡ gone → ((doc : DocRow) → slice_get layer.rows row ≡ Some doc → holds_of question doc ≡ false) → IsOnWay Took question layer start (record stream { at = row }) here → IsOnWay Took question layer start (record stream { at = row + 1 }) here
  on_way_by layer stream start here row true within dead fails way =
      let past : ahead (record stream { at = row }) ≡ ahead (record stream { at = row + 1 }) =
      dead_row stream.query stream.rows stream.dead row (omega (arith, within, ap (λ (rows : List DocRow). length rows) way.docs)) dead in
      record {
        query = way.query;
        docs = way.docs;
        dead = way.dead;
        amid = λ first before so. subst (λ numbers. IsAmid Took question first layer.rows (filter (matches question.query) (living layer)) before numbers here) past (way.amid first before so);
      }
  on_way_by layer stream start here row false within living_row fails way =
      let found = row_there stream.rows row (omega (arith, within, ap (λ (rows : List DocRow). length rows) way.docs)) in
      let doc : DocRow = found.0 in
      let at : slice_get layer.rows row ≡ Some doc = ap (λ rows. slice_get rows row) (sym way.docs) ∙ found.1 in
      let past : ahead (record stream { at = row }) ≡ cond (matches question.query doc) (row ∷ []) [] ++ ahead (record stream { at = row + 1 }) =
      ahead_here (record stream { at = row }) doc found.1 living_row
      ∙ ap (λ query. cond (matches query doc) (row ∷ []) [] ++ ahead (record stream { at = row + 1 })) way.query in
      record {
        query = way.query;
        docs = way.docs;
        dead = way.dead;
        amid = λ first before so.
            amid_past Took question first layer.rows (filter (matches question.query) (living layer)) before row doc (matches question.query doc) (ahead (record stream { at = row })) (ahead (record stream { at = row + 1 })) here here
            at refl past (way.amid first before so)
            (λ gathered gathers. gathers_past Took question first gathered doc here (fails doc at) gathers);
      }

  on_way_far : (layer : LayerValue) (stream : Stream) (start here : S) (row more : ℕ) → row + more ≤ length layer.rows → ((k : ℕ) (doc : DocRow) → row ≤ k → k < row + more → slice_get layer.rows k ≡ Some doc → holds_of question doc ≡ false) → IsOnWay Took question layer start (record stream { at = row }) here → IsOnWay Took question layer start (record stream { at = row + more }) here
  on_way_far layer stream start here row zero within fails way =
      let same : row ≡ row + 0 = omega arith in subst (λ n. IsOnWay Took question layer start (record stream { at = n }) here) same way
  on_way_far layer stream start here row (suc more) within fails way =
      let next : row + more + 1 ≡ row + suc more = omega arith in
      subst (λ n. IsOnWay Took question layer start (record stream { at = n }) here) next
      (on_way_by layer stream start here (row + more) (list_any (λ d. d == row + more) stream.dead) (omega arith) refl
      (λ doc there. fails (row + more) doc (omega arith) (omega arith) there)
      (on_way_far layer stream start here row more (omega arith) (λ k doc on before there. fails k doc on (omega arith) there) way))

  -- and so are all rows that fail
  pub on_way_past : (layer : LayerValue) (stream : Stream) (start here : S) (at to : ℕ) → stream.at ≡ at → GoBy question layer.rows at to → IsOnWay Took question layer start stream here → IsOnWay Took question layer start (record stream { at = to }) here
  on_way_past layer stream start here at to stands by way =
      let end : at + (to - at) ≡ to = omega (arith, by.on) in
      subst (λ n. IsOnWay Took question layer start (record stream { at = n }) here) end
      (on_way_far layer stream start here at (to - at) (omega (arith, by.within, end)) (λ k doc on before there. by.fail k doc on (omega (arith, before, end)) there)
      (subst (λ n. IsOnWay Took question layer start (record stream { at = n }) here) stands way))

  pub on_way_last : (layer : LayerValue) (stream : Stream) (start here : S) → ahead stream ≡ [] → IsOnWay Took question layer start stream here → (first : S) (before : List DocRow) → Gathers Took question first before start → Gathers Took question first (before ++ filter (matches question.query) (living layer)) here
  on_way_last layer stream start here none way first before so = amid_last Took question first layer.rows (filter (matches question.query) (living layer)) before (ahead stream) here none (way.amid first before so)

module _ (question : Question) where
  -- ---- over layers
  pub one_layer : (layers : List LayerValue) (i : ℕ) (layer : LayerValue) → i < length layers → layer ≡ get_or layers i layer → matching_in question (take (i + 1) layers) ≡ matching_in question (take i layers) ++ filter (matches question.query) (living layer)
  one_layer layers i layer within at =
      let more : take (i + 1) layers ≡ take i layers ++ layer ∷ [] = take_more layers i layer within ∙ ap (λ l. take i layers ++ l ∷ []) (sym at) in
      ap (matching_in question) more
      ∙ ap (filter (matches question.query)) (flat_map-append living (take i layers) (layer ∷ []))
      ∙ ap (λ docs. filter (matches question.query) (all_living (take i layers) ++ docs)) (append-nil (living layer))
      ∙ filter-append (matches question.query) (all_living (take i layers)) (living layer)

  pub all_layers : (layers : List LayerValue) (i : ℕ) → length layers ≤ i → matching_in question (take i layers) ≡ matching_in question layers
  all_layers layers i past = ap (matching_in question) (take_all i layers past)
