-- The first document without a weight, found by a search that asks of each document whether it has one.
use Rattle.std.proofs.Common.{◌≡◌, ◌≤◌, ℕ, zero, suc, Bool, true, false, cond, List, [], ◌∷◌, Option, Some, None, ◌⊎◌, inl, inr, refl, sym, ap, subst, ◌∙◌, fold, arith}
use Rattle.std.specs.Prelude.{◌==◌, Contains, OnOk, Result, Ok, is_some, min, unwrap_or}
use Rattle.std.specs.List.{filter}
use Rattle.std.proofs.lemmas.Bool.{eqb-true, eq-eqb}
use Rattle.std.proofs.lemmas.Option.{none-some}
use Rattle.doc_types.specs.Rows.{rows_of}
use Rattle.doc_types.specs.declared.documents.DocRow.{DocRow}
use Rattle.doc_types.specs.declared.hits.Hit.{Hit}
use Rattle.doc_types.specs.declared.hits.Hits.{Hits}
use Rattle.op_eval.specs.Matching.{matches}
use Rattle.doc_types.specs.declared.schema.Value.{Value}
use Rattle.rankers.specs.Factors.{earlier}
use Rattle.rankers.specs.Weight.{weight}
use Rattle.rankers.specs.declared.ranker.Ranker.{Ranker}
use Rattle.rank_expr.specs.ExpressionWeight.{weight_by}
use Rattle.rank_expr.specs.declared.expr.RankExpr.{RankExpr}
use Rattle.row_select.specs.Columns.{row_of}
use Rattle.row_select.specs.declared.row.Row.{Row}
use Rattle.doc_search.specs.Rankings.{presence, weigh}
use Rattle.doc_search.specs.Searches.{AreFound, IsFirstLacking, IsRowOf, LacksWeight, passes, weight_of}
use Rattle.doc_search.specs.declared.question.Question.{Question}
use Rattle.doc_search.specs.declared.ranking.Ranking.{Ranking}
use Rattle.doc_search.specs.declared.ranking.Ranking.TheVariants as rankings
use Rattle.doc_search.specs.steps.Gathering.{IsAskedOfDocs}
use Rattle.doc_search.specs.steps.Lacking.{LacksSome, at_zero, sought, sought_question}
use Rattle.doc_search.proofs.Members.{DocsApart, beside_first, beside_second, in_both, in_filter, in_tail, to_filter}
use Rattle.doc_search.proofs.OneHits.{one_hits}

-- what holds of an answer
pub when_ok : {T E P : Type 0} (r : Result T E) (x : T) → r ≡ Ok x → OnOk r P → P
when_ok {T} {E} {P} r x is on = subst (λ (s : Result T E). OnOk s P) is on

-- ---- the question is asked of the same index
pub asked_alike : (lacking : Bool) (question : Question) (docs : List DocRow) → IsAskedOfDocs question docs → IsAskedOfDocs (sought_question lacking question) docs
asked_alike lacking question docs its = record {
  schema = its.schema;
  asked = record {
    positions = its.asked.positions;
    few_fields = its.asked.few_fields;
    weights = its.asked.weights;
    each_weight = its.asked.each_weight;
    attrs = its.asked.attrs;
  };
  rows = its.rows;
}

-- a ranker that looks at hits alone stays as it is
plain_stays : (lacking : Bool) (ranker : Ranker) → sought lacking (rankings.Plain ranker) ≡ rankings.Plain ranker
plain_stays true ranker = refl
plain_stays false ranker = refl

pub sought_plain : (lacking : Bool) (ranking : Ranking) (ranker : Ranker) → ranking ≡ rankings.Plain ranker → sought lacking ranking ≡ rankings.Plain ranker
sought_plain lacking ranking ranker is = ap (sought lacking) is ∙ plain_stays lacking ranker

-- ---- the least id of rows that weigh 0
abbrev IsAt : ℕ → Row → Type 0
IsAt id row = (row.weight ≡ 0) × (row.id ≡ id)

abbrev HasAt : ℕ → List Row → Type 0
HasAt id rows = (row : Row) × Contains rows row × IsAt id row

-- what is known of the least id, which began with one
pub record IsLeast (began : Option ℕ) (rows : List Row) (id : ℕ) : Type 0 where
  pub some : (began ≡ Some id) ⊎ HasAt id rows
  pub before : (n : ℕ) → began ≡ Some n → id ≤ n
  pub all : (row : Row) → Contains rows row → row.weight ≡ 0 → id ≤ row.id

taken : {n id : ℕ} → Some n ≡ Some id → n ≡ id
taken {n} {id} is = ap (λ (some : Option ℕ). unwrap_or some 0) is

later_at : (id : ℕ) (x : Row) (rows : List Row) → HasAt id rows → HasAt id (x ∷ rows)
later_at id x rows its = (its.0, in_tail x rows its.0 its.1, its.2)

head_at : (id : ℕ) (x : Row) (rows : List Row) → IsAt id x → HasAt id (x ∷ rows)
head_at id x rows its = (x, (0, omega arith, refl), its)

-- of a row and of those after it
of_cons : (P : Row → Type 0) (x : Row) (rows : List Row) → P x → ((row : Row) → Contains rows row → P row) → (row : Row) → Contains (x ∷ rows) row → P row
of_cons P x rows here later row (zero, low, is) = subst P is here
of_cons P x rows here later row (suc k, low, is) = later row (k, omega (arith, low), is)

abbrev Bounds : ℕ → Row → Type 0
Bounds id row = row.weight ≡ 0 → id ≤ row.id

least_none : (id : ℕ) (x : Row) (rows : List Row) → x.weight ≡ 0 → IsLeast (Some x.id) rows id → IsLeast None (x ∷ rows) id
least_none id x rows zero_is its = record {
  some = elim its.some [
    | inl here ↦ inr (head_at id x rows (zero_is, taken here))
    | inr later ↦ inr (later_at id x rows later)
  ];
  before = λ n none. cc;
  all = of_cons (Bounds id) x rows (λ _. its.before x.id refl) its.all;
}

lesser : (m n id : ℕ) → min m n ≡ id → (m ≡ id) ⊎ (n ≡ id)
lesser m n id is = grind arith

min_left : (m n id : ℕ) → id ≤ min m n → id ≤ m
min_left m n id is = grind arith

min_right : (m n id : ℕ) → id ≤ min m n → id ≤ n
min_right m n id is = grind arith

least_some : (m id : ℕ) (x : Row) (rows : List Row) → x.weight ≡ 0 → IsLeast (Some (min m x.id)) rows id → IsLeast (Some m) (x ∷ rows) id
least_some m id x rows zero_is its =
    let low : id ≤ min m x.id = its.before (min m x.id) refl in
    record {
      some = elim its.some [
        | inl here ↦ elim (lesser m x.id id (taken here)) [
          | inl first ↦ inl (ap Some first)
          | inr own ↦ inr (head_at id x rows (zero_is, own))
        ]
        | inr later ↦ inr (later_at id x rows later)
      ];
      before = λ n is. subst (λ k. id ≤ k) (taken is) (min_left m x.id id low);
      all = of_cons (Bounds id) x rows (λ _. min_right m x.id id low) its.all;
    }

least_other : (began : Option ℕ) (id : ℕ) (x : Row) (rows : List Row) → (x.weight == 0) ≡ false → IsLeast began rows id → IsLeast began (x ∷ rows) id
least_other began id x rows other its = record {
  some = elim its.some [
    | inl here ↦ inl here
    | inr later ↦ inr (later_at id x rows later)
  ];
  before = its.before;
  all = of_cons (Bounds id) x rows (λ zero_is. let never : false ≡ true = sym other ∙ eq-eqb x.weight 0 zero_is in cc) its.all;
}

least_at : (began : Option ℕ) (id : ℕ) (x : Row) (rows : List Row) → x.weight ≡ 0 → IsLeast (earlier began x.id) rows id → IsLeast began (x ∷ rows) id
least_at None id x rows zero_is its = least_none id x rows zero_is its
least_at (Some m) id x rows zero_is its = least_some m id x rows zero_is its

least_by : (b : Bool) (began : Option ℕ) (id : ℕ) (x : Row) (rows : List Row) → (x.weight == 0) ≡ b → IsLeast (cond b (earlier began x.id) began) rows id → IsLeast began (x ∷ rows) id
least_by true began id x rows is its = least_at began id x rows (eqb-true x.weight 0 is) its
least_by false began id x rows is its = least_other began id x rows is its

pub least_of : (rows : List Row) (began : Option ℕ) (id : ℕ) → fold at_zero began rows ≡ Some id → IsLeast began rows id
least_of [] began id is = record {
  some = inl is;
  before = λ n same. let both : n ≡ id = taken (sym same ∙ is) in omega (arith, both);
  all = λ row there. absurd (omega (arith, there.1));
}
least_of (x ∷ rows) began id is = least_by (x.weight == 0) began id x rows refl (least_of rows (at_zero began x) id is)

-- where there is none, no row weighs 0
some_stays : (b : Bool) (m : ℕ) (x : Row) (rows : List Row) → ((n : ℕ) → fold at_zero (Some n) rows ≡ None → ⊥) → fold at_zero (cond b (earlier (Some m) x.id) (Some m)) rows ≡ None → ⊥
some_stays true m x rows later none = later (min m x.id) none
some_stays false m x rows later none = later m none

some_least : (rows : List Row) (m : ℕ) → fold at_zero (Some m) rows ≡ None → ⊥
some_least [] m none = none-some m (sym none)
some_least (x ∷ rows) m none = some_stays (x.weight == 0) m x rows (some_least rows) none

never_earlier : (began : Option ℕ) (n : ℕ) (rows : List Row) → fold at_zero (earlier began n) rows ≡ None → ⊥
never_earlier None n rows none = some_least rows n none
never_earlier (Some m) n rows none = some_least rows (min m n) none

never_here : (began : Option ℕ) (x : Row) (rows : List Row) → (x.weight == 0) ≡ true → fold at_zero began (x ∷ rows) ≡ None → ⊥
never_here began x rows is none = never_earlier began x.id rows (subst (λ b. fold at_zero (cond b (earlier began x.id) began) rows ≡ None) is none)

never_none : (rows : List Row) (row : Row) (began : Option ℕ) → Contains rows row → row.weight ≡ 0 → fold at_zero began rows ≡ None → ⊥
never_none [] row began there at none = absurd (omega (arith, there.1))
never_none (x ∷ rows) row began (zero, low, is) at none = never_here began x rows (eq-eqb x.weight 0 (ap (λ (r : Row). r.weight) is ∙ at)) none
never_none (x ∷ rows) row began (suc k, low, is) at none = never_none rows row (at_zero began x) (k, omega (arith, low), is) at none

-- ---- and of documents without a weight
-- only an expression leaves one without
leaves_one : (ranking : Ranking) (hits : Hits) (weights : List ℕ) (values : List Value) → weigh ranking hits weights values ≡ None → (expr : RankExpr) × (ranking ≡ rankings.Expr expr)
leaves_one (rankings.Plain ranker) hits weights values none = absurd (none-some (weight ranker hits weights) (sym none))
leaves_one (rankings.Expr expr) hits weights values none = (expr, refl)
leaves_one (rankings.Lacking expr) hits weights values none = absurd (none-some (presence (weight_by expr.root hits weights values)) (sym none))

pub is_expression : (question : Question) (docs : List DocRow) → LacksSome question docs → (expr : RankExpr) × (question.ranker ≡ rankings.Expr expr)
is_expression question docs some =
    let lacking = some.2 in
    leaves_one question.ranker (record { keywords = question.query.keywords; list = lacking.hits }) question.weights.list some.0.doc.values lacking.none

module _ (question : Question) (expr : RankExpr) (is : question.ranker ≡ rankings.Expr expr) where
  abbrev asked : Question
  asked = sought_question true question

  none_at_zero : (weight : Option ℕ) → presence weight ≡ 0 → weight ≡ None
  none_at_zero None at = refl
  none_at_zero (Some weight) at = absurd (omega (arith, at))

  told : (doc : DocRow) (hits : List Hit) → weight_of asked doc hits ≡ Some (presence (weight_of question doc hits))
  told doc hits =
      let own : Hits = record { keywords = question.query.keywords; list = hits } in
      ap (λ (ranking : Ranking). weigh ranking own question.weights.list doc.doc.values) (ap (sought true) is)
      ∙ ap (λ (weight : Option ℕ). Some (presence weight)) (sym (ap (λ (ranking : Ranking). weigh ranking own question.weights.list doc.doc.values) is))

  weight_is : (doc : DocRow) (row : Row) (its : IsRowOf asked doc row) → row.weight ≡ presence (weight_of question doc its.hits)
  weight_is doc row its = its.weight ∙ ap (λ (weight : Option ℕ). unwrap_or weight 0) (told doc its.hits)

  row_at_zero : (doc : DocRow) (row : Row) → IsRowOf asked doc row → row.weight ≡ 0 → row ≡ row_of 0 doc
  row_at_zero doc row its at = λ i. record { id = its.id i; weight = at i; values = its.values i }

  -- a row that weighs 0 and was found is that of a document without a weight
  lacks : (doc : DocRow) (row : Row) → matches question.query doc ≡ true → passes question row ≡ true → IsRowOf asked doc row → row.weight ≡ 0 → LacksWeight question doc
  lacks doc row fits passing its at = record {
    hits = its.hits;
    are = its.are;
    fits = fits;
    passing = ap (passes question) (sym (row_at_zero doc row its at)) ∙ passing;
    none = none_at_zero (weight_of question doc its.hits) (sym (weight_is doc row its) ∙ at);
  }

  -- and the other way round
  weighs_none : (doc : DocRow) (row : Row) → LacksWeight question doc → IsRowOf asked doc row → row.weight ≡ 0
  weighs_none doc row lacking its =
      let hits : its.hits ≡ lacking.hits = one_hits its.hits lacking.hits its.are.ascend lacking.are.ascend (λ test. its.are.all test ∙ sym (lacking.are.all test)) in
      weight_is doc row its ∙ ap (λ (list : List Hit). presence (weight_of question doc list)) hits ∙ ap presence lacking.none

  -- so the search for these ends at none
  pub never_stops : (docs : List DocRow) → LacksSome asked docs → ⊥
  never_stops docs some =
      let lacking = some.2 in
      none-some (presence (weight_of question some.0 lacking.hits)) (sym lacking.none ∙ told some.0 lacking.hits)

  -- a document without a weight is found by it
  found_at_zero : (docs : List DocRow) (found : List Row) → AreFound asked docs found → (doc : DocRow) → Contains docs doc → LacksWeight question doc → HasAt doc.doc.id found
  found_at_zero docs found are doc among lacking =
      let matching = to_filter (matches question.query) docs doc lacking.fits among in
      let beside = beside_second (IsRowOf asked) (filter (matches question.query) docs) are.rows doc are.weighed matching in
      let row = beside.0 in
      let at : row.weight ≡ 0 = weighs_none doc row lacking beside.2 in
      let passing : passes question row ≡ true = ap (passes question) (row_at_zero doc row beside.2 at) ∙ lacking.passing in
      let there : Contains found row = subst (λ list. Contains list row) (sym are.passing) (to_filter (passes question) are.rows row passing beside.1) in
      (row, there, (at, beside.2.id))

  -- so there is a least id
  pub has_least : (docs : List DocRow) (found : List Row) (least : Option ℕ) → AreFound asked docs found → LacksSome question docs → least ≡ fold at_zero None found → is_some least ≡ true
  has_least docs found None are some is =
      let its = found_at_zero docs found are some.0 some.1 some.2 in
      absurd (never_none found its.0 None its.1 its.2.0 (sym is))
  has_least docs found (Some id) are some is = refl

  pub first_of_found : (docs : List DocRow) (found : List Row) (id : ℕ) → AreFound asked docs found → fold at_zero None found ≡ Some id → IsFirstLacking question docs id
  first_of_found docs found id are least = first (elim its.some [ inl none ↦ absurd (never none) | inr there ↦ there ])
    where
      its : IsLeast None found id
      its = least_of found None id least

      never : None ≡ Some id → ⊥
      never same = cc

      bound : (other : DocRow) → Contains docs other → LacksWeight question other → id ≤ other.doc.id
      bound other among lacking =
          let there = found_at_zero docs found are other among lacking in
          subst (λ n. id ≤ n) there.2.1 (its.all there.0 there.1 there.2.0)

      first : HasAt id found → IsFirstLacking question docs id
      first (row, there, (at, own)) =
          let weighed = in_filter (passes question) are.rows row (subst (λ list. Contains list row) are.passing there) in
          let beside = beside_first (IsRowOf asked) (filter (matches question.query) docs) are.rows row are.weighed weighed.0 in
          let matching = in_filter (matches question.query) docs beside.0 beside.1 in
          record {
            doc = beside.0;
            among = matching.0;
            lacks = lacks beside.0 row matching.1 weighed.1 beside.2 at;
            is = sym own ∙ beside.2.id;
            least = bound;
          }

-- ---- in whatever order documents are listed
pub one_first : (question : Question) (docs others : List DocRow) (id other : ℕ) → DocsApart docs → DocsApart others → rows_of docs ≡ rows_of others → IsFirstLacking question docs id → IsFirstLacking question others other → id ≡ other
one_first question docs others id other apart others_apart same one two =
    omega (
      arith,
      one.is,
      two.is,
      one.least two.doc (in_both others docs others_apart (sym same) two.doc two.among) two.lacks,
      two.least one.doc (in_both docs others apart same one.doc one.among) one.lacks,
    )

-- a document that is found has its weight
not_lacking : (question : Question) (doc : DocRow) (row : Row) → LacksWeight question doc → IsRowOf question doc row → ⊥
not_lacking question doc row lacking its =
    let hits : its.hits ≡ lacking.hits = one_hits its.hits lacking.hits its.are.ascend lacking.are.ascend (λ test. its.are.all test ∙ sym (lacking.are.all test)) in
    let none : weight_of question doc its.hits ≡ None = ap (λ (list : List Hit). weight_of question doc list) hits ∙ lacking.none in
    let at : row.weight ≡ 0 = its.weight ∙ ap (λ (weight : Option ℕ). unwrap_or weight 0) none in
    let row_is : row ≡ row_of 0 doc = λ i. record { id = its.id i; weight = at i; values = its.values i } in
    let never : false ≡ true = sym (ap (λ (weight : Option ℕ). is_some weight) none) ∙ its.ranked (ap (passes question) row_is ∙ lacking.passing) in
    cc

pub never_found : (question : Question) (docs others : List DocRow) (found : List Row) (id : ℕ) → DocsApart docs → DocsApart others → rows_of docs ≡ rows_of others → AreFound question docs found → IsFirstLacking question others id → ⊥
never_found question docs others found id apart others_apart same are first =
    let among = in_both others docs others_apart (sym same) first.doc first.among in
    let matching = to_filter (matches question.query) docs first.doc first.lacks.fits among in
    let beside = beside_second (IsRowOf question) (filter (matches question.query) docs) are.rows first.doc are.weighed matching in
    not_lacking question first.doc beside.0 first.lacks beside.2
