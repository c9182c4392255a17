-- What an INSERT of a generated document stores, and that it is never refused.
use Rattle.std.proofs.Common.{◌≡◌, inl, inr, ◌≤◌, ◌<◌, ℕ, zero, suc, ◌+◌, pos, List, [], ◌∷◌, ◌++◌, Bool, true, false, ◌&&◌, Option, Some, None, length, refl, sym, ap, subst, ◌∙◌, arith, length-append}
use Rattle.doc_types.specs.declared.transactions.Txn.{Txn}
use Rattle.std.specs.Prelude.{slice_set, codes, decimal, int_le, slice_get, slice_index}
use Rattle.std.specs.List.{AllZip}
use Rattle.std.specs.Str.{IsAscii, IsUtf8, is_utf8}
use Rattle.std.proofs.lemmas.Bool.{le-leb}
use Rattle.std.proofs.lemmas.Fmt.{IsAscii-decimal, length-decimal-le}
use Rattle.std.proofs.lemmas.Option.{same_Some}
use Rattle.std.proofs.lemmas.Str.{IsAscii-append, IsUtf8-from_ascii, is_utf8-from_IsUtf8}
use Rattle.doc_types.specs.Payloads.{doc_length}
use Rattle.doc_types.specs.declared.documents.Doc.{Doc}
use Rattle.doc_types.specs.declared.schema.AttrKind.TheVariants.{Uint}
use Rattle.doc_types.specs.declared.schema.Schema.{Schema}
use Rattle.doc_types.specs.declared.schema.Value.TheVariants.{Whole}
use Rattle.doc_types.specs.declared.transactions.TxnOp.{TxnOp}
use Rattle.doc_types.specs.declared.transactions.TxnOp.TheVariants as operations
use Rattle.index_conf.specs.declared.conf.IndexConf.{IndexConf}
use Rattle.ql_columns.specs.declared.columns.IndexColumn.{IndexColumn}
use Rattle.ql_columns.specs.declared.columns.IndexColumn.TheVariants.{Id, Field, Attr}
use Rattle.ql_columns.specs.Columns.{name_of}
use Rattle.ql_insert.specs.Insertions.{Makes, is_between, row_fault, value_fault, Fills, Inserts, IsTooLongFor, RefusesRow, RefusesRows, RefusesValues, blank, columns_fault, fold_of, no_tokens, rows_fault, targets}
use Rattle.ql_refusals.specs.Refusals.{Refused, first, id_out_of_range, unless, value_out_of_range, wrong_kind}
use Rattle.ql_tree.specs.declared.statement.Val.{Val}
use Rattle.ql_tree.specs.declared.statement.Val.TheVariants as vals
use Rattle.self_test.specs.Loads.{IsStored}
use Rattle.self_test.specs.Own.{IsDrawn, IsOwn}
use Rattle.self_test.specs.Texts.{title_of, word_of}
use Rattle.self_test.specs.declared.generator.Document.{Document}
use Rattle.self_test.proofs.Sizes.{never_long, tokens_short}

-- Titles.

word_short : (n : ℕ) → n < 50 → length (word_of n) ≤ 3
word_short n below = omega (arith, length-append (codes "w") (decimal n), length-decimal-le 2 n (omega arith) (omega (arith, below)) (omega (arith, below)))

space_short : (before : List ℕ) (n : ℕ) → n < 50 → length (before ++ codes " " ++ word_of n) ≤ length before + 4
space_short before n below = omega (arith, length-append (before ++ codes " ") (word_of n), length-append before (codes " "), word_short n below)

ascii_one : (b : ℕ) → b < 128 → IsAscii (b ∷ [])
ascii_one b below zero = below
ascii_one b below (suc i) = omega arith

ascii_word : (n : ℕ) → n < 50 → IsAscii (word_of n)
ascii_word n below = IsAscii-append (codes "w") (decimal n) (ascii_one 119 (omega arith)) (IsAscii-decimal n (omega (arith, below)))

ascii_then : (before : List ℕ) (n : ℕ) → IsAscii before → n < 50 → IsAscii (before ++ codes " " ++ word_of n)
ascii_then before n ascii below = IsAscii-append (before ++ codes " ") (word_of n) (IsAscii-append before (codes " ") ascii (ascii_one 32 (omega arith))) (ascii_word n below)

module _ (document : Document) (drawn : IsDrawn document) where
  one : List ℕ
  one = word_of (slice_index document.title 0)

  two : List ℕ
  two = one ++ codes " " ++ word_of (slice_index document.title 1)

  three : List ℕ
  three = two ++ codes " " ++ word_of (slice_index document.title 2)

  pub title_short : length (title_of document) ≤ 15
  unfolding one two three
  title_short =
      omega (
        arith,
        word_short (slice_index document.title 0) drawn.first,
        space_short one (slice_index document.title 1) drawn.second,
        space_short two (slice_index document.title 2) drawn.third,
        space_short three (slice_index document.title 3) drawn.fourth,
      )

  pub title_utf8 : IsUtf8 (title_of document)
  unfolding one two three
  title_utf8 =
      IsUtf8-from_ascii (title_of document)
      (ascii_then three (slice_index document.title 3) (ascii_then two (slice_index document.title 2) (ascii_then one (slice_index document.title 1)
      (ascii_word (slice_index document.title 0) drawn.first) drawn.second) drawn.third) drawn.fourth)

-- The columns.

-- a schema with the columns of a selftest
own : Schema → Schema
own schema = record schema { name = codes "t"; fields = codes "title" ∷ []; attrs = (codes "gid", Uint) ∷ [] }

own_is : (conf : IndexConf) → IsOwn conf → conf.schema ≡ own conf.schema
unfolding own
own_is conf is = λ i. record conf.schema { name = is.name i; fields = is.fields i; attrs = is.attrs i }

abbrev pub names : Option (List (List ℕ))
names = Some (codes "id" ∷ codes "title" ∷ codes "gid" ∷ [])

abbrev pub columns : List IndexColumn
columns = Id ∷ Field 0 ∷ Attr 0 ∷ []

abbrev pub row_of : ℕ → Document → List Val
row_of id document = vals.Number (pos id) ∷ vals.Text (title_of document) ∷ vals.Number (pos document.gid) ∷ []

own_targets : (schema : Schema) → targets (own schema) names ≡ columns
unfolding own
own_targets schema = refl

own_columns : (schema : Schema) → columns_fault (own schema) names ≡ None
unfolding own
own_columns schema = refl

and_true : (a b : Bool) → a ≡ true → b ≡ true → (a && b) ≡ true
and_true true b holds also = also
and_true false b holds also = holds

same_pos : (a b : ℕ) → pos a ≡ pos b → a ≡ b
same_pos a b same = cc same

blank_is : (schema : Schema) → blank (own schema) ≡ record { id = 0; fields = no_tokens ∷ []; values = Whole (pos 0) ∷ [] }
unfolding own
blank_is schema = refl

-- a number that lies between two others
lies_between : (low high n : ℕ) → low ≤ n → n ≤ high → is_between (pos low) (pos high) (pos n) ≡ true
lies_between low high n above below = and_true (int_le (pos low) (pos n)) (int_le (pos n) (pos high)) (le-leb low n above) (le-leb n high below)

unless_holds : (b : Bool) (refusal : Refused) → b ≡ true → unless b refusal ≡ None
unless_holds true refusal holds = refl
unless_holds false refusal holds = absurd cc

three_none : (a b c : Option Refused) → a ≡ None → b ≡ None → c ≡ None → first a (first b (first c None)) ≡ None
three_none a b c no_a no_b no_c = rw (no_a, no_b, no_c) refl

module _ (id : ℕ) (document : Document) (drawn : IsDrawn document) (some : 1 ≤ id) (small : id ≤ 100000) where
  own_rows : (schema : Schema) → rows_fault (own schema) columns (row_of id document ∷ []) ≡ None
  unfolding own
  own_rows schema =
      let row : row_fault (own schema) columns (row_of id document) ≡ None =
      three_none (value_fault (own schema) Id (vals.Number (pos id))) (value_fault (own schema) (Field 0) (vals.Text (title_of document))) (value_fault (own schema) (Attr 0) (vals.Number (pos document.gid)))
      (unless_holds (is_between (pos 1) (pos 18446744073709551615) (pos id)) id_out_of_range (lies_between 1 18446744073709551615 id some (omega (arith, small))))
      (unless_holds (is_utf8 (title_of document)) (wrong_kind (name_of (own schema) (Field 0))) (is_utf8-from_IsUtf8 (title_of document) (title_utf8 document drawn)))
      (unless_holds (is_between (pos 0) (pos 4294967295) (pos document.gid)) (value_out_of_range (name_of (own schema) (Attr 0))) (lies_between 0 4294967295 document.gid (omega arith) (omega (arith, drawn.group)))) in
      rw row refl

  module _ (conf : IndexConf) (is : IsOwn conf) where
    -- no column and no value is refused
    columns_good : columns_fault conf.schema names ≡ None
    columns_good = ap (λ (s : Schema). columns_fault s names) (own_is conf is) ∙ own_columns conf.schema

    targets_are : targets conf.schema names ≡ columns
    targets_are = ap (λ (s : Schema). targets s names) (own_is conf is) ∙ own_targets conf.schema

    rows_good : rows_fault conf.schema (targets conf.schema names) (row_of id document ∷ []) ≡ None
    rows_good =
        ap (λ (t : List IndexColumn). rows_fault conf.schema t (row_of id document ∷ [])) targets_are
        ∙ ap (λ (s : Schema). rows_fault s columns (row_of id document ∷ [])) (own_is conf is) ∙ own_rows conf.schema

    -- nor is the title too long
    no_long : (place : ℕ) (target : IndexColumn) (value : Val) (refusal : Refused) → slice_get columns place ≡ Some target → slice_get (row_of id document) place ≡ Some value → IsTooLongFor conf target value refusal → ⊥
    no_long zero target value refusal for is_value long =
        let here : target ≡ Id = sym (same_Some Id target for) in
        subst (λ (t : IndexColumn). IsTooLongFor conf t value refusal) here long
    no_long (suc zero) target value refusal for is_value long =
        let here : target ≡ Field 0 = sym (same_Some (Field 0) target for) in
        let text : value ≡ vals.Text (title_of document) = sym (same_Some (vals.Text (title_of document)) value is_value) in
        let at : IsTooLongFor conf (Field 0) (vals.Text (title_of document)) refusal =
        subst (λ (v : Val). IsTooLongFor conf (Field 0) v refusal) text (subst (λ (t : IndexColumn). IsTooLongFor conf t value refusal) here long) in
        never_long (fold_of conf) conf.rules (title_of document) is.strip is.sp at.0 (title_utf8 document drawn) (omega (arith, title_short document drawn)) at.1
    no_long (suc (suc zero)) target value refusal for is_value long =
        let here : target ≡ Attr 0 = sym (same_Some (Attr 0) target for) in
        subst (λ (t : IndexColumn). IsTooLongFor conf t value refusal) here long
    no_long (suc (suc (suc place))) target value refusal for is_value long = absurd (cc for)

    row_never : (refusal : Refused) → RefusesRow conf columns (row_of id document) refusal → ⊥
    row_never refusal refuses = no_long refuses.place refuses.target refuses.value refusal refuses.for refuses.is refuses.too_long

    rows_never : (place : ℕ) (row : List Val) (refusal : Refused) → slice_get (row_of id document ∷ []) place ≡ Some row → RefusesRow conf columns row refusal → ⊥
    rows_never zero row refusal at refuses =
        let here : row ≡ row_of id document = sym (same_Some (row_of id document) row at) in
        row_never refusal (subst (λ (r : List Val). RefusesRow conf columns r refusal) here refuses)
    rows_never (suc place) row refusal at refuses = absurd (cc at)

    none_some : (fault : Option Refused) (refusal : Refused) → fault ≡ None → fault ≡ Some refusal → ⊥
    none_some fault refusal none is_some = cc (none, is_some)

    -- the values of the INSERT aren't refused
    pub values_never : (refusal : Refused) → RefusesValues conf names (row_of id document ∷ []) refusal → ⊥
    values_never refusal (inl fault) = none_some (columns_fault conf.schema names) refusal columns_good fault
    values_never refusal (inr (inl (good, fault))) = none_some (rows_fault conf.schema (targets conf.schema names) (row_of id document ∷ [])) refusal rows_good fault
    values_never refusal (inr (inr (good, refuses))) =
        let at : RefusesRows conf columns (row_of id document ∷ []) refusal = subst (λ (t : List IndexColumn). RefusesRows conf t (row_of id document ∷ []) refusal) targets_are refuses in
        rows_never at.place at.row refusal at.is at.refuses

    own_blank : blank conf.schema ≡ record { id = 0; fields = no_tokens ∷ []; values = Whole (pos 0) ∷ [] }
    own_blank = ap (λ (s : Schema). blank s) (own_is conf is) ∙ blank_is conf.schema

    -- what it stores
    pub stored : (doc : Doc) → Fills conf columns (row_of id document) (blank conf.schema) doc → IsStored conf id document doc
    stored doc (first, (number, same, numbered), (second, (tokens, of, field, filled), (third, grouped, ended))) =
        let one : first ≡ record { id = id; fields = no_tokens ∷ []; values = Whole (pos 0) ∷ [] } =
        numbered ∙ ap (λ (d : Doc). record d { id = number }) own_blank ∙ ap (λ (n : ℕ). record { id = n; fields = no_tokens ∷ []; values = Whole (pos 0) ∷ [] }) (same_pos number id (sym same)) in
        let two : second ≡ record { id = id; fields = tokens ∷ []; values = Whole (pos 0) ∷ [] } = filled ∙ ap (λ (d : Doc). record d { fields = slice_set d.fields 0 tokens }) one in
        record {
          tokens = tokens;
          of = of;
          is = ended ∙ grouped ∙ ap (λ (d : Doc). record d { values = slice_set d.values 0 (Whole (pos document.gid)) }) two;
        }

    -- the operation of a row
    inserted : (op : TxnOp) → Inserts conf columns (row_of id document) op → (doc : Doc) × IsStored conf id document doc × (op ≡ operations.Insert doc)
    inserted (operations.Insert doc) inserts = (doc, stored doc inserts, refl)
    inserted (operations.Put doc) inserts = absurd inserts
    inserted (operations.Kill killed) inserts = absurd inserts
    inserted operations.Clear inserts = absurd inserts

    one_inserted : (ops : List TxnOp) → AllZip (Inserts conf columns) (row_of id document ∷ []) ops → (doc : Doc) × IsStored conf id document doc × (ops ≡ operations.Insert doc ∷ [])
    one_inserted [] zip = absurd zip
    one_inserted (op ∷ []) zip = let (doc, is_stored, same) = inserted op zip.0 in (doc, is_stored, ap (λ (o : TxnOp). o ∷ []) same)
    one_inserted (op ∷ other ∷ ops) zip = absurd zip.1

    -- the INSERT has one operation, which inserts what is stored of the document
    pub makes_one : (txn : Txn) → Makes conf names (row_of id document ∷ []) txn → (doc : Doc) × IsStored conf id document doc × (txn ≡ record { ops = operations.Insert doc ∷ [] })
    makes_one txn makes =
        let (doc, is_stored, same) = one_inserted txn.ops (subst (λ (t : List IndexColumn). AllZip (Inserts conf t) (row_of id document ∷ []) txn.ops) targets_are makes.inserts) in
        (doc, is_stored, ap (λ (o : List TxnOp). record { ops = o }) same)

-- What is stored of a document takes few bytes.
pub stored_light : (conf : IndexConf) (id : ℕ) (document : Document) (doc : Doc) → IsOwn conf → IsDrawn document → IsStored conf id document doc → doc_length doc ≤ 199
stored_light conf id document doc is drawn stored =
    let tokens = tokens_short (fold_of conf) conf.rules (title_of document) is.strip is.sp stored.tokens (title_utf8 document drawn) stored.of in
    let here : doc_length doc ≡ doc_length (record { id = id; fields = stored.tokens ∷ []; values = Whole (pos document.gid) ∷ [] }) = ap (λ (d : Doc). doc_length d) stored.is in
    omega (arith, here, tokens, title_short document drawn)
