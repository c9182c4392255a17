-- The lines of a word's places, row by row: of the rows that have it, those that the root says are dead have none.
use Rattle.std.proofs.Common.{◌≡◌, ℕ, suc, ◌+◌, ◌<◌, Bool, true, false, cond, List, [], ◌∷◌, ◌++◌, Some, None, Ok, Err, refl, sym, ◌∙◌, ap, subst, arith, length, map, get_or, drop, slice_get, append-nil, append_assoc, length-append, All}
use Rattle.std.specs.Prelude.{Option, ◌==◌, ◌||◌, not, option_map}
use Rattle.std.specs.List.{enumerate_from, filter, flat_map, list_any}
use Rattle.std.specs.Option.{option_and_then, option_map_or}
use Rattle.std.proofs.lemmas.List.{get_or-append-add}
use Rattle.std.proofs.lemmas.List.Elements.{All-cons}
use Rattle.std.proofs.lemmas.Option.{get_or_from_slice_get, slice_get_within}
use Rattle.doc_types.specs.Chunks.{CursorPlace, IsCursorPlace, has_word, hits_ahead, hits_of, is_word, next_row, positions_of, rows_with}
use Rattle.doc_types.specs.declared.documents.DocRow.{DocRow}
use Rattle.doc_types.specs.declared.schema.Schema.{Schema}
use Rattle.doc_types.specs.declared.tokens.FieldTokens.{FieldTokens}
use Rattle.doc_types.specs.declared.tokens.TokenWord.{TokenWord}
use Rattle.root_slots.specs.declared.state.ChunkEntry.{ChunkEntry}
use Rattle.index_tool.specs.ToolLines.{hit_line, hit_lines}
use Rattle.index_tool.specs.declared.host.ToolHost.{Ghosts as HostWords}
use Rattle.index_tool.specs.declared.printing.Stop.{Stop}
use Rattle.index_tool.specs.declared.printing.Stop.TheVariants as stops
use Rattle.index_tool.specs.steps.Sides.{BuffersLines}
use Rattle.index_tool.proofs.Printed.{buffer_none, buffer_stop, buffer_then, buffer_wanting}

-- ---- a row without the word has no places

no_places : (word : List ℕ) (ts : List TokenWord) → list_any (is_word word) ts ≡ false → map (λ (t : TokenWord). t.position) (filter (is_word word) ts) ≡ []
no_places word [] e = refl
no_places word (t ∷ ts) e =
    elim (is_word word t) as (λ b. (b || list_any (is_word word) ts) ≡ false → map (λ (t : TokenWord). t.position) (cond b (t ∷ filter (is_word word) ts) (filter (is_word word) ts)) ≡ []) [
      | true ↦ λ no. absurd cc
      | false ↦ λ no. no_places word ts no
    ] e

neither : (b c : Bool) → (b || c) ≡ false → (b ≡ false) × (c ≡ false)
neither true c e = absurd cc
neither false c e = (refl, e)

abbrev parts : List ℕ → ℕ → List FieldTokens → List (ℕ × ℕ)
parts word n fields = flat_map (λ (e : ℕ × FieldTokens). map (λ (x : ℕ). (e.0, x)) (positions_of word e.1)) (enumerate_from n fields)

no_parts : (word : List ℕ) (n : ℕ) (fields : List FieldTokens) → list_any (λ field. list_any (is_word word) field.words) fields ≡ false → parts word n fields ≡ []
no_parts word n [] e = refl
no_parts word n (f ∷ fs) e =
    let both = neither (list_any (is_word word) f.words) (list_any (λ field. list_any (is_word word) field.words) fs) e in
    let rest : parts word (n + 1) fs ≡ [] = no_parts word (n + 1) fs both.1 in
    rw (no_places word f.words both.0) rest

no_hits : (word : List ℕ) (row : DocRow) → has_word word row ≡ false → hits_of word row ≡ []
no_hits word row e = no_parts word 0 row.doc.fields e

-- ---- rows by their numbers

module _ (schema : Schema) (word : List ℕ) (entry : ChunkEntry) (rows : List DocRow) where
  abbrev lines_in : DocRow → List ℕ
  lines_in row = flat_map (hit_line schema entry row) (hits_of word row)

  abbrev out : ℕ → Bool
  out number = list_any (λ d. d == number) entry.dead

  -- the lines of the row of a number
  abbrev pub row_lines : ℕ → List ℕ
  row_lines number = cond (out number) [] (option_map_or lines_in (slice_get rows number) [])

  abbrev left : List (ℕ × DocRow) → List (ℕ × DocRow)
  left es = filter (λ e. not (out e.0)) es

  abbrev having : List (ℕ × DocRow) → List (ℕ × DocRow)
  having es = filter (λ e. has_word word e.1) es

  abbrev by_row : List (ℕ × DocRow) → List ℕ
  by_row es = flat_map lines_in (map (λ (e : ℕ × DocRow). e.1) es)

  abbrev by_number : List (ℕ × DocRow) → List ℕ
  by_number es = flat_map row_lines (map (λ (e : ℕ × DocRow). e.0) es)

  row_is : (e : ℕ × DocRow) (b : Bool) → out e.0 ≡ b → slice_get rows e.0 ≡ Some e.1 → row_lines e.0 ≡ cond b [] (lines_in e.1)
  row_is e b o at = ap (λ (b : Bool). cond b [] (option_map_or lines_in (slice_get rows e.0) [])) o ∙ ap (λ (s : Option DocRow). cond b [] (option_map_or lines_in s [])) at

  first_left : (e : ℕ × DocRow) (es : List (ℕ × DocRow)) (b : Bool) → out e.0 ≡ b → by_row (left (e ∷ es)) ≡ by_row (cond (not b) (e ∷ left es) (left es))
  first_left e es b o = ap (λ (b : Bool). by_row (cond (not b) (e ∷ left es) (left es))) o

  first_having : (e : ℕ × DocRow) (es : List (ℕ × DocRow)) (c : Bool) → has_word word e.1 ≡ c → by_number (having (e ∷ es)) ≡ by_number (cond c (e ∷ having es) (having es))
  first_having e es c h = ap (λ (c : Bool). by_number (cond c (e ∷ having es) (having es))) h

  one_row : (e : ℕ × DocRow) (es : List (ℕ × DocRow)) (b c : Bool) → out e.0 ≡ b → has_word word e.1 ≡ c → slice_get rows e.0 ≡ Some e.1 → by_row (left es) ≡ by_number (having es) → by_row (left (e ∷ es)) ≡ by_number (having (e ∷ es))
  one_row e es true true o h at rest = first_left e es true o ∙ rest ∙ sym (first_having e es true h ∙ ap (λ (l : List ℕ). l ++ by_number (having es)) (row_is e true o at))
  one_row e es true false o h at rest = first_left e es true o ∙ rest ∙ sym (first_having e es false h)
  one_row e es false true o h at rest =
      first_left e es false o ∙ ap (λ (l : List ℕ). lines_in e.1 ++ l) rest ∙ sym (first_having e es true h ∙ ap (λ (l : List ℕ). l ++ by_number (having es)) (row_is e false o at))
  one_row e es false false o h at rest =
      let none : lines_in e.1 ≡ [] = ap (flat_map (hit_line schema entry e.1)) (no_hits word e.1 h) in
      first_left e es false o ∙ ap (λ (l : List ℕ). l ++ by_row (left es)) none ∙ rest ∙ sym (first_having e es false h)

  from : (n : ℕ) (xs : List DocRow) → ((k : ℕ) → slice_get xs k ≡ slice_get rows (n + k)) → by_row (left (enumerate_from n xs)) ≡ by_number (having (enumerate_from n xs))
  from n [] are = refl
  from n (x ∷ xs) are =
      let here : n + 0 ≡ n = omega arith in
      one_row (n, x) (enumerate_from (n + 1) xs) (out n) (has_word word x) refl refl (ap (λ (i : ℕ). slice_get rows i) (sym here) ∙ sym (are 0))
      (from (n + 1) xs (λ k. let next : n + suc k ≡ n + 1 + k = omega arith in are (suc k) ∙ ap (λ (i : ℕ). slice_get rows i) next))

  by_rows : hit_lines schema word entry rows ≡ flat_map row_lines (rows_with word rows)
  by_rows = from 0 rows (λ k. let none : 0 + k ≡ k = omega arith in ap (λ (i : ℕ). slice_get rows i) (sym none))

  -- ---- on the way over the rows that have the word

  -- the lines of the rows that went by were put, and those of the rows ahead are what is left of all
  pub record IsAmid {H S : Type 0} (host : HostWords H S) (ahead : List ℕ) (old now : List ℕ × H) : Type 0 where
    pub gone : List ℕ
    pub are : gone ++ flat_map row_lines ahead ≡ hit_lines schema word entry rows
    pub prints : BuffersLines {T = Unit {0}} host (Ok tt) gone old now

  first_ahead : (ahead : List ℕ) (row : ℕ) → slice_get ahead 0 ≡ Some row → flat_map row_lines ahead ≡ row_lines row ++ flat_map row_lines (drop 1 ahead)
  first_ahead [] row is = absurd cc
  first_ahead (next ∷ ahead) row is =
      let same : Some next ≡ Some row = is in
      let here : next ≡ row = cc in ap (λ (n : ℕ). row_lines n ++ flat_map row_lines ahead) here

  pub amid_first : {H S : Type 0} (host : HostWords H S) (h : List ℕ × H) → IsAmid host (rows_with word rows) h h
  amid_first host h = record { gone = []; are = sym by_rows; prints = buffer_none host (tt {0}) h }

  -- a dead row goes by
  pub amid_dead : {H S : Type 0} (host : HostWords H S) (ahead : List ℕ) (row : ℕ) (old now : List ℕ × H) → slice_get ahead 0 ≡ Some row → out row ≡ true → IsAmid host ahead old now → IsAmid host (drop 1 ahead) old now
  amid_dead host ahead row old now next dead amid =
      let none : row_lines row ≡ [] = ap (λ (b : Bool). cond b [] (option_map_or lines_in (slice_get rows row) [])) dead in
      record {
        gone = amid.gone;
        are = ap (λ (l : List ℕ). amid.gone ++ l) (sym (first_ahead ahead row next ∙ ap (λ (l : List ℕ). l ++ flat_map row_lines (drop 1 ahead)) none)) ∙ amid.are;
        prints = amid.prints;
      }

  all_is : (gone ahead : List ℕ) (row : ℕ) (its : DocRow) → slice_get ahead 0 ≡ Some row → out row ≡ false → slice_get rows row ≡ Some its → gone ++ flat_map row_lines ahead ≡ hit_lines schema word entry rows
      → (gone ++ lines_in its) ++ flat_map row_lines (drop 1 ahead) ≡ hit_lines schema word entry rows
  all_is gone ahead row its next alive there are =
      append_assoc gone (lines_in its) (flat_map row_lines (drop 1 ahead))
      ∙ ap (λ (l : List ℕ). gone ++ l) (sym (first_ahead ahead row next ∙ ap (λ (l : List ℕ). l ++ flat_map row_lines (drop 1 ahead)) (row_is (row, its) false alive there))) ∙ are

  -- the lines of a row that lives are put
  pub amid_live : {H S T : Type 0} (host : HostWords H S) (done : T) (ahead : List ℕ) (row : ℕ) (its : DocRow) (old mid new : List ℕ × H) → slice_get ahead 0 ≡ Some row → out row ≡ false → slice_get rows row ≡ Some its → BuffersLines {T = T} host (Ok done) (lines_in its) mid new
      → IsAmid host ahead old mid → IsAmid host (drop 1 ahead) old new
  amid_live {H} {S} {T} host done ahead row its old mid new next alive there prints amid = record {
    gone = amid.gone ++ lines_in its;
    are = all_is amid.gone ahead row its next alive there amid.are;
    prints = buffer_then host {T = Unit {0}} {U = Unit {0}} tt (Ok tt) amid.gone (lines_in its) old mid new amid.prints prints;
  }

  -- they didn't all go on
  pub amid_stop : {H S : Type 0} (T : Type 0) (host : HostWords H S) (stop : Stop) (ahead : List ℕ) (row : ℕ) (its : DocRow) (old mid new : List ℕ × H) → slice_get ahead 0 ≡ Some row → out row ≡ false → slice_get rows row ≡ Some its → BuffersLines {T = T} host (Err stop) (lines_in its) mid new
      → IsAmid host ahead old mid → BuffersLines {T = T} host (Err stop) (hit_lines schema word entry rows) old new
  amid_stop {H} {S} T host stop ahead row its old mid new next alive there prints amid =
      subst (λ (l : List ℕ). BuffersLines {T = T} host (Err stop) l old new) (all_is amid.gone ahead row its next alive there amid.are)
      (buffer_stop host T T stop (amid.gone ++ lines_in its) (flat_map row_lines (drop 1 ahead)) old new (buffer_then host {T = Unit {0}} {U = T} tt (Err stop) amid.gone (lines_in its) old mid new amid.prints prints))

  -- memory was wanting
  pub amid_wanting : {H S : Type 0} (T : Type 0) (host : HostWords H S) (ahead : List ℕ) (old now : List ℕ × H) → IsAmid host ahead old now → BuffersLines {T = T} host (Err stops.NoMemory) (hit_lines schema word entry rows) old now
  amid_wanting {H} {S} T host ahead old now amid =
      subst (λ (l : List ℕ). BuffersLines {T = T} host (Err stops.NoMemory) l old now) amid.are
      (buffer_then host {T = Unit {0}} {U = T} tt (Err stops.NoMemory) amid.gone (flat_map row_lines ahead) old now now amid.prints (buffer_wanting host T (flat_map row_lines ahead) now))

  -- no row is left
  pub amid_all : {H S T : Type 0} (host : HostWords H S) (done : T) (ahead : List ℕ) (old now : List ℕ × H) → ahead ≡ [] → IsAmid host ahead old now → BuffersLines {T = T} host (Ok done) (hit_lines schema word entry rows) old now
  amid_all {H} {S} {T} host done ahead old now none amid =
      subst (λ (l : List ℕ). BuffersLines {T = T} host (Ok done) l old now) (sym (append-nil amid.gone) ∙ ap (λ (l : List ℕ). amid.gone ++ flat_map row_lines l) (sym none) ∙ amid.are) amid.prints

  -- no row has the word
  pub no_lines : {H S T : Type 0} (host : HostWords H S) (done : T) (h : List ℕ × H) → rows_with word rows ≡ [] → BuffersLines {T = T} host (Ok done) (hit_lines schema word entry rows) h h
  no_lines {H} {S} {T} host done h none = amid_all host done (rows_with word rows) h h none (amid_first host h)

-- ---- the row at which a cursor stands

abbrev numbers : List ℕ → ℕ → List DocRow → List ℕ
numbers word n rows = map (λ (e : ℕ × DocRow). e.0) (filter (λ e. has_word word e.1) (enumerate_from n rows))

below : (word : List ℕ) (n : ℕ) (rows : List DocRow) → All (λ row. row < n + length rows) (numbers word n rows)
below word n [] = λ k d h. absurd (omega (arith, h))
below word n (r ∷ rs) =
    let rest : All (λ row. row < n + length (r ∷ rs)) (numbers word (n + 1) rs) = λ k d h. let low = below word (n + 1) rs k d h in omega (arith, low) in
    elim (has_word word r) as (λ b. All (λ row. row < n + length (r ∷ rs)) (map (λ (e : ℕ × DocRow). e.0) (cond b ((n, r) ∷ filter (λ e. has_word word e.1) (enumerate_from (n + 1) rs)) (filter (λ e. has_word word e.1) (enumerate_from (n + 1) rs))))) [
      | true ↦ All-cons (λ row. row < n + length (r ∷ rs)) n (numbers word (n + 1) rs) (omega arith) rest
      | false ↦ rest
    ]

-- the next row is one of the rows
pub next_below : (rows : List DocRow) (place : CursorPlace) (row : ℕ) → IsCursorPlace rows place → Some row ≡ next_row place → row < length rows
next_below rows place row is next =
    let e : slice_get place.ahead 0 ≡ Some row = sym next in
    let some : 0 < length place.ahead = slice_get_within place.ahead 0 row e in
    let long : length is.behind + 0 < length (rows_with place.word rows) = omega (arith, ap length is.both, length-append is.behind place.ahead, some) in
    let here : get_or (rows_with place.word rows) (length is.behind + 0) row ≡ row =
    ap (λ (l : List ℕ). get_or l (length is.behind + 0) row) (sym is.both) ∙ get_or-append-add is.behind place.ahead 0 row ∙ get_or_from_slice_get place.ahead 0 row row e in
    let low : get_or (rows_with place.word rows) (length is.behind + 0) row < 0 + length rows = below place.word 0 rows (length is.behind + 0) row long in
    omega (arith, here, low)

-- the row of an id
pub record IsThere (rows : List DocRow) (row id : ℕ) : Type 0 where
  pub its : DocRow
  pub there : slice_get rows row ≡ Some its
  pub named : its.doc.id ≡ id

pub is_there : (rows : List DocRow) (row id : ℕ) → option_map (λ found. found.doc.id) (slice_get rows row) ≡ Some id → IsThere rows row id
is_there rows row id is = there (slice_get rows row) refl is
  where
    there : (found : Option DocRow) → slice_get rows row ≡ found → option_map (λ found. found.doc.id) found ≡ Some id → IsThere rows row id
    there None at named = absurd cc
    there (Some its) at named =
        let same : Some its.doc.id ≡ Some id = named in
        let here : its.doc.id ≡ id = cc in record { its = its; there = at; named = here }

-- its places
pub hits_are : (rows : List DocRow) (place : CursorPlace) (word : List ℕ) (row : ℕ) (its : DocRow) → next_row place ≡ Some row → slice_get rows row ≡ Some its → place.word ≡ word → hits_ahead rows place ≡ hits_of word its
hits_are rows place word row its next there same =
    ap (λ (n : Option ℕ). option_map_or (hits_of place.word) (option_and_then (slice_get rows) n) []) next ∙ ap (λ (s : Option DocRow). option_map_or (hits_of place.word) s []) there ∙ ap (λ (w : List ℕ). hits_of w its) same
