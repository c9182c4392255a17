-- The loop over the marks that begin in a character.
use Rattle.std.proofs.Common.{◌≡◌, ℕ, ◌+◌, ◌<◌, ◌≤◌, List, [], ◌∷◌, ◌++◌, All, length, take, drop, get_or, Ok, Err, sym, ◌∙◌, ap, subst, arith, append_assoc}
use Rattle.std.specs.Prelude.{option_to_list}
use Rattle.std.proofs.lemmas.List.{take_more, get_or-drop}
use Rattle.std.proofs.lemmas.List.Elements.{All-push, All-weaker}
use Rattle.srch_base.specs.declared.faults.Or.{Or}
use Rattle.srch_base.specs.declared.faults.Or.TheVariants as causes
use Rattle.mark_scan.specs.declared.mark.Mark.{Mark}
use Rattle.doc_tokens.specs.declared.field.TooLong.{TooLong}
use Rattle.doc_tokens.specs.declared.reader.Reader.{Reader}
use Rattle.doc_tokens.specs.declared.walk.Passed.{Passed}
use Rattle.doc_tokens.specs.declared.sign.TextSign.{TextSign}
use Rattle.doc_tokens.specs.TextSigns.{tags_in}
use Rattle.doc_tokens.specs.steps.TokenReader.{IsCover, tag_sign, Ordered, BeginFrom, IsNext, HasPassed, Wants, ReadsSome, PassesMarks}
use Rattle.doc_tokens.proofs.Passing.{ordered_from, ordered_weaker, tags_left, tags_late, tags_next, tag_sign-list}

-- Some of the marks that begin in a character were passed, and their tags read.
pub record Passing (marks : List Mark) (old reader : Reader) (passed : Passed) (from to : ℕ) : Type 0 where
  pub cover : IsCover passed.cover (take passed.next marks)
  pub before : All (λ mark. mark.from < to) (take passed.next marks)
  pub after : Ordered from (drop passed.next marks)
  pub reads : (all rest : List TextSign) → Wants all old (tags_in marks from to ++ rest) → Wants all reader (tags_in (drop passed.next marks) from to ++ rest)

-- at the start
pub passing_start : (marks : List Mark) (reader : Reader) (passed : Passed) (from to : ℕ) → from ≤ to → HasPassed marks passed from → Passing marks reader reader passed from to
passing_start marks reader passed from to below has = record {
  cover = has.cover;
  before = All-weaker (λ (m : Mark). m.from < from) (λ (m : Mark). m.from < to) (λ m early. omega arith) (take passed.next marks) has.before;
  after = has.after;
  reads = λ all rest wants. subst (λ (signs : List TextSign). Wants all reader (signs ++ rest)) (tags_left marks passed.next from to has.before) wants;
}

-- the next mark is passed
pub passing_next : (marks : List Mark) (old reader new : Reader) (passed next : Passed) (mark : Mark) (from to : ℕ) → IsNext marks passed.next to mark → next.next ≡ passed.next + 1
    → ((seen : List Mark) → IsCover passed.cover seen → IsCover next.cover (seen ++ mark ∷ []))
    → ReadsSome reader (option_to_list (tag_sign mark.kind)) new (Ok tt)
    → Passing marks old reader passed from to → Passing marks old new next from to
passing_next marks old reader new passed next mark from to is count cover reads passing =
    let at = passed.next in
    let ordered : Ordered from (mark ∷ drop (at + 1) marks) = subst (Ordered from) is.is passing.after in
    let here : get_or marks at mark ≡ mark = ap (λ (n : ℕ). get_or marks n mark) (omega arith) ∙ sym (get_or-drop at marks 0 mark) ∙ ap (λ (ms : List Mark). get_or ms 0 mark) is.is in
    let taken : take next.next marks ≡ take at marks ++ mark ∷ [] =
    ap (λ (n : ℕ). take n marks) count ∙ take_more marks at mark is.below ∙ ap (λ (m : Mark). take at marks ++ m ∷ []) here in
    let tags : tags_in (drop at marks) from to ≡ option_to_list (tag_sign mark.kind) ++ tags_in (drop next.next marks) from to =
    ap (λ (ms : List Mark). tags_in ms from to) is.is
    ∙ tags_next from to mark (drop (at + 1) marks) ordered.0 is.begins
    ∙ (λ i. tag_sign-list mark.kind i ++ tags_in (drop (sym count i) marks) from to) in
    record {
      cover = subst (IsCover next.cover) (sym taken) (cover (take at marks) passing.cover);
      before = subst (All (λ (m : Mark). m.from < to)) (sym taken) (All-push (λ (m : Mark). m.from < to) (take at marks) mark passing.before is.begins);
      after = subst (λ (n : ℕ). Ordered from (drop n marks)) (sym count) (ordered_weaker from mark.from (drop (at + 1) marks) ordered.0 ordered.1);
      reads = λ all rest wants. reads all (tags_in (drop next.next marks) from to ++ rest)
          (subst (Wants all reader) (append_assoc (option_to_list (tag_sign mark.kind)) _ rest)
          (subst (λ (signs : List TextSign). Wants all reader (signs ++ rest)) tags (passing.reads all rest wants)));
    }

-- at the end
pub passing_end : (marks : List Mark) (old reader : Reader) (passed : Passed) (from to : ℕ) → passed.next ≤ length marks → BeginFrom to (drop passed.next marks) → Passing marks old reader passed from to
    → HasPassed marks passed to × ((all rest : List TextSign) → Wants all old (tags_in marks from to ++ rest) → Wants all reader rest)
passing_end marks old reader passed from to within begin passing =
    let after = ordered_from from to (drop passed.next marks) passing.after begin in (
      record { within = within; cover = passing.cover; before = passing.before; after = after },
      λ all rest wants. subst (λ (signs : List TextSign). Wants all reader (signs ++ rest)) (tags_late from to (drop passed.next marks) after) (passing.reads all rest wants),
    )

-- a word that stands above the limit
pub passing_above : (marks : List Mark) (old reader new : Reader) (start passed : Passed) (mark : Mark) (to : ℕ) (fault : Or TooLong) → IsNext marks passed.next to mark
    → ReadsSome reader (option_to_list (tag_sign mark.kind)) new (Err fault)
    → ((from : ℕ) → from ≤ to → HasPassed marks start from → Passing marks old reader passed from to)
    → PassesMarks marks old start to new (Err fault)
passing_above marks old reader new start passed mark to causes.NoMemory is reads passing = tt
passing_above marks old reader new start passed mark to (causes.Fault too_long) is reads passing = λ from below has all rest wants.
    let now = passing from below has in
    let ordered : Ordered from (mark ∷ drop (passed.next + 1) marks) = subst (Ordered from) is.is now.after in
    let tags : tags_in (drop passed.next marks) from to ≡ option_to_list (tag_sign mark.kind) ++ tags_in (drop (passed.next + 1) marks) from to =
    ap (λ (ms : List Mark). tags_in ms from to) is.is
    ∙ tags_next from to mark (drop (passed.next + 1) marks) ordered.0 is.begins
    ∙ ap (λ (signs : List TextSign). signs ++ tags_in (drop (passed.next + 1) marks) from to) (tag_sign-list mark.kind) in
    reads all (tags_in (drop (passed.next + 1) marks) from to ++ rest)
    (subst (Wants all reader) (append_assoc (option_to_list (tag_sign mark.kind)) _ rest)
    (subst (λ (signs : List TextSign). Wants all reader (signs ++ rest)) tags (now.reads all rest wants)))
