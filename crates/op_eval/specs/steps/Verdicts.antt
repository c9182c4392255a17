-- what the words of a row tell of a node: for each list of spans in force, or for none in force alone
use Rattle.std.specs.Prelude.{◌≡◌, ℕ, List, [], Bool, true, false, Contains}
use Rattle.doc_types.specs.declared.documents.DocRow.{DocRow}
use Rattle.query_tree.specs.declared.key.Key.{Key}
use Rattle.query_tree.specs.declared.key.How.{How}
use Rattle.query_tree.specs.declared.query.Item.{Item}
use Rattle.std.specs.List.{flat_map}
use Rattle.word_rows.specs.Keywords.{places_within, Spans}
use Rattle.op_eval.specs.Finding.{is_some, hits_at, quoted, passes, node_finds}
use Rattle.op_eval.specs.declared.verdict.Verdict.{Verdict}
use Rattle.op_eval.specs.declared.verdict.Verdict.TheVariants as verdicts

-- what is told holds for these spans
abbrev pub Concerns : Bool → Spans → Type 0
Concerns spanned spans = spanned ≡ false → spans ≡ []

abbrev pub Tells : Bool → (Spans → Bool) → Verdict → Type 0
Tells spanned matches verdicts.No = (spans : Spans) → Concerns spanned spans → matches spans ≡ false
Tells spanned matches verdicts.Open = Unit {0}
Tells spanned matches verdicts.Yes = (spans : Spans) → Concerns spanned spans → matches spans ≡ true

-- keywords with one number have one word
abbrev pub AreApart : (List ℕ → ℕ) → List Key → Type 0
AreApart number keys = (a b : Key) → Contains keys a → Contains keys b → number a.word ≡ number b.word → a.word ≡ b.word

-- ---- the logic of three values
abbrev pub negation : Verdict → Verdict
negation verdicts.No = verdicts.Yes
negation verdicts.Open = verdicts.Open
negation verdicts.Yes = verdicts.No

abbrev pub conjunction : Verdict → Verdict → Verdict
conjunction verdicts.No other = verdicts.No
conjunction verdicts.Open verdicts.No = verdicts.No
conjunction verdicts.Open other = verdicts.Open
conjunction verdicts.Yes other = other

abbrev pub doubt : Verdict → Verdict
doubt verdicts.No = verdicts.No
doubt other = verdicts.Open

-- ---- what is told of

-- the keyword has a place inside the spans
abbrev pub stands_in : DocRow → Spans → Key → Bool
stands_in row spans key = is_some (places_within row spans key)

-- what is quoted matches
abbrev pub quoted_matches : DocRow → (List ℕ → ℕ) → List Key → How → Spans → Bool
quoted_matches row number keys how spans =
    (quoted number (places_within row spans) keys how (flat_map (λ key. hits_at number key (places_within row spans key)) keys)).matches

-- the item of an AND passes
abbrev pub item_passes : DocRow → (List ℕ → ℕ) → Spans → Item → Bool
item_passes row number spans item = passes (record { negated = item.negated; found = node_finds row number item.node spans })
