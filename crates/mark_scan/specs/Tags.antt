-- What tags do to a text: the ones that are removed, the ends of paragraphs, and zones. A tag's name has either case.
use Rattle.std.specs.Prelude.{ℕ, List, [], ◌∷◌, ◌++◌, Bool, ◌&&◌, not, Option, Some, None, is_some, if◌then◌else◌, codes, option_to_list}
use Rattle.std.specs.List.{list_any, position}
use Rattle.std.specs.Str.{bytes_eq, str_to_ascii_lowercase, str_eq_ignore_ascii_case}
use Rattle.mark_scan.specs.declared.mark.Mark.{Mark}
use Rattle.mark_scan.specs.declared.mark.MarkKind.{MarkKind}
use Rattle.mark_scan.specs.declared.mark.MarkKind.TheVariants.{Inline, Paragraph, Open, Close}
use Rattle.mark_scan.specs.Markup.{TagText}

-- the inline tags, sorted
abbrev pub inline_tags : List (List ℕ)
inline_tags =
    codes "a" ∷ codes "b" ∷ codes "basefont" ∷ codes "big" ∷ codes "em" ∷ codes "font" ∷ codes "i" ∷ codes "img" ∷ codes "label" ∷ codes "s" ∷ codes "small" ∷ codes "span" ∷ codes "strike" ∷ codes "strong" ∷ codes "sub" ∷ codes "sup" ∷ codes "tt" ∷ codes "u" ∷ []

-- the block tags, sorted
abbrev pub block_tags : List (List ℕ)
block_tags =
    codes "address" ∷ codes "blockquote" ∷ codes "caption" ∷ codes "center" ∷ codes "dd" ∷ codes "div" ∷ codes "dl" ∷ codes "dt" ∷ codes "h1" ∷ codes "h2" ∷ codes "h3" ∷ codes "h4" ∷ codes "h5" ∷ codes "li" ∷ codes "menu" ∷ codes "ol" ∷ codes "p" ∷ codes "pre" ∷ codes "table" ∷ codes "tbody" ∷ codes "td" ∷ codes "tfoot" ∷ codes "th" ∷ codes "thead" ∷ codes "tr" ∷ codes "ul" ∷ []

-- whether a name, with its capitals made small, is one of these
unfoldable pub is_among : List (List ℕ) → List ℕ → Bool
is_among tags name = list_any (λ tag. bytes_eq tag (str_to_ascii_lowercase name)) tags

-- the number of the zone with this name, from 0
abbrev pub zone_of : List (List ℕ) → List ℕ → Option ℕ
zone_of zones name = position (λ zone. str_eq_ignore_ascii_case zone name) zones

-- A tag is removed, with nothing in its place, where it is an inline tag and no zone. All others separate.
unfoldable pub is_removed : List (List ℕ) → List ℕ → Bool
is_removed zones name = is_among inline_tags name && not (is_some (zone_of zones name))

-- the end of a paragraph, where sentences and paragraphs are looked for and the tag is a block tag
unfoldable pub paragraph_kind : Bool → List ℕ → Option MarkKind
paragraph_kind sp name = if sp && is_among block_tags name then Some Paragraph else None

-- what a tag does to the zone of this number: it opens or closes it
abbrev pub span_kind : Bool → Option ℕ → Option MarkKind
span_kind closing None = None
span_kind closing (Some zone) = if closing then Some (Close zone) else Some (Open zone)

-- what a tag does to its zone, unless it is empty
unfoldable pub zone_kind : List (List ℕ) → TagText → Option MarkKind
zone_kind zones t = if t.empty then None else span_kind t.closing (zone_of zones t.name)

-- the kinds of the marks of a tag, in order
unfoldable pub tag_kinds : Bool → List (List ℕ) → TagText → List MarkKind
tag_kinds sp zones t = if is_removed zones t.name then Inline ∷ [] else option_to_list (paragraph_kind sp t.name) ++ option_to_list (zone_kind zones t)

-- the mark of this kind from a place up to another
abbrev pub span : ℕ → ℕ → MarkKind → Mark
span from to kind = record { kind = kind; from = from; to = to }
