-- Anchors (pf.conf(5), ANCHORS): names of rulesets, and rules in braces.
use Rattle.std.specs.Prelude.{ℕ, zero, suc, ◌+◌, ◌-◌, ◌==◌, nat_lt, Bool, false, List, [], ◌∷◌, ◌++◌, length, codes, decimal, Option, Some, None, Result, Ok, Err, if◌then◌else◌}
use Rattle.std.specs.{List.{list_any, slice_get}, Str.bytes_eq}
use Rattle.pf_form.specs.declared.form.fault.Kind.{Kind}
use Rattle.pf_form.specs.declared.form.fault.Kind.TheVariants.{BadWord, NameTooLong, BadProto}
use Rattle.pf_addr.specs.{Path.Paths.{path_of, components}, Path.References.reference_of}
use Rattle.pf_addr.specs.declared.path.limits.TheConstants.{DEPTH_LIMIT}
use Rattle.pf_tokens.specs.declared.{place.Place.Place, token.Token.Token}
use Rattle.pf_tokens.specs.{Places.text_of, Words.{is_symbol, is_newline, is_string}}
use Rattle.pf_parse.specs.declared.{openings.Direction.Direction, anchors.Named.Named, anchors.Named.TheVariants.{Reference, Path}, fault.Stop.Stop, tree.Braces.Braces, tree.Product.Product, tree.Start.TheVariants.Anchor, tree.Tree.Tree}
use Rattle.pf_parse.specs.declared.fault.Mistake.TheVariants as mistakes
use Rattle.pf_parse.specs.{States.State, Stops.fault_at, Product.product_of, Options.tests_and_options, Openings.{direction, direction_words, quick_words}}
use Rattle.pf_parse.specs.Reading.{Word, Reads, giving, ◌>=>◌, refusing, looking, token, takes_word, takes_symbol, string, end_line}
use Rattle.pf_parse.specs.Lists.{looking_at, from}

-- ---- names

abbrev pub is_reserved : Word → Bool
is_reserved [] = false
is_reserved (b ∷ bs) = b == 95

abbrev pub in_quotes : Word → Word
in_quotes name = codes "\"" ++ (name ++ codes "\"")

abbrev pub no_fault : {A E : Type 0} → Result A E → Option E
no_fault (Ok x) = None
no_fault (Err e) = Some e

-- What an anchor rule names, or the path of a ruleset, which isn't main's. Quotes within a name are no part of it.
abbrev pub name_fault : Named → Word → Option Kind
name_fault Reference name = no_fault (reference_of (in_quotes name))
name_fault Path name = if bytes_eq name (codes "-") then Some BadWord else no_fault (path_of name)

abbrev pub fault_checked : Token → Option Kind → Result (Unit {0}) Stop
fault_checked t None = Ok tt
fault_checked t (Some NameTooLong) = Err (fault_at t.place mistakes.LongPath)
fault_checked t (Some BadWord) = Err (fault_at t.place (mistakes.Path (text_of t.text)))
fault_checked t (Some BadProto) = Err (fault_at t.place (mistakes.Path (text_of t.text)))

abbrev pub path_checked : Named → Token → Result (Unit {0}) Stop
path_checked named t =
    if list_any is_reserved (components (text_of t.text)) then Err (fault_at t.place mistakes.ReservedAnchor)
    else fault_checked t (name_fault named (text_of t.text))

unfoldable pub quoted_path : Reads (Unit {0})
quoted_path = looking_at >=> λ t. if is_symbol (codes "/") t then refusing t.place mistakes.UnquotedPath else giving tt

unfoldable pub anchor_name : Named → Reads Token
anchor_name named = string >=> λ t. from (path_checked named t) >=> λ _. quoted_path >=> λ _. giving t

unfoldable pub own_name : Reads (Option Token)
own_name = looking_at >=> λ t. if is_string t then (anchor_name Reference >=> λ n. giving (Some n)) else giving None

-- ---- without braces

unfoldable pub name_alone : Place → Option Token → Reads Word
name_alone p None = refusing p mistakes.UnnamedAnchor
name_alone p (Some t) = end_line >=> λ _. giving (text_of t.text)

-- ---- with braces

abbrev pub has_slash : Word → Bool
has_slash name = list_any (λ b. b == 47) name

-- The braces of this number: an anchor without a name is "_N".
abbrev pub name_in_braces : ℕ → Option Token → Result Word Stop
name_in_braces number None = Ok (codes "_" ++ decimal number)
name_in_braces number (Some t) = if has_slash (text_of t.text) then Err (fault_at t.place mistakes.PathOfBraces) else Ok (text_of t.text)

unfoldable pub newline_after_brace : Reads (Unit {0})
newline_after_brace = looking_at >=> λ t. if is_newline t then (token >=> λ _. giving tt) else refusing t.place mistakes.AfterBrace

-- the number of the braces that open next
abbrev pub next_number : State → ℕ
next_number s = let t : Tree = s.tree in length t.braces + 1

-- the lines behind it stand in these braces, which so many are around
unfoldable pub enter : Place → ℕ → Word → Reads (Unit {0})
enter p depth name s =
    let t : Tree = s.tree in
    Ok (tt, record s { tree = record t { braces = t.braces ++ (record { within = s.within; place = p; name = name } ∷ []) }; within = next_number s; depth = depth + 1 })

unfoldable pub open_braces : Place → ℕ → Option Token → Reads Word
open_braces p depth name =
    newline_after_brace >=> λ _. looking next_number
    >=> λ number. from (name_in_braces number name) >=> λ n. enter p depth n >=> λ _. giving n

unfoldable pub braces_or_line : Place → ℕ → Option Token → Reads Word
braces_or_line p depth name = takes_symbol (codes "{") >=> λ has_braces. if has_braces then open_braces p depth name else name_alone p name

-- how many braces are open around an anchor at this place
unfoldable pub shallow : Place → Reads ℕ
shallow p s = if nat_lt s.depth DEPTH_LIMIT then Ok (s.depth, s) else Err (fault_at p mistakes.LongPath)

-- a rule of the braces of this number
unfoldable pub keep_rule : ℕ → Product → Reads (Unit {0})
keep_rule within p s = let t : Tree = s.tree in Ok (tt, record s { tree = record t { rules = t.rules ++ (record { within = within; product = p } ∷ []) } })

abbrev pub anchor_opening : Word → Option Direction → Bool → List Word
anchor_opening name d is_quick = codes "anchor" ∷ in_quotes name ∷ (direction_words d ++ quick_words is_quick)

-- It is a rule of the braces that it stands in, not of those that it opens.
unfoldable pub named_anchor : Place → ℕ → Option Token → Reads (Unit {0})
named_anchor p depth name =
    direction >=> λ d. takes_word (codes "quick") >=> λ is_quick. tests_and_options Anchor >=> λ both. looking (λ s. s.within)
    >=> λ within. braces_or_line p depth name >=> λ n. keep_rule within (product_of p (anchor_opening n d is_quick) both.0 both.1)

unfoldable pub anchor : Reads (Unit {0})
anchor = token >=> λ t. shallow t.place >=> λ depth. own_name >=> named_anchor t.place depth

-- ---- the end of braces

abbrev pub number_around : Option Braces → ℕ
number_around None = zero
number_around (Some b) = b.within

-- the number of the braces around those of this number
abbrev pub around : List Braces → ℕ → ℕ
around all zero = zero
around all (suc n) = number_around (slice_get all n)

abbrev pub leave_braces : Reads (Unit {0})
leave_braces s = let t : Tree = s.tree in Ok (tt, record s { within = around t.braces s.within; depth = s.depth - 1 })

unfoldable pub close_braces : Reads (Unit {0})
close_braces = token >=> λ _. leave_braces >=> λ _. end_line
