-- The options behind a rule's tests (pf.conf(5), "Stateful Tracking Options", "label", "flags"), in any order, each sort once.
use Rattle.std.specs.Prelude.{ℕ, ◌==◌, nat_lt, ◌&&◌, ◌||◌, not, Bool, true, false, List, [], ◌∷◌, ◌++◌, length, codes, Option, Some, None, Result, Ok, Err, if◌then◌else◌}
use Rattle.std.specs.{List.{list_all, list_any}, Str.bytes_eq}
use Rattle.pf_addr.specs.{Path.Names.name_of}
use Rattle.pf_tokens.specs.declared.{place.Place.Place, token.Token.Token}
use Rattle.pf_tokens.specs.{Places.text_of, Words.{is_word, is_symbol, is_newline}}
use Rattle.pf_parse.specs.declared.{fault.Mistake.Mistake, tree.Start.Start, tree.Start.TheVariants.{Pass, Block, Anchor}, tree.Tests.Tests, options.Options.Options, options.TheConstants.LABEL_BYTES}
use Rattle.pf_parse.specs.declared.fault.LeftOut.TheVariants as left_out
use Rattle.pf_parse.specs.declared.fault.Mistake.TheVariants as mistakes
use Rattle.pf_parse.specs.Reading.{Word, Reads, giving, ◌>=>◌, refusing, second, token, takes_word, expect_word, expect_symbol, string, value, unexpected, leave_out, leave_out_next, skip_parentheses, looking, repeated}
use Rattle.pf_parse.specs.{Lists.{looking_at}, Criteria.{tests}}

-- what the options say before any of them came
abbrev pub nothing_said : Options
nothing_said = record { keeps = true; label = None; has_state = false; has_label = false; has_flags = false }

abbrev pub once : Bool → Place → Mistake → Reads (Unit {0})
once came p m = if came then refusing p m else giving tt

-- ---- state

abbrev pub is_anchor : Start → Bool
is_anchor Anchor = true
is_anchor Pass = false
is_anchor Block = false

abbrev pub is_block : Start → Bool
is_block Block = true
is_block Pass = false
is_block Anchor = false

abbrev pub is_state : Token → Bool
is_state t = is_word (codes "keep") t || (is_word (codes "modulate") t || (is_word (codes "synproxy") t || is_word (codes "no") t))

unfoldable pub state_options : Reads (Unit {0})
state_options = looking_at >=> λ t. if is_symbol (codes "(") t then (leave_out t.place left_out.StateOptions >=> λ _. skip_parentheses) else giving tt

unfoldable pub kept : Start → Token → Reads Bool
kept start t =
    if is_word (codes "no") t then giving false
    else if is_block start then refusing t.place mistakes.KeepOnBlock
    else ((if is_word (codes "keep") t then giving tt else leave_out t.place (left_out.State (text_of t.text))) >=> λ _. state_options >=> λ _. giving true)

unfoldable pub state : Start → Options → Reads Options
state start said =
    token >=> λ t. if is_anchor start then refusing t.place mistakes.StateOfAnchor
    else (once said.has_state t.place mistakes.TwoStates >=> λ _. expect_word (codes "state") >=> λ _. kept start t
    >=> λ keeps. giving (record said { keeps = keeps; has_state = true }))

-- ---- labels

abbrev pub is_ok_name : {A E : Type 0} → Result A E → Bool
is_ok_name (Ok x) = true
is_ok_name (Err e) = false

unfoldable pub label_of : Start → Place → Token → Reads (Option Word)
label_of start p t =
    if nat_lt LABEL_BYTES (length (text_of t.text)) then refusing t.place mistakes.LongLabel
    else if is_anchor start || not (is_ok_name (name_of LABEL_BYTES (text_of t.text)))
    then (leave_out p (left_out.Label (text_of t.text)) >=> λ _. giving None)
    else giving (Some (text_of t.text))

unfoldable pub label : Start → Options → Reads Options
label start said =
    token >=> λ t. once said.has_label t.place mistakes.TwoLabels >=> λ _. string >=> label_of start t.place
    >=> λ l. giving (record said { label = l; has_label = true })

-- ---- flags

abbrev pub is_flag : ℕ → Bool
is_flag b = list_any (λ c. c == b) (codes "FSRPAUEW")

unfoldable pub letters : Reads Word
letters =
    string >=> λ t. if list_all is_flag (text_of t.text) then giving (text_of t.text)
    else refusing t.place (mistakes.Misplaced (text_of t.text))

abbrev pub is_syn : ℕ → Bool
is_syn b = b == 83

-- each of these is one of those
abbrev pub is_within : Word → Word → Bool
is_within set of = list_all (λ b. list_any (λ c. c == b) of) set

-- the first packet of a connection, which is a SYN alone, has these of those flags
abbrev pub is_first_packet : Word → Word → Bool
is_first_packet set of = list_all is_syn set && (if length set == 0 then not (list_any is_syn of) else list_any is_syn of)

-- no protocol is tested, or TCP is among those that are
abbrev pub is_tcp : List Word → Bool
is_tcp [] = true
is_tcp (w ∷ []) = false
is_tcp (w ∷ n ∷ []) = bytes_eq n (codes "6")
is_tcp (w ∷ n ∷ m ∷ ws) = false

-- Flags that a connection's first packet has, which is a SYN alone, have no effect. Of others none is taken.
unfoldable pub flags_of : Place → Tests → Word → Word → Reads (Unit {0})
flags_of p tests set of =
    if not (is_within set of) then refusing p (mistakes.NeverTrue set of)
    else if not (is_first_packet set of) then refusing p (mistakes.NoFirstPacket set of)
    else if not (list_any is_tcp tests.protocols) then refusing p mistakes.FlagsWithoutTcp
    else leave_out p (left_out.Flags set of)

unfoldable pub set_flags : Reads Word
set_flags = looking_at >=> λ t. if is_symbol (codes "/") t then giving [] else letters

unfoldable pub written_flags : Place → Tests → Reads (Unit {0})
written_flags p tests =
    set_flags >=> λ set. expect_symbol (codes "/") >=> λ _. letters >=> flags_of p tests set

unfoldable pub flags : Tests → Options → Reads Options
flags tests said =
    token >=> λ t. once said.has_flags t.place mistakes.TwoFlags
    >=> λ _. takes_word (codes "any") >=> λ is_any. (if is_any then giving tt else written_flags t.place tests)
    >=> λ _. giving (record said { has_flags = true })

-- ---- what is left out

unfoldable pub skip_string : Reads (Unit {0})
skip_string = string >=> λ _. giving tt

unfoldable pub queue_name : Reads (Unit {0})
queue_name = looking_at >=> λ t. if is_symbol (codes "(") t then skip_parentheses else skip_string

unfoldable pub queue : Reads (Unit {0})
queue = leave_out_next >=> λ _. queue_name

unfoldable pub tag : Reads (Unit {0})
tag = leave_out_next >=> λ _. skip_string

unfoldable pub named_priority : Reads (Unit {0})
named_priority = looking_at >=> λ t. if is_symbol (codes "(") t then giving tt else expect_word (codes "prio")

unfoldable pub priority_value : Reads (Unit {0})
priority_value = looking_at >=> λ t. if is_symbol (codes "(") t then skip_parentheses else (value >=> λ _. giving tt)

unfoldable pub priority : Reads (Unit {0})
priority = token >=> λ t. named_priority >=> λ _. leave_out t.place left_out.Priority >=> λ _. priority_value

-- "tagged" is refused behind a "!", too
unfoldable pub unexpected_option : Reads (Unit {0})
unexpected_option =
    looking_at >=> λ t. looking second
    >=> λ u. if is_symbol (codes "!") t && is_word (codes "tagged") u then (token >=> λ _. unexpected) else unexpected

unfoldable pub left_out_option : Reads (Unit {0})
left_out_option =
    looking_at >=> λ t. if is_word (codes "allow-opts") t then leave_out_next
    else if is_word (codes "queue") t then queue
    else if is_word (codes "tag") t then tag
    else if is_word (codes "set") t then priority
    else unexpected_option

-- ---- all options

unfoldable pub option : Start → Tests → Options → Reads Options
option start tests said =
    looking_at >=> λ t. if is_state t then state start said
    else if is_word (codes "label") t then label start said
    else if is_word (codes "flags") t then flags tests said
    else (left_out_option >=> λ _. giving said)

abbrev pub ends_options : Token → Bool
ends_options t = is_newline t || is_symbol (codes "{") t

-- one more option, if there is one
abbrev pub options_more : Start → Tests → Options → Reads (Options × Bool)
options_more start tests before =
    looking_at >=> λ t. if ends_options t then giving (before, false) else (option start tests before >=> λ after. giving (after, true))

unfoldable pub said : Start → Tests → Reads Options
said start tests = repeated (options_more start tests) nothing_said

-- ---- the words that options add to a rule

abbrev pub state_words : Start → Bool → List Word
state_words Pass true = codes "keep" ∷ codes "state" ∷ []
state_words Pass false = codes "no" ∷ codes "state" ∷ []
state_words Block keeps = []
state_words Anchor keeps = []

abbrev pub label_words : Option Word → List Word
label_words None = []
label_words (Some l) = codes "label" ∷ l ∷ []

unfoldable pub closing : Start → Tests → Reads (List Word)
closing start tests = said start tests >=> λ options. giving (state_words start options.keeps ++ label_words options.label)

-- what a rule tests, and what its options add to it
unfoldable pub tests_and_options : Start → Reads (Tests × List Word)
tests_and_options start = tests >=> λ ts. closing start ts >=> λ cs. giving (ts, cs)
