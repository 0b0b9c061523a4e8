-- The lines of a file (pf.conf(5), GRAMMAR).
use Rattle.std.specs.Prelude.{◌==◌, ◌&&◌, ◌||◌, Bool, true, false, List, [], ◌∷◌, ◌++◌, codes, Option, Some, None, Result, Ok, Err, if◌then◌else◌}
use Rattle.std.specs.{List.list_any, Option.option_to_list}
use Rattle.pf_form.specs.Form.Forms.{◌>>=◌}
use Rattle.pf_addr.specs.Address.{PlainNet}
use Rattle.pf_tokens.specs.declared.{place.Place.Place, token.Token.Token}
use Rattle.pf_tokens.specs.{Places.text_of, Words.{has_text, is_word, is_symbol, is_newline}}
use Rattle.pf_lists.specs.declared.hosts.Host.{Host}
use Rattle.pf_parse.specs.declared.{anchors.Named.TheVariants.Path, openings.Direction.Direction, fault.Stop.Stop, parser.Mode.Mode, statements.Parsed.Parsed, statements.TheConstants.{SETTINGS, HOLDS}, tree.Entries.Entries, tree.Entries.TheVariants.{Listed, File}, tree.Entry.Entry, tree.Load.Load, tree.Product.Product, tree.Start.Start, tree.Start.TheVariants.{Pass, Block}, tree.Table.Table, tree.Tree.Tree}
use Rattle.pf_parse.specs.declared.fault.LeftOut.TheVariants as left_out
use Rattle.pf_parse.specs.declared.fault.Mistake.TheVariants as mistakes
use Rattle.pf_parse.specs.declared.fault.Reason.TheVariants as reasons
use Rattle.pf_parse.specs.declared.parser.Rank.TheVariants as ranks
use Rattle.pf_parse.specs.{States.State, Beginning.beginning, Stops.fault_at, Product.product_of, Options.tests_and_options}
use Rattle.pf_parse.specs.Reading.{Word, Reads, giving, ◌>=>◌, looking, token, takes_word, expect, expect_word, expect_symbol, string, unexpected, end_line, newlines, leave_out, leave_out_next, skip_line, in_order, is_at_end, is_empty_list, repeated}
use Rattle.pf_parse.specs.{Lists.{looking_at, from, table_name, host_list, interfaces}, Criteria.{interface_words, no_tests}, Openings.{block_policy, direction, direction_words, quick_words, log_and_quick}, Anchors.{anchor_name, anchor, close_braces, keep_rule}}

-- ---- "pass" and "block"

abbrev pub rule_opening : Word → Option Direction → Bool → List Word
rule_opening first d is_quick = first ∷ (direction_words d ++ quick_words is_quick)

unfoldable pub rule_of : Start → Word → Place → Reads (Unit {0})
rule_of start first p =
    direction >=> λ d. log_and_quick >=> λ is_quick. tests_and_options start >=> λ both. end_line >=> λ _. looking (λ s. s.within)
    >=> λ within. keep_rule within (product_of p (rule_opening first d is_quick) both.0 both.1)

unfoldable pub rule : Reads (Unit {0})
rule =
    token >=> λ t. if is_word (codes "block") t then (block_policy >=> λ _. rule_of Block (codes "block") t.place)
    else rule_of Pass (codes "pass") t.place

-- ---- "table" (pf.conf(5), TABLES)

abbrev pub entry_of : Host → Option PlainNet → Result Entry Stop
entry_of h None = Err (fault_at h.place mistakes.TableInTable)
entry_of h (Some n) = Ok (record { place = h.place; net = n; is_negated = h.is_negated })

unfoldable pub entries_of : List Host → Result (List Entry) Stop
entries_of [] = Ok []
entries_of (h ∷ hs) = entry_of h h.net >>= λ e. entries_of hs >>= λ es. Ok (e ∷ es)

unfoldable pub listed : Reads (List Entry)
listed =
    looking (λ s. is_empty_list s.left)
    >=> λ is_empty. if is_empty then (token >=> λ _. newlines >=> λ _. token >=> λ _. giving []) else (host_list >=> λ hs. from (entries_of hs))

abbrev pub is_left_out_of_table : Token → Bool
is_left_out_of_table t = is_word (codes "const") t || is_word (codes "counters") t

-- where entries come from, or what says nothing
unfoldable pub table_part : Reads (Option Entries)
table_part =
    looking_at >=> λ t. if is_word (codes "persist") t then (token >=> λ _. giving None)
    else if is_left_out_of_table t then (leave_out_next >=> λ _. giving None)
    else if is_word (codes "file") t then (token >=> λ _. string >=> λ f. giving (Some (File f)))
    else if is_symbol (codes "{") t then (listed >=> λ es. giving (Some (Listed es)))
    else unexpected

-- one more part, if there is one
abbrev pub parts_more : List Entries → Reads (List Entries × Bool)
parts_more before = looking_at >=> λ t. if is_newline t then giving (before, false) else (table_part >=> λ source. giving (before ++ option_to_list source, true))

unfoldable pub table_parts : Reads (List Entries)
table_parts = repeated parts_more []

unfoldable pub keep_table : Table → Reads (Unit {0})
keep_table t s = let tree : Tree = s.tree in Ok (tt, record s { tree = record tree { tables = tree.tables ++ (t ∷ []) } })

unfoldable pub name_in_angles : Reads Token
name_in_angles = expect_symbol (codes "<") >=> λ _. table_name >=> λ name. expect_symbol (codes ">") >=> λ _. giving name

unfoldable pub table : Reads (Unit {0})
table =
    token >=> λ _. name_in_angles >=> λ name. table_parts >=> λ es. end_line
    >=> λ _. keep_table (record { place = name.place; name = text_of name.text; sources = es })

-- ---- "load anchor"

unfoldable pub keep_load : Load → Reads (Unit {0})
keep_load l s = let tree : Tree = s.tree in Ok (tt, record s { tree = record tree { loads = tree.loads ++ (l ∷ []) } })

unfoldable pub loaded_path : Reads Word
loaded_path = expect_word (codes "anchor") >=> λ _. anchor_name Path >=> λ name. giving (text_of name.text)

unfoldable pub loaded_file : Reads Token
loaded_file = expect_word (codes "from") >=> λ _. string >=> λ file. end_line >=> λ _. giving file

unfoldable pub load : Reads (Unit {0})
load = token >=> λ t. loaded_path >=> λ path. loaded_file >=> λ file. keep_load (record { place = t.place; path = path; file = file })

-- ---- "set" (pf.conf(5), OPTIONS), and lines that are left out

-- the rule that stands for a skipped interface
abbrev pub skip_rule : Token → Product
skip_rule t =
    product_of t.place (codes "pass" ∷ codes "quick" ∷ []) (record no_tests { interfaces = interface_words (t ∷ []) }) (codes "no" ∷ codes "state" ∷ [])

unfoldable pub keep_skip : Product → Reads (Unit {0})
keep_skip p s = let tree : Tree = s.tree in Ok (tt, record s { tree = record tree { skips = tree.skips ++ (p ∷ []) } })

unfoldable pub skip_one : Token → Reads (Unit {0})
skip_one t = leave_out t.place (left_out.Skip (text_of t.text)) >=> λ _. keep_skip (skip_rule t)

unfoldable pub skip_each : List Token → Reads (Unit {0})
skip_each [] = giving tt
skip_each (t ∷ ts) = skip_one t >=> λ _. skip_each ts

unfoldable pub in_main : Token → Reads (Unit {0})
in_main t s = if s.is_main then Ok (tt, s) else Err (fault_at t.place (mistakes.Refused (text_of t.text) reasons.MainAlone))

unfoldable pub skip : Token → Reads (Unit {0})
skip option = in_main option >=> λ _. expect_word (codes "on") >=> λ _. interfaces >=> skip_each >=> λ _. end_line

unfoldable pub order_matters : Bool → Reads (Unit {0})
order_matters is s = Ok (tt, record s { is_ordered = is })

unfoldable pub set_order : Bool → Reads (Unit {0})
set_order is = order_matters is >=> λ _. end_line

unfoldable pub require_order : Reads (Unit {0})
require_order = takes_word (codes "yes") >=> λ yes. if yes then set_order true else (expect_word (codes "no") >=> λ _. set_order false)

-- a setting that says what holds anyway
unfoldable pub holds : Token → Token → Bool
holds option t = list_any (λ (h : record { now : Word } × record { now : Word }). has_text h.0.now option && has_text h.1.now t) HOLDS

unfoldable pub set_option : Token → Reads (Unit {0})
set_option option =
    looking_at >=> λ t. if is_word (codes "skip") option then skip option
    else if is_word (codes "require-order") option then require_order
    else if holds option t then (token >=> λ _. end_line)
    else (leave_out option.place (left_out.Setting (text_of option.text)) >=> λ _. skip_line)

unfoldable pub is_setting : Token → Bool
is_setting t = list_any (λ (w : record { now : Word }). is_word w.now t) SETTINGS

unfoldable pub setting : Reads Token
setting = expect is_setting

unfoldable pub set_line : Reads (Unit {0})
set_line = looking_at >=> λ t. in_order t.place ranks.Options >=> λ _. token >=> λ _. setting >=> set_option

abbrev pub is_left_out_line : Token → Bool
is_left_out_line t = is_word (codes "scrub") t || (is_word (codes "altq") t || is_word (codes "queue") t)

unfoldable pub left_out_line : Reads (Unit {0})
left_out_line =
    looking_at >=> λ t. in_order t.place (if is_word (codes "scrub") t then ranks.Normalization else ranks.Queueing)
    >=> λ _. leave_out t.place (left_out.Word (text_of t.text)) >=> λ _. skip_line

unfoldable pub no_line : Reads (Unit {0})
no_line = token >=> λ _. looking_at >=> λ t. if is_word (codes "scrub") t then left_out_line else unexpected

-- ---- all lines

abbrev pub is_rule : Token → Bool
is_rule t = is_word (codes "pass") t || is_word (codes "block") t

unfoldable pub rule_or_anchor : Reads (Unit {0})
rule_or_anchor = looking_at >=> λ t. if is_rule t then rule else if is_word (codes "anchor") t then anchor else unexpected

unfoldable pub filtering : Reads (Unit {0})
filtering = looking_at >=> λ t. if is_rule t || is_word (codes "anchor") t then in_order t.place ranks.Filtering else giving tt

unfoldable pub line : Reads (Unit {0})
line =
    looking_at >=> λ t. if is_word (codes "set") t then set_line
    else if is_left_out_line t then left_out_line
    else if is_word (codes "no") t then no_line
    else if is_word (codes "table") t then table
    else if is_word (codes "load") t then load
    else (filtering >=> λ _. rule_or_anchor)

-- rules, anchors and the end stand in braces alone
unfoldable pub line_in_braces : Reads (Unit {0})
line_in_braces = looking_at >=> λ t. if is_symbol (codes "}") t then close_braces else rule_or_anchor

unfoldable pub any_line : Reads (Unit {0})
any_line =
    looking_at >=> λ t. if is_newline t then (token >=> λ _. giving tt)
    else (looking (λ s. s.within) >=> λ within. if within == 0 then line else line_in_braces)

unfoldable pub all_closed : Reads (Unit {0})
all_closed = looking (λ s. s.within) >=> λ within. if within == 0 then giving tt else unexpected

-- one more line, if there is one
abbrev pub line_more : Reads Bool
line_more = looking is_at_end >=> λ at_end. if at_end then giving false else (any_line >=> λ _. giving true)

abbrev pub lines_more : Unit {0} → Reads (Unit {0} × Bool)
lines_more done = line_more >=> λ more. giving (done, more)

unfoldable pub lines : Reads (Unit {0})
lines = repeated lines_more tt >=> λ _. all_closed

-- ---- a whole file

abbrev pub parsed_of : (Unit {0}) × State → Parsed
parsed_of (done, s) = record { tree = s.tree; notes = s.notes }

-- What the lines of a file have whose tokens are these.
abbrev pub parsed : List Token → Mode → Bool → Result Parsed Stop
parsed ts mode is_main = lines (beginning ts mode is_main) >>= λ x. Ok (parsed_of x)
