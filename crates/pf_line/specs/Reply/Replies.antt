-- The text of each reply: one line, before which a shown ruleset has a line for each rule, shown tables and states one for each of them,
-- and an export one for each message. Rules and entries are written as pfctl(8) shows them.
use Rattle.std.specs.Prelude.{ℕ, ◌+◌, ◌==◌, Bool, true, false, List, [], ◌∷◌, ◌++◌, length, map, codes, decimal, if◌then◌else◌, Option, Some, None}
use Rattle.pf_rule.specs.declared.{rule.Action.Action, rule.Action.TheVariants.{Pass, Block}}
use Rattle.pf_rule.specs.{Rules.PlainRule, RuleText.rule_text}
use Rattle.pf_table.specs.Entries.{PlainEntry}
use Rattle.pf_core.specs.declared.{reply.Answer.Answer, reply.Outcome.Outcome, reply.Refusal.Refusal, reply.Reply.Reply, durable.verdict.Verdict.Verdict, durable.verdict.Verdict.TheVariants.{State, Rules}}
use Rattle.pf_core.specs.declared.reply.Answer.TheVariants as answers
use Rattle.pf_core.specs.declared.reply.Outcome.TheVariants as outcomes
use Rattle.pf_core.specs.declared.reply.Refusal.TheVariants as refusals
use Rattle.pf_core.specs.declared.reply.Reply.TheVariants as replies
use Rattle.pf_anchor.specs.Tables.{PlainPlacedTable}
use Rattle.pf_anchor.specs.declared.{verdict.RuleVerdict.RuleVerdict, verdict.RuleVerdict.TheVariants.{Rule, Default}}
use Rattle.hex.specs.Hex.{encode_lower}
use Rattle.pf_ticket.specs.Names.{tickets_of}
use Rattle.pf_line.specs.{Reply.TextLines.lines_text, Reply.Texts.{tickets_text, entry_text, entries_text}, Reply.StateTexts.{name_text, state_lines, message_lines, counts_text, fault_text}}

-- ---- verdicts

-- where the rule is, unless it is in the main ruleset
abbrev pub place_text : List ℕ → List ℕ
place_text path = if length path == 0 then [] else codes " at " ++ path

abbrev pub action_text : Action → List ℕ
action_text (Pass keeps) = codes "pass"
action_text Block = codes "block"

abbrev pub rule_verdict_text : RuleVerdict → List ℕ
rule_verdict_text (Rule path number action) = action_text action ++ (codes " rule " ++ decimal number ++ place_text path)
rule_verdict_text Default = codes "pass default"

abbrev pub verdict_text : Verdict → List ℕ
verdict_text (State name) = codes "pass state " ++ name_text name
verdict_text (Rules v) = rule_verdict_text v

-- ---- what a table says of an address

-- a negated entry doesn't match
abbrev pub sign_word : Bool → List ℕ
sign_word true = codes "nomatch "
sign_word false = codes "match "

-- by the deciding entry, if there is one
abbrev pub tested_text : Option PlainEntry → List ℕ
tested_text (Some row) = sign_word row.1 ++ entry_text row
tested_text None = codes "nomatch"

-- ---- the last line

abbrev pub answer_text : Answer → List ℕ
answer_text (answers.Given g) = codes "ok" ++ tickets_text (tickets_of g)
answer_text answers.Done = codes "ok"
answer_text (answers.Judged v) = verdict_text v
answer_text (answers.Stale v) = rule_verdict_text v ++ codes " stale"
answer_text (answers.Tested deciding) = tested_text deciding
answer_text (answers.Rules rules) = codes "end " ++ decimal (length rules)
answer_text (answers.Tables tables) = codes "end " ++ decimal (length tables)
answer_text (answers.States states) = codes "end " ++ decimal (length states)
answer_text (answers.Sum sum) = encode_lower sum
answer_text (answers.Exported messages) = codes "end " ++ decimal (length messages)
answer_text (answers.Logged len acked shown) =
    codes "log " ++ decimal len ++ (codes " acked " ++ decimal acked ++ (codes " shown " ++ decimal shown))
answer_text (answers.Shown n) = codes "shown " ++ decimal n

-- what comes after a change's number: for an edit what became of the entries, for a message what became of its records, for a tracked packet
-- the rules' verdict, and for a tick how many states were due
abbrev pub outcome_text : Outcome → List ℕ
outcome_text outcomes.Committed = []
outcome_text (outcomes.Added added same conflict) =
    codes " added " ++ decimal added ++ (codes " same " ++ decimal same ++ (codes " conflict " ++ decimal conflict))
outcome_text (outcomes.Deleted deleted absent) = codes " deleted " ++ decimal deleted ++ (codes " absent " ++ decimal absent)
outcome_text outcomes.Set = []
outcome_text outcomes.Killed = []
outcome_text (outcomes.Tracked v) = 32 ∷ rule_verdict_text v
outcome_text (outcomes.Peered c) = counts_text c
outcome_text (outcomes.Expired n) = codes " expired " ++ decimal n

abbrev pub refusal_text : Refusal → List ℕ
refusal_text refusals.BadLine = codes "err line"
refusal_text (refusals.BadWord at) = codes "err word " ++ decimal at
refusal_text (refusals.NameTooLong at) = codes "err name " ++ decimal at
refusal_text (refusals.BadProto at) = codes "err proto " ++ decimal at
refusal_text refusals.MixedFamily = codes "err family"
refusal_text refusals.PortNeedsProto = codes "err portproto"
refusal_text refusals.Halted = codes "err halted"
refusal_text refusals.BadCount = codes "err count"
refusal_text (refusals.NotGrouped index) = codes "err grouped " ++ decimal index
refusal_text (refusals.Twice at) = codes "err twice " ++ decimal at
refusal_text (refusals.Conflict at) = codes "err conflict " ++ decimal at
refusal_text (refusals.Busy at) = codes "busy " ++ decimal at
refusal_text refusals.Absent = codes "err absent"
refusal_text refusals.BadTick = codes "err tick"
refusal_text refusals.RulesetFull = codes "err ruleset"
refusal_text refusals.TableFull = codes "err table"
refusal_text refusals.TooManyRulesets = codes "err rulesets"
refusal_text refusals.TooManyTables = codes "err tables"
refusal_text refusals.StatesFull = codes "err states"
refusal_text (refusals.BadPeer fault) = fault_text fault
refusal_text refusals.PeerCount = codes "err peer count"
refusal_text refusals.TicketsExhausted = codes "err tickets"
refusal_text refusals.HistoryFull = codes "err history"
refusal_text refusals.Full = codes "err full"
refusal_text refusals.Fault = codes "err fault"
refusal_text refusals.Memory = codes "err memory"

-- the last line of a reply; there is no other unless it shows rules, tables, states or messages
abbrev pub last_line : Reply → List ℕ
last_line (replies.Answer a) = answer_text a
last_line (replies.Applied seq outcome) = codes "applied " ++ decimal seq ++ outcome_text outcome
last_line (replies.Stored seq outcome) = codes "stored " ++ decimal seq ++ outcome_text outcome
last_line (replies.Refused e) = refusal_text e

-- ---- what is shown

-- an at sign (64) with the rule's number, and the rule's canonical text after a space (32)
abbrev pub rule_line : ℕ → PlainRule → List ℕ
rule_line n r = 64 ∷ decimal n ++ 32 ∷ rule_text r

-- rules in order, numbered from this one on
abbrev pub rule_lines : ℕ → List PlainRule → List (List ℕ)
rule_lines n [] = []
rule_lines n (r ∷ rs) = rule_line n r ∷ rule_lines (n + 1) rs

-- a table's name, and each of its entries after a space
abbrev pub table_line : PlainPlacedTable → List ℕ
table_line t = t.0.1 ++ entries_text t.1

abbrev pub table_lines : List PlainPlacedTable → List (List ℕ)
table_lines tables = map table_line tables

-- the lines before the last
abbrev pub shown_lines : Reply → List (List ℕ)
shown_lines (replies.Answer (answers.Rules rules)) = rule_lines 0 rules
shown_lines (replies.Answer (answers.Tables tables)) = table_lines tables
shown_lines (replies.Answer (answers.States states)) = state_lines states
shown_lines (replies.Answer (answers.Exported messages)) = message_lines messages
shown_lines _ = []

-- ---- replies

abbrev pub reply_text : Reply → List ℕ
reply_text r = lines_text (shown_lines r) ++ (last_line r ++ 10 ∷ [])

-- One line, and one more for each rule, table, state or message that is shown.
abbrev pub line_count : Reply → ℕ
line_count r = length (shown_lines r) + 1
