-- Cases: a packet, `->`, and what is wanted of its verdict (pf.conf(5), PACKET FILTERING).
use Rattle.std.specs.Prelude.{ℕ, ◌^◌, ◌==◌, nat_lt, ◌&&◌, not, Bool, true, false, List, [], ◌++◌, length, codes, decimal, Option, Some, None, Result, Ok, Err, if◌then◌else◌}
use Rattle.std.proofs.Common.{refl}
use Rattle.pf_form.specs.declared.form.fault.Kind.{Kind, TheVariants.BadWord}
use Rattle.pf_form.specs.Form.{Words.Word, Forms.{Form, nothing, word, key, or, pair, making}, Numbers.number_of}
use Rattle.pf_addr.specs.Path.Paths.{path_of, main, same_path}
use Rattle.pf_rule.specs.declared.{rule.Action.TheVariants.{Pass, Block}, fault.Mistake.Mistake}
use Rattle.pf_rule.specs.{Packets.PlainPacket, PacketGrammar.packet}
use Rattle.pf_anchor.specs.declared.verdict.RuleVerdict.{RuleVerdict}
use Rattle.pf_anchor.specs.declared.verdict.RuleVerdict.TheVariants as by
use Rattle.pfd_conf.specs.declared.case.{case.Case.Case, wanted.Wanted.Wanted, wanted.Decider.Decider, wanted.Decider.TheVariants.{Any, Default, Rule}, wanted.TheConstants.NUMBER_DIGITS}

-- ---- verdicts

abbrev pub passes : RuleVerdict → Bool
passes (by.Rule path n (Pass keeps)) = true
passes (by.Rule path n Block) = false
passes by.Default = true

abbrev pub word_of : Bool → List ℕ
word_of true = codes "pass"
word_of false = codes "block"

-- how `judge` says which rule decides; its ruleset's path is left out if it is main's
abbrev pub at_text : List ℕ → List ℕ
at_text path = if length path == 0 then [] else codes " at " ++ path

abbrev pub decided_text : ℕ → List ℕ → List ℕ
decided_text n path = codes " rule " ++ (decimal n ++ at_text path)

-- ---- what is wanted of a verdict

abbrev pub decides : Decider → RuleVerdict → Bool
decides Any v = true
decides Default by.Default = true
decides (Rule n path) (by.Rule found m action) = (n == m) && same_path path found
decides Default (by.Rule found m action) = false
decides (Rule n path) by.Default = false

abbrev pub same : Bool → Bool → Bool
same true b = b
same false b = not b

-- this verdict is what is wanted
abbrev pub wants : Wanted → RuleVerdict → Bool
wants w v = same w.passes (passes v) && decides w.decider v

-- ---- its text

abbrev pub numbered : Option ℕ → Result ℕ Kind
numbered (Some n) = if nat_lt n (2 ^ 32) then Ok n else Err BadWord
numbered None = Err BadWord

abbrev pub number_of_rule : Word → Result ℕ Kind
number_of_rule w = numbered (number_of NUMBER_DIGITS w)

abbrev pub a_number : Form ℕ
a_number = word (record { of = number_of_rule; sample = codes "0"; value = 0; takes = refl })

abbrev pub a_path : Form (List ℕ)
a_path = word (record { of = path_of; sample = codes "-"; value = main; takes = refl })

-- ["at" PATH]
abbrev pub place : Form (List ℕ)
place = or (codes "at") a_path (nothing main)

-- ["rule" N ["at" PATH]]
unfoldable pub by_rule : Form Decider
by_rule = or (codes "rule") (making (λ x. Rule x.0 x.1) (pair a_number place)) (nothing Any)

-- ["default" | "rule" N ["at" PATH]]
unfoldable pub by_any : Form Decider
by_any = or (codes "default") (nothing Default) by_rule

abbrev pub wanted_by : Bool → Decider → Wanted
wanted_by passing d = record { passes = passing; decider = d }

-- "pass" ["default" | "rule" N ["at" PATH]] | "block" ["rule" N ["at" PATH]]
unfoldable pub wanted : Form Wanted
wanted = or (codes "pass") (making (wanted_by true) by_any) (key (codes "block") (making (wanted_by false) by_rule))

abbrev pub cased : Result PlainPacket Mistake × Wanted → Result Case Mistake
cased (Ok p, w) = Ok (record { packet = p; wanted = w })
cased (Err m, w) = Err m

-- a packet, "->", and what is wanted
unfoldable pub case : Form (Result Case Mistake)
case = making cased (pair packet (key (codes "->") wanted))
