-- How a user is told why a packet has its verdict.
use Rattle.std.specs.Prelude.{◌≡◌, ℕ, Bool, true, false, List, [], ◌∷◌, ◌++◌, codes, Option, Result, Ok, Err}
use Rattle.std.specs.{List.flat_map, Option.option_map_or, Io.KnownBytes.{Appends, Keeps}}
use denote.Ref.{Bor}
use Rattle.pf_addr.specs.Writing.{WritesFront}
use Rattle.pf_form.specs.Form.Words.{words_of}
use Rattle.pf_rule.specs.{Packets.PlainPacket, PacketGrammar.packet, Refusals.reading}
use Rattle.pf_anchor.specs.Evaluation.{judged}
use Rattle.pf_anchor.specs.declared.verdict.RuleVerdict.{RuleVerdict}
use Rattle.pf_tokens.specs.declared.files.File.{File}
use Rattle.pf_conf.specs.declared.found.Ruleset.{Ruleset}
use Rattle.pf_conf.specs.Shown.{newline}
use Rattle.pfd_conf.specs.declared.case.trace.{Matched.Matched, Traced.Traced}
use Rattle.pfd_conf.specs.Case.{Cases.passes, Matches.IsTrace}
use Rattle.pfd_conf.specs.declared.{firewall.Firewall.Firewall, fault.Fault.Fault}
use Rattle.pfd_conf.specs.declared.fault.Fault.TheVariants as faults
use Rattle.pfd_conf.specs.{Firewalls.{Origins, origins_of, ruleset_at, decided_in}, Outcomes.mistake_of, Reports.got_text, Covering.line_of_rule}

-- the texts, each with a space behind it
abbrev pub joined : List (Bor (List ℕ)) → List ℕ
joined texts = flat_map (λ (t : Bor (List ℕ)). t.now ++ 32 ∷ []) texts

abbrev pub line_of_match : List File → List Ruleset → Matched → List ℕ
line_of_match files rs m = option_map_or (λ i. line_of_rule files rs (record { within = i; number = m.number })) (ruleset_at rs m.path) []

abbrev pub lines_of_matches : List File → List Ruleset → List Matched → List ℕ
lines_of_matches files rs ms = flat_map (line_of_match files rs) ms

-- the verdict, and where the rule is written that decides
abbrev pub verdict_line : Origins → RuleVerdict → List ℕ
verdict_line f v = got_text f (passes v) (decided_in f.rulesets v) ++ newline

-- what is said where not all rules that match are listed
abbrev pub note_text : Bool → List ℕ
note_text true = []
note_text false = codes "more than 4,096 rules match: the others aren't listed\n"

-- the rules that match, as the evaluation looks at them, and the verdict
abbrev pub explained_text : Firewall → PlainPacket → Traced → List ℕ
explained_text f p t =
    lines_of_matches f.taken.files f.taken.conf.rulesets t.matched.items ++ note_text t.is_whole
    ++ verdict_line (origins_of f) (judged f.config p)

-- The words are no packet.
abbrev pub RefusesPacket : List ℕ → Fault → Type 0
RefusesPacket text (faults.Packet mistake) = (e : _) × (reading packet (words_of text) ≡ Err e) × (mistake ≡ mistake_of (words_of text) e)
RefusesPacket text faults.Memory = Unit {0}
RefusesPacket text f = ⊥

-- The rules that match the packet are written, and the last line is the verdict of the file's rules on it; or nothing is, since the words
-- are none; or writing failed behind a front of that.
abbrev pub IsExplained : Firewall → List ℕ → Result (Unit {0}) Fault → Option (List ℕ) → Option (List ℕ) → Type 0
IsExplained f text (Ok u) old new =
    (p : PlainPacket) × (t : Traced) × (reading packet (words_of text) ≡ Ok p) × IsTrace f.config p t
    × Appends old new (explained_text f p t)
IsExplained f text (Err faults.Output) old new =
    (p : PlainPacket) × (t : Traced) × (reading packet (words_of text) ≡ Ok p) × IsTrace f.config p t
    × WritesFront old new (explained_text f p t)
IsExplained f text (Err e) old new = RefusesPacket text e × Keeps old new
