-- Words that pf_rule reads as a rule, or as one with a mistake.
use Rattle.std.proofs.Common.{◌≡◌, ℕ, zero, suc, ◌<◌, ◌==◌, Bool, true, false, List, [], ◌∷◌, ◌++◌, map, length, get_or, nat_le, codes, decimal, Option, Some, None, Result, Ok, Err, inl, inr, refl, sym, ap, ◌∙◌, subst, append_assoc, append-nil, arith}
use Rattle.std.specs.{Prelude.{if◌then◌else◌, ◌↔◌}, List.{All, flat_map}, Option.option_to_list}
use Rattle.std.proofs.lemmas.Fmt.{decimal_is_IsNumeral, length-decimal-le}
use Rattle.std.proofs.lemmas.List.Elements.{All-nil, All-append, All-map}
use Rattle.pf_addr.specs.declared.addr.Family.{Family, TheVariants.{V4, V6}}
use Rattle.pf_addr.specs.{Address.PlainNet, Path.Names.{IsTableName, name_of}, Path.References.reference_of, Reading.net_at, Laws.Reading.net_found}
use Rattle.pf_form.specs.Form.{Forms.{Form, Spells, ◌>>=◌, Read, reads, ended, read_all}, Readers.if_there}
use Rattle.pf_rule.specs.Rules.{PlainRule}
use Rattle.pf_rule.specs.RuleGrammar.{opening, passes, state as a_state, decides, label as a_label, rule_with, agreeing, rule}
use Rattle.pf_rule.specs.Value.{Values.{IsProtocol, label_of}, Tests.{direction_words, direction, interface, family as a_family, protocol as a_protocol}, Ports.{IsPortTest, port, port_words}}
use Rattle.pf_rule.specs.Host.{Hosts.{host, a_host, a_negated_host, host_words}, Ends.{end, destination as a_destination, ends}}
use Rattle.pf_rule.specs.Laws.{Value.{Reading.protocol_only, Ports.port_written, Tests.{direction_written, family_written}}, Host.Hosts.{host_only, host_written}}
use Rattle.pf_rule.specs.declared.{fault.Mistake.{Mistake as RuleMistake}, value.direction.Direction.Direction, value.ports.PortTest.PortTest, host.host.Host.TheVariants.{Any, Net, Table}}
use Rattle.pf_rule.specs.declared.fault.Mistake.TheVariants.{MixedFamily, PortNeedsProto}
use Rattle.pf_lists.specs.{Product.{Word, spelled}, Multiplied.{icmp_fault, unless_fault, rule_read, rule_of, rules_of, at_least_one, multiplied}}
use Rattle.pf_lists.specs.declared.rules.{Mistake.Mistake, TheConstants.COMBINATION_LIMIT}
use Rattle.pf_lists.specs.declared.rules.Mistake.TheVariants.{NoRule, ManyCombinations, IcmpOfV6, Icmp6OfV4}

-- these words spell something
abbrev pub Spelled : {A : Type 0} → Form A → List Word → Type 0
Spelled {A} f ws = (x : A) × Spells f x ws

abbrev FormOf : {A : Type 0} → Form A → Type 0
FormOf {A} f = A

-- These words begin a rule, which may keep state or not, and have a label or not.
abbrev pub Opens : Bool → Bool → List Word → Type 0
Opens keeping labelled ws = (x : FormOf opening) × Spells opening x ws × (passes x ≡ keeping) × (decides x ≡ labelled)

-- the parts of a rule's words
pub record Parts (ws : List Word) : Type 0 where
  pub keeping : Bool
  pub labelled : Bool
  pub start : List Word
  pub way : List Word
  pub quick : List Word
  pub on : List Word
  pub family : List Word
  pub protocol : List Word
  pub source : List Word
  pub source_port : List Word
  pub destination : List Word
  pub destination_port : List Word
  pub state : List Word
  pub label : List Word
  pub opens : Opens keeping labelled start
  pub ways : Spelled direction way
  pub quicks : Spelled (if_there (codes "quick")) quick
  pub ons : Spelled interface on
  pub families : Spelled a_family family
  pub protocols : Spelled a_protocol protocol
  pub sources : Spelled host source
  pub source_ports : Spelled port source_port
  pub destinations : Spelled host destination
  pub destination_ports : Spelled port destination_port
  pub states : Spelled (a_state keeping) state
  pub labels : Spelled (a_label labelled) label
  pub whole : ws ≡ (start ++ (way ++ quick)) ++ (on ++ (family ++ (protocol ++ (codes "from" ∷ (source ++ (source_port ++ (codes "to" ∷ (destination ++ (destination_port ++ ((state ++ label) ++ []))))))))))

-- ---- a rule of these parts

-- both ends, with their words
ends_spelled : (s sp d dp : List Word) → Spelled host s → Spelled port sp → Spelled host d → Spelled port dp → Spelled ends (codes "from" ∷ ((s ++ sp) ++ (codes "to" ∷ (d ++ dp))))
unfolding ends a_destination end
ends_spelled s sp d dp (h, hs) (t, ts) (g, gs) (u, us) =
    (((h, t), (g, u)), inr (inl ((s ++ sp) ++ (codes "to" ∷ (d ++ dp)), (s ++ sp, codes "to" ∷ (d ++ dp), (s, sp, hs, ts, refl), inl (d ++ dp, (d, dp, gs, us, refl), refl), refl), refl)))

pub rule_spelled : (ws : List Word) → Parts ws → Spelled rule ws
unfolding rule
rule_spelled ws p =
    let (o, begins, passing, deciding) = p.opens in
    let (d, ways) = p.ways in
    let (q, quicks) = p.quicks in
    let (i, ons) = p.ons in
    let (f, families) = p.families in
    let (n, protocols) = p.protocols in
    let both = ends_spelled p.source p.source_port p.destination p.destination_port p.sources p.source_ports p.destinations p.destination_ports in
    let (k, states) = p.states in
    let (l, labels) = p.labels in
    let keeps : Spells (a_state (passes o)) k p.state = subst (λ (b : Bool). Spells (a_state b) k p.state) (sym passing) states in
    let labelled : Spells (a_label (decides o)) l p.label = subst (λ (b : Bool). Spells (a_label b) l p.label) (sym deciding) labels in
    let between : List Word = codes "from" ∷ ((p.source ++ p.source_port) ++ (codes "to" ∷ (p.destination ++ p.destination_port))) in
    let rest : List Word = p.way ++ (p.quick ++ (p.on ++ (p.family ++ (p.protocol ++ (between ++ p.state))))) in
    let same : ws ≡ (p.start ++ rest) ++ p.label = p.whole ∙ simp (append_assoc, append-nil) in (
      agreeing (rule_with ((o, (d, (q, (i, (f, (n, (both.0, k))))))), l)),
      (
        rule_with ((o, (d, (q, (i, (f, (n, (both.0, k))))))), l),
        (
          ((o, (d, (q, (i, (f, (n, (both.0, k))))))), l),
          (
            p.start ++ rest,
            p.label,
            (p.start, rest, begins, (p.way, _, ways, (p.quick, _, quicks, (p.on, _, ons, (p.family, _, families, (p.protocol, _, protocols, (between, p.state, both.1, keeps, refl), refl), refl), refl), refl), refl), refl),
            labelled,
            same,
          ),
          refl,
        ),
        refl,
      ),
    )

-- ---- parts

pub pass_opens : Opens true true (codes "pass" ∷ [])
unfolding opening
pass_opens = (_, inl ([], (refl, refl), refl), refl, refl)

pub block_opens : Opens false true (codes "block" ∷ [])
unfolding opening
block_opens = (_, inr (inl ([], inr (refl, refl), refl)), refl, refl)

pub anchor_opens : (w : Word) (r : _) → reference_of w ≡ Ok r → Opens false false (codes "anchor" ∷ w ∷ [])
unfolding opening
anchor_opens w r read = (_, inr (inr (w ∷ [], (r, (w, read, refl), refl), refl)), refl, refl)

pub way_spelled : (d : Option Direction) (ws : List Word) → ws ≡ direction_words d → Spelled direction ws
way_spelled d ws is = (d, subst (Spells direction d) (sym is) (direction_written d).spells)

pub quick_spelled : Spelled (if_there (codes "quick")) (codes "quick" ∷ [])
quick_spelled = (true, inl ([], (refl, refl), refl))

pub not_quick_spelled : Spelled (if_there (codes "quick")) []
not_quick_spelled = (false, inr (refl, refl))

pub interface_spelled : (w n : Word) → name_of 15 w ≡ Ok n → Spelled interface (codes "on" ∷ w ∷ [])
unfolding interface
interface_spelled w n read = (Some n, inl (w ∷ [], (n, (w, read, refl), refl), refl))

pub no_interface_spelled : Spelled interface []
unfolding interface
no_interface_spelled = (None, inr (refl, refl))

pub v4_spelled : Spelled a_family (codes "inet" ∷ [])
v4_spelled = (Some V4, (family_written (Some V4)).spells)

pub v6_spelled : Spelled a_family (codes "inet6" ∷ [])
v6_spelled = (Some V6, (family_written (Some V6)).spells)

pub no_family_spelled : Spelled a_family []
no_family_spelled = (None, (family_written None).spells)

pub protocol_spelled : (n : ℕ) → IsProtocol n → Spelled a_protocol (codes "proto" ∷ decimal n ∷ [])
unfolding a_protocol
protocol_spelled n is =
    let number = decimal_is_IsNumeral n (omega (arith, is.1)) in
    let read = protocol_only (decimal n) n (inr (record { digits = number.0; few = length-decimal-le 3 n (omega arith) (omega (arith, is.1)) (omega (arith, is.1)); value = number.1 }, is)) in
    (Some n, inl (decimal n ∷ [], (n, (decimal n, read, refl), refl), refl))

pub no_protocol_spelled : Spelled a_protocol []
unfolding a_protocol
no_protocol_spelled = (None, inr (refl, refl))

pub port_spelled : (t : PortTest) → IsPortTest t → Spelled port (port_words (Some t))
port_spelled t is = (Some t, (port_written (Some t) is).spells)

pub no_port_spelled : Spelled port []
no_port_spelled = (None, (port_written None tt).spells)

pub any_spelled : Spelled host (codes "any" ∷ [])
any_spelled = (Any, (host_written Any tt).spells)

pub table_spelled : (name : Word) (negated : Bool) → IsTableName name → Spelled host (host_words (Table name negated))
table_spelled name negated is = (Table name negated, (host_written (Table name negated) is).spells)

pub net_spelled : (w : Word) (n : PlainNet) → net_at w ≡ Ok n → Spelled host (w ∷ [])
unfolding host a_host
net_spelled w n read = (Net n false, inr (inr (w, host_only w (Net n false) (net_found w n read), refl)))

pub negated_net_spelled : (w : Word) (n : PlainNet) → net_at w ≡ Ok n → Spelled host (codes "!" ∷ w ∷ [])
unfolding host a_negated_host
negated_net_spelled w n read = (Net n true, inr (inl (w ∷ [], (w, host_only (33 ∷ w) (Net n true) (w, refl, net_found w n read), refl), refl)))

pub keep_spelled : Spelled (a_state true) (codes "keep" ∷ codes "state" ∷ [])
unfolding a_state
keep_spelled = (true, inl (codes "state" ∷ [], ([], (refl, refl), refl), refl))

pub no_state_spelled : Spelled (a_state true) (codes "no" ∷ codes "state" ∷ [])
unfolding a_state
no_state_spelled = (false, inr (inl (codes "state" ∷ [], ([], (refl, refl), refl), refl)))

pub stateless_spelled : Spelled (a_state false) []
unfolding a_state
stateless_spelled = (false, (refl, refl))

pub label_spelled : (w l : Word) → label_of w ≡ Ok l → Spelled (a_label true) (codes "label" ∷ w ∷ [])
unfolding a_label
label_spelled w l read = (Some l, inl (w ∷ [], (l, (w, read, refl), refl), refl))

pub unlabelled_spelled : (b : Bool) → Spelled (a_label b) []
unfolding a_label
unlabelled_spelled true = (None, inr (refl, refl))
unlabelled_spelled false = (None, (refl, refl))

-- ---- what is read of a way

-- the law of pf_rule
abbrev pub ReadsSpelled : Type 0
ReadsSpelled = (ws : List Word) (r : Result PlainRule RuleMistake) → (read_all rule ws ≡ Ok r) ↔ Spells rule r ws

if_none : (b : Bool) (m : Mistake) → (m ≡ NoRule → ⊥) → (if b then Some m else None) ≡ Some NoRule → ⊥
if_none true m other is = other (cc)
if_none false m other is = cc

icmp_is_rule : (n : Option ℕ) (f : Option Family) → icmp_fault n f ≡ Some NoRule → ⊥
icmp_is_rule None f is = cc
icmp_is_rule (Some n) None is = cc
icmp_is_rule (Some n) (Some V6) is = if_none (n == 1) IcmpOfV6 (λ same. cc) is
icmp_is_rule (Some n) (Some V4) is = if_none (n == 58) Icmp6OfV4 (λ same. cc) is

fault_is : (r : PlainRule) (o : Option Mistake) → unless_fault r o ≡ Err NoRule → o ≡ Some NoRule
fault_is r None is = absurd (cc)
fault_is r (Some m) is = let same : m ≡ NoRule = cc in ap (λ (x : Mistake). Some x) same

whole_is_rule : (r : Result PlainRule RuleMistake) (q : Read (Result PlainRule RuleMistake)) → (q >>= ended) ≡ Ok r → rule_read q ≡ Err NoRule → ⊥
whole_is_rule r (Ok (Ok s, [])) read is = icmp_is_rule s.protocol s.family (fault_is s (icmp_fault s.protocol s.family) is)
whole_is_rule r (Ok (Ok s, w ∷ ws)) read is = cc
whole_is_rule r (Ok (Err MixedFamily, ws)) read is = cc
whole_is_rule r (Ok (Err PortNeedsProto, ws)) read is = cc
whole_is_rule r (Err e) read is = cc

way_is_rule : (ws : List Word) (r : Result PlainRule RuleMistake) → read_all rule ws ≡ Ok r → rule_of ws ≡ Err NoRule → ⊥
unfolding rule_of
way_is_rule ws r read is = whole_is_rule r (reads rule ws) read is

-- ---- and of lists

-- each way of these lists is spelled
abbrev pub AllSpelled : List (List (List Word)) → Type 0
AllSpelled lists = All (λ (ws : List Word). Spelled rule ws) (spelled lists)

step_is : (r : Result (Option PlainRule) Mistake) (q : Result (List PlainRule) Mistake) → (r ≡ Err NoRule → ⊥) → (q ≡ Err NoRule → ⊥) → (r >>= λ o. q >>= λ rs. Ok (option_to_list o ++ rs)) ≡ Err NoRule → ⊥
step_is (Err m) q first others is = let same : m ≡ NoRule = cc in first (ap (λ (x : Mistake). Err x) same)
step_is (Ok o) (Err m) first others is = let same : m ≡ NoRule = cc in others (ap (λ (x : Mistake). Err x) same)
step_is (Ok o) (Ok rs) first others is = cc

ways_are_rules : ReadsSpelled → (wss : List (List Word)) → All (λ (ws : List Word). Spelled rule ws) wss → rules_of wss ≡ Err NoRule → ⊥
unfolding rules_of
ways_are_rules law [] all is = cc
ways_are_rules law (ws ∷ wss) all is =
    let first : Spelled rule ws = all 0 ws (omega arith) in
    step_is (rule_of ws) (rules_of wss) (way_is_rule ws first.0 ((law ws first.0).1 first.1)) (ways_are_rules law wss (λ k d within. all (suc k) d (omega (arith, within)))) is

some_is : (q : Result (List PlainRule) Mistake) → (q ≡ Err NoRule → ⊥) → (q >>= at_least_one) ≡ Err NoRule → ⊥
some_is (Ok []) never is = cc
some_is (Ok (r ∷ rs)) never is = cc
some_is (Err m) never is = never is

few_is : (b : Bool) (q : Result (List PlainRule) Mistake) → (q ≡ Err NoRule → ⊥) → (if b then (q >>= at_least_one) else Err ManyCombinations) ≡ Err NoRule → ⊥
few_is true q never is = some_is q never is
few_is false q never is = cc

pub lists_are_rules : ReadsSpelled → (lists : List (List (List Word))) → AllSpelled lists → multiplied lists ≡ Err NoRule → ⊥
lists_are_rules law lists all is = few_is (nat_le (length (spelled lists)) COMBINATION_LIMIT) (rules_of (spelled lists)) (ways_are_rules law (spelled lists) all) is

-- ---- products

-- one word list more in front
abbrev Joins : (List Word → Type 0) → (List Word → Type 0) → List Word → Type 0
Joins P Q ws = (a b : List Word) × P a × Q b × (ws ≡ a ++ b)

one_item : (P Q : List Word → Type 0) (a : List Word) → P a → (bs : List (List Word)) → All Q bs → All (Joins P Q) (map (λ (ws : List Word). a ++ ws) bs)
one_item P Q a is bs all = All-map (Joins P Q) (λ (ws : List Word). a ++ ws) bs (λ k d within. (a, _, is, all k d within, refl))

each_item : (P Q : List Word → Type 0) (items bs : List (List Word)) → All P items → All Q bs → All (Joins P Q) (flat_map (λ (a : List Word). map (λ (ws : List Word). a ++ ws) bs) items)
each_item P Q [] bs all others = All-nil (Joins P Q)
each_item P Q (a ∷ items) bs all others =
    All-append (Joins P Q) (map (λ (ws : List Word). a ++ ws) bs) _ (one_item P Q a (all 0 a (omega arith)) bs others)
    (each_item P Q items bs (λ k d within. all (suc k) d (omega (arith, within))) others)

pub in_front : (P Q : List Word → Type 0) (items : List (List Word)) (lists : List (List (List Word))) → All P items → All Q (spelled lists) → All (Joins P Q) (spelled (items ∷ lists))
unfolding spelled
in_front P Q items lists all others = each_item P Q items (spelled lists) all others

none_at : (k : ℕ) (d : List Word) → k < 1 → get_or ([] ∷ []) k d ≡ []
none_at zero d within = refl
none_at (suc k) d within = absurd (omega (arith, within))

pub no_lists : All (λ (ws : List Word). ws ≡ []) (spelled [])
unfolding spelled
no_lists k d within = none_at k d within
