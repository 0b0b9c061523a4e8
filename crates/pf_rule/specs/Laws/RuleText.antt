-- The canonical words of a rule spell it, and they are the words of its text.
use Rattle.std.proofs.{lemmas.List.Folds.list_all-append, Common.{◌≡◌, ℕ, Bool, true, false, List, [], ◌∷◌, length, Option, Some, None, Result, Ok, inl, inr, refl, sym, ap, ◌∙◌, arith}, lemmas.Bool.lt-ltb}
use Rattle.std.specs.{Prelude.{codes, nat_lt}, List.list_all}
use Rattle.pf_addr.specs.declared.addr.Family.{Family}
use Rattle.pf_form.specs.declared.form.fault.Kind.{Kind}
use Rattle.pf_addr.specs.Path.{References.{PlainReference, reference_of, reference_text, quoted}, ReferenceGrammar.IsReference}
use Rattle.pf_form.specs.{Form.{Words.{Word, words_of}, Forms.{Spells, read_all}, Readers.if_there}, Laws.Form.Texts.only}
use Rattle.pf_addr.proofs.{NamesRead.name_bytes, ReferencesRead.{spelled_is_read, quoted_bytes}}
use Rattle.pf_rule.specs.declared.{rule.Effect.Effect, rule.Effect.TheVariants.{Decide, Evaluate}, rule_words.RuleStart.RuleStart, rule.Action.TheVariants.{Pass, Block}, host.host.Host.Host, host.host.Host.TheVariants.{Any, Net, Table}, fault.Mistake.Mistake}
use Rattle.pf_rule.specs.declared.rule_words.RuleStart.TheVariants as openings
use Rattle.pf_rule.specs.declared.value.label.TheConstants.{LABEL_LIMIT}
use Rattle.pf_rule.specs.{Host.Hosts.{IsHost, host_family}, Laws.Host.Ends.ends_written, Laws.Value.Labels.label_only, Value.Values.{IsLabel, label_of}, Rules.{PlainRule, IsEffect, IsRule, HostFits, LabelFits}, RuleGrammar.{opening, state, label, passes, decides, effect_of, Unlabelled, unlabelled_words, agreed, agreeing, rule, rule_decided}, RuleText.{effect_word, reference_words, quick_words, state_words, label_words, before_label, canonical, rule_text}, Value.Spacing.{is_word, words_of-join, join_bytes}, Value.Written.{Written, all_words, both}, Laws.Value.Tests.{direction_written, interface_written, family_written, protocol_written}}

-- ---- keywords

-- how a rule with this effect begins, and whether it keeps state
abbrev opening_of : Effect → RuleStart
opening_of (Decide (Pass k)) = openings.Pass
opening_of (Decide Block) = openings.Block
opening_of (Evaluate r) = openings.Anchor r

abbrev keeps : Effect → Bool
keeps (Decide (Pass k)) = k
keeps (Decide Block) = false
keeps (Evaluate r) = false

quoted_word : (r : PlainReference) → IsReference r → is_word (quoted (reference_text r)) ≡ true
quoted_word r is = rw (lt-ltb 0 (length (quoted (reference_text r))) (omega arith), quoted_bytes r is) refl

-- a reference is read again from its text in quotes
reference_read : (r : PlainReference) → IsReference r → reference_of (quoted (reference_text r)) ≡ Ok r
reference_read r is = spelled_is_read (quoted (reference_text r)) r (is, inr refl)

opening_written : (e : Effect) → IsEffect e → Written opening (opening_of e) (effect_word e ∷ reference_words e)
unfolding opening
opening_written (Decide (Pass k)) is = record { spells = inl ([], (refl, refl), refl); words = refl }
opening_written (Decide Block) is = record { spells = inr (inl ([], inr (refl, refl), refl)); words = refl }
opening_written (Evaluate r) is = record {
  spells = inr (inr (_, (r, (quoted (reference_text r), reference_read r is, refl), refl), refl));
  words = rw (quoted_word r is) refl;
}

quick_written : (q : Bool) → Written (if_there (codes "quick")) q (quick_words q)
quick_written q = record { spells = grind arith; words = grind arith }

state_written : (e : Effect) → Written (state (passes (opening_of e))) (keeps e) (state_words e)
unfolding state
state_written e = record { spells = grind arith; words = grind arith }

label_read : (l : Word) → IsLabel l → label_of (quoted l) ≡ Ok l
label_read l is = label_only (quoted l) l (is, inr refl)

label_word : (l : Word) → IsLabel l → is_word (quoted l) ≡ true
label_word l is = rw (lt-ltb 0 (length (quoted l)) (omega arith), list_all-append, list_all-append, name_bytes LABEL_LIMIT l is) refl

label_written : (e : Effect) (l : Option Word) → LabelFits e l → Written (label (decides (opening_of e))) l (label_words l)
unfolding label
label_written (Decide (Pass k)) None is = record { spells = inr (refl, refl); words = refl }
label_written (Decide (Pass k)) (Some l) is = record { spells = inl (quoted l ∷ [], (l, (quoted l, label_read l is, refl), refl), refl); words = rw (label_word l is) refl }
label_written (Decide Block) None is = record { spells = inr (refl, refl); words = refl }
label_written (Decide Block) (Some l) is = record { spells = inl (quoted l ∷ [], (l, (quoted l, label_read l is, refl), refl), refl); words = rw (label_word l is) refl }
label_written (Evaluate r) l is = rw is (record { spells = (refl, refl); words = refl })

-- ---- a rule

agrees : (f : Option Family) (h : Host) → HostFits f h → agreed f (host_family h) ≡ Some f
agrees f h is = grind arith

is_host : (f : Option Family) (h : Host) → HostFits f h → IsHost h
is_host f Any is = tt
is_host f (Net n negated) is = is.1
is_host f (Table name negated) is = is

family_again : (r : PlainRule) → IsRule r → agreeing r ≡ Ok r
family_again r is = rw (agrees r.family r.source is.source, agrees r.family r.destination is.destination, is.ports) refl

effect_again : (e : Effect) → e ≡ effect_of (opening_of e) (keeps e)
effect_again (Decide (Pass k)) = refl
effect_again (Decide Block) = refl
effect_again (Evaluate r) = refl

-- all but its label
abbrev unlabelled_of : PlainRule → Unlabelled
unlabelled_of r =
    (opening_of r.effect, (r.direction, (r.quick, (r.interface, (r.family, (r.protocol, (((r.source, r.source_port), (r.destination, r.destination_port)), keeps r.effect)))))))

unlabelled_written : (r : PlainRule) → IsRule r → Written unlabelled_words (unlabelled_of r) (before_label r)
unlabelled_written r is =
    let first = opening_written r.effect is.effect in
    let rest =
    both (direction_written r.direction)
    (both (quick_written r.quick)
    (both (interface_written r.interface is.interface)
    (both (family_written r.family)
    (both (protocol_written r.protocol is.protocol)
    (both (ends_written (r.source, r.source_port) (r.destination, r.destination_port) (is_host r.family r.source is.source, is.port_tests.0) (is_host r.family r.destination is.destination, is.port_tests.1))
    (state_written r.effect)))))) in
    record { spells = (_, _, first.spells, rest.spells, refl); words = all_words first rest }

rule_written : (r : PlainRule) → IsRule r → Written rule (Ok r) (canonical r)
unfolding rule
rule_written r is =
    let front = unlabelled_written r is in
    let end = label_written r.effect r.label is.label in
    let made = ap (λ (e : Effect). record r { effect = e }) (effect_again r.effect) in
    record { spells = (r, (_, (_, _, front.spells, end.spells, refl), made), sym (family_again r is)); words = all_words front end }

-- ---- the laws

pub spells_canonical : (r : PlainRule) → IsRule r → Spells rule (Ok r) (canonical r)
spells_canonical r is = (rule_written r is).spells

pub words_are : (r : PlainRule) → IsRule r → words_of (rule_text r) ≡ canonical r
unfolding rule_text
words_are r is = words_of-join (canonical r) (rule_written r is).words

-- a rule's text has no byte below a space, so no newline
pub rule_text_bytes : (r : PlainRule) → IsRule r → list_all (nat_lt 31) (rule_text r) ≡ true
unfolding rule_text
rule_text_bytes r is = join_bytes (canonical r) (rule_written r is).words

pub read_again : (r : PlainRule) → IsRule r → read_all rule (words_of (rule_text r)) ≡ Ok (Ok r)
read_again r is = ap (read_all rule) (words_are r is) ∙ only (Result PlainRule Mistake) rule rule_decided (canonical r) (Ok r) (spells_canonical r is)

pub ruleset texts_of_rules = (spells_canonical, words_are, read_again)

pub same_rule : (r s : PlainRule) → IsRule r → IsRule s → rule_text r ≡ rule_text s → r ≡ s
same_rule r s p q e =
    let again = read_again r p in
    let other = read_again s q in
    let same : ◌≡◌ {A = Result (Result PlainRule Mistake) (Kind × List Word)} (Ok (Ok r)) (Ok (Ok s)) = sym again ∙ ap (λ (t : List ℕ). read_all rule (words_of t)) e ∙ other in
    cc
