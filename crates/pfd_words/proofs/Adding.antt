-- Options and subcommands that are added one by one.
use Rattle.std.proofs.Common.{◌≡◌, ◌∷◌, ◌∙◌, ◌<◌, ◌+◌, ap, ap₂, drop, length, map, slice_index_or, sym, ℕ, List}
use Rattle.std.proofs.Math.Seq.{drop-cons}
use native.Mathlib.Numerals.{unary_clauses}
use Rattle.clap.specs.Words.{App, Rule, with_rule, with_subcommand}
use Rattle.pfd_words.specs.declared.parameter.{Parameter.Parameter, Subcommand.Subcommand}
use Rattle.pfd_words.specs.Parameters.{rule_for, with_rules, with_subcommands, words_for}

from : {A : Type 0} (l : List A) (i : ℕ) (d : A) → i < length l → drop i l ≡ slice_index_or l i d ∷ drop (i + 1) l
from l i d within = simp unary_clauses (drop-cons l i d within)

pub one_more : (a b whole : App) (r : Rule) (ps : List Parameter) (i : ℕ) (d : Parameter) → i < length ps → r ≡ rule_for (slice_index_or ps i d)
    → b ≡ with_rule a r → with_rules a (map rule_for (drop i ps)) ≡ whole → with_rules b (map rule_for (drop (i + 1) ps)) ≡ whole
unfolding with_rules
one_more a b whole r ps i d within rule next rest =
    ap (λ (c : App). with_rules c (map rule_for (drop (i + 1) ps))) (next ∙ ap (with_rule a) rule)
    ∙ sym (ap (λ (qs : List Parameter). with_rules a (map rule_for qs)) (from ps i d within)) ∙ rest

pub one_more_subcommand : (a b sub whole : App) (ss : List Subcommand) (i : ℕ) (d : Subcommand) → i < length ss
    → sub ≡ words_for (slice_index_or ss i d) → b ≡ with_subcommand a sub.top
    → with_subcommands a (map words_for (drop i ss)) ≡ whole → with_subcommands b (map words_for (drop (i + 1) ss)) ≡ whole
unfolding with_subcommands
one_more_subcommand a b sub whole ss i d within words next rest =
    ap (λ (c : App). with_subcommands c (map words_for (drop (i + 1) ss))) (next ∙ ap (λ (s : App). with_subcommand a s.top) words)
    ∙ sym (ap (λ (qs : List Subcommand). with_subcommands a (map words_for qs)) (from ss i d within)) ∙ rest
