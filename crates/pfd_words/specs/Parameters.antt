-- What a subcommand takes, as clap reads it.
use Rattle.std.specs.Prelude.{◌≡◌, Bool, true, false, ℕ, List, [], ◌∷◌, Option, Some, None, if◌then◌else◌, map, pos}
use Rattle.std.specs.Int.{int_max, int_min}
use Rattle.clap.specs.Words.{App, Rule, Text, new_app, new_rule, signed_between, with_rule, with_subcommand}
use Rattle.clap.specs.declared.builder.action.ArgAction.TheVariants.{SetTrue, Append}
use Rattle.clap.specs.declared.builder.value_parser.ValueParser.TheVariants.{Signed}
use Rattle.pfd_words.specs.declared.parameter.{Parameter.Parameter, Subcommand.Subcommand, Takes.Takes, Takes.TheVariants.{Nothing, Text as AText, Texts, Number}}

-- ---- the kinds of options and words

-- an option without a value
abbrev pub flag_rule : Text → Rule
flag_rule name = record (new_rule name) { long = Some name; action = Some SetTrue }

-- an option with a text
abbrev pub text_rule : Text → Rule
text_rule name = record (new_rule name) { long = Some name; value_names = 1 }

-- an option with a text, which may be said again
abbrev pub texts_rule : Text → Rule
texts_rule name = record (text_rule name) { action = Some Append }

-- an option with a number from `least` to `most`
abbrev pub number_rule : Text → ℕ → ℕ → Rule
number_rule name least most = record (text_rule name) { parser = Some (Signed (pos least) (pos most)) }

-- a word without an option's name before it, and one word or more
abbrev pub word_rule : Text → Rule
word_rule name = record (new_rule name) { value_names = 1 }

abbrev pub words_rule : Text → Rule
words_rule name = record (word_rule name) { required = true; action = Some Append }

-- ---- options and words, and subcommands, in their order

unfoldable pub with_rules : App → List Rule → App
with_rules app [] = app
with_rules app (rule ∷ rules) = with_rules (with_rule app rule) rules

unfoldable pub with_subcommands : App → List App → App
with_subcommands app [] = app
with_subcommands app (sub ∷ subs) = with_subcommands (with_subcommand app sub.top) subs

-- ---- what the data of a parameter and of a subcommand stand for. A number is a `u32`, narrowed to its bounds

abbrev pub with_takes : Takes → Rule → Rule
with_takes Nothing rule = record rule { action = Some SetTrue }
with_takes (AText value) rule = record rule { value_names = 1 }
with_takes (Texts value) rule = record rule { value_names = 1; action = Some Append }
with_takes (Number value least most) rule = record rule {
  value_names = 1;
  parser = Some (signed_between (int_max (pos 0) (pos least)) (int_min (pos 4294967295) (pos most)));
}

abbrev pub rule_for : Parameter → Rule
rule_for p = with_takes p.takes
    (record (new_rule p.name.now) { long = if p.is_option then Some p.name.now else None; required = p.is_required })

abbrev pub words_for : Subcommand → App
words_for s = with_rules (new_app s.name.now) (map rule_for s.parameters.now)

-- a command that was another, to which these subcommands were added
unfoldable pub HasAdded : App → List Subcommand → App → Type 0
HasAdded old subcommands new = new ≡ with_subcommands old (map words_for subcommands)
