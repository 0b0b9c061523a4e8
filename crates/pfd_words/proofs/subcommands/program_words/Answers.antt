use Rattle.std.proofs.Common.{ap, map, rules, ◌≡◌, ◌∙◌, List, true, codes, refl, sym, Some, Result, IfOk}
use Rattle.std.proofs.lemmas.Result.{IfOk-weaker}
use Rattle.clap.specs.{Simple.on_top, Words.{app_of, new_app, App}}
use Rattle.clap.specs.declared.builder.command.Command.{Command}
use Rattle.pfd_words.specs.declared.parameter.{Subcommand.Subcommand}
use Rattle.pfd_words.specs.{Parameters.{HasAdded, rule_for, with_rules, with_subcommands, words_for}, Subcommands.program_words}
use Rattle.pfd_words.proofs.subcommands.program_words.Goals as goal

abbrev top : App
top = on_top (λ s. record s { has_version = true; subcommand_required = true }) (new_app (codes "pfd"))

whole : {E : Type 0} (r : Result Command E) (a : App) (ss : List Subcommand) → IfOk r (λ c. HasAdded a ss (app_of c)) → a ≡ top
    → HasAdded top ss program_words → IfOk r (λ c. app_of c ≡ program_words)
unfolding HasAdded
whole r a ss is first all = IfOk-weaker r _ _ (λ p h. h ∙ ap (λ (b : App). with_subcommands b (map words_for ss)) first ∙ sym all) is

all : (ss : List Subcommand) → program_words ≡ with_subcommands top (map words_for ss) → HasAdded top ss program_words
unfolding HasAdded
all ss is = is

pub returns : goal.returns
unfolding with_subcommands with_rules
returns c =
    let first : app_of c.subcommand_required-program.result ≡ top = search rules in
    whole c.with_subcommands.result (app_of c.subcommand_required-program.result) _ c.with_subcommands.ensures first (all _ refl)
