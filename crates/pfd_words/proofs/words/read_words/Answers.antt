use Rattle.std.proofs.Common.{ap, ap₂, map, string_bytes, subst, IfErr, IfOk, ◌∙◌}
use Rattle.std.proofs.lemmas.Result.{IfErr-weaker, IfOk-weaker}
use Rattle.clap.specs.Words.{App, is_simple, kind_of, subcommand_of, takes}
use Rattle.pfd_words.specs.Words.{IsAsked, IsRefused, program_words}
use Rattle.pfd_words.proofs.Asking.{alone, by_memory, of_memory, simple, taken}
use Rattle.pfd_words.proofs.words.read_words.Goals as goal

pub returns-in-Ok-clause-asked : goal.returns-in-Ok-clause-asked
returns-in-Ok-clause-asked c =
    let met = c.in-Ok.ensures.matches (ap is_simple c.in_ok-program_words.ensures ∙ simple) in
    let is = met.1 ∙ ap (λ (a : App). subcommand_of a (map string_bytes c.args.words.now)) c.in_ok-program_words.ensures in
    subst (λ m. IfOk c.task_of.result (λ task. IsAsked m task)) is c.task_of.ensures.asked

pub returns-in-Ok-clause-run : goal.returns-in-Ok-clause-run
returns-in-Ok-clause-run c = λ words.
    let met = c.in-Ok.ensures.matches (ap is_simple c.in_ok-program_words.ensures ∙ simple) in
    let is = met.1 ∙ ap (λ (a : App). subcommand_of a (map string_bytes c.args.words.now)) c.in_ok-program_words.ensures in
    let refused = subst (λ m. IfErr c.task_of.result (λ e. IsRefused m (kind_of e))) is c.task_of.ensures.refused in
    IfErr-weaker c.task_of.result _ _ (λ e why. by_memory (map string_bytes c.args.words.now) (kind_of e) words why) refused

pub returns-in-Ok-clause-alone : goal.returns-in-Ok-clause-alone
returns-in-Ok-clause-alone c = λ words.
    let met = c.in-Ok.ensures.matches (ap is_simple c.in_ok-program_words.ensures ∙ simple) in
    let is = met.1 ∙ ap (λ (a : App). subcommand_of a (map string_bytes c.args.words.now)) c.in_ok-program_words.ensures in
    let asked = subst (λ m. IfOk c.task_of.result (λ task. IsAsked m task)) is c.task_of.ensures.asked in
    IfOk-weaker c.task_of.result _ _ (λ task it. alone (map string_bytes c.args.words.now) task words it) asked

pub returns-in-Ok-clause-refused : goal.returns-in-Ok-clause-refused
returns-in-Ok-clause-refused c = λ passes.
    let met = c.in-Ok.ensures.matches (ap is_simple c.in_ok-program_words.ensures ∙ simple) in
    let is = met.1 ∙ ap (λ (a : App). subcommand_of a (map string_bytes c.args.words.now)) c.in_ok-program_words.ensures in
    subst (λ m. IfErr c.task_of.result (λ e. IsRefused m (kind_of e))) is c.task_of.ensures.refused

pub returns-in-Err-clause-run : goal.returns-in-Err-clause-run
returns-in-Err-clause-run c = λ words. c.in-Err.ensures.passes (ap₂ takes c.in_ok-program_words.ensures words.1 ∙ taken words.0)

pub returns-in-Err-clause-refused : goal.returns-in-Err-clause-refused
returns-in-Err-clause-refused c = λ passes.
    of_memory (subcommand_of program_words (map string_bytes c.args.words.now)) (kind_of c.in-Err.error) (c.in-Err.ensures.passes (ap (λ (a : App). takes a (map string_bytes c.args.words.now)) c.in_ok-program_words.ensures ∙ passes))
