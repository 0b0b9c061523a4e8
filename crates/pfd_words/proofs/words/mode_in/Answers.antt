use Rattle.std.proofs.Common.{◌∙◌, ◌≡◌, inr, refl, subst, IsSomeAnd, MatchOption, Option}
use Rattle.clap.specs.Words.{Text, found_of}
use Rattle.clap.proofs.WalkLemmas.{first_value-rows}
use Rattle.pfd_words.specs.declared.words.TheConstants.{OWNER_MODE}
use Rattle.pfd_words.specs.Words.{IsMode, IsNoMode}
use Rattle.pfd_words.proofs.words.mode_in.Goals as goal

pub returns-in_default-clause-mode : goal.returns-in_default-clause-mode
returns-in_default-clause-mode c =
    let read = c.in_default.ensures ∙ first_value-rows (found_of c.args.found.now) c.args.option.now in
    subst (λ (o : Option Text). MatchOption o (OWNER_MODE ≡ OWNER_MODE) (λ text. IsMode text OWNER_MODE)) read refl

pub returns-in-Some-mode_of-clause-mode : goal.returns-in-Some-mode_of-clause-mode
returns-in-Some-mode_of-clause-mode c =
    let read = c.in-Some.ensures ∙ first_value-rows (found_of c.args.found.now) c.args.option.now in
    let mode = c.in-Some-mode_of.mode in
    subst (λ (o : Option Text). MatchOption o (mode ≡ OWNER_MODE) (λ text. IsMode text mode)) read c.in-Some-mode_of.ensures

pub returns-in_ok-wrong_mode-in-None-clause-refused : goal.returns-in_ok-wrong_mode-in-None-clause-refused
returns-in_ok-wrong_mode-in-None-clause-refused c =
    let read = c.in-Some.ensures ∙ first_value-rows (found_of c.args.found.now) c.args.option.now in
    inr (c.in_ok-wrong_mode-in-None.ensures, subst (λ (o : Option Text). IsSomeAnd o IsNoMode) read c.in-None.ensures)
