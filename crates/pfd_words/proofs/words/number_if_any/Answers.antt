use Rattle.std.proofs.Common.{◌∙◌}
use Rattle.std.specs.Str.Parse.{ParsesUnsigned, ExplainsUnsignedError, HasUnsignedDigitsIfOk}
use Rattle.clap.specs.Words.{found_of, one_of, rows_of}
use Rattle.clap.proofs.WalkLemmas.{one_text-rows}
use Rattle.pfd_words.proofs.Asking.{number_if_read}
use Rattle.pfd_words.proofs.words.number_if_any.Goals as goal

pub returns : goal.returns
returns c =
    let f = found_of c.args.found.now in
    let id = c.args.option.now in
    number_if_read (λ bs r. ParsesUnsigned 64 10 bs r × ExplainsUnsignedError 10 bs r × HasUnsignedDigitsIfOk bs r) (λ t x g. g.0)
    (one_of id (rows_of f)) c.get_one.result (λ none. c.get_one.ensures.none (one_text-rows f id ∙ none))
    (λ t is. c.get_one.ensures.value t (one_text-rows f id ∙ is))
