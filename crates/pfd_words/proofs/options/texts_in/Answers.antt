use Rattle.std.proofs.Common.{◌∙◌, ap, List, Bor, Some, None, map}
use Rattle.std.proofs.lemmas.Result.{IfOk-weaker}
use Rattle.clap.specs.Words.{Text, all_of, found_of, rows_of}
use Rattle.clap.proofs.WalkLemmas.{raw_values-rows}
use Rattle.pfd_words.proofs.Asking.{texts_read}
use Rattle.pfd_words.proofs.options.texts_in.Goals as goal

pub returns-in-Some : goal.returns-in-Some
returns-in-Some c =
    let f = found_of c.args.found.now in
    let read = texts_read (Some (map (λ s. s.now) c.in-Some.texts.now)) _ (all_of c.args.option.now (rows_of f)) c.in-Some.ensures (raw_values-rows f c.args.option.now) in
    IfOk-weaker c.to_vec.result _ _ (λ v same. ap (λ (ts : List (Bor Text)). map (λ s. s.now) ts) (same (λ x y is. is)) ∙ read) c.to_vec.ensures.items_if_clones_equal

pub returns-in-None : goal.returns-in-None
returns-in-None c =
    let f = found_of c.args.found.now in
    let read = texts_read None _ (all_of c.args.option.now (rows_of f)) c.in-None.ensures (raw_values-rows f c.args.option.now) in
    rw c.new.ensures.items read
