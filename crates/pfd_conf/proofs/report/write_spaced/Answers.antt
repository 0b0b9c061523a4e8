use Rattle.pfd_conf.proofs.Texts.{after_space, spaced_words, all_written}
use Rattle.pfd_conf.proofs.report.write_spaced.Goals as goal

pub returns : goal.returns
returns g c =
    rw (← spaced_words c.args.words.now)
    (all_written after_space c.args.begun c.loop-word.so_far (g.W.Write.contents c.args.out.now) (g.W.Write.contents c.loop-word.out)
    c.args.words.now c.loop-word.word-index c.loop-word-test.false c.loop-word.invariant)
