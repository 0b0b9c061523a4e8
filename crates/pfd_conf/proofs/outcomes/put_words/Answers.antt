use Rattle.std.proofs.Common.{◌≡◌, ◌+◌, ◌++◌, List, drop, length, sym, ap, ◌∙◌, arith}
use Rattle.std.proofs.lemmas.Result.{on_ok_weaker}
use Rattle.std.specs.List.{slice_range}
use Rattle.pf_form.specs.Form.Words.{Word, words_of, texts}
use Rattle.pfd_conf.specs.Outcomes.{if_some}
use Rattle.pfd_conf.proofs.{CaseWords.{word_more, no_word, words_more, words_all}, outcomes.put_words.Goals.{then-is_blank+in_ok-push_word, else-is_blank}}
use Rattle.pfd_conf.proofs.outcomes.put_words.Goals as goal

pub loop-at-preserved : goal.loop-at-preserved
loop-at-preserved c =
    let line = c.args.line.now in
    let was = c.loop-at.invariant in
    elim c.if-is_blank.branch [
      | then-is_blank+in_ok-push_word w ↦ rw (w.words-is, w.start-is) (record {
        start = omega arith;
        word = no_word line (c.loop-at.at + 1);
        words = ap (λ (ws : List Word). ws ++ words_of (drop (c.loop-at.at + 1) line)) w.in_ok-push_word.ensures
            ∙ words_more line c.loop-at.start c.loop-at.at (texts c.loop-at.words.items) was.start c.loop-at-test.true was.word
            (sym w.if-is_blank.ensures) was.words;
      })
      | else-is_blank w ↦ rw (w.words-is, w.start-is) (record {
        start = omega (arith, was.start);
        word = word_more line c.loop-at.start c.loop-at.at was.start c.loop-at-test.true was.word (sym w.if-is_blank.ensures);
        words = was.words;
      })
    ]

pub returns : goal.returns
returns c =
    let line = c.args.line.now in
    let was = c.loop-at.invariant in
    let end : c.loop-at.at ≡ length line = omega (arith, c.loop-at-test.false, c.loop-at.auto.at-end) in
    let start = c.loop-at.start in
    let before = texts c.loop-at.words.items in
    on_ok_weaker c.push_word-2.result
    (λ (put : texts c.push_word-2.new.words.items ≡ before ++ if_some (slice_range line start (length line))).
    put ∙ words_all line start c.loop-at.at before was.start end was.word was.words)
    c.push_word-2.ensures
