use Rattle.std.proofs.Common.{◌≡◌, ◌+◌, ◌++◌, List, length, drop, get_or, sym, ap, ◌∙◌, arith}
use Rattle.pf_form.specs.Form.Words.{Word, words_of, texts}
use Rattle.pf_line.proofs.{Cutting.{word_more, no_word, bytes_more, bytes_all, bad_byte, blank_is_byte, words_more, words_all}, cut.cut_list.Goals.{then-is_blank+in-Some, else-is_blank+else-not-line_byte}}
use Rattle.pf_line.proofs.cut.cut_list.Goals as goal

pub loop-at-preserved : goal.loop-at-preserved
loop-at-preserved c =
    let line = c.args.line.now in
    let was = c.loop-at.invariant in
    elim c.if-is_blank.branch [
      | then-is_blank+in-Some w ↦ rw (w.words-is, w.start-is) (record {
        start = omega arith;
        bytes = bytes_more line c.loop-at.at c.loop-at-test.true was.bytes (blank_is_byte (get_or line c.loop-at.at 0) (sym w.if-is_blank.ensures));
        word = no_word line (c.loop-at.at + 1);
        words = ap (λ (ws : List Word). ws ++ words_of (drop (c.loop-at.at + 1) line)) w.in-Some.ensures
            ∙ words_more line c.loop-at.start c.loop-at.at (texts c.loop-at.words.items) was.start c.loop-at-test.true was.word (sym w.if-is_blank.ensures) was.words;
      })
      | else-is_blank+else-not-line_byte w ↦ rw (w.words-is, w.start-is) (record {
        start = omega (arith, was.start);
        bytes = bytes_more line c.loop-at.at c.loop-at-test.true was.bytes (sym w.if-not-line_byte.ensures);
        word = word_more line c.loop-at.start c.loop-at.at was.start c.loop-at-test.true was.word (sym w.if-is_blank.ensures);
        words = was.words;
      })
    ]

pub returns-then-not-line_byte : goal.returns-then-not-line_byte
returns-then-not-line_byte c = bad_byte c.args.line.now c.loop-at.at c.loop-at-test.true (sym c.if-not-line_byte.ensures)

pub returns-in-Some-push_some : goal.returns-in-Some-push_some
returns-in-Some-push_some c =
    let line = c.args.line.now in
    let was = c.loop-at.invariant in
    let end : c.loop-at.at ≡ length line = omega (arith, c.loop-at-test.false, c.loop-at.auto.at-end) in
    (c.in-Some-push_some.ensures ∙ words_all line c.loop-at.start c.loop-at.at (texts c.loop-at.words.items) was.start end was.word was.words, bytes_all line c.loop-at.at end was.bytes)
