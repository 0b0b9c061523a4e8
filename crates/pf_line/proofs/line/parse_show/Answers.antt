use Rattle.std.proofs.Common.{sym, subst, ◌∙◌}
use Rattle.std.specs.Prelude.{codes, Result, List}
use Rattle.pf_form.specs.{Form.Words.{Word, texts}, Form.Forms.{making, nothing, or}}
use Rattle.pf_form.specs.declared.form.fault.Kind.{Kind}
use Rattle.pf_line.specs.{Grammar.{Spoken, Says, AsksStatus, AsksAnchors, path, shown, showing}, Lines.{Parses, said}}
use Rattle.pf_line.proofs.Choices.{here, elsewhere}
use Rattle.pf_line.proofs.line.parse_show.Goals as goal

pub returns-then-takes : goal.returns-then-takes
unfolding showing
returns-then-takes c =
    let same = here (codes "status") (nothing AsksStatus) (or (codes "anchors") (making AsksAnchors path) (making Says shown)) (texts c.args.words.now) (texts c.takes.new.words.now) c.takes.result c.takes.ensures c.if-takes.true in
    subst (λ (q : Result Spoken (Kind × List Word)). Parses c.parse_status.result (said c.args.count q)) (sym same) c.parse_status.ensures

pub returns-then-takes-2 : goal.returns-then-takes-2
unfolding showing
returns-then-takes-2 c =
    let first = elsewhere (codes "status") (nothing AsksStatus) (or (codes "anchors") (making AsksAnchors path) (making Says shown)) (texts c.args.words.now) (texts c.takes.new.words.now) c.takes.result c.takes.ensures c.if-takes.false in
    let second = here (codes "anchors") (making AsksAnchors path) (making Says shown) (texts c.takes.new.words.now) (texts c.takes-2.new.words.now) c.takes-2.result c.takes-2.ensures c.if-takes-2.true in
    subst (λ (q : Result Spoken (Kind × List Word)). Parses c.parse_anchors.result (said c.args.count q)) (sym (first ∙ second)) c.parse_anchors.ensures

pub returns : goal.returns
unfolding showing
returns c =
    let first = elsewhere (codes "status") (nothing AsksStatus) (or (codes "anchors") (making AsksAnchors path) (making Says shown)) (texts c.args.words.now) (texts c.takes.new.words.now) c.takes.result c.takes.ensures c.if-takes.false in
    let second = elsewhere (codes "anchors") (making AsksAnchors path) (making Says shown) (texts c.takes.new.words.now) (texts c.takes-2.new.words.now) c.takes-2.result c.takes-2.ensures c.if-takes-2.false in
    subst (λ (q : Result Spoken (Kind × List Word)). Parses c.parse_shown.result (said c.args.count q)) (sym (first ∙ second)) c.parse_shown.ensures
