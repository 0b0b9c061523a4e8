use Rattle.std.proofs.Common.{sym, subst, ◌∙◌}
use Rattle.std.specs.Prelude.{codes, Result, List}
use Rattle.pf_form.specs.{Form.Words.{Word, texts}, Form.Forms.{making, or}}
use Rattle.pf_form.specs.declared.form.fault.Kind.{Kind}
use Rattle.pf_line.specs.{Grammar.{Spoken, Says, Tells, hex, showing, command}, Lines.{Parses, said}}
use Rattle.pf_line.proofs.Choices.{here, elsewhere}
use Rattle.pf_line.proofs.line.parse_words.Goals as goal

pub returns-then-takes : goal.returns-then-takes
returns-then-takes c =
    let same = here (codes "peer") (making Tells hex) (or (codes "show") showing (making Says command)) (texts c.args.words.now) (texts c.takes.new.words.now) c.takes.result c.takes.ensures c.if-takes.true in
    subst (λ (q : Result Spoken (Kind × List Word)). Parses c.parse_peer.result (said c.args.count q)) (sym same) c.parse_peer.ensures

pub returns-then-takes-2 : goal.returns-then-takes-2
returns-then-takes-2 c =
    let first = elsewhere (codes "peer") (making Tells hex) (or (codes "show") showing (making Says command)) (texts c.args.words.now) (texts c.takes.new.words.now) c.takes.result c.takes.ensures c.if-takes.false in
    let second = here (codes "show") showing (making Says command) (texts c.takes.new.words.now) (texts c.takes-2.new.words.now) c.takes-2.result c.takes-2.ensures c.if-takes-2.true in
    subst (λ (q : Result Spoken (Kind × List Word)). Parses c.parse_show.result (said c.args.count q)) (sym (first ∙ second)) c.parse_show.ensures

pub returns : goal.returns
returns c =
    let first = elsewhere (codes "peer") (making Tells hex) (or (codes "show") showing (making Says command)) (texts c.args.words.now) (texts c.takes.new.words.now) c.takes.result c.takes.ensures c.if-takes.false in
    let second = elsewhere (codes "show") showing (making Says command) (texts c.takes.new.words.now) (texts c.takes-2.new.words.now) c.takes-2.result c.takes-2.ensures c.if-takes-2.false in
    subst (λ (q : Result Spoken (Kind × List Word)). Parses c.parse_command.result (said c.args.count q)) (sym (first ∙ second)) c.parse_command.ensures
