use Rattle.std.proofs.Common.{Ok, Err, refl, Vec, Global}
use Rattle.pf_form.specs.{Form.Words.texts, Form.Forms.{reads, read_all}, Form.Lists.{shrinks, listed, handed_on}}
use Rattle.pf_ticket.specs.declared.name.RulesetName.{RulesetName}
use Rattle.pf_line.specs.Grammar.{name, begin_of, begun}
use Rattle.pf_line.proofs.commands.begin.Goals as goal

pub returns-in_err-names : goal.returns-in_err-names
unfolding begun
returns-in_err-names c =
    let read = listed {X = Vec RulesetName Global} (λ v. v.items) (Err c.in_err-names.field-0.0) begin_of name (texts c.args.words.now) (c.in_err-names.ensures (reads name) (shrinks RulesetName name refl refl) (λ ws vs r h. h)) in
    handed_on {X = Vec RulesetName Global} (λ v. begin_of v.items) (λ x. x) c.in_err-names.field-0.0 c.from_residual.result (read_all begun (texts c.args.words.now)) read c.from_residual.ensures.1

pub returns : goal.returns
unfolding begun
returns c = rw c.new.ensures (listed {X = Vec RulesetName Global} (λ v. v.items) (Ok c.in_ok-names.names) begin_of name (texts c.args.words.now) (c.in_ok-names.ensures (reads name) (shrinks RulesetName name refl refl) (λ ws vs r h. h)))
