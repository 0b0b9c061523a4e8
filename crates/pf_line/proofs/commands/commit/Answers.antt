use Rattle.std.proofs.Common.{Ok, Err, refl, Vec, Global}
use Rattle.pf_form.specs.{Form.Words.texts, Form.Forms.{reads, read_all}, Form.Lists.{shrinks, listed, handed_on}}
use Rattle.pf_ticket.specs.declared.entry.RulesetTicket.{RulesetTicket}
use Rattle.pf_line.specs.Grammar.{entry, commit_of, committed}
use Rattle.pf_line.proofs.commands.commit.Goals as goal

pub returns-in_err-entries : goal.returns-in_err-entries
unfolding committed
returns-in_err-entries c =
    let read = listed {X = Vec RulesetTicket Global} (λ v. v.items) (Err c.in_err-entries.field-0.0) commit_of entry (texts c.args.words.now) (c.in_err-entries.ensures (reads entry) (shrinks RulesetTicket entry refl refl) (λ ws vs r h. h)) in
    handed_on {X = Vec RulesetTicket Global} (λ v. commit_of v.items) (λ x. x) c.in_err-entries.field-0.0 c.from_residual.result (read_all committed (texts c.args.words.now)) read c.from_residual.ensures.1

pub returns : goal.returns
unfolding committed
returns c = rw c.new.ensures (listed {X = Vec RulesetTicket Global} (λ v. v.items) (Ok c.in_ok-entries.entries) commit_of entry (texts c.args.words.now) (c.in_ok-entries.ensures (reads entry) (shrinks RulesetTicket entry refl refl) (λ ws vs r h. h)))
