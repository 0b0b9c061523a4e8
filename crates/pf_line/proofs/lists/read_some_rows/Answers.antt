use Rattle.std.proofs.Common.{refl, Vec, Global}
use Rattle.pf_form.specs.{Form.Words.texts, Form.Forms.{reads, read_all, one_or_more}, Form.Lists.{shrinks, handed_on}}
use Rattle.pf_table.specs.Entries.{PlainEntry}
use Rattle.pf_line.specs.Grammar.{row}
use Rattle.pf_line.proofs.lists.read_some_rows.Goals as goal

pub returns-in_err-rows : goal.returns-in_err-rows
returns-in_err-rows c =
    let read = c.in_err-rows.ensures (reads row) (shrinks PlainEntry row refl refl) (λ ws vs r h. h) in
    handed_on {X = Vec PlainEntry Global} (λ v. v.items) (λ x. x) c.in_err-rows.field-0.0 c.from_residual.result (read_all (one_or_more row) (texts c.args.words.now)) read c.from_residual.ensures.1

pub returns : goal.returns
returns c = rw c.new.ensures (c.in_ok-rows.ensures (reads row) (shrinks PlainEntry row refl refl) (λ ws vs r h. h))
