use Rattle.std.proofs.Common.{arith}
use Rattle.pf_form.specs.Laws.Bytes.Steps.{bytes_of}
use Rattle.pf_form.proofs.BytesRead.{is_found, is_only, is_refused}
use Rattle.pf_form.proofs.bytes.whole.decode.Goals as goal

pub returns-clause-found : goal.returns-clause-found
returns-clause-found g c = is_found (g.T.Layout.form c.args.version) g.T.Layout.plain c.args.bytes.now c.read_whole.result (bytes_of _ (λ i. omega (arith, c.type_inv.bytes i))) c.read_whole.ensures

pub returns-clause-only : goal.returns-clause-only
returns-clause-only g c = λ x s. is_only (g.T.Layout.form c.args.version) g.T.Layout.plain c.args.bytes.now c.read_whole.result x s c.read_whole.ensures

pub returns-clause-refused : goal.returns-clause-refused
returns-clause-refused g c = is_refused (g.T.Layout.form c.args.version) g.T.Layout.plain c.args.bytes.now c.read_whole.result (bytes_of _ (λ i. omega (arith, c.type_inv.bytes i))) c.read_whole.ensures
