use Rattle.std.proofs.Common.{arith, rules}
use Rattle.pf_form.specs.Laws.Bytes.Steps.{bytes_of}
use Rattle.pf_form.proofs.BytesRead.{pushed_bytes}
use Rattle.pf_form.proofs.bytes.writing.push_bytes.Goals as goal

pub returns-clause-text : goal.returns-clause-text
returns-clause-text c = rw (pushed_bytes c.args.bytes.now c.args.out.now.items (bytes_of c.args.bytes.now (λ i. omega (arith, c.type_inv.bytes i)))) (search rules)
