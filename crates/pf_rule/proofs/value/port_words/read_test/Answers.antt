use Rattle.std.specs.Prelude.{codes}
use Rattle.pf_form.specs.{Form.Forms.or, Laws.Form.Steps.{taken, passed}}
use Rattle.pf_rule.specs.declared.{value.ports.Comparison.TheVariants.{Equal, NotEqual}, value.ports.PortTest.PortTest}
use Rattle.pf_rule.specs.Value.Ports.{compared, order_or_range, port_test}
use Rattle.pf_rule.proofs.value.port_words.read_test.Goals as goal

pub returns-then-takes : goal.returns-then-takes
unfolding port_test
returns-then-takes c =
    taken {A = PortTest} (codes "=") (compared Equal) (or (codes "!=") (compared NotEqual) order_or_range) c.read_compared.result c.takes.result c.args.words.now.now c.takes.new.words.now c.read_compared.new.words.now c.takes.ensures c.if-takes.true c.read_compared.ensures

pub returns-then-takes-2 : goal.returns-then-takes-2
unfolding port_test
returns-then-takes-2 c =
    let call = c.read_compared-then-takes-2 in
    passed {A = PortTest} (codes "=") (compared Equal) (or (codes "!=") (compared NotEqual) order_or_range) call.result c.takes.result c.args.words.now.now c.takes.new.words.now call.new.words.now c.takes.ensures c.if-takes.false
    (taken {A = PortTest} (codes "!=") (compared NotEqual) order_or_range call.result c.takes-2.result c.takes.new.words.now c.takes-2.new.words.now call.new.words.now c.takes-2.ensures c.if-takes-2.true call.ensures)
