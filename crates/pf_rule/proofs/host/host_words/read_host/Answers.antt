use Rattle.std.proofs.Common.{Ok, refl}
use Rattle.std.specs.Prelude.{codes}
use Rattle.pf_form.specs.{Form.Forms.{nothing, or}, Laws.Form.Steps.taken}
use Rattle.pf_rule.specs.declared.{host.host.Host.Host, host.host.Host.TheVariants.Any}
use Rattle.pf_rule.specs.{Host.Hosts.{a_negated_host, a_host, host}}
use Rattle.pf_rule.proofs.host.host_words.read_host.Goals as goal

pub returns-then-takes : goal.returns-then-takes
unfolding host
returns-then-takes c = taken {A = Host} (codes "any") (nothing Any) (or (codes "!") a_negated_host a_host) (Ok Any) c.takes.result c.args.words.now.now c.takes.new.words.now c.takes.new.words.now c.takes.ensures c.if-takes.true refl
