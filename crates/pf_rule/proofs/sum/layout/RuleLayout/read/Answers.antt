use Rattle.std.proofs.Common.{◌≡◌, ◌==◌, ◌≤◌, Bool, Ok, sym, ap, subst, ◌∙◌, arith}
use Rattle.std.proofs.lemmas.Bool.{ne_eqb}
use Rattle.std.specs.Prelude.{if◌then◌else◌}
use Rattle.pf_form.specs.Bytes.Forms.{reads}
use Rattle.pf_rule.specs.{Rules.PlainRule, Sum.Layouts.{end, plain_family, rule_layout, plain_rule}}
use Rattle.pf_rule.proofs.RuleBytes.{fitting, body_read, rule_read}
use Rattle.pf_rule.proofs.sum.layout.RuleLayout.read.Goals.{then-kind-eq-PASS, else-kind-eq-PASS}
use Rattle.pf_rule.proofs.sum.layout.RuleLayout.read.Goals as goal

pub of-requires : goal.of-requires
of-requires c =
    let ports = c.has_ports-ports.ensures.number in
    record {
      effect = c.in_ok-effect.ensures.kept;
      label = c.in_ok-effect.ensures.label;
      interface = c.in_ok-interface.ensures.kept;
      protocol = c.in_ok-protocol.ensures.kept;
      source = c.in_ok-source.ensures.kept;
      destination = c.in_ok-destination.ensures.kept;
      port_tests = (c.in_ok-source.ensures.port, c.in_ok-destination.ensures.port);
      ports = fitting c.in_ok-protocol.protocol c.in_ok-source.source_port c.in_ok-destination.destination_port
          (λ e. c.in_ok-source.ensures.none (ports ∙ e)) (λ e. c.in_ok-destination.ensures.none (ports ∙ e));
    }

pub returns : goal.returns
returns c =
    let ports = c.has_ports-ports.ensures.number in
    let limit : (c.if-kind-eq-PASS.read_below ≡ (if c.in_ok-kind.kind == 1 then 2 else 1)) × (c.if-kind-eq-PASS.read_below ≤ 2) = elim c.if-kind-eq-PASS.branch [
      | then-kind-eq-PASS w ↦ (rw w.if-kind-eq-PASS.true w.read_below-is, omega (arith, w.read_below-is))
      | else-kind-eq-PASS w ↦ (rw (ne_eqb c.in_ok-kind.kind 1 w.if-kind-eq-PASS.false) w.read_below-is, omega (arith, w.read_below-is))
    ] in
    let end_at = λ (b : Bool). end b (plain_family c.in_ok-family.family) in
    let source = ap (λ (b : Bool). reads (end_at b) c.read_interface.new.from.now) (sym ports) ∙ c.in_ok-source.ensures.read in
    let destination = ap (λ (b : Bool). reads (end_at b) c.read_end.new.from.now) (sym ports) ∙ c.in_ok-destination.ensures.read in
    let r : PlainRule = record {
      source = c.in_ok-source.source;
      destination = c.in_ok-destination.destination;
      effect = c.in_ok-effect.effect;
      label = c.in_ok-effect.label;
      interface = c.in_ok-interface.interface;
      source_port = c.in_ok-source.source_port;
      destination_port = c.in_ok-destination.destination_port;
      direction = c.in_ok-direction.direction;
      quick = c.in_ok-quick.quick;
      family = c.in_ok-family.family;
      protocol = c.in_ok-protocol.protocol;
    } in
    let parts = body_read _ _ _ _ _ _ _ _ _ _ _ _ _ c.in_ok-interface.ensures.read source destination c.in_ok-effect.ensures.read in
    subst (λ (r : PlainRule). reads (rule_layout c.args.version) c.args.from.now.now ≡ Ok (plain_rule r, c.read_ending.new.from.now)) (sym c.of.ensures)
    (rule_read _ r _ _ _ _ _ _ _ _ _ c.read_protocol.new.from.now c.expect.new.from.now _ c.in_ok-effect.ensures.kind c.in_ok-effect.ensures.keeps c.in_ok-keeps.ensures.below limit.1 limit.0
    c.in_ok-kind.ensures.read c.in_ok-direction.ensures c.in_ok-quick.ensures c.in_ok-keeps.ensures.read c.in_ok-family.ensures c.in_ok-protocol.ensures.read c.in_ok-expect.ensures parts)
