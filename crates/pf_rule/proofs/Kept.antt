-- What words spell has what every rule or packet maintains.
use Rattle.std.proofs.Common.{◌≡◌, ◌<◌, ℕ, Bool, true, false, List, Option, Some, None, Result, Ok, refl, sym, subst, ap, ◌∙◌, arith}
use Rattle.std.specs.Prelude.{IfSome, IfOk}
use Rattle.pf_addr.specs.{Address.IsAddr, Path.{References.{PlainReference, reference_of}, ReferenceGrammar.IsReference}}
use Rattle.pf_form.specs.{Form.{Words.Word, Forms.{Spells, reads}}, Laws.Form.Forms.lawful}
use Rattle.pf_addr.specs.declared.addr.Family.{Family}
use Rattle.pf_addr.proofs.ReferencesRead.{read_is_spelled}
use Rattle.pf_rule.specs.{Value.Values.{IsInterfaceName, IsProtocol, has_ports}, Value.Ports.ports_fit, Host.Hosts.IsHost, Host.Ends.IsEnd, Packets.{PlainPacket, IsPacket}, Rules.{PlainRule, IsEffect, IsRule, HostFits, LabelFits}, PacketGrammar.{packet_with, of_one_family, packet}, RuleGrammar.{opening, effect_of, decides, label, rule_with, one_family, agreeing_with, agreeing, rule, rule_decided}}
use Rattle.pf_rule.proofs.{ValueKept.{interface_kept, protocol_kept, label_kept, address_kept, port_kept, interface_is, protocol_is}, HostKept.ends_are}
use Rattle.pf_rule.specs.declared.{rule_words.RuleStart.RuleStart, host.host.Host.Host, fault.Mistake.Mistake}
use Rattle.pf_rule.specs.declared.rule_words.RuleStart.TheVariants as openings

-- ---- a rule

abbrev OpeningIs : RuleStart → Type 0
OpeningIs openings.Pass = Unit {0}
OpeningIs openings.Block = Unit {0}
OpeningIs (openings.Anchor r) = IsReference r

reference_kept : (w : Word) (r : PlainReference) → reference_of w ≡ Ok r → IsReference r
reference_kept w r e = (read_is_spelled w r e).0

opening_is : (o : RuleStart) (ws : List Word) → Spells opening o ws → OpeningIs o
unfolding opening
opening_is o ws h = grind (arith, reference_kept)

effect_is : (o : RuleStart) (keeps : Bool) → OpeningIs o → IsEffect (effect_of o keeps)
effect_is openings.Pass keeps is = tt
effect_is openings.Block keeps is = tt
effect_is (openings.Anchor r) keeps is = is

label_is : (o : RuleStart) (keeps : Bool) (l : Option (List ℕ)) (ws : List Word) → Spells (label (decides o)) l ws → LabelFits (effect_of o keeps) l
unfolding label
label_is openings.Pass keeps l ws h = grind (arith, label_kept)
label_is openings.Block keeps l ws h = grind (arith, label_kept)
label_is (openings.Anchor r) keeps l ws h = h.0

families_fit : (written f : Option Family) (s d : Host) → IsHost s → IsHost d → one_family written s d ≡ Some f → HostFits f s × HostFits f d
families_fit written f s d p q e = grind arith

agreeing_kept : (x r : PlainRule) → IsEffect x.effect → IfSome x.interface IsInterfaceName → IfSome x.protocol IsProtocol → IsEnd (x.source, x.source_port) × IsEnd (x.destination, x.destination_port) → LabelFits x.effect x.label → Ok r ≡ agreeing x → IsRule r
agreeing_kept x r o i p h l e = by (one_family x.family x.source x.destination) refl (ports_fit x.protocol x.source_port x.destination_port) refl e where
  by : (f : Option (Option Family)) → one_family x.family x.source x.destination ≡ f → (b : Bool) → ports_fit x.protocol x.source_port x.destination_port ≡ b → Ok r ≡ agreeing_with x f b → IsRule r
  by None one b fit e = absurd cc
  by (Some f) one false fit e = absurd cc
  by (Some f) one true fit e =
      let hosts = families_fit x.family f x.source x.destination h.0.0 h.1.0 one in
      subst (λ (a : Result PlainRule Mistake). IfOk a IsRule) (sym e) (record { effect = o; interface = i; protocol = p; source = hosts.0; destination = hosts.1; port_tests = (h.0.1, h.1.1); ports = fit; label = l })

pub rule_kept : (r : PlainRule) (ws : List Word) → Spells rule (Ok r) ws → IsRule r
unfolding rule
rule_kept r ws (x, (y, (m, m', (a, a', begins, (b, b', direction, (c, c', quick, (d, d', on, (e, e', family, (f, f', proto, (g, g', h, state, eh), ep), ef), eo), eq), ed), all), named, el), made), is) =
    let z = y.0 in
    agreeing_kept (rule_with y) r (effect_is z.0 z.1.1.1.1.1.1.1 (opening_is z.0 a begins)) (interface_is z.1.1.1.0 d on) (protocol_is z.1.1.1.1.1.0 f proto) (ends_are z.1.1.1.1.1.1.0 g h)
    (label_is z.0 z.1.1.1.1.1.1.1 y.1 m' named) (is ∙ ap agreeing made)

pub rule_read_kept : (ws rest : List Word) (r : PlainRule) → reads rule ws ≡ Ok (Ok r, rest) → IsRule r
rule_read_kept ws rest r e = let t = (lawful rule rule_decided).takes ws (Ok r) rest e in rule_kept r t.0 t.1

-- ---- a packet

of_one_family_kept : (x p : PlainPacket) → IsInterfaceName x.interface → IsProtocol x.protocol → IsAddr x.source → IsAddr x.destination → (x.source_port < 65536) × (has_ports x.protocol ≡ false → x.source_port ≡ 0)
    → (x.destination_port < 65536) × (has_ports x.protocol ≡ false → x.destination_port ≡ 0) → Ok p ≡ of_one_family x → IsPacket p
of_one_family_kept x p i n s t sp tp e = grind arith

pub packet_kept : (p : PlainPacket) (ws : List Word) → Spells packet (Ok p) ws → IsPacket p
unfolding packet
packet_kept p ws (x, (y, (a, a', way, (b, b', (i, on, ei), (c, c', (n, proto, en), (d, d', (s, from, es), (e, e', (sp, port, esp), (f, f', (t, to, et), (tp, port', etp), ef), ee), ed), ec), eb), all), made), is) =
    of_one_family_kept (packet_with y) p (interface_kept i y.1.0 on) (protocol_kept n y.1.1.0 proto) (address_kept s y.1.1.1.0 from) (address_kept t y.1.1.1.1.1.0 to)
    (port_kept (has_ports y.1.1.0) sp y.1.1.1.1.0 port) (port_kept (has_ports y.1.1.0) tp y.1.1.1.1.1.1 port') (is ∙ ap of_one_family made)
