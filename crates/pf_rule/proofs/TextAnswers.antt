-- What reading a whole text returns.
use Rattle.std.proofs.Common.{◌≡◌, ◌⊎◌, true, List, length, Result, Ok, refl, arith, Err}
use Rattle.std.specs.Prelude.{IfErr}
use Rattle.pf_form.specs.declared.form.fault.Kind.{Kind}
use Rattle.pf_form.specs.declared.form.fault.Kind.TheVariants as kinds
use Rattle.pf_form.specs.{Form.Words.Word, Form.Forms.{Form, read_all, is_decided}, Laws.Form.Texts.{found, only, refused}}
use Rattle.pf_rule.specs.declared.{fault.Mistake.Mistake, fault.TextFault.TextFault, fault.TextFault.TheVariants.Memory}
use Rattle.pf_rule.specs.declared.fault.Mistake.TheVariants as mistakes
use Rattle.pf_rule.specs.{Packets.PlainPacket, PacketGrammar.{packet, packet_decided}, Refusals.{text_result, reading, Answers, Refused, IsAnswer}, RuleGrammar.{rule, rule_decided}, Rules.PlainRule}

answered : {A : Type 0} (r t : Result A TextFault) → (r ≡ Err Memory) ⊎ (r ≡ t) → Answers r t
answered r t is = grind arith

module _ (A : Type 0) (text : Form (Result A Mistake)) (decided : is_decided text ≡ true) where
  refused_reported : (ws : List Word) (q : Result (Result A Mistake) (Kind × List Word)) → read_all text ws ≡ q → IfErr (text_result (length ws) q) (λ e. Refused text ws e)
  refused_reported ws (Ok (Ok x)) h = tt
  refused_reported ws (Ok (Err mistakes.MixedFamily)) h = found (Result A Mistake) text decided ws (Err mistakes.MixedFamily) h
  refused_reported ws (Ok (Err mistakes.PortNeedsProto)) h = found (Result A Mistake) text decided ws (Err mistakes.PortNeedsProto) h
  refused_reported ws (Err (kinds.BadWord, rest)) h = refused (Result A Mistake) text decided ws kinds.BadWord rest h
  refused_reported ws (Err (kinds.NameTooLong, rest)) h = refused (Result A Mistake) text decided ws kinds.NameTooLong rest h
  refused_reported ws (Err (kinds.BadProto, rest)) h = refused (Result A Mistake) text decided ws kinds.BadProto rest h

  is_answer : (ws : List Word) (r : Result A TextFault) → (r ≡ Err Memory) ⊎ (r ≡ reading text ws) → IsAnswer A text ws r
  unfolding reading
  is_answer ws r is =
      let given = answered r (reading text ws) is in
      let spelled = found (Result A Mistake) text decided ws in
      let refusal = refused_reported ws (read_all text ws) refl in
      record { found = grind arith; only = λ x h. rw (only (Result A Mistake) text decided ws (Ok x) h) at given; refused = grind arith; exact = given }

pub is_answer_rule : (ws : List Word) (r : Result PlainRule TextFault) → (r ≡ Err Memory) ⊎ (r ≡ reading rule ws) → IsAnswer PlainRule rule ws r
is_answer_rule = is_answer PlainRule rule rule_decided

pub is_answer_packet : (ws : List Word) (r : Result PlainPacket TextFault) → (r ≡ Err Memory) ⊎ (r ≡ reading packet ws) → IsAnswer PlainPacket packet ws r
is_answer_packet = is_answer PlainPacket packet packet_decided
