use Rattle.std.proofs.Common.{◌≡◌, ℕ, Bool, false, ◌+◌, ◌&&◌, sym, ap, ◌∙◌, subst, arith}
use Rattle.pf_rule.specs.{Rules.{PlainRule, matches}, Packets.PlainPacket, Host.Hosts.TableTest}
use Rattle.pf_lanes.specs.Masks.{is_set}
use Rattle.pf_lanes.proofs.Counted.{AreSetBelow, one_set, one_passed}
use Rattle.pf_lanes.proofs.plain.asked.Goals.{then-is_set+then-matches, else-is_set, else-is_set-via-then-is_set+else-matches, else-is_set-via-else-is_set}
use Rattle.pf_lanes.proofs.plain.asked.Goals as goal

abbrev tests : TableTest → ℕ → PlainPacket → ℕ → PlainRule → Bool
tests says wanted p k r = is_set wanted k && matches says r p

pub loop-i-preserved : goal.loop-i-preserved
loop-i-preserved g c =
    let says = g.T.TableAnswers.says c.args.tables.now in
    let f = tests says c.args.wanted c.args.packet.now in
    let r = c.index-rules-i.result in
    let passed : f c.loop-i.i r ≡ false → AreSetBelow f c.args.rules.now (c.loop-i.i + 1) c.loop-i.mask = λ no.
    one_passed f c.args.rules.now c.loop-i.i c.loop-i.mask r c.loop-i.invariant c.loop-i-test.true (omega arith) c.index-rules-i.is no in
    elim c.if-is_set.branch [
      | then-is_set+then-matches w ↦ subst (AreSetBelow f c.args.rules.now (c.loop-i.i + 1)) (sym w.mask-is)
          (one_set f c.args.rules.now c.loop-i.i c.loop-i.mask r c.loop-i.invariant c.loop-i-test.true (omega arith) c.index-rules-i.is
          (λ j. (sym c.is_set.ensures ∙ w.if-is_set.true) j && (sym w.matches.ensures ∙ w.if-matches.true) j))
      | else-is_set w ↦ subst (AreSetBelow f c.args.rules.now (c.loop-i.i + 1)) (sym w.mask-is)
          (passed (elim w.else-is_set.branch [
            | else-is_set-via-then-is_set+else-matches v ↦ (λ j. (sym c.is_set.ensures ∙ v.if-is_set.true) j && (sym v.matches.ensures ∙ v.if-matches.false) j)
            | else-is_set-via-else-is_set v ↦ ap (λ (b : Bool). b && matches says r c.args.packet.now) (sym c.is_set.ensures ∙ v.if-is_set.false)
          ]))
    ]
