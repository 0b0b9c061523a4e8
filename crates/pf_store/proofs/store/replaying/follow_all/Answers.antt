use Rattle.std.proofs.Common.{◌≡◌, ◌+◌, ℕ, length, take, drop, sym, ◌∙◌, ap, rules, subst, arith}
use Rattle.pf_journal.specs.Records.{contents}
use Rattle.pf_store.specs.{Groups.IsRecorded}
use Rattle.pf_store.proofs.Leading.{contents-split, leads_on, gate_on, gate_within}
use Rattle.pf_store.proofs.store.replaying.follow_all.Goals as goal

pub returns-in-Err-NoForm-clause-refused : goal.returns-in-Err-NoForm-clause-refused
returns-in-Err-NoForm-clause-refused c =
    let i = c.loop-payload.payload-index in
    let p = c.payload-item.result in
    let inv = c.loop-payload.invariant in
    record {
      done = contents (take i c.args.payloads.now);
      payload = p.items;
      rest = contents (drop (i + 1) c.args.payloads.now);
      split = contents-split c.args.payloads.now i p c.loop-payload-test.true c.payload-item.is;
      d = c.loop-payload.durable;
      leads = inv.0;
      none = λ x here follows. c.in-Err-NoForm.ensures.none c.in-Err-NoForm.field-0-is x (subst (IsRecorded c.args.version x) (sym c.deref.ensures.value) here) follows;
      at = inv.1;
    }

pub overflow_add-gate-in-loop-payload : goal.overflow_add-gate-in-loop-payload
overflow_add-gate-in-loop-payload c =
    let within = gate_within c.args.payloads.now c.loop-payload.payload-index c.payload-item.result c.loop-payload-test.true c.payload-item.is c.args.start c.loop-payload.gate c.loop-payload.invariant.1 in
    let len : c.len.result ≡ length c.payload-item.result.items = search rules in
    record { fits = omega (arith, within, len, c.requires.small) }

pub loop-payload-preserved : goal.loop-payload-preserved
loop-payload-preserved c =
    let i = c.loop-payload.payload-index in
    let p = c.payload-item.result in
    let inv = c.loop-payload.invariant in
    let f = c.in-Ok.ensures.followed in
    let len : c.len.result ≡ length p.items = search rules in (
      leads_on c.args.payloads.now i p c.loop-payload-test.true c.payload-item.is c.args.version c.args.first c.loop-payload.durable c.in-Ok.after inv.0 (f.0, subst (IsRecorded c.args.version f.0) c.deref.ensures.value f.1, f.2, f.3),
      ap (λ (n : ℕ). c.loop-payload.gate + (5 + n)) len ∙ gate_on c.args.payloads.now i p c.loop-payload-test.true c.payload-item.is c.args.start c.loop-payload.gate inv.1,
    )
