use Rattle.std.proofs.Common.{◌≡◌, suc, ℕ, ◌+◌, ◌-◌, Bool, true, false, cond, take, map, sym, ◌∙◌, ap, arith}
use Rattle.pf_disk.specs.{Kept.event_of, Calls.is_sync}
use Rattle.pf_disk.proofs.Replaying.{counting_is, not_sync}
use Rattle.pf_disk.proofs.memory.MemDisk.counting.Goals as goal

pub returns-in-Sync-clause-is : goal.returns-in-Sync-clause-is
returns-in-Sync-clause-is c =
    let calls = c.args.self.now.calls.items in
    let k = c.args.moment - 1 in
    let is = counting_is calls c.args.moment k c.index.result.now (omega arith) (omega arith) c.index.ensures in
    let sync : is_sync (event_of c.index.result.now) ≡ true = ap (λ call. is_sync (event_of call)) c.in-Sync.is in
    ap (λ (n : ℕ). take n (map event_of calls)) (sym (is ∙ ap (λ (b : Bool). cond b k (suc k)) sync))

pub returns-in_default : goal.returns-in_default
returns-in_default c =
    let calls = c.args.self.now.calls.items in
    let k = c.args.moment - 1 in
    let is = counting_is calls c.args.moment k c.index.result.now (omega arith) (omega arith) c.index.ensures in
    let sync : is_sync (event_of c.index.result.now) ≡ false = not_sync c.index.result.now c.in_default.not-Sync in
    let more : k + 1 ≡ suc k = omega arith in
    record { within = omega arith; is = ap (λ (n : ℕ). take n (map event_of calls)) (more ∙ sym (is ∙ ap (λ (b : Bool). cond b k (suc k)) sync)) }
