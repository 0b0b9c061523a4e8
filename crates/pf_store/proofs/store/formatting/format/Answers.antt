use Rattle.std.proofs.Common.{◌≡◌, List, ℕ, ap, refl, subst, replicate, length, arith}
use Rattle.std.specs.Prelude.{Result, Ok, Err, OnOk}
use Rattle.pf_core.specs.Durable.Changes.{PlainDurable, kept_nothing}
use Rattle.pf_snap.specs.{Banks.{Content, HoldsAt, bank_size, begun}, declared.header.TheConstants.NEWEST}
use Rattle.pf_snap.specs.Banks as snap
use Rattle.pf_snap.proofs.Holding.{one_content}
use Rattle.pf_store.specs.{Openings.LeavesRoom, Stores.{Holds, IsRoomy}}
use Rattle.pf_store.proofs.{Durables.{zeros_are}, Refusing.{one_held}, Sized.nothing_long}
use Rattle.pf_store.proofs.store.formatting.format.Goals as goal

mapped : {A E P Q : Type 0} (r : Result A E) → (P → Q) → OnOk r P → OnOk r Q
mapped (Ok x) f p = f p
mapped (Err e) f p = tt

holding : (image : List ℕ) (other : ℕ) → HoldsAt 0 other image (begun NEWEST 1 (replicate 24 0)) → Holds image (kept_nothing 0)
holding image other bank = record {
  content = begun NEWEST 1 (replicate 24 0);
  bank = record { at = 0; other = other; holds = bank };
  makes = record { first = kept_nothing 0; kept = zeros_are NEWEST; leads = refl };
}

pub returns-clause-holds : goal.returns-clause-holds
returns-clause-holds g c = mapped c.format.result (λ all image is. holding image (bank_size (length (g.D.Disk.seen c.args.disk.now))) (all image is)) c.format.ensures.holds

pub returns-clause-first : goal.returns-clause-first
returns-clause-first g c =
    let half = bank_size (length (g.D.Disk.seen c.args.disk.now)) in
    mapped c.format.result
    (λ all image is held.
    let there : snap.Holds image (begun NEWEST 1 (replicate 24 0)) = record { at = 0; other = half; holds = all image is } in
    let same = one_content image held.content (begun NEWEST 1 (replicate 24 0)) held.bank there in
    (ap (λ (k : Content). k.generation) same, ap (λ (k : Content). k.version) same))
    c.format.ensures.holds

-- a bank of the least size has room after a snapshot of nothing
leaves_room : (image : List ℕ) (other : ℕ) → HoldsAt 0 other image (begun NEWEST 1 (replicate 24 0)) → LeavesRoom image
leaves_room image other bank = λ d has.
    let same : kept_nothing 0 ≡ d = one_held image (kept_nothing 0) d (holding image other bank) has in
    subst (λ (k : PlainDurable). IsRoomy (bank_size (length image)) k) same (omega (arith, bank.size.least, nothing_long 0))

pub returns-clause-roomy : goal.returns-clause-roomy
returns-clause-roomy g c =
    let half = bank_size (length (g.D.Disk.seen c.args.disk.now)) in
    mapped c.format.result (λ all image is. leaves_room image half (all image is)) c.format.ensures.holds
