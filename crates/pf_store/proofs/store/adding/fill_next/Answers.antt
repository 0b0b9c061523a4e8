use Rattle.std.proofs.Common.{refl, ◌≡◌, ◌+◌, ◌++◌, [], ◌∷◌, length, sym, ◌∙◌, ap, arith}
use Rattle.std.specs.Prelude.{Result, Ok, Err, OnOk}
use Rattle.pf_snap.specs.{Banks.front, declared.header.TheConstants.NEWEST}
use Rattle.pf_store.specs.{Lengths.snapshot_length, Snapshots.IsBankOf}
use Rattle.pf_store.proofs.{Allowing.newest_allows, Preparing.{bank_of, bank_long}}
use Rattle.pf_store.proofs.store.adding.fill_next.Goals as goal

mapped : {A E P Q : Type 0} (r : Result A E) → (P → Q) → OnOk r P → OnOk r Q
mapped (Ok x) f p = f p
mapped (Err e) f p = tt

-- when the gate is appended, the bank's length is that of a snapshot
so_long : (c : goal.After-close) → c.start.new.self.length ≡ snapshot_length c.args.durable.now
so_long c = omega (arith, c.in_ok-start.ensures.long, c.byte_length-length.ensures.exact NEWEST refl, c.requires.fits)

made : (c : goal.After-close) → c.close.new.self.after_gate.items ≡ c.push_snapshot.new.out.items ++ 0 ∷ [] → IsBankOf c.args.generation c.close.new.self c.args.durable.now
made c closed =
    bank_of c.args.generation c.args.durable.now c.close.new.self c.start.new.self.length c.start.new.self.after_gate.items c.push_snapshot.new.out.items (so_long c)
    (c.in_ok-start.ensures.front ∙ ap (front NEWEST (c.args.generation + 1)) (sym c.in_ok-start.ensures.long)) c.in_ok-push_snapshot.ensures closed c.close.ensures.same_length

-- the newest version allows all
pub push_snapshot-requires-clause-allowed : goal.push_snapshot-requires-clause-allowed
push_snapshot-requires-clause-allowed c = newest_allows c.args.durable.now

pub returns-clause-made : goal.returns-clause-made
returns-clause-made c = mapped c.close.result (made c) c.close.ensures.closed

pub returns-clause-all : goal.returns-clause-all
returns-clause-all c =
    mapped c.close.result (λ closed. bank_long c.args.generation c.args.durable.now c.close.new.self (made c closed)) c.close.ensures.closed

pub returns-clause-long : goal.returns-clause-long
returns-clause-long c = mapped c.close.result (λ closed. c.close.ensures.same_length ∙ so_long c) c.close.ensures.closed
