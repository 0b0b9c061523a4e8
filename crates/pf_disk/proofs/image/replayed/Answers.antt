use Rattle.std.proofs.Common.{◌≡◌, true, ℕ, length, map, take, sym, ◌∙◌, ap, subst}
use Rattle.pf_disk.specs.{Calls.{State, at_rest, after, fits_in}, Filled.Shows, Kept.event_of}
use Rattle.pf_disk.proofs.{Calls.size-after, Replaying.{fit_at, after-more}}
use Rattle.pf_disk.proofs.image.replayed.Goals as goal

pub apply-requires : goal.apply-requires
apply-requires c =
    let inv = c.loop-call.invariant in
    let x = c.call-item.result in
    let i = c.loop-call.call-index in
    let s = after (at_rest c.args.first.now) (map event_of (take i c.args.calls.now)) in
    let fits : fits_in (length c.args.first.now) (event_of x) ≡ true = ap (λ call. fits_in (length c.args.first.now) (event_of call)) c.call-item.is ∙ fit_at (length c.args.first.now) c.args.calls.now i x c.requires c.loop-call-test.true in
    (s, inv.shows, ap (λ (n : ℕ). fits_in n (event_of x)) inv.size ∙ fits)

pub loop-call-preserved : goal.loop-call-preserved
loop-call-preserved c =
    let inv = c.loop-call.invariant in
    let x = c.call-item.result in
    let i = c.loop-call.call-index in
    let s = after (at_rest c.args.first.now) (map event_of (take i c.args.calls.now)) in
    let fits : fits_in (length s.seen) (event_of x) ≡ true = ap (λ (n : ℕ). fits_in n (event_of x)) inv.size ∙ ap (λ call. fits_in (length c.args.first.now) (event_of call)) c.call-item.is ∙ fit_at (length c.args.first.now) c.args.calls.now i x c.requires c.loop-call-test.true in
    let next = after-more (at_rest c.args.first.now) c.args.calls.now i x c.loop-call-test.true c.call-item.is in
    record {
      shows = subst (λ (t : State). Shows c.apply.new.self t) (sym next) (c.apply.ensures s inv.shows fits);
      size = ap (λ (t : State). length t.seen) next ∙ size-after s (event_of x) fits ∙ inv.size;
    }
