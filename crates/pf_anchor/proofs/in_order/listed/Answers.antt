use Rattle.std.proofs.Common.{◌≡◌, ◌≤◌, ◌<◌, ◌+◌, ℕ, Option, length, take, sym, ap, subst, ◌∙◌, arith}
use Rattle.std.specs.Option.{MatchOption}
use Rattle.pf_addr.specs.declared.path.limits.TheConstants.{DEPTH_LIMIT}
use Rattle.pf_anchor.specs.Known.{above_depth, placed_of}
use Rattle.pf_anchor.proofs.Listing.{none_yet, one_depth_more, too_many}
use Rattle.pf_anchor.proofs.in_order.listed.Goals as goal

pub loop-depth-init : goal.loop-depth-init
loop-depth-init c = record { few = omega arith; listed = none_yet c.args.config.now.rulesets }

pub loop-depth-preserved : goal.loop-depth-preserved
loop-depth-preserved c =
    let loop = c.loop-depth in
    record { few = c.in_ok-count.ensures.0; listed = one_depth_more _ _ loop.depth c.args.config.now.rulesets loop.invariant.listed c.in_ok-count.ensures.1 }

pub returns-in_err-count : goal.returns-in_err-count
returns-in_err-count c =
    let loop = c.loop-depth in
    let more = too_many loop.table loop.count loop.depth c.args.config.now.rulesets loop.invariant.few loop.invariant.listed c.in_err-count.ensures in
    let same = loop.auto.table in
    subst (λ (o : Option ℕ). MatchOption o (length c.args.table.now < length c.args.config.now.rulesets)
    (λ n. (n ≤ length c.list_at.new.table) × (placed_of (take n c.list_at.new.table) ≡ above_depth (DEPTH_LIMIT + 2) c.args.config.now.rulesets)))
    (sym c.from_residual.ensures) (omega (arith, more, same))

pub returns : goal.returns
returns c =
    let loop = c.loop-depth in
    let past = c.loop-depth-test.false in
    let last = loop.auto.depth-end in
    let end : loop.depth ≡ DEPTH_LIMIT + 2 = omega (arith, past, last) in
    (loop.invariant.few, loop.invariant.listed ∙ ap (λ (d : ℕ). above_depth d c.args.config.now.rulesets) end)
