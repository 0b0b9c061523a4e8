use Rattle.std.proofs.Common.{T, List, ℕ, sym, ap, subst, ◌∙◌}
use Rattle.std.specs.FinMap.{is_sorted}
use Rattle.pf_addr.specs.Path.Paths.{same_path}
use Rattle.pf_anchor.specs.{Rulesets.PlainPlaced, Known.{depth_order, given, ruleset_gives}}
use Rattle.pf_anchor.proofs.{EachKnown.main_given, Listing.all_listed}
use Rattle.pf_anchor.proofs.in_order.evaluate_in.Goals as goal

pub evaluate_each-requires-clause-listed : goal.evaluate_each-requires-clause-listed
evaluate_each-requires-clause-listed c = all_listed c.args.config.now.rulesets _ c.requires.map.sorted c.in_ok-count.ensures.1

pub given_at-requires : goal.given_at-requires
given_at-requires c =
    subst (λ (es : List PlainPlaced). T (is_sorted depth_order es)) (sym c.evaluate_each.ensures.same) (all_listed c.args.config.now.rulesets _ c.requires.map.sorted c.in_ok-count.ensures.1).sorted

pub returns : goal.returns
returns c =
    c.given_at.ensures ∙ ap (λ (p : List ℕ). given (same_path p) c.evaluate_each.new.table) c.main.ensures
    ∙ main_given (ruleset_gives c.args.config.now c.args.packet.now) c.args.config.now.rulesets _ c.evaluate_each.new.table (all_listed c.args.config.now.rulesets _ c.requires.map.sorted c.in_ok-count.ensures.1)
    c.evaluate_each.ensures.same c.evaluate_each.ensures.given
