use Rattle.std.proofs.{Common.{◌≡◌, rules}, lemmas.Fn.always_returns_same}
use Rattle.std.specs.List.Sorted.{IsBinarySearchResult}
use Rattle.pf_ticket.specs.Names.{ruleset_order}
use Rattle.pf_ticket.proofs.Offers.{place_found, gap_found}
use Rattle.pf_ticket.proofs.slots.place_of.Goals as goal

searched : (c : goal.After-binary_search_by) → IsBinarySearchResult (λ e. ruleset_order e.0 c.args.name.now) c.args.slots.now c.binary_search_by.result
searched c = c.binary_search_by.ensures.position (λ e. ruleset_order e.0 c.args.name.now) (always_returns_same _ (λ a r. r ≡ ruleset_order a.0.now.0 c.args.name.now) _ (λ a r f' k. search rules))

pub returns-clause-known : goal.returns-clause-known
returns-clause-known c = place_found c.args.name.now c.args.slots.now c.binary_search_by.result c.requires c.binary_search_by.ensures.bound (searched c)

pub returns-clause-unknown : goal.returns-clause-unknown
returns-clause-unknown c = gap_found c.args.name.now c.args.slots.now c.binary_search_by.result c.requires c.binary_search_by.ensures.bound (searched c)
