use Rattle.std.proofs.{Common.{◌≡◌, ℕ, ◌<◌, ◌+◌, ◌-◌, [], List, length, sym, ap, ◌∙◌, arith}, lemmas.Result.err_from_is_err_and}
use Rattle.pf_lists.specs.declared.hosts.Host.{Host}
use Rattle.pf_parse.specs.Reading.{repeating}
use Rattle.pf_parse.specs.Lists.{item_more, listed_hosts, hosts_in}
use Rattle.pf_parse.proofs.Turns.{too_deep, hosts_stop, hosts_begun, turn_stops, stops_on, stops_at}
use Rattle.pf_parse.proofs.parser.Parser.+hosts.Goals as goal

pub host_list-returns-then-deep-eq0 : goal.host_list-returns-then-deep-eq0
host_list-returns-then-deep-eq0 t c =
    rw (c.refusal.ensures, c.place.ensures) (too_deep c.args.deep c.args.self.now (omega arith))

pub host_list-returns-in_err-begin_list : goal.host_list-returns-in_err-begin_list
host_list-returns-in_err-begin_list t c =
    let p = err_from_is_err_and c.from_residual.result c.from_residual.ensures.1 in
    let some : 0 < c.args.deep = omega arith in
    rw (p.1, p.2)
    (stops_at (Unit {0}) (List Host) c.in_err-begin_list.field-0.0 _ _ _ _ c.in_err-begin_list.ensures
    (λ d is. hosts_stop c.args.deep c.args.self.now d some (rw c.take.ensures at is)))

pub host_list-loop-init : goal.host_list-loop-init
host_list-loop-init t c =
    let all : c.turns-end.result - 0 ≡ length c.begin_list.new.self.left + 1 = omega arith in
    let some : 0 < c.args.deep = omega arith in
    rw c.new-hosts.ensures
    (ap (λ (n : ℕ). repeating (item_more (listed_hosts (hosts_in (c.args.deep - 1)))) n [] c.begin_list.new.self) all
    ∙ sym (hosts_begun c.args.deep c.args.self.now c.begin_list.new.self some (rw c.take.ensures at c.in_ok-begin_list.ensures)))

pub host_list-returns-in_err-hosts_more : goal.host_list-returns-in_err-hosts_more
host_list-returns-in_err-hosts_more t c =
    let p = err_from_is_err_and c.from_residual-in_err-hosts_more.result c.from_residual-in_err-hosts_more.ensures.1 in
    rw (p.1, p.2)
    (stops_on (List Host) c.in_err-hosts_more.field-0.0 _ _ _ _ _ c.in_err-hosts_more.ensures
    (λ d is. sym c.loop.invariant ∙ turn_stops (item_more (listed_hosts (hosts_in (c.args.deep - 1)))) c.turns-end.result c.loop.counter c.loop.hosts c.loop.self d (omega arith) is))
