use Rattle.std.proofs.Common.{◌≡◌, List, Option, Some, None, ◌∙◌, sym, subst}
use Rattle.pf_addr.specs.Address.{family_of}
use Rattle.pf_trie.specs.{declared.found.Found.{Found}, Prefixes.Finds}
use Rattle.pf_table.specs.{Entries.PlainEntry, Indexed.{AreIn, signs, wide_number}}
use Rattle.pf_table.proofs.TrieSigns.{none_found, found_within, found_decides}
use Rattle.pf_table.proofs.indexed.Indexed.decider.Goals as goal

pub returns-in_err-found : goal.returns-in_err-found
returns-in_err-found g c =
    let are = subst (λ (l : List PlainEntry). AreIn g.T.PrefixIndex.has l c.self.inside.tries.v4 c.self.inside.tries.v6) c.self.view_is c.self.invariant in
    let finds : Finds (signs c.args.self.now (family_of c.args.addr)) 0 129 (wide_number c.args.addr) None =
    subst (λ (o : Option Found). Finds (signs c.args.self.now (family_of c.args.addr)) 0 129 (wide_number c.args.addr) o) c.in_err-found.was (c.longest.ensures c.args.self.now are) in
    c.from_residual.ensures ∙ sym (none_found c.args.self.now c.args.addr c.requires.sorted c.requires.networks finds.none)

pub new-net-requires : goal.new-net-requires
new-net-requires g c =
    let are = subst (λ (l : List PlainEntry). AreIn g.T.PrefixIndex.has l c.self.inside.tries.v4 c.self.inside.tries.v6) c.self.view_is c.self.invariant in
    let finds : Finds (signs c.args.self.now (family_of c.args.addr)) 0 129 (wide_number c.args.addr) (Some c.in_ok-found.found) =
    subst (λ (o : Option Found). Finds (signs c.args.self.now (family_of c.args.addr)) 0 129 (wide_number c.args.addr) o) c.in_ok-found.was (c.longest.ensures c.args.self.now are) in
    found_within c.args.self.now c.args.addr c.requires.sorted c.requires.networks c.in_ok-found.found finds

pub returns : goal.returns
returns g c =
    let are = subst (λ (l : List PlainEntry). AreIn g.T.PrefixIndex.has l c.self.inside.tries.v4 c.self.inside.tries.v6) c.self.view_is c.self.invariant in
    let finds : Finds (signs c.args.self.now (family_of c.args.addr)) 0 129 (wide_number c.args.addr) (Some c.in_ok-found.found) =
    subst (λ (o : Option Found). Finds (signs c.args.self.now (family_of c.args.addr)) 0 129 (wide_number c.args.addr) o) c.in_ok-found.was (c.longest.ensures c.args.self.now are) in
    (λ i. Some (c.new.ensures i)) ∙ (λ i. Some (c.new-net.ensures i, c.in_ok-found.found.sign))
    ∙ sym (found_decides c.args.self.now c.args.addr c.requires.sorted c.requires.networks c.in_ok-found.found finds)
