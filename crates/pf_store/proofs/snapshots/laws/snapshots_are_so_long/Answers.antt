use Rattle.std.proofs.{Common.{◌+◌, ap, ◌∙◌}, lemmas.Bool.and_parts}
use Rattle.pf_anchor.specs.Forms.{allows_config}
use Rattle.pf_core.specs.Durable.Forms.{allows_ticks}
use Rattle.pf_store.proofs.{Allowing.durable_allowed, Sized.{newest_long, older_long, snapshot_long}}
use Rattle.pf_store.proofs.snapshots.laws.snapshots_are_so_long.Goals as goal

pub returns-clause-own : goal.returns-clause-own
returns-clause-own c = λ version d bytes is. snapshot_long version d bytes is

pub returns-clause-newest : goal.returns-clause-newest
returns-clause-newest c = λ version d bytes is new.
    let all = (and_parts (allows_config version d.config) (allows_ticks version d) (durable_allowed version d bytes is)).0 in
    snapshot_long version d bytes is ∙ newest_long version d all new

pub returns-clause-older : goal.returns-clause-older
returns-clause-older c = λ version d bytes is old.
    let all = (and_parts (allows_config version d.config) (allows_ticks version d) (durable_allowed version d bytes is)).0 in
    ap (λ n. n + 8) (snapshot_long version d bytes is) ∙ older_long version d all old
