use Rattle.std.proofs.Common.{◌≡◌, ◌-◌}
use Rattle.pf_tokens.specs.declared.files.TheConstants.{READING_LIMIT}
use Rattle.pf_conf.specs.Resolving.{loads_from}
use Rattle.pf_conf.proofs.found.Found.add_all_loads.Given as goal

abbrev pub invariant-loop-number : goal.invariant-loop-number
invariant-loop-number l = loads_from l.files l.interfaces l.mode 0 READING_LIMIT l.fn.self ≡ loads_from l.files l.interfaces l.mode l.number
    (READING_LIMIT - l.number) l.self
