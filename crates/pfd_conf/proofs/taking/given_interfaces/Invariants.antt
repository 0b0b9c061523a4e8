use Rattle.std.proofs.Common.{◌≡◌, [], drop, map}
use denote.Ref.{Bor}
use Rattle.pf_parse.specs.Reading.{Word}
use Rattle.pfd_conf.specs.Taking.{interfaces_given}
use Rattle.pfd_conf.proofs.taking.given_interfaces.Given as goal

abbrev pub invariant-loop-text : goal.invariant-loop-text
invariant-loop-text l =
    interfaces_given [] (map (λ (t : Bor Word). t.now) l.texts)
    ≡ interfaces_given l.interfaces (map (λ (t : Bor Word). t.now) (drop l.text-index l.texts))
