use Rattle.std.proofs.Common.{◌≡◌, drop}
use Rattle.pf_sources.specs.{Steps.each, Sources.{with_source, before_sources}}
use Rattle.pf_sources.proofs.sources.gather.Given as goal

abbrev pub invariant-loop-source : goal.invariant-loop-source
invariant-loop-source l = each (with_source l.files l.named) l.sources (before_sources l.files_read) ≡ each (with_source l.files l.named) (drop l.source-index l.sources) l.gathered
