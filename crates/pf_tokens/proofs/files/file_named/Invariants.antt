use Rattle.std.proofs.Common.{◌≡◌, drop}
use Rattle.pf_tokens.specs.Files.{file_from}
use Rattle.pf_tokens.proofs.files.file_named.Given as goal

abbrev pub invariant-loop-number : goal.invariant-loop-number
invariant-loop-number l = file_from 0 l.name l.files ≡ file_from l.number l.name (drop l.number l.files)
