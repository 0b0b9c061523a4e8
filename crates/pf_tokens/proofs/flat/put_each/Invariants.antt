use Rattle.std.proofs.Common.{◌≡◌, drop}
use Rattle.pf_tokens.specs.Flat.{put_each}
use Rattle.pf_tokens.proofs.flat.put_each.Given as goal

abbrev pub invariant-loop-part : goal.invariant-loop-part
invariant-loop-part l = put_each l.parts (l.fn.opened, l.fn.tokens) ≡ put_each (drop l.part-index l.parts) (l.opened, l.tokens)
