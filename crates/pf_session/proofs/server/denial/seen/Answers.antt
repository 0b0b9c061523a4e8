use Rattle.std.proofs.Common.{◌⊎◌, inl, inr, ℕ, ◌<◌, ◌≤◌, length, sym, arith}
use Rattle.std.proofs.lemmas.List.{take_all}
use Rattle.pf_session.proofs.server.denial.seen.Goals as goal

short : (n : ℕ) → (4097 < 0) ⊎ (n < 4097) → n ≤ 4097
short n (inl none) = omega arith
short n (inr few) = omega arith

pub returns-in-None : goal.returns-in-None
returns-in-None c = sym (take_all 4097 c.args.line.now (short (length c.args.line.now) c.in-None.ensures.lookup.0))
