-- Only equal names tie.
use Rattle.std.proofs.{Common.{◌≡◌, true, ap, subst}, lemmas.Cmp.tied_itself}
use Rattle.std.specs.{Ordering.{is_eq, eq_by_cmp}}
use Rattle.pf_state.specs.declared.state.StateName.{StateName}
use Rattle.pf_state.specs.{Orders.{name_total, name_alike}, States.name_order}
use Rattle.pf_map.proofs.Tests.{equal_of}

-- the test of names says whether they are one
pub one_name : (a b : StateName) → eq_by_cmp name_order a b ≡ true → a ≡ b
one_name a b e = name_alike a b (equal_of (name_order a b) e)

pub same_itself : (a : StateName) → eq_by_cmp name_order a a ≡ true
same_itself a = ap is_eq (tied_itself name_total a)

pub same_name : (a b : StateName) → a ≡ b → eq_by_cmp name_order a b ≡ true
same_name a b e = subst (λ n. eq_by_cmp name_order a n ≡ true) e (same_itself a)
