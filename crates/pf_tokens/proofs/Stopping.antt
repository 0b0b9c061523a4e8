-- What functions give where they stop, and where one step follows another.
use Rattle.std.proofs.Common.{◌≡◌, Result, Err}
use Rattle.std.specs.Result.{IsErrAnd}
use Rattle.std.proofs.lemmas.Result.{err_from_is_err_and}
use Rattle.pf_tokens.specs.declared.fault.{TokenStop.TokenStop, TokenStop.TheVariants.{Faulty, Needs, Memory}}
use Rattle.pf_tokens.specs.Stops.{Gives, Leaves}

-- ---- a step's stop is the whole's

pub gives_stop : {A B : Type 0} (e : TokenStop) (r : Result A TokenStop) (wanted : Result B TokenStop) → Gives (Err e) r → ((d : TokenStop) → r ≡ Err d → wanted ≡ Err d) → Gives (Err e) wanted
gives_stop (Faulty x) r wanted is step = step (Faulty x) is
gives_stop (Needs x) r wanted is step = step (Needs x) is
gives_stop Memory r wanted is step = tt

-- the same of what `?` returns
pub stopped_by : {A B : Type 0} (result : Result B TokenStop) (e : TokenStop) (r : Result A TokenStop) (wanted : Result B TokenStop) → IsErrAnd result (λ d. d ≡ e) → Gives (Err e) r → ((d : TokenStop) → r ≡ Err d → wanted ≡ Err d) → Gives result wanted
stopped_by result e r wanted is gives step =
    let p = err_from_is_err_and result is in
    rw (p.1, p.2) (gives_stop e r wanted gives step)

pub gives_left : {A C : Type 0} (B : Type 0) (e : TokenStop) (x : A) (r : Result A TokenStop) (wanted : Result C TokenStop) → Leaves {B = B} (Err e) x r → ((d : TokenStop) → r ≡ Err d → wanted ≡ Err d) → Gives (Err e) wanted
gives_left B (Faulty f) x r wanted is step = step (Faulty f) is
gives_left B (Needs f) x r wanted is step = step (Needs f) is
gives_left B Memory x r wanted is step = tt

pub leaves_stop : {A C : Type 0} (B D : Type 0) (e : TokenStop) (x : A) (y : C) (r : Result A TokenStop) (wanted : Result C TokenStop) → Leaves {B = B} (Err e) x r → ((d : TokenStop) → r ≡ Err d → wanted ≡ Err d) → Leaves {B = D} (Err e) y wanted
leaves_stop B D (Faulty f) x y r wanted is step = step (Faulty f) is
leaves_stop B D (Needs f) x y r wanted is step = step (Needs f) is
leaves_stop B D Memory x y r wanted is step = tt
