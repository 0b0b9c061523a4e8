-- Loads, one after another.
use Rattle.std.proofs.Common.{◌≡◌, ℕ, suc, ◌+◌, ◌-◌, ◌<◌, ◌≤◌, List, Result, Ok, Err, refl, ap, ◌∙◌, arith}
use Rattle.pf_tokens.specs.declared.files.File.{File}
use Rattle.pf_parse.specs.declared.parser.Mode.{Mode}
use Rattle.pf_values.specs.declared.interfaces.interface.Interface.{Interface}
use Rattle.pf_conf.specs.declared.{found.Found.Found, fault.Unread.Unread, fault.Unread.TheVariants.{Faulty, Needs, Memory}}
use Rattle.pf_conf.specs.{Telling.LeavesWanted, Resolving.{load_numbered, loads_from}}

pub loads_on : (files : List File) (interfaces : List Interface) (mode : Mode) (all i : ℕ) (s t : Found) (whole : Result Found Unread)
    → whole ≡ loads_from files interfaces mode i (all - i) s → i < all → load_numbered files interfaces mode i s ≡ Ok t
    → whole ≡ loads_from files interfaces mode (i + 1) (all - (i + 1)) t
unfolding loads_from
loads_on files interfaces mode all i s t whole known within is =
    let left : all - i ≡ suc (all - (i + 1)) = omega arith in
    known ∙ ap (λ (n : ℕ). loads_from files interfaces mode i n s) left ∙ rw is refl

load_fails : (files : List File) (interfaces : List Interface) (mode : Mode) (all i : ℕ) (s : Found) (e : Unread)
    (whole : Result Found Unread) → whole ≡ loads_from files interfaces mode i (all - i) s → i < all
    → load_numbered files interfaces mode i s ≡ Err e → whole ≡ Err e
unfolding loads_from
load_fails files interfaces mode all i s e whole known within is =
    let left : all - i ≡ suc (all - (i + 1)) = omega arith in
    known ∙ ap (λ (n : ℕ). loads_from files interfaces mode i n s) left ∙ rw is refl

pub loads_stop : (files : List File) (interfaces : List Interface) (mode : Mode) (all i : ℕ) (s t u : Found) (e : Unread)
    (whole : Result Found Unread) → whole ≡ loads_from files interfaces mode i (all - i) s → i < all
    → LeavesWanted (Err e) t (load_numbered files interfaces mode i s) → LeavesWanted (Err e) u whole
loads_stop files interfaces mode all i s t u (Faulty f) whole known within is = load_fails files interfaces mode all i s
    (Faulty f) whole known within is
loads_stop files interfaces mode all i s t u (Needs n) whole known within is = load_fails files interfaces mode all i s
    (Needs n) whole known within is
loads_stop files interfaces mode all i s t u Memory whole known within is = tt

pub loads_end : (files : List File) (interfaces : List Interface) (mode : Mode) (all i : ℕ) (s : Found) (whole : Result Found Unread)
    → whole ≡ loads_from files interfaces mode i (all - i) s → all ≤ i → whole ≡ Ok s
unfolding loads_from
loads_end files interfaces mode all i s whole known past =
    let none : all - i ≡ 0 = omega arith in
    known ∙ ap (λ (n : ℕ). loads_from files interfaces mode i n s) none
