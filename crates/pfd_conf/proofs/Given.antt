-- Interfaces as they are given, one after another.
use Rattle.std.proofs.{Common.{◌≡◌, ℕ, ◌+◌, ◌<◌, ◌≤◌, List, [], length, get_or, drop, map, Result, Ok, Err, refl, ap, ◌∙◌}, lemmas.List.{drop_all, drop_more}}
use denote.Ref.{Bor}
use Rattle.pf_parse.specs.Reading.{Word}
use Rattle.pf_values.specs.declared.interfaces.interface.Interface.{Interface}
use Rattle.pf_values.specs.Interfaces.Interfaces.{interface_of}
use Rattle.pfd_conf.specs.declared.fault.Fault.{Fault}
use Rattle.pfd_conf.specs.declared.fault.Fault.TheVariants as faults
use Rattle.pfd_conf.specs.Taking.{with_given, interfaces_given, AreGiven}

abbrev pub bytes_of : List (Bor Word) → List Word
bytes_of = map (λ (t : Bor Word). t.now)

abbrev All : Type 0
All = Result (List Interface) Word

pub given_on : (texts : List (Bor Word)) (i : ℕ) (d : Bor Word) (is more : List Interface) (whole : All) →
    whole ≡ interfaces_given is (bytes_of (drop i texts)) → i < length texts →
    with_given is (get_or texts i d).now (interface_of (get_or texts i d).now) ≡ Ok more →
    whole ≡ interfaces_given more (bytes_of (drop (i + 1) texts))
unfolding interfaces_given
given_on texts i d is more whole known within done =
    known ∙ ap (λ (ts : List (Bor Word)). interfaces_given is (bytes_of ts)) (drop_more texts i d within) ∙ rw done refl

given_fails : (texts : List (Bor Word)) (i : ℕ) (d : Bor Word) (is : List Interface) (wrong : Word) (whole : All) →
    whole ≡ interfaces_given is (bytes_of (drop i texts)) → i < length texts →
    with_given is (get_or texts i d).now (interface_of (get_or texts i d).now) ≡ Err wrong → whole ≡ Err wrong
unfolding interfaces_given
given_fails texts i d is wrong whole known within done =
    known ∙ ap (λ (ts : List (Bor Word)). interfaces_given is (bytes_of ts)) (drop_more texts i d within) ∙ rw done refl

pub given_stops : (texts : List (Bor Word)) (i : ℕ) (d : Bor Word) (is : List Interface) (f : Fault) (whole : All) →
    whole ≡ interfaces_given is (bytes_of (drop i texts)) → i < length texts →
    AreGiven (with_given is (get_or texts i d).now (interface_of (get_or texts i d).now)) (Err f) → AreGiven whole (Err f)
given_stops texts i d is (faults.Interface wrong) whole known within done = given_fails texts i d is wrong whole known within done
given_stops texts i d is faults.Memory whole known within done = tt
given_stops texts i d is (faults.Conf x) whole known within done = absurd done
given_stops texts i d is (faults.Unread x) whole known within done = absurd done
given_stops texts i d is (faults.LongCases x) whole known within done = absurd done
given_stops texts i d is (faults.Case x y z) whole known within done = absurd done
given_stops texts i d is (faults.Packet x) whole known within done = absurd done
given_stops texts i d is (faults.Anchor x) whole known within done = absurd done
given_stops texts i d is (faults.Unwritten x) whole known within done = absurd done
given_stops texts i d is faults.Output whole known within done = absurd done

pub given_end : (texts : List (Bor Word)) (i : ℕ) (is : List Interface) (whole : All) →
    whole ≡ interfaces_given is (bytes_of (drop i texts)) → length texts ≤ i → whole ≡ Ok is
unfolding interfaces_given
given_end texts i is whole known past = known ∙ ap (λ (ts : List (Bor Word)). interfaces_given is (bytes_of ts)) (drop_all i texts past)
