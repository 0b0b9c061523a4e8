-- What laws say of readers that go on as long as more follows (pf.conf(5), GRAMMAR).
use Rattle.std.specs.Prelude.{◌≡◌, ◌<◌, ℕ, Bool, length}
use Rattle.pf_parse.specs.States.{State}
use Rattle.pf_parse.specs.Reading.{Reads, repeating, repeated}

-- With more turns than tokens are left, it is the same however many there are.
abbrev pub TurnsSuffice : {A : Type 0} → (A → Reads (A × Bool)) → Type 0
TurnsSuffice {A} again = (x : A) (s : State) (turns : ℕ) → length s.left < turns → repeating again turns x s ≡ repeated again x s
