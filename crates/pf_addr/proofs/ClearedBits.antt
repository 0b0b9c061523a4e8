-- A number begins with a network's front exactly where clearing its other bits gives the network's number.
use Rattle.std.proofs.{Common.{◌≡◌, ℕ, ◌*◌, ◌/◌, ◌^◌, ◌==◌, sym, ap, ◌∙◌}, lemmas.Bool.Decides.{Decides-eqb, Decides-like, same_from_decides}}
use Rattle.pf_addr.specs.declared.net.Net.TheInside.{Inside}
use Rattle.pf_addr.specs.Nets.{IsWithin, host_bits, network_in, filled}

pub begins_where : (x : Inside) (k n r : ℕ) → IsWithin x → host_bits x ≡ k → r ≡ n / 2 ^ k * 2 ^ k → r / 2 ^ k ≡ n / 2 ^ k → (r == x.number) ≡ (n / 2 ^ k == (network_in x).front)
begins_where x k n r is host value front =
    let whole : (network_in x).front * 2 ^ k ≡ x.number = ap (λ (j : ℕ). (network_in x).front * 2 ^ j) (sym host) ∙ filled x is in
    let own : x.number / 2 ^ k ≡ (network_in x).front = ap (λ (j : ℕ). x.number / 2 ^ j) (sym host) in
    same_from_decides (r == x.number) (n / 2 ^ k == (network_in x).front)
    (Decides-like (r == x.number) (λ same. sym front ∙ ap (λ (m : ℕ). m / 2 ^ k) same ∙ own) (λ same. value ∙ ap (λ (m : ℕ). m * 2 ^ k) same ∙ whole) (Decides-eqb r x.number))
    (Decides-eqb (n / 2 ^ k) (network_in x).front)
