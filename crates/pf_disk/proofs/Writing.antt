-- Calls that may write, one after the other.
use Rattle.std.proofs.Common.{◌≡◌, inl, inr, ⊎_elim, ℕ, ◌+◌, ◌≤◌, Bool, false, cond, List, length, refl, ◌∙◌, sym, subst, arith, Result, Ok, Err}
use Rattle.std.specs.Prelude.{is_err}
use Rattle.pf_disk.specs.{Disk.{CountsFault, Elapses, IsImage}, Runs.MayWrite, declared.disk.Disk.Ghosts}

-- what is read is an image
pub read_is : (seen : List ℕ) (set : ℕ → Bool) → IsImage seen set seen
read_is seen set = record { same_length = refl; agrees = λ i out. refl }

-- nothing was called
pub unmoved : {D : Type 0} (device : Ghosts D) (old : D) {most : ℕ} {P : List ℕ → Type 0} → ((c : List ℕ) → device.left_since old (device.moment old) c → IsImage (device.seen old) (device.unsynced old) c)
    → ((c : List ℕ) → IsImage (device.seen old) (device.unsynced old) c → P c) → MayWrite device old old most false P
unmoved device old only here = record {
  any_moment = record { later = omega arith; each = λ c left. here c (only c left); before = λ t c le left. inl left };
  read = here (device.seen old) (read_is (device.seen old) (device.unsynced old));
  same_size = refl;
  moments = omega arith;
  faults = omega arith;
}

module _ {D : Type 0} {device : Ghosts D} where
  -- the same, said in another layer's words
  pub weakened : {old new : D} {most : ℕ} {failed : Bool} {P Q : List ℕ → Type 0} → MayWrite device old new most failed P → ((c : List ℕ) → P c → Q c) → MayWrite device old new most failed Q
  weakened {old = old} {new = new} {P = P} {Q = Q} run tells =
      let each : (c : List ℕ) → device.left_since new (device.moment old) c → Q c = λ c left. tells c (run.any_moment.each c left) in
      record {
        any_moment = record { later = run.any_moment.later; each = each; before = λ t c le left. ⊎_elim (λ was. inl was) (λ p. inr (tells c p)) (run.any_moment.before t c le left) };
        read = tells (device.seen new) run.read;
        same_size = run.same_size;
        moments = run.moments;
        faults = run.faults;
      }

  -- one run after another
  pub and_then : {old mid new : D} {m n most : ℕ} {failed : Bool} {P : List ℕ → Type 0} → MayWrite device old mid m false P → MayWrite device mid new n failed P → m + n ≤ most
      → MayWrite device old new most failed P
  and_then {old = old} first second few = record {
    any_moment = record {
      later = omega (arith, first.any_moment.later, second.any_moment.later);
      each = λ c left. ⊎_elim (first.any_moment.each c) (λ p. p) (second.any_moment.before (device.moment old) c first.any_moment.later left);
      before = λ t c le left. ⊎_elim (first.any_moment.before t c le) (λ p. inr p) (second.any_moment.before t c (omega (arith, le, first.any_moment.later)) left);
    };
    read = second.read;
    same_size = second.same_size ∙ first.same_size;
    moments = omega (arith, first.moments, second.moments, few);
    faults = omega (arith, first.faults, second.faults);
  }

  -- a bound that is wider
  pub at_most : {old new : D} {m most : ℕ} {failed : Bool} {P : List ℕ → Type 0} → MayWrite device old new m failed P → m ≤ most → MayWrite device old new most failed P
  at_most run few = record { any_moment = run.any_moment; read = run.read; same_size = run.same_size; moments = omega (arith, run.moments, few); faults = run.faults }

  -- whether a call failed, by what is known of that
  pub failed_as : {old new : D} {most : ℕ} {failed was : Bool} {P : List ℕ → Type 0} → failed ≡ was → MayWrite device old new most was P → MayWrite device old new most failed P
  failed_as {old = old} {new = new} {most = most} {P = P} is run = subst (λ (f : Bool). MayWrite device old new most f P) (sym is) run

-- one call of the device
pub called : {D : Type 0} (device : Ghosts D) (old new : D) {T E : Type 0} {P : List ℕ → Type 0} (result : Result T E) → ((c : List ℕ) → device.left_since old (device.moment old) c → IsImage (device.seen old) (device.unsynced old) c)
    → Elapses (device.moment old) (device.moment new) (device.left_since old) (device.left_since new) (device.seen new) (device.unsynced new) → CountsFault result (device.fault_count old) (device.fault_count new)
    → length (device.seen new) ≡ length (device.seen old) → ((c : List ℕ) → IsImage (device.seen old) (device.unsynced old) c → P c) → ((c : List ℕ) → IsImage (device.seen new) (device.unsynced new) c → P c)
    → MayWrite device old new 1 (is_err result) P
called device old new result only time counts same was is = record {
  any_moment = record {
    later = time.later;
    each = λ c left. ⊎_elim (λ before. was c (only c before)) (is c) (time.nothing_else (device.moment old) c (omega arith) left);
    before = λ t c le left. ⊎_elim (λ before. inl before) (λ now. inr (is c now)) (time.nothing_else t c le left);
  };
  read = is (device.seen new) (read_is (device.seen new) (device.unsynced new));
  same_size = same;
  moments = time.one_call;
  faults = counted result counts;
} where
  counted : {A B : Type 0} (r : Result A B) → CountsFault r (device.fault_count old) (device.fault_count new) → device.fault_count new ≡ device.fault_count old + cond (is_err r) 1 0
  counted (Ok x) is = omega (arith, is)
  counted (Err e) is = is
