use Rattle.std.proofs.{Common.{◌≡◌, List, ℕ, length, map, take, sym, ◌∙◌, ap, subst}, lemmas.List.take-map}
use Rattle.pf_disk.specs.{Kept.event_of, Calls.{State, at_rest, after, all_fit, state_at}, Filled.Shows}
use Rattle.pf_disk.proofs.Replaying.{all_fit-take, size-after_all}
use Rattle.pf_disk.proofs.memory.MemDisk.replay.Goals as goal

pub replayed-requires : goal.replayed-requires
replayed-requires c =
    let m = c.args.self.now in
    let n = c.counting-count.result in
    let calls : map event_of (take n c.deref-2.result.now) ≡ take n (map event_of m.calls.items) = ap (λ l. map event_of (take n l)) c.deref-2.ensures.value ∙ sym (take-map event_of n m.calls.items) in
    ap (λ (l : List ℕ). all_fit (length l) (map event_of (take n c.deref-2.result.now))) c.deref.ensures.value ∙ ap (all_fit (length m.first.items)) calls
    ∙ all_fit-take (length m.first.items) (map event_of m.calls.items) n m.calls_fit

pub returns-clause-shows : goal.returns-clause-shows
returns-clause-shows c =
    let m = c.args.self.now in
    let n = c.counting-count.result in
    let calls : map event_of (take n c.deref-2.result.now) ≡ take n (map event_of m.calls.items) = ap (λ l. map event_of (take n l)) c.deref-2.ensures.value ∙ sym (take-map event_of n m.calls.items) in
    let state : after (at_rest c.deref.result.now) (map event_of (take n c.deref-2.result.now)) ≡ state_at m.first.items (map event_of m.calls.items) c.args.moment =
    ap (λ (l : List ℕ). after (at_rest l) (map event_of (take n c.deref-2.result.now))) c.deref.ensures.value ∙ ap (after (at_rest m.first.items)) (calls ∙ c.counting-count.ensures.is) in
    subst (λ (s : State). Shows c.in_ok-replay.replay s) state c.in_ok-replay.ensures

pub returns-clause-size : goal.returns-clause-size
returns-clause-size c =
    let m = c.args.self.now in
    let n = c.counting-count.result in
    let calls : map event_of (take n c.deref-2.result.now) ≡ take n (map event_of m.calls.items) = ap (λ l. map event_of (take n l)) c.deref-2.ensures.value ∙ sym (take-map event_of n m.calls.items) in
    ap length c.in_ok-replay.ensures.seen ∙ ap (λ (l : List ℕ). length (after (at_rest l) (map event_of (take n c.deref-2.result.now))).seen) c.deref.ensures.value
    ∙ ap (λ l. length (after (at_rest m.first.items) l).seen) calls ∙ size-after_all (at_rest m.first.items) (take n (map event_of m.calls.items)) (all_fit-take (length m.first.items) (map event_of m.calls.items) n m.calls_fit) ∙ sym m.size_is
