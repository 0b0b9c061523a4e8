use Rattle.std.proofs.Common.{◌≡◌, ℕ, ◌+◌, List, length, get_or, sym, ◌∙◌, ap, subst}
use Rattle.pf_journal.specs.Records.{region, IsFront, StandsFor, contents}
use Rattle.pf_snap.specs.Banks.{bank_size}
use Rattle.pf_snap.proofs.{Places.inside, Finding.{long, snapshot_found, not_held}}
use Rattle.pf_snap.proofs.looking.look_after_header.Goals as goal

pub returns-clause-found : goal.returns-clause-found
returns-clause-found g c =
    let d = g.D.Disk in
    let r = c.requires in
    let seen = d.seen c.args.disk.now in
    let same : d.seen c.read_region.new.disk ≡ seen = c.read_region.ensures.reads.seen in
    let at = c.args.counting.at in
    let h = c.args.counting.header in
    let s = c.in_ok-snapshot.snapshot.items in
    let found = c.in_ok-found.field-0.found in
    let ps = contents found.payloads.items in
    let within = inside (length seen) at c.args.counting.other r.places in
    let len = long seen at h.version h.generation h.length s within r.header c.in_ok-snapshot.ensures.bytes in
    let open_there = c.in_ok-found.ensures.open in
    let front = snapshot_found seen at h.version h.generation h.length s within r.header c.in_ok-snapshot.ensures.bytes in
    record {
      size = r.device;
      places = r.places;
      counts = r.counts;
      other = r.other;
      early = r.early;
      front = front;
      whole = subst (λ (k : ℕ). IsFront (region (at + 24 + k) (at + bank_size (length seen)) seen) ps) (sym len)
          (subst (λ (k : ℕ). IsFront (region (at + 24 + h.length) (at + k) seen) ps) r.size
          (subst (λ (l : List ℕ). IsFront (region (at + 24 + h.length) (at + c.args.size) l) ps) same c.in_ok-found.ensures.front));
      start = ap (λ (k : ℕ). at + 24 + k) (sym len);
      gate = c.in_ok-found.ensures.gate;
      broken = (λ is. ap (λ (l : List ℕ). get_or l found.gate 0) (sym same) ∙ open_there.0 is, λ is. open_there.1 (ap (λ (l : List ℕ). get_or l found.gate 0) same ∙ is));
      holds = λ broken. record {
        size = r.device;
        banks = r.places;
        counts = r.counts;
        bank = record {
          front = front;
          records = subst (λ (k : ℕ). StandsFor (at + 24 + k) (at + bank_size (length seen)) seen ps) (sym len)
              (subst (λ (k : ℕ). StandsFor (at + 24 + h.length) (at + k) seen ps) r.size
              (subst (λ (l : List ℕ). StandsFor (at + 24 + h.length) (at + c.args.size) l ps) same (c.in_ok-found.ensures.whole broken)));
        };
      };
      none = λ broken. not_held seen at c.args.counting.other h.version h.generation h.length r.device r.places r.counts r.header
          (λ ps stands. c.in_ok-found.ensures.broken broken ps
          (subst (λ (l : List ℕ). StandsFor (at + 24 + h.length) (at + c.args.size) l ps) (sym same) (subst (λ (k : ℕ). StandsFor (at + 24 + h.length) (at + k) seen ps) (sym r.size) stands)));
    }
