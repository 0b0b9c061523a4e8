-- Why a packet has its verdict, as it is told.
use Rattle.std.proofs.Common.{◌≡◌, ℕ, List, Option, Result, Ok, Err, sym, subst}
use Rattle.std.specs.{Prelude.IfErr, Io.KnownBytes.{Appends, Keeps}}
use Rattle.pf_addr.specs.Writing.{WritesFront, Appends-kept}
use Rattle.pf_form.specs.Form.Words.{words_of}
use Rattle.pf_rule.specs.{Packets.PlainPacket, PacketGrammar.packet, Refusals.reading}
use Rattle.pfd_conf.specs.declared.case.trace.Traced.{Traced}
use Rattle.pfd_conf.specs.Case.Matches.{IsTrace}
use Rattle.pfd_conf.specs.declared.{firewall.Firewall.Firewall, fault.Fault.Fault}
use Rattle.pfd_conf.specs.declared.fault.Fault.TheVariants as faults
use Rattle.pfd_conf.specs.Explaining.{IsExplained, explained_text}
use Rattle.pfd_conf.proofs.Texts.{kept_front}

output_stops : (f : Firewall) (text : List ℕ) (e : Fault) (p : PlainPacket) (t : Traced) (old new : Option (List ℕ)) → e ≡ faults.Output →
    reading packet (words_of text) ≡ Ok p → IsTrace f.config p t → WritesFront old new (explained_text f p t) →
    IsExplained f text (Err e) old new
output_stops f text e p t old new is read trace front =
    subst (λ (x : Fault). IsExplained f text (Err x) old new) (sym is) (p, t, read, trace, front)

-- writing stopped
pub stops_explaining : (f : Firewall) (text : List ℕ) (r : Result (Unit {0}) Fault) (e : Fault) (p : PlainPacket) (t : Traced)
    (old new : Option (List ℕ)) → r ≡ Err e → e ≡ faults.Output → reading packet (words_of text) ≡ Ok p → IsTrace f.config p t →
    WritesFront old new (explained_text f p t) → IsExplained f text r old new
stops_explaining f text r e p t old new result is read trace front =
    subst (λ (x : Result (Unit {0}) Fault). IsExplained f text x old new) (sym result)
    (output_stops f text e p t old new is read trace front)

-- all was written, and flushed last
pub explains : (f : Firewall) (text : List ℕ) (r : Result (Unit {0}) Fault) (p : PlainPacket) (t : Traced) (old mid new : Option (List ℕ)) →
    IfErr r (λ e. e ≡ faults.Output) → reading packet (words_of text) ≡ Ok p → IsTrace f.config p t →
    Appends old mid (explained_text f p t) → Keeps mid new → IsExplained f text r old new
explains f text (Ok u) p t old mid new is read trace all kept =
    (p, t, read, trace, Appends-kept old mid new (explained_text f p t) all kept)
explains f text (Err e) p t old mid new is read trace all kept =
    output_stops f text e p t old new is read trace (kept_front old mid new (explained_text f p t) all kept)
