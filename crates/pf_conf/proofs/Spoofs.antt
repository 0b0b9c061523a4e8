-- `antispoof`, refused.
use Rattle.std.proofs.Common.{◌≡◌, List, Option, Some, Result, Ok, Err, sym, ap, subst}
use Rattle.pf_tokens.specs.declared.token.Token.{Token}
use Rattle.pf_tokens.specs.Places.{text_of}
use Rattle.pf_parse.specs.declared.fault.Stop.{Stop}
use Rattle.pf_parse.specs.declared.fault.Mistake.TheVariants as mistakes
use Rattle.pf_parse.specs.declared.fault.Reason.TheVariants as reasons
use Rattle.pf_parse.specs.{Stops.{fault_at, Gives}, Reading.{Word, refused_at}}
use Rattle.pf_conf.specs.Lines.{spoof_refused}

pub spoof_reported : (t : Token) (o : Option Token) (e : Stop) (w : Word) → o ≡ Some t → w ≡ text_of t.text
    → e ≡ fault_at t.place (mistakes.Refused w reasons.NegatedInterface) → Gives {A = Unit {0}} (Err e) (spoof_refused o)
unfolding refused_at
spoof_reported t o e w found text is =
    subst (λ (x : Stop). Gives {A = Unit {0}} (Err x) (spoof_refused o)) (sym is)
    (subst (λ (p : Option Token). Gives {A = Unit {0}} (Err (fault_at t.place (mistakes.Refused w reasons.NegatedInterface)))
    (spoof_refused p)) (sym found)
    (ap (λ (v : Word). Err (fault_at t.place (mistakes.Refused v reasons.NegatedInterface))) (sym text)))
