-- The lines of a file, where interfaces have these addresses.
use Rattle.std.specs.Prelude.{Bool, List, [], ◌∷◌, Option, Some, None, Result, Ok, Err}
use Rattle.pf_form.specs.Form.Forms.{◌>>=◌}
use Rattle.pf_tokens.specs.declared.token.Token.{Token}
use Rattle.pf_values.specs.declared.interfaces.interface.Interface.{Interface}
use Rattle.pf_values.specs.Interfaces.Addresses.{with_addresses, antispoof_in}
use Rattle.pf_parse.specs.declared.{fault.Stop.Stop, parser.Mode.Mode, statements.Parsed.Parsed}
use Rattle.pf_parse.specs.declared.fault.Reason.TheVariants as reasons
use Rattle.pf_parse.specs.{Reading.refused_at, Lines.parsed}

abbrev pub spoof_refused : Option Token → Result (Unit {0}) Stop
spoof_refused None = Ok tt
spoof_refused (Some t) = Err (refused_at reasons.NegatedInterface t)

-- The first rule of `antispoof` (pf.conf(5), ANTISPOOF) is for all interfaces but one, also where the addresses are known.
abbrev pub spoof_checked : List Interface → List Token → Result (Unit {0}) Stop
spoof_checked [] ts = Ok tt
spoof_checked (i ∷ is) ts = spoof_refused (antispoof_in ts)

unfoldable pub parsed_with : List Interface → List Token → Mode → Bool → Result Parsed Stop
parsed_with is ts mode is_main = spoof_checked is ts >>= λ _. parsed (with_addresses is ts) mode is_main
