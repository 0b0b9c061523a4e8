use Rattle.std.proofs.Common.{◌∙◌, sym, ap}
use Rattle.std.specs.Option.{option_map}
use Rattle.pf_conf.proofs.Spoofs.{spoof_reported}
use Rattle.pf_conf.proofs.lines.check_spoof.Goals as goal

pub returns : goal.returns
returns c =
    spoof_reported c.in-Some.token.now _ c.refusal.result c.in_ok-word.word
    (sym c.antispoof_in.ensures ∙ ap (option_map (λ t. t.now)) c.in-Some.is) c.in_ok-word.ensures c.refusal.ensures
