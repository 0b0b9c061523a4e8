-- What words spell has what every host and every end maintains.
use Rattle.std.proofs.Common.{◌≡◌, Bool, true, false, List, Ok, arith}
use Rattle.std.specs.Prelude.{drop, codes, if◌then◌else◌}
use Rattle.pf_addr.specs.Laws.Spelling.{IsNetwork-spelled}
use Rattle.pf_form.specs.Form.{Words.Word, Forms.Spells}
use Rattle.pf_rule.specs.{Value.Values.begins_with, Host.Hosts.{IsHost, SpellsUnmarked, marked, a_negated_host, host_of, a_host, host}, Laws.Host.Hosts.marked_found, Host.Ends.{End, IsEnd, end, destination, ends}}
use Rattle.pf_rule.proofs.ValueKept.{port_is}
use Rattle.pf_rule.specs.declared.{host.host.Host.Host, host.host.Host.TheVariants.{Any, Net, Table}}

spelled_is : (w : Word) (h : Host) → SpellsUnmarked w h → IsHost h
spelled_is w Any is = absurd is
spelled_is w (Net n negated) is = IsNetwork-spelled w n is
spelled_is w (Table name negated) is = is.0

marked_kept : (negated : Bool) (w : Word) (h : Host) → marked negated w ≡ Ok h → IsHost h
marked_kept negated w h e = spelled_is w h (marked_found negated w h e).1

host_kept : (w : Word) (h : Host) → host_of w ≡ Ok h → IsHost h
host_kept w h e = by (begins_with (codes "!") w) e where
  by : (t : Bool) → (if t then marked true (drop 1 w) else marked false w) ≡ Ok h → IsHost h
  by true e = marked_kept true (drop 1 w) h e
  by false e = marked_kept false w h e

negated_is : (h : Host) (ws : List Word) → Spells a_negated_host h ws → IsHost h
unfolding a_negated_host
negated_is h ws (w, read, e) = marked_kept true w h read

a_host_is : (h : Host) (ws : List Word) → Spells a_host h ws → IsHost h
unfolding a_host
a_host_is h ws (w, read, e) = host_kept w h read

host_is : (h : Host) (ws : List Word) → Spells host h ws → IsHost h
unfolding host
host_is h ws s = grind (arith, negated_is, a_host_is)

end_is : (e : End) (ws : List Word) → Spells end e ws → IsEnd e
unfolding end
end_is e ws s = grind (arith, host_is, port_is)

destination_is : (e : End) (ws : List Word) → Spells destination e ws → IsEnd e
unfolding destination
destination_is e ws s = grind (arith, end_is)

pub ends_are : (h : End × End) (ws : List Word) → Spells ends h ws → IsEnd h.0 × IsEnd h.1
unfolding ends
ends_are h ws s = grind (arith, end_is, destination_is)
