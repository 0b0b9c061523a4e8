-- Each entry can be written in bytes, from which it can be read.
use Rattle.std.proofs.{Common.{◌≡◌, refl}}
use Rattle.pf_addr.specs.declared.addr.Family.{Family, TheVariants.V4, TheVariants.V6}
use Rattle.pf_addr.specs.{Address.IsNetwork, NetForms.family, Laws.NetForms.{family_fits, length_fits, address_fits, network_is, network_again}}
use Rattle.pf_form.specs.{Bytes.{Forms.{Fits, length_of}, Codes.below}, Laws.Bytes.Codes.{flag_fits, flag_again}}
use Rattle.pf_table.specs.{Entries.PlainEntry, EntryForms.{entry, plain_entry, entry_of}}

pub entry_fits : (e : PlainEntry) → IsNetwork e.0 → Fits entry (plain_entry e)
unfolding entry
entry_fits e is = ((family_fits e.0.family, (length_fits e.0 is, (flag_fits e.1, address_fits e.0 is))), network_is e.0 is)

pub entry_again : (e : PlainEntry) → entry_of (plain_entry e) ≡ e
entry_again e = rw (network_again e.0, flag_again e.1) refl

pub entry_long : (e : PlainEntry) → length_of entry (plain_entry e) ≡ 20
unfolding entry family below
entry_long e = by e.0.family where
  by : (f : Family) → length_of entry (plain_entry (record { family = f; len = e.0.len; front = e.0.front }, e.1)) ≡ 20
  by V4 = refl
  by V6 = refl
