-- How the bytes of a group and of a snapshot begin.
use Rattle.std.proofs.{Common.{◌≡◌, ◌++◌, ◌∷◌, ◌+◌, ◌≤◌, ◌==◌, ◌&&◌, not, ℕ, Bool, true, false, List, length, Ok, true≢false, refl, sym, ap, ◌∙◌, subst, arith}, lemmas.Bool.Decides.nat_tests}
use Rattle.std.specs.{Prelude.{nat_le, if◌then◌else◌}, List.flat_map}
use Rattle.pf_form.specs.{Bytes.Forms.{list, Value, Spells, length_of, writes}, Laws.Bytes.Lengths.length_is, declared.bytes.fault.Undecoded.{Undecoded, TheVariants.{Memory, Fault}}}
use Rattle.pf_form.specs.Bytes.Readers.{Fails}
use Rattle.pf_anchor.specs.Forms.{rulesets_form, kept_tables_form}
use Rattle.pf_state.specs.Layouts.States.{has_expiry}
use Rattle.pf_core.specs.Durable.Forms.{DurableShape, durable_form, tick_form}
use Rattle.pf_table.proofs.Written.{one_byte}
use Rattle.pf_store.specs.{Groups.{ChangeShape, begins_group, change_form, group_form}, Snapshots.{has_least, zeros_of}}

-- bytes that some data spell were refused for want of memory, and only if they begin as they have to
pub none_unread : {Y : Type 0} (fault : Undecoded) (y : Y) (begins : Bool) → Fails fault (Ok y) → (fault ≡ Memory → begins ≡ false) → begins ≡ true → ⊥
none_unread Memory y begins fails none is = true≢false (sym is ∙ none refl)
none_unread (Fault f) y begins fails none is = cc (fails)

-- a group's begin with its number
pub group_begins : (version : ℕ) (v : Value (list ChangeShape)) (bytes : List ℕ) → Spells (group_form version) v bytes → begins_group bytes ≡ true
unfolding group_form
group_begins version v bytes is =
    let rest = flat_map (writes (change_form version)) v in
    let first : bytes ≡ length v ∷ rest = is.written ∙ ap (λ (l : List ℕ). l ++ rest) (one_byte (length v) is.fits.0.0) in
    subst (λ (l : List ℕ). begins_group l ≡ true) (sym first) (grind (arith, nat_tests, is.fits.1))

-- a snapshot's are as many as that of nothing has
tick_least : (has : Bool) (tick : ℕ) → length_of (tick_form has) tick + 12 ≡ (if has then 20 else 12)
unfolding tick_form
tick_least true tick = refl
tick_least false tick = refl

least : (version : ℕ) (v : Value DurableShape) → 4 + zeros_of version ≤ length_of (durable_form version) v
unfolding durable_form rulesets_form kept_tables_form
least version v = omega (arith, tick_least (has_expiry version) v.1.0)

pub snapshot_least : (version : ℕ) (v : Value DurableShape) (bytes : List ℕ) → Spells (durable_form version) v bytes → has_least version bytes ≡ true
snapshot_least version v bytes is =
    let enough : 4 + zeros_of version ≤ length bytes = omega (arith, least version v, ap length is.written, length_is (durable_form version) v) in
    grind (arith, nat_tests, enough)
