-- When what is kept has bytes, and which bytes are its snapshot in a version. Their form is `durable_form` of pf_core.
use Rattle.std.specs.Prelude.{◌≡◌, ℕ, ◌&&◌, Bool, false, List, [], ◌∷◌, ◌++◌, replicate, codes, if◌then◌else◌}
use Rattle.pf_addr.specs.declared.addr.Family.TheVariants.{V4}
use Rattle.pf_form.specs.Bytes.Forms.{Spells}
use Rattle.pf_anchor.specs.{declared.limits.TheConstants.{RULESET_LIMIT, TABLE_COUNT_LIMIT}, Tables.placed_table, Forms.{at_most, configured}}
use Rattle.pf_state.specs.Layouts.States.{has_expiry}
use Rattle.pf_core.specs.Durable.{Changes.{PlainDurable, kept_nothing}, Forms.{allows, durable_form, plain_durable, durable_in}}

-- What is kept has bytes if it has no more rulesets and tables than allowed. Its types guarantee all else that the form requires.
abbrev pub durable_has_form : PlainDurable → Bool
durable_has_form d = at_most RULESET_LIMIT d.config.rulesets && at_most TABLE_COUNT_LIMIT d.config.tables

-- Whether it has bytes in a version: that version allows it too.
abbrev pub durable_has_form_in : ℕ → PlainDurable → Bool
durable_has_form_in version d = durable_has_form d && allows version d

-- These bytes are the snapshot of what is kept, in a version: its data spell them, and determine it.
pub record IsDurable (version : ℕ) (d : PlainDurable) (bytes : List ℕ) : Type 0 where
  pub spelled : Spells (durable_form version) (plain_durable d) bytes
  pub read_back : d ≡ durable_in (plain_durable d)

-- ---- an example

-- main's table `t` of 10.0.0.0/8, with epoch 0
abbrev pub example_kept : PlainDurable
example_kept = record (kept_nothing 0) { config = configured [] (placed_table [] (codes "t") ((record { family = V4; len = 8; front = 10 }, false) ∷ []) ∷ []) }

-- the numbers of rulesets and tables; the table's path, its name, the number of its entries and the entry; then the number of states
abbrev pub example_rest : List ℕ
example_rest = 0 ∷ 0 ∷ 0 ∷ 0 ∷ 0 ∷ 0 ∷ 0 ∷ 1 ∷ 0 ∷ 1 ∷ 116 ∷ 0 ∷ 0 ∷ 0 ∷ 1 ∷ 4 ∷ 8 ∷ 0 ∷ 0 ∷ 10 ∷ 0 ∷ 0 ∷ 0 ∷ replicate 16 0

-- behind the epoch, and behind the tick where there is one
abbrev pub example_bytes : ℕ → List ℕ
example_bytes version = replicate 4 0 ++ (replicate (if has_expiry version then 8 else 0) 0 ++ example_rest)
