use Rattle.std.proofs.{Common.{rules, ◌≡◌, ◌≤◌, ◌-◌, ◌<◌, ◌∙◌, ℕ, zero, suc, List, length, map, Option, Some, None, option_map, slice_get, refl, ap, sym, subst, arith}, lemmas.Option.{slice_get-map, slice_get_past, slice_get_read}, lemmas.Grind.common_steps}
use Rattle.std.specs.Arc.{arc_value}
use Rattle.pf_core.specs.Durable.Changes.{PlainChange}
use Rattle.pf_book.specs.Books.{change_in}
use Rattle.pf_book.proofs.OpenedBooks.{log-of}
use Rattle.pf_book.proofs.book.Book.change_at.Goals as goal

there : (log : List PlainChange) (number : ℕ) (r : Option PlainChange) → (number ≡ 0 → ⊥) → slice_get log (number - 1) ≡ r → r ≡ change_in log number
there log zero r some is = absurd (some refl)
there log (suc n) r some is = let e : suc n - 1 ≡ n = omega arith in subst (λ (k : ℕ). r ≡ slice_get log k) e (sym is)

pub returns-in-Some : goal.returns-in-Some
returns-in-Some g c =
    let items = c.self.inside.log.items in
    let i = c.args.number - 1 in
    let lookup = c.in-Some.ensures.lookup in
    let same : c.deref.result.now ≡ items = c.deref.ensures.value in
    let within : i < length c.deref.result.now = grind (arith, common_steps, lookup.0) in
    let read = slice_get_read c.deref.result.now (length c.deref.result.now) i c.in-Some.change.now refl within (search rules) in
    let at : slice_get (map arc_value items) i ≡ Some c.deref-in-Some.result.now =
    slice_get-map arc_value items i ∙ ap (option_map arc_value) (ap (λ xs. slice_get xs i) (sym same) ∙ read) ∙ ap Some (sym c.deref-in-Some.ensures) in
    there (map arc_value items) c.args.number (Some c.deref-in-Some.result.now) c.if-number-eq0.false at
    ∙ ap (λ (l : List PlainChange). change_in l c.args.number) (sym (log-of c.self.invariant c.self.view_is))

pub returns-in-None : goal.returns-in-None
returns-in-None g c =
    let log : List PlainChange = map arc_value c.self.inside.log.items in
    let counted : length c.deref.result.now ≡ length log = grind (arith, common_steps, c.deref.ensures.value) in
    let short : length log ≤ c.args.number - 1 = grind (arith, common_steps, c.in-None.ensures.lookup.0, counted) in
    there log c.args.number None c.if-number-eq0.false (slice_get_past log (c.args.number - 1) short)
    ∙ ap (λ (l : List PlainChange). change_in l c.args.number) (sym (log-of c.self.invariant c.self.view_is))
