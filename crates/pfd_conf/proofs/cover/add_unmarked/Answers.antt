use Rattle.std.proofs.Common.{◌≡◌, ◌++◌, ◌∙◌, [], ◌∷◌, Bool, true, false, Option, sym, ap, arith, rules}
use Rattle.std.proofs.lemmas.Option.{unwrap_or-slice_get}
use Rattle.std.specs.{Prelude.unwrap_or, List.slice_get}
use Rattle.pfd_conf.specs.Covering.{unless_marked}
use Rattle.pfd_conf.proofs.Covered.{one_more_rule, kept_rule, anchor_rule, marked_rule}
use Rattle.pfd_conf.proofs.cover.add_unmarked.Goals.{then-is_deciding+then-not-is_marked+in_ok-push, else-is_deciding, else-is_deciding-via-then-is_deciding+else-not-is_marked, else-is_deciding-via-else-is_deciding}
use Rattle.pfd_conf.proofs.cover.add_unmarked.Goals as goal

pub loop-number-preserved : goal.loop-number-preserved
loop-number-preserved c =
    let within = c.args.within in
    let i = c.loop-number.number in
    let rule = c.index-rules-number.result in
    let old = c.loop-number.unmarked in
    let now = c.if-is_deciding.unmarked in
    let m : c.unwrap_or-is_marked.result ≡ unwrap_or (slice_get c.args.marks.now c.loop-number.number) false =
    c.unwrap_or-is_marked.ensures ∙ ap (λ (o : Option Bool). unwrap_or o false) c.copied.ensures ∙ c.get.ensures.lookup.4 (omega arith)
    false
    ∙ sym (unwrap_or-slice_get c.args.marks.now c.loop-number.number false) in
    let one : c.if-is_deciding.unmarked ≡ c.loop-number.unmarked ++ unless_marked c.args.within c.loop-number.number
    (unwrap_or (slice_get c.args.marks.now c.loop-number.number) false) c.index-rules-number.result.is =
    elim c.if-is_deciding.branch [
      | then-is_deciding+then-not-is_marked+in_ok-push w ↦
          (let unset : c.unwrap_or-is_marked.result ≡ false = search rules in
          let pushed : c.if-is_deciding.unmarked ≡ c.loop-number.unmarked ++ record
          { within = c.args.within; number = c.loop-number.number } ∷ [] = rw w.unmarked-is w.in_ok-push.ensures.ok in
          kept_rule within i _ c.unwrap_or-is_marked.result c.is_deciding.result rule.is old now m c.is_deciding.ensures
          w.if-is_deciding.true unset pushed)
      | else-is_deciding w ↦ elim w.else-is_deciding.branch [
        | else-is_deciding-via-then-is_deciding+else-not-is_marked v ↦
            (let marked : c.unwrap_or-is_marked.result ≡ true = search rules in
            marked_rule within i _ c.unwrap_or-is_marked.result c.is_deciding.result rule.is old now m c.is_deciding.ensures
            v.if-is_deciding.true marked w.unmarked-is)
        | else-is_deciding-via-else-is_deciding v ↦
            anchor_rule within i _ c.is_deciding.result rule.is old now c.is_deciding.ensures v.if-is_deciding.false w.unmarked-is
      ]
    ] in
    one_more_rule within c.args.marks.now c.args.rules.now i rule _ old now c.loop-number.invariant c.loop-number-test.true
    c.index-rules-number.is one
