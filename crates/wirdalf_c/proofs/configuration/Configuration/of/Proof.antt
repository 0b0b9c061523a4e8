-- `of` keeps the pointer, and what it owns.
use Rattle.std.proofs.Common.{◌≡◌, List, [], ◌∷◌, ◌++◌, Some, refl, sym, subst}
use mir.Val.{Val, vptr}
use base.Logic.{SProp, ent, emp, id⊢}
use base.Fml.{ftrue}
use prog.Wp.{WpFn}
use types.Kit.{‵, raw, ◌⊛◌, ◌$◌, ◌∵◌, !, qed, by, move, keep, split, fsplit, fjoin, suffices, use0}
use types.Run.{stop, fld, of_opd, no_more, and_then, returns, enter}
use types.ByLocal.{alloc_all, pass_all, free_all, look_at, get, get_in, sets}
use types.Part.{agg, sub, whole}
use contract.Monad.{fact, fact_i}
use contract.Running.{tables}
use denote.Exit.{yes}
use denote.RattleType.{RattleType, owns}
use denote.Signature.{types_at, plain}
use denote.RawPtr.{block_ptr}
use denote.Steps.{nothing}
use denote.Triple.Walked.{Stays, stay_dropped, Goes-dropped, walk_of}
use Rattle.std.proofs.raw_atomic.Walks.{proved_at, leaves}
use Rattle.std.specs.contracts.alloc.Global as global
use Rattle.std.specs.contracts.impls.GlobalAllocator.TheImpl.{ghosts}
use Rattle.std.proofs.alloc.Global.TheLaws.{the_row_laws as global_laws}
use Rattle.wirdalf_c.specs.contracts.holding.Holding as holding
use Rattle.wirdalf_c.proofs.Values.{both, Loose, loose_good, loose_out}
use Rattle.wirdalf_c.specs.declared.configuration.Configuration.{Configuration}
use Rattle.wirdalf_c.proofs.Configurations.{word, held_in}
use Rattle.wirdalf_c.specs.contracts.configuration.Configuration.of.{ended, clauses}
use Rattle.wirdalf_c.specs.contracts.configuration.Configuration.of.Key.{name as #self}
use Rattle.wirdalf_c.proofs.configuration.Configuration.of.Statement.{statement}
use Rattle.wirdalf_c.proofs.configuration.Configuration.of.Code as code

pub of_spec : {M : Type 1} → statement M
of_spec 𝓤 𝓛 𝓜 𝓡 wired =
    let H = 𝓛.H in let 𝓣 = tables 𝓤 H 𝓜 𝓡 𝓡.env in let c = clauses 𝓛 𝓜.mem 𝓡.returns in let R = holding.the_row in let Z = global.the_row in
    let fn = code.function in let Lo : RattleType = Loose R Z global_laws ghosts in
    let hs : Stays ended.signature.params ended.kept = (stay_dropped (plain (λ _. Lo)) yes, tt) in
    proved_at 𝓛 ended hs c 𝓜 𝓡 (Goes-dropped 𝓛 0 (plain (λ _. Lo)) yes (λ κs x f. refl), tt) #self fn (code.unfolded 𝓤 H 𝓜 𝓡 wired) (λ z are.
    let v = z.0.3.0 in let Post : Val → SProp 𝓤 = (walk_of 𝓛 ended hs c).post z in let Run : List Val → SProp 𝓤 = λ ws. WpFn 𝓤 H 𝓣.C 𝓣.Λ fn ws Post in
    qed 𝓛 ((‵ ftrue ⊛ ‵ (owns (types_at ended.signature.params tt) z.0.3 z.0.4)) ∷ raw ((c tt z.0.3).requires tt) ∷ []) ∵ split ! $ move ! (1 ∷ []) $ fsplit ! $
    loose_out R Z global_laws ghosts ! v z.0.4.0 (λ b o h e ws fits.
    let w : Val = both (vptr b o) h in let new : Configuration = record { at = block_ptr b o; held = Some v.value } in
    suffices ! (Run (w ∷ [])) (subst (λ (us : List Val). ent 𝓤 (Run (w ∷ [])) (Run us)) (sym (λ i. ws i ++ [])) (id⊢ 𝓤 (Run (w ∷ [])))) $
    keep ! (0 ∷ []) $
    enter ! 𝓣.C 𝓣.Λ fn (w ∷ []) Post $ alloc_all ! (λ l. pass_all ! refl (loose_good R Z global_laws ghosts b o h fits, tt) $
    sets ! (of_opd ! (get_in ! (fld ! refl (stop !)) (sub ! 0 refl (whole !)))) refl (tt, tt) $
    sets ! (of_opd ! (get ! refl)) refl (tt, tt) $
    sets ! (agg ! (and_then ! (get ! refl) (no_more !))) refl (tt, (tt, tt)) $
    held_in ! new v.value b o refl refl $
    use0 𝓛 (raw (fact 𝓤 (Some v.value ≡ Some v.value))) (fact_i 𝓤 (Some v.value ≡ Some v.value) (emp 𝓤) refl) $ nothing ! $ nothing ! $ fjoin ! $ nothing ! $
    returns ! (look_at ! 0 refl) $ free_all ! refl $ move ! (0 ∷ 1 ∷ 3 ∷ 2 ∷ []) $ by ! (leaves 𝓛 ended hs c z (word b o) new (tt, tt) (tt, tt)))))
