-- `lend` lends what is held, and the configuration follows it.
use Rattle.std.proofs.Common.{◌≡◌, ℕ, List, [], ◌∷◌, IsSome, refl}
use seplogic.Ra.Ura.{Ura}
use base.Fraction.{full_share}
use mir.Syntax.{named}
use mir.Raw.{raw as bare}
use mir.Val.{Val, vptr}
use base.Logic.{ent, sep, id⊢}
use base.Fml.{GName, Fml, ftrue, fsep, flft}
use types.Logic.{Logic, sem}
use types.Kit.{‵, raw, ◌⊛◌, some, later, at_ret, ◌$◌, ◌∵◌, !, qed, move, keep, drop, split, split3, join, group, pick, rewrite, fsplit, fsplit3, fjoin, fpack, suffices, frame, use1, await, done}
use types.Run.{stop, fld, addr, load, of_opd, first, blocks, exec, returns, enter}
use types.ByLocal.{alloc_all, pass_all, free_all, look_at, get, through, sets, sets_last, env}
use types.Part.{whole, sub, look_in}
use contract.Monad.{fact}
use contract.Running.{tables}
use denote.Exit.{no}
use denote.Follow.{follows, Part, lends_Part}
use denote.Memory.{part_at, part_of, mem, cell_at}
use denote.RattleType.{RattleType, owns}
use denote.RawPtr.{block_ptr}
use denote.Ref.{MutBor, MutRef, mut_vals, mut_Tells}
use denote.Signature.{plain, mut_ref_to}
use denote.Steps.{nothing, heard, opens}
use denote.Triple.Walked.{says, Stays, stay_dropped, Goes-spent_ref, walk_of, ends_at}
use Rattle.std.proofs.raw_atomic.Walks.{proved}
use Rattle.std.proofs.VecSteps.Shapes.{after}
use Rattle.std.specs.Box.Ownership.{box_owns}
use Rattle.std.specs.contracts.impls.GlobalAllocator.TheImpl.{ghosts}
use Rattle.wirdalf_c.specs.Owned.{heap}
use Rattle.wirdalf_c.specs.Lending.{with_held}
use Rattle.pf_core.specs.Durable.Changes.{PlainDurable}
use Rattle.wirdalf_c.specs.contracts.holding.Holding as holding
use Rattle.wirdalf_c.specs.declared.configuration.Configuration.{Configuration}
use Rattle.wirdalf_c.specs.contracts.configuration.Configuration as configuration
use Rattle.wirdalf_c.proofs.Configurations.{word, some_of, held_out, held_in}
use Rattle.wirdalf_c.specs.contracts.configuration.Configuration.lend.{ended, clauses}
use Rattle.wirdalf_c.specs.contracts.configuration.Configuration.lend.Key.{name as #self}
use Rattle.wirdalf_c.proofs.configuration.Configuration.lend.Statement.{statement}
use Rattle.wirdalf_c.proofs.configuration.Configuration.lend.Code as code

abbrev stayed : Stays ended.signature.params ended.kept
stayed = (stay_dropped (mut_ref_to (0 ∷ []) tt (plain (λ _. configuration.the_row))) no, tt)

module _ {M : Type 1} {𝓤 : Ura M} (𝓛 : Logic 𝓤) (h : Configuration) (b o rb ro : ℕ) where
  -- all of the configuration but what it holds
  abbrev Rest : Fml
  Rest = fsep (ghosts.dealloc_token heap (bare (denote.Memory.lone (holding.the_row).mir)) (block_ptr b o)) (cell_at full_share (configuration.the_row).mir (word b o ∷ []) rb ro)

  back : h.at ≡ block_ptr b o → (w : PlainDurable) → ent 𝓤 (sep 𝓤 (sem 𝓛 ((mem holding.the_row).own_at w b o)) (sem 𝓛 Rest)) (sem 𝓛 ((mem configuration.the_row).own_at (with_held h w) rb ro))
  unfolding part_of
  back at_b w =
      qed 𝓛 (‵ (part_at holding.the_row full_share w b o) ∷ ‵ Rest ∷ []) ∵ move ! (1 ∷ []) $ fsplit ! $ move ! (2 ∷ 0 ∷ []) $ fjoin ! $
      use1 𝓛 (‵ (box_owns (ghosts.dealloc_token heap) holding.the_row (block_ptr b o) w)) (id⊢ 𝓤 _) $
      held_in ! (with_held h w) w b o at_b refl $ move ! (1 ∷ 0 ∷ []) $ fjoin ! $
      fpack ! (List Val) (λ us. fsep (cell_at full_share (configuration.the_row).mir us rb ro) ((configuration.the_row).own_val (with_held h w) us)) (word b o ∷ []) $ done !

pub lend_spec : {M : Type 1} → statement M
lend_spec 𝓤 𝓛 𝓜 𝓡 wired =
    let H = 𝓛.H in let 𝓣 = tables 𝓤 H 𝓜 𝓡 𝓡.env in let c = clauses 𝓛 𝓜.mem 𝓡.returns in let R = holding.the_row in let Ha : RattleType = configuration.the_row in
    let fn = code.function in
    proved 𝓛 ended stayed c 𝓜 𝓡 (Goes-spent_ref 𝓛 1 (0 ∷ []) tt (plain (λ _. Ha)), tt) #self fn (code.unfolded 𝓤 H 𝓜 𝓡 wired) (λ κs. (mut_vals, tt)) (λ κs. (mut_Tells (named 0) κs.0 Ha, tt)) (λ κs qs bounds a g are.
    let κ = κs.0 in let q = qs.0 in let self = a.0 in let h = self.now in let γ = self.ghost_name in let rb = self.ref_ptr.0 in let ro = self.ref_ptr.1 in let vs = mut_vals self in
    let W = walk_of 𝓛 ended stayed c in let y : W.Ghost = ((κs, qs, bounds, a, (vs, tt)), tt) in let Post = W.post y in
    qed 𝓛 (((‵ (flft κ q) ⊛ ‵ ftrue) ⊛ ‵ (owns (MutRef (named 0) κ Ha ∷ []) (self, tt) (vs, tt))) ∷ raw (fact 𝓤 (IsSome h.held)) ∷ []) ∵
    move ! (1 ∷ []) $ heard ! (IsSome h.held) (λ is. let got = some_of h.held is in let x = got.0 in
    enter ! 𝓣.C 𝓣.Λ fn vs _ $ alloc_all ! (λ l. pass_all ! refl ((tt, tt), tt) $ let En = env fn.locals l in
    split ! $ split ! $ move ! (2 ∷ []) $ fsplit ! $ fsplit3 ! $ drop ! $ move ! (0 ∷ 1 ∷ 3 ∷ []) $
    opens ! tt Ha {h = h} rb ro (λ us. move ! (1 ∷ []) $ held_out ! h x got.1 us (λ b o e ws. fsplit ! $
    rewrite ! 2 (λ (ks : List Val). ‵ (cell_at full_share Ha.mir ks rb ro)) ws refl $
    -- [the value; the right to free it; the configuration's cell; the open borrow, in three entries]
    first ! $ blocks ! $
    sets ! (of_opd ! (load ! (through ! refl (fld ! refl (stop !))) (look_in ! 2 (sub ! 0 refl (whole !))))) refl (tt, tt) $
    sets ! (of_opd ! (get ! refl)) refl (tt, tt) $
    sets_last ! (addr ! (through ! refl (stop !))) refl (tt, tt) $
    exec ! 𝓣.C 𝓣.Λ En (after 1 fn.body) (at_ret En Post) $
    sets ! (of_opd ! (get ! refl)) refl (tt, tt) $
    move ! (1 ∷ 2 ∷ []) $ fjoin ! $ move ! (2 ∷ 3 ∷ 4 ∷ 1 ∷ 0 ∷ []) $ group ! 5 $
    use1 𝓛 (later (some (λ (γ' : GName). raw (Part 𝓛 Ha R (with_held h) (named 0) κ q rb ro b o γ (sem 𝓛 (Rest 𝓛 h b o rb ro)) (back 𝓛 h b o rb ro e) x γ'))))
    (lends_Part 𝓛 Ha R (with_held h) (named 0) κ q rb ro b o γ (sem 𝓛 (Rest 𝓛 h b o rb ro)) (back 𝓛 h b o rb ro e) (Ha.coded.code h) (Ha.coded.code h) x) $ await ! tt $ pick ! (λ γ'.
    returns ! (look_at ! 0 refl) $ free_all ! refl $ keep ! (0 ∷ []) $
    let r : MutBor PlainDurable = record { ref_ptr = (b, o); ghost_name = γ'; now = x } in
    use1 𝓛 (‵ ((MutRef (named 0) κ R).own_val r (vptr b o ∷ [])) ⊛ ‵ (flft κ q) ⊛ ‵ (follows Ha R γ γ' (with_held h))) (id⊢ 𝓤 _) $ split3 ! $
    suffices ! _ (ends_at 𝓛 ended stayed c y (vptr b o) r (tt, tt) (tt, tt)) $
    nothing ! $ nothing ! $ fjoin ! $ join ! $ nothing ! $ move ! (2 ∷ 0 ∷ []) $ join ! $ join ! $ frame ! $ says ! got.1 $ done !))))))
