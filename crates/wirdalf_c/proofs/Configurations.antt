-- A configuration by value is its pointer and what the pointer owns. Assumes `Logic`.
use Rattle.std.proofs.Common.{◌≡◌, ℕ, List, [], ◌∷◌, ◌++◌, Option, Some, None, IsSome, refl, sym, ap, subst}
use mir.Raw.{raw as bare}
use mir.Val.{Val, vptr, vstruct, vcons, vnil, of_list}
use seplogic.Ra.Ura.{Ura}
use base.Logic.{never, fst∗}
use types.Logic.{Logic, sem}
use types.Kit.{Item, Goal, Seq, Step, step, ‵, ◌$◌, drop, fsplit, fjoin, fpick, fpack, rewrite, feq_i, feq_l}
use denote.RattleType.{Valss}
use denote.Builtin.{RawPtr}
use denote.Memory.{lone}
use denote.RawPtr.{Ptr, block_ptr, null_ptr, ptr_val, in_a_block}
use denote.Steps.{nothing}
use denote.Struct.Struct.{within}
use denote.Struct.Owning.{shape}
use Rattle.std.specs.Box.Ownership.{box_owns}
use Rattle.std.specs.contracts.impls.GlobalAllocator.TheImpl.{ghosts}
use Rattle.wirdalf_c.specs.Owned.{heap, holds}
use Rattle.pf_core.specs.Durable.Changes.{PlainDurable}
use Rattle.wirdalf_c.specs.contracts.holding.Holding as holding
use Rattle.wirdalf_c.specs.declared.configuration.Configuration.{Configuration}
use Rattle.wirdalf_c.specs.contracts.configuration.Configuration as configuration

abbrev pub word : ℕ → ℕ → Val
word b o = vstruct (vcons (vptr b o) vnil)

pub some_of : {X : Type 0} (o : Option X) → IsSome o → (x : X) × (o ≡ Some x)
some_of None h = cc
some_of (Some x) h = (x, refl)

module _ {M : Type 1} {𝓤 : Ura M} {𝓛 : Logic 𝓤} {K : Type 0} {Γ : List (Item 𝓤)} {G : Goal 𝓤 𝓛.H} where
  pub held_out : K → (h : Configuration) (x : PlainDurable) → h.held ≡ Some x → (vs : List Val)
      → ((b o : ℕ) → h.at ≡ block_ptr b o → vs ≡ word b o ∷ [] → Seq K 𝓛 (‵ (box_owns (ghosts.dealloc_token heap) holding.the_row (block_ptr b o) x) ∷ Γ) G)
      → Seq K 𝓛 (‵ ((configuration.the_row).own_val h vs) ∷ Γ) G
  held_out t h x held vs k =
      fsplit t $ fpick t (λ vss. fsplit t $ feq_l t (λ ev. fsplit t $ feq_l t (λ ep. drop t $
      rewrite t 0 (λ (o : Option PlainDurable). ‵ (holds h.at o)) held refl $
      in_a_block t h.at (λ p. box_owns (ghosts.dealloc_token heap) holding.the_row p x) (fst∗ 𝓤 (never 𝓤) (sem 𝓛 (ghosts.dealloc_token heap (bare (lone (holding.the_row).mir)) null_ptr))) (λ b o e. k b o e
      (subst (λ (p : Ptr). vs ≡ vstruct (of_list (ptr_val p ∷ [])) ∷ []) e (subst (λ (ps : List Val). vs ≡ vstruct (of_list (ps ++ [])) ∷ []) ep ev))))))

  pub held_in : K → (h : Configuration) (x : PlainDurable) (b o : ℕ) → h.at ≡ block_ptr b o → h.held ≡ Some x
      → Step K 𝓛 (‵ ((configuration.the_row).own_val h (word b o ∷ [])) ∷ Γ) G (‵ (box_owns (ghosts.dealloc_token heap) holding.the_row (block_ptr b o) x) ∷ Γ) G
  held_in t h x b o e held = step (λ s.
      rewrite t 0 (λ (p : Ptr). ‵ (box_owns (ghosts.dealloc_token heap) holding.the_row p x)) (sym e) refl $ rewrite t 0 (λ (o : Option PlainDurable). ‵ (holds h.at o)) (sym held) refl $
      nothing t $ feq_i t (List Val) (vptr b o ∷ []) (ptr_val h.at ∷ []) (ap (λ (p : Ptr). ptr_val p ∷ []) (sym e)) $ fjoin t $ feq_i t (List Val) (word b o ∷ []) (word b o ∷ []) refl $ fjoin t $
      fpack t (Valss (RawPtr ∷ [])) (within (shape configuration.the_type) (h.at, tt) (word b o ∷ [])) (vptr b o ∷ [], tt) $ fjoin t $ s)

-- what is lent and not written leaves its configuration as it was
pub handed_back : (h : Configuration) (x : PlainDurable) → h.held ≡ Some x → record h { held = Some x } ≡ h
handed_back h x e = ap (λ (o : Option PlainDurable). record h { held = o }) (sym e)
