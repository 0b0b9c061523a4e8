-- What rulesets give for a packet, as far as it is known, and what references lead to by it.
use Rattle.std.specs.{Prelude.{◌≡◌, T, ℕ, zero, suc, ◌+◌, ◌<◌, ◌==◌, Bool, true, cond, List, [], ◌∷◌, ◌++◌, None, map, filter}, declared.cmp.Ordering.{Ordering}, Ordering.nat_cmp, FinMap.is_sorted}
use Rattle.pf_key.specs.Keys.{pair_order}
use Rattle.pf_addr.specs.declared.path.limits.TheConstants.{DEPTH_LIMIT}
use Rattle.pf_addr.specs.{Path.Paths.path_order, Path.Nested.{depth, is_child}, Path.References.PlainReference}
use Rattle.pf_rule.specs.Packets.{PlainPacket}
use Rattle.pf_anchor.specs.{declared.{evaluated.Evaluated.Evaluated, evaluated.Evaluated.TheVariants.Open}, Matches.PlainMatch, Rulesets.{PlainPlaced, leads_to, targets}, Configurations.PlainConfig, Evaluation.{and_then, in_turn, evaluation, matching}, Answered.{PlainAnswered, AreNamed}}

-- what a ruleset of a configuration gives for a packet
abbrev pub ruleset_gives : PlainConfig → PlainPacket → PlainPlaced → Evaluated PlainMatch
ruleset_gives c packet = evaluation c.rulesets (matching c.tables packet)

-- ---- the order of rulesets: by depth, and at one depth by bytes, so that the children of a path stand together

abbrev pub place_order : ℕ × List ℕ → ℕ × List ℕ → Ordering
place_order = pair_order nat_cmp path_order

abbrev pub place_of : List ℕ → ℕ × List ℕ
place_of p = (depth p, p)

abbrev pub depth_order : List ℕ → List ℕ → Ordering
depth_order p q = place_order (place_of p) (place_of q)

-- the rulesets of one depth
abbrev pub at_depth : ℕ → List PlainPlaced → List PlainPlaced
at_depth d c = filter (λ e. depth e.0 == d) c

-- those of less than a depth
unfoldable pub above_depth : ℕ → List PlainPlaced → List PlainPlaced
above_depth zero c = []
above_depth (suc d) c = above_depth d c ++ at_depth d c

-- rulesets of a map in this order: of each depth that a reference may lead to, the same are there
pub record IsListing (c es : List PlainPlaced) : Type 0 where
  pub sorted : T (is_sorted depth_order es)
  pub each : (test : List ℕ → Bool) (d : ℕ) → d < DEPTH_LIMIT + 2 → ((q : List ℕ) → test q ≡ true → depth q ≡ d) →
      filter (λ e. test e.0) es ≡ filter (λ e. test e.0) c

-- ---- what they give

-- a ruleset, what it gives, and what it and the later children of the same path give in turn
abbrev pub PlainKnown : Type 0
PlainKnown = PlainPlaced × Evaluated PlainMatch × Evaluated PlainMatch

-- the rulesets alone
abbrev pub placed_of : List PlainKnown → List PlainPlaced
placed_of ks = map (λ k. k.0) ks

-- what those whose paths pass a test give, one after the other
abbrev pub given : (List ℕ → Bool) → List PlainKnown → Evaluated PlainMatch
given test [] = Open None
given test (k ∷ ks) = cond (test k.0.0) (and_then k.1 (given test ks)) (given test ks)

-- each gives what it is to give
abbrev pub AreGiven : (PlainPlaced → Evaluated PlainMatch) → List PlainKnown → Type 0
AreGiven f [] = Unit {0}
AreGiven f (k ∷ ks) = (k.1 ≡ f k.0) × AreGiven f ks

-- of each it is known what the children of its path's parent give from it on
abbrev pub AreOnward : List PlainKnown → Type 0
AreOnward [] = Unit {0}
AreOnward (k ∷ ks) = ((p : List ℕ) → is_child p k.0.0 ≡ true → k.2 ≡ given (is_child p) (k ∷ ks)) × AreOnward ks

-- they are in order, and each says what it gives with later ones
pub record AreKept (ks : List PlainKnown) : Type 0 where
  pub sorted : T (is_sorted depth_order (placed_of ks))
  pub onward : AreOnward ks

-- what the rules of the ruleset at p lead to is known: of c, what each reference leads to gives what is known
pub record IsEnough (f : PlainPlaced → Evaluated PlainMatch) (c : List PlainPlaced) (p : List ℕ) (ks : List PlainKnown) : Type 0 where
  pub kept : AreKept ks
  pub each : (r : PlainReference) → given (leads_to p r) ks ≡ in_turn f (targets c p r)

-- all that a packet's evaluation by the rules at p asks for is known of a configuration: what they lead to gives, and what tables say
pub record IsKnownFor (c : PlainConfig) (packet : PlainPacket) (p : List ℕ) (ks : List PlainKnown) (own main : List PlainAnswered) : Type 0 where
  pub rulesets : IsEnough (ruleset_gives c packet) c.rulesets p ks
  pub tables : AreNamed packet c.tables p own main
